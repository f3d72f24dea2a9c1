use Rattle.std.proofs.Common.{◌≡◌, ◌+◌, ◌-◌, drop, ap, ◌∙◌, arith, length-take, length-drop}
use Rattle.std.specs.Prelude.{replicate}
use Rattle.ic_disk.proofs.ContentLemmas.{put_mid-replicated}
use Rattle.ic_disk.proofs.bytes.fill_range.Goals as goal

pub returns : goal.returns
returns c =
    let rest = drop c.args.at c.args.content.now in
    let filled : c.fill.new.self ≡ replicate c.args.n c.args.byte =
    c.fill.ensures.after (λ y is. is)
    ∙ ap (λ n. replicate n c.args.byte) (omega (arith, length-take (c.args.at + c.args.n - c.args.at) rest, length-drop c.args.at c.args.content.now)) in
    rw filled (put_mid-replicated c.args.at c.args.n c.args.byte c.args.content.now c.requires)
