use Rattle.std.proofs.Common.{length, drop, ◌∙◌, ap, arith, rules}
use Rattle.std.proofs.lemmas.List.{take_at}
use Rattle.ic_disk.specs.Content.{laid}
use Rattle.ic_disk.proofs.ContentLemmas.{laid-filled_to}
use Rattle.ic_disk.proofs.bytes.lay.Goals as goal

pub returns-clause-ok : goal.returns-clause-ok
returns-clause-ok c =
    let there = c.fill_to.new.content in
    take_at c.overwrite.new.content (drop (length c.overwrite.new.content) there.items) there.len (omega arith)
    ∙ c.overwrite.ensures
    ∙ ap (laid c.args.at c.args.bytes.now) (c.deref_mut.ensures.value ∙ c.in_ok-fill_to.ensures.ok)
    ∙ laid-filled_to c.args.at c.in_ok-end.end c.args.bytes.now c.args.content.now.items (search rules)
