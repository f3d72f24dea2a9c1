use Rattle.std.proofs.Common.{◌≡◌, sym, ap, subst, ◌∙◌, min, ◌-◌, ◌^◌}
use Rattle.ic_term.specs.ConfigFault.{Answers}
use Rattle.ic_term.specs.Configuration.{one_above, names_in}
use Rattle.ic_flat.specs.Flat.{configuration_of}
use Rattle.ic_flat.specs.lemmas.FlatLaws.{names-configuration_of}
use Rattle.ic_flat.proofs.TestingLemmas.{restored-at_most}
use Rattle.ic_flat.proofs.wide.WideFlat.new.Goals as goal

pub returns : goal.returns
returns c =
    let ws = c.args.words.items in
    let parts = configuration_of ws c.args.terms 0 in
    let names = sym (names-configuration_of ws c.args.terms c.args.equations 0 c.requires.counted) in
    let next : c.one_above-next.result ≡ min (one_above (names_in parts.interface parts.equations)) (2 ^ 64 - 1) =
    (rw c.deref.ensures.value at c.one_above-next.ensures) ∙ ap (λ ns. min (one_above ns) (2 ^ 64 - 1)) names in
    subst (λ answer. Answers c.restore.result answer) (restored-at_most parts.interface parts.equations c.one_above-next.result next) c.restore.ensures
