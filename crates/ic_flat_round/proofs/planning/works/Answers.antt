use Rattle.std.proofs.Common.{◌∙◌, List, IsTrue, sym, subst}
use Rattle.std.specs.List.{AllByRecursion}
use Rattle.ic_term.specs.Configuration.{configuration_nodes}
use Rattle.ic_round.specs.Firing.{fired}
use Rattle.ic_round.specs.Works.{PlainWork, suits}
use Rattle.ic_round.specs.lemmas.RoundLemmas.{sound_over}
use Rattle.ic_round.specs.lemmas.Planned.{works_suit}
use Rattle.ic_flat_round.proofs.FiringLimits.{within_parts}
use Rattle.ic_flat_round.proofs.planning.works.Goals as goal

pub returns-clause-suit : goal.returns-clause-suit
returns-clause-suit c =
    let rs = c.args.rules.now in
    let flat = c.args.flat.now in
    let d = fired rs.rules flat in
    let fit = within_parts (configuration_nodes d) d.next (sym c.fits_from.ensures ∙ c.if-not-fits_from.false) in
    let P : List PlainWork → Type 0 = λ ws. AllByRecursion (λ w. IsTrue (suits rs.rules w)) ws in
    subst P (sym c.in_ok-active_works.ensures.works) (works_suit rs.rules 0 flat.next flat.equations (sound_over rs flat c.active_works.ensures.sound c.requires) fit.1)
