use Rattle.std.proofs.Common.{◌≡◌, ◌++◌, ◌∙◌, Ok, ap, sym}
use Rattle.ic_term.specs.Configuration.{configuration_nodes}
use Rattle.ic_term.specs.Symbol.{is_over}
use Rattle.ic_round.specs.Firing.{fired}
use Rattle.ic_round.specs.lemmas.RoundLemmas.{sound_over, fired_is, fired_is_over}
use Rattle.ic_flat.specs.Flat.{configuration_words, configuration_of, IsFlat}
use Rattle.ic_flat_rules.specs.lemmas.WordPlaces.{after_interface}
use Rattle.ic_flat_round.specs.declared.fired.Reached.{Reached}
use Rattle.ic_flat_round.proofs.FiringLimits.{within_parts}
use Rattle.ic_flat_round.proofs.Interacting.{flat_parts, answered}
use Rattle.ic_flat_round.proofs.fired.fire_onto.Goals as goal
use Rattle.ic_flat_round.proofs.fired.fire_onto.Goals.{After-interface_len-terms}

-- the words of the fired configuration stand on the list
items : (c : After-interface_len-terms) → c.put_configuration.new.out.items ≡ configuration_words (fired c.args.rules.now.rules c.args.flat.now)
items c =
    c.in-Some.ensures.put.items ∙ ap (λ l. l ++ configuration_words (fired c.args.rules.now.rules c.args.flat.now)) (c.in_ok-reserve.ensures.items ∙ c.clear.ensures.items)

-- and are its parts
parts : (c : After-interface_len-terms) → IsFlat c.put_configuration.new.out.items c.interface_len-terms.result c.in-Some.field-0.equations c.in-Some.field-0.next
    × (configuration_of c.put_configuration.new.out.items c.interface_len-terms.result c.in-Some.field-0.next ≡ fired c.args.rules.now.rules c.args.flat.now)
parts c =
    let rs = c.args.rules.now in
    let flat = c.args.flat.now in
    let d = fired rs.rules flat in
    let out = c.put_configuration.new.out in
    let fit = within_parts (configuration_nodes d) d.next (sym c.in-Some.ensures.fits) in
    let is = fired_is rs.rules flat (sound_over rs flat c.rules-rule_set.ensures.sound c.requires) c.interface_len-terms.ensures.sound fit.0 fit.1 in
    let reached = c.in-Some.ensures.reached in
    flat_parts d out.items c.interface_len-terms.result c.in-Some.field-0.equations c.in-Some.field-0.next is (items c)
    c.interface_len-terms.ensures.terms (ap (λ (r : Reached). r.equations) reached) (ap (λ (r : Reached). r.next) reached)

pub with_place-requires-clause-flat : goal.with_place-requires-clause-flat
with_place-requires-clause-flat c = (parts (goal.at.with_place-requires-clause-flat c).After-interface_len-terms).0

pub with_place-requires-clause-place : goal.with_place-requires-clause-place
with_place-requires-clause-place c =
    after_interface (fired c.args.rules.now.rules c.args.flat.now) c.put_configuration.new.out.items c.interface_len-terms.result c.equations_place-place.result
    (items (goal.at.with_place-requires-clause-place c).After-interface_len-terms) c.interface_len-terms.ensures.terms c.equations_place-place.ensures.nodes

pub returns-in-Some-clause-fired : goal.returns-in-Some-clause-fired
returns-in-Some-clause-fired c =
    let rs = c.args.rules.now in
    let d = fired rs.rules c.args.flat.now in
    let fit = within_parts (configuration_nodes d) d.next (sym c.in-Some.ensures.fits) in
    ap Ok (c.with_place.ensures ∙ (parts (goal.at.returns-in-Some-clause-fired c).After-interface_len-terms).1) ∙ sym (answered rs.rules c.args.flat.now d fit.0 fit.1)

pub returns-in-Some-clause-over : goal.returns-in-Some-clause-over
returns-in-Some-clause-over c =
    let rs = c.args.rules.now in
    ap (is_over rs.symbols) (c.with_place.ensures ∙ (parts (goal.at.returns-in-Some-clause-over c).After-interface_len-terms).1)
    ∙ fired_is_over rs c.args.flat.now c.rules-rule_set.ensures.sound c.requires
