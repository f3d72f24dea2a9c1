use Rattle.std.proofs.Common.{◌≡◌, ◌≤◌, ◌++◌, ◌∙◌, map, length, take, length-append, ap, sym, arith}
use Rattle.std.specs.List.{flat_map}
use Rattle.ic_term.specs.Configuration.{configuration_nodes}
use Rattle.ic_term.specs.Symbol.{is_over}
use Rattle.ic_term.specs.declared.limits.TheConstants.{MAX_NODES, MAX_NEXT}
use Rattle.ic_flat.specs.Words.{tree_words}
use Rattle.ic_flat.specs.Flat.{configuration_words, configuration_of, IsFlat}
use Rattle.ic_flat.specs.lemmas.FlatLaws.{nodes-words}
use Rattle.ic_round.specs.Firing.{fired, fired_from, next_after}
use Rattle.ic_round.specs.Works.{works_from, result_of}
use Rattle.ic_round.specs.lemmas.RoundLemmas.{fired_is_configuration, fired_is_over}
use Rattle.ic_flat_round.specs.declared.fired.Reached.{Reached}
use Rattle.ic_flat_rules.specs.RuleWords.{pairs_words}
use Rattle.ic_flat_rules.specs.Standing.{pairs_at}
use Rattle.ic_flat_rules.specs.lemmas.WordPlaces.{whole_words, pairs_start, twos_start}
use Rattle.ic_flat_round.proofs.FiringLimits.{within_parts, few_equations}
use Rattle.ic_flat_round.proofs.Interacting.{fired_configuration, interface_words, flat_parts}
use Rattle.ic_flat_round.proofs.filling.filled.Goals as goal
use Rattle.ic_flat_round.proofs.filling.filled.Goals.{After-next, After-interface_len}

-- the equations of the configuration
equations : (c : After-next) → pairs_at c.words-words.result.now c.equations_place-place.result ≡ c.args.flat.now.equations
equations c = pairs_start c.args.flat.now c.words-words.result.now c.equations_place-place.result c.words-words.ensures.words c.equations_place-place.ensures.equations

-- fired, they are those of the fired configuration
fires : (c : After-next) → fired_from c.args.rules.now.rules c.next.result (pairs_at c.words-words.result.now c.equations_place-place.result)
    ≡ (fired c.args.rules.now.rules c.args.flat.now).equations
fires c = let same = equations c in λ i. fired_from c.args.rules.now.rules (c.next.ensures.next i) (same i)

ends : (c : After-next) → next_after c.args.rules.now.rules c.next.result (pairs_at c.words-words.result.now c.equations_place-place.result)
    ≡ (fired c.args.rules.now.rules c.args.flat.now).next
ends c = let same = equations c in λ i. next_after c.args.rules.now.rules (c.next.ensures.next i) (same i)

limits : (c : After-next) → (configuration_nodes (fired c.args.rules.now.rules c.args.flat.now) ≤ MAX_NODES) × ((fired c.args.rules.now.rules c.args.flat.now).next ≤ MAX_NEXT)
limits c = let d = fired c.args.rules.now.rules c.args.flat.now in within_parts (configuration_nodes d) d.next c.requires.fitting

pub put_filled-requires-clause-whole : goal.put_filled-requires-clause-whole
put_filled-requires-clause-whole c = whole_words c.args.flat.now c.words-words.result.now c.words-words.ensures.words

pub put_filled-requires-clause-twos : goal.put_filled-requires-clause-twos
put_filled-requires-clause-twos c =
    twos_start c.args.flat.now c.words-words.result.now c.equations_place-place.result c.words-words.ensures.words c.equations_place-place.ensures.equations

pub put_filled-requires-clause-few : goal.put_filled-requires-clause-few
put_filled-requires-clause-few c =
    let at = goal.at.put_filled-requires-clause-few c in
    let rs = c.args.rules.now.rules in
    let flat = c.args.flat.now in
    let d = fired rs flat in
    let front = flat_map tree_words flat.interface in
    omega (
      arith,
      (limits at.After-next).0,
      ap length (fires at.After-next),
      few_equations d.equations,
      ap length (fired_configuration rs flat),
      length-append front (pairs_words d.equations),
      nodes-words d,
    )

pub put_filled-requires-clause-low : goal.put_filled-requires-clause-low
put_filled-requires-clause-low c =
    let at = goal.at.put_filled-requires-clause-low c in
    omega (arith, (limits at.After-next).1, ends at.After-next)

pub put_filled-requires-clause-results : goal.put_filled-requires-clause-results
put_filled-requires-clause-results c =
    let rs = c.args.rules.now.rules in
    let same = equations (goal.at.put_filled-requires-clause-results c).After-next in
    c.requires.results ∙ (λ i. map (result_of rs) (works_from rs 0 (sym c.next.ensures.next i) (sym same i)))

-- what stands on the list is the fired configuration
parts : (c : After-interface_len) → pairs_at c.words-words.result.now c.equations_place-place.result ≡ c.args.flat.now.equations
    → IsFlat c.put_filled.new.out.items c.interface_len.result c.in_ok-equations.field-0.equations c.in_ok-equations.field-0.next
    × (configuration_of c.put_filled.new.out.items c.interface_len.result c.in_ok-equations.field-0.next ≡ fired c.args.rules.now.rules c.args.flat.now)
parts c same =
    let rs = c.args.rules.now in
    let flat = c.args.flat.now in
    let ws = c.words-words.result.now in
    let place = c.equations_place-place.result in
    let start = c.equations_place-place.ensures in
    let d = fired rs.rules flat in
    let made : fired_from rs.rules c.next.result (pairs_at ws place) ≡ d.equations = λ i. fired_from rs.rules (c.next.ensures.next i) (same i) in
    let last : next_after rs.rules c.next.result (pairs_at ws place) ≡ d.next = λ i. next_after rs.rules (c.next.ensures.next i) (same i) in
    let sound = fired_is_configuration rs flat c.put_filled.ensures.sound c.interface_len.ensures.sound c.requires.over c.requires.fitting in
    let front : c.extend_from_slice.new.self.items ≡ flat_map tree_words flat.interface =
    c.in_ok-extend_from_slice.ensures.items ∙ ap (λ l. l ++ take place ws) c.in_ok-out.ensures.items ∙ interface_words flat ws place c.words-words.ensures.words start.within start.equations in
    let items : c.put_filled.new.out.items ≡ configuration_words d =
    c.in_ok-equations.ensures.put ∙ (λ i. front i ++ pairs_words (made i)) ∙ sym (fired_configuration rs.rules flat) in
    let reached = c.in_ok-equations.ensures.reached in
    flat_parts d c.put_filled.new.out.items c.interface_len.result c.in_ok-equations.field-0.equations c.in_ok-equations.field-0.next sound items c.interface_len.ensures.terms
    (ap (λ (r : Reached). r.equations) reached ∙ ap length made) (ap (λ (r : Reached). r.next) reached ∙ last)

pub from_parts-requires : goal.from_parts-requires
from_parts-requires c = let at = goal.at.from_parts-requires c in (parts at.After-interface_len (equations at.After-next)).0

pub returns-clause-fired : goal.returns-clause-fired
returns-clause-fired c =
    let at = goal.at.returns-clause-fired c in
    c.from_parts.ensures ∙ (parts at.After-interface_len (equations at.After-next)).1

pub returns-clause-over : goal.returns-clause-over
returns-clause-over c =
    let at = goal.at.returns-clause-over c in
    let rs = c.args.rules.now in
    ap (is_over rs.symbols) (c.from_parts.ensures ∙ (parts at.After-interface_len (equations at.After-next)).1) ∙ fired_is_over rs c.args.flat.now c.put_filled.ensures.sound c.requires.over
