use Rattle.std.proofs.Common.{◌≡◌, ◌+◌, ◌≤◌, ◌∙◌, List, take, length, length-append, ap, sym, subst, arith}
use Rattle.std.specs.Prelude.{vec_len}
use Rattle.std.specs.List.{flat_map, list_all}
use Rattle.std.proofs.lemmas.Bool.{and_parts}
use Rattle.std.proofs.lemmas.List.{length-take-le}
use Rattle.std.proofs.lemmas.Option.{IfSome_then}
use Rattle.ic_term.specs.declared.limits.TheConstants.{MAX_NODES}
use Rattle.ic_term.specs.Configuration.{configuration_nodes}
use Rattle.ic_term.specs.Symbol.{is_tree_over, is_pair_over}
use Rattle.ic_flat.specs.declared.word.Word.{Word}
use Rattle.ic_flat.specs.Words.{tree_words}
use Rattle.ic_flat.specs.lemmas.FlatLaws.{nodes-words}
use Rattle.ic_round.specs.Firing.{fired, fired_from, next_after}
use Rattle.ic_flat_round.specs.inner.Limits.{is_within, reached}
use Rattle.ic_flat_round.specs.inner.Room.{Appended}
use Rattle.ic_flat_rules.specs.RuleWords.{pairs_words}
use Rattle.ic_flat_rules.specs.Standing.{pairs_at}
use Rattle.ic_flat_rules.specs.lemmas.WordPlaces.{whole_words, pairs_start, twos_start, within_start}
use Rattle.ic_flat_round.proofs.Appending.{appended-both}
use Rattle.ic_flat_round.proofs.Interacting.{fired_configuration, interface_words}
use Rattle.ic_flat_round.proofs.fired.put_configuration.Goals as goal
use Rattle.ic_flat_round.proofs.fired.put_configuration.Goals.{After-words-words, After-next}

interface : (c : After-words-words) → take c.args.place c.words-words.result.now ≡ flat_map tree_words c.args.flat.now.interface
interface c =
    let start = c.requires.place in
    interface_words c.args.flat.now c.words-words.result.now c.args.place c.words-words.ensures.words start.within start.equations

-- it has no more words than a configuration may have
few : (c : After-words-words) → length (take c.args.place c.words-words.result.now) ≤ MAX_NODES
few c =
    let most = c.words-words.ensures.sound.nodes in
    let start = c.requires.place in
    let ws = c.words-words.result.now in
    omega (arith, most, start.nodes, length-take-le c.args.place ws (within_start c.args.flat.now ws c.args.place c.words-words.ensures.words start.within))

pub put_copied-requires : goal.put_copied-requires
put_copied-requires c =
    let room = c.requires.roomy.room in
    let empty = c.requires.empty in
    omega (arith, room, empty, few (goal.at.put_copied-requires c).After-words-words)

pub put_equations-requires-clause-whole : goal.put_equations-requires-clause-whole
put_equations-requires-clause-whole c = whole_words c.args.flat.now c.words-words.result.now c.words-words.ensures.words

pub put_equations-requires-clause-twos : goal.put_equations-requires-clause-twos
put_equations-requires-clause-twos c = twos_start c.args.flat.now c.words-words.result.now c.args.place c.words-words.ensures.words c.requires.place.equations

equations : (c : After-next) → pairs_at c.words-words.result.now c.args.place ≡ c.args.flat.now.equations
equations c = pairs_start c.args.flat.now c.words-words.result.now c.args.place c.words-words.ensures.words c.requires.place.equations

pub put_equations-requires-clause-over : goal.put_equations-requires-clause-over
put_equations-requires-clause-over c =
    let ss = c.args.rules.now.symbols in
    let flat = c.args.flat.now in
    ap (list_all (is_pair_over ss)) (equations (goal.at.put_equations-requires-clause-over c).After-next)
    ∙ (and_parts (list_all (is_tree_over ss) flat.interface) (list_all (is_pair_over ss) flat.equations) c.requires.over).1

pub put_equations-requires-clause-roomy : goal.put_equations-requires-clause-roomy
put_equations-requires-clause-roomy c =
    let put = c.put_copied.ensures in
    let room = c.requires.roomy.room in
    let empty = c.requires.empty in
    record { few = omega (arith, put.len, empty, few (goal.at.put_equations-requires-clause-roomy c).After-words-words); room = omega (arith, room, put.capacity) }

-- what is put for the equations of the configuration
words : (c : After-next) → pairs_at c.words-words.result.now c.args.place ≡ c.args.flat.now.equations
    → pairs_words (fired_from c.args.rules.now.rules c.next.result (pairs_at c.words-words.result.now c.args.place))
    ≡ pairs_words (fired_from c.args.rules.now.rules c.args.flat.now.next c.args.flat.now.equations)
words c same i = pairs_words (fired_from c.args.rules.now.rules (c.next.ensures.next i) (same i))

pub returns-clause-fits : goal.returns-clause-fits
returns-clause-fits c =
    let at = goal.at.returns-clause-fits c in
    let same = equations at.After-next in
    let rs = c.args.rules.now.rules in
    let flat = c.args.flat.now in
    let d = fired rs flat in
    let front = flat_map tree_words flat.interface in
    let back = pairs_words (fired_from rs flat.next flat.equations) in
    let put = c.put_copied.ensures in
    let empty = c.requires.empty in
    let count : vec_len c.put_copied.new.out + length (pairs_words (fired_from rs c.next.result (pairs_at c.words-words.result.now c.args.place))) ≡ configuration_nodes d =
    omega (
      arith,
      put.len,
      empty,
      ap length (interface at.After-words-words),
      ap length (words at.After-next same),
      ap length (fired_configuration rs flat),
      length-append front back,
      nodes-words d,
    ) in
    c.put_equations.ensures.fits ∙ (λ i. is_within (count i) (next_after rs (c.next.ensures.next i) (same i)))

pub returns-clause-reached : goal.returns-clause-reached
returns-clause-reached c =
    let rs = c.args.rules.now.rules in
    let same = equations (goal.at.returns-clause-reached c).After-next in
    IfSome_then c.put_equations.result c.put_equations.ensures.reached
    (λ r is. is ∙ (λ i. reached (fired_from rs (c.next.ensures.next i) (same i)) (next_after rs (c.next.ensures.next i) (same i))))

pub returns-clause-put : goal.returns-clause-put
returns-clause-put c =
    let at = goal.at.returns-clause-put c in
    let rs = c.args.rules.now.rules in
    let flat = c.args.flat.now in
    let front = flat_map tree_words flat.interface in
    let back = pairs_words (fired_from rs flat.next flat.equations) in
    let out = c.args.out.now in
    let half = c.put_copied.new.out in
    let new = c.put_equations.new.out in
    let a = subst (λ (l : List Word). Appended out half l) (interface at.After-words-words) c.put_copied.ensures in
    IfSome_then c.put_equations.result c.put_equations.ensures.put
    (λ r put.
    let b = subst (λ (l : List Word). Appended half new l) (words at.After-next (equations at.After-next)) put in
    subst (λ (l : List Word). Appended out new l) (sym (fired_configuration rs flat)) (appended-both out half new front back a b))
