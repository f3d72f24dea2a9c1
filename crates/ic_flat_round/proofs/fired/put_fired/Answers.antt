use Rattle.std.proofs.Common.{◌≡◌, ◌+◌, ◌-◌, ◌≤◌, ◌∙◌, List, slice_get, length, take, drop, ap, sym, subst, arith}
use Rattle.std.specs.Prelude.{vec_len}
use Rattle.ic_term.specs.declared.limits.TheConstants.{MAX_NODES}
use Rattle.ic_round.specs.Firing.{arguments, fired_pair, names_taken}
use Rattle.ic_flat.specs.declared.word.Word.{Word}
use Rattle.ic_flat.specs.Words.{forest, IsWhole}
use Rattle.ic_flat_round.specs.inner.Limits.{fits_after}
use Rattle.ic_flat_round.specs.inner.Room.{Appended}
use Rattle.ic_flat_rules.specs.RuleWords.{rule_words, pairs_words}
use Rattle.ic_flat_round.specs.inner.RuleWords.{interaction_words}
use Rattle.ic_flat_rules.specs.Standing.{pair_at, tree_at}
use Rattle.ic_flat_rules.specs.lemmas.WordPlaces.{pair_nodes_at, pair_slice}
use Rattle.ic_flat_round.proofs.RaisedWords.{whole-rule_words}
use Rattle.ic_flat_round.proofs.Interacting.{some_at, Ruled, ruled, Inert, inert_by, fires_at}
use Rattle.ic_flat_round.proofs.FiringLimits.{within_parts, tested_after}
use Rattle.ic_flat_round.proofs.fired.put_fired.Goals as goal
use Rattle.ic_flat_round.proofs.fired.put_fired.Goals.{In-None, After-is_within, In-Some, After-is_within-in-Some, After-in_order-left}

-- ---- an equation without a rule

-- it stays
inert : (c : In-None) → Inert c.args.rules.now.rules c.args.next (pair_at c.args.words.now c.args.sides)
inert c =
    inert_by c.args.rules.now c.rules.result.now (pair_at c.args.words.now c.args.sides) c.args.next c.rule_of.result c.rules.ensures.rules c.rule_of.ensures.rule c.in-None.is

-- and what is tested is whether it fits
stays : (c : After-is_within) → Inert c.args.rules.now.rules c.args.next (pair_at c.args.words.now c.args.sides) → c.is_within.result
    ≡ fits_after c.args.out.now (fired_pair c.args.rules.now.rules c.args.next (pair_at c.args.words.now c.args.sides)) (c.args.next + names_taken c.args.rules.now.rules (pair_at c.args.words.now c.args.sides))
stays c i =
    let ws = c.args.words.now in
    let p = pair_at ws c.args.sides in
    let ps = fired_pair c.args.rules.now.rules c.args.next p in
    let equation = take (c.args.sides.end - c.args.sides.left) (drop c.args.sides.left ws) in
    let same = ap length (pair_slice ws c.args.sides c.requires.whole c.requires.sides ∙ ap pairs_words (sym i.stays)) in
    tested_after c.args.out.now ps c.len.result (length equation) c.args.next 0 (names_taken c.args.rules.now.rules p) c.is_within.result c.len.ensures same (sym i.names) c.is_within.ensures

pub returns-then-not-is_within-clause-fits : goal.returns-then-not-is_within-clause-fits
returns-then-not-is_within-clause-fits c =
    let at = goal.at.returns-then-not-is_within-clause-fits c in
    sym c.if-not-is_within.true ∙ stays at.After-is_within (inert at.In-None)

pub returns-else-not-is_within-clause-fits : goal.returns-else-not-is_within-clause-fits
returns-else-not-is_within-clause-fits c =
    let at = goal.at.returns-else-not-is_within-clause-fits c in
    sym c.if-not-is_within.false ∙ stays at.After-is_within (inert at.In-None)

pub put_copied-requires : goal.put_copied-requires
put_copied-requires c =
    let at = goal.at.put_copied-requires c in
    let i = inert at.In-None in
    let p = pair_at c.args.words.now c.args.sides in
    let ps = fired_pair c.args.rules.now.rules c.args.next p in
    let few = within_parts (vec_len c.args.out.now + length (pairs_words ps)) (c.args.next + names_taken c.args.rules.now.rules p) (sym (stays at.After-is_within i) ∙ c.if-not-is_within.false) in
    let room = c.requires.roomy.room in
    omega (arith, room, few.0, ap length (pair_slice c.args.words.now c.args.sides c.requires.whole c.requires.sides ∙ ap pairs_words (sym i.stays)))

pub returns-else-not-is_within-clause-put : goal.returns-else-not-is_within-clause-put
returns-else-not-is_within-clause-put c =
    let i = inert (goal.at.returns-else-not-is_within-clause-put c).In-None in
    subst (λ (l : List Word). Appended c.args.out.now c.put_copied.new.out l)
    (pair_slice c.args.words.now c.args.sides c.requires.whole c.requires.sides ∙ ap pairs_words (sym i.stays)) c.put_copied.ensures

-- ---- an equation with a rule

known : (c : In-Some) → Ruled c.args.rules.now c.args.next (pair_at c.args.words.now c.args.sides) c.in-Some.place c.in-Some.turned
known c =
    ruled c.args.rules.now c.rules.result.now (pair_at c.args.words.now c.args.sides) c.in-Some.place c.in-Some.turned c.args.next c.rule_of.result c.rules.ensures.rules c.rule_of.ensures.rule
    c.in-Some.is c.in-Some.ensures.sound c.requires.over

pub words-template-requires : goal.words-template-requires
words-template-requires c = (known (goal.at.words-template-requires c).In-Some).within

pub names-names-requires : goal.names-names-requires
names-names-requires c = (known (goal.at.names-names-requires c).In-Some).within

-- what is tested is whether the equation fits when it is fired
tested : (c : After-is_within-in-Some) → Ruled c.args.rules.now c.args.next (pair_at c.args.words.now c.args.sides) c.in-Some.place c.in-Some.turned → c.is_within-in-Some.result
    ≡ fits_after c.args.out.now (fired_pair c.args.rules.now.rules c.args.next (pair_at c.args.words.now c.args.sides)) (c.args.next + names_taken c.args.rules.now.rules (pair_at c.args.words.now c.args.sides))
tested c k =
    let p = pair_at c.args.words.now c.args.sides in
    let ps = fired_pair c.args.rules.now.rules c.args.next p in
    let found = slice_get c.args.rules.now.rules c.in-Some.place in
    let count = c.args.sides.end - c.args.sides.left - 2 + length c.words-template.result.now in
    let sides = c.requires.sides in
    let first = sides.left.before in
    let second = sides.right.before in
    let template = some_at (λ r. c.words-template.result.now ≡ rule_words r) found k.rule k.there c.words-template.ensures in
    let same : count ≡ length (pairs_words ps) = omega (arith, first, second, k.nodes, pair_nodes_at c.args.words.now c.args.sides sides, ap length template) in
    let names = some_at (λ r. c.names-names.result ≡ r.names) found k.rule k.there c.names-names.ensures ∙ sym k.names in
    tested_after c.args.out.now ps c.len-in-Some.result count c.args.next c.names-names.result (names_taken c.args.rules.now.rules p) c.is_within-in-Some.result
    c.len-in-Some.ensures same names c.is_within-in-Some.ensures

pub returns-then-not-is_within-2-clause-fits : goal.returns-then-not-is_within-2-clause-fits
returns-then-not-is_within-2-clause-fits c =
    let at = goal.at.returns-then-not-is_within-2-clause-fits c in
    sym c.if-not-is_within-2.true ∙ tested at.After-is_within-in-Some (known at.In-Some)

pub returns-else-not-is_within-2-clause-fits : goal.returns-else-not-is_within-2-clause-fits
returns-else-not-is_within-2-clause-fits c =
    let at = goal.at.returns-else-not-is_within-2-clause-fits c in
    sym c.if-not-is_within-2.false ∙ tested at.After-is_within-in-Some (known at.In-Some)

-- where it fits, its products are it fired
record Made (c : After-in_order-left) : Type 0 where
  whole : IsWhole c.words-template.result.now
  there : length (arguments (tree_at c.args.words.now c.in_order-left.result.0)) + length (arguments (tree_at c.args.words.now c.in_order-left.result.1)) ≤ length (forest c.words-template.result.now)
  few : vec_len c.args.out.now + length (pairs_words (fired_pair c.args.rules.now.rules c.args.next (pair_at c.args.words.now c.args.sides))) ≤ MAX_NODES
  words : interaction_words c.args.next (arguments (tree_at c.args.words.now c.in_order-left.result.0))
      (arguments (tree_at c.args.words.now c.in_order-left.result.1)) (forest c.words-template.result.now)
      ≡ pairs_words (fired_pair c.args.rules.now.rules c.args.next (pair_at c.args.words.now c.args.sides))
  count : length (arguments (tree_at c.args.words.now c.in_order-left.result.0)) + length (arguments (tree_at c.args.words.now c.in_order-left.result.1))
      ≡ length (fired_pair c.args.rules.now.rules c.args.next (pair_at c.args.words.now c.args.sides))
  names : names_taken c.args.rules.now.rules (pair_at c.args.words.now c.args.sides) ≡ c.names-names.result

made : (c : After-in_order-left) → Ruled c.args.rules.now c.args.next (pair_at c.args.words.now c.args.sides) c.in-Some.place c.in-Some.turned
    → c.is_within-in-Some.result
    ≡ fits_after c.args.out.now (fired_pair c.args.rules.now.rules c.args.next (pair_at c.args.words.now c.args.sides)) (c.args.next + names_taken c.args.rules.now.rules (pair_at c.args.words.now c.args.sides))
    → Made c
made c k test =
    let ws = c.args.words.now in
    let rs = c.args.rules.now.rules in
    let p = pair_at ws c.args.sides in
    let ps = fired_pair rs c.args.next p in
    let found = slice_get rs c.in-Some.place in
    let o = c.in_order-left.result in
    let template = some_at (λ r. c.words-template.result.now ≡ rule_words r) found k.rule k.there c.words-template.ensures in
    let fit = within_parts (vec_len c.args.out.now + length (pairs_words ps)) (c.args.next + names_taken rs p) (sym test ∙ c.if-not-is_within-2.false) in
    let fires = fires_at rs c.args.next ws c.args.sides c.in-Some.turned o k.rule c.in_order-left.ensures (k.fires fit.1) in
    record {
      whole = subst (λ (l : List Word). IsWhole l) (sym template) (whole-rule_words k.rule);
      there = omega (arith, fires.there, ap (λ (l : List Word). length (forest l)) template);
      few = fit.0;
      words = ap (λ (l : List Word). interaction_words c.args.next (arguments (tree_at ws o.0)) (arguments (tree_at ws o.1)) (forest l)) template ∙ fires.words;
      count = fires.count;
      names = k.names ∙ sym (some_at (λ r. c.names-names.result ≡ r.names) found k.rule k.there c.names-names.ensures);
    }

pub put_interaction-equations-requires-clause-whole_template : goal.put_interaction-equations-requires-clause-whole_template
put_interaction-equations-requires-clause-whole_template c =
    let at = goal.at.put_interaction-equations-requires-clause-whole_template c in
    let k = known at.In-Some in
    (made at.After-in_order-left k (tested at.After-is_within-in-Some k)).whole

pub put_interaction-equations-requires-clause-terms_there : goal.put_interaction-equations-requires-clause-terms_there
put_interaction-equations-requires-clause-terms_there c =
    let at = goal.at.put_interaction-equations-requires-clause-terms_there c in
    let k = known at.In-Some in
    (made at.After-in_order-left k (tested at.After-is_within-in-Some k)).there

pub put_interaction-equations-requires-clause-room : goal.put_interaction-equations-requires-clause-room
put_interaction-equations-requires-clause-room c =
    let at = goal.at.put_interaction-equations-requires-clause-room c in
    let k = known at.In-Some in
    let m = made at.After-in_order-left k (tested at.After-is_within-in-Some k) in
    let room = c.requires.roomy.room in
    omega (arith, room, m.few, ap length m.words)

pub returns-else-not-is_within-2-clause-reached : goal.returns-else-not-is_within-2-clause-reached
returns-else-not-is_within-2-clause-reached c =
    let at = goal.at.returns-else-not-is_within-2-clause-reached c in
    let k = known at.In-Some in
    let m = made at.After-in_order-left k (tested at.After-is_within-in-Some k) in
    λ i. record { equations = (c.put_interaction-equations.ensures.count ∙ m.count) i; next = c.args.next + sym m.names i }

pub returns-else-not-is_within-2-clause-put : goal.returns-else-not-is_within-2-clause-put
returns-else-not-is_within-2-clause-put c =
    let at = goal.at.returns-else-not-is_within-2-clause-put c in
    let k = known at.In-Some in
    let m = made at.After-in_order-left k (tested at.After-is_within-in-Some k) in
    subst (λ (l : List Word). Appended c.args.out.now c.put_interaction-equations.new.out l) m.words c.put_interaction-equations.ensures.put
