use Rattle.std.proofs.Common.{◌≡◌, ◌+◌, ◌<◌, ◌++◌, List, map, length, ap, sym, subst, ◌∙◌, arith}
use Rattle.std.proofs.lemmas.List.{length-map}
use Rattle.std.specs.Vec.Iter.{into_iter_items}
use Rattle.ic_term.specs.Term.{pair}
use Rattle.ic_flat.specs.declared.word.Word.{Word}
use Rattle.ic_round.specs.Firing.{fired_from, next_after, count_of}
use Rattle.ic_round.specs.WorkViews.{fired_of}
use Rattle.ic_round.specs.lemmas.ActiveRules.{rule_within, active_by}
use Rattle.ic_flat_rules.specs.Standing.{pair_at, pairs_at}
use Rattle.ic_flat_rules.specs.lemmas.WordPlaces.{pair_slice}
use Rattle.ic_flat_round.proofs.ActiveWorks.{names-room, names-read}
use Rattle.ic_flat_round.proofs.FillingWords.{Fills, fills-inert, fills-active}
use Rattle.ic_flat_round.proofs.filling.put_filled.Goals as goal
use Rattle.ic_flat_round.proofs.filling.put_filled.Goals.{In-Some, After-names}

-- the rule is one
there : (c : In-Some) → c.in-Some.rule < length c.args.rules.now.rules
there c = rule_within c.args.rules.now.rules _ _ c.in-Some.rule c.in-Some.field-0-1 (sym c.rule_of.ensures.rule ∙ c.in-Some.is)

pub bounds-known-rule : goal.bounds-known-rule
bounds-known-rule c =
    let inside = there (goal.at.bounds-known-rule c).In-Some in
    omega (arith, inside, ap length c.rules-known.ensures.rules)

pub offset_bounds-known-rule : goal.offset_bounds-known-rule
offset_bounds-known-rule c =
    let inside = there (goal.at.offset_bounds-known-rule c).In-Some in
    let most = c.rules-known.type_inv.1 in
    omega (arith, inside, ap length c.rules-known.ensures.rules)

known_names : (c : After-names) → c.in-Some.rule < length c.args.rules.now.rules → c.names.result ≡ count_of c.args.rules.now.rules c.in-Some.rule
known_names c within =
    names-read c.args.rules.now.rules c.rules-known.result.now c.in-Some.rule c.names.result c.index-known-rule.result within c.rules-known.ensures.rules c.index-known-rule.is
    c.names.ensures.names

pub overflow_add-next : goal.overflow_add-next
overflow_add-next c =
    let at = goal.at.overflow_add-next c in
    let rs = c.args.rules.now.rules in
    let ws = c.args.words.now in
    let s = c.sides_at-sides.result in
    let a = active_by rs (pair_at ws s) c.in-Some.rule c.in-Some.field-0-1 (sym c.rule_of.ensures.rule ∙ c.in-Some.is) in
    let room = names-room rs c.loop-place.next _ (pairs_at ws c.loop-place.place) (pairs_at ws s.end) (pair_at ws s) a.0 c.sides_at-sides.ensures.equations a.1.0 c.loop-place.invariant.fills.names in
    let most = c.requires.low in
    omega (arith, room, most, known_names at.After-names (there at.In-Some), ap (count_of rs) a.1.1)

pub loop-place-preserved-in_ok-extend_from_slice-in-None : goal.loop-place-preserved-in_ok-extend_from_slice-in-None
loop-place-preserved-in_ok-extend_from_slice-in-None c =
    let rs = c.args.rules.now.rules in
    let ws = c.args.words.now in
    let s = c.sides_at-sides.result in
    let p = pair_at ws s in
    let out = c.loop-place.out.items in
    let i = c.loop-place.invariant in
    let sides = c.sides_at-sides.ensures in
    let added = c.in_ok-extend_from_slice-in-None.ensures.items ∙ ap (λ (l : List Word). out ++ l) (pair_slice ws s c.requires.whole sides.sides) in
    record {
      within = sides.sides.right.within;
      twos = sides.twos;
      results_left = i.results_left;
      fills =
          fills-inert rs (fired_from rs c.args.next (pairs_at ws c.args.place)) (next_after rs c.args.next (pairs_at ws c.args.place)) c.args.out.now.items out
          c.extend_from_slice.new.self.items (map fired_of (into_iter_items c.loop-place.results)) c.loop-place.next c.loop-place.equations (pairs_at ws c.loop-place.place) (pairs_at ws s.end) p
          i.fills sides.equations (sym c.rule_of.ensures.rule ∙ c.in-None.is) added;
    }

pub loop-place-preserved : goal.loop-place-preserved
loop-place-preserved c =
    let at = goal.at.loop-place-preserved c in
    let rs = c.args.rules.now.rules in
    let ws = c.args.words.now in
    let s = c.sides_at-sides.result in
    let p = pair_at ws s in
    let i = c.loop-place.invariant in
    let sides = c.sides_at-sides.ensures in
    let first = c.in-Some-next.ensures.items in
    let fired = c.in-Some-next.fired in
    let a = active_by rs p c.in-Some.rule c.in-Some.field-0-1 (sym c.rule_of.ensures.rule ∙ c.in-Some.is) in
    let grown : c.loop-place.next + c.names.result ≡ c.loop-place.next + count_of rs a.0.rule =
    ap (λ n. c.loop-place.next + n) (known_names at.After-names (there at.In-Some) ∙ ap (count_of rs) (sym a.1.1)) in
    let all = fired_from rs c.args.next (pairs_at ws c.args.place) in
    let last = next_after rs c.args.next (pairs_at ws c.args.place) in
    let out = c.put_made.new.out.items in
    let others = map fired_of (into_iter_items c.next.new.self) in
    let count : length (map pair fired.products.items) ≡ c.len-equations.result = omega (arith, c.len-equations.ensures, length-map fired.products.items pair, fired.products.ok.0) in
    let filled =
    fills-active rs all last c.args.out.now.items c.loop-place.out.items out (map fired_of (into_iter_items c.loop-place.results)) others (fired_of fired) c.loop-place.next
    (c.loop-place.next + c.names.result) c.loop-place.equations (pairs_at ws c.loop-place.place) (pairs_at ws s.end) p a.0 i.fills sides.equations a.1.0 (ap (map fired_of) first)
    c.in_ok-put_made-in-Some.ensures grown in
    record {
      within = sides.sides.right.within;
      twos = sides.twos;
      results_left = omega (arith, c.in-Some-next.ensures.cases.1, i.results_left, ap length first);
      fills = subst (λ n. Fills rs all last c.args.out.now.items others (c.loop-place.next + c.names.result) (c.loop-place.equations + n) out (pairs_at ws s.end)) count filled;
    }
