use Rattle.std.proofs.Common.{◌≡◌, ◌+◌, ◌++◌, ◌∷◌, [], List, None, map, option_map, length, ap, ◌∙◌, arith, subst, refl, sym, get_or}
use Rattle.std.proofs.lemmas.List.{map-append, length-map}
use Rattle.std.proofs.lemmas.Option.{slice_get_read}
use Rattle.std.specs.Option.{option_map_or}
use Rattle.std.specs.Vec.Iter.{into_iter_items, into_iter_len}
use Rattle.ic_term.specs.Tree.{Pair}
use Rattle.ic_term.specs.Term.{pair, cell_tree}
use Rattle.ic_round.specs.Firing.{Active, count_of}
use Rattle.ic_round.specs.Works.{work_at}
use Rattle.ic_round.specs.WorkViews.{work_of}
use Rattle.ic_round.specs.lemmas.Separating.{Separates, active_within, separates-active, separates-room}
use Rattle.ic_reference.proofs.separation.separate.Goals as goal
use Rattle.ic_reference.proofs.separation.separate.Goals.{After-names}

pub bounds-known-rule : goal.bounds-known-rule
bounds-known-rule c =
    let there = active_within c.args.rules.now.rules (pair c.in-Some.equation) _ c.in-Active.ensures in
    omega (arith, there, ap length c.rules-known.ensures.rules)

pub offset_bounds-known-rule : goal.offset_bounds-known-rule
offset_bounds-known-rule c =
    let there = active_within c.args.rules.now.rules (pair c.in-Some.equation) _ c.in-Active.ensures in
    let most = c.rules-known.type_inv.1 in
    omega (arith, there, ap length c.rules-known.ensures.rules)

-- the name count of the active equation's rule
known_names : (c : After-names) → c.names.result ≡ count_of c.args.rules.now.rules c.in-Active.rule
known_names c =
    let rs = c.args.rules.now.rules in
    let r = c.index-known-rule.result in
    let within = active_within rs (pair c.in-Some.equation) _ c.in-Active.ensures in
    let there = slice_get_read rs (length rs) c.in-Active.rule r refl within (c.index-known-rule.is ∙ ap (λ l. get_or l c.in-Active.rule r) c.rules-known.ensures.rules) in
    c.names.ensures.names ∙ sym (ap (λ o. option_map_or (λ q. q.names) o 0) there)

here : (c : After-names) → Separates c.args.rules.now.rules c.args.next (map pair c.args.equations.items) (map work_of c.loop-equation.works.items)
    (map (option_map pair) c.loop-equation.kept.items) c.loop-equation.base (pair c.in-Some.equation ∷ map pair (into_iter_items c.next.new.self))
here c =
    let P : List Pair → Type 0 = λ left. Separates c.args.rules.now.rules c.args.next (map pair c.args.equations.items) (map work_of c.loop-equation.works.items)
    (map (option_map pair) c.loop-equation.kept.items) c.loop-equation.base left in
    subst P (ap (map pair) c.in-Some.ensures.steps.0) c.loop-equation.invariant.1

pub overflow_add-base : goal.overflow_add-base
overflow_add-base c =
    let room = separates-room _ _ _ _ _ _ _ _ _ (here c) c.in-Active.ensures in
    let most = c.requires in
    let count = known_names c in
    omega arith

pub loop-equation-preserved-in-Active : goal.loop-equation-preserved-in-Active
loop-equation-preserved-in-Active c =
    let first = c.in-Some.ensures.steps.0 in
    let counted : into_iter_len c.next.new.self ≡ length (into_iter_items c.next.new.self) = omega (arith, c.in-Some.ensures.steps.1, c.loop-equation.invariant.0, ap length first) in
    let a : Active = record { rule = c.in-Active.rule; left = cell_tree c.in-Active.left.value; right = cell_tree c.in-Active.right.value } in
    let kept = map (option_map pair) c.loop-equation.kept.items in
    let place : c.len-in-Active.result ≡ length kept = omega (arith, length-map c.loop-equation.kept.items (option_map pair)) in
    let pushed : map work_of c.push.new.self.items ≡ map work_of c.loop-equation.works.items ++ work_at (length kept) c.loop-equation.base a ∷ [] =
    ap (map work_of) c.in_ok-push-in-Active.ensures.items ∙ map-append work_of c.loop-equation.works.items _
    ∙ ap (λ n. map work_of c.loop-equation.works.items ++ work_at n c.loop-equation.base a ∷ []) place in
    let gap : map (option_map pair) c.push-in-Active.new.self.items ≡ kept ++ None ∷ [] =
    ap (map (option_map pair)) c.in_ok-push-in-Active-2.ensures.items ∙ map-append (option_map pair) c.loop-equation.kept.items (None ∷ []) in
    (counted, separates-active _ _ _ _ _ _ _ _ _ _ _ a (here c) c.in-Active.ensures pushed gap (ap (λ n. c.loop-equation.base + n) (known_names c)))
