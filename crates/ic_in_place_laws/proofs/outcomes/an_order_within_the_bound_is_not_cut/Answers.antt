use Rattle.std.proofs.Common.{◌≡◌, ℕ, ◌+◌, List, ◌++◌, length, refl, ap, subst, ◌∙◌, arith, length-append}
use Rattle.std.specs.Prelude.{IsPermutation}
use Rattle.ic_confluence.specs.Kinds.{Kind}
use Rattle.ic_reaching.specs.Reaching.{rules_fired}
use Rattle.ic_reaching.specs.lemmas.Orders.{any_order, fired_alike, rules_fired-append}
use Rattle.ic_in_place.specs.Reducing.{IsReached}
use Rattle.ic_in_place.specs.declared.running.End.{End}
use Rattle.ic_in_place_laws.proofs.outcomes.an_order_within_the_bound_is_not_cut.Goals as goal

as_long : (is js : List ℕ) → IsPermutation is js → length is ≡ length js
as_long = any_order (λ is js. length is ≡ length js) (record {
  same = λ is. refl;
  more = λ i is js same. omega (arith, same);
  first_two = λ i j is. refl;
  in_turn = λ is js ks one other. one ∙ other;
})

-- what is left to do adds to what was done
as_many : (kinds done rest : List Kind) → IsPermutation kinds (done ++ rest) → length (rules_fired kinds) ≡ length (rules_fired done) + length (rules_fired rest)
as_many kinds done rest alike =
    as_long (rules_fired kinds) (rules_fired (done ++ rest)) (fired_alike kinds (done ++ rest) alike)
    ∙ ap (λ (is : List ℕ). length is) (rules_fired-append done rest) ∙ length-append (rules_fired done) (rules_fired rest)

pub returns : goal.returns
returns c = λ s bounds asked outcome line e kinds is cut chain quiet.
    let stop = c.what_a_stop_says.ensures.steps s bounds is.answer outcome.interactions outcome.by_rule.items is.rule_set is.over is.names
    (subst (λ (x : End). IsReached s bounds is.answer x outcome.interactions outcome.by_rule.items) cut is.reached) in
    let reached = stop.2 in
    let on = c.every_order_ends_in_the_same_net.ensures.goes_on s.rules kinds reached.kinds s.config e reached.end is.rule_set is.over is.names chain quiet reached.chain in
    omega (arith, stop.3, ap (λ (fired : List ℕ). length fired) reached.interactions, as_many kinds reached.kinds on.0 on.4)
