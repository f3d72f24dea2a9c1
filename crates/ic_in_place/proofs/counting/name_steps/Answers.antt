use Rattle.std.proofs.Common.{◌≡◌, ◌+◌, ◌-◌, ◌*◌, ◌^◌, ◌<◌, ◌≤◌, ℕ, zero, suc, List, [], ◌∷◌, Option, None, Some, length, drop, refl, sym, ap, ◌∙◌, arith, slice_index_or, subst}
use Rattle.std.specs.Prelude.{SomeIff}
use Rattle.std.proofs.lemmas.List.{length-map}
use Rattle.ic_term.specs.Tree.{Tree}
use Rattle.ic_term.specs.Term.{tree}
use Rattle.ic_rules.specs.Rule.{Rule}
use Rattle.ic_in_place.specs.Summing.{made_from}
use Rattle.ic_in_place.proofs.NameSteps.{made_step}
use Rattle.ic_in_place.proofs.counting.name_steps.Goals as goal

-- no rule is left
none_left : (k : ℕ) (rs : List Rule) (ns : List ℕ) (i : ℕ) → length rs ≤ k → made_from (drop k rs) ns i ≡ 0
none_left zero [] ns i low = refl
none_left (suc k) [] ns i low = refl
none_left zero (r ∷ rs) ns i low = absurd (omega (arith, low))
none_left (suc k) (r ∷ rs) ns i low = none_left k rs ns i (omega (arith, low))

-- what is left of a number less another, if that is no more
taken_off : (o : Option ℕ) (all left n interactions : ℕ) → SomeIff o (left ≤ all) (all - left) → n + left ≡ all → n + interactions + left < 2 ^ 64
    → SomeIff o (n + interactions + left < 2 ^ 64) n
taken_off None all left n interactions is same small = λ low. is (omega (arith, same))
taken_off (Some m) all left n interactions is same small = (small, omega (arith, is.1, same))

pub returns : goal.returns
returns c = λ n sum.
    let none = none_left c.loop-place.place c.args.rules.now c.args.by_rule.now c.loop-place.place (omega arith) in
    let rest = c.loop-place.invariant.rest in
    let small = c.loop-place.invariant.small in
    let first = c.in_ok-checked_sub.ensures in
    taken_off c.checked_sub-2.result c.in_ok-checked_sub.field-0 c.args.left n c.args.interactions c.checked_sub-2.ensures
    (omega (arith, sum, rest, none, first)) (omega (arith, sum, rest, none, small))

pub returns-in_err-made-2 : goal.returns-in_err-made-2
returns-in_err-made-2 c = λ n sum.
    let r : Rule = c.index-rules-place.result in
    let many : ℕ = slice_index_or c.args.by_rule.now c.loop-place.place 0 in
    let times : c.count_of-times.result ≡ many = c.count_of-times.ensures in
    let left : length c.left_args.result.now ≡ length r.left_args =
    sym (length-map c.left_args.result.now tree) ∙ ap (length {A = Tree}) c.left_args.ensures.args in
    let right : length c.right_args.result.now ≡ length r.right_args =
    sym (length-map c.right_args.result.now tree) ∙ ap (length {A = Tree}) c.right_args.ensures.args in
    let first : c.count_of-times.result * length c.left_args.result.now ≡ many * length r.left_args = (λ i. times i * left i) in
    let then : c.count_of-times.result * length c.right_args.result.now ≡ many * length r.right_args = (λ i. times i * right i) in
    let step = made_step c.args.rules.now c.args.by_rule.now c.loop-place.place r c.loop-place-test.true c.index-rules-place.is in
    let rest = c.loop-place.invariant.rest in
    let one = c.in_ok-made.ensures.1 in
    subst (λ (o : Option ℕ). SomeIff o (n + c.args.interactions + c.args.left < 2 ^ 64) n) (sym c.from_residual-in_err-made-2.ensures)
    (λ small. c.in_err-made-2.ensures (omega (arith, sum, small, rest, step, first, then, one)))

pub loop-place-preserved : goal.loop-place-preserved
loop-place-preserved c =
    let r : Rule = c.index-rules-place.result in
    let many : ℕ = slice_index_or c.args.by_rule.now c.loop-place.place 0 in
    let times : c.count_of-times.result ≡ many = c.count_of-times.ensures in
    let left : length c.left_args.result.now ≡ length r.left_args =
    sym (length-map c.left_args.result.now tree) ∙ ap (length {A = Tree}) c.left_args.ensures.args in
    let right : length c.right_args.result.now ≡ length r.right_args =
    sym (length-map c.right_args.result.now tree) ∙ ap (length {A = Tree}) c.right_args.ensures.args in
    let first : c.count_of-times.result * length c.left_args.result.now ≡ many * length r.left_args = (λ i. times i * left i) in
    let then : c.count_of-times.result * length c.right_args.result.now ≡ many * length r.right_args = (λ i. times i * right i) in
    let step = made_step c.args.rules.now c.args.by_rule.now c.loop-place.place r c.loop-place-test.true c.index-rules-place.is in
    let rest = c.loop-place.invariant.rest in
    let one = c.in_ok-made.ensures.1 in
    let two = c.in_ok-made-2.ensures.1 in
    record { rest = omega (arith, rest, step, first, then, one, two); small = omega (arith, c.in_ok-made-2.ensures.0, two) }
