use Rattle.std.proofs.Common.{◌≡◌, ◌+◌, ◌<◌, ◌++◌, ◌∷◌, [], Bool, true, false, cond, count_by, length, drop, get_or, not, append_assoc, sym, ap, ◌∙◌, arith}
use Rattle.std.proofs.lemmas.List.{drop_more}
use Rattle.ic_plans.specs.inner.Given.{numbers_from}
use Rattle.ic_plans.proofs.ListedLemmas.{numbers-step, unset-step}
use Rattle.ic_plans.proofs.first.number_marks.Goals as goal
use Rattle.ic_plans.proofs.first.number_marks.Goals.{then-mark+in_ok-push, else-mark+in_ok-push-2}

pub overflow_add-unset : goal.overflow_add-unset
overflow_add-unset c =
    let marks = c.args.marks.now in
    let i = c.loop-mark.mark-index in
    let within : i < length marks = omega arith in
    let here = ap (count_by (λ mark. not mark)) (drop_more marks i false within ∙ ap (λ b. b ∷ drop (i + 1) marks) c.if-mark.false) ∙ unset-step false (drop (i + 1) marks) in
    omega (arith, here, c.loop-mark.invariant.unset, c.requires.other)

pub loop-mark-preserved : goal.loop-mark-preserved
loop-mark-preserved c =
    let marks = c.args.marks.now in
    let i = c.loop-mark.mark-index in
    let within : i < length marks = omega arith in
    let old = c.loop-mark.numbers.items in
    let set = c.loop-mark.set in
    let unset = c.loop-mark.unset in
    let rest = drop (i + 1) marks in
    let step : numbers_from set unset (drop i marks) ≡ cond (get_or marks i false) (set ∷ numbers_from (set + 1) unset rest) (unset ∷ numbers_from set (unset + 1) rest) =
    ap (numbers_from set unset) (drop_more marks i false within) ∙ numbers-step (get_or marks i false) set unset rest in
    let count = λ (b : Bool) (e : get_or marks i false ≡ b). ap (count_by (λ mark. not mark)) (drop_more marks i false within ∙ ap (λ a. a ∷ rest) e) ∙ unset-step b rest in
    elim c.if-mark.branch [
      | then-mark+in_ok-push w ↦
          rw (w.numbers-is, w.set-is, w.unset-is) (record {
            set = omega (arith, c.loop-mark.invariant.set);
            unset = omega (arith, c.loop-mark.invariant.unset, count true w.if-mark.true);
            numbers = ap (λ l. l ++ numbers_from (set + 1) unset rest) w.in_ok-push.ensures.items ∙ append_assoc old (set ∷ []) (numbers_from (set + 1) unset rest)
                ∙ ap (λ l. old ++ l) (sym (step ∙ ap (λ (b : Bool). cond b (set ∷ numbers_from (set + 1) unset rest) (unset ∷ numbers_from set (unset + 1) rest)) w.if-mark.true)) ∙ c.loop-mark.invariant.numbers;
          })
      | else-mark+in_ok-push-2 w ↦
          rw (w.numbers-is, w.set-is, w.unset-is) (record {
            set = omega (arith, c.loop-mark.invariant.set);
            unset = omega (arith, c.loop-mark.invariant.unset, count false w.if-mark.false);
            numbers = ap (λ l. l ++ numbers_from set (unset + 1) rest) w.in_ok-push-2.ensures.items ∙ append_assoc old (unset ∷ []) (numbers_from set (unset + 1) rest)
                ∙ ap (λ l. old ++ l) (sym (step ∙ ap (λ (b : Bool). cond b (set ∷ numbers_from (set + 1) unset rest) (unset ∷ numbers_from set (unset + 1) rest)) w.if-mark.false)) ∙ c.loop-mark.invariant.numbers;
          })
    ]
