use Rattle.std.proofs.Common.{◌≡◌, ◌+◌, ◌<◌, ◌++◌, ◌∷◌, [], Bool, false, cond, length, drop, get_or, append_assoc, sym, ap, ◌∙◌, arith}
use Rattle.std.proofs.lemmas.List.{drop_more}
use Rattle.ic_plans.specs.inner.Given.{singles}
use Rattle.ic_plans.proofs.ListedLemmas.{singles-step}
use Rattle.ic_plans.proofs.first.singles_of.Goals as goal
use Rattle.ic_plans.proofs.first.singles_of.Goals.{then-is_marked+in_ok-push, else-is_marked}

pub loop-place-preserved : goal.loop-place-preserved
loop-place-preserved c =
    let names = c.args.names.now in
    let marks = c.args.marks.now in
    let i = c.loop-place.place in
    let within : i < length names = omega arith in
    let inside : i < length marks = omega (arith, within, c.requires) in
    let n = get_or names i 0 in
    let old = c.loop-place.found.items in
    let rest = singles (drop (i + 1) names) (drop (i + 1) marks) in
    let front = drop_more names i 0 within in
    let mark = drop_more marks i false inside in
    let step : singles (drop i names) (drop i marks) ≡ cond (get_or marks i false) (n ∷ rest) rest =
    (λ j. singles (front j) (mark j)) ∙ singles-step (get_or marks i false) n (drop (i + 1) names) (drop (i + 1) marks) in
    elim c.if-is_marked.branch [
      | then-is_marked+in_ok-push w ↦
          rw w.found-is (ap (λ l. l ++ rest) w.in_ok-push.ensures.items ∙ append_assoc old (n ∷ []) rest
          ∙ ap (λ l. old ++ l) (sym (step ∙ ap (λ (b : Bool). cond b (n ∷ rest) rest) (sym c.is_marked.ensures ∙ w.if-is_marked.true))) ∙ c.loop-place.invariant)
      | else-is_marked w ↦
          rw w.found-is (ap (λ l. old ++ l) (sym (step ∙ ap (λ (b : Bool). cond b (n ∷ rest) rest) (sym c.is_marked.ensures ∙ w.if-is_marked.false))) ∙ c.loop-place.invariant)
    ]
