use Rattle.std.proofs.Common.{ℕ, sym, ◌∙◌, rules}
use Rattle.std.proofs.lemmas.List.Sorted.{answers_always}
use Rattle.std.specs.declared.cmp.Reverse.{Reverse}
use Rattle.ic_crew.specs.declared.weighing.Weighed.{Weighed}
use Rattle.ic_crew.proofs.Weighs.{by_two_keys}
use Rattle.ic_crew.proofs.weighing.sort_greatest_first.Goals as goal

keys : Weighed → Reverse ℕ × ℕ
keys w = (record { 0 = w.size }, w.work.place)

pub returns-clause-sorted : goal.returns-clause-sorted
unfolding keys
returns-clause-sorted c =
    let sorted = c.sort_unstable_by_key.ensures.sorted keys (answers_always _ _ _ (λ f a r g h. search rules)) in
    λ k d low high. sym (by_two_keys _ _ _ _) ∙ sorted k d low high
