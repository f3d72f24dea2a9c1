-- After keeps that were answered a stop may come.
use Rattle.std.proofs.Common.{inr, ℕ, Bool, List, refl}
use Rattle.ic_kept.specs.declared.keeper.Keeper.{Keeper}
use Rattle.ic_kept.specs.Keeper.{newest_of, other_of}
use Rattle.ic_kept.specs.Course.{Course, no_keep, one_more, LeftInCourse}

module _ {D : Type 0} (keeps_model : D → Bool) (image : D → List ℕ → Type 0) (clock : D → ℕ) (left : D → ℕ → List ℕ → Type 0) (After : (old new : List ℕ) → Type 0) where
  pub ends_between : (k n : Keeper D) (first last : List ℕ) → (course : Course keeps_model image clock left After first k last n)
      → (a b : List ℕ) → image (newest_of n) a → image (other_of n) b → LeftInCourse keeps_model image clock left course last last a b
  ends_between k n first last (no_keep state x) a b on_newest on_other = record { kept_is = refl; coming_is = refl; on_newest = on_newest; on_other = on_other }
  ends_between k n first last (one_more f state next x m y before after keep) a b on_newest on_other =
      inr (inr (record { kept_is = refl; coming_is = refl; on_newest = on_newest; on_other = on_other }))
