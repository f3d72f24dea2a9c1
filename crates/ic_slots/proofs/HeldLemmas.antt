-- What a file holds is one thing.
use Rattle.std.proofs.Common.{◌≡◌, ◌∙◌, ⊎_elim, ap, sym, refl, subst, List, ℕ}
use Rattle.ic_jobs.specs.Job.{JobParts}
use Rattle.ic_jobs.specs.Table.{IsTable}
use Rattle.ic_codec.specs.Tables.{IsFormOf}
use Rattle.ic_frames.specs.Held.{the_body}
use Rattle.ic_frames.specs.Held.{no_slot as no_open_slot, two_alike as two_alike_slots, damaged as damaged_slot}
use Rattle.ic_slots.specs.Held.{Held, IsHeld, the_table, no_slot, two_alike, damaged}

pub same_body : (xs ys : List ℕ) → the_body xs ≡ the_body ys → xs ≡ ys
same_body xs ys e = cc

body_not_none : (xs : List ℕ) → the_body xs ≡ no_open_slot → ⊥
body_not_none xs e = cc

body_not_two : (xs : List ℕ) → the_body xs ≡ two_alike_slots → ⊥
body_not_two xs e = cc

body_not_damaged : (xs : List ℕ) → the_body xs ≡ damaged_slot → ⊥
body_not_damaged xs e = cc

none_not_two : no_open_slot ≡ two_alike_slots → ⊥
none_not_two e = cc

none_not_damaged : no_open_slot ≡ damaged_slot → ⊥
none_not_damaged e = cc

two_not_damaged : two_alike_slots ≡ damaged_slot → ⊥
two_not_damaged e = cc

module _ (own : (t u : List JobParts) (bytes : List ℕ) → IsTable t → IsTable u → IsFormOf t bytes → IsFormOf u bytes → t ≡ u) (file : List ℕ) where
  one_table : (t u : List JobParts) → IsHeld (the_table t) file → IsHeld (the_table u) file → t ≡ u
  one_table t u this that = own t u that.1.body this.0 that.0 (subst (λ (b : List ℕ). IsFormOf t b) (same_body this.1.body that.1.body (sym this.1.held ∙ that.1.held)) this.1.form) that.1.form

  table_or_damaged : (t : List JobParts) → IsHeld (the_table t) file → IsHeld damaged file → ⊥
  table_or_damaged t is not = ⊎_elim
      (λ spoiled. body_not_damaged is.1.body (sym is.1.held ∙ spoiled))
      (λ none. none.2 t is.0 (subst (λ (b : List ℕ). IsFormOf t b) (same_body is.1.body none.0 (sym is.1.held ∙ none.1)) is.1.form))
      not

  none_or_damaged : IsHeld no_slot file → IsHeld damaged file → ⊥
  none_or_damaged is not = ⊎_elim
      (λ spoiled. none_not_damaged (sym is ∙ spoiled))
      (λ none. body_not_none none.0 (sym none.1 ∙ is))
      not

  two_or_damaged : IsHeld two_alike file → IsHeld damaged file → ⊥
  two_or_damaged is not = ⊎_elim
      (λ spoiled. two_not_damaged (sym is ∙ spoiled))
      (λ none. body_not_two none.0 (sym none.1 ∙ is))
      not

  pub only_one : (one other : Held) → IsHeld one file → IsHeld other file → one ≡ other
  only_one (the_table t) (the_table u) this that = ap the_table (one_table t u this that)
  only_one (the_table t) no_slot this that = absurd (body_not_none this.1.body (sym this.1.held ∙ that))
  only_one (the_table t) two_alike this that = absurd (body_not_two this.1.body (sym this.1.held ∙ that))
  only_one (the_table t) damaged this that = absurd (table_or_damaged t this that)
  only_one no_slot (the_table u) this that = absurd (body_not_none that.1.body (sym that.1.held ∙ this))
  only_one no_slot two_alike this that = absurd (none_not_two (sym this ∙ that))
  only_one no_slot damaged this that = absurd (none_or_damaged this that)
  only_one two_alike (the_table u) this that = absurd (body_not_two that.1.body (sym that.1.held ∙ this))
  only_one two_alike no_slot this that = absurd (none_not_two (sym that ∙ this))
  only_one two_alike damaged this that = absurd (two_or_damaged this that)
  only_one damaged (the_table u) this that = absurd (table_or_damaged u that this)
  only_one damaged no_slot this that = absurd (none_or_damaged that this)
  only_one damaged two_alike this that = absurd (two_or_damaged that this)
  only_one _ _ this that = refl
