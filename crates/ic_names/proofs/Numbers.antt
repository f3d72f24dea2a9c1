-- The numbers that names have: none in new rows, and one more after a call.
use Rattle.std.proofs.Common.{◌≡◌, ℕ, zero, suc, ◌<◌, ◌^◌, ◌-◌, ◌&&◌, List, [], ◌∷◌, Bool, true, false, cond, Option, None, Some, Result, Ok, Err, slice_get, nat_le, refl, sym, ap, ◌∙◌, arith}
use Rattle.std.specs.Prelude.{is_some, OnErr}
use Rattle.std.specs.List.{AllByRecursion}
use Rattle.std.proofs.lemmas.Option.{none-some}
use Rattle.std.proofs.lemmas.Bool.{eq-eqb, ne_eqb, true≢false}
use Rattle.ic_names.specs.declared.row.Row.{Row}
use Rattle.ic_names.specs.declared.row.TheConstants.{NONE}
use Rattle.ic_names.specs.Row.{column_of, row_of}
use Rattle.ic_names.specs.Table.{slot_at, slot_in, slot_of, told}
use Rattle.ic_names.specs.inner.Rows.{IsBlank}

-- what holds of every error
pub on_err : {A E P : Type 0} (r : Result A E) → P → OnErr r P
on_err (Ok a) p = tt
on_err (Err e) p = p

-- ---- new rows

blank_in : (r : Row) (c n : ℕ) → IsBlank r → slot_in r c ≡ Some n → n ≡ NONE
blank_in r c n blank there = at (nat_le r.first c) there
  where
    at : (b : Bool) → cond b (slice_get r.slots.items (c - r.first)) None ≡ Some n → n ≡ NONE
    at true e = blank (c - r.first) n e
    at false e = absurd (none-some n e)

blank_at : (rows : List Row) (i c n : ℕ) → AllByRecursion IsBlank rows → slot_at (slice_get rows i) c ≡ Some n → n ≡ NONE
blank_at [] i c n all there = absurd (none-some n there)
blank_at (r ∷ rows) zero c n all there = blank_in r c n all.0 there
blank_at (r ∷ rows) (suc i) c n all there = blank_at rows i c n all.1 there

pub none_told : (rows : List Row) → AllByRecursion IsBlank rows → (x : ℕ) (other : Option ℕ) → other ≡ None → told (slot_of rows x) other ≡ None
none_told rows all x other none = at (slot_of rows x) refl
  where
    at : (o : Option ℕ) → slot_of rows x ≡ o → told o other ≡ None
    at None e = none
    at (Some n) e = ap (λ b. cond b None (Some n)) (eq-eqb n NONE (blank_at rows (row_of x) (column_of x) n all e))

-- ---- a number more

low_told : (n : ℕ) (other : Option ℕ) → n < 2 ^ 32 - 1 → told (Some n) other ≡ Some n
low_told n other low = ap (λ b. cond b None (Some n)) (ne_eqb n NONE (λ e. omega arith))

-- in a place
pub told_filled : (old new other : Option ℕ) (n : ℕ) (there same : Bool) → n < 2 ^ 32 - 1 → there ≡ true → new ≡ cond (there && same) (Some n) old
    → told new other ≡ cond same (Some n) (told old other)
told_filled old new other n there true low is filled = ap (λ o. told o other) (filled ∙ ap (λ b. cond (b && true) (Some n) old) is) ∙ low_told n other low
told_filled old new other n there false low is filled = ap (λ o. told o other) (filled ∙ ap (λ b. cond (b && false) (Some n) old) is)

-- elsewhere
pub told_besides : (old new mine before after : Option ℕ) (n : ℕ) (there same : Bool) → there ≡ false → there ≡ is_some mine
    → (same ≡ true → old ≡ mine) → new ≡ cond (there && same) (Some n) old → after ≡ cond same (Some n) before
    → told new after ≡ cond same (Some n) (told old before)
told_besides old new mine before after n there true none some is filled updated =
    let unplaced : old ≡ None = nothing mine (sym some ∙ none) (is refl) in
    ap (λ o. told o after) (filled ∙ ap (λ b. cond (b && true) (Some n) old) none ∙ unplaced) ∙ updated
  where
    nothing : (o : Option ℕ) → is_some o ≡ false → old ≡ o → old ≡ None
    nothing None e s = s
    nothing (Some m) e s = absurd (true≢false e)
told_besides old new mine before after n there false none some is filled updated =
    (λ i. told ((filled ∙ ap (λ b. cond (b && false) (Some n) old) none) i) (updated i))

pub told_kept : (old new before after : Option ℕ) (n : ℕ) (there same : Bool) → there ≡ false → new ≡ cond (there && same) (Some n) old
    → after ≡ before → told new after ≡ told old before
told_kept old new before after n there same none filled kept =
    (λ i. told ((filled ∙ ap (λ b. cond (b && same) (Some n) old) none) i) (kept i))
