-- Lemmas: bytes are a form of a table in one way at most, and it can be told whether they are.
use Rattle.std.proofs.Common.{◌≡◌, ◌≢◌, ◌⊎◌, inl, inr, ⊎_elim, ℕ, List, [], ◌∷◌, Bool, true, false, Option, None, Some, get_or, refl, sym, ◌∙◌, ap, arith}
use Rattle.std.specs.Coded.{Coded-set, coded_list, coded_option, coded_ℕ, ×_prop, Unit-prop}
use Rattle.std.specs.Str.{bytes_eq}
use Rattle.std.specs.Cmp.Lexicographic.{bytes_decides}
use Rattle.std.proofs.Props.{props}
use Rattle.ic_jobs.specs.Job.{JobParts}
use Rattle.ic_codec.specs.Tables.{table_bytes, old_table_bytes, HasNoBudgets, IsOldFormOf, IsFormOf}

numbers-set : IsSet (List ℕ)
numbers-set = Coded-set (coded_list coded_ℕ)

budget-set : IsSet (Option ℕ)
budget-set = Coded-set (coded_option coded_ℕ)

HasNoBudgets-prop : (t : List JobParts) → IsProp (HasNoBudgets t)
HasNoBudgets-prop [] = Unit-prop
HasNoBudgets-prop (j ∷ t) = ×_prop (budget-set _ _) (HasNoBudgets-prop t)

IsOldFormOf-prop : (t : List JobParts) (bytes : List ℕ) → IsProp (IsOldFormOf t bytes)
IsOldFormOf-prop t bytes = hlevel (HasNoBudgets-prop, numbers-set, props)

-- the letters of the two forms differ
not_both : (t : List JobParts) → table_bytes t ≡ old_table_bytes t → ⊥
not_both t e = let letters : ◌≡◌ {A = ℕ} 50 49 = ap (λ (l : List ℕ). get_or l 3 0) e in omega (arith, letters)

pub IsFormOf-prop : (t : List JobParts) (bytes : List ℕ) → IsProp (IsFormOf t bytes)
IsFormOf-prop t bytes (inl a) (inl b) = ap inl (numbers-set _ _ a b)
IsFormOf-prop t bytes (inl a) (inr b) = absurd (not_both t (sym a ∙ b.bytes_are))
IsFormOf-prop t bytes (inr a) (inl b) = absurd (not_both t (sym b ∙ a.bytes_are))
IsFormOf-prop t bytes (inr a) (inr b) = ap inr (IsOldFormOf-prop t bytes a b)

same_or_not : (b : Bool) (xs ys : List ℕ) → bytes_eq xs ys ≡ b → (xs ≡ ys) ⊎ (xs ≢ ys)
same_or_not true xs ys e = inl ((bytes_decides xs ys).0 e)
same_or_not false xs ys e = inr (λ same. let never : true ≡ false = sym ((bytes_decides xs ys).1 same) ∙ e in cc)

budget_or_none : (budget : Option ℕ) → (budget ≡ None) ⊎ (budget ≢ None)
budget_or_none None = inl refl
budget_or_none (Some n) = inr (λ e. cc)

budgets_or_none : (t : List JobParts) → HasNoBudgets t ⊎ ¬ HasNoBudgets t
budgets_or_none [] = inl tt
budgets_or_none (j ∷ t) = ⊎_elim
    (λ none. ⊎_elim (λ others. inl (none, others)) (λ some. inr (λ all. some all.1)) (budgets_or_none t))
    (λ some. inr (λ all. some all.0))
    (budget_or_none j.budget)

pub form_or_not : (t : List JobParts) (bytes : List ℕ) → IsFormOf t bytes ⊎ ¬ IsFormOf t bytes
form_or_not t bytes = ⊎_elim
    (λ new. inl (inl new))
    (λ not_new. ⊎_elim
    (λ none. ⊎_elim
    (λ old. inl (inr (record { unbudgeted = none; bytes_are = old })))
    (λ not_old. inr (λ form. ⊎_elim not_new (λ old. not_old old.bytes_are) form))
    (same_or_not (bytes_eq bytes (old_table_bytes t)) bytes (old_table_bytes t) refl))
    (λ some. inr (λ form. ⊎_elim not_new (λ old. some old.unbudgeted) form))
    (budgets_or_none t))
    (same_or_not (bytes_eq bytes (table_bytes t)) bytes (table_bytes t) refl)
