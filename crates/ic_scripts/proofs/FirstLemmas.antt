-- The first of the faults.
use Rattle.std.proofs.Common.{◌≡◌, ◌∙◌, ◌+◌, ◌<◌, ℕ, List, [], ◌∷◌, ◌++◌, Option, None, Some, length, take, get_or, slice_get, zero, suc, refl, sym, ap, ap₂, arith}
use Rattle.std.specs.Prelude.{Result, Ok, Err}
use Rattle.std.specs.List.{AllByRecursion, filter_map}
use Rattle.ic_book.specs.declared.fault.BookFault.{BookFault}
use Rattle.ic_attend.specs.declared.attended.ClientRun.{ClientRun}
use Rattle.ic_attend.specs.declared.attended.RunnerEnd.{RunnerEnd}
use Rattle.ic_scripts.specs.Telling.{IsFirstOf, client_fault, faults_of, keep_faults, runner_fault}
use Rattle.ic_scripts.specs.declared.fault.ScriptsFault.{ScriptsFault}

module _ {X Y : Type 0} (f : X → Option Y) where
  -- where nothing is found, and then something, that is the first
  pub found_first : (xs : List X) (i : ℕ) (x : X) (y : Y) → filter_map f (take i xs) ≡ [] → i < length xs → x ≡ get_or xs i x → f x ≡ Some y
      → slice_get (filter_map f xs) 0 ≡ Some y
  found_first [] i x y none small is found = absurd (omega (arith, small))
  found_first (z ∷ zs) zero x y none small is found = rw (ap f (sym is) ∙ found) refl
  found_first (z ∷ zs) (suc i) x y none small is found = go (f z) refl (λ rest. found_first zs i x y rest (omega (arith, small)) is found)
    where
      go : (o : Option Y) → f z ≡ o → (filter_map f (take i zs) ≡ [] → slice_get (filter_map f zs) 0 ≡ Some y) → slice_get (filter_map f (z ∷ zs)) 0 ≡ Some y
      go None e rest = rw e (rest (rw e at none))
      go (Some w) e rest = let bad : w ∷ filter_map f (take i zs) ≡ [] = rw e at none in cc

  -- one more that isn't found
  pub none_more : (xs : List X) (i : ℕ) (x : X) → filter_map f (take i xs) ≡ [] → i < length xs → x ≡ get_or xs i x → f x ≡ None
      → filter_map f (take (i + 1) xs) ≡ []
  none_more [] i x none small is missed = absurd (omega (arith, small))
  none_more (z ∷ zs) zero x none small is missed = rw (ap f (sym is) ∙ missed) refl
  none_more (z ∷ zs) (suc i) x none small is missed =
      ap (λ k. filter_map f (take k (z ∷ zs))) (next i) ∙ go (f z) refl (λ rest. none_more zs i x rest (omega (arith, small)) is missed)
    where
      next : (i : ℕ) → suc i + 1 ≡ suc (i + 1)
      next i = omega arith

      go : (o : Option Y) → f z ≡ o → (filter_map f (take i zs) ≡ [] → filter_map f (take (i + 1) zs) ≡ []) → filter_map f (z ∷ take (i + 1) zs) ≡ []
      go None e rest = rw e (rest (rw e at none))
      go (Some w) e rest = let bad : w ∷ filter_map f (take i zs) ≡ [] = rw e at none in cc

  -- nothing is found where there is no first
  pub none_found : (xs : List X) → None ≡ slice_get (filter_map f xs) 0 → filter_map f xs ≡ []
  none_found xs none = empty (filter_map f xs) none
    where
      empty : (ys : List Y) → None ≡ slice_get ys 0 → ys ≡ []
      empty [] e = refl
      empty (y ∷ ys) e = cc

  -- what isn't found before
  pub none_before : (before more : List X) → AllByRecursion (λ x. f x ≡ None) before → filter_map f (before ++ more) ≡ filter_map f more
  none_before [] more none = refl
  none_before (x ∷ xs) more none = rw none.0 (none_before xs more none.1)

  pub none_all : (xs : List X) → AllByRecursion (λ x. f x ≡ None) xs → filter_map f xs ≡ []
  none_all [] none = refl
  none_all (x ∷ xs) none = rw none.0 (none_all xs none.1)

-- the first of faults is told
pub first_told : {T : Type 0} (faults rest : List ScriptsFault) (fault : ScriptsFault) (told : Result T ScriptsFault) → faults ≡ fault ∷ rest
    → IsFirstOf faults told → told ≡ Err fault
first_told faults rest fault (Ok done) is first = let bad : fault ∷ rest ≡ [] = sym is ∙ first in cc
first_told faults rest fault (Err other) is first = let same : Some fault ≡ Some other = ap (λ (l : List ScriptsFault). slice_get l 0) (sym is) ∙ first in cc

-- where no client stopped and no runner ended by a fault, the keep's is alone
pub keep_alone : {T : Type 0} (runs : List ClientRun) (ends : List RunnerEnd) (kept : Result T BookFault) → None ≡ slice_get (filter_map client_fault runs) 0
    → None ≡ slice_get (filter_map runner_fault ends) 0 → faults_of runs ends kept ≡ keep_faults kept
keep_alone runs ends kept clients runners =
    ap₂ (λ (a b : List ScriptsFault). a ++ b ++ keep_faults kept) (none_found client_fault runs clients) (none_found runner_fault ends runners)
