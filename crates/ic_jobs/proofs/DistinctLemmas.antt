-- Names that are distinct, job by job.
use Rattle.std.proofs.Common.{◌≡◌, ℕ, ◌+◌, ◌-◌, ◌<◌, ◌≤◌, ◌↔◌, List, [], ◌∷◌, ◌++◌, Bool, true, false, cond, Option, None, Some, is_some, length, take, drop, refl, sym, ap, subst, ◌∙◌, arith, get_or, add-one, length-drop}
use Rattle.std.proofs.Math.Seq.{drop-cons}
use Rattle.std.proofs.lemmas.List.{take_more, take_all}
use Rattle.std.specs.List.{position_from, AllByRecursion, IsDistinct}
use Rattle.std.specs.Str.{bytes_eq}
use Rattle.ic_jobs.specs.Job.{JobParts, IsJob}
use Rattle.ic_jobs.specs.Table.{job_names, is_named}
use Rattle.ic_jobs.proofs.TableLemmas.{All-join}

some_named : (name : List ℕ) (k : ℕ) (ys : List JobParts) → is_some (position_from (is_named name) k ys) ≡ true
    → AllByRecursion (λ y. bytes_eq name y ≡ false) (job_names ys) → ⊥
some_named name k [] e all = cc
some_named name k (y ∷ ys) e all =
    some_named name (k + 1) ys (sym (ap (λ (b : Bool). is_some (cond b (Some k) (position_from (is_named name) (k + 1) ys))) all.0) ∙ e) all.1

none_at : (name : List ℕ) (k : ℕ) (y : JobParts) (place : Option ℕ) (b : Bool) → is_named name y ≡ b → is_some (cond b (Some k) place) ≡ false
    → (is_named name y ≡ false) × (is_some place ≡ false)
none_at name k y place true is e = cc
none_at name k y place false is e = (is, e)

none_named : (name : List ℕ) (k : ℕ) (ys : List JobParts) → is_some (position_from (is_named name) k ys) ≡ false
    → AllByRecursion (λ y. bytes_eq name y ≡ false) (job_names ys)
none_named name k [] e = tt
none_named name k (y ∷ ys) e =
    let here = none_at name k y (position_from (is_named name) (k + 1) ys) (is_named name y) refl e in
    (here.0, none_named name (k + 1) ys here.1)

abbrev AreDistinct : List JobParts → Type 0
AreDistinct t = IsDistinct bytes_eq (job_names t)

next_job : (t : List JobParts) (i : ℕ) (d : JobParts) → i < length t → d ≡ get_or t i d → drop i t ≡ d ∷ drop (i + 1) t
next_job t i d h e = drop-cons t i d h ∙ (λ k. sym e k ∷ drop (sym (add-one i) k) t)

twice_in : (d : JobParts) (rest : List JobParts) → is_some (position_from (is_named d.name) 0 rest) ≡ true → AreDistinct (d ∷ rest) → ⊥
unfolding IsDistinct
twice_in d rest again distinct = some_named d.name 0 rest again distinct.0

once_in : (d : JobParts) (rest : List JobParts) → is_some (position_from (is_named d.name) 0 rest) ≡ false → AreDistinct (d ∷ rest) ↔ AreDistinct rest
unfolding IsDistinct
once_in d rest once = (λ distinct. distinct.1, λ distinct. (none_named d.name 0 rest once, distinct))

-- a name that stands again after its job isn't distinct
pub not_distinct : (t : List JobParts) (i : ℕ) (d : JobParts) → i < length t → d ≡ get_or t i d → is_some (position_from (is_named d.name) 0 (drop (i + 1) t)) ≡ true
    → AreDistinct (drop i t) → ⊥
not_distinct t i d h e again distinct =
    twice_in d (drop (i + 1) t) again (subst (λ (l : List JobParts). AreDistinct l) (next_job t i d h e) distinct)

pub distinct_from : (t : List JobParts) (i : ℕ) (d : JobParts) → i < length t → d ≡ get_or t i d → is_some (position_from (is_named d.name) 0 (drop (i + 1) t)) ≡ false
    → AreDistinct t ↔ AreDistinct (drop i t) → AreDistinct t ↔ AreDistinct (drop (i + 1) t)
distinct_from t i d h e once so_far =
    let here = once_in d (drop (i + 1) t) once in
    let next = next_job t i d h e in (
      λ all. here.0 (subst (λ (l : List JobParts). AreDistinct l) next (so_far.0 all)),
      λ rest. so_far.1 (subst (λ (l : List JobParts). AreDistinct l) (sym next) (here.1 rest)),
    )

pub jobs_so_far : (t : List JobParts) (i : ℕ) (d : JobParts) → i < length t → d ≡ get_or t i d → IsJob d → AllByRecursion IsJob (take i t) → AllByRecursion IsJob (take (i + 1) t)
jobs_so_far t i d h e job all =
    subst (λ (l : List JobParts). AllByRecursion IsJob l) (sym (take_more t i d h ∙ ap (λ (x : JobParts). take i t ++ x ∷ []) (sym e)))
    (All-join IsJob (take i t) (d ∷ []) all (job, tt))

pub none_distinct : (t : List JobParts) → t ≡ [] → AreDistinct t
unfolding IsDistinct
none_distinct t e = subst (λ (l : List JobParts). AreDistinct l) (sym e) tt

-- a slice from a place on is what is left after it
pub rest_is : (t : List JobParts) (k : ℕ) → take (length t - k) (drop k t) ≡ drop k t
rest_is t k = take_all (length t - k) (drop k t) (omega (arith, length-drop k t))
