-- How many jobs are missing while a batch is under way.
use Rattle.std.proofs.Common.{◌≡◌, ℕ, ◌+◌, ◌≤◌, List, [], ◌∷◌, ◌++◌, Bool, true, false, Option, None, Some, length, map, refl, sym, ap, subst, ◌∙◌, append_assoc, length-append, arith}
use Rattle.std.specs.Prelude.{is_some, not, if◌then◌else◌}
use Rattle.std.specs.List.{AllByRecursion, AllZip}
use Rattle.std.specs.Option.{option_or}
use Rattle.std.proofs.lemmas.List.{length-map}
use Rattle.std.proofs.lemmas.List.Folds.{find-append}
use Rattle.ic_jobs.specs.Job.{JobParts}
use Rattle.ic_jobs.specs.Table.{is_named, job_named}
use Rattle.ic_batch.specs.declared.jobs.NewJob.{NewJob}
use Rattle.ic_batch.specs.Faults.{HasNoRoom}
use Rattle.ic_batch.specs.Jobs.{begun_by}
use Rattle.ic_batch.specs.Way.{missing, AreWays, IsOnWay, IsUnderWay}
use Rattle.ic_batch.proofs.JobLemmas.{is_same}
use Rattle.ic_batch.proofs.NewLemmas.{is_new, more_missing, not_missing}
use Rattle.ic_batch.proofs.WayLemmas.{IsNamed, named_way}

-- a table has jobs of all these names
abbrev AreThere : List JobParts → List NewJob → Type 0
AreThere u jobs = AllByRecursion (λ k. is_some (job_named k.name u) ≡ true) jobs

-- it has one of each name of another
abbrev HasNames : (t u : List JobParts) → Type 0
HasNames t u = (name : List ℕ) → is_some (job_named name t) ≡ true → is_some (job_named name u) ≡ true

head_same : (x y : NewJob) (xs ys : List NewJob) → x ∷ xs ≡ y ∷ ys → x ≡ y
head_same x y xs ys is = cc

tail_same : (x y : NewJob) (xs ys : List NewJob) → x ∷ xs ≡ y ∷ ys → xs ≡ ys
tail_same x y xs ys is = cc

there_not_new : (u : List JobParts) (new : NewJob) → is_some (job_named new.name u) ≡ true → is_new u new ≡ false
there_not_new u new is = ap not is

not_new_there : (b : Bool) → not b ≡ false → b ≡ true
not_new_there true is = refl
not_new_there false is = cc

-- of those that were missing no more are than those that haven't come
module _ (t u : List JobParts) (names : HasNames t u) where
  abbrev Fewer : List NewJob → Type 0
  Fewer jobs = (front rest : List NewJob) → AreThere u front → missing t jobs ≡ front ++ rest → length (missing u jobs) ≤ length rest

  fewer : (jobs front rest : List NewJob) → AreThere u front → missing t jobs ≡ front ++ rest → length (missing u jobs) ≤ length rest
  fewer [] front rest there parted = omega arith
  fewer (new ∷ jobs) front rest there parted = by (λ f r all is. fewer jobs f r all is) (is_new t new) refl front there parted
    where
      here : (rest : List NewJob) → is_new u new ≡ false → length (missing u jobs) ≤ length rest → length (missing u (new ∷ jobs)) ≤ length rest
      here rest is few = (let same = ap length (not_missing u new jobs is) in omega (arith, same, few))

      longer : (b : Bool) → is_new u new ≡ b → (n : ℕ) → length (missing u jobs) ≤ n → length (missing u (new ∷ jobs)) ≤ n + 1
      longer true is n few = (let same = ap length (more_missing u new jobs is) in omega (arith, same, few))
      longer false is n few = (let same = ap length (not_missing u new jobs is) in omega (arith, same, few))

      by : Fewer jobs → (b : Bool) → is_new t new ≡ b → (front : List NewJob) → AreThere u front → missing t (new ∷ jobs) ≡ front ++ rest
          → length (missing u (new ∷ jobs)) ≤ length rest
      by less false is front there parted =
          here rest (there_not_new u new (names new.name (not_new_there (is_some (job_named new.name t)) is)))
          (less front rest there (sym (not_missing t new jobs is) ∙ parted))
      by less true is [] there parted =
          let all : new ∷ missing t jobs ≡ rest = sym (more_missing t new jobs is) ∙ parted in
          let few = longer (is_new u new) refl (length (missing t jobs)) (less [] (missing t jobs) tt refl) in
          let size = ap length all in
          omega (arith, few, size)
      by less true is (k ∷ front) there parted =
          let all : new ∷ missing t jobs ≡ k ∷ (front ++ rest) = sym (more_missing t new jobs is) ∙ parted in
          let same = head_same new k (missing t jobs) (front ++ rest) all in
          here rest (there_not_new u new (subst (λ (j : NewJob). is_some (job_named j.name u) ≡ true) (sym same) there.0))
          (less front rest there.1 (tail_same new k (missing t jobs) (front ++ rest) all))

-- ---- a table with jobs after it has them

some_or : {X : Type 0} (a b : Option X) → is_some b ≡ true → is_some (option_or a b) ≡ true
some_or None b is = is
some_or (Some x) b is = refl

some_first : {X : Type 0} (a b : Option X) → is_some a ≡ true → is_some (option_or a b) ≡ true
some_first None b is = cc
some_first (Some x) b is = refl

first_is : (k : NewJob) (more : List JobParts) → is_some (job_named k.name (begun_by k ∷ more)) ≡ true
first_is k more =
    ap (λ (b : Bool). is_some (if b then Some (begun_by k) else job_named k.name more)) (is_same k.name k.name refl)

kept_names : (t more : List JobParts) → HasNames t (t ++ more)
kept_names t more name is = ap is_some (find-append (is_named name) t more) ∙ some_first (job_named name t) (job_named name more) is

all_there : (t : List JobParts) (front : List NewJob) → AreThere (t ++ map begun_by front) front
all_there t [] = tt
all_there t (k ∷ front) =
    let more = map begun_by front in (
      ap is_some (find-append (is_named k.name) t (begun_by k ∷ more)) ∙ some_or (job_named k.name t) (job_named k.name (begun_by k ∷ more)) (first_is k more),
      subst (λ (l : List JobParts). AreThere l front) (append_assoc t (begun_by k ∷ []) more) (all_there (t ++ begun_by k ∷ []) front),
    )

-- ---- the same of jobs that are on their ways

way_names : (most : ℕ) (from u : List JobParts) → AreWays most from u → HasNames from u
way_names most from u ways name is = by (job_named name from) refl (named_way most name from u ways) is
  where
    by : (o : Option JobParts) → job_named name from ≡ o → IsNamed (IsOnWay most) o (job_named name u) → is_some o ≡ true → is_some (job_named name u) ≡ true
    by None at named is = cc
    by (Some j) at named is = ap is_some named.1

there_then : (from u : List JobParts) → HasNames from u → (front : List NewJob) → AreThere from front → AreThere u front
there_then from u names [] there = tt
there_then from u names (k ∷ front) there = (names k.name there.0, there_then from u names front there.1)

zip_length : (R : JobParts → JobParts → Type 0) (xs ys : List JobParts) → AllZip R xs ys → length ys ≡ length xs
zip_length R [] [] zip = refl
zip_length R (x ∷ xs) (y ∷ ys) zip = (let same = zip_length R xs ys zip.1 in omega (arith, same))
zip_length R xs ys zip = absurd zip

pub room_stays : (most : ℕ) (jobs : List NewJob) (t u : List JobParts) → IsUnderWay most jobs t u → HasNoRoom jobs u → HasNoRoom jobs t
room_stays most jobs t u under none =
    let from = t ++ map begun_by under.front in
    let names = way_names most from u under.ways in
    let few = fewer t u (λ name is. names name (kept_names t (map begun_by under.front) name is)) jobs under.front under.rest
    (there_then from u names under.front (all_there t under.front)) under.parted in
    let long = zip_length (IsOnWay most) from u under.ways in
    let sum = length-append t (map begun_by under.front) in
    let some = length-map under.front begun_by in
    let parts = ap length under.parted ∙ length-append under.front under.rest in
    omega (arith, none, few, long, sum, some, parts)
