-- Jobs on their way are so after a batch, and at its end their text is told.
use Rattle.std.proofs.Common.{◌≡◌, ℕ, List, [], ◌∷◌, ◌++◌, Bool, true, false, not, Option, None, Some, map, refl, sym, ap, subst, ◌∙◌, true≢false}
use Rattle.std.specs.Prelude.{IfSome, IsSome, if◌then◌else◌, is_some}
use Rattle.std.specs.List.{AllByRecursion, IsDistinct}
use Rattle.std.specs.Option.{option_or}
use Rattle.std.specs.Str.{bytes_eq}
use Rattle.std.proofs.lemmas.List.Folds.{find-append}
use Rattle.std.proofs.lemmas.Map.Keys.{IsDistinct-head, IsDistinct-tail}
use Rattle.ic_jobs.specs.Job.{JobParts}
use Rattle.ic_jobs.specs.Table.{is_named, job_named}
use Rattle.ic_batch.specs.declared.jobs.NewJob.{NewJob}
use Rattle.ic_batch.specs.Jobs.{begun_by, names}
use Rattle.ic_batch.specs.Way.{all_of, fetched_all, missing, AreOnWay, HaveEnded, IsOnWay, IsTextOf, IsUnderWay}
use Rattle.ic_batch.proofs.EndLemmas.{text_of_ends}
use Rattle.ic_batch.proofs.JobLemmas.{is_same}
use Rattle.ic_batch.proofs.NewLemmas.{is_new, more_missing, not_missing, swapped}
use Rattle.ic_batch.proofs.WayLemmas.{IsNamedWay, named_way, way_then, end_ways, end_over}

-- ---- one of a name

-- the jobs of one name among these are one
abbrev IsAlone : NewJob → List NewJob → Type 0
IsAlone new jobs = AllByRecursion (λ k. bytes_eq k.name new.name ≡ true → k ≡ new) jobs

apart_alone : (new : NewJob) (jobs : List NewJob) → AllByRecursion (λ y. bytes_eq new.name y ≡ false) (names jobs) → IsAlone new jobs
apart_alone new [] none = tt
apart_alone new (k ∷ jobs) none = (λ is. absurd (true≢false (sym (swapped k.name new.name is) ∙ none.0)), apart_alone new jobs none.1)

-- one more before them, of another name
more_alone : (x : NewJob) (ks jobs : List NewJob) → AllByRecursion (λ y. bytes_eq x.name y ≡ false) (names ks) → AllByRecursion (λ k. IsAlone k jobs) ks → AllByRecursion (λ k. IsAlone k (x ∷ jobs)) ks
more_alone x [] jobs none alone = tt
more_alone x (k ∷ ks) jobs none alone = ((λ is. absurd (true≢false (sym is ∙ none.0)), alone.0), more_alone x ks jobs none.1 alone.1)

all_alone : (jobs : List NewJob) → IsDistinct bytes_eq (names jobs) → AllByRecursion (λ k. IsAlone k jobs) jobs
all_alone [] distinct = tt
all_alone (x ∷ xs) distinct =
    let none = IsDistinct-head bytes_eq x.name (names xs) distinct in
    ((λ is. refl, apart_alone x xs none), more_alone x xs xs none (all_alone xs (IsDistinct-tail bytes_eq x.name (names xs) distinct)))

alone_missing : (t : List JobParts) (new : NewJob) (jobs : List NewJob) → IsAlone new jobs → IsAlone new (missing t jobs)
alone_missing t new [] alone = tt
alone_missing t new (k ∷ jobs) alone = go (alone_missing t new jobs alone.1) (is_new t k) refl
  where
    go : IsAlone new (missing t jobs) → (b : Bool) → is_new t k ≡ b → IsAlone new (missing t (k ∷ jobs))
    go rest true is = subst (IsAlone new) (sym (more_missing t k jobs is)) (alone.0, rest)
    go rest false is = subst (IsAlone new) (sym (not_missing t k jobs is)) rest

alone_front : (new : NewJob) (front rest : List NewJob) → IsAlone new (front ++ rest) → IsAlone new front
alone_front new [] rest alone = tt
alone_front new (k ∷ front) rest alone = (alone.0, alone_front new front rest alone.1)

-- ---- on the way still

module _ (most : ℕ) where
  named_front : (new : NewJob) (front : List NewJob) → IsAlone new front → IfSome (job_named new.name (map begun_by front)) (IsOnWay most (begun_by new))
  named_front new [] alone = tt
  named_front new (k ∷ front) alone = by (bytes_eq new.name k.name) (λ is. alone.0 (swapped new.name k.name is)) (named_front new front alone.1)
    where
      by : (b : Bool) → (b ≡ true → k ≡ new) → IfSome (job_named new.name (map begun_by front)) (IsOnWay most (begun_by new))
          → IfSome (if b then Some (begun_by k) else job_named new.name (map begun_by front)) (IsOnWay most (begun_by new))
      by true same rest = (0, ap begun_by (same refl))
      by false same rest = rest

  first_or : (from : JobParts) (a b : Option JobParts) → IfSome a (IsOnWay most from) → IfSome b (IsOnWay most from) → IfSome (option_or a b) (IsOnWay most from)
  first_or from None b one other = other
  first_or from (Some j) b one other = one

  way_on : (from : JobParts) (o now : Option JobParts) → IsNamedWay most o now → IfSome o (IsOnWay most from) → IfSome now (IsOnWay most from)
  way_on from None now same way = subst (λ (p : Option JobParts). IfSome p (IsOnWay most from)) (sym same) tt
  way_on from (Some j) now named way = subst (λ (p : Option JobParts). IfSome p (IsOnWay most from)) (sym named.1) (way_then most from j named.0 way named.2)

  module _ (jobs : List NewJob) (t u : List JobParts) (under : IsUnderWay most jobs t u) where
    one_keeps : (k : NewJob) → IsAlone k jobs → IfSome (job_named k.name t) (IsOnWay most (begun_by k)) → IfSome (job_named k.name u) (IsOnWay most (begun_by k))
    one_keeps k alone way =
        let front = alone_front k under.front under.rest (subst (IsAlone k) under.parted (alone_missing t k jobs alone)) in
        let from = first_or (begun_by k) (job_named k.name t) (job_named k.name (map begun_by under.front)) way (named_front k under.front front) in
        way_on (begun_by k) (job_named k.name (t ++ map begun_by under.front)) (job_named k.name u) (named_way most k.name (t ++ map begun_by under.front) u under.ways)
        (subst (λ (o : Option JobParts). IfSome o (IsOnWay most (begun_by k))) (sym (find-append (is_named k.name) t (map begun_by under.front))) from)

    each_keeps : (ks : List NewJob) → AllByRecursion (λ k. IsAlone k jobs) ks → AreOnWay most ks t → AreOnWay most ks u
    each_keeps [] alone ways = tt
    each_keeps (k ∷ ks) alone ways = (one_keeps k alone.0 ways.0, each_keeps ks alone.1 ways.1)

    pub keeps_on_way : IsDistinct bytes_eq (names jobs) → AreOnWay most jobs t → AreOnWay most jobs u
    keeps_on_way distinct ways = each_keeps jobs (all_alone jobs distinct) ways

-- ---- all are there in the end

some_more : (name : List ℕ) (b : JobParts) (js : List JobParts) → IsSome (job_named name js) → IsSome (job_named name (b ∷ js))
some_more name b js some = by (is_named name b)
  where
    by : (c : Bool) → IsSome (if c then Some b else job_named name js)
    by true = refl
    by false = some

abbrev AreFound : List JobParts → List JobParts → List NewJob → Type 0
AreFound t bs ks = AllByRecursion (λ k. is_new t k ≡ true → IsSome (job_named k.name bs)) ks

found_more : (t bs : List JobParts) (b : JobParts) (ks : List NewJob) → AreFound t bs ks → AreFound t (b ∷ bs) ks
found_more t bs b [] found = tt
found_more t bs b (k ∷ ks) found = (λ is. some_more k.name b bs (found.0 is), found_more t bs b ks found.1)

found_new : (t : List JobParts) (jobs : List NewJob) → AreFound t (map begun_by (missing t jobs)) jobs
found_new t [] = tt
found_new t (k ∷ jobs) = go (found_new t jobs) (is_new t k) refl
  where
    go : AreFound t (map begun_by (missing t jobs)) jobs → (b : Bool) → is_new t k ≡ b → AreFound t (map begun_by (missing t (k ∷ jobs))) (k ∷ jobs)
    go rest true is =
        let here : job_named k.name (begun_by k ∷ map begun_by (missing t jobs)) ≡ Some (begun_by k) = rw (is_same k.name k.name refl) refl in
        subst (λ (l : List NewJob). AreFound t (map begun_by l) (k ∷ jobs)) (sym (more_missing t k jobs is))
        (λ new. subst (λ (o : Option JobParts). IsSome o) (sym here) refl, found_more t (map begun_by (missing t jobs)) (begun_by k) jobs rest)
    go rest false is =
        subst (λ (l : List NewJob). AreFound t (map begun_by l) (k ∷ jobs)) (sym (not_missing t k jobs is))
        (λ new. absurd (true≢false (sym new ∙ is)), rest)

some_or : (a b : Option JobParts) → (not (is_some a) ≡ true → IsSome b) → IsSome (option_or a b)
some_or None b other = other refl
some_or (Some j) b other = refl

some_on : (most : ℕ) (o now : Option JobParts) → IsNamedWay most o now → IsSome o → IsSome now
some_on most None now named some = cc
some_on most (Some j) now named some = subst (λ (p : Option JobParts). IsSome p) (sym named.1) refl

module _ (most : ℕ) (jobs : List NewJob) (t u : List JobParts) (ends : HaveEnded most jobs t u) where
  there : (ks : List NewJob) → AreFound t (map begun_by (missing t jobs)) ks → AllByRecursion (λ new. IsSome (job_named new.name u)) ks
  there [] found = tt
  there (k ∷ ks) found =
      let before : IsSome (job_named k.name (all_of jobs t)) = subst (λ (o : Option JobParts). IsSome o) (sym (find-append (is_named k.name) t (map begun_by (missing t jobs))))
      (some_or (job_named k.name t) (job_named k.name (map begun_by (missing t jobs))) found.0) in
      (some_on most (job_named k.name (all_of jobs t)) (job_named k.name u) (named_way most k.name (all_of jobs t) u (end_ways most (all_of jobs t) u ends)) before, there ks found.1)

  pub text_at_end : AreOnWay most jobs u → IsTextOf most jobs (fetched_all jobs u)
  text_at_end ways = text_of_ends most jobs u ways (there jobs (found_new t jobs)) (end_over most (all_of jobs t) u ends)
