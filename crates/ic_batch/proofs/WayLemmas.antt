-- Ways of the jobs of tables: where they end, and what a change of a job makes of them.
use Rattle.std.proofs.Common.{◌≡◌, ℕ, zero, suc, ◌+◌, List, [], ◌∷◌, ◌++◌, Bool, true, false, Option, None, Some, length, take, refl, sym, ap, ap₂, subst, ◌∙◌, arith}
use Rattle.std.specs.Prelude.{if◌then◌else◌, nat_lt}
use Rattle.std.specs.List.{AllByRecursion, AllZip}
use Rattle.std.specs.Str.{bytes_eq}
use Rattle.std.specs.Option.{option_or}
use Rattle.std.proofs.Math.Seq.{take-append_seam}
use Rattle.std.proofs.lemmas.Bool.{and_parts}
use Rattle.std.proofs.lemmas.List.{length-map, map-append}
use Rattle.std.proofs.lemmas.List.Folds.{find-append}
use Rattle.ic_jobs.specs.declared.event.Event.{Event}
use Rattle.ic_jobs.specs.State.{is_running}
use Rattle.ic_jobs.specs.Job.{JobParts, can_move}
use Rattle.ic_jobs.specs.Table.{is_named, job_named, job_names, with_changed}
use Rattle.ic_jobs.specs.Names.{mentions}
use Rattle.ic_jobs.specs.History.{table_after}
use Rattle.ic_batch.specs.Way.{goes_on, after_event, gone_on, after, ComesTo, IsOnWay, AreWays}
use Rattle.ic_batch.proofs.JobLemmas.{change, change_is, keeps_name}

-- an event leaves the jobs of the names that it doesn't mention
abbrev pub OthersStay : Type 0
OthersStay = (t : List JobParts) (e : Event) (name : List ℕ) → mentions name e ≡ false → job_named name (table_after t e) ≡ job_named name t

pub runs : (most : ℕ) (j : JobParts) → goes_on most j ≡ true → is_running j.state ≡ true
runs most j goes = (and_parts (is_running j.state) (nat_lt j.rounds most) goes).0

on_way_more : (most : ℕ) (from j : JobParts) → goes_on most j ≡ true → IsOnWay most from j → IsOnWay most from (after_event j)
on_way_more most from j goes way =
    let event : gone_on most j ≡ after_event j = ap (λ (b : Bool). if b then after_event j else j) goes in
    (suc way.0, sym event ∙ ap (gone_on most) way.1)

pub after_more : (most : ℕ) (from : JobParts) (n k : ℕ) → after most (k + n) from ≡ after most k (after most n from)
after_more most from n zero = (let e : zero + n ≡ n = omega arith in ap (λ (m : ℕ). after most m from) e)
after_more most from n (suc k) = (let e : suc k + n ≡ suc (k + n) = omega arith in ap (λ (m : ℕ). after most m from) e ∙ ap (gone_on most) (after_more most from n k))

-- a way after a way
pub way_then : (most : ℕ) (from mid j : JobParts) → IsOnWay most from mid → IsOnWay most mid j → IsOnWay most from j
way_then most from mid j first second =
    (second.0 + first.0, second.1 ∙ ap (after most second.0) first.1 ∙ sym (after_more most from first.0 second.0))

-- a job that doesn't go on stays
stands : (most : ℕ) (j : JobParts) → goes_on most j ≡ false → gone_on most j ≡ j
stands most j is = ap (λ (b : Bool). if b then after_event j else j) is

pub stands_on : (most : ℕ) (j : JobParts) → goes_on most j ≡ false → (n : ℕ) → after most n j ≡ j
stands_on most j is zero = refl
stands_on most j is (suc n) = ap (gone_on most) (stands_on most j is n) ∙ stands most j is

-- a job keeps its name on its way
gone_name : (j : JobParts) (b : Bool) → (if b then after_event j else j).name ≡ j.name
gone_name j true = ap (λ (k : JobParts). k.name) (sym (change_is j)) ∙ keeps_name (can_move j) j
gone_name j false = refl

after_name : (most n : ℕ) (from : JobParts) → (after most n from).name ≡ from.name
after_name most zero from = refl
after_name most (suc n) from = gone_name (after most n from) (goes_on most (after most n from)) ∙ after_name most n from

pub way_name : (most : ℕ) (from j : JobParts) → IsOnWay most from j → j.name ≡ from.name
way_name most from j way = ap (λ (k : JobParts). k.name) way.1 ∙ after_name most way.0 from

-- ---- of tables

pub ways_same : (most : ℕ) (t : List JobParts) → AreWays most t t
ways_same most [] = tt
ways_same most (j ∷ js) = ((0, refl), ways_same most js)

-- none goes on: so each has come to its end
pub ways_end : (most : ℕ) (from t : List JobParts) → AreWays most from t → AllByRecursion (λ j. goes_on most j ≡ false) t → AllZip (ComesTo most) from t
ways_end most [] [] ways over = tt
ways_end most (x ∷ xs) (y ∷ ys) ways over = (record { on_way = ways.0; ends = over.0 }, ways_end most xs ys ways.1 over.1)
ways_end most xs ys ways over = absurd ways

pub end_ways : (most : ℕ) (from t : List JobParts) → AllZip (ComesTo most) from t → AreWays most from t
end_ways most [] [] ends = tt
end_ways most (x ∷ xs) (y ∷ ys) ends = (ends.0.on_way, end_ways most xs ys ends.1)
end_ways most xs ys ends = absurd ends

pub end_over : (most : ℕ) (from t : List JobParts) → AllZip (ComesTo most) from t → AllByRecursion (λ j. goes_on most j ≡ false) t
end_over most [] [] ends = tt
end_over most (x ∷ xs) (y ∷ ys) ends = (ends.0.ends, end_over most xs ys ends.1)
end_over most xs ys ends = absurd ends

-- a change of the jobs of a name, of which there is one, makes of it what comes next
module _ (R : JobParts → JobParts → Type 0) (goes : JobParts → Bool) (more : (from j : JobParts) → goes j ≡ true → R from j → R from (after_event j)) (name : List ℕ) (j : JobParts) (on : goes j ≡ true) where
  way_changed : (x y : JobParts) (b : Bool) → (b ≡ true → y ≡ j) → R x y → R x (if b then change j y else y)
  way_changed x y true one way =
      subst (λ (z : JobParts). R x z → R x (change j z)) (sym (one refl)) (λ (here : R x j). subst (R x) (sym (change_is j)) (more x j on here)) way
  way_changed x y false one way = way

  pub ways_changed : (from t : List JobParts) → AllByRecursion (λ y. is_named name y ≡ true → y ≡ j) t → AllZip R from t → AllZip R from (with_changed name (change j) t)
  ways_changed [] [] one ways = tt
  ways_changed (x ∷ xs) (y ∷ ys) one ways = (way_changed x y (is_named name y) one.0 ways.0, ways_changed xs ys one.1 ways.1)
  ways_changed xs ys one ways = absurd ways

-- the job of this name, of which there is one, goes on
pub ways_more : (most : ℕ) (name : List ℕ) (j : JobParts) (from t : List JobParts) → goes_on most j ≡ true → AllByRecursion (λ y. is_named name y ≡ true → y ≡ j) t
    → AreWays most from t → AreWays most from (with_changed name (change j) t)
ways_more most name j from t goes one ways = ways_changed (IsOnWay most) (goes_on most) (on_way_more most) name j goes from t one ways

-- ---- of a name

-- the job of a name among others, and the one that it goes with
abbrev pub IsNamed : (R : JobParts → JobParts → Type 0) → Option JobParts → Option JobParts → Type 0
IsNamed R None now = now ≡ None
IsNamed R (Some from) now = (j : JobParts) × (now ≡ Some j) × R from j

abbrev pub IsNamedWay : (most : ℕ) → Option JobParts → Option JobParts → Type 0
IsNamedWay most o now = IsNamed (IsOnWay most) o now

pub named_zip : (R : JobParts → JobParts → Type 0) → ((x y : JobParts) → R x y → y.name ≡ x.name) → (name : List ℕ) (from t : List JobParts)
    → AllZip R from t → IsNamed R (job_named name from) (job_named name t)
named_zip R same name [] [] zip = refl
named_zip R same name (x ∷ xs) (y ∷ ys) zip =
    subst (λ (b : Bool). IsNamed R (job_named name (x ∷ xs)) (if b then Some y else job_named name ys)) (ap (bytes_eq name) (sym (same x y zip.0)))
    (by (is_named name x) (named_zip R same name xs ys zip.1))
  where
    by : (b : Bool) → IsNamed R (job_named name xs) (job_named name ys) → IsNamed R (if b then Some x else job_named name xs) (if b then Some y else job_named name ys)
    by true rest = (y, refl, zip.0)
    by false rest = rest
named_zip R same name xs ys zip = absurd zip

pub named_way : (most : ℕ) (name : List ℕ) (from t : List JobParts) → AreWays most from t → IsNamedWay most (job_named name from) (job_named name t)
named_way most = named_zip (IsOnWay most) (way_name most)

-- ---- of a table's first jobs

-- one of them goes with one of the same name
pub first_named : (R : JobParts → JobParts → Type 0) → ((x y : JobParts) → R x y → y.name ≡ x.name) → (name : List ℕ) (t more u : List JobParts) (from : JobParts)
    → AllZip R (t ++ more) u → job_named name t ≡ Some from → (j : JobParts) × (job_named name u ≡ Some j) × R from j
first_named R same name t more u from zip there =
    let first : job_named name (t ++ more) ≡ Some from =
    find-append (is_named name) t more ∙ ap (λ (o : Option JobParts). option_or o (job_named name more)) there in
    subst (λ (o : Option JobParts). IsNamed R o (job_named name u)) first (named_zip R same name (t ++ more) u zip)

ways_names : (most : ℕ) (from t : List JobParts) → AreWays most from t → job_names t ≡ job_names from
ways_names most [] [] ways = refl
ways_names most (x ∷ xs) (y ∷ ys) ways = ap₂ (λ (n : List ℕ) (ns : List (List ℕ)). n ∷ ns) (way_name most x y ways.0) (ways_names most xs ys ways.1)
ways_names most xs ys ways = absurd ways

-- their names stay first, in their order
pub names_first : (most : ℕ) (t more u : List JobParts) → AreWays most (t ++ more) u → take (length t) (job_names u) ≡ job_names t
names_first most t more u ways =
    ap (take (length t)) (ways_names most (t ++ more) u ways ∙ map-append (λ (j : JobParts). j.name) t more)
    ∙ ap (λ (n : ℕ). take n (job_names t ++ job_names more)) (sym (length-map t (λ (j : JobParts). j.name)))
    ∙ take-append_seam (job_names t) (job_names more)
