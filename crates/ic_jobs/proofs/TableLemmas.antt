-- One job of a table among the others.
use Rattle.std.proofs.Common.{◌≡◌, ℕ, ◌+◌, ◌<◌, ◌≤◌, List, [], ◌∷◌, ◌++◌, Bool, true, false, cond, not, ◌||◌, Option, None, Some, is_some, slice_get, length, map, refl, sym, ap, subst, ◌∙◌, arith, add-one, add-zero, append_assoc, length-append, set, get_or}
use Rattle.std.proofs.lemmas.Map.Keys.{IsDistinct-push}
use Rattle.std.specs.Bool.{Decides}
use Rattle.std.specs.List.{filter, find, list_any, position_from, remove, AllByRecursion, IsDistinct}
use Rattle.std.specs.Option.{option_map, option_or}
use Rattle.std.specs.Str.{bytes_eq}
use Rattle.std.specs.Cmp.Lexicographic.{bytes_decides}
use Rattle.std.proofs.lemmas.Cmp.{nat_list_eq_equiv}
use Rattle.ic_jobs.specs.declared.limits.TheConstants.{MAX_JOBS}
use Rattle.ic_jobs.specs.Job.{JobParts, IsJob}
use Rattle.ic_jobs.specs.Table.{IsTable, job_names, is_named, job_named, with_changed, without}

-- ---- parts of lists

pub All-split : {X : Type 0} (P : X → Type 0) (xs ys : List X) → AllByRecursion P (xs ++ ys) → AllByRecursion P xs × AllByRecursion P ys
All-split P [] ys all = (tt, all)
All-split P (x ∷ xs) ys all = let rest = All-split P xs ys all.1 in ((all.0, rest.0), rest.1)

pub All-join : {X : Type 0} (P : X → Type 0) (xs ys : List X) → AllByRecursion P xs → AllByRecursion P ys → AllByRecursion P (xs ++ ys)
All-join P [] ys first second = second
All-join P (x ∷ xs) ys first second = (first.0, All-join P xs ys first.1 second)

-- a list without one of its keys is distinct where the list is
pub IsDistinct-without : (xs : List (List ℕ)) (k : List ℕ) (ys : List (List ℕ)) → IsDistinct bytes_eq (xs ++ k ∷ ys) → IsDistinct bytes_eq (xs ++ ys)
unfolding IsDistinct
IsDistinct-without [] k ys distinct = distinct.1
IsDistinct-without (x ∷ xs) k ys distinct =
    let parts = All-split (λ y. bytes_eq x y ≡ false) xs (k ∷ ys) distinct.0 in
    (All-join (λ y. bytes_eq x y ≡ false) xs ys parts.0 parts.1.1, IsDistinct-without xs k ys distinct.1)

-- ---- one job, those before it and those after it

pub record StandsAlone (name : List ℕ) (t : List JobParts) (i : ℕ) (j : JobParts) : Type 0 where
  pub before : List JobParts
  pub after : List JobParts
  pub parts : t ≡ before ++ j ∷ after
  pub counted : length before ≡ i
  pub none_before : AllByRecursion (λ k. is_named name k ≡ false) before
  pub none_after : AllByRecursion (λ k. is_named name k ≡ false) after
  pub named : is_named name j ≡ true

equal_names : (a b : List ℕ) → bytes_eq a b ≡ true → a ≡ b
equal_names a b = (bytes_decides a b).0

others_apart : (name : List ℕ) (j : JobParts) (js : List JobParts) → is_named name j ≡ true → AllByRecursion (λ y. bytes_eq j.name y ≡ false) (job_names js)
    → AllByRecursion (λ k. is_named name k ≡ false) js
others_apart name j [] named apart = tt
others_apart name j (k ∷ ks) named apart =
    (ap (λ (n : List ℕ). bytes_eq n k.name) (equal_names name j.name named) ∙ apart.0, others_apart name j ks named apart.1)

stands_first : (name : List ℕ) (j : JobParts) (js : List JobParts) → is_named name j ≡ true → IsDistinct bytes_eq (job_names (j ∷ js)) → StandsAlone name (j ∷ js) 0 j
unfolding IsDistinct
stands_first name j js named distinct = record {
  before = [];
  after = js;
  parts = refl;
  counted = refl;
  none_before = tt;
  none_after = others_apart name j js named distinct.0;
  named = named;
}

stands_later : (name : List ℕ) (k : JobParts) (ks : List JobParts) (i : ℕ) (j : JobParts) → is_named name k ≡ false → StandsAlone name ks i j → StandsAlone name (k ∷ ks) (i + 1) j
stands_later name k ks i j other s = record {
  before = k ∷ s.before;
  after = s.after;
  parts = ap (λ (l : List JobParts). k ∷ l) s.parts;
  counted = grind (arith, s.counted);
  none_before = (other, s.none_before);
  none_after = s.none_after;
  named = s.named;
}

pub record StandsAt (name : List ℕ) (t : List JobParts) (i : ℕ) : Type 0 where
  pub job : JobParts
  pub stands : StandsAlone name t i job

tail_distinct : (j : JobParts) (js : List JobParts) → IsDistinct bytes_eq (job_names (j ∷ js)) → IsDistinct bytes_eq (job_names js)
unfolding IsDistinct
tail_distinct j js distinct = distinct.1

-- the job at the place of a name
place_at : (name : List ℕ) (k i : ℕ) (j : JobParts) (js : List JobParts) (b : Bool) → is_named name j ≡ b → IsDistinct bytes_eq (job_names (j ∷ js))
    → ((m : ℕ) → position_from (is_named name) (k + 1) js ≡ Some m → (n : ℕ) × ((k + 1 + n ≡ m) × StandsAt name js n))
    → cond b (Some k) (position_from (is_named name) (k + 1) js) ≡ Some i → (n : ℕ) × ((k + n ≡ i) × StandsAt name (j ∷ js) n)
place_at name k i j js true named distinct later e =
    let same : k ≡ i = cc in (0, (add-zero k ∙ same, record { job = j; stands = stands_first name j js named distinct }))
place_at name k i j js false other distinct later e =
    let found = later i e in
    (found.0 + 1, (omega (arith, found.1.0), record { job = found.1.1.job; stands = stands_later name j js found.0 found.1.1.job other found.1.1.stands }))

place_from : (name : List ℕ) (t : List JobParts) (k i : ℕ) → IsDistinct bytes_eq (job_names t) → position_from (is_named name) k t ≡ Some i
    → (n : ℕ) × ((k + n ≡ i) × StandsAt name t n)
place_from name [] k i distinct e = cc
place_from name (j ∷ js) k i distinct e =
    place_at name k i j js (is_named name j) refl distinct (λ m. place_from name js (k + 1) m (tail_distinct j js distinct)) e

pub place_stands : (name : List ℕ) (t : List JobParts) (i : ℕ) → IsDistinct bytes_eq (job_names t) → position_from (is_named name) 0 t ≡ Some i → StandsAt name t i
place_stands name t i distinct e =
    let found = place_from name t 0 i distinct e in
    let same : found.0 ≡ i = omega (arith, found.1.0) in
    subst (λ (n : ℕ). StandsAt name t n) same found.1.1

-- the job that a name finds
named_at : (name : List ℕ) (k j : JobParts) (js : List JobParts) (b : Bool) → is_named name k ≡ b → IsDistinct bytes_eq (job_names (k ∷ js))
    → (job_named name js ≡ Some j → (i : ℕ) × StandsAlone name js i j)
    → cond b (Some k) (job_named name js) ≡ Some j → (i : ℕ) × StandsAlone name (k ∷ js) i j
named_at name k j js true named distinct later e =
    let same : k ≡ j = cc in (0, subst (λ (x : JobParts). StandsAlone name (k ∷ js) 0 x) same (stands_first name k js named distinct))
named_at name k j js false other distinct later e =
    let found = later e in (found.0 + 1, stands_later name k js found.0 j other found.1)

pub named_stands : (name : List ℕ) (t : List JobParts) (j : JobParts) → IsDistinct bytes_eq (job_names t) → job_named name t ≡ Some j → (i : ℕ) × StandsAlone name t i j
named_stands name [] j distinct e = cc
named_stands name (k ∷ js) j distinct e =
    named_at name k j js (is_named name k) refl distinct (named_stands name js j (tail_distinct k js distinct)) e

-- ---- what such a table is once the job is found, changed or taken out

found_after : (name : List ℕ) (xs ys : List JobParts) → AllByRecursion (λ k. is_named name k ≡ false) xs → job_named name (xs ++ ys) ≡ job_named name ys
found_after name [] ys none = refl
found_after name (x ∷ xs) ys none = rw (none.0) (found_after name xs ys none.1)

pub found_alone : (name : List ℕ) (t : List JobParts) (i : ℕ) (j : JobParts) → StandsAlone name t i j → job_named name t ≡ Some j
found_alone name t i j s =
    ap (job_named name) s.parts ∙ found_after name s.before (j ∷ s.after) s.none_before
    ∙ ap (λ (b : Bool). cond b (Some j) (job_named name s.after)) s.named

changed_none : (name : List ℕ) (change : JobParts → JobParts) (xs : List JobParts) → AllByRecursion (λ k. is_named name k ≡ false) xs → with_changed name change xs ≡ xs
changed_none name change [] none = refl
changed_none name change (x ∷ xs) none = rw (none.0, changed_none name change xs none.1) refl

changed_after : (name : List ℕ) (change : JobParts → JobParts) (xs ys : List JobParts) → AllByRecursion (λ k. is_named name k ≡ false) xs
    → with_changed name change (xs ++ ys) ≡ xs ++ with_changed name change ys
changed_after name change [] ys none = refl
changed_after name change (x ∷ xs) ys none = rw (none.0, changed_after name change xs ys none.1) refl

pub changed_alone : (name : List ℕ) (change : JobParts → JobParts) (t : List JobParts) (i : ℕ) (j : JobParts) (s : StandsAlone name t i j)
    → with_changed name change t ≡ s.before ++ change j ∷ s.after
changed_alone name change t i j s =
    ap (with_changed name change) s.parts ∙ changed_after name change s.before (j ∷ s.after) s.none_before
    ∙ (λ k. s.before ++ cond (s.named k) (change j) j ∷ changed_none name change s.after s.none_after k)

without_none : (name : List ℕ) (xs : List JobParts) → AllByRecursion (λ k. is_named name k ≡ false) xs → without name xs ≡ xs
without_none name [] none = refl
without_none name (x ∷ xs) none = rw (none.0, without_none name xs none.1) refl

without_after : (name : List ℕ) (xs ys : List JobParts) → AllByRecursion (λ k. is_named name k ≡ false) xs → without name (xs ++ ys) ≡ xs ++ without name ys
without_after name [] ys none = refl
without_after name (x ∷ xs) ys none = rw (none.0, without_after name xs ys none.1) refl

pub without_alone : (name : List ℕ) (t : List JobParts) (i : ℕ) (j : JobParts) (s : StandsAlone name t i j) → without name t ≡ s.before ++ s.after
without_alone name t i j s =
    ap (without name) s.parts ∙ without_after name s.before (j ∷ s.after) s.none_before
    ∙ (λ k. s.before ++ cond (not (s.named k)) (j ∷ without name s.after) (without_none name s.after s.none_after k))

-- ---- tables that stay tables

names_with : (xs : List JobParts) (j k : JobParts) (ys : List JobParts) → k.name ≡ j.name → job_names (xs ++ k ∷ ys) ≡ job_names (xs ++ j ∷ ys)
names_with [] j k ys e = ap (λ (n : List ℕ). n ∷ job_names ys) e
names_with (x ∷ xs) j k ys e = ap (λ (ns : List (List ℕ)). x.name ∷ ns) (names_with xs j k ys e)

length_with : (xs : List JobParts) (j k : JobParts) (ys : List JobParts) → length (xs ++ k ∷ ys) ≡ length (xs ++ j ∷ ys)
length_with xs j k ys = length-append xs (k ∷ ys) ∙ sym (length-append xs (j ∷ ys))

pub IsTable-with : (name : List ℕ) (t : List JobParts) (i : ℕ) (j k : JobParts) (s : StandsAlone name t i j) → IsTable t → k.name ≡ j.name → IsJob k
    → IsTable (s.before ++ k ∷ s.after)
IsTable-with name t i j k s is named job =
    let whole = subst (λ (l : List JobParts). IsTable l) s.parts is in
    let jobs = All-split IsJob s.before (j ∷ s.after) whole.each in
    record {
      few = subst (λ (n : ℕ). n ≤ MAX_JOBS) (sym (length_with s.before j k s.after)) whole.few;
      each = All-join IsJob s.before (k ∷ s.after) jobs.0 (job, jobs.1.1);
      distinct = subst (λ (ns : List (List ℕ)). IsDistinct bytes_eq ns) (sym (names_with s.before j k s.after named)) whole.distinct;
    }

pub names-append : (xs ys : List JobParts) → job_names (xs ++ ys) ≡ job_names xs ++ job_names ys
names-append [] ys = refl
names-append (x ∷ xs) ys = ap (λ (ns : List (List ℕ)). x.name ∷ ns) (names-append xs ys)

shorter : (xs : List JobParts) (j : JobParts) (ys : List JobParts) → length (xs ++ ys) ≤ length (xs ++ j ∷ ys)
shorter xs j ys = omega (arith, length-append xs ys, length-append xs (j ∷ ys))

pub IsTable-without : (name : List ℕ) (t : List JobParts) (i : ℕ) (j : JobParts) (s : StandsAlone name t i j) → IsTable t → IsTable (s.before ++ s.after)
IsTable-without name t i j s is =
    let whole = subst (λ (l : List JobParts). IsTable l) s.parts is in
    let jobs = All-split IsJob s.before (j ∷ s.after) whole.each in
    let few = whole.few in
    let fewer = shorter s.before j s.after in
    record {
      few = omega arith;
      each = All-join IsJob s.before s.after jobs.0 jobs.1.1;
      distinct = subst (λ (ns : List (List ℕ)). IsDistinct bytes_eq ns) (sym (names-append s.before s.after))
          (IsDistinct-without (job_names s.before) j.name (job_names s.after)
          (subst (λ (ns : List (List ℕ)). IsDistinct bytes_eq ns) (names-append s.before (j ∷ s.after)) whole.distinct));
    }

none_named_at : (b later : Bool) (j : JobParts) (rest : Option JobParts) → (rest ≡ None → later ≡ false) → cond b (Some j) rest ≡ None → (b || later) ≡ false
none_named_at true later j rest next none = cc
none_named_at false later j rest next none = next none

none_named : (name : List ℕ) (t : List JobParts) → job_named name t ≡ None → list_any (bytes_eq name) (job_names t) ≡ false
none_named name [] e = refl
none_named name (j ∷ js) e = none_named_at (is_named name j) _ j _ (none_named name js) e

pub IsTable-push : (t : List JobParts) (j : JobParts) → IsTable t → IsJob j → length t < MAX_JOBS → job_named j.name t ≡ None → IsTable (t ++ j ∷ [])
IsTable-push t j is job room none = record {
  few = omega (arith, length-append t (j ∷ []), room);
  each = All-join IsJob t (j ∷ []) is.each (job, tt);
  distinct = subst (λ (ns : List (List ℕ)). IsDistinct bytes_eq ns) (sym (names-append t (j ∷ [])))
      (IsDistinct-push nat_list_eq_equiv (job_names t) j.name is.distinct (none_named j.name t none));
}
