-- Which jobs are asked for, and the first name that no job has.
use Rattle.std.proofs.Common.{◌≡◌, ◌↔◌, ◌⊎◌, ℕ, zero, suc, ◌<◌, Bool, true, false, ◌||◌, not, cond, List, [], ◌∷◌, ◌++◌, None, Some, is_some, length, refl, sym, ap, subst, ◌∙◌, arith, inl, inr}
use Rattle.std.specs.Prelude.{Contains, slice_index_or}
use Rattle.std.specs.List.{list_any}
use Rattle.std.specs.Str.{bytes_eq}
use Rattle.std.specs.Cmp.Lexicographic.{bytes_decides}
use Rattle.std.proofs.lemmas.Bool.{false_from_ne_true, false≢true, or_right}
use Rattle.std.proofs.lemmas.Option.{none-some}
use Rattle.ic_jobs.specs.Job.{JobParts}
use Rattle.ic_jobs.specs.Table.{is_named, job_named, job_names}
use Rattle.ic_dump.specs.Dumping.{is_chosen, chosen, first_missing, AreHad}

-- ---- elements of a list

module _ {X : Type 0} where
  none_of_none : (x : X) → Contains [] x → ⊥
  none_of_none x c = let below : c.0 < 0 = c.1 in omega arith

  at_front : (y x : X) (xs : List X) → y ≡ x → Contains (y ∷ xs) x
  at_front y x xs e = (0, omega arith, e)

  after_it : (y x : X) (xs : List X) → Contains xs x → Contains (y ∷ xs) x
  after_it y x xs c = let below = c.1 in (suc c.0, omega arith, c.2)

  at_place : (y x : X) (xs : List X) (k : ℕ) → k < suc (length xs) → slice_index_or (y ∷ xs) k x ≡ x → (y ≡ x) ⊎ Contains xs x
  at_place y x xs zero below e = inl e
  at_place y x xs (suc k) below e = inr (k, omega arith, e)

  front_or_after : (y x : X) (xs : List X) → Contains (y ∷ xs) x → (y ≡ x) ⊎ Contains xs x
  front_or_after y x xs c = at_place y x xs c.0 c.1 c.2

-- ---- a job has one of the names

one_is_had : (x : List ℕ) (names : List (List ℕ)) → list_any (λ n. bytes_eq n x) names ≡ true → Contains names x
one_is_had x [] e = absurd (false≢true e)
one_is_had x (n ∷ ns) e = by_test (bytes_eq n x) refl e (one_is_had x ns)
  where
    by_test : (b : Bool) → bytes_eq n x ≡ b → (b || list_any (λ m. bytes_eq m x) ns) ≡ true → (list_any (λ m. bytes_eq m x) ns ≡ true → Contains ns x) → Contains (n ∷ ns) x
    by_test true is any further = at_front n x ns ((bytes_decides n x).0 is)
    by_test false is any further = after_it n x ns (further any)

had_is_one : (x : List ℕ) (names : List (List ℕ)) → Contains names x → list_any (λ n. bytes_eq n x) names ≡ true
had_is_one x [] c = absurd (none_of_none x c)
had_is_one x (n ∷ ns) c = by_place (front_or_after n x ns c) (had_is_one x ns)
  where
    by_place : (n ≡ x) ⊎ Contains ns x → (Contains ns x → list_any (λ m. bytes_eq m x) ns ≡ true) → (bytes_eq n x || list_any (λ m. bytes_eq m x) ns) ≡ true
    by_place (inl e) further = ap (λ b. b || list_any (λ m. bytes_eq m x) ns) ((bytes_decides n x).1 e)
    by_place (inr among) further = or_right (bytes_eq n x) (list_any (λ m. bytes_eq m x) ns) (further among)

pub asked_where : (names : List (List ℕ)) (j : JobParts) → (is_chosen names j ≡ true) ↔ ((names ≡ []) ⊎ Contains names j.name)
asked_where [] j = (λ e. inl refl, λ o. refl)
asked_where (n ∷ ns) j = (λ e. inr (one_is_had j.name (n ∷ ns) e), named)
  where
    named : ((n ∷ ns) ≡ []) ⊎ Contains (n ∷ ns) j.name → is_chosen (n ∷ ns) j ≡ true
    named (inl e) = cc
    named (inr c) = had_is_one j.name (n ∷ ns) c

module _ (names : List (List ℕ)) (j : JobParts) (t : List JobParts) where
  pub taken_in_turn : is_chosen names j ≡ true → chosen names (j ∷ t) ≡ j ∷ chosen names t
  taken_in_turn e = ap (λ b. cond b (j ∷ chosen names t) (chosen names t)) e

  pub passed_over : is_chosen names j ≡ false → chosen names (j ∷ t) ≡ chosen names t
  passed_over e = ap (λ b. cond b (j ∷ chosen names t) (chosen names t)) e

-- ---- a name is that of a job

found_is_named : (name : List ℕ) (t : List JobParts) → is_some (job_named name t) ≡ true → Contains (job_names t) name
found_is_named name [] e = absurd (false≢true e)
found_is_named name (j ∷ js) e = by_test (is_named name j) refl e (found_is_named name js)
  where
    by_test : (b : Bool) → is_named name j ≡ b → is_some (cond b (Some j) (job_named name js)) ≡ true → (is_some (job_named name js) ≡ true → Contains (job_names js) name) → Contains (job_names (j ∷ js)) name
    by_test true is some further = at_front j.name name (job_names js) (sym ((bytes_decides name j.name).0 is))
    by_test false is some further = after_it j.name name (job_names js) (further some)

named_is_found : (name : List ℕ) (t : List JobParts) → Contains (job_names t) name → is_some (job_named name t) ≡ true
named_is_found name [] c = absurd (none_of_none name c)
named_is_found name (j ∷ js) c = by_place (front_or_after j.name name (job_names js) c) (named_is_found name js)
  where
    or_found : (b : Bool) → is_some (job_named name js) ≡ true → is_some (cond b (Some j) (job_named name js)) ≡ true
    or_found true some = refl
    or_found false some = some

    by_place : (j.name ≡ name) ⊎ Contains (job_names js) name → (Contains (job_names js) name → is_some (job_named name js) ≡ true) → is_some (cond (is_named name j) (Some j) (job_named name js)) ≡ true
    by_place (inl e) further = ap (λ b. is_some (cond b (Some j) (job_named name js))) ((bytes_decides name j.name).1 (sym e))
    by_place (inr among) further = or_found (is_named name j) (further among)

-- ---- the first that isn't

module _ (t : List JobParts) where
  abbrev has : List ℕ → Bool
  has name = is_some (job_named name t)

  has_not : (name : List ℕ) → ¬ Contains (job_names t) name → has name ≡ false
  has_not name none = false_from_ne_true (has name) (λ e. none (found_is_named name t e))

  had_with : (n : List ℕ) (ns : List (List ℕ)) → has n ≡ true → AreHad t ns → AreHad t (n ∷ ns)
  had_with n ns e are name c = by_place (front_or_after n name ns c)
    where
      by_place : (n ≡ name) ⊎ Contains ns name → Contains (job_names t) name
      by_place (inl same) = subst (Contains (job_names t)) same (found_is_named n t e)
      by_place (inr among) = are name among

  had_after : (n : List ℕ) (ns : List (List ℕ)) → AreHad t (n ∷ ns) → AreHad t ns
  had_after n ns are name c = are name (after_it n name ns c)

  had_first : (n : List ℕ) (ns : List (List ℕ)) → AreHad t (n ∷ ns) → has n ≡ true
  had_first n ns are = named_is_found n t (are n (at_front n n ns refl))

  passed_had : (before rest : List (List ℕ)) → AreHad t before → first_missing (before ++ rest) t ≡ first_missing rest t
  passed_had [] rest are = refl
  passed_had (n ∷ ns) rest are =
      ap (λ b. cond (not b) (Some n) (first_missing (ns ++ rest) t)) (had_first n ns are) ∙ passed_had ns rest (had_after n ns are)

  none_missing : (names : List (List ℕ)) → first_missing names t ≡ None → AreHad t names
  none_missing [] e = λ name c. absurd (none_of_none name c)
  none_missing (n ∷ ns) e = by_test (has n) refl e (none_missing ns)
    where
      by_test : (b : Bool) → has n ≡ b → cond (not b) (Some n) (first_missing ns t) ≡ None → (first_missing ns t ≡ None → AreHad t ns) → AreHad t (n ∷ ns)
      by_test true is told further = had_with n ns is (further told)
      by_test false is told further = absurd (none-some n (sym told))

  all_had : (names : List (List ℕ)) → AreHad t names → first_missing names t ≡ None
  all_had [] are = refl
  all_had (n ∷ ns) are = ap (λ b. cond (not b) (Some n) (first_missing ns t)) (had_first n ns are) ∙ all_had ns (had_after n ns are)

pub missing_first : (names before after : List (List ℕ)) (name : List ℕ) (t : List JobParts) → names ≡ before ++ name ∷ after → AreHad t before → ¬ Contains (job_names t) name → first_missing names t ≡ Some name
missing_first names before after name t parted had missing =
    ap (λ ns. first_missing ns t) parted
    ∙ passed_had t before (name ∷ after) had
    ∙ ap (λ b. cond (not b) (Some name) (first_missing after t)) (has_not t name missing)

pub missing_none : (names : List (List ℕ)) (t : List JobParts) → (first_missing names t ≡ None) ↔ AreHad t names
missing_none names t = (none_missing t names, all_had t names)
