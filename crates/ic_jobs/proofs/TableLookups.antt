-- Jobs looked up by name in a table that was changed.
use Rattle.std.proofs.Common.{◌≡◌, ℕ, List, [], ◌∷◌, ◌++◌, Bool, true, false, cond, not, Option, None, Some, is_some, map, refl, sym, ap, ◌∙◌}
use Rattle.std.specs.Bool.{Decides}
use Rattle.std.specs.List.{filter, find}
use Rattle.std.specs.Option.{option_map, option_or}
use Rattle.std.specs.Str.{bytes_eq}
use Rattle.std.specs.Cmp.Lexicographic.{bytes_decides}
use Rattle.ic_jobs.specs.Job.{JobParts}
use Rattle.ic_jobs.specs.Table.{is_named, job_named, with_changed, without}

-- a change that leaves the name
abbrev pub KeepsName : (JobParts → JobParts) → Type 0
KeepsName change = (j : JobParts) → (change j).name ≡ j.name

changed_at : (name : List ℕ) (change : JobParts → JobParts) (j : JobParts) (rest later : Option JobParts) (b : Bool)
    → is_named name j ≡ b → KeepsName change → rest ≡ option_map change later
    → cond (is_named name (cond b (change j) j)) (Some (cond b (change j) j)) rest ≡ option_map change (cond b (Some j) later)
changed_at name change j rest later true is keeps e = rw (ap (bytes_eq name) (keeps j) ∙ is) refl
changed_at name change j rest later false is keeps e = rw is e

-- the changed job is found in place of the old one
pub job_named-changed : (name : List ℕ) (change : JobParts → JobParts) (t : List JobParts) → KeepsName change
    → job_named name (with_changed name change t) ≡ option_map change (job_named name t)
job_named-changed name change [] keeps = refl
job_named-changed name change (j ∷ js) keeps =
    changed_at name change j _ _ (is_named name j) refl keeps (job_named-changed name change js keeps)

names_equal : (a b : List ℕ) → bytes_eq a b ≡ true → a ≡ b
names_equal a b = (bytes_decides a b).0

-- a job that one name finds isn't found by another
other_name : (name other : List ℕ) (j : JobParts) → bytes_eq other name ≡ false → is_named name j ≡ true → is_named other j ≡ false
other_name name other j apart is = ap (bytes_eq other) (sym (names_equal name j.name is)) ∙ apart

unchanged_at : (name other : List ℕ) (change : JobParts → JobParts) (j : JobParts) (rest later : Option JobParts) (b : Bool)
    → bytes_eq other name ≡ false → is_named name j ≡ b → KeepsName change → rest ≡ later
    → cond (is_named other (cond b (change j) j)) (Some (cond b (change j) j)) rest ≡ cond (is_named other j) (Some j) later
unchanged_at name other change j rest later true apart is keeps e =
    rw (ap (bytes_eq other) (keeps j), other_name name other j apart is) e
unchanged_at name other change j rest later false apart is keeps e = rw e refl

-- jobs of other names stay as they are
pub job_named-changed_other : (name other : List ℕ) (change : JobParts → JobParts) (t : List JobParts) → bytes_eq other name ≡ false → KeepsName change
    → job_named other (with_changed name change t) ≡ job_named other t
job_named-changed_other name other change [] apart keeps = refl
job_named-changed_other name other change (j ∷ js) apart keeps =
    unchanged_at name other change j _ _ (is_named name j) apart refl keeps (job_named-changed_other name other change js apart keeps)

without_at : (name : List ℕ) (j : JobParts) (js : List JobParts) (b : Bool) → is_named name j ≡ b → job_named name (without name js) ≡ None
    → job_named name (cond (not b) (j ∷ without name js) (without name js)) ≡ None
without_at name j js true is e = e
without_at name j js false is e = rw is e

-- no job of a name is left where it is taken out
pub job_named-without : (name : List ℕ) (t : List JobParts) → job_named name (without name t) ≡ None
job_named-without name [] = refl
job_named-without name (j ∷ js) = without_at name j js (is_named name j) refl (job_named-without name js)

without_other_at : (name other : List ℕ) (j : JobParts) (js : List JobParts) (b : Bool) → bytes_eq other name ≡ false → is_named name j ≡ b
    → job_named other (without name js) ≡ job_named other js
    → job_named other (cond (not b) (j ∷ without name js) (without name js)) ≡ cond (is_named other j) (Some j) (job_named other js)
without_other_at name other j js true apart is e = rw (other_name name other j apart is) e
without_other_at name other j js false apart is e = rw e refl

pub job_named-without_other : (name other : List ℕ) (t : List JobParts) → bytes_eq other name ≡ false → job_named other (without name t) ≡ job_named other t
job_named-without_other name other [] apart = refl
job_named-without_other name other (j ∷ js) apart =
    without_other_at name other j js (is_named name j) apart refl (job_named-without_other name other js apart)

append_at : (i : JobParts) (b : Bool) (more later last : Option JobParts) → more ≡ option_or later last
    → cond b (Some i) more ≡ option_or (cond b (Some i) later) last
append_at i true more later last e = refl
append_at i false more later last e = e

-- a job after the others is found where none of the others is
pub job_named-append : (name : List ℕ) (t : List JobParts) (j : JobParts)
    → job_named name (t ++ j ∷ []) ≡ option_or (job_named name t) (cond (is_named name j) (Some j) None)
job_named-append name [] j = refl
job_named-append name (i ∷ is) j = append_at i (is_named name i) _ _ _ (job_named-append name is j)
