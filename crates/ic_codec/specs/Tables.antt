-- The byte forms of a job table (this project's choice).
use Rattle.std.specs.Prelude.{◌≡◌, ◌⊎◌, ℕ, List, ◌∷◌, ◌++◌, None, length}
use Rattle.std.specs.List.{flat_map, AllByRecursion}
use Rattle.ic_jobs.specs.Job.{JobParts}
use Rattle.ic_codec.specs.declared.form.Form.{Form}
use Rattle.ic_codec.specs.declared.form.Form.TheVariants.{Ict1, Ict2}
use Rattle.ic_codec.specs.Form.{form_head}
use Rattle.ic_codec.specs.Jobs.{job_bytes}

-- a table is the head of the form, how many jobs it has, in one byte, and the jobs in order
abbrev pub table_bytes_in : Form → List JobParts → List ℕ
table_bytes_in form t = form_head form ++ (length t ∷ flat_map (job_bytes form) t)

-- the form that tables are written in
abbrev pub table_bytes : List JobParts → List ℕ
table_bytes = table_bytes_in Ict2

-- the form that they were written in before jobs had budgets, which is read too
abbrev pub old_table_bytes : List JobParts → List ℕ
old_table_bytes = table_bytes_in Ict1

-- no job of a table has a budget
abbrev pub HasNoBudgets : List JobParts → Type 0
HasNoBudgets t = AllByRecursion (λ j. j.budget ≡ None) t

-- Bytes are the old form of a table, which has no budgets.
pub record IsOldFormOf (t : List JobParts) (bytes : List ℕ) : Type 0 where
  pub unbudgeted : HasNoBudgets t
  pub bytes_are : bytes ≡ old_table_bytes t

-- bytes are a form of a table, the new one or the old one
abbrev pub IsFormOf : List JobParts → List ℕ → Type 0
IsFormOf t bytes = (bytes ≡ table_bytes t) ⊎ IsOldFormOf t bytes
