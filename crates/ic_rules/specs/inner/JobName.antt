-- How a job's name is kept.
use Rattle.std.specs.Prelude.{◌≡◌, ℕ, ◌-◌, List, ◌++◌, length, replicate, take, IsTrue}
use Rattle.ic_rules.specs.declared.job_name.TheConstants.{MAX_JOB_NAME}
use Rattle.ic_rules.specs.JobName.{is_job_name}

-- a name's bytes with zeros after them, as many bytes as the longest name
abbrev pub padded : List ℕ → List ℕ
padded text = text ++ replicate (MAX_JOB_NAME - length text) 0

-- the bytes that a name is kept in, and how many of them are its text
pub record IsKept (bytes : List ℕ) (len : ℕ) : Type 0 where
  pub name : IsTrue (is_job_name (take len bytes))
  pub length : length (take len bytes) ≡ len
  pub zeros : bytes ≡ padded (take len bytes)
