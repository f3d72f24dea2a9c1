-- A job's name and the zeros after it.
use Rattle.std.proofs.Common.{◌≡◌, ℕ, ◌-◌, ◌≤◌, IsTrue, List, [], ◌∷◌, ◌++◌, length, replicate, refl, ap, arith}
use Rattle.std.proofs.lemmas.Grind.{common_steps}
use Rattle.std.proofs.Math.Seq.{take-append_seam}
use Rattle.ic_rules.specs.JobName.{is_job_name}
use Rattle.ic_rules.specs.inner.JobName.{IsKept}

pub kept : (text zeros : List ℕ) → IsTrue (is_job_name text) → zeros ≡ replicate (16 - length text) 0 → IsKept (text ++ zeros) (length text)
kept text zeros name are = record {
  name = rw (take-append_seam text zeros) name;
  length = ap length (take-append_seam text zeros);
  zeros = rw (take-append_seam text zeros, are) refl;
}

pub short : (text : List ℕ) → IsTrue (is_job_name text) → length text ≤ 16
short [] name = omega arith
short (b ∷ bs) name = grind (arith, common_steps)
