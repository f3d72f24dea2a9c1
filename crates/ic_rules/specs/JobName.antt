use Rattle.std.specs.Prelude.{ℕ, ◌==◌, List, [], ◌∷◌, Bool, false, ◌&&◌, ◌||◌, nat_le, length}
use Rattle.std.specs.List.{list_all}
use Rattle.std.specs.Char.{is_ascii_lowercase, is_ascii_digit}
use Rattle.ic_rules.specs.declared.job_name.TheConstants.{MAX_JOB_NAME}

-- a word of a..z, 0..9 and `-`, a letter first, of any length (this project's choice)
abbrev pub is_job_word : List ℕ → Bool
is_job_word [] = false
is_job_word (b ∷ bs) = is_ascii_lowercase b
    && list_all (λ c. is_ascii_lowercase c || is_ascii_digit c || c == 45) bs

-- a job's name: such a word that isn't too long (this project's choice)
abbrev pub is_job_name : List ℕ → Bool
is_job_name w = is_job_word w && nat_le (length w) MAX_JOB_NAME
