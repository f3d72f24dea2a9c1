-- What was read of a slot are its fields.
use Rattle.std.proofs.Common.{◌≡◌, ◌↔◌, ℕ, ◌+◌, ◌≤◌, ◌==◌, ◌&&◌, Bool, true, List, length, take, drop, get_or, sym, ap, subst, ◌∙◌, arith}
use Rattle.std.specs.Int.{w32, w64, from_be_bytes}
use Rattle.std.proofs.lemmas.Bool.{le-leb}
use Rattle.ic_jobs.specs.Job.{JobParts}
use Rattle.ic_jobs.specs.Table.{IsTable}
use Rattle.ic_codec.specs.Tables.{IsFormOf}
use Rattle.ic_disk.specs.Content.{bytes_at}
use Rattle.ic_frames.specs.declared.frame.TheConstants.{HEAD, MAX_BODY}
use Rattle.ic_frames.specs.Fields.{number, size, body, is_open, is_whole}

pub gate_read : (at : ℕ) (file : List ℕ) → at + 13 ≤ length file → (get_or file at 0 == 1) ≡ is_open at file
unfolding is_open
gate_read at file within = ap (λ (t : Bool). t && (get_or file at 0 == 1)) (sym (le-leb _ _ within))

pub number_read : (at : ℕ) (file bytes : List ℕ) (n : ℕ) → bytes ≡ bytes_at (at + 1) 8 file → n ≡ from_be_bytes w64 bytes → n ≡ number at file
unfolding number
number_read at file bytes n read is = is ∙ ap (λ (b : List ℕ). from_be_bytes w64 b) read

pub size_read : (at : ℕ) (file bytes : List ℕ) (n : ℕ) → bytes ≡ bytes_at (at + 9) 4 file → n ≡ from_be_bytes w32 bytes → n ≡ size at file
unfolding size
size_read at file bytes n read is = is ∙ ap (λ (b : List ℕ). from_be_bytes w32 b) read

-- these bytes are the body
pub body_read : (at : ℕ) (file bytes : List ℕ) (n : ℕ) → n ≡ size at file → bytes ≡ take n (drop (at + 13) file) → bytes ≡ body at file
unfolding body
body_read at file bytes n is read = read ∙ ap (λ (m : ℕ). take m (drop (at + 13) file)) is

pub whole_read : ((at : ℕ) (file : List ℕ) → (is_whole at file ≡ true) ↔ ((size at file ≤ MAX_BODY) × (at + HEAD + size at file ≤ length file))) → (at : ℕ) (file : List ℕ) (n m : ℕ)
    → n ≡ size at file → n ≤ MAX_BODY → n ≤ m → m + (at + 13) ≡ length file → is_whole at file ≡ true
whole_read whole at file n m is few within rest = (whole at file).1 (omega (arith, is, few), omega (arith, is, within, rest))

pub form_read : (t : List JobParts) (at : ℕ) (file bytes : List ℕ) → IsFormOf t bytes → bytes ≡ body at file → IsFormOf t (body at file)
form_read t at file bytes form read = subst (λ b. IsFormOf t b) read form

pub no_form_read : (at : ℕ) (file bytes : List ℕ) → ((t : List JobParts) → IsTable t → ¬ IsFormOf t bytes) → bytes ≡ body at file → (t : List JobParts) → IsTable t → ¬ IsFormOf t (body at file)
no_form_read at file bytes none read = λ t is form. none t is (subst (λ b. IsFormOf t b) (sym read) form)
