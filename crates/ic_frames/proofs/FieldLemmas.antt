-- Files that are the same over a part of a slot, and what its fields are there.
use Rattle.std.proofs.Common.{◌≡◌, ◌⊎◌, ⊎_elim, ℕ, ◌+◌, ◌<◌, ◌≤◌, Bool, true, false, List, length, get_or, drop, sym, ◌∙◌, ap, arith, length-drop}
use Rattle.std.proofs.lemmas.List.{ext_get_or, get_or-take, get_or-drop, length-take-le}
use Rattle.std.proofs.lemmas.Bool.{leb-true, le-leb, eqb-true, eq-eqb, ne_eqb, lt-leb, and_parts, and_from, and_left, and_right}
use Rattle.std.specs.Prelude.{◌&&◌, ◌==◌, nat_le}
use Rattle.std.specs.Int.{w32, w64, from_be_bytes}
use Rattle.ic_disk.specs.Content.{bytes_at}
use Rattle.ic_frames.specs.Fields.{number, size, body, is_open, is_whole}

-- both files have these places, with the same bytes
pub record SameAt (at n : ℕ) (a b : List ℕ) : Type 0 where
  pub within : at + n ≤ length a
  pub within_new : at + n ≤ length b
  pub same : (i : ℕ) → at ≤ i → i < at + n → get_or b i 0 ≡ get_or a i 0

-- a part of the places
pub part_of : (at n k m : ℕ) (a b : List ℕ) → SameAt at n a b → at ≤ k → k + m ≤ at + n → SameAt k m a b
part_of at n k m a b s from until = record {
  within = omega (arith, s.within);
  within_new = omega (arith, s.within_new);
  same = λ i above below. s.same i (omega arith) (omega arith);
}

pub length-bytes_at : (k n : ℕ) (a : List ℕ) → k + n ≤ length a → length (bytes_at k n a) ≡ n
length-bytes_at k n a within = length-take-le n (drop k a) (omega (arith, length-drop k a))

pub get_or-bytes_at : (k n i : ℕ) (a : List ℕ) → i < n → get_or (bytes_at k n a) i 0 ≡ get_or a (k + i) 0
get_or-bytes_at k n i a below = get_or-take n (drop k a) i 0 below ∙ get_or-drop k a i 0

pub same_bytes : (k n : ℕ) (a b : List ℕ) → SameAt k n a b → bytes_at k n b ≡ bytes_at k n a
same_bytes k n a b s = ext_get_or 0 (bytes_at k n b) (bytes_at k n a)
    (length-bytes_at k n b s.within_new ∙ sym (length-bytes_at k n a s.within))
    (λ i inside.
    let below : i < n = omega (arith, inside, length-bytes_at k n b s.within_new) in
    get_or-bytes_at k n i b below ∙ s.same (k + i) (omega arith) (omega (arith, below)) ∙ sym (get_or-bytes_at k n i a below))

pub number-same : (at : ℕ) (a b : List ℕ) → SameAt (at + 1) 8 a b → number at b ≡ number at a
unfolding number
number-same at a b s = ap (λ (bytes : List ℕ). from_be_bytes w64 bytes) (same_bytes (at + 1) 8 a b s)

pub size-same : (at : ℕ) (a b : List ℕ) → SameAt (at + 9) 4 a b → size at b ≡ size at a
unfolding size
size-same at a b s = ap (λ (bytes : List ℕ). from_be_bytes w32 bytes) (same_bytes (at + 9) 4 a b s)

pub body-same : (at : ℕ) (a b : List ℕ) → size at b ≡ size at a → SameAt (at + 13) (size at a) a b → body at b ≡ body at a
unfolding body
body-same at a b same s = ap (λ (m : ℕ). bytes_at (at + 13) m b) same ∙ same_bytes (at + 13) (size at a) a b s

-- what the tests say
pub record Open (at : ℕ) (file : List ℕ) : Type 0 where
  pub within : at + 13 ≤ length file
  pub gate_is : get_or file at 0 ≡ 1

pub open_parts : (at : ℕ) (file : List ℕ) → is_open at file ≡ true → Open at file
unfolding is_open
open_parts at file is =
    let both = and_parts _ _ is in
    record { within = leb-true _ _ both.0; gate_is = eqb-true _ _ both.1 }

pub open_from : (at : ℕ) (file : List ℕ) → at + 13 ≤ length file → get_or file at 0 ≡ 1 → is_open at file ≡ true
unfolding is_open
open_from at file within is = and_from _ _ (le-leb _ _ within) (eq-eqb _ _ is)

-- a head that is cut off is closed
pub short_shut : (at : ℕ) (file : List ℕ) → length file < at + 13 → is_open at file ≡ false
unfolding is_open
short_shut at file short = and_left _ _ (lt-leb _ _ short)

-- a gate that isn't 1 is closed
pub shut_from : (at : ℕ) (file : List ℕ) → (get_or file at 0 ≡ 1 → ⊥) → is_open at file ≡ false
unfolding is_open
shut_from at file is_not = and_right _ _ (ne_eqb _ _ is_not)

pub open-same : (at : ℕ) (a b : List ℕ) → at + 13 ≤ length a → at + 13 ≤ length b → get_or b at 0 ≡ get_or a at 0 → is_open at b ≡ is_open at a
unfolding is_open
open-same at a b within within_new same =
    ap (λ (t : Bool). t && (get_or b at 0 == 1)) (le-leb _ _ within_new ∙ sym (le-leb _ _ within))
    ∙ ap (λ (g : ℕ). nat_le (at + 13) (length a) && (g == 1)) same

pub record Whole (at : ℕ) (file : List ℕ) : Type 0 where
  pub bounded : size at file ≤ 3036677
  pub within : at + 13 + size at file ≤ length file

pub whole_parts : (at : ℕ) (file : List ℕ) → is_whole at file ≡ true → Whole at file
unfolding is_whole
whole_parts at file is =
    let both = and_parts _ _ is in
    record { bounded = leb-true _ _ both.0; within = leb-true _ _ both.1 }

pub whole_from : (at : ℕ) (file : List ℕ) → size at file ≤ 3036677 → at + 13 + size at file ≤ length file → is_whole at file ≡ true
unfolding is_whole
whole_from at file bounded within = and_from _ _ (le-leb _ _ bounded) (le-leb _ _ within)

pub spoiled_from : (at : ℕ) (file : List ℕ) → (3036677 < size at file) ⊎ (length file < at + 13 + size at file) → is_whole at file ≡ false
unfolding is_whole
spoiled_from at file why = ⊎_elim (λ long. and_left _ _ (lt-leb _ _ long)) (λ cut. and_right _ _ (lt-leb _ _ cut)) why

-- what was read of a head
pub number_read : (at : ℕ) (file bytes : List ℕ) (n : ℕ) → bytes ≡ bytes_at (at + 1) 8 file → n ≡ from_be_bytes w64 bytes → number at file ≡ n
unfolding number
number_read at file bytes n read is = sym (is ∙ ap (λ (b : List ℕ). from_be_bytes w64 b) read)

pub size_read : (at : ℕ) (file bytes : List ℕ) (n : ℕ) → bytes ≡ bytes_at (at + 9) 4 file → n ≡ from_be_bytes w32 bytes → size at file ≡ n
unfolding size
size_read at file bytes n read is = sym (is ∙ ap (λ (b : List ℕ). from_be_bytes w32 b) read)

pub gate_read : (at : ℕ) (file bytes : List ℕ) → bytes ≡ bytes_at at 1 file → get_or bytes 0 0 ≡ get_or file at 0
gate_read at file bytes read =
    let here : at + 0 ≡ at = omega arith in
    ap (λ (l : List ℕ). get_or l 0 0) read ∙ get_or-bytes_at at 1 0 file (omega arith) ∙ ap (λ (k : ℕ). get_or file k 0) here
