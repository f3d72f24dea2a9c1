-- The bytes of an open slot and what they say.
use Rattle.std.proofs.Common.{◌≡◌, ⊎_elim, ℕ, ◌+◌, ◌^◌, ◌<◌, ◌≤◌, ◌↔◌, true, List, [], ◌∷◌, ◌++◌, length, get_or, drop, sym, ◌∙◌, ap, subst, arith, length-drop}
use Rattle.std.proofs.lemmas.List.{length-take, get_or_past, take_all}
use Rattle.std.proofs.lemmas.Bool.{cases_lt}
use Rattle.std.proofs.lemmas.Nat.{from_be_bytes-to_be_bytes_4, from_be_bytes-to_be_bytes_8, be_bytes_4, be_bytes_8}
use Rattle.std.specs.Int.{w32, w64, from_be_bytes, to_be_bytes}
use Rattle.ic_disk.specs.Content.{bytes_at}
use Rattle.ic_frames.specs.declared.slot.Slot.{Slot}
use Rattle.ic_frames.specs.Places.{place}
use Rattle.ic_frames.specs.Fields.{number, size, body, is_open, is_whole}
use Rattle.ic_frames.specs.Staged.{IsStaged}
use Rattle.ic_frames.specs.Layout.{slot_bytes, AreBytes}
use Rattle.ic_frames.proofs.FieldLemmas.{length-bytes_at, get_or-bytes_at, open_parts, open_from, whole_parts, whole_from}
use Rattle.ic_frames.proofs.FrameLemmas.{shifted_bytes, joined, each_part, gate_part}

length-slot_bytes : (n : ℕ) (held : List ℕ) → length (slot_bytes n held) ≡ 13 + length held
length-slot_bytes n held = omega arith

-- where these bytes stand in a file
module _ (at n : ℕ) (held file : List ℕ) (fits : n < 2 ^ 64) (short : length held ≤ 3036677) (is : bytes_at at (13 + length held) file ≡ slot_bytes n held) where
  within : at + (13 + length held) ≤ length file
  within = omega (arith, ap length is ∙ length-slot_bytes n held, length-take (13 + length held) (drop at file), length-drop at file)

  byte_is : (i : ℕ) → i < 13 + length held → get_or file (at + i) 0 ≡ get_or (slot_bytes n held) i 0
  byte_is i below = sym (get_or-bytes_at at (13 + length held) i file below) ∙ ap (λ (l : List ℕ). get_or l i 0) is

  part_is : (k m : ℕ) → k + m ≤ 13 + length held → bytes_at (at + k) m file ≡ bytes_at k m (slot_bytes n held)
  part_is k m until = shifted_bytes k (at + k) m (slot_bytes n held) file (omega (arith, length-slot_bytes n held)) (omega (arith, within))
      (λ i below. let there : at + k + i ≡ at + (k + i) = omega arith in
      ap (λ (j : ℕ). get_or file j 0) there ∙ byte_is (k + i) (omega (arith, below)))

  pub written_number : number at file ≡ n
  unfolding number
  written_number = ap (λ (bytes : List ℕ). from_be_bytes w64 bytes) (part_is 1 8 (omega arith)) ∙ from_be_bytes-to_be_bytes_8 n fits

  pub written_size : size at file ≡ length held
  unfolding size
  written_size = ap (λ (bytes : List ℕ). from_be_bytes w32 bytes) (part_is 9 4 (omega arith)) ∙ from_be_bytes-to_be_bytes_4 (length held) (omega arith)

  pub written_open : is_open at file ≡ true
  written_open =
      let here : at ≡ at + 0 = omega arith in
      open_from at file (omega (arith, within)) (ap (λ (j : ℕ). get_or file j 0) here ∙ byte_is 0 (omega arith))

  pub written_whole : is_whole at file ≡ true
  written_whole = whole_from at file (omega (arith, written_size, short)) (omega (arith, written_size, within))

  pub written_body : body at file ≡ held
  unfolding body
  written_body =
      ap (λ (m : ℕ). bytes_at (at + 13) m file) written_size
      ∙ part_is 13 (length held) (omega arith)
      ∙ take_all (length held) held (omega arith)

-- These bytes are a slot that is open and whole, with this number and this body.
pub written_slot : (slot : Slot) (n : ℕ) (held file : List ℕ) → n < 2 ^ 64 → length held ≤ 3036677 → bytes_at (place slot) (13 + length held) file ≡ slot_bytes n held
    → (is_open (place slot) file ≡ true) × IsStaged slot n held file
written_slot slot n held file fits short is = (
  written_open (place slot) n held file fits short is,
  record {
    number_is = written_number (place slot) n held file fits short is;
    whole = written_whole (place slot) n held file fits short is;
    body_is = written_body (place slot) n held file fits short is;
  },
)

-- a part of a file of bytes has bytes
part_has_bytes : (at n : ℕ) (file : List ℕ) → at + n ≤ length file → AreBytes file → (i : ℕ) → get_or (bytes_at at n file) i 0 < 256
part_has_bytes at n file within bytes i = ⊎_elim
    (λ inside. subst (λ (b : ℕ). b < 256) (sym (get_or-bytes_at at n i file inside)) (bytes (at + i)))
    (λ past. subst (λ (b : ℕ). b < 256) (sym (get_or_past (bytes_at at n file) i 0 (omega (arith, length-bytes_at at n file within, past)))) (omega arith))
    (cases_lt i n)

-- the four parts of a slot
four_parts : (at n : ℕ) (file : List ℕ) → bytes_at at (13 + n) file ≡ bytes_at at 1 file ++ bytes_at (at + 1) 8 file ++ bytes_at (at + 9) 4 file ++ bytes_at (at + 13) n file
four_parts at n file =
    joined at 13 n file
    ∙ ap (λ (l : List ℕ). l ++ bytes_at (at + 13) n file) (joined at 9 4 file ∙ ap (λ (l : List ℕ). l ++ bytes_at (at + 9) 4 file) (joined at 1 8 file))

number_part : (at n : ℕ) (file : List ℕ) → at + 13 ≤ length file → AreBytes file → number at file ≡ n → bytes_at (at + 1) 8 file ≡ to_be_bytes w64 n
unfolding number
number_part at n file within bytes is =
    let part : at + 1 + 8 ≤ length file = omega arith in
    sym (be_bytes_8 (bytes_at (at + 1) 8 file) n (length-bytes_at (at + 1) 8 file part) (part_has_bytes (at + 1) 8 file part bytes) (sym is))

size_part : (at n : ℕ) (file : List ℕ) → at + 13 ≤ length file → AreBytes file → size at file ≡ n → bytes_at (at + 9) 4 file ≡ to_be_bytes w32 n
unfolding size
size_part at n file within bytes is =
    let part : at + 9 + 4 ≤ length file = omega arith in
    sym (be_bytes_4 (bytes_at (at + 9) 4 file) n (length-bytes_at (at + 9) 4 file part) (part_has_bytes (at + 9) 4 file part bytes) (sym is))

size_of_body : (at : ℕ) (held file : List ℕ) → at + 13 + size at file ≤ length file → body at file ≡ held → size at file ≡ length held
unfolding body
size_of_body at held file within is = sym (length-bytes_at (at + 13) (size at file) file within) ∙ ap length is

body_part : (at : ℕ) (held file : List ℕ) → size at file ≡ length held → body at file ≡ held → bytes_at (at + 13) (length held) file ≡ held
unfolding body
body_part at held file long is = ap (λ (m : ℕ). bytes_at (at + 13) m file) (sym long) ∙ is

-- A slot that is open and whole, with this number and this body, is these bytes.
pub slot_written : (slot : Slot) (n : ℕ) (held file : List ℕ) → AreBytes file → is_open (place slot) file ≡ true → IsStaged slot n held file
    → bytes_at (place slot) (13 + length held) file ≡ slot_bytes n held
slot_written slot n held file bytes opened is =
    let at = place slot in
    let head = open_parts at file opened in
    let long = size_of_body at held file (whole_parts at file is.whole).within is.body_is in
    four_parts at (length held) file
    ∙ each_part (bytes_at at 1 file) (bytes_at (at + 1) 8 file) (bytes_at (at + 9) 4 file) (bytes_at (at + 13) (length held) file)
    (1 ∷ []) (to_be_bytes w64 n) (to_be_bytes w32 (length held)) held
    (gate_part at 1 file (omega (arith, head.within)) head.gate_is)
    (number_part at n file head.within bytes is.number_is)
    (size_part at (length held) file head.within bytes long)
    (body_part at held file long is.body_is)

-- the tests, each of them both ways
pub open_is : (at : ℕ) (file : List ℕ) → (is_open at file ≡ true) ↔ ((at + 13 ≤ length file) × (get_or file at 0 ≡ 1))
open_is at file = (λ opened. ((open_parts at file opened).within, (open_parts at file opened).gate_is), λ both. open_from at file both.0 both.1)

pub whole_is : (at : ℕ) (file : List ℕ) → (is_whole at file ≡ true) ↔ ((size at file ≤ 3036677) × (at + 13 + size at file ≤ length file))
whole_is at file = (λ whole. ((whole_parts at file whole).bounded, (whole_parts at file whole).within), λ both. whole_from at file both.0 both.1)

-- a whole body is as long as its slot says
pub whole_long : (at : ℕ) (file : List ℕ) → is_whole at file ≡ true → length (body at file) ≡ size at file
unfolding body
whole_long at file whole = length-bytes_at (at + 13) (size at file) file (whole_parts at file whole).within
