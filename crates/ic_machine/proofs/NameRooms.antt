-- Which names have room.
use Rattle.std.proofs.Common.{◌≡◌, ℕ, zero, suc, ◌+◌, ◌<◌, ◌≤◌, ◌==◌, inl, inr, List, [], ◌∷◌, ◌++◌, Bool, true, cond, length, refl, ap, sym, ◌∙◌, arith, sum_by, zero-add, length-append}
use Rattle.std.proofs.lemmas.Bool.Decides.{eqb_tells, leb_tells}
use Rattle.ic_arena.specs.declared.word.Word.{Word}
use Rattle.ic_arena.specs.declared.word.TheConstants.{FREE, NAME}
use Rattle.ic_arena.specs.Word.{name_word, word_eq, count}
use Rattle.ic_arena.specs.Piece.{Piece, room}
use Rattle.ic_arena.specs.Tables.{Replaced, entry, entry_piece, names_pieces}
use Rattle.std.proofs.lemmas.List.Sums.{sum_by-cons}
use Rattle.ic_arena.specs.lemmas.Rooms.{names_room}
use Rattle.ic_machine.specs.inner.Linking.{AreNamed}

-- a word whose tag is that of names is a name
pub as_name : (w : Word) → w.tag ≡ NAME → w ≡ name_word w.index
as_name w h = ap (λ (t : ℕ). record { tag = t; index = w.index }) h

pub entry_room : (ws : List Word) (i : ℕ)
    → sum_by (room (name_word i)) (names_pieces 0 ws)
    ≡ sum_by (room (name_word i)) (entry_piece i (entry ws i))
entry_room ws i = names_room ws 0 i i (sym (zero-add i))

pub free_entry : (i : ℕ) (w : Word) → w.tag ≡ FREE → entry_piece i w ≡ []
free_entry i w h = rw h refl

-- a free name has no room
pub free_room : (ws : List Word) (i : ℕ) → (entry ws i).tag ≡ FREE
    → sum_by (room (name_word i)) (names_pieces 0 ws) ≡ 0
free_room ws i h = entry_room ws i ∙ ap (sum_by (room (name_word i))) (free_entry i (entry ws i) h)

-- after the last entry names are free
pub entry_past : (ws : List Word) (i : ℕ) → length ws ≤ i → (entry ws i).tag ≡ FREE
entry_past [] i h = refl
entry_past (w ∷ ws) zero h = absurd (omega arith)
entry_past (w ∷ ws) (suc i) h = entry_past ws i (omega arith)

-- a name that has room has an entry
pub has_entry : (ws : List Word) (i : ℕ) → 1 ≤ sum_by (room (name_word i)) (names_pieces 0 ws)
    → i < length ws
has_entry ws i h = elim (leb_tells (length ws) i) [
  | inl t ↦ (let none : sum_by (room (name_word i)) (names_pieces 0 ws) ≡ 0 =
      free_room ws i (entry_past ws i t.1) in
      absurd (omega arith))
  | inr t ↦ t.1
]

-- and isn't free
pub not_free : (ws : List Word) (i : ℕ) → 1 ≤ sum_by (room (name_word i)) (names_pieces 0 ws)
    → (entry ws i).tag ≡ FREE → ⊥
not_free ws i h free =
    let none : sum_by (room (name_word i)) (names_pieces 0 ws) ≡ 0 = free_room ws i free in
    absurd (omega arith)

-- how many pieces there are where a part is replaced
pub replaced_length : (old new xs ys : List Piece) → Replaced old new xs ys
    → length ys + length old ≡ length xs + length new
replaced_length old new xs ys r =
    let a = ap length r.before ∙ (length-append r.front (old ++ r.back)
    ∙ ap (λ (n : ℕ). length r.front + n) (length-append old r.back)) in
    let b = ap length r.after ∙ (length-append r.front (new ++ r.back)
    ∙ ap (λ (n : ℕ). length r.front + n) (length-append new r.back)) in
    omega arith

-- a word is itself
pub word_eq_refl : (w : Word) → word_eq w w ≡ true
word_eq_refl w = rw (own w.tag, own w.index) refl
  where
    own : (a : ℕ) → (a == a) ≡ true
    own a = elim (eqb_tells a a) [
      | inl t ↦ t.0
      | inr t ↦ absurd (t.1 refl)
    ]

-- a name that is one of two words has room
pub named_roomy : (i : ℕ) (r : Word) (ws : List Word) → AreNamed (name_word i) r ws
    → 1 ≤ sum_by (room (name_word i)) (names_pieces 0 ws)
named_roomy i r ws n =
    let w : Word = name_word i in
    let before = n.named i in
    let own : ◌≡◌ {A = ℕ} (cond (word_eq w w) 1 0) 1 = ap (λ (b : Bool). cond b 1 0) (word_eq_refl w) in
    let both : count w (w ∷ r ∷ []) ≡ cond (word_eq w w) 1 0 + count w (r ∷ []) =
    sum_by-cons (λ x. cond (word_eq w x) 1 0) w (r ∷ []) in
    omega arith
