-- What linking needs of the names, and does to them.
use Rattle.std.specs.Prelude.{◌≡◌, ℕ, ◌+◌, ◌<◌, ◌≤◌, List, [], ◌∷◌, ◌++◌, length, map, sum_by}
use Rattle.std.specs.List.{AllByRecursion, flat_map}
use Rattle.ic_arena.specs.declared.word.Word.{Word}
use Rattle.ic_arena.specs.declared.word.TheConstants.{IDLE, NAME}
use Rattle.ic_arena.specs.Word.{name_word, count}
use Rattle.ic_arena.specs.Piece.{Piece, equated, waits, room, uses}
use Rattle.ic_arena.specs.Tables.{Replaced, entry, names_pieces}
use Rattle.ic_machine.specs.declared.equation.Equation.{Equation}
use Rattle.ic_machine.specs.declared.plan.Link.{Link}
use Rattle.ic_machine.specs.Net.{IsPair}
use Rattle.ic_machine.specs.Plan.{Plans, linked, link_operands}
use Rattle.ic_machine.specs.Steps.{Steps}

-- Two words, beside the entries of names: neither is a mark, and each name is named at most as often as there is room.
pub record AreNamed (left right : Word) (entries : List Word) : Type 0 where
  pub left_word : left.tag < IDLE
  pub right_word : right.tag < IDLE
  pub named : (i : ℕ) → count (name_word i) (left ∷ right ∷ [])
      + sum_by (uses (name_word i)) (names_pieces 0 entries)
      ≤ sum_by (room (name_word i)) (names_pieces 0 entries)

-- Equations whose sides are in registers, beside the entries of names: no word is a mark, and each name is named at most as
-- often as there is room.
pub record AreLinks (links : List Link) (registers entries : List Word) : Type 0 where
  pub filled : AllByRecursion (λ k. k < length registers) (flat_map link_operands links)
  pub words : AllByRecursion (λ w. w.tag < IDLE) registers
  pub named : (i : ℕ) → sum_by (uses (name_word i)) (map (linked registers) links)
      + sum_by (uses (name_word i)) (names_pieces 0 entries)
      ≤ sum_by (room (name_word i)) (names_pieces 0 entries)

-- a word is no name, or one for which nothing waits
abbrev pub IsEnd : Word → List Word → Type 0
IsEnd w entries = w.tag ≡ NAME → (entry entries w.index).tag ≡ IDLE

-- This word waited for a name, which is gone.
pub record IsTaken (name : Word) (old new : List Word) (waiting : Word) : Type 0 where
  pub named : name.tag ≡ NAME
  pub word : waiting.tag < IDLE
  pub gone : Replaced (waits name waiting ∷ []) [] (names_pieces 0 old) (names_pieces 0 new)

-- A word met the one that waited for a name, and the name is gone.
pub record Meeting (name word waiting : Word) (old new : List Word) : Type 0 where
  pub steps : (p : Plans) (rest : List Piece) → Steps p []
      (equated name word ∷ (names_pieces 0 old ++ rest)) (equated waiting word ∷ (names_pieces 0 new ++ rest))
  pub named : AreNamed waiting word new
  pub fewer : length (names_pieces 0 new) + 1 ≡ length (names_pieces 0 old)

-- Equations whose sides are no names were put after the others.
pub record Pushed (old new : List Equation) : Type 0 where
  pub more : List Equation
  pub after : new ≡ old ++ more
  pub pairs : AllByRecursion IsPair more
