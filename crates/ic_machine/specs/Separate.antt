-- That each place is named no more often than it may be.
use Rattle.std.specs.Prelude.{◌≡◌, ℕ, zero, suc, ◌+◌, ◌≤◌, ◌==◌, List, Bool, false, sum_by, slice_get}
use Rattle.std.specs.Option.{option_map_or}
use Rattle.ic_arena.specs.declared.word.Word.{Word}
use Rattle.ic_arena.specs.declared.word.TheConstants.{GIVEN}
use Rattle.ic_arena.specs.Word.{count}
use Rattle.ic_arena.specs.Piece.{Piece, room, uses}

-- A word names no place where it is an agent without arguments, or a name that was given once. The arities are those of
-- the symbols.
abbrev pub is_constant_tag : List ℕ → ℕ → Bool
is_constant_tag arities zero = false
is_constant_tag arities (suc s) =
    option_map_or (λ k. k == 0) (slice_get arities s) (suc s == GIVEN)

-- Each place is named at most as often as it may be. So a free place is named nowhere, no two agents have an argument in
-- common, and no word is a mark.
pub record IsSeparate (arities : List ℕ) (interface : List Word) (ps : List Piece) : Type 0 where
  pub each : (w : Word) → is_constant_tag arities w.tag ≡ false
      → count w interface + sum_by (uses w) ps ≤ sum_by (room w) ps
