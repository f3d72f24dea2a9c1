-- For private functions: equations that are fired onto a list while they stay within the limits.
use Rattle.std.specs.Prelude.{ℕ, ◌+◌, ◌≤◌, ◌&&◌, List, Bool, length, nat_le, Vec, vec_len, vec_capacity}
use Rattle.ic_term.specs.Tree.{Pair}
use Rattle.ic_term.specs.declared.limits.TheConstants.{MAX_NODES, MAX_NEXT}
use Rattle.ic_flat.specs.declared.word.Word.{Word}
use Rattle.ic_flat_round.specs.declared.fired.Reached.{Reached}
use Rattle.ic_flat_rules.specs.RuleWords.{pairs_words}

-- so many nodes, with names below this number, are within the limits
abbrev pub is_within : ℕ → ℕ → Bool
is_within nodes next = nat_le nodes MAX_NODES && nat_le next MAX_NEXT

-- how far these equations reach, with names below this number
abbrev pub reached : List Pair → ℕ → Reached
reached ps next = record { equations = length ps; next = next }

module _ {Z : Type 0} where
  -- a list has no more words than a configuration may have, and room for so many
  pub record IsRoomy (out : Vec Word Z) : Type 0 where
    pub few : vec_len out ≤ MAX_NODES
    pub room : MAX_NODES ≤ vec_capacity out

  -- a list with these equations put after its words, and names below this number, is within the limits
  abbrev pub fits_after : Vec Word Z → List Pair → ℕ → Bool
  fits_after out ps next = is_within (vec_len out + length (pairs_words ps)) next
