-- Machines by hand, of which something waits for the end of a cut. The symbols are Z, without arguments, and S with one.
use Rattle.std.specs.Prelude.{ℕ, List, [], ◌∷◌}
use Rattle.ic_arena.specs.declared.word.Word.{Word}
use Rattle.ic_arena.specs.Word.{agent_word, name_word}
use Rattle.ic_arena.specs.Piece.{idle, waits, agent_of}
use Rattle.ic_machine.specs.Moving.{Ends, Side}

abbrev pub arities_by_hand : List ℕ
arities_by_hand = 0 ∷ 1 ∷ []

abbrev pub z_word : Word
z_word = agent_word 0 0

-- the agent S in this row
abbrev pub s_word : ℕ → Word
s_word row = agent_word 1 row

-- S(t) waits for the name 0, the end of cut 7. The name 1 is t, for which S(Z) waits.
abbrev pub closed_by_hand : Side
closed_by_hand = record {
  places = waits (name_word 0) (s_word 0) ∷ agent_of (s_word 0) (name_word 1 ∷ [])
      ∷ waits (name_word 1) (s_word 1) ∷ agent_of (s_word 1) (z_word ∷ []) ∷ [];
  ends = record { cut = 7; name = 0 } ∷ [];
}

-- nothing is left, and no end of a cut
abbrev pub empty_by_hand : Side
empty_by_hand = record { places = []; ends = [] }

-- The same as the first, but nothing waits for t.
abbrev pub open_by_hand : Side
open_by_hand = record {
  places = waits (name_word 0) (s_word 0) ∷ agent_of (s_word 0) (name_word 1 ∷ [])
      ∷ idle (name_word 1) ∷ [];
  ends = record { cut = 7; name = 0 } ∷ [];
}

-- t is the end of cut 9
abbrev pub cut_by_hand : Side
cut_by_hand = record {
  places = idle (name_word 1) ∷ [];
  ends = record { cut = 9; name = 1 } ∷ [];
}

-- The number 9 is spare, and from 10 on each second one.
abbrev pub ends_before : Ends
ends_before = record { ends = open_by_hand.ends; ended = 9 ∷ []; next = 10; step = 2 }

abbrev pub ends_after : Ends
ends_after = record { ends = cut_by_hand.ends; ended = []; next = 10; step = 2 }

-- cut 7, S(S(Z))
abbrev pub closed_words : List Word
closed_words = name_word 7 ∷ s_word 0 ∷ s_word 0 ∷ z_word ∷ []

-- cut 7, S of cut 9
abbrev pub open_words : List Word
open_words = name_word 7 ∷ s_word 0 ∷ name_word 9 ∷ []
