-- Five states by hand, and their bytes field by field: the worked example of the form.
use Rattle.std.specs.Prelude.{ℕ, ◌+◌, List, [], ◌∷◌, ◌++◌, None, Some, true, false, codes}
use Rattle.ic_flat.specs.declared.word.Word.TheVariants.{Name, Agent}
use Rattle.ic_state.specs.State.{Kept}

-- the text `{A(x)><B(x)} <r|A(r)=B(C)>`, of which the symbols are `A` 0, `B` 1 and `C` 2, and the name `r` is 17
abbrev pub joins : List ℕ
joins = codes "{A(x)><B(x)} <r|A(r)=B(C)>"

-- its state as it begins: `<r|A(r)=B(C)>`
abbrev pub joins_begun : Kept
joins_begun = record {
  text = joins;
  words = Name 17 ∷ Agent 0 1 ∷ Name 17 ∷ Agent 1 1 ∷ Agent 2 0 ∷ [];
  terms = 1;
  interactions = 0;
  by_rule = 0 ∷ [];
  ended = false;
  millis = 0;
  rounds = None;
  narrow = false;
}

-- its state after its one interaction, and 1,027 milliseconds: `<C|>`
abbrev pub joins_ended : Kept
joins_ended = record {
  text = joins;
  words = Agent 2 0 ∷ [];
  terms = 1;
  interactions = 1;
  by_rule = 1 ∷ [];
  ended = true;
  millis = 1027;
  rounds = None;
  narrow = false;
}

-- a text that has three rules and nothing else of a system but its symbols, `A` 0 and `B` 1
abbrev pub meets : List ℕ
meets = codes "{A><A; A><B; B><B}<A,B|>"

-- A state with this text whose numbers are apart: two terms, four words, five interactions in 40 milliseconds, and not ended.
-- The rules have fired never, twice and three times.
abbrev pub meets_midway : Kept
meets_midway = record {
  text = meets;
  words = Name 9 ∷ Agent 1 0 ∷ Name 9 ∷ Agent 0 0 ∷ [];
  terms = 2;
  interactions = 5;
  by_rule = 0 ∷ 2 ∷ 3 ∷ [];
  ended = false;
  millis = 40;
  rounds = None;
  narrow = false;
}

-- the ended state, where its one interaction was made in one round
abbrev pub joins_by_rounds : Kept
joins_by_rounds = record joins_ended { rounds = Some 1 }

-- the state as it begins, in the narrow form
abbrev pub joins_narrow : Kept
joins_narrow = record joins_begun { narrow = true }

-- a number below 256 in eight bytes
abbrev pub in_eight : ℕ → List ℕ
in_eight n = 0 ∷ 0 ∷ 0 ∷ 0 ∷ 0 ∷ 0 ∷ 0 ∷ n ∷ []

-- an agent with this symbol and so many arguments, both below 256
abbrev pub agent_in_eight : (symbol arguments : ℕ) → List ℕ
agent_in_eight symbol arguments = 0x80 ∷ 0 ∷ 0 ∷ arguments ∷ 0 ∷ 0 ∷ 0 ∷ symbol ∷ []

-- the same in four bytes, where there are fewer than 128 arguments
abbrev pub in_four : ℕ → List ℕ
in_four n = 0 ∷ 0 ∷ 0 ∷ n ∷ []

abbrev pub agent_in_four : (symbol arguments : ℕ) → List ℕ
agent_in_four symbol arguments = (0x80 + arguments) ∷ 0 ∷ 0 ∷ symbol ∷ []

-- `ICKEPT01`
abbrev pub format_by_hand : List ℕ
format_by_hand = 0x49 ∷ 0x43 ∷ 0x4b ∷ 0x45 ∷ 0x50 ∷ 0x54 ∷ 0x30 ∷ 0x31 ∷ []

-- The 130 bytes: one term, no interaction, not ended, one rule, five words, no milliseconds; the rule hasn't fired.
abbrev pub begun_by_hand : List ℕ
begun_by_hand = format_by_hand
    ++ in_eight 1 ++ in_eight 0 ++ in_eight 0 ++ in_eight 1 ++ in_eight 5 ++ in_eight 0
    ++ in_eight 0
    ++ in_eight 17 ++ agent_in_eight 0 1 ++ in_eight 17 ++ agent_in_eight 1 1 ++ agent_in_eight 2 0
    ++ joins

-- The 98 bytes: one term, one interaction, ended, one rule, one word, 1,027 milliseconds; the rule has fired once.
abbrev pub ended_by_hand : List ℕ
ended_by_hand = format_by_hand
    ++ in_eight 1 ++ in_eight 1 ++ in_eight 1 ++ in_eight 1 ++ in_eight 1
    ++ (0 ∷ 0 ∷ 0 ∷ 0 ∷ 0 ∷ 0 ∷ 4 ∷ 3 ∷ [])
    ++ in_eight 1
    ++ agent_in_eight 2 0
    ++ joins

-- The 136 bytes: two terms, five interactions, not ended, three rules, four words, 40 milliseconds; the rules have fired 0, 2
-- and 3 times.
abbrev pub midway_by_hand : List ℕ
midway_by_hand = format_by_hand
    ++ in_eight 2 ++ in_eight 5 ++ in_eight 0 ++ in_eight 3 ++ in_eight 4 ++ in_eight 40
    ++ in_eight 0 ++ in_eight 2 ++ in_eight 3
    ++ in_eight 9 ++ agent_in_eight 1 0 ++ in_eight 9 ++ agent_in_eight 0 0
    ++ meets

-- The 114 bytes: `ICROUND1`, one round, and then the bytes of the ended state.
abbrev pub by_rounds_by_hand : List ℕ
by_rounds_by_hand =
    (0x49 ∷ 0x43 ∷ 0x52 ∷ 0x4f ∷ 0x55 ∷ 0x4e ∷ 0x44 ∷ 0x31 ∷ []) ++ in_eight 1 ++ ended_by_hand

-- The 110 bytes: `ICKEPT02`, the numbers of the state as it begins, and its five words in four bytes each.
abbrev pub narrow_by_hand : List ℕ
narrow_by_hand = (0x49 ∷ 0x43 ∷ 0x4b ∷ 0x45 ∷ 0x50 ∷ 0x54 ∷ 0x30 ∷ 0x32 ∷ [])
    ++ in_eight 1 ++ in_eight 0 ++ in_eight 0 ++ in_eight 1 ++ in_eight 5 ++ in_eight 0
    ++ in_eight 0
    ++ in_four 17 ++ agent_in_four 0 1 ++ in_four 17 ++ agent_in_four 1 1 ++ agent_in_four 2 0
    ++ joins
