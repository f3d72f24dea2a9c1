-- The tables of a machine, and what a firing does to them.
use Rattle.std.specs.Prelude.{◌≡◌, ℕ, zero, suc, ◌+◌, ◌-◌, ◌^◌, ◌<◌, ◌≤◌, ◌⊎◌, Contains, List, [], ◌∷◌, ◌++◌, Option, Some, length, map, max, take, slice_get, sum_by, IfSome}
use Rattle.std.specs.List.{AllByRecursion}
use Rattle.ic_arena.specs.declared.word.Word.{Word}
use Rattle.ic_arena.specs.declared.word.TheConstants.{NAME, IDLE, GIVEN}
use Rattle.ic_arena.specs.Word.{name_word, count}
use Rattle.ic_arena.specs.Piece.{Piece, room, uses}
use Rattle.ic_arena.specs.Tables.{Blocks, names_pieces}
use Rattle.ic_machine.specs.declared.equation.Equation.{Equation}
use Rattle.ic_machine.specs.declared.tables.Tables.{Tables}
use Rattle.ic_machine.specs.Plan.{Made, Planned, Plans, ArePlans, IsPlan, constants, number_of, pieces_made, plan_of}
use Rattle.ic_machine.specs.Net.{equated_of, in_use}
use Rattle.ic_machine.specs.Runs.{greatest, Counted, Way}
use Rattle.ic_machine.specs.Generations.{FiresPair, Takes}
use Rattle.ic_machine.specs.Steps.{AreFresh, Steps}
use Rattle.ic_machine.specs.inner.Firing.{heaps_pieces, arities_of, table, HasBlocks, HasRoom}

-- what the tables say, and after it other pieces
abbrev pub held : Tables → List Piece → List Piece
held t rest = names_pieces 0 t.names.entries
    ++ (heaps_pieces 0 t.heaps.items ++ (map equated_of t.pending.items ++ rest))

-- With the names that a plan makes there are 2^32 or more. Or there are 2^32 places or more for agents of a symbol of which
-- it makes one, with as many more as it makes agents.
abbrev pub IsTooMuch : Planned → ℕ → List Blocks → Type 0
IsTooMuch p names hs = (2 ^ 32 ≤ names + p.names)
    ⊎ ((m : Made) × Contains p.made m × (2 ^ 32 ≤ (table hs m.symbol).count + length p.made))

-- how many places of this kind the tables have
abbrev pub size_at : ℕ → Tables → ℕ
size_at zero t = length t.names.entries
size_at (suc s) t = (table t.heaps.items s).count

-- how many arguments the agents of a pair have
abbrev pub arguments_of : Equation → List Blocks → ℕ
arguments_of e hs = (table hs (e.left.tag - 1)).arity + (table hs (e.right.tag - 1)).arity

-- there is memory for what a plan makes, after so many arguments
pub record HasMemory (p : Planned) (arguments : ℕ) (t : Tables) : Type 0 where
  pub names : length t.names.entries + p.names ≤ t.names.capacity
  pub few : length t.names.entries + p.names < 2 ^ 32
  pub pending : length t.pending.items + length p.links ≤ t.pending.capacity
  pub registers : length t.heaps.items + (arguments + p.names + length p.made) ≤ length t.registers.items
  pub heaps : AllByRecursion (HasRoom t.heaps.items (length p.made)) p.made

-- there is memory for so many names more, so many links, and so many agents of each symbol, and there are numbers for them
pub record HasRoomFor (n : ℕ) (t : Tables) : Type 0 where
  pub names : length t.names.entries + n ≤ t.names.capacity
  pub few : length t.names.entries + n < 2 ^ 32
  pub pending : length t.pending.items + n ≤ t.pending.capacity
  pub heaps : (s : ℕ) → s < length t.heaps.items → HasBlocks n (table t.heaps.items s)

-- how many names, agents and links a plan makes
abbrev pub size_of : Planned → ℕ
size_of p = p.names + length p.made + length p.links

-- what is spare is there
abbrev pub HasSpare : Tables → Type 0
HasSpare t = 1 ≤ t.spare → HasRoomFor t.spare t

-- The registers, so many of which are filled, hold the agents without arguments and these arguments, of which a plan can make
-- what it makes: no word is a mark, and each name is named at most as often as there is room.
pub record IsReady (p : Planned) (filled : ℕ) (t : Tables) : Type 0 where
  pub args : List Word
  pub len : filled ≡ length t.heaps.items + length args
  pub words_are : take filled t.registers.items ≡ constants (length t.heaps.items) ++ args
  pub plan : IsPlan (arities_of t.heaps.items) (length args) p
  pub words : AllByRecursion (λ w. w.tag < IDLE) args
  pub symbols : length t.heaps.items < GIVEN
  pub named : (i : ℕ) → count (name_word i) args + sum_by (uses (name_word i)) (names_pieces 0 t.names.entries)
      ≤ sum_by (room (name_word i)) (names_pieces 0 t.names.entries)

-- the words in the registers, so many of which are filled, and after them others
abbrev pub filled_with : ℕ → Tables → List Word → List Word
filled_with filled t more = take filled t.registers.items ++ more

-- What a plan makes is made, at places that were free, and its equations are linked. So many registers were filled.
pub record IsMade (p : Planned) (filled : ℕ) (old new : Tables) : Type 0 where
  pub names : List Word
  pub made : List Word
  pub names_count : length names ≡ p.names
  pub made_count : length made ≡ length p.made
  pub name_tags : AllByRecursion (λ w. w.tag ≡ NAME) names
  pub made_tags : map (λ w. w.tag) made ≡ map (λ m. m.symbol + 1) p.made
  pub registers : take (filled + (p.names + length p.made)) new.registers.items ≡ filled_with filled old (names ++ made)
  pub fresh : (rest : List Equation) → AreFresh (names ++ made) (held old (map equated_of rest))
  pub steps : (q : Plans) (rest : List Piece) → Steps q []
      (pieces_made p (filled_with filled old (names ++ made)) names made ++ held old rest) (held new rest)
  pub bare : (q : Plans) (rest : List Piece) (more : List Equation) → new.pending.items ≡ old.pending.items ++ more → Steps q []
      (pieces_made p (filled_with filled old (names ++ made)) names made
      ++ (names_pieces 0 old.names.entries ++ (heaps_pieces 0 old.heaps.items ++ rest)))
      (names_pieces 0 new.names.entries ++ (heaps_pieces 0 new.heaps.items ++ (map equated_of more ++ rest)))
  pub places : (kind : ℕ) (rest : List Equation) → size_at kind new
      ≡ max (size_at kind old) (in_use kind
      (pieces_made p (filled_with filled old (names ++ made)) names made ++ held old (map equated_of rest)))

-- The plan of these symbols has this number in a program.
pub record IsNumbered (p : Plans) (i : ℕ) (left right : ℕ) (plan : Planned) : Type 0 where
  pub number : number_of p left right ≡ Some i
  pub has_plan : slice_get p.plans i ≡ Some plan

-- This pair fires by the plan with this number, beside what is at places and other equations, and what it makes is linked. More
-- pairs come of it.
pub record FiresBeside (p : Plans) (e : Equation) (fired : ℕ) (old new : Tables) (more others : List Equation) : Type 0 where
  pub middle : List Piece
  pub pair : FiresPair p e fired
      (equated_of e ∷ (names_pieces 0 old.names.entries ++ (heaps_pieces 0 old.heaps.items ++ map equated_of others))) middle
  pub links : Steps p [] middle (names_pieces 0 new.names.entries
      ++ (heaps_pieces 0 new.heaps.items ++ (map equated_of more ++ map equated_of others)))

-- This pair, which is no longer pending, fires by this plan beside the others, which are, and what it makes is linked. There are
-- as many places as before, or as are in use as it has fired.
pub record FiresBy (p : Plans) (e : Equation) (fired : ℕ) (old new : Tables) (others rest : List Equation) : Type 0 where
  pub moment : List Piece
  pub bare : (more beside : List Equation) → new.pending.items ≡ others ++ more → FiresBeside p e fired old new more beside
  pub way : Way p (fired ∷ []) (moment ∷ [])
      (equated_of e ∷ (names_pieces 0 old.names.entries ++ (heaps_pieces 0 old.heaps.items
      ++ (map equated_of others ++ map equated_of rest)))) (held new (map equated_of rest))
  pub places : (kind : ℕ) → size_at kind new ≡ max (size_at kind old) (in_use kind moment)

-- No plan needs more than so much: registers for its arguments, names and agents, and equations, all together.
abbrev pub NeedAtMost : ℕ → Plans → Type 0
NeedAtMost most p = (a b left right : ℕ) → slice_get p.arities a ≡ Some left → slice_get p.arities b ≡ Some right
    → IfSome (plan_of p a b) (λ plan. left + right + size_of plan ≤ most)

-- What a program keeps: its plans are some, and none needs more than so much, where that is a number.
pub record IsProgram (p : Plans) (most : Option ℕ) : Type 0 where
  pub plans : ArePlans p
  pub need : IfSome most (λ n. NeedAtMost n p)

-- So many pairs fire one after another, beside what is set aside, and each is counted. There are as many places as before, or as
-- were ever in use.
pub record FiresEach (p : Plans) (count : ℕ) (counts counts' : List ℕ) (old new : Tables) (rest : List Equation) : Type 0 where
  pub fired : List ℕ
  pub moments : List (List Piece)
  pub counted : length fired ≡ count
  pub way : Way p fired moments (held old (map equated_of rest)) (held new (map equated_of rest))
  pub places : (kind : ℕ) → size_at kind new ≡ greatest (size_at kind old) (map (in_use kind) moments)
  pub tally : Counted fired counts counts'

-- the pieces of a net with these tables, without its pending pairs, but with those that are of a later generation and those that
-- are set aside
abbrev pub apart : (later aside : List Equation) → Tables → List Piece
apart later aside t = map equated_of later
    ++ (map equated_of aside ++ (names_pieces 0 t.names.entries ++ heaps_pieces 0 t.heaps.items))

-- So many pairs, the first pending ones, fire one after another, and those that come of them stand after all others. Each of the
-- others may be of the present generation or of a later one.
pub record FiresFirsts (p : Plans) (count : ℕ) (counts counts' : List ℕ) (old new : Tables) (aside : List Equation) : Type 0 where
  pub each : FiresEach p count counts counts' old new aside
  pub taken : List Equation
  pub rest : List Equation
  pub more : List Equation
  pub many : length taken ≡ count
  pub before : old.pending.items ≡ taken ++ rest
  pub after : new.pending.items ≡ rest ++ more
  pub takes : (now later : List Equation)
      → Takes p (taken ++ now) now each.fired (apart later aside old) (apart (later ++ more) aside new)
