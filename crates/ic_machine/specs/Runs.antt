-- What a machine begins with, and what a run leads to.
use Rattle.std.specs.Prelude.{◌≡◌, ℕ, ◌+◌, ◌<◌, ◌≤◌, ◌==◌, List, [], ◌∷◌, ◌++◌, Some, length, map, max, take, count_by, fold, slice_get, slice_index_or}
use Rattle.std.specs.List.{AllByRecursion, range_with_len}
use Rattle.ic_arena.specs.declared.word.Word.{Word}
use Rattle.ic_arena.specs.declared.word.TheConstants.{NAME, GIVEN}
use Rattle.ic_arena.specs.Piece.{Piece}
use Rattle.ic_arena.specs.Tables.{register}
use Rattle.ic_machine.specs.declared.equation.Equation.{Equation}
use Rattle.ic_machine.specs.declared.plan.Link.{Link}
use Rattle.ic_machine.specs.Plan.{Planned, Plans, IsPlan, allowance, constants, operands_of, pieces_made}
use Rattle.ic_machine.specs.Net.{Net, in_use, pieces, places_of, IsPair, IsPairPiece, IsStuck}
use Rattle.ic_machine.specs.Steps.{AreFresh, Fires, Steps}

-- the words of so many given names
abbrev pub given_words : ℕ → List Word
given_words count = map (λ i. record { tag = GIVEN; index = i }) (range_with_len 0 count)

-- A plan of so many given names and the registers of an interface: each is filled, and what the plan and the interface
-- use together is no more than each register may be used.
pub record IsStart (arities : List ℕ) (given : ℕ) (p : Planned) (interface : List ℕ) : Type 0 where
  pub plan : IsPlan arities given p
  pub filled : AllByRecursion (λ k. k < length arities + given + p.names + length p.made) interface
  pub constant : AllByRecursion (λ k. k < length arities → slice_get arities k ≡ Some 0) interface
  pub linear : (k : ℕ) → length arities ≤ k
      → count_by (λ m. m == k) (interface ++ operands_of p) ≤ allowance (length arities + given) p.names k

-- what is in registers: the agents without arguments, given names, fresh names, and the agents that are made
abbrev pub first_registers : List ℕ → ℕ → List Word → List Word → List Word
first_registers arities given names made = constants (length arities) ++ (given_words given ++ (names ++ made))

-- What a machine begins with: what a plan makes of given names, at places that are different, and the words of registers
-- as its interface.
pub record Begins (arities : List ℕ) (given : ℕ) (p : Planned) (operands : List ℕ)
    (interface : List Word) (ps : List Piece) : Type 0 where
  pub names : List Word
  pub made : List Word
  pub names_count : length names ≡ p.names
  pub name_tags : AllByRecursion (λ w. w.tag ≡ NAME) names
  pub made_tags : map (λ w. w.tag) made ≡ map (λ m. m.symbol + 1) p.made
  pub fresh : AreFresh (names ++ made) []
  pub interface_is : interface ≡ map (register (first_registers arities given names made)) operands
  pub pieces : ps ≡ pieces_made p (first_registers arities given names made) names made

-- the equation that a link makes of what is in registers
abbrev pub equation_at : List Word → Link → Equation
equation_at rs l = record { left = register rs l.left; right = register rs l.right }

-- Links at the head whose registers hold no names put their equations after the others, as they are, before all that further
-- links put there.
abbrev pub HaveHead : List Link → List Word → List Equation → List Equation → Type 0
HaveHead links rs old new = (n : ℕ) → AllByRecursion (λ l. IsPair (equation_at rs l)) (take n links)
    → (more : List Equation) × (new ≡ old ++ (map (equation_at rs) (take n links) ++ more))

-- A net is what a machine begins with, linked by steps that fire nothing. Links at the head whose registers hold no names are the
-- first pending pairs. It has as many places as that uses.
pub record Starts (p : Plans) (given : ℕ) (plan : Planned) (operands : List ℕ) (n : Net) : Type 0 where
  pub first : List Piece
  pub begins : Begins p.arities given plan operands n.interface first
  pub steps : Steps p [] first (pieces n)
  pub places : (kind : ℕ) → places_of kind n ≡ in_use kind first
  pub symbols : length n.agents ≡ length p.arities
  pub head : HaveHead plan.links (first_registers p.arities given begins.names begins.made) [] n.pending

-- What was counted of each plan, and what is counted of it after these have fired.
pub record Counted (fired old new : List ℕ) : Type 0 where
  pub all : length new ≡ length old
  pub each : (i : ℕ) → i < length old
      → slice_index_or new i 0 ≡ slice_index_or old i 0 + count_by (λ j. j == i) fired

-- A pair fires by this plan, after steps that fire nothing. By then no equation is left of which a side is a name of the net.
pub record FiresNext (p : Plans) (fired : ℕ) (xs ys : List Piece) : Type 0 where
  pub before : List Piece
  pub steps : Steps p [] xs before
  pub pairs : AllByRecursion IsPairPiece before
  pub fires : Fires p fired before ys

-- Pairs fire by these plans, one after another. These are the pieces as each of them has fired, before they are linked.
abbrev pub Way : Plans → List ℕ → List (List Piece) → List Piece → List Piece → Type 0
Way p [] [] xs ys = Steps p [] xs ys
Way p [] (m ∷ ms) xs ys = ⊥
Way p (i ∷ is) [] xs ys = ⊥
Way p (i ∷ is) (m ∷ ms) xs ys = FiresNext p i xs m × Way p is ms m ys

-- the greatest of some numbers
abbrev pub greatest : ℕ → List ℕ → ℕ
greatest n ns = fold max n ns

-- Pairs fired on the way from one net to another, as many as were counted, of each plan too. Equations that are stuck were set
-- aside. Of each kind there are as many places as before, or as were ever in use.
pub record Ran (p : Plans) (old new : Net) : Type 0 where
  pub fired : List ℕ
  pub moments : List (List Piece)
  pub way : Way p fired moments (pieces old) (pieces new)
  pub places : (kind : ℕ) → places_of kind new ≡ greatest (places_of kind old) (map (in_use kind) moments)
  pub symbols : length new.agents ≡ length old.agents
  pub counted : new.interactions ≡ old.interactions + length fired
  pub counts : Counted fired old.counts new.counts
  pub arities : new.arities ≡ old.arities
  pub interface : new.interface ≡ old.interface
  pub more : List Equation
  pub aside : new.aside ≡ old.aside ++ more
  pub stuck : AllByRecursion (IsStuck p) more
