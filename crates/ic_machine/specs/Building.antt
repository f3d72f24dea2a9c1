-- What a machine is to begin with, as it is made.
use Rattle.std.specs.Prelude.{◌≡◌, ℕ, ◌+◌, ◌<◌, List, [], ◌++◌, length, map, IsPermutation}
use Rattle.std.specs.List.{flat_map, AllByRecursion}
use Rattle.ic_arena.specs.declared.word.Word.{Word}
use Rattle.ic_arena.specs.declared.word.TheConstants.{NAME}
use Rattle.ic_arena.specs.Piece.{Piece, idle}
use Rattle.ic_machine.specs.declared.plan.Link.{Link}
use Rattle.ic_machine.specs.Plan.{Made, Planned, made_each}
use Rattle.ic_machine.specs.Runs.{IsStart, first_registers}
use Rattle.ic_machine.specs.Steps.{AreFresh}

-- the arities of the symbols, what is in registers, and what each place of a name and of an agent holds
pub record Building : Type 0 where
  pub arities : List ℕ
  pub registers : List Word
  pub names : List Piece
  pub agents : List Piece

-- So many names are given, so many others are there, for which nothing waits, and these agents are made, each of what was in
-- registers by then. Their places are different, and there are no others.
pub record Builds (given names : ℕ) (made : List Made) (b : Building) : Type 0 where
  pub opened : List Word
  pub placed : List Word
  pub names_count : length opened ≡ names
  pub name_tags : AllByRecursion (λ w. w.tag ≡ NAME) opened
  pub made_tags : map (λ w. w.tag) placed ≡ map (λ m. m.symbol + 1) made
  pub fresh : AreFresh (opened ++ placed) []
  pub registers : b.registers ≡ first_registers b.arities given opened placed
  pub filled : AllByRecursion (λ k. k < length b.registers) (flat_map (λ m. m.operands) made)
  pub names_are : IsPermutation b.names (map idle opened)
  pub agents_are : IsPermutation b.agents (made_each b.registers made placed)

-- What is made is that of a plan that has these links, with which a machine can begin, and with this interface.
pub record CanBegin (links : List Link) (interface : List ℕ) (b : Building) : Type 0 where
  pub given : ℕ
  pub plan : Planned
  pub links_are : plan.links ≡ links
  pub builds : Builds given plan.names plan.made b
  pub start : IsStart b.arities given plan interface
