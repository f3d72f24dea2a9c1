use Rattle.ic_term.specs.declared.term.Term.{Term}
use Rattle.ic_term.specs.declared.term.Cell.{Cell}
use Rattle.ic_term.specs.declared.term.Equation.{Equation}
use Rattle.ic_term.specs.declared.term.Term.TheOpen.{Term-F, Cell-F, Name, Agent}
use Rattle.ic_term.specs.declared.term.Term.TheFolds.{fold-Term, fold-Cell}
use Rattle.ic_term.specs.Tree.{Tree, name, agent, trees_of, Pair}

abbrev pub term_step : Term-F Tree Tree → Tree
term_step (Name n) = name n
term_step (Agent cell) = cell.value

abbrev pub cell_step : Cell-F Tree Tree → Tree
cell_step cell = agent cell.sym (trees_of cell.args.items)

-- a term as plain data, without where it lies in memory
abbrev pub tree : Term → Tree
tree = fold-Term Tree Tree term_step cell_step

-- an agent as plain data
abbrev pub cell_tree : Cell → Tree
cell_tree = fold-Cell Tree Tree term_step cell_step

-- an equation as plain data
abbrev pub pair : Equation → Pair
pair e = record { left = tree e.left; right = tree e.right }
