-- Lemmas, which a reader of the contracts doesn't need: the equations of `tree` and `cell_tree`, for proofs about
-- what makes terms or takes them apart.
use Rattle.std.specs.Prelude.{◌≡◌, ℕ, Box, map}
use Rattle.std.proofs.Common.{sym, ◌∙◌, ap}
use Rattle.std.specs.declared.alloc.Global.{Global}
use Rattle.ic_term.specs.declared.term.Term.TheVariants.{Name, Agent, rolls-Name, rolls-Agent}
use Rattle.ic_term.specs.declared.term.Term.TheOpen.{Name as name_layer, Agent as agent_layer, Cell-F}
use Rattle.ic_term.specs.declared.term.Term.{Term}
use Rattle.ic_term.specs.declared.term.Term.TheFolds.{fold-roll-Term, fold-roll-Cell, fold_out-Cell}
use Rattle.ic_term.specs.declared.term.Cell.{Cell, roll-Cell, out-Cell}
use Rattle.ic_term.specs.Tree.{Tree, name, agent, trees_of}
use Rattle.ic_term.specs.Term.{tree, cell_tree, term_step, cell_step}

pub tree-Name : (n : ℕ) → tree (Name n) ≡ name n
tree-Name n = ap tree (sym (rolls-Name n)) ∙ fold-roll-Term Tree Tree term_step cell_step (name_layer n)

pub tree-Agent : (b : Box Cell Global) → tree (Agent b) ≡ cell_tree b.value
tree-Agent b = ap tree (sym (rolls-Agent b)) ∙ fold-roll-Term Tree Tree term_step cell_step (agent_layer b)

-- an agent that is made of a symbol and arguments
pub cell_tree-roll : (c : Cell-F Term Cell) → cell_tree (roll-Cell c) ≡ agent c.sym (trees_of (map tree c.args.items))
cell_tree-roll c = fold-roll-Cell Tree Tree term_step cell_step c

-- an agent that is taken apart
pub cell_tree-out : (c : Cell) → cell_tree c ≡ agent (out-Cell c).sym (trees_of (map tree (out-Cell c).args.items))
cell_tree-out c = fold_out-Cell Tree Tree term_step cell_step c
