use Rattle.std.proofs.Common.{◌≡◌, arith, ap, sym, ◌∙◌, map}
use Rattle.std.proofs.lemmas.Grind.{common_steps}
use Rattle.ic_term.specs.lemmas.TermLaws.{tree-Name, cell_tree-roll, cell_tree-out}
use Rattle.ic_term.specs.Tree.{name, agent, trees_of}
use Rattle.ic_term.specs.Term.{tree}
use Rattle.ic_rules.specs.Renaming.{number_among, renamed}
use Rattle.ic_rules.specs.lemmas.RenamingLaws.{renamed_trees-trees_of}
use Rattle.ic_rules.proofs.renaming.+number.Goals as goal

pub number_cell-returns : goal.number_cell-returns
number_cell-returns t c =
    let cell = c.args.cell.now in
    let f = number_among c.args.firsts.now in
    let done : map tree c.loop-term.args.items ≡ map (renamed f) (map tree cell.args.items) = grind (arith, common_steps) in
    cell_tree-roll (record { sym = cell.sym; args = c.loop-term.args })
    ∙ ap (λ ts. agent cell.sym (trees_of ts)) done
    ∙ ap (agent cell.sym) (sym (renamed_trees-trees_of f (map tree cell.args.items)))
    ∙ sym (ap (renamed f) (cell_tree-out cell))

pub number_term-returns-in-Name : goal.number_term-returns-in-Name
number_term-returns-in-Name t c =
    let f = number_among c.args.firsts.now in
    tree-Name c.number.result
    ∙ ap name c.number.ensures
    ∙ sym (ap (λ u. renamed f (tree u)) c.in-Name.is ∙ ap (renamed f) (tree-Name c.in-Name.name))
