use Rattle.std.proofs.Common.{◌≡◌, ℕ, ◌+◌, arith, ap, sym, ◌∙◌, map, min}
use Rattle.std.proofs.lemmas.Grind.{common_steps}
use Rattle.ic_term.specs.lemmas.TermLaws.{cell_tree-roll, cell_tree-out}
use Rattle.ic_term.specs.Tree.{agent, trees_of}
use Rattle.ic_term.specs.Term.{tree}
use Rattle.ic_rules.specs.Renaming.{renamed}
use Rattle.ic_rules.specs.lemmas.RenamingLaws.{renamed_trees-trees_of}
use Rattle.ic_round.specs.lemmas.Words.{u64_MAX}
use Rattle.ic_round.proofs.work.+raise.Goals as goal

pub raised_cell-returns : goal.raised_cell-returns
raised_cell-returns t c =
    let cell = c.args.cell.now in
    let f = λ (k : ℕ). min (c.args.base + k) u64_MAX in
    let done : map tree c.loop-term.args.items ≡ map (renamed f) (map tree cell.args.items) = grind (arith, common_steps) in
    cell_tree-roll (record { sym = cell.sym; args = c.loop-term.args })
    ∙ ap (λ ts. agent cell.sym (trees_of ts)) done
    ∙ ap (agent cell.sym) (sym (renamed_trees-trees_of f (map tree cell.args.items)))
    ∙ sym (ap (renamed f) (cell_tree-out cell))
