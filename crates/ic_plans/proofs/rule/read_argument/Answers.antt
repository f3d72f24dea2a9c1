use Rattle.std.proofs.Common.{◌≡◌, ℕ, not, ap, sym, ◌∙◌}
use Rattle.std.specs.Prelude.{is_some}
use Rattle.ic_term.specs.Tree.{Trees, name, agent}
use Rattle.ic_term.specs.Term.{tree}
use Rattle.ic_term.specs.lemmas.TermLaws.{cell_tree-out, tree-Agent, tree-Name}
use Rattle.ic_plans.specs.inner.Registers.{found}
use Rattle.ic_plans.proofs.RegisterLemmas.{argument-kept, argument-added, number_in, some_there}
use Rattle.ic_plans.proofs.rule.read_argument.Goals as goal

-- an agent is no name
no_name : (s : ℕ) (ts : Trees) (x : ℕ) → agent s ts ≡ name x → ⊥
no_name s ts x e = cc

pub returns-in_ok-set : goal.returns-in_ok-set
returns-in_ok-set c = λ arguments start below regs.
    rw (c.in-Name.is, tree-Name c.in-Name.name) (argument-added arguments start c.args.registers.now c.set.new.self c.in-Name.name c.args.own c.in_ok-set.ensures.set below regs)

pub returns-else-is_none : goal.returns-else-is_none
returns-else-is_none c = λ arguments start below regs.
    let here = some_there (found c.args.registers.now c.in-Name.name) (ap is_some (sym c.get.ensures) ∙ c.is_none.ensures ∙ ap not c.if-is_none.false) in
    rw (c.in-Name.is, tree-Name c.in-Name.name)
    (argument-kept arguments start (record { register = c.args.own; term = name c.in-Name.name }) c.args.registers.now regs
    (λ x e. (here.0, ap (found c.args.registers.now) (sym (ap number_in e)) ∙ here.1)))

pub returns-in_default : goal.returns-in_default
returns-in_default c = λ arguments start below regs.
    argument-kept arguments start (record { register = c.args.own; term = tree c.args.term.now }) c.args.registers.now regs
    (λ x e. absurd (no_name _ _ x (sym (ap tree c.in_default.is ∙ tree-Agent c.in_default.field-0 ∙ cell_tree-out c.in_default.field-0.value) ∙ e)))
