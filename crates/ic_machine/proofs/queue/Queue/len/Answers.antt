use Rattle.std.proofs.Common.{◌≡◌, ◌-◌, List, drop, length, ap, ◌∙◌, arith}
use Rattle.std.proofs.lemmas.List.{length-drop}
use Rattle.ic_machine.specs.declared.equation.Equation.{Equation}
use Rattle.ic_machine.specs.inner.Queue.{Queued}
use Rattle.ic_machine.proofs.queue.Queue.len.Goals as goal

pub returns-clause-count : goal.returns-clause-count
returns-clause-count c =
    let es : List Equation = c.self.inside.equations.items in
    let count : c.len.result - c.self.inside.taken ≡ length (drop c.self.inside.taken es) =
    omega (arith, c.len.ensures, c.self.inside.equations.ok.0, length-drop c.self.inside.taken es) in
    count ∙ ap (λ (q : Queued). length q.items) c.self.view_is

pub returns-clause-few : goal.returns-clause-few
returns-clause-few c =
    omega (arith, c.len.ensures, c.self.inside.equations.ok.1, c.self.inside.equations.small)
