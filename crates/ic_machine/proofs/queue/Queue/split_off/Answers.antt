use Rattle.std.proofs.Common.{List, drop, take, ap, ◌∙◌}
use Rattle.std.proofs.lemmas.List.{drop-take}
use Rattle.ic_machine.specs.declared.equation.Equation.{Equation}
use Rattle.ic_machine.specs.inner.Queue.{Queued}
use Rattle.ic_machine.proofs.queue.Queue.split_off.Goals as goal

pub returns-clause-items : goal.returns-clause-items
returns-clause-items c =
    let es : List Equation = c.self.inside.equations.items in
    let n = c.self.inside.taken in
    ap (drop n) c.in_ok-equations.ensures.items
    ∙ (drop-take n c.args.count es ∙ ap (λ (q : Queued). take c.args.count q.items) c.self.view_is)
