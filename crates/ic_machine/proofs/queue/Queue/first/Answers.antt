use Rattle.std.proofs.Common.{◌+◌, ◌<◌, ◌≤◌, List, ◌∷◌, drop, length, ap, sym, subst, ◌∙◌, arith}
use Rattle.std.proofs.lemmas.List.{length-drop}
use Rattle.ic_machine.specs.declared.equation.Equation.{Equation}
use Rattle.ic_machine.specs.inner.Pairs.{IsFirst}
use Rattle.ic_machine.specs.inner.Queue.{Queued}
use Rattle.ic_machine.proofs.Queues.{first_left}
use Rattle.ic_machine.proofs.queue.Queue.first.Goals as goal

pub index-requires : goal.index-requires
index-requires c =
    let es : List Equation = c.self.inside.equations.items in
    let some : 1 ≤ length (drop c.self.inside.taken es) =
    subst (λ (q : Queued). 1 ≤ length q.items) (sym c.self.view_is) c.requires in
    omega (arith, c.self.inside.equations.ok.0, length-drop c.self.inside.taken es)

pub returns : goal.returns
returns c =
    let es : List Equation = c.self.inside.equations.items in
    let n = c.self.inside.taken in
    let some : 1 ≤ length (drop n es) = subst (λ (q : Queued). 1 ≤ length q.items) (sym c.self.view_is) c.requires in
    let below : n < length es = omega (arith, length-drop n es) in
    subst (λ (q : Queued). IsFirst c.index.result.now q.items) c.self.view_is (record {
      rest = drop (n + 1) es;
      is = first_left es n c.index.result.now below ∙ ap (λ (e : Equation). e ∷ drop (n + 1) es) (sym c.index.ensures);
    })
