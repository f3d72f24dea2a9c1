use Rattle.std.proofs.Common.{◌≡◌, ◌+◌, ◌-◌, ◌<◌, List, [], ◌∷◌, ◌++◌, drop, length, take, ap, sym, subst, ◌∙◌, arith}
use Rattle.std.proofs.Math.ListN.{drop_of_length-le}
use Rattle.ic_machine.specs.declared.equation.Equation.{Equation}
use Rattle.ic_machine.specs.inner.Pairs.{IsLast}
use Rattle.ic_machine.specs.inner.Queue.{Queued}
use Rattle.ic_machine.proofs.Queues.{last_left}
use Rattle.ic_machine.proofs.queue.Queue.last.Goals as goal

pub returns-then-end-self : goal.returns-then-end-self
returns-then-end-self c =
    let es : List Equation = c.self.inside.equations.items in
    sym (ap (λ (q : Queued). q.items) c.self.view_is)
    ∙ drop_of_length-le es (omega (arith, c.len-end.ensures, c.self.inside.equations.ok.0, c.if-end-self.true))

pub returns : goal.returns
returns c =
    let es : List Equation = c.self.inside.equations.items in
    let n = c.self.inside.taken in
    let k = c.len-end.result - 1 in
    let e : Equation = c.index.result.now in
    let below : n < length es = omega (arith, c.len-end.ensures, c.self.inside.equations.ok.0, c.if-end-self.false, c.self.invariant) in
    let end : k + 1 ≡ length es = omega (arith, c.len-end.ensures, c.self.inside.equations.ok.0) in
    subst (λ (q : Queued). IsLast e q.items) c.self.view_is (record {
      front = drop n (take k es);
      is = last_left es n k e below end ∙ ap (λ (x : Equation). drop n (take k es) ++ x ∷ []) (sym c.index.ensures);
    })
