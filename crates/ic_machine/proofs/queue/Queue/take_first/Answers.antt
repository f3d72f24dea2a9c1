use Rattle.std.proofs.Common.{◌≡◌, ◌+◌, ◌-◌, ◌<◌, ◌≤◌, List, drop, length, slice_index_or, vec_capacity, ap, subst, sym, ◌∙◌, arith}
use Rattle.std.proofs.lemmas.List.{length-drop}
use Rattle.ic_machine.specs.declared.equation.Equation.{Equation}
use Rattle.ic_machine.specs.inner.Queue.{Queued}
use Rattle.ic_machine.proofs.Queues.{first_left, taken_first}
use Rattle.ic_machine.proofs.queue.Queue.take_first.Goals as goal

pub invariant_of-self : goal.invariant_of-self
invariant_of-self c =
    let es : List Equation = c.self.inside.equations.items in
    let n = c.self.inside.taken in
    let some : 1 ≤ length (drop n es) = subst (λ (q : Queued). 1 ≤ length q.items) (sym c.self.view_is) c.requires in
    omega (arith, length-drop n es)

pub returns-clause-items : goal.returns-clause-items
returns-clause-items c = λ e first.
    let es : List Equation = c.self.inside.equations.items in
    let n = c.self.inside.taken in
    let some : 1 ≤ length (drop n es) = subst (λ (q : Queued). 1 ≤ length q.items) (sym c.self.view_is) c.requires in
    let below : n < length es = omega (arith, length-drop n es) in
    taken_first c.args.self.now.items (drop (n + 1) es) e (slice_index_or es n e) first
    (sym (ap (λ (q : Queued). q.items) c.self.view_is) ∙ first_left es n e below)

pub returns-clause-len : goal.returns-clause-len
returns-clause-len c =
    let es : List Equation = c.self.inside.equations.items in
    let n = c.self.inside.taken in
    let some : 1 ≤ length (drop n es) = subst (λ (q : Queued). 1 ≤ length q.items) (sym c.self.view_is) c.requires in
    let len : length (drop n es) ≡ length (drop (n + 1) es) + 1 = omega (arith, length-drop n es, length-drop (n + 1) es) in
    sym (ap (λ (q : Queued). length q.items) c.self.view_is) ∙ len

pub returns-clause-capacity : goal.returns-clause-capacity
returns-clause-capacity c =
    let n = c.self.inside.taken in
    let cap = vec_capacity c.self.inside.equations in
    subst (λ (q : Queued). q.capacity ≤ (cap - (n + 1)) + 1) c.self.view_is (omega arith)
