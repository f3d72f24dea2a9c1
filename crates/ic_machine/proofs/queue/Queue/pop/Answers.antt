use Rattle.std.proofs.Common.{◌≡◌, ◌-◌, ◌<◌, ◌≤◌, List, [], ◌∷◌, ◌++◌, drop, length, slice_index_or, take, ap, subst, sym, ◌∙◌, arith}
use Rattle.std.proofs.lemmas.List.{length-drop, length-take-le, length_push, take_at}
use Rattle.ic_machine.specs.declared.equation.Equation.{Equation}
use Rattle.ic_machine.specs.inner.Queue.{Queued}
use Rattle.ic_machine.proofs.Queues.{last_left, taken_last}
use Rattle.ic_machine.proofs.queue.Queue.pop.Goals as goal
use Rattle.ic_machine.proofs.queue.Queue.pop.Goals.{After-take_last}

module _ (c : After-take_last) where
  some : 1 ≤ length (drop c.self.inside.taken c.self.inside.equations.items)
  some = subst (λ (q : Queued). 1 ≤ length q.items) (sym c.self.view_is) c.requires

  below : c.self.inside.taken < length c.self.inside.equations.items
  below = omega (arith, length-drop c.self.inside.taken c.self.inside.equations.items, some)

  rest : c.take_last.new.self.items ≡ take (length c.self.inside.equations.items - 1) c.self.inside.equations.items
  rest =
      let es : List Equation = c.self.inside.equations.items in
      let all : es ≡ c.take_last.new.self.items ++ c.take_last.result ∷ [] = c.take_last.ensures.items in
      let len : length c.take_last.new.self.items ≡ length es - 1 =
      omega (arith, ap length all ∙ length_push c.take_last.new.self.items c.take_last.result) in
      sym (ap (take (length es - 1)) all ∙ take_at c.take_last.new.self.items (c.take_last.result ∷ []) (length es - 1) len)

  parts : (d : Equation) → drop c.self.inside.taken c.self.inside.equations.items
      ≡ drop c.self.inside.taken c.take_last.new.self.items
      ++ slice_index_or c.self.inside.equations.items (length c.self.inside.equations.items - 1) d ∷ []
  parts d =
      let es : List Equation = c.self.inside.equations.items in
      let n = c.self.inside.taken in
      let lt = below in
      last_left es n (length es - 1) d lt (omega arith)
      ∙ ap (λ (l : List Equation). drop n l ++ slice_index_or es (length es - 1) d ∷ []) (sym rest)

pub invariant_of-self : goal.invariant_of-self
invariant_of-self c =
    let d = (goal.at.invariant_of-self c).After-take_last in
    let es : List Equation = c.self.inside.equations.items in
    let lt = below d in
    let len : length c.take_last.new.self.items ≡ length es - 1 = ap length (rest d) ∙ length-take-le (length es - 1) es (omega arith) in
    omega (arith, lt)

pub returns-clause-items : goal.returns-clause-items
returns-clause-items c = λ e last.
    let d = (goal.at.returns-clause-items c).After-take_last in
    let n = c.self.inside.taken in
    let same : drop n c.self.inside.equations.items ≡ c.args.self.now.items = ap (λ (q : Queued). q.items) c.self.view_is in
    let all = sym same ∙ parts d e in
    taken_last c.args.self.now.items (drop n c.take_last.new.self.items) e _ last all

pub returns-clause-len : goal.returns-clause-len
returns-clause-len c =
    let d = (goal.at.returns-clause-len c).After-take_last in
    let e : Equation = record { left = record { tag = 0; index = 0 }; right = record { tag = 0; index = 0 } } in
    let n = c.self.inside.taken in
    let es : List Equation = c.self.inside.equations.items in
    sym (ap (λ (q : Queued). length q.items) c.self.view_is) ∙ (ap length (parts d e)
    ∙ length_push (drop n c.take_last.new.self.items) (slice_index_or es (length es - 1) e))

pub returns-clause-capacity : goal.returns-clause-capacity
returns-clause-capacity c =
    ap (λ k. k - c.self.inside.taken) c.take_last.ensures.capacity ∙ ap (λ (q : Queued). q.capacity) c.self.view_is
