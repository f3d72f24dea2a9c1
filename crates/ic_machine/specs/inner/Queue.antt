-- Equations that are put at the end, and taken at both ends.
use Rattle.std.specs.Prelude.{ℕ, ◌-◌, ◌≤◌, List, drop, length, vec_capacity}
use Rattle.ic_machine.specs.declared.equation.Equation.{Equation}
use Rattle.ic_machine.specs.declared.queue.Queue.TheInside.{Inside}

-- the equations, the first one first, and how many there may be before more memory is taken
pub record Queued : Type 0 where
  pub items : List Equation
  pub capacity : ℕ

-- those that were taken at the front still stand there
abbrev pub queued : Inside → Queued
queued q = record { items = drop q.taken q.equations.items; capacity = vec_capacity q.equations - q.taken }

abbrev pub IsQueue : Inside → Type 0
IsQueue q = q.taken ≤ length q.equations.items
