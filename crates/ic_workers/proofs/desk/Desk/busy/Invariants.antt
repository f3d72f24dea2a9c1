use Rattle.std.proofs.Common.{◌<◌, length}
use Rattle.std.specs.List.{AllByRecursion}
use Rattle.ic_workers.proofs.desk.Desk.busy.Given as goal

abbrev pub invariant-loop-part : goal.invariant-loop-part
invariant-loop-part l = AllByRecursion (λ k. k < length l.self.parts.items) l.busy.items
