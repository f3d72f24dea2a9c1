use Rattle.std.proofs.Common.{◌≡◌, ◌++◌, List}
use Rattle.std.specs.List.{AllByRecursion}
use Rattle.ic_machine.specs.declared.telling.Told.{Told}
use Rattle.ic_machine.specs.Moving.{IsTold}
use Rattle.ic_machine.proofs.machine.Machine.tell.Given as goal

abbrev pub invariant-loop-cut : goal.invariant-loop-cut
invariant-loop-cut l = record {
  told : (more : List Told) × (l.told.items ≡ l.initial.told.items ++ more) × AllByRecursion (IsTold l.self l.initial.borders) more;
  same : l.borders ≡ l.initial.borders;
}
