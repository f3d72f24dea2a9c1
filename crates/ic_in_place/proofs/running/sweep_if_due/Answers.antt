use Rattle.std.proofs.Common.{◌++◌, refl}
use Rattle.std.proofs.lemmas.List.Sorted.{IsPermutation-refl}
use Rattle.ic_machine.specs.Steps.{no_step}
use Rattle.ic_in_place.proofs.Onward.{ran_nothing}
use Rattle.ic_in_place.proofs.running.sweep_if_due.Goals as goal

pub returns-then-names_in_use-due-clause-ran : goal.returns-then-names_in_use-due-clause-ran
returns-then-names_in_use-due-clause-ran c = λ p. ran_nothing p c.args.machine.now

pub returns-then-names_in_use-due-clause-same : goal.returns-then-names_in_use-due-clause-same
returns-then-names_in_use-due-clause-same c = refl

pub returns-then-names_in_use-due-clause-steps : goal.returns-then-names_in_use-due-clause-steps
returns-then-names_in_use-due-clause-steps c = λ p rest. no_step (c.args.machine.now.places ++ rest) (c.args.machine.now.places ++ rest)
    (IsPermutation-refl (c.args.machine.now.places ++ rest))
