use Rattle.std.proofs.Common.{◌++◌}
use Rattle.std.proofs.lemmas.List.Sorted.{IsPermutation-refl}
use Rattle.ic_machine.specs.Steps.{no_step}
use Rattle.ic_in_place.proofs.Onward.{ran_nothing}
use Rattle.ic_in_place.proofs.gauge.Gauge.look.Goals as goal

pub returns-then-not-found-clause-ran : goal.returns-then-not-found-clause-ran
returns-then-not-found-clause-ran c = λ p. ran_nothing p c.args.machine.now

pub returns-then-not-found-clause-steps : goal.returns-then-not-found-clause-steps
returns-then-not-found-clause-steps c = λ p rest. no_step (c.args.machine.now.places ++ rest) (c.args.machine.now.places ++ rest)
    (IsPermutation-refl (c.args.machine.now.places ++ rest))
