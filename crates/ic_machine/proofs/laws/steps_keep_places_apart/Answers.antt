use Rattle.ic_machine.specs.lemmas.FiresKeep.{steps_keep}
use Rattle.ic_machine.proofs.laws.steps_keep_places_apart.Goals as goal

pub returns : goal.returns
returns c = λ p fired interface xs ys sound steps separate.
    steps_keep p fired interface xs ys sound steps separate
