use Rattle.ic_flat.specs.lemmas.WordTests.{word_eq-Decides}
use Rattle.ic_flat.proofs.laws.equality_is_exact.Goals as goal

pub returns : goal.returns
returns c = word_eq-Decides
