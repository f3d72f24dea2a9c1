use Rattle.std.proofs.Common.{[], ◌∷◌, ◌++◌, refl}
use Rattle.ic_book.specs.lemmas.Weights.{length_weighs, weigh_one}
use Rattle.ic_book.proofs.laws.entries_weigh_so.Goals as goal

pub returns-clause-one_more : goal.returns-clause-one_more
returns-clause-one_more c = λ h e. weigh_one h (h ++ e ∷ []) e refl

pub returns-clause-short : goal.returns-clause-short
returns-clause-short c = λ h. length_weighs h
