use Rattle.std.proofs.Common.{refl}
use Rattle.ic_lives.specs.lemmas.AmongLemmas.{answered_join}
use Rattle.ic_lives.proofs.words.what_is_taken_is_answered.Goals as goal

pub returns-clause-takes : goal.returns-clause-takes
returns-clause-takes c moves who command reply = (refl, refl)

pub returns-clause-keeps : goal.returns-clause-keeps
returns-clause-keeps c moves = (refl, refl)

pub returns-clause-opens : goal.returns-clause-opens
returns-clause-opens c moves = (refl, refl)

pub returns-clause-later : goal.returns-clause-later
returns-clause-later c later earlier = answered_join earlier later
