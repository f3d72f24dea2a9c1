use Rattle.std.proofs.Common.{◌≡◌, List, [], ◌∷◌, refl, ap}
use Rattle.ic_jobs.specs.Job.{JobParts}
use Rattle.ic_dump.specs.Dumping.{chosen}
use Rattle.ic_dump.proofs.laws.all_jobs_are_asked_for_without_names.Goals as goal

all : (t : List JobParts) → chosen [] t ≡ t
all [] = refl
all (j ∷ js) = ap (λ l. j ∷ l) (all js)

pub returns : goal.returns
returns c = all
