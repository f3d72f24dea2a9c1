use Rattle.std.proofs.Common.{map}
use Rattle.ic_jobs.specs.Job.{JobParts}
use Rattle.ic_batch.specs.Jobs.{begun_by}
use Rattle.ic_batch.specs.Way.{missing, ComesTo, IsOnWay}
use Rattle.ic_batch.proofs.LawLemmas.{come_after}
use Rattle.ic_batch.proofs.WayLemmas.{first_named, names_first, way_name}
use Rattle.ic_batch.proofs.laws.a_batch_loses_no_job.Goals as goal

pub returns-clause-way : goal.returns-clause-way
returns-clause-way c most jobs t u name from under there =
    first_named (IsOnWay most) (way_name most) name t (map begun_by under.front) u from under.ways there

pub returns-clause-end : goal.returns-clause-end
returns-clause-end c most jobs t u name from ended there =
    first_named (ComesTo most) (λ (x y : JobParts) is. way_name most x y is.on_way) name t (map begun_by (missing t jobs)) u from ended there

pub returns-clause-places : goal.returns-clause-places
returns-clause-places c most jobs t u under = names_first most t (map begun_by under.front) u under.ways

pub returns-clause-come : goal.returns-clause-come
returns-clause-come c most jobs t u under = (under.front, under.rest, under.parted, come_after (IsOnWay most) t under.front u under.ways)

pub returns-clause-all_come : goal.returns-clause-all_come
returns-clause-all_come c most jobs t u ended = come_after (ComesTo most) t (missing t jobs) u ended
