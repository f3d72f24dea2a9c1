use Rattle.ic_confluence.proofs.Circles.{ends_at_y, ends_at_x, same_circle, apart_as_they_stand, apart_turned}
use Rattle.ic_confluence.proofs.laws.a_circle_is_cut_anywhere.Goals as goal

pub returns-clause-at_y : goal.returns-clause-at_y
returns-clause-at_y c = ends_at_y

pub returns-clause-at_x : goal.returns-clause-at_x
returns-clause-at_x c = ends_at_x

pub returns-clause-same : goal.returns-clause-same
returns-clause-same c = same_circle

pub returns-clause-apart : goal.returns-clause-apart
returns-clause-apart c = apart_as_they_stand

pub returns-clause-turned : goal.returns-clause-turned
returns-clause-turned c = apart_turned
