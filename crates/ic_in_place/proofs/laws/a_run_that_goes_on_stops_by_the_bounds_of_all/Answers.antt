use Rattle.ic_in_place.proofs.Stopping.{by_end}
use Rattle.ic_in_place.proofs.laws.a_run_that_goes_on_stops_by_the_bounds_of_all.Goals as goal

pub returns : goal.returns
returns c = λ bounds steps p old new end all runs. by_end bounds steps p old new end all runs
