-- How far a run of a machine came.
use Rattle.std.specs.Prelude.{◌≡◌, ℕ, ◌+◌, ◌<◌, ◌≤◌, []}
use Rattle.ic_machine.specs.Net.{Net, HasNext}
use Rattle.ic_machine.specs.Plan.{Plans}
use Rattle.ic_in_place.specs.declared.running.End.{End}
use Rattle.ic_in_place.specs.declared.running.End.TheVariants.{Quiet, Steps, Nodes, Limit}

-- A run of at most so many interactions came to this end. Where that is quiet, no equation is left, and where it has made
-- all, the last one that is left can fire. Where it stopped for what it held or at a limit, it hasn't made all.
pub record RunsOn (p : Plans) (steps : ℕ) (end : End) (old new : Net) : Type 0 where
  pub within : new.interactions ≤ old.interactions + steps
  pub quiet : end ≡ Quiet → new.pending ≡ []
  pub all : end ≡ Steps → new.interactions ≡ old.interactions + steps
  pub more : end ≡ Steps → HasNext p new.pending
  pub early : end ≡ Nodes → new.interactions < old.interactions + steps
  pub limited : end ≡ Limit → new.interactions < old.interactions + steps
