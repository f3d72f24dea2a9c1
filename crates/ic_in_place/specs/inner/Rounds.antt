-- For private functions: where a round begins.
use Rattle.std.specs.Prelude.{◌≡◌, ◌⊎◌, ℕ, ◌<◌, ◌≤◌, List, [], Option, None, Some, Contains, length}
use Rattle.std.specs.List.{AllByRecursion, concat}
use Rattle.ic_machine.specs.declared.equation.Equation.{Equation}
use Rattle.ic_machine.specs.declared.generation.Generation.{Generation}
use Rattle.ic_machine.specs.Generations.{IsWithin, present}
use Rattle.ic_machine.specs.Net.{Net, IsActive}
use Rattle.ic_machine.specs.Plan.{Plans}
use Rattle.ic_machine.specs.Runs.{Ran}
use Rattle.ic_meaning.specs.InPlace.{AreRounds}
use Rattle.ic_in_place.specs.Rounds.{AreOver, AreTold, FireAfterFirst}
use Rattle.ic_in_place.specs.Told.{RoundOver}

-- one of some pairs can fire
abbrev pub AreSomeActive : Plans → List Equation → Type 0
AreSomeActive p es = (e : Equation) × Contains es e × IsActive p e

-- fewer interactions were made by each of these rounds than are enough
abbrev pub AreEarly : (enough : Option ℕ) → List RoundOver → Type 0
AreEarly None told = Unit {0}
AreEarly (Some n) told = AllByRecursion (λ o. o.net.interactions < n) told

-- So many rounds are over, and the pairs of a generation are to be taken next. In all but the first one of these can fire.
pub record RoundBegins (p : Plans) (pairs rounds : ℕ) (g : Generation) (first m : Net) : Type 0 where
  pub made : List (List ℕ)
  pub are : AreRounds p first pairs made [] g m
  pub over : AreOver p first pairs made m
  pub count : rounds ≡ length made
  pub firing : FireAfterFirst made
  pub told : List RoundOver
  pub are_told : AreTold p first pairs made told
  pub active : (made ≡ []) ⊎ AreSomeActive p (present g m.pending)
  pub within : IsWithin g m.pending
  pub ran : Ran p first m
  pub fired : ran.fired ≡ concat made
