-- For private functions: a runner's crew.
use Rattle.std.specs.Prelude.{◌≡◌, ℕ, Option, None, IfSome, false}
use Rattle.ic_crew.specs.Crews.{CrewParts}
use Rattle.ic_attend.specs.declared.attended.RunnerEnd.{RunnerEnd}
use Rattle.ic_attend.specs.Ends.{EndMayBe}

-- The crew isn't spent, if there is one.
abbrev pub IsUnspent : Option CrewParts → Type 0
IsUnspent crew = IfSome crew (λ c. c.spent ≡ false)

-- A runner has a crew that isn't spent, and none only where there are no workers.
pub record IsReadyFor (workers : ℕ) (crew : Option CrewParts) : Type 0 where
  pub none : crew ≡ None → workers ≡ 0
  pub unspent : IsUnspent crew

-- This may be the end of a runner that has this crew.
abbrev pub EndMayBeWith : Option CrewParts → RunnerEnd → Type 0
EndMayBeWith crew end = (turns workers : ℕ) → IsReadyFor workers crew → EndMayBe turns workers end

-- Whoever this crew is ready for, that one is too.
abbrev pub StaysReady : (before after : Option CrewParts) → Type 0
StaysReady before after = (workers : ℕ) → IsReadyFor workers before → IsReadyFor workers after
