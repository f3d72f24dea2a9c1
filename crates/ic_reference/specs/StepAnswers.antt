-- What the calls of single steps answer.
use Rattle.std.specs.Prelude.{◌≡◌, ℕ, List, false, Option, None, Some, Result, Ok, Err, if◌then◌else◌}
use Rattle.ic_term.specs.Configuration.{Configuration}
use Rattle.ic_rules.specs.Rule.{Rule}
use Rattle.ic_round.specs.Steps.{Interaction}
use Rattle.ic_reference.specs.SingleSteps.{is_within}
use Rattle.ic_reference.specs.declared.steps.StepFault.{StepFault}
use Rattle.ic_reference.specs.declared.steps.StepFault.TheVariants.{NotThere, Limit, Memory}

-- the step, or its absence
abbrev pub stepped : Option Configuration → Result Configuration StepFault
stepped None = Err NotThere
stepped (Some d) = Ok d

-- the step, or its absence, or that it passes a limit
abbrev pub stepped_within : Option Configuration → Result Configuration StepFault
stepped_within None = Err NotThere
stepped_within (Some d) = if is_within d then Ok d else Err Limit

-- The result is this answer, unless a growth was refused.
abbrev pub Answers : Result Configuration StepFault → Result Configuration StepFault → Type 0
Answers (Ok c) answer = Ok c ≡ answer
Answers (Err NotThere) answer = Err NotThere ≡ answer
Answers (Err Limit) answer = Err Limit ≡ answer
Answers (Err Memory) answer = Unit {0}

-- Interaction at a place is possible and passes a limit.
pub record Outgrows (rs : List Rule) (c : Configuration) (place : ℕ) : Type 0 where
  pub after : Configuration
  pub step : Interaction rs c after place
  pub large : is_within after ≡ false
