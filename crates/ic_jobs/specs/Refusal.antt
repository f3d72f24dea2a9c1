-- The numbers of refusals.
use Rattle.std.specs.Prelude.{ℕ, List, [], ◌∷◌}
use Rattle.ic_jobs.specs.declared.reply.Refusal.{Refusal}
use Rattle.ic_jobs.specs.declared.reply.Refusal.TheVariants.{Taken, Full, NoJob, NotRunning, NotPaused}

-- the lasting number of a refusal
abbrev pub refusal_number : Refusal → ℕ
refusal_number Taken = 1
refusal_number Full = 2
refusal_number NoJob = 3
refusal_number NotRunning = 4
refusal_number NotPaused = 5

-- all refusals, in the order of their lasting numbers
abbrev pub all_refusals : List Refusal
all_refusals = Taken ∷ Full ∷ NoJob ∷ NotRunning ∷ NotPaused ∷ []
