use Rattle.std.proofs.Common.{◌≡◌, ℕ, List, Some, ap, refl, ◌∙◌}
use Rattle.std.proofs.lemmas.Option.{slice_get-map}
use Rattle.std.proofs.lemmas.List.{length-map}
use Rattle.std.specs.Option.{option_map}
use Rattle.ic_jobs.specs.declared.state.State.{State}
use Rattle.ic_jobs.specs.Job.{JobParts}
use Rattle.ic_jobs.proofs.laws.jobs_are_told_so.Goals as goal

-- the line of a job
abbrev line : JobParts → List ℕ × State × ℕ
line j = (j.name, j.state, j.rounds)

pub returns : goal.returns
returns c = record {
  shown = λ j. refl;
  lines = λ t. length-map t line;
  line = λ t k j e. slice_get-map line t k ∙ ap (option_map line) e;
}
