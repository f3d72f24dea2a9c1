use Rattle.std.proofs.Common.{ap, ◌∙◌, subst}
use Rattle.ic_in_place.specs.Reducing.{EndsBy}
use Rattle.ic_in_place.specs.Reductions.{stuck_at}
use Rattle.ic_in_place.specs.declared.running.End.{End}
use Rattle.ic_in_place_laws.proofs.laws.a_stuck_pair_is_of_a_quiet_end.Goals as goal

pub returns : goal.returns
returns c = λ limits bounds asked input line outcome is quiet.
    let told = is.ends in
    let ended = subst (λ (x : End). EndsBy is.system.rules.rules bounds told.answer outcome.interactions x) quiet told.reached.ended in (
      is.system,
      told.answer,
      told.reached.fired,
      is.reads,
      told.reached.reached,
      ended.0,
      told.stuck ∙ ap (λ (x : End). stuck_at x is.system.rules.symbols told.answer) quiet,
    )
