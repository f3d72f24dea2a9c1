use Rattle.std.proofs.Common.{sym, subst}
use Rattle.ic_attend.specs.inner.Crews.{IsReadyFor}
use Rattle.ic_attend.proofs.runner.make_round.Goals.{then-blocked, else-blocked+in-Ok}
use Rattle.ic_attend.proofs.runner.make_round.Goals as goal

pub returns-in-Ok-landed-clause-ready : goal.returns-in-Ok-landed-clause-ready
returns-in-Ok-landed-clause-ready g c = λ workers ready.
    elim c.if-blocked.branch [
      | then-blocked w ↦ subst (IsReadyFor workers) (sym w.crew-is) ready
      | else-blocked+in-Ok w ↦ subst (IsReadyFor workers) (sym w.crew-is) (w.in-Ok.ensures.ready workers ready)
    ]
