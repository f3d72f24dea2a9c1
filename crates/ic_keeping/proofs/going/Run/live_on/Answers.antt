use Rattle.std.proofs.Common.{sym, subst}
use Rattle.ic_keeping.specs.declared.fault.KeepingFault.{KeepingFault}
use Rattle.ic_keeping.specs.Life.{StopsFrom, TellsOfKeeper}
use Rattle.ic_state.specs.State.{kept_by}
use Rattle.ic_keeping.proofs.going.Run.live_on.Goals as goal

pub returns-in-Ok-clause-ended : goal.returns-in-Ok-clause-ended
returns-in-Ok-clause-ended g c = record {
  on = c.in-Ok.ensures.on;
  has_run = λ s is. c.in-Ok.ensures.answer s is;
  way = λ s is is_kept. c.in-Ok.ensures.way s is is_kept;
  kept = λ s is is_kept began. c.in-Ok.ensures.kept s is is_kept began;
}

pub returns-in-Err-clause-stopped : goal.returns-in-Err-clause-stopped
returns-in-Err-clause-stopped g c =
    let same = sym c.handed_back.ensures.cause in (
      c.go_on.new.keeper,
      record {
        back = c.handed_back.ensures.back;
        tells = subst (λ (x : KeepingFault). TellsOfKeeper c.args.keeper c.go_on.new.keeper x) same c.in-Err.ensures.tells;
        why = λ s is. subst (λ (x : KeepingFault). StopsFrom s (kept_by c.args.start.state) x) same (c.in-Err.ensures.refused s is);
        way = λ s is is_kept. c.in-Err.ensures.way s is is_kept;
      },
    )
