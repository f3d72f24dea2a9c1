use Rattle.std.proofs.Common.{inl, inr, subst, sym}
use Rattle.ic_scripts.specs.Attending.{SaysWhy}
use Rattle.ic_scripts.proofs.ReasonLemmas.{keeps_same, says_why}
use Rattle.ic_scripts.proofs.attending.attend_scripts.Goals as goal

pub returns-in-Ok : goal.returns-in-Ok
returns-in-Ok g c = inl (record {
  attended = c.in-Ok.attended;
  has = record { start = c.in-Ok.ensures.start; history = c.in-Ok.ensures.history; tells = c.in-Ok.ensures.ends };
  told = c.finish.ensures;
})

pub returns-in-Err : goal.returns-in-Err
returns-in-Err g c =
    let said = says_why _ _ _ _ _ _ c.in-Err.fault c.without_history-disk.ensures.disk c.in-Err.ensures.unopened c.in-Err.ensures.unbegun c.in-Err.ensures.stopped c.in-Err.ensures.torn in
    inr (subst (SaysWhy _ _ _ _ _ _ _) (sym c.without_history-disk.ensures.cause) said, keeps_same (g.W.Write.contents c.args.writer.now))
