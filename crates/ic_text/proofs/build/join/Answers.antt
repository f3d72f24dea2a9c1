use Rattle.std.proofs.lemmas.Bool.{false≢true}
use Rattle.ic_text.proofs.BuildLemmas.{joined-apart, refuses_joined}
use Rattle.ic_text.proofs.build.join.Goals as goal

pub returns-in-Err : goal.returns-in-Err
returns-in-Err c = refuses_joined c.refusal.result c.in-Err.fault c.args.rules c.err.result c.args.config c.in-Err.is c.err.ensures.value c.refusal.ensures

pub returns-in-None : goal.returns-in-None
returns-in-None c = joined-apart c.args.rules c.args.config c.in-Ok.rules c.in_ok-config-in-Ok.field-0 c.in-Ok.is c.in_ok-config-in-Ok.was (λ over. false≢true (c.in-None.ensures.over.1 (rw c.in_ok-new-in-Ok.ensures.ok over)))
