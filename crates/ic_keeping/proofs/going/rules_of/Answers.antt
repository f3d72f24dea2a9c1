use Rattle.std.proofs.Common.{⊎_elim, Ok, Err}
use Rattle.ic_text.specs.declared.limits.Limits.TheVariants.{Wide}
use Rattle.ic_keeping.proofs.going.rules_of.Goals as goal

pub returns-in-Err-clause-refused : goal.returns-in-Err-clause-refused
returns-in-Err-clause-refused c s reads = ⊎_elim
    (λ memory. memory)
    (λ other.
    let one = c.one_system_reading.ensures.answer Wide c.args.text.now (Err c.in-Err.misread.fault) (Ok s) (c.in-Err.ensures.refused other) reads in
    cc (one))
    c.unread.ensures.memory

pub returns-in-Ok-clause-read : goal.returns-in-Ok-clause-read
returns-in-Ok-clause-read c = (c.in-Ok.system, c.in-Ok.ensures.read)
