use Rattle.std.proofs.Common.{refl}
use Rattle.ic_lives.proofs.calls.a_course_begins_with_its_bytes.Goals as goal

pub returns-clause-crash : goal.returns-clause-crash
returns-clause-crash c file left is = is.nothing_pending refl
