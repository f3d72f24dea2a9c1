use Rattle.std.proofs.Common.{refl}
use Rattle.ic_dump.proofs.Choosing.{asked_where, passed_over, taken_in_turn}
use Rattle.ic_dump.proofs.laws.jobs_are_asked_for_by_their_names.Goals as goal

pub returns : goal.returns
returns c = record { asked = asked_where; none = λ names. refl; taken = taken_in_turn; passed = passed_over }
