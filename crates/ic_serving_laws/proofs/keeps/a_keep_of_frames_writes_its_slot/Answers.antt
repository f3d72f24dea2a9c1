use Rattle.std.proofs.Common.{refl}
use Rattle.ic_serving_laws.proofs.keeps.a_keep_of_frames_writes_its_slot.Goals as goal

pub returns-clause-written : goal.returns-clause-written
returns-clause-written g c body done is model = is.written model

pub returns-clause-worn : goal.returns-clause-worn
returns-clause-worn g c result is = is.worn

pub returns-clause-breaks : goal.returns-clause-breaks
returns-clause-breaks g c is = is.breaks refl
