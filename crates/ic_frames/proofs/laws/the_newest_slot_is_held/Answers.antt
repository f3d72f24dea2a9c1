use Rattle.ic_frames.proofs.HeldLemmas.{whole_held, spoiled_held}
use Rattle.ic_frames.proofs.LawLemmas.{one_of_three, held_newest, shut_held, alike_held}
use Rattle.ic_frames.proofs.laws.the_newest_slot_is_held.Goals as goal

pub returns-clause-one_of_three : goal.returns-clause-one_of_three
returns-clause-one_of_three c = one_of_three

pub returns-clause-held : goal.returns-clause-held
returns-clause-held c = whole_held

pub returns-clause-only : goal.returns-clause-only
returns-clause-only c = held_newest

pub returns-clause-damaged : goal.returns-clause-damaged
returns-clause-damaged c = spoiled_held

pub returns-clause-shut : goal.returns-clause-shut
returns-clause-shut c = shut_held

pub returns-clause-alike : goal.returns-clause-alike
returns-clause-alike c = alike_held
