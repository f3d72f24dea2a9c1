use Rattle.ic_frames.proofs.LayoutLemmas.{open_is, whole_is, whole_long}
use Rattle.ic_frames.proofs.laws.a_slot_is_open_or_whole.Goals as goal

pub returns-clause-opened : goal.returns-clause-opened
returns-clause-opened c = open_is

pub returns-clause-whole : goal.returns-clause-whole
returns-clause-whole c = whole_is

pub returns-clause-long : goal.returns-clause-long
returns-clause-long c = whole_long
