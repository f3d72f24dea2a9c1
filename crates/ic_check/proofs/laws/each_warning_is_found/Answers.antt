use Rattle.ic_check.proofs.EachWarning.{meeting_same, ruleless_among, unused_among}
use Rattle.ic_check.proofs.laws.each_warning_is_found.Goals as goal

pub returns-clause-ruleless : goal.returns-clause-ruleless
returns-clause-ruleless c = ruleless_among

pub returns-clause-unused : goal.returns-clause-unused
returns-clause-unused c = unused_among

pub returns-clause-meeting : goal.returns-clause-meeting
returns-clause-meeting c = meeting_same
