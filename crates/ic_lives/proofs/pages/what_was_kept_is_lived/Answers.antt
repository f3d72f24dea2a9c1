use Rattle.ic_lives.proofs.PageLemmas.{kept_stays, counted}
use Rattle.ic_lives.proofs.pages.what_was_kept_is_lived.Goals as goal

pub returns-clause-kept : goal.returns-clause-kept
returns-clause-kept c = kept_stays

pub returns-clause-counted : goal.returns-clause-counted
returns-clause-counted c = counted
