use Rattle.ic_text.proofs.Innocence.{lopsided_innocent, repeated_innocent, uncounted_innocent}
use Rattle.ic_text.proofs.laws.rules_before_the_first_refused_are_innocent.Goals as goal

pub returns : goal.returns
returns c = record { uncounted = uncounted_innocent; repeated = repeated_innocent; lopsided = lopsided_innocent }
