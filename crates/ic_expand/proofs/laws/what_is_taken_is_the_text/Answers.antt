use Rattle.ic_expand.proofs.Streaming.{expands_whole}
use Rattle.ic_expand.proofs.laws.what_is_taken_is_the_text.Goals as goal

pub returns-clause-opened : goal.returns-clause-opened
returns-clause-opened c = expands_whole
