use Rattle.ic_codec.proofs.JobLemmas.{not_both}
use Rattle.ic_codec.proofs.laws.no_bytes_are_of_both_forms.Goals as goal

pub returns : goal.returns
returns c = not_both
