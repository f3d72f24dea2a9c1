use Rattle.ic_by_rounds.proofs.RowLemmas.{row_at}
use Rattle.ic_by_rounds.proofs.laws.each_row_is_of_its_round.Goals as goal

pub returns : goal.returns
returns c = row_at
