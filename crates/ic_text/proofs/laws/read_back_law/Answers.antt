use Rattle.ic_text.proofs.ReadBack.{read_back}
use Rattle.ic_text.proofs.laws.read_back_law.Goals as goal

pub returns : goal.returns
returns c = record {
  same = λ limits text table config reads. (read_back limits text table config reads).0;
  no_longer = λ limits text table config reads. (read_back limits text table config reads).1;
}
