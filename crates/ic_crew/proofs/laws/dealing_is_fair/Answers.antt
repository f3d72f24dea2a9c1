use Rattle.ic_crew.specs.lemmas.DealingLaws.{dealing}
use Rattle.ic_crew.proofs.laws.dealing_is_fair.Goals as goal

pub returns : goal.returns
returns c = record {
  count = λ rs n ws parts d. (dealing rs n ws parts d).count;
  each_once = λ rs n ws parts d. (dealing rs n ws parts d).each_once;
  none_empty = λ rs n ws parts d. (dealing rs n ws parts d).none_empty;
}
