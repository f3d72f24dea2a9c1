use Rattle.ic_expand.proofs.Plain.{last-commented, none-commented, one-commented, same-expanded}
use Rattle.ic_expand.proofs.laws.comments_mean_nothing.Goals as goal

pub returns : goal.returns
returns c = record { none = none-commented; one = one-commented; last = last-commented; same = same-expanded }
