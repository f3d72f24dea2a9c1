use Rattle.ic_rules.specs.lemmas.FitLaws.{first_unfit-None}
use Rattle.ic_rules.proofs.laws.rules_fit_where_each_is_over_the_symbols.Goals as goal

pub returns : goal.returns
returns c = first_unfit-None
