use Rattle.ic_in_place.proofs.laws.at_a_quiet_end_no_step_is_possible.Goals as goal

pub returns : goal.returns
returns c = λ s bounds answer interactions by_rule is. is.ended.0
