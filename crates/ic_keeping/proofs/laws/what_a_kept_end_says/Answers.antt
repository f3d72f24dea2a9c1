use Rattle.ic_keeping.proofs.laws.what_a_kept_end_says.Goals as goal

pub returns-clause-quiet : goal.returns-clause-quiet
returns-clause-quiet c = λ s bounds k is. is.ended

pub returns-clause-steps : goal.returns-clause-steps
returns-clause-steps c = λ s bounds k is. (is.ended.1, is.ended.0)

pub returns-clause-nodes : goal.returns-clause-nodes
returns-clause-nodes c = λ s bounds k is. is.ended

pub returns-clause-limit : goal.returns-clause-limit
returns-clause-limit c = λ s bounds k is. is.ended

pub returns-clause-together : goal.returns-clause-together
returns-clause-together c = λ s bounds end k is. is.together

pub returns-clause-way : goal.returns-clause-way
returns-clause-way c = λ s d interactions by_rule is. (is.fired, is.reached, is.counted, is.counts)

pub returns-clause-sums : goal.returns-clause-sums
returns-clause-sums c = λ some more all is. (is.long, is.all, is.each)
