use Rattle.ic_serving_laws.proofs.laws.a_stop_leaves_one_of_these_tables.Goals as goal

pub returns-clause-made : goal.returns-clause-made
returns-clause-made g c = (λ h. h, λ h. h)

pub returns-clause-crash : goal.returns-clause-crash
returns-clause-crash g c = λ p is. is.any_moment

pub returns-clause-stays : goal.returns-clause-stays
returns-clause-stays g c = λ p is. is.stays

pub returns-clause-keeps : goal.returns-clause-keeps
returns-clause-keeps g c = λ p is. is.keeps
