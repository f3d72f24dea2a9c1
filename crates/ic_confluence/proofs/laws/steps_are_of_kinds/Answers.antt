use Rattle.ic_confluence.proofs.Order.{kind_of, step_of}
use Rattle.ic_confluence.proofs.Chains.{chains_of_kinds}
use Rattle.ic_confluence.proofs.laws.steps_are_of_kinds.Goals as goal

pub returns-clause-of_kind : goal.returns-clause-of_kind
returns-clause-of_kind c = kind_of

pub returns-clause-step : goal.returns-clause-step
returns-clause-step c = step_of

pub returns-clause-chains : goal.returns-clause-chains
returns-clause-chains c = chains_of_kinds
