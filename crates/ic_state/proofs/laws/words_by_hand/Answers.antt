use Rattle.ic_state.proofs.WorkedLemmas.{narrow_agent, narrow_name, wide_agent, wide_name}
use Rattle.ic_state.proofs.laws.words_by_hand.Goals as goal

pub returns-clause-narrow : goal.returns-clause-narrow
returns-clause-narrow c = narrow_name

pub returns-clause-wide : goal.returns-clause-wide
returns-clause-wide c = wide_name

pub returns-clause-narrow_agent : goal.returns-clause-narrow_agent
returns-clause-narrow_agent c = narrow_agent

pub returns-clause-wide_agent : goal.returns-clause-wide_agent
returns-clause-wide_agent c = wide_agent
