use Rattle.ic_term.proofs.ConfigLemmas.{wide_restored_exactly, wide_each, wide_narrow, wide_alike, narrow_refused}
use Rattle.ic_term.proofs.laws.wide_ones_are_configurations_but_for_their_limits.Goals as goal

pub returns-clause-taken : goal.returns-clause-taken
returns-clause-taken c = wide_restored_exactly

pub returns-clause-each : goal.returns-clause-each
returns-clause-each c = wide_each

pub returns-clause-narrow : goal.returns-clause-narrow
returns-clause-narrow c = wide_narrow

pub returns-clause-alike : goal.returns-clause-alike
returns-clause-alike c = wide_alike

pub returns-clause-refused : goal.returns-clause-refused
returns-clause-refused c = narrow_refused
