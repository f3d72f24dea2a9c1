use Rattle.std.proofs.Common.{ap, ◌∙◌}
use Rattle.ic_term.specs.Configuration.{Configuration}
use Rattle.ic_reaching.specs.OneNet.{raised}
use Rattle.ic_reaching.proofs.laws.where_names_begin_is_all_that_differs.Goals as goal

pub returns-clause-free : goal.returns-clause-free
returns-clause-free c = λ x y s n. c.same_nets_have_one_shape.ensures.free (raised s.more x) (raised s.others y) s.same n

pub returns-clause-nodes : goal.returns-clause-nodes
returns-clause-nodes c = λ x y s. c.same_nets_have_one_shape.ensures.nodes (raised s.more x) (raised s.others y) s.same

pub returns-clause-equations : goal.returns-clause-equations
returns-clause-equations c = λ x y s. c.same_nets_have_one_shape.ensures.equations (raised s.more x) (raised s.others y) s.same

pub returns-clause-agents : goal.returns-clause-agents
returns-clause-agents c = λ x y s. c.same_nets_have_the_same_agents.ensures.agents (raised s.more x) (raised s.others y) s.same

pub returns-clause-text : goal.returns-clause-text
returns-clause-text c = λ x y s none few. let same = c.same_nets_have_one_shape.ensures.text (raised s.more x) (raised s.others y) s.same none few in (ap (λ (e : Configuration). e.interface) same, ap (λ (e : Configuration). e.equations) same ∙ none)
