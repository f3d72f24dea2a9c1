use Rattle.ic_confluence.proofs.Shape.{same_free, same_nodes, same_length, same_text}
use Rattle.ic_confluence.proofs.laws.same_nets_have_one_shape.Goals as goal

pub returns-clause-free : goal.returns-clause-free
returns-clause-free c = same_free

pub returns-clause-nodes : goal.returns-clause-nodes
returns-clause-nodes c = same_nodes

pub returns-clause-equations : goal.returns-clause-equations
returns-clause-equations c = same_length

pub returns-clause-text : goal.returns-clause-text
returns-clause-text c = same_text
