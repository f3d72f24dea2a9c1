use Rattle.std.proofs.Common.{sym}
use Rattle.ic_text.proofs.WithinLimits.{few_system_nodes, few_system_terms, served}
use Rattle.ic_text.proofs.system.sense_of.Goals as goal

pub returns-in-Ok-clause-nodes : goal.returns-in-Ok-clause-nodes
returns-in-Ok-clause-nodes c = few_system_nodes c.args.limits c.requires.0 _ (sym (c.in-Ok.ensures c.requires.0 c.requires.1))

pub returns-in-Ok-clause-interface : goal.returns-in-Ok-clause-interface
returns-in-Ok-clause-interface c = few_system_terms c.args.limits c.requires.0 _ (sym (c.in-Ok.ensures c.requires.0 c.requires.1))

pub returns-in-Ok-clause-served : goal.returns-in-Ok-clause-served
returns-in-Ok-clause-served c = served c.args.limits c.requires.0 _ (sym (c.in-Ok.ensures c.requires.0 c.requires.1))
