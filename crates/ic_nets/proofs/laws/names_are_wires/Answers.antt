use Rattle.ic_nets.proofs.NamedLemmas.{named_once, named_twice}
use Rattle.ic_nets.proofs.laws.names_are_wires.Goals as goal

pub returns-clause-twice : goal.returns-clause-twice
returns-clause-twice c = λ ss n p q is. named_twice n ss p q is

pub returns-clause-once : goal.returns-clause-once
returns-clause-once c = λ ss n p is. named_once n ss p is
