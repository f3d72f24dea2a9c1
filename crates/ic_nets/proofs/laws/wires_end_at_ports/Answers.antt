use Rattle.ic_nets.proofs.EndLemmas.{ends_are_ports, free_ends_are_names}
use Rattle.ic_nets.proofs.laws.wires_end_at_ports.Goals as goal

pub returns-clause-bound : goal.returns-clause-bound
returns-clause-bound c rs k net p sound is = ends_are_ports rs k net sound.twice is p

pub returns-clause-free : goal.returns-clause-free
returns-clause-free c rs k net n sound = free_ends_are_names rs k net n sound.twice
