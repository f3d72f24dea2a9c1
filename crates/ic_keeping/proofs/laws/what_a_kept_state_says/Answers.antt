use Rattle.ic_flat.specs.Flat.{configuration_of}
use Rattle.ic_keeping.proofs.ByRounds.{rounds_there}
use Rattle.ic_keeping.proofs.laws.what_a_kept_state_says.Goals as goal

pub returns-clause-reads : goal.returns-clause-reads
returns-clause-reads c = λ s k is. (is.read, is.reads, is.rules)

pub returns-clause-sound : goal.returns-clause-sound
returns-clause-sound c = λ s k is. (is.sound.rules, is.sound.over, is.sound.names)

pub returns-clause-way : goal.returns-clause-way
returns-clause-way c = λ s k is. (is.next, is.way.fired, is.way.reached, is.way.counted, is.way.counts)

pub returns-clause-begun : goal.returns-clause-begun
returns-clause-begun c = λ s k is. (is.state, is.config, is.none, is.goes_on, is.millis)

pub returns-clause-ended : goal.returns-clause-ended
returns-clause-ended c = λ s k is ended. (is.next, is.quiet ended)

pub returns-clause-whole : goal.returns-clause-whole
returns-clause-whole c = λ s k is. is.whole

pub returns-clause-counted : goal.returns-clause-counted
returns-clause-counted c = λ s k is. (is.equations, is.counted)

pub returns-clause-low : goal.returns-clause-low
returns-clause-low c = λ s k is few. (is.next, is.way.fired, is.low few, is.way.reached)

pub returns-clause-rounds : goal.returns-clause-rounds
returns-clause-rounds c = λ s k made is same.
    let rounds = rounds_there s (configuration_of k.words k.terms is.next) k.interactions k.by_rule k.rounds made same is.rounds in
    ((is.next, rounds.net), rounds.needed, rounds.all, rounds.counts)
