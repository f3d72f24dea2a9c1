use Rattle.std.proofs.Common.{refl}
use Rattle.ic_book.specs.Entries.{command_entry, round_entry}
use Rattle.ic_attend.proofs.PartLemmas.{part-append, part-own, part-none, answer_to-other, answer_to-round}
use Rattle.ic_attend.proofs.laws.a_part_is_a_clients_own.Goals as goal
use Rattle.ic_round.specs.lemmas.FreshNames.{apart_false}

pub returns-clause-own : goal.returns-clause-own
returns-clause-own c = part-own

pub returns-clause-others : goal.returns-clause-others
returns-clause-others c = λ who other h command reply apart.
    part-none who h (command_entry other command reply) (answer_to-other who (command_entry other command reply) (apart_false other who apart))

pub returns-clause-rounds : goal.returns-clause-rounds
returns-clause-rounds c = λ who h name reply.
    part-none who h (round_entry name reply) (answer_to-round who (round_entry name reply) refl)

pub returns-clause-joined : goal.returns-clause-joined
returns-clause-joined c = part-append
