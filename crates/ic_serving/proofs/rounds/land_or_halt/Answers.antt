use Rattle.std.proofs.Common.{subst, sym, ◌∙◌, Err, inl, arith}
use Rattle.ic_flights.specs.Played.{PlayedParts}
use Rattle.ic_jobs.specs.Landing.{Awaits}
use Rattle.ic_book.specs.Book.{table_of}
use Rattle.ic_jobs.specs.declared.reply.Reply.TheVariants.{Moved, Halted}
use Rattle.ic_book.specs.lemmas.Chains.{by_nothing, by_round}
use Rattle.ic_serving.proofs.AloneLemmas.{blocked_refuses, one_thread_refuses}
use Rattle.ic_serving.proofs.rounds.land_or_halt.Goals as goal

pub land_awaited-requires : goal.land_awaited-requires
land_awaited-requires g c =
    subst (λ (p : PlayedParts). Awaits (table_of c.args.book.now) p.name p.rules p.before p.rounds) (sym c.in-Ok.ensures.round) c.requires.awaits

pub halt_awaited-requires-clause-blocked : goal.halt_awaited-requires-clause-blocked
halt_awaited-requires-clause-blocked g c =
    c.refused_flights_are_blocked.ensures.alone c.args.flight.now c.in-Err.fault c.in-Err.ensures.answer (sym c.is_of_flight.ensures ∙ c.if-not-is_of_flight.false)

pub returns-then-not-is_of_flight-clause-done : goal.returns-then-not-is_of_flight-clause-done
returns-then-not-is_of_flight-clause-done g c = by_nothing c.args.book.now c.facts.ensures.step

pub returns-in_err-halt_awaited-in-Err-clause-done : goal.returns-in_err-halt_awaited-in-Err-clause-done
returns-in_err-halt_awaited-in-Err-clause-done g c = by_round _ Halted c.halt_awaited.result c.args.book.now c.halt_awaited.new.self c.halt_awaited.ensures.step

pub returns-in-Err-clause-done : goal.returns-in-Err-clause-done
returns-in-Err-clause-done g c = by_round _ Halted c.halt_awaited.result c.args.book.now c.halt_awaited.new.self c.halt_awaited.ensures.step

pub returns-in_err-land_awaited-clause-done : goal.returns-in_err-land_awaited-clause-done
returns-in_err-land_awaited-clause-done g c = by_round _ Moved c.land_awaited.result c.args.book.now c.land_awaited.new.self c.land_awaited.ensures.step

pub returns-clause-done : goal.returns-clause-done
returns-clause-done g c = by_round _ Moved c.land_awaited.result c.args.book.now c.land_awaited.new.self c.land_awaited.ensures.step

pub returns-then-not-is_of_flight-clause-alone : goal.returns-then-not-is_of_flight-clause-alone
returns-then-not-is_of_flight-clause-alone g c = one_thread_refuses c.args.flight.now c.in-Err.fault c.in-Err.ensures.answer

pub returns-then-not-is_of_flight-clause-blocked : goal.returns-then-not-is_of_flight-clause-blocked
returns-then-not-is_of_flight-clause-blocked g c = λ blocked.
    let by = (c.workers_answer_so.ensures.some 1 c.args.flight.now (Err c.in-Err.fault) (omega arith)).1 (inl c.in-Err.ensures.answer) in
    blocked_refuses c.args.flight.now c.in-Err.fault
    (c.refused_flights_are_blocked.ensures.others 1 c.args.flight.now c.in-Err.fault (omega arith) by (sym c.is_of_flight.ensures ∙ c.if-not-is_of_flight.true))
    (inl c.in-Err.ensures.answer) blocked
