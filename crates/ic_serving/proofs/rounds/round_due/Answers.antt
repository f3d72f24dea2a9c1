use Rattle.std.proofs.Common.{◌≡◌, ◌<◌, ◌++◌, ◌∷◌, [], ℕ, List, Option, Some, length, refl, sym, ap, subst, ◌∙◌}
use Rattle.std.specs.Prelude.{IsSome}
use Rattle.ic_flights.specs.Flight.{FlightParts}
use Rattle.ic_jobs.specs.declared.event.Entry.{Entry}
use Rattle.ic_jobs.specs.declared.event.Event.TheVariants.{Round}
use Rattle.ic_jobs.specs.declared.reply.Reply.{Reply}
use Rattle.ic_jobs.specs.declared.reply.Reply.TheVariants.{Moved}
use Rattle.ic_jobs.specs.Job.{JobParts}
use Rattle.ic_jobs.specs.Landing.{due}
use Rattle.ic_book.specs.declared.limits.TheConstants.{MAX_ENTRIES}
use Rattle.ic_book.specs.Book.{log_of, table_of, IsUnchanged}
use Rattle.ic_book.specs.Entries.{round_entry}
use Rattle.ic_book.specs.Moves.{as_landed}
use Rattle.ic_book.specs.lemmas.Chains.{by_calls_then, by_round}
use Rattle.ic_serving.specs.Booked.{Advances}
use Rattle.ic_serving.specs.Faults.{ComesInLine}
use Rattle.ic_serving.proofs.OwnLemmas.{named_due, on_ok_then, on_err_then, advances_after, added_after, unchanged_after, one_after, fault_after}
use Rattle.ic_serving.proofs.rounds.round_due.Goals as goal

pub returns-in_err-made-clause-done : goal.returns-in_err-made-clause-done
returns-in_err-made-clause-done g c = by_round c.args.name Moved (as_landed c.make_own.result) c.args.book.now c.make_own.new.book c.make_own.ensures.step

pub returns-then-made-clause-done : goal.returns-then-made-clause-done
returns-then-made-clause-done g c = by_round c.args.name Moved (as_landed c.make_own.result) c.args.book.now c.make_own.new.book c.make_own.ensures.step

pub round_outside-requires-clause-room : goal.round_outside-requires-clause-room
round_outside-requires-clause-room g c =
    let same = c.in_ok-made.ensures.round.unmade c.if-made.false in
    subst (λ (es : List Entry). length es < MAX_ENTRIES) (sym same.same_log) c.requires.room

pub round_outside-requires-clause-due : goal.round_outside-requires-clause-due
round_outside-requires-clause-due g c =
    let same = c.in_ok-made.ensures.round.unmade c.if-made.false in
    let d = named_due (due (table_of c.args.book.now) c.args.after) c.args.name c.requires.due in
    subst (λ (t : List JobParts). IsSome (due t c.args.after)) (sym same.same_table) (subst (λ (o : Option FlightParts). IsSome o) (sym d.1.0) refl)

pub returns-clause-advances : goal.returns-clause-advances
returns-clause-advances g c =
    let old = c.args.book.now in let mid = c.make_own.new.book in let new = c.round_outside.new.book in
    let same = c.in_ok-made.ensures.round.unmade c.if-made.false in
    let d = named_due (due (table_of old) c.args.after) c.args.name c.requires.due in
    on_ok_then c.round_outside.result (Advances (Round d.0.name) mid new) (Advances (Round c.args.name) old new)
    (λ a. subst (λ (name : List ℕ). Advances (Round name) old new) d.1.1 (advances_after old mid new same (Round d.0.name) a))
    (c.round_outside.ensures.advances d.0 (ap (λ (t : List JobParts). due t c.args.after) same.same_table ∙ d.1.0))

pub returns-clause-added : goal.returns-clause-added
returns-clause-added g c =
    let old = c.args.book.now in let mid = c.make_own.new.book in let new = c.round_outside.new.book in
    let same = c.in_ok-made.ensures.round.unmade c.if-made.false in
    let d = named_due (due (table_of old) c.args.after) c.args.name c.requires.due in
    on_ok_then c.round_outside.result ((reply : Reply) × (log_of new ≡ log_of mid ++ round_entry d.0.name reply ∷ []))
    ((reply : Reply) × (log_of new ≡ log_of old ++ round_entry c.args.name reply ∷ []))
    (λ a. subst (λ (name : List ℕ). (reply : Reply) × (log_of new ≡ log_of old ++ round_entry name reply ∷ [])) d.1.1 (added_after old mid new same d.0.name a))
    (c.round_outside.ensures.added d.0 (ap (λ (t : List JobParts). due t c.args.after) same.same_table ∙ d.1.0))

pub returns-clause-start : goal.returns-clause-start
returns-clause-start g c = let same = c.in_ok-made.ensures.round.unmade c.if-made.false in c.round_outside.ensures.start ∙ same.same_start

pub returns-clause-refused : goal.returns-clause-refused
returns-clause-refused g c =
    let old = c.args.book.now in let mid = c.make_own.new.book in let new = c.round_outside.new.book in
    let same = c.in_ok-made.ensures.round.unmade c.if-made.false in
    on_err_then c.round_outside.result (IsUnchanged mid new) (IsUnchanged old new) (unchanged_after old mid new same) c.round_outside.ensures.refused

pub returns-clause-blocked : goal.returns-clause-blocked
returns-clause-blocked g c = λ flight is blocked.
    let same = c.in_ok-made.ensures.round.unmade c.if-made.false in
    c.round_outside.ensures.blocked flight (ap (λ (t : List JobParts). due t c.args.after) same.same_table ∙ is) blocked

pub returns-clause-fault : goal.returns-clause-fault
returns-clause-fault g c =
    let same = c.in_ok-made.ensures.round.unmade c.if-made.false in
    fault_after c.args.book.now c.make_own.new.book c.round_outside.new.book same ComesInLine c.round_outside.result c.round_outside.ensures.fault

pub returns-clause-one : goal.returns-clause-one
returns-clause-one g c =
    let same = c.in_ok-made.ensures.round.unmade c.if-made.false in
    one_after c.args.book.now c.make_own.new.book c.round_outside.new.book same c.round_outside.ensures.one

pub returns-clause-keeper : goal.returns-clause-keeper
returns-clause-keeper g c = let same = c.in_ok-made.ensures.round.unmade c.if-made.false in c.round_outside.ensures.keeper ∙ same.same_keeper

pub returns-clause-done : goal.returns-clause-done
returns-clause-done g c =
    by_calls_then c.args.book.now c.make_own.new.book c.round_outside.new.book
    (by_round c.args.name Moved (as_landed c.make_own.result) c.args.book.now c.make_own.new.book c.make_own.ensures.step) c.round_outside.ensures.done
