use Rattle.std.proofs.Common.{refl}
use Rattle.std.proofs.lemmas.Result.{err_from_is_err_and}
use Rattle.ic_jobs.specs.declared.reply.Reply.TheVariants.{Moved}
use Rattle.ic_book.specs.declared.fault.BookFault.{BookFault}
use Rattle.ic_book.proofs.BookLemmas.{round_comes, still, unchanged}
use Rattle.ic_book.proofs.StepLemmas.{idles, round_made, round_refused, round_unmade}
use Rattle.ic_book.proofs.book.Book.land.Goals as goal

pub returns-in_err-check_room-clause-crash : goal.returns-in_err-check_room-clause-crash
returns-in_err-check_room-clause-crash g c = unchanged g.met.D.Disk.left_is_image c.args.self.now

pub invariant_of-self : goal.invariant_of-self
invariant_of-self g c =
    let comes = round_comes c.args.self.now c.args.played.name Moved c.enter_played.result c.enter_played.new.log.entries.items c.enter_played.new.table c.in_ok-check_room.ensures.ok c.enter_played.ensures in
    record { history = comes.history; on_disk = comes.on_disk; newest = c.args.self.now.newest }

pub returns-in_err-enter_played-clause-crash : goal.returns-in_err-enter_played-clause-crash
returns-in_err-enter_played-clause-crash g c = still g.met.D.Disk.left_is_image c.enter_played.new.log.entries.items c.args.self.now _ refl
    (round_comes c.args.self.now c.args.played.name Moved c.enter_played.result c.enter_played.new.log.entries.items c.enter_played.new.table c.in_ok-check_room.ensures.ok c.enter_played.ensures).crash

pub returns-clause-crash : goal.returns-clause-crash
returns-clause-crash g c = still g.met.D.Disk.left_is_image c.enter_played.new.log.entries.items c.args.self.now _ refl
    (round_comes c.args.self.now c.args.played.name Moved c.enter_played.result c.enter_played.new.log.entries.items c.enter_played.new.table c.in_ok-check_room.ensures.ok c.enter_played.ensures).crash

pub returns-in_err-check_room-clause-step : goal.returns-in_err-check_room-clause-step
returns-in_err-check_room-clause-step g c =
    let e = err_from_is_err_and c.from_residual.result c.from_residual.ensures.1 in
    round_refused c.args.played.name Moved c.from_residual.result e.0 c.args.self.now c.args.self.now e.1 (idles g.met.D.Disk.left_is_image c.args.self.now)

pub returns-in_err-enter_played-clause-step : goal.returns-in_err-enter_played-clause-step
returns-in_err-enter_played-clause-step g c =
    let e = err_from_is_err_and c.from_residual-in_err-enter_played.result c.from_residual-in_err-enter_played.ensures.1 in
    round_refused c.args.played.name Moved c.from_residual-in_err-enter_played.result e.0 c.args.self.now _ e.1
    (round_unmade c.args.played.name Moved c.in_err-enter_played.field-0.0 c.args.self.now _ refl refl c.in_err-enter_played.ensures (returns-in_err-enter_played-clause-crash g c) (λ is. is))

pub returns-clause-step : goal.returns-clause-step
returns-clause-step g c =
    round_made BookFault c.args.played.name Moved c.in_ok-enter_played.field-0 c.args.self.now _ refl refl c.in_ok-enter_played.ensures (returns-clause-crash g c) (λ is. is)
