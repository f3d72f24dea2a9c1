use Rattle.std.proofs.Common.{refl}
use Rattle.std.proofs.lemmas.Result.{err_from_is_err_and}
use Rattle.ic_jobs.specs.declared.reply.Reply.TheVariants.{Moved}
use Rattle.ic_book.specs.declared.fault.BookFault.{BookFault}
use Rattle.ic_book.proofs.BookLemmas.{round_comes, still, unchanged}
use Rattle.ic_book.proofs.StepLemmas.{idles, round_made, round_refused, round_unmade}
use Rattle.ic_book.proofs.book.Book.land_awaited.Goals as goal

pub returns-in_err-check_room-clause-crash : goal.returns-in_err-check_room-clause-crash
returns-in_err-check_room-clause-crash g c = unchanged g.met.D.Disk.left_is_image c.args.self.now

pub invariant_of-self : goal.invariant_of-self
invariant_of-self g c =
    let comes = round_comes c.args.self.now c.args.played.name Moved c.land_entered.result c.land_entered.new.log.entries.items c.land_entered.new.table c.in_ok-check_room.ensures.ok c.land_entered.ensures.enters in
    record { history = comes.history; on_disk = comes.on_disk; newest = c.args.self.now.newest }

pub returns-in_err-land_entered-clause-crash : goal.returns-in_err-land_entered-clause-crash
returns-in_err-land_entered-clause-crash g c = still g.met.D.Disk.left_is_image c.land_entered.new.log.entries.items c.args.self.now _ refl
    (round_comes c.args.self.now c.args.played.name Moved c.land_entered.result c.land_entered.new.log.entries.items c.land_entered.new.table c.in_ok-check_room.ensures.ok c.land_entered.ensures.enters).crash

pub returns-clause-crash : goal.returns-clause-crash
returns-clause-crash g c = still g.met.D.Disk.left_is_image c.land_entered.new.log.entries.items c.args.self.now _ refl
    (round_comes c.args.self.now c.args.played.name Moved c.land_entered.result c.land_entered.new.log.entries.items c.land_entered.new.table c.in_ok-check_room.ensures.ok c.land_entered.ensures.enters).crash

pub returns-in_err-check_room-clause-step : goal.returns-in_err-check_room-clause-step
returns-in_err-check_room-clause-step g c =
    let e = err_from_is_err_and c.from_residual.result c.from_residual.ensures.1 in
    round_refused c.args.played.name Moved c.from_residual.result e.0 c.args.self.now c.args.self.now e.1 (idles g.met.D.Disk.left_is_image c.args.self.now)

pub returns-in_err-land_entered-clause-step : goal.returns-in_err-land_entered-clause-step
returns-in_err-land_entered-clause-step g c =
    let e = err_from_is_err_and c.from_residual-in_err-land_entered.result c.from_residual-in_err-land_entered.ensures.1 in
    round_refused c.args.played.name Moved c.from_residual-in_err-land_entered.result e.0 c.args.self.now _ e.1
    (round_unmade c.args.played.name Moved c.in_err-land_entered.field-0.0 c.args.self.now _ refl refl c.in_err-land_entered.ensures.enters (returns-in_err-land_entered-clause-crash g c) (λ is. is))

pub returns-clause-step : goal.returns-clause-step
returns-clause-step g c =
    round_made BookFault c.args.played.name Moved c.in_ok-land_entered.field-0 c.args.self.now _ refl refl c.in_ok-land_entered.ensures.enters (returns-clause-crash g c) (λ is. is)
