use Rattle.std.proofs.Common.{Bool, Result, ap, refl}
use Rattle.std.proofs.lemmas.Result.{err_from_is_err_and}
use Rattle.ic_jobs.specs.declared.reply.Reply.TheVariants.{Moved}
use Rattle.ic_book.specs.declared.fault.BookFault.{BookFault}
use Rattle.ic_book.specs.Moves.{as_landed}
use Rattle.ic_book.proofs.BookLemmas.{round_comes, still, unchanged}
use Rattle.ic_book.proofs.StepLemmas.{idles, own_made, own_round, round_refused, round_unmade}
use Rattle.ic_book.proofs.book.Book.round_awaited.Goals as goal

pub returns-in_err-check_room-clause-crash : goal.returns-in_err-check_room-clause-crash
returns-in_err-check_room-clause-crash g c = unchanged g.met.D.Disk.left_is_image c.args.self.now

pub invariant_of-self : goal.invariant_of-self
invariant_of-self g c =
    let comes = round_comes c.args.self.now c.args.name Moved (as_landed c.round_entered.result) c.round_entered.new.log.entries.items c.round_entered.new.table c.in_ok-check_room.ensures.ok c.round_entered.ensures in
    record { history = comes.history; on_disk = comes.on_disk; newest = c.args.self.now.newest }

pub returns-in_err-round_entered-clause-crash : goal.returns-in_err-round_entered-clause-crash
returns-in_err-round_entered-clause-crash g c = still g.met.D.Disk.left_is_image c.round_entered.new.log.entries.items c.args.self.now _ refl
    (round_comes c.args.self.now c.args.name Moved (as_landed c.round_entered.result) c.round_entered.new.log.entries.items c.round_entered.new.table c.in_ok-check_room.ensures.ok c.round_entered.ensures).crash

pub returns-clause-crash : goal.returns-clause-crash
returns-clause-crash g c = still g.met.D.Disk.left_is_image c.round_entered.new.log.entries.items c.args.self.now _ refl
    (round_comes c.args.self.now c.args.name Moved (as_landed c.round_entered.result) c.round_entered.new.log.entries.items c.round_entered.new.table c.in_ok-check_room.ensures.ok c.round_entered.ensures).crash

pub returns-in_err-check_room-clause-step : goal.returns-in_err-check_room-clause-step
returns-in_err-check_room-clause-step g c =
    let e = err_from_is_err_and c.from_residual.result c.from_residual.ensures.1 in
    round_refused c.args.name Moved (as_landed c.from_residual.result) e.0 c.args.self.now c.args.self.now (ap (λ (r : Result Bool BookFault). as_landed r) e.1)
    (idles g.met.D.Disk.left_is_image c.args.self.now)

pub returns-in_err-round_entered-clause-step : goal.returns-in_err-round_entered-clause-step
returns-in_err-round_entered-clause-step g c =
    let e = err_from_is_err_and c.from_residual-in_err-round_entered.result c.from_residual-in_err-round_entered.ensures.1 in
    round_refused c.args.name Moved (as_landed c.from_residual-in_err-round_entered.result) e.0 c.args.self.now _ (ap (λ (r : Result Bool BookFault). as_landed r) e.1)
    (round_unmade c.args.name Moved c.in_err-round_entered.field-0.0 c.args.self.now _ refl refl c.in_err-round_entered.ensures (returns-in_err-round_entered-clause-crash g c) (λ is. is))

pub returns-clause-step : goal.returns-clause-step
returns-clause-step g c =
    own_made BookFault c.args.name c.in_ok-round_entered.field-0 c.args.self.now _ refl refl c.in_ok-round_entered.ensures (returns-clause-crash g c) (λ is. is)

pub returns-clause-round : goal.returns-clause-round
returns-clause-round g c = own_round c.args.name c.in_ok-round_entered.field-0 c.args.self.now _ refl refl refl c.in_ok-round_entered.ensures
