use Rattle.std.proofs.Common.{◌≡◌, ◌∙◌, ◌+◌, length, refl, sym, arith, true, false}
use Rattle.std.proofs.lemmas.Result.{err_from_is_err_and}
use Rattle.ic_book.specs.declared.fault.BookFault.TheVariants.{Memory, Device}
use Rattle.ic_book.proofs.AnswerLemmas.{told_stays}
use Rattle.ic_book.proofs.BookLemmas.{either_of, failed_on_disk, idle_history, idle_on_disk, kept_on_disk, nothing_came, one_longer, stands_added, still, still_added, unchanged, written}
use Rattle.ic_book.proofs.StepLemmas.{command_answered, command_failed, command_refused, idles, stays_on}
use Rattle.ic_book.proofs.book.Book.command.Goals as goal

pub returns-in_err-check_command-clause-crash : goal.returns-in_err-check_command-clause-crash
returns-in_err-check_command-clause-crash g c = unchanged g.met.D.Disk.left_is_image c.args.self.now

pub invariant_of-self : goal.invariant_of-self
invariant_of-self g c =
    let book = c.args.self.now in
    record {
      history = rw (c.in_err-answer.ensures.same_log, c.in_err-answer.ensures.same_table) book.history;
      on_disk = rw c.in_err-answer.ensures.same_log book.on_disk;
      newest = book.newest;
    }

pub returns-in_err-answer-clause-crash : goal.returns-in_err-answer-clause-crash
returns-in_err-answer-clause-crash g c = nothing_came g.met.D.Disk.left_is_image c.args.self.now _ refl c.in_err-answer.ensures.same_log

pub returns-in_err-answer-clause-step : goal.returns-in_err-answer-clause-step
returns-in_err-answer-clause-step g c =
    let e = err_from_is_err_and c.from_residual-in_err-answer.result c.from_residual-in_err-answer.ensures.1 in
    command_refused c.args.who c.args.command c.args.self.now _ c.from_residual-in_err-answer.result e.0 e.1
    (λ device. let never : Memory ≡ Device = sym e.2 ∙ device in cc)
    (stays_on c.args.self.now _ refl c.in_err-answer.ensures.same_log c.in_err-answer.ensures.same_table refl
    (still g.met.D.Disk.left_is_image c.args.self.now.log.entries.items c.args.self.now _ refl (either_of c.args.self.now)) (λ is. is))

pub returns-then-leaves_table-clause-crash : goal.returns-then-leaves_table-clause-crash
returns-then-leaves_table-clause-crash g c = still g.met.D.Disk.left_is_image c.enter_command.new.log.entries.items c.args.self.now _ refl
    (still_added c.args.self.now c.args.who c.args.command c.in_ok-answer.answer c.enter_command.new.log.entries.items c.enter_command.new.table c.in_ok-check_command.ensures.ok c.in_ok-answer.ensures.added)

pub returns-then-leaves_table-clause-step : goal.returns-then-leaves_table-clause-step
returns-then-leaves_table-clause-step g c =
    command_answered c.args.who c.args.command c.args.self.now _ c.in_ok-answer.answer (returns-then-leaves_table-clause-crash g c) refl c.in_ok-answer.ensures.added (omega (arith, c.len-self.ensures))
    c.in_ok-check_command.ensures.ok.0 c.in_ok-check_command.ensures.ok.0

pub invariant_of-self-then-leaves_table : goal.invariant_of-self-then-leaves_table
invariant_of-self-then-leaves_table g c =
    let book = c.args.self.now in
    let log = c.enter_command.new.log.entries.items in
    let table = c.enter_command.new.table in
    let stays = told_stays book.table table c.args.command c.in_ok-answer.answer c.in_ok-answer.ensures.added.event (sym c.leaves_table.ensures ∙ c.if-leaves_table.true) in
    let grown : length log ≡ length book.log.entries.items + 1 = one_longer c.args.self.now c.args.who c.args.command c.in_ok-answer.answer c.enter_command.new.log.entries.items c.enter_command.new.table c.in_ok-check_command.ensures.ok c.in_ok-answer.ensures.added in
    let all : book.kept ≡ length book.log.entries.items = omega (arith, grown, c.if-kept_before.true, c.len.ensures) in
    let count : c.len-self.result ≡ length log = omega (arith, c.len-self.ensures) in
    record {
      history = idle_history c.args.self.now c.args.who c.args.command c.in_ok-answer.answer c.enter_command.new.log.entries.items c.enter_command.new.table c.in_ok-check_command.ensures.ok c.in_ok-answer.ensures.added c.len-self.result count stays all;
      on_disk = idle_on_disk c.args.self.now c.args.who c.args.command c.in_ok-answer.answer c.enter_command.new.log.entries.items c.enter_command.new.table c.in_ok-check_command.ensures.ok c.in_ok-answer.ensures.added c.len-self.result count stays all;
      newest = book.newest;
    }

pub invariant_of-self-in-Break-branch-3 : goal.invariant_of-self-in-Break-branch-3
invariant_of-self-in-Break-branch-3 g c =
    let keeper = c.keep_table.new.keeper in
    let stands = stands_added c.args.self.now c.args.who c.args.command c.in_ok-answer.answer c.enter_command.new.log.entries.items c.enter_command.new.table c.in_ok-check_command.ensures.ok c.in_ok-answer.ensures.added in
    let broke = c.in_err-keep_table.ensures.breaks in
    record {
      history = stands.left keeper.frames.broken;
      on_disk = failed_on_disk c.args.self.now c.enter_command.new.log.entries.items c.enter_command.new.table stands keeper c.keep_table.ensures.keeps c.in_ok-check_command.ensures.ok.0 broke
          c.keep_table.ensures.either_if_made;
      newest = λ _ whole. let never : true ≡ false = sym broke ∙ whole in cc;
    }

pub invariant_of-self-2 : goal.invariant_of-self-2
invariant_of-self-2 g c =
    let keeper = c.keep_table.new.keeper in
    let stands = stands_added c.args.self.now c.args.who c.args.command c.in_ok-answer.answer c.enter_command.new.log.entries.items c.enter_command.new.table c.in_ok-check_command.ensures.ok c.in_ok-answer.ensures.added in
    let count : c.len-self-2.result ≡ length c.enter_command.new.log.entries.items = omega (arith, c.len-self-2.ensures) in
    record {
      history = stands.kept keeper.frames.broken c.len-self-2.result count c.keep_table.ensures.sound;
      on_disk = kept_on_disk c.args.self.now c.enter_command.new.log.entries.items c.enter_command.new.table stands keeper c.keep_table.ensures.keeps c.len-self-2.result count
          c.in_ok-keep_table.ensures.held c.in_ok-keep_table.ensures.holds;
      newest = λ keeps _. c.in_ok-keep_table.ensures.newest (sym c.keep_table.ensures.keeps ∙ keeps);
    }

pub returns-in_err-keep_table-clause-crash : goal.returns-in_err-keep_table-clause-crash
returns-in_err-keep_table-clause-crash g c =
    let stands = stands_added c.args.self.now c.args.who c.args.command c.in_ok-answer.answer c.enter_command.new.log.entries.items c.enter_command.new.table c.in_ok-check_command.ensures.ok c.in_ok-answer.ensures.added in
    written c.enter_command.new.log.entries.items c.args.self.now _ c.enter_command.new.table stands c.in_ok-check_command.ensures.ok.0 g.met.D.Disk.image_is_left
    c.keep_table.ensures.keeps c.keep_table.ensures.any_moment

pub returns-clause-crash : goal.returns-clause-crash
returns-clause-crash g c =
    let stands = stands_added c.args.self.now c.args.who c.args.command c.in_ok-answer.answer c.enter_command.new.log.entries.items c.enter_command.new.table c.in_ok-check_command.ensures.ok c.in_ok-answer.ensures.added in
    written c.enter_command.new.log.entries.items c.args.self.now _ c.enter_command.new.table stands c.in_ok-check_command.ensures.ok.0 g.met.D.Disk.image_is_left
    c.keep_table.ensures.keeps c.keep_table.ensures.any_moment

pub returns-in_err-check_command-clause-step : goal.returns-in_err-check_command-clause-step
returns-in_err-check_command-clause-step g c =
    let e = err_from_is_err_and c.from_residual.result c.from_residual.ensures.1 in
    let told = e.2 in
    let same : e.0 ≡ c.in_err-check_command.field-0.0 = cc in
    command_refused c.args.who c.args.command c.args.self.now c.args.self.now c.from_residual.result e.0 e.1
    (λ device. c.in_err-check_command.ensures.others (sym same ∙ device))
    (idles g.met.D.Disk.left_is_image c.args.self.now)

pub returns-in_err-keep_table-clause-step : goal.returns-in_err-keep_table-clause-step
returns-in_err-keep_table-clause-step g c =
    let e = err_from_is_err_and c.from_residual-in_err-keep_table.result c.from_residual-in_err-keep_table.ensures.1 in
    let told = e.2 in
    let same : e.0 ≡ c.in_err-keep_table.field-0.0 = cc in
    command_failed c.args.who c.args.command c.args.self.now _ c.in_ok-answer.answer (returns-in_err-keep_table-clause-crash g c) refl c.in_ok-answer.ensures.added
    c.from_residual-in_err-keep_table.result e.0 e.1 (same ∙ c.in_err-keep_table.ensures.device) refl c.in_ok-check_command.ensures.ok.0 c.in_err-keep_table.ensures.breaks

pub returns-clause-step : goal.returns-clause-step
returns-clause-step g c =
    command_answered c.args.who c.args.command c.args.self.now _ c.in_ok-answer.answer (returns-clause-crash g c) refl c.in_ok-answer.ensures.added (omega (arith, c.len-self-2.ensures))
    c.in_ok-check_command.ensures.ok.0 c.in_ok-keep_table.ensures.ready
