use Rattle.std.proofs.Common.{◌≡◌, ◌∙◌, ◌+◌, length, refl, sym, arith}
use Rattle.std.proofs.lemmas.Result.{err_from_is_err_and}
use Rattle.ic_book.specs.Book.{is_broken}
use Rattle.ic_book.proofs.AnswerLemmas.{told_stays}
use Rattle.ic_book.proofs.BookLemmas.{idle_history, idle_on_disk, one_longer, stands_added, still, still_added, unchanged, unkept_on_disk}
use Rattle.ic_book.proofs.StepLemmas.{command_idle, command_taken, idles, take_refused}
use Rattle.ic_book.proofs.book.Book.take.Goals as goal
use Rattle.ic_book.proofs.book.Book.take.Goals.{then-kept_before+then-leaves_table, else-kept_before, else-kept_before-via-then-kept_before+else-leaves_table, else-kept_before-via-else-kept_before}

pub returns-in_err-check_command-clause-step : goal.returns-in_err-check_command-clause-step
returns-in_err-check_command-clause-step g c =
    let e = err_from_is_err_and c.from_residual.result c.from_residual.ensures.1 in
    take_refused c.args.who c.args.command c.args.self.now c.args.self.now c.from_residual.result e.0 e.1 (idles g.met.D.Disk.left_is_image c.args.self.now)

pub returns-in_err-check_command-clause-crash : goal.returns-in_err-check_command-clause-crash
returns-in_err-check_command-clause-crash g c = unchanged g.met.D.Disk.left_is_image c.args.self.now

pub invariant_of-self-then-leaves_table : goal.invariant_of-self-then-leaves_table
invariant_of-self-then-leaves_table g c =
    let book = c.args.self.now in
    let log = c.enter_command.new.log.entries.items in
    let table = c.enter_command.new.table in
    let stays = told_stays book.table table c.args.command c.in_ok-answer.answer c.in_ok-answer.ensures.added.event (sym c.leaves_table.ensures ∙ c.if-leaves_table.true) in
    let grown : length log ≡ length book.log.entries.items + 1 = one_longer book c.args.who c.args.command c.in_ok-answer.answer log table c.in_ok-check_command.ensures.ok c.in_ok-answer.ensures.added in
    let all : book.kept ≡ length book.log.entries.items = omega (arith, grown, c.if-kept_before.true, c.len.ensures) in
    let count : c.len-self.result ≡ length log = omega (arith, c.len-self.ensures) in
    record {
      history = idle_history book c.args.who c.args.command c.in_ok-answer.answer log table c.in_ok-check_command.ensures.ok c.in_ok-answer.ensures.added c.len-self.result count stays all;
      on_disk = idle_on_disk book c.args.who c.args.command c.in_ok-answer.answer log table c.in_ok-check_command.ensures.ok c.in_ok-answer.ensures.added c.len-self.result count stays all;
      newest = book.newest;
    }

pub invariant_of-self-else-leaves_table : goal.invariant_of-self-else-leaves_table
invariant_of-self-else-leaves_table g c =
    let book = c.args.self.now in
    let log = c.enter_command.new.log.entries.items in
    let table = c.enter_command.new.table in
    record {
      history = (stands_added book c.args.who c.args.command c.in_ok-answer.answer log table c.in_ok-check_command.ensures.ok c.in_ok-answer.ensures.added).left (is_broken book);
      on_disk = unkept_on_disk book c.args.who c.args.command c.in_ok-answer.answer log table c.in_ok-check_command.ensures.ok c.in_ok-answer.ensures.added;
      newest = book.newest;
    }

pub invariant_of-self-else-kept_before : goal.invariant_of-self-else-kept_before
invariant_of-self-else-kept_before g c =
    let book = c.args.self.now in
    let log = c.enter_command.new.log.entries.items in
    let table = c.enter_command.new.table in
    record {
      history = (stands_added book c.args.who c.args.command c.in_ok-answer.answer log table c.in_ok-check_command.ensures.ok c.in_ok-answer.ensures.added).left (is_broken book);
      on_disk = unkept_on_disk book c.args.who c.args.command c.in_ok-answer.answer log table c.in_ok-check_command.ensures.ok c.in_ok-answer.ensures.added;
      newest = book.newest;
    }

pub returns-clause-crash : goal.returns-clause-crash
returns-clause-crash g c =
    let left = still_added c.args.self.now c.args.who c.args.command c.in_ok-answer.answer c.enter_command.new.log.entries.items c.enter_command.new.table
    c.in_ok-check_command.ensures.ok c.in_ok-answer.ensures.added in
    elim c.if-kept_before.branch [
      | then-kept_before+then-leaves_table w ↦ rw w.self-is (still g.met.D.Disk.left_is_image c.enter_command.new.log.entries.items c.args.self.now _ refl left)
      | else-kept_before w ↦ elim w.else-kept_before.branch [
        | else-kept_before-via-then-kept_before+else-leaves_table v ↦ rw (w.self-is, v.self-is) (still g.met.D.Disk.left_is_image c.enter_command.new.log.entries.items c.args.self.now _ refl left)
        | else-kept_before-via-else-kept_before v ↦ rw (w.self-is, v.self-is) (still g.met.D.Disk.left_is_image c.enter_command.new.log.entries.items c.args.self.now _ refl left)
      ]
    ]

pub returns-clause-step : goal.returns-clause-step
returns-clause-step g c =
    let left = still_added c.args.self.now c.args.who c.args.command c.in_ok-answer.answer c.enter_command.new.log.entries.items c.enter_command.new.table
    c.in_ok-check_command.ensures.ok c.in_ok-answer.ensures.added in
    let added = c.in_ok-answer.ensures.added in
    let ready = c.in_ok-check_command.ensures.ok.0 in
    elim c.if-kept_before.branch [
      | then-kept_before+then-leaves_table w ↦ (let count = w.len-self.ensures in
          rw w.self-is (command_idle c.args.who c.args.command c.args.self.now _ c.in_ok-answer.answer
          (still g.met.D.Disk.left_is_image c.enter_command.new.log.entries.items c.args.self.now _ refl left) refl added (omega (arith, count)) ready ready))
      | else-kept_before w ↦ elim w.else-kept_before.branch [
        | else-kept_before-via-then-kept_before+else-leaves_table v ↦ rw (w.self-is, v.self-is) (command_taken c.args.who c.args.command c.args.self.now _ c.in_ok-answer.answer
            (still g.met.D.Disk.left_is_image c.enter_command.new.log.entries.items c.args.self.now _ refl left) refl added refl ready ready)
        | else-kept_before-via-else-kept_before v ↦ rw (w.self-is, v.self-is) (command_taken c.args.who c.args.command c.args.self.now _ c.in_ok-answer.answer
            (still g.met.D.Disk.left_is_image c.enter_command.new.log.entries.items c.args.self.now _ refl left) refl added refl ready ready)
      ]
    ]
