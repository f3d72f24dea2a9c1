use Rattle.std.proofs.Common.{rules, ◌≡◌, ◌≢◌, ◌+◌, ◌-◌, ◌*◌, ◌/◌, ◌^◌, ℕ, List, length, true, false, refl, inl, [], ◌∷◌, Result, Ok, Err}
use Rattle.std.specs.Prelude.{IfOk, OnOk}
use Rattle.ic_jobs.specs.declared.command.Command.{Command}
use Rattle.ic_serving.specs.declared.fault.ServeFault.{ServeFault}
use Rattle.ic_disk.specs.declared.disk.Disk.{Ghosts}
use Rattle.ic_book.specs.declared.book.Book.{Book}
use Rattle.ic_book.specs.Book.{is_broken, number_of, table_of, disk_of}
use Rattle.ic_text.specs.declared.fault.TextFault.{TextFault}
use Rattle.ic_lines.specs.Answers.{answer, after_line, events}
use Rattle.ic_serving.specs.Booked.{last_kept, IsAllKept}
use Rattle.ic_serving.specs.Grown.{GoesOn, HasRoom, HasSpare}
use Rattle.ic_book.specs.lemmas.Chains.{by_nothing}
use Rattle.ic_serving.proofs.PageLemmas.{goes_none, one_room}
use Rattle.ic_serving.proofs.RunLemmas.{on_err}
use Rattle.ic_serving.proofs.ReadingLemmas.{nothing_begun, nothing_come}
use Rattle.ic_serving.proofs.CallLemmas.{at_least, six_more}
use Rattle.ic_serving.proofs.RefusalLemmas.{command_comes, memory_broken, on_ok, on_unbroken, refused_comes, run_comes}
use Rattle.ic_jobs.specs.declared.event.Event.TheVariants.{Command as by_command}
use Rattle.ic_commands.specs.declared.line.Line.TheVariants.{Blank, Command as Asks, Run}
use Rattle.ic_lines.specs.Turns.{turns}
use Rattle.ic_serving.specs.Parts.{IsKeptWithin}
use Rattle.ic_serving.proofs.StopLemmas.{fault_memory}
use Rattle.ic_serving.specs.lemmas.Leaving.{leaves_nothing}
use Rattle.ic_book.specs.Moves.{keeps}
use Rattle.ic_book.specs.ByCalls.{IsByCalls}
use Rattle.ic_serving.specs.Answered.{EndsWith, IsReplied}
use Rattle.ic_serving.specs.inner.Reading.{IsAnsweredAs}
use Rattle.ic_serving.proofs.answering.answer_read.Goals as goal

-- a command is answered, by what its answer says
command_answered : {D V : Type 0} {ghosts : Ghosts D} (limit : ℕ) (c : Command) (old new : Book D ghosts) (r : Result V ServeFault) (items : V → List ℕ)
    → IfOk r (λ v. items v ≡ answer (table_of old) (Ok (Asks c))) → OnOk r (table_of new ≡ after_line (table_of old) (Ok (Asks c))) → OnOk r (IsAllKept new)
    → OnOk r (is_broken new ≡ false) → OnOk r (number_of old ≢ 2 ^ 64 - 1)
    → OnOk r (HasSpare limit old → GoesOn (by_command c ∷ []) old new) → IfOk r (λ v. IsReplied c (items v) old new)
    → IfOk r (λ v. IsAnsweredAs limit (Ok (Asks c)) (items v) old new)
command_answered limit c old new (Ok v) items said table kept whole fresh page done =
    record { answer = said; table = table; kept = kept; whole = whole; fresh = fresh; page = λ room. page (one_room old c room); done = done }
command_answered limit c old new (Err e) items said table kept whole fresh page done = tt

-- a refused line is answered by its refusal, and nothing changes
refused_answered : {D V : Type 0} {ghosts : Ghosts D} (limit : ℕ) (fault : TextFault) (book : Book D ghosts) (r : Result V ServeFault) (items : V → List ℕ)
    → IfOk r (λ v. items v ≡ answer (table_of book) (Err fault)) → IsByCalls book book → IfOk r (λ v. IsAnsweredAs limit (Err fault) (items v) book book)
refused_answered limit fault book (Ok v) items said done = record {
  answer = said;
  table = refl;
  kept = record { same_start = refl; same_log = refl; same_table = refl; same_kept = refl; same_keeper = refl };
  whole = tt;
  fresh = tt;
  page = λ room. goes_none book;
  done = done;
}
refused_answered limit fault book (Err e) items said done = tt

-- a run is answered, and its last call keeps all
run_answered : {D V : Type 0} {ghosts : Ghosts D} (limit : ℕ) (k : ℕ) (old new : Book D ghosts) (r : Result V ServeFault) (items : V → List ℕ)
    → IfOk r (λ v. items v ≡ answer (table_of old) (Ok (Run k))) → OnOk r (table_of new ≡ after_line (table_of old) (Ok (Run k))) → OnOk r (IsAllKept new)
    → OnOk r (is_broken new ≡ false) → OnOk r (HasRoom limit (turns k 0 (table_of old)) old → GoesOn (turns k 0 (table_of old)) old new) → OnOk r (EndsWith keeps old new)
    → IfOk r (λ v. IsAnsweredAs limit (Ok (Run k)) (items v) old new)
run_answered limit k old new (Ok v) items said table kept whole page done =
    record { answer = said; table = table; kept = kept; whole = whole; fresh = tt; page = page; done = done }
run_answered limit k old new (Err e) items said table kept whole page done = tt

pub returns-in-Ok-Command-clause-answered : goal.returns-in-Ok-Command-clause-answered
returns-in-Ok-Command-clause-answered g c =
    let is : c.args.reading ≡ Ok (Asks c.in-Ok-Command.command) = cc in
    rw is (command_answered c.args.limit c.in-Ok-Command.command c.args.book.now c.answer_command.new.book c.answer_command.result (λ v. v.items)
    c.answer_command.ensures.answer c.answer_command.ensures.table c.answer_command.ensures.kept
    c.answer_command.ensures.whole c.answer_command.ensures.fresh c.answer_command.ensures.page c.answer_command.ensures.replied)

pub returns-in-Ok-Command-clause-begun : goal.returns-in-Ok-Command-clause-begun
returns-in-Ok-Command-clause-begun g c =
    let is : c.args.reading ≡ Ok (Asks c.in-Ok-Command.command) = cc in
    rw is c.answer_command.ensures.begun

pub returns-in-Ok-Command-clause-crash : goal.returns-in-Ok-Command-clause-crash
returns-in-Ok-Command-clause-crash g c =
    let is : c.args.reading ≡ Ok (Asks c.in-Ok-Command.command) = cc in
    rw is c.answer_command.ensures.crash

pub returns-in-Ok-Run-clause-answered : goal.returns-in-Ok-Run-clause-answered
returns-in-Ok-Run-clause-answered g c =
    let is : c.args.reading ≡ Ok (Run c.in-Ok-Run.count) = cc in
    rw is (run_answered c.args.limit c.in-Ok-Run.count c.args.book.now c.answer_run.new.book c.answer_run.result (λ v. v.items)
    c.answer_run.ensures.answer c.answer_run.ensures.table c.answer_run.ensures.kept
    c.answer_run.ensures.whole c.answer_run.ensures.page c.answer_run.ensures.made)

pub returns-in-Ok-Run-clause-begun : goal.returns-in-Ok-Run-clause-begun
returns-in-Ok-Run-clause-begun g c =
    let is : c.args.reading ≡ Ok (Run c.in-Ok-Run.count) = cc in
    rw is c.answer_run.ensures.begun

pub returns-in-Ok-Run-clause-crash : goal.returns-in-Ok-Run-clause-crash
returns-in-Ok-Run-clause-crash g c =
    let is : c.args.reading ≡ Ok (Run c.in-Ok-Run.count) = cc in
    rw is c.answer_run.ensures.crash

-- a blank line is answered nothing
pub returns-in-Ok-Blank-clause-answered : goal.returns-in-Ok-Blank-clause-answered
returns-in-Ok-Blank-clause-answered g c =
    let is : c.args.reading ≡ Ok Blank = cc in
    rw is (record {
      answer = search rules;
      table = refl;
      kept = record { same_start = refl; same_log = refl; same_table = refl; same_kept = refl; same_keeper = refl };
      whole = tt;
      fresh = tt;
      page = λ room. goes_none c.args.book.now;
      done = by_nothing c.args.book.now c.facts.ensures.step;
    })

pub returns-in-Ok-Blank-clause-crash : goal.returns-in-Ok-Blank-clause-crash
returns-in-Ok-Blank-clause-crash g c = leaves_nothing c.args.book.now (IsKeptWithin (table_of c.args.book.now) (last_kept c.args.book.now) (events (table_of c.args.book.now) c.args.reading))
    (g.met.D.Disk.left_is_image _) c.facts.ensures.either c.facts.ensures.history.replayed (by_nothing c.args.book.now c.facts.ensures.step) (inl refl)
    (nothing_come (table_of c.args.book.now) (last_kept c.args.book.now) (events (table_of c.args.book.now) c.args.reading))

pub returns-in-Err-clause-answered : goal.returns-in-Err-clause-answered
returns-in-Err-clause-answered g c =
    let is : c.args.reading ≡ Err c.in-Err.fault = cc in
    rw is (refused_answered c.args.limit c.in-Err.fault c.args.book.now c.answer_refused.result (λ v. v.items) c.answer_refused.ensures.answer (by_nothing c.args.book.now c.facts.ensures.step))

pub returns-in-Err-clause-begun : goal.returns-in-Err-clause-begun
returns-in-Err-clause-begun g c = on_err c.answer_refused.result _ (nothing_begun c.args.book.now (events (table_of c.args.book.now) c.args.reading))

pub returns-in-Err-clause-crash : goal.returns-in-Err-clause-crash
returns-in-Err-clause-crash g c = leaves_nothing c.args.book.now (IsKeptWithin (table_of c.args.book.now) (last_kept c.args.book.now) (events (table_of c.args.book.now) c.args.reading))
    (g.met.D.Disk.left_is_image _) c.facts.ensures.either c.facts.ensures.history.replayed (by_nothing c.args.book.now c.facts.ensures.step) (inl refl)
    (nothing_come (table_of c.args.book.now) (last_kept c.args.book.now) (events (table_of c.args.book.now) c.args.reading))

pub returns-in-Err-clause-fault : goal.returns-in-Err-clause-fault
returns-in-Err-clause-fault g c = fault_memory c.answer_refused.result c.args.book.now c.answer_refused.ensures.fault

pub returns-in-Ok-Command-clause-comes : goal.returns-in-Ok-Command-clause-comes
returns-in-Ok-Command-clause-comes g c =
    let is : c.args.reading ≡ Ok (Asks c.in-Ok-Command.command) = cc in
    rw is (command_comes c.answer_command.result (table_of c.args.book.now) c.in-Ok-Command.command (table_of c.answer_command.new.book) c.answer_command.ensures.comes)

pub returns-in-Ok-Run-clause-comes : goal.returns-in-Ok-Run-clause-comes
returns-in-Ok-Run-clause-comes g c =
    let is : c.args.reading ≡ Ok (Run c.in-Ok-Run.count) = cc in
    rw is (run_comes c.answer_run.result (table_of c.args.book.now) c.in-Ok-Run.count (table_of c.answer_run.new.book) c.answer_run.ensures.fault.causes
    c.answer_run.ensures.idle c.answer_run.ensures.unmade)

pub returns-in-Err-clause-comes : goal.returns-in-Err-clause-comes
returns-in-Err-clause-comes g c =
    let is : c.args.reading ≡ Err c.in-Err.fault = cc in
    rw is (refused_comes c.answer_refused.result (table_of c.args.book.now) c.in-Err.fault (table_of c.args.book.now) c.answer_refused.ensures.fault)

pub returns-in-Ok-Command-clause-still : goal.returns-in-Ok-Command-clause-still
returns-in-Ok-Command-clause-still g c = on_unbroken c.answer_command.result (is_broken c.args.book.now) (is_broken c.answer_command.new.book ≡ true) c.answer_command.ensures.unbroken

pub returns-in-Ok-Run-clause-still : goal.returns-in-Ok-Run-clause-still
returns-in-Ok-Run-clause-still g c = on_unbroken c.answer_run.result (is_broken c.args.book.now) (is_broken c.answer_run.new.book ≡ true) c.answer_run.ensures.unbroken

pub returns-in-Err-clause-broken : goal.returns-in-Err-clause-broken
returns-in-Err-clause-broken g c = λ is. memory_broken c.answer_refused.result c.answer_refused.ensures.fault

pub returns-in-Err-clause-still : goal.returns-in-Err-clause-still
returns-in-Err-clause-still g c = on_ok c.answer_refused.result (is_broken c.args.book.now ≡ true)

pub returns-in-Ok-Blank-clause-few_calls : goal.returns-in-Ok-Blank-clause-few_calls
returns-in-Ok-Blank-clause-few_calls g c = λ room. at_least (g.D.Disk.clock (disk_of c.args.book.now)) (6 * (length (events (table_of c.args.book.now) c.args.reading) / c.args.every + 1))

pub returns-in-Err-clause-few_calls : goal.returns-in-Err-clause-few_calls
returns-in-Err-clause-few_calls g c = λ room. at_least (g.D.Disk.clock (disk_of c.args.book.now)) (6 * (length (events (table_of c.args.book.now) c.args.reading) / c.args.every + 1))

pub returns-in-Ok-Run-clause-few_calls : goal.returns-in-Ok-Run-clause-few_calls
returns-in-Ok-Run-clause-few_calls g c =
    let is : c.args.reading ≡ Ok (Run c.in-Ok-Run.count) = cc in
    rw is c.answer_run.ensures.few_calls

pub returns-in-Ok-Command-clause-few_calls : goal.returns-in-Ok-Command-clause-few_calls
returns-in-Ok-Command-clause-few_calls g c =
    let is : c.args.reading ≡ Ok (Asks c.in-Ok-Command.command) = cc in
    rw is (λ room. six_more (length (by_command c.in-Ok-Command.command ∷ []) / c.args.every) (g.D.Disk.clock (disk_of c.args.book.now)) (g.D.Disk.clock (disk_of c.answer_command.new.book))
    (c.answer_command.ensures.few_calls (one_room c.args.book.now c.in-Ok-Command.command room)))
