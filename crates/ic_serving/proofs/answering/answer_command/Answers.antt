use Rattle.std.proofs.Common.{◌≡◌, ◌-◌, ◌^◌, false, inl, inr, Err, refl, ap, ◌∙◌, [], ◌∷◌, arith}
use Rattle.ic_jobs.specs.declared.event.Event.TheVariants.{Command as by_command}
use Rattle.ic_jobs.specs.History.{table_after}
use Rattle.ic_book.specs.Book.{is_broken, number_of, table_of, start_of, log_of, kept_of, disk_of, IsUnchanged}
use Rattle.ic_book.specs.Entries.{command_entry}
use Rattle.ic_book.specs.Weight.{weight, weight_of}
use Rattle.ic_book.specs.lemmas.Weights.{weigh_one}
use Rattle.ic_serving.specs.Booked.{last_kept}
use Rattle.ic_serving.proofs.RunLemmas.{kept_same, on_err}
use Rattle.ic_book.specs.lemmas.Chains.{answer_moves, by_answer, by_failure, by_refusal}
use Rattle.ic_serving.specs.lemmas.Reaching.{kept_all}
use Rattle.ic_serving.specs.lemmas.Unkept.{none_unkept, one_unkept, same_unkept}
use Rattle.ic_serving.proofs.LineLemmas.{device_or_not, begun_none, begun_one, begun_kept, after_event, kept_after}
use Rattle.ic_serving.proofs.PageLemmas.{begins_page, command_goes, one_more, one_room, same_then, within_all, within_none}
use Rattle.ic_serving.specs.Parts.{IsKeptWithin}
use Rattle.ic_serving.specs.Moments.{IsKeptOrNow}
use Rattle.ic_serving.proofs.StopLemmas.{kept_or_now, leaves_still, leaves_command}
use Rattle.ic_serving.specs.lemmas.Leaving.{leaves_more}
use Rattle.ic_book.specs.Moves.{answers}
use Rattle.ic_lines.specs.Lines.{ended}
use Rattle.ic_serving.proofs.CallLemmas.{clock_same, same_few, then_six}
use Rattle.ic_serving.proofs.RefusalLemmas.{err_broken, not_true}
use Rattle.ic_serving.proofs.TurnLemmas.{ends_then}
use Rattle.ic_serving.proofs.answering.answer_command.Goals as goal

pub returns-in_err-make_room-clause-begun : goal.returns-in_err-make_room-clause-begun
returns-in_err-make_room-clause-begun g c =
    let s = c.make_room.ensures.stays in
    let b = begun_none (table_of c.args.book.now) (last_kept c.args.book.now) (by_command c.args.command ∷ []) (table_of c.make_room.new.book) (last_kept c.make_room.new.book) s.table s.kept in
    on_err c.from_residual.result _ (record {
      table = b.0;
      kept = b.1;
      page = λ room. within_none (by_command c.args.command ∷ []) c.args.book.now c.make_room.new.book (s.page (one_room c.args.book.now c.args.command room));
    })

pub returns-in_err-reply-clause-begun : goal.returns-in_err-reply-clause-begun
returns-in_err-reply-clause-begun g c =
    let s = c.in_ok-make_room.ensures.stays in
    elim (device_or_not c.in_err-reply.field-0.0) [
      | inl is ↦ (let failed = c.in_err-reply.ensures.step.failed (ap (λ e. Err e) is) in
          let added = failed.1.page.0.adds in
          let moved = after_event (table_of c.make_room.new.book) (table_of c.command.new.self) (by_command c.args.command) failed.0 added.event in
          let same : last_kept c.command.new.self ≡ last_kept c.make_room.new.book = kept_after (start_of c.make_room.new.book) (start_of c.command.new.self)
          (log_of c.make_room.new.book) (log_of c.command.new.self) (command_entry 0 c.args.command failed.0) (kept_of c.make_room.new.book) (kept_of c.command.new.self)
          c.command.ensures.start added.entry failed.1.page.1 c.facts.ensures.history.within in
          let b = begun_one (table_of c.args.book.now) (last_kept c.args.book.now) (by_command c.args.command) (table_of c.command.new.self) (last_kept c.command.new.self)
          (moved ∙ ap (λ y. table_after y (by_command c.args.command)) s.table) (rw same s.kept) in
          on_err c.from_residual-in_err-reply.result _ (record { table = b.0; kept = b.1; page = λ room. within_all (by_command c.args.command ∷ []) c.args.book.now c.command.new.self (command_goes c.args.command failed.0 c.args.book.now c.make_room.new.book c.command.new.self (s.page (one_room c.args.book.now c.args.command room)) c.command.ensures.start added.entry) }))
      | inr other ↦ (let u : IsUnchanged c.make_room.new.book c.command.new.self = c.in_err-reply.ensures.fault.refused refl (λ same. other (cc)) in
          let same : last_kept c.command.new.self ≡ last_kept c.make_room.new.book = kept_same (start_of c.make_room.new.book) (start_of c.command.new.self)
          (log_of c.make_room.new.book) (log_of c.command.new.self) (kept_of c.make_room.new.book) (kept_of c.command.new.self)
          u.same_start u.same_log u.same_kept in
          let b = begun_none (table_of c.args.book.now) (last_kept c.args.book.now) (by_command c.args.command ∷ []) (table_of c.command.new.self) (last_kept c.command.new.self)
          (u.same_table ∙ s.table) (rw same s.kept) in
          on_err c.from_residual-in_err-reply.result _ (record { table = b.0; kept = b.1; page = λ room. within_none (by_command c.args.command ∷ []) c.args.book.now c.command.new.self (same_then c.args.book.now c.make_room.new.book c.command.new.self (s.page (one_room c.args.book.now c.args.command room)) u.same_start u.same_log) }))
    ]

pub returns-in_err-print_reply-clause-begun : goal.returns-in_err-print_reply-clause-begun
returns-in_err-print_reply-clause-begun g c =
    let s = c.in_ok-make_room.ensures.stays in
    let moved = after_event (table_of c.make_room.new.book) (table_of c.command.new.self) (by_command c.args.command) c.in_ok-reply.reply c.in_ok-reply.ensures.step.answered.page.0.adds.event in
    let all = kept_all (start_of c.command.new.self) (table_of c.command.new.self) (log_of c.command.new.self) (kept_of c.command.new.self)
    c.facts-2.ensures.history.replayed c.in_ok-reply.ensures.step.answered.page.1 in
    let b = begun_kept (table_of c.args.book.now) (last_kept c.args.book.now) (by_command c.args.command) (table_of c.command.new.self) (last_kept c.command.new.self)
    (moved ∙ ap (λ y. table_after y (by_command c.args.command)) s.table) all in
    on_err c.from_residual-in_err-print_reply.result _ (record { table = b.0; kept = b.1; page = λ room. within_all (by_command c.args.command ∷ []) c.args.book.now c.command.new.self (command_goes c.args.command c.in_ok-reply.reply c.args.book.now c.make_room.new.book c.command.new.self (s.page (one_room c.args.book.now c.args.command room)) c.command.ensures.start c.in_ok-reply.ensures.step.answered.page.0.adds.entry) })

pub returns-in_err-ended-clause-begun : goal.returns-in_err-ended-clause-begun
returns-in_err-ended-clause-begun g c =
    let s = c.in_ok-make_room.ensures.stays in
    let moved = after_event (table_of c.make_room.new.book) (table_of c.command.new.self) (by_command c.args.command) c.in_ok-reply.reply c.in_ok-reply.ensures.step.answered.page.0.adds.event in
    let all = kept_all (start_of c.command.new.self) (table_of c.command.new.self) (log_of c.command.new.self) (kept_of c.command.new.self)
    c.facts-2.ensures.history.replayed c.in_ok-reply.ensures.step.answered.page.1 in
    let b = begun_kept (table_of c.args.book.now) (last_kept c.args.book.now) (by_command c.args.command) (table_of c.command.new.self) (last_kept c.command.new.self)
    (moved ∙ ap (λ y. table_after y (by_command c.args.command)) s.table) all in
    on_err c.from_residual-in_err-ended.result _ (record { table = b.0; kept = b.1; page = λ room. within_all (by_command c.args.command ∷ []) c.args.book.now c.command.new.self (command_goes c.args.command c.in_ok-reply.reply c.args.book.now c.make_room.new.book c.command.new.self (s.page (one_room c.args.book.now c.args.command room)) c.command.ensures.start c.in_ok-reply.ensures.step.answered.page.0.adds.entry) })

pub returns-in_err-make_room-clause-crash : goal.returns-in_err-make_room-clause-crash
returns-in_err-make_room-clause-crash g c = leaves_more c.args.book.now c.make_room.new.book (IsKeptOrNow c.args.book.now)
    (IsKeptWithin (table_of c.args.book.now) (last_kept c.args.book.now) (by_command c.args.command ∷ [])) c.make_room.ensures.crash
    (kept_or_now (table_of c.args.book.now) (last_kept c.args.book.now) (by_command c.args.command ∷ []))

pub returns-in_err-reply-clause-crash : goal.returns-in_err-reply-clause-crash
returns-in_err-reply-clause-crash g c =
    elim (device_or_not c.in_err-reply.field-0.0) [
      | inl is ↦ (let device = ap (λ e. Err e) is in
          let failed = c.in_err-reply.ensures.step.failed device in
          leaves_command c.args.book.now c.make_room.new.book c.command.new.self c.args.command failed.0 c.make_room.ensures.crash c.in_ok-make_room.ensures.stays
          c.facts.ensures.history.replayed c.facts.ensures.history.within failed.1.page.0.adds c.command.ensures.crash.keeps c.command.ensures.crash.made c.command.ensures.crash.any_moment
          (by_failure 0 c.args.command failed.0 c.make_room.new.book c.command.new.self failed.1))
      | inr other ↦ (let u : IsUnchanged c.make_room.new.book c.command.new.self = c.in_err-reply.ensures.fault.refused refl (λ same. other (cc)) in
          leaves_still c.args.book.now c.make_room.new.book c.command.new.self (IsKeptWithin (table_of c.args.book.now) (last_kept c.args.book.now) (by_command c.args.command ∷ []))
          (leaves_more c.args.book.now c.make_room.new.book (IsKeptOrNow c.args.book.now)
          (IsKeptWithin (table_of c.args.book.now) (last_kept c.args.book.now) (by_command c.args.command ∷ [])) c.make_room.ensures.crash
          (kept_or_now (table_of c.args.book.now) (last_kept c.args.book.now) (by_command c.args.command ∷ [])))
          u.same_keeper
          (by_refusal c.make_room.new.book c.command.new.self (c.in_err-reply.ensures.step.refused refl (λ same. other (cc)))))
    ]

pub returns-in_err-print_reply-clause-crash : goal.returns-in_err-print_reply-clause-crash
returns-in_err-print_reply-clause-crash g c =
    leaves_command c.args.book.now c.make_room.new.book c.command.new.self c.args.command c.in_ok-reply.reply c.make_room.ensures.crash c.in_ok-make_room.ensures.stays
    c.facts.ensures.history.replayed c.facts.ensures.history.within c.in_ok-reply.ensures.step.answered.page.0.adds c.command.ensures.crash.keeps c.command.ensures.crash.made c.command.ensures.crash.any_moment
    (by_answer 0 c.args.command c.in_ok-reply.reply c.make_room.new.book c.command.new.self c.in_ok-reply.ensures.step.answered)

pub returns-in_err-ended-clause-crash : goal.returns-in_err-ended-clause-crash
returns-in_err-ended-clause-crash g c =
    leaves_command c.args.book.now c.make_room.new.book c.command.new.self c.args.command c.in_ok-reply.reply c.make_room.ensures.crash c.in_ok-make_room.ensures.stays
    c.facts.ensures.history.replayed c.facts.ensures.history.within c.in_ok-reply.ensures.step.answered.page.0.adds c.command.ensures.crash.keeps c.command.ensures.crash.made c.command.ensures.crash.any_moment
    (by_answer 0 c.args.command c.in_ok-reply.reply c.make_room.new.book c.command.new.self c.in_ok-reply.ensures.step.answered)

pub returns-clause-crash : goal.returns-clause-crash
returns-clause-crash g c =
    leaves_command c.args.book.now c.make_room.new.book c.command.new.self c.args.command c.in_ok-reply.reply c.make_room.ensures.crash c.in_ok-make_room.ensures.stays
    c.facts.ensures.history.replayed c.facts.ensures.history.within c.in_ok-reply.ensures.step.answered.page.0.adds c.command.ensures.crash.keeps c.command.ensures.crash.made c.command.ensures.crash.any_moment
    (by_answer 0 c.args.command c.in_ok-reply.reply c.make_room.new.book c.command.new.self c.in_ok-reply.ensures.step.answered)

pub returns-clause-page : goal.returns-clause-page
returns-clause-page g c = λ room. command_goes c.args.command c.in_ok-reply.reply c.args.book.now c.make_room.new.book c.command.new.self
    (c.in_ok-make_room.ensures.stays.page room) c.command.ensures.start c.in_ok-reply.ensures.step.answered.page.0.adds.entry

pub returns-clause-turned : goal.returns-clause-turned
returns-clause-turned g c = λ full.
    begins_page (by_command c.args.command) (command_entry 0 c.args.command c.in_ok-reply.reply) c.args.book.now c.make_room.new.book c.command.new.self refl refl
    (c.in_ok-make_room.ensures.turned full) (c.in_ok-make_room.ensures.begins full) c.in_ok-make_room.ensures.stays.table c.command.ensures.start c.in_ok-reply.ensures.step.answered.page.0.adds.entry

pub returns-clause-fresh : goal.returns-clause-fresh
returns-clause-fresh g c = λ worn.
    let number : number_of c.make_room.new.book ≡ 2 ^ 64 - 1 = c.in_ok-make_room.ensures.worn worn in
    let whole : is_broken c.make_room.new.book ≡ false =
    not_true (is_broken c.make_room.new.book) (λ is. (let told = c.in_ok-reply.ensures.fault.broken.1 is in cc)) in
    let told = c.in_ok-reply.ensures.worn.1 (whole, c.in_ok-make_room.ensures.short, number) in cc

pub returns-clause-bounded : goal.returns-clause-bounded
returns-clause-bounded g c = one_more (weight_of (log_of c.make_room.new.book)) (weight (by_command c.args.command)) (weight_of (log_of c.command.new.self)) c.in_ok-make_room.ensures.spare
    (weigh_one (log_of c.make_room.new.book) (log_of c.command.new.self) (command_entry 0 c.args.command c.in_ok-reply.reply) c.in_ok-reply.ensures.step.answered.page.0.adds.entry)

pub returns-clause-kept : goal.returns-clause-kept
returns-clause-kept g c = c.in_ok-reply.ensures.step.answered.page.1

pub returns-clause-table : goal.returns-clause-table
returns-clause-table g c = after_event (table_of c.make_room.new.book) (table_of c.command.new.self) (by_command c.args.command) c.in_ok-reply.reply
    c.in_ok-reply.ensures.step.answered.page.0.adds.event ∙ ap (λ y. table_after y (by_command c.args.command)) c.in_ok-make_room.ensures.stays.table

pub returns-clause-replied : goal.returns-clause-replied
returns-clause-replied g c = record {
  reply = c.in_ok-reply.reply;
  text = c.in_ok-ended.ensures ∙ ap ended c.in_ok-print_reply.ensures;
  made = ends_then (answers 0 c.args.command c.in_ok-reply.reply) c.args.book.now c.make_room.new.book c.command.new.self c.make_room.ensures.crash.done (record {
    done = by_answer 0 c.args.command c.in_ok-reply.reply c.make_room.new.book c.command.new.self c.in_ok-reply.ensures.step.answered;
    earlier = [];
    last = answer_moves 0 c.args.command c.in_ok-reply.reply c.make_room.new.book c.command.new.self c.in_ok-reply.ensures.step.answered;
  });
}

pub returns-in_err-reply-clause-few_unkept : goal.returns-in_err-reply-clause-few_unkept
returns-in_err-reply-clause-few_unkept g c =
    let mid = c.make_room.new.book in
    let new = c.command.new.self in
    let fewer = c.make_room.ensures.fewer in
    elim (device_or_not c.in_err-reply.field-0.0) [
      | inl is ↦ (let failed = c.in_err-reply.ensures.step.failed (ap (λ e. Err e) is) in
          let one = one_unkept (log_of mid) (log_of new) (command_entry 0 c.args.command failed.0) (kept_of mid) (kept_of new) failed.1.page.0.adds.entry failed.1.page.1 in
          omega (arith, fewer, one))
      | inr other ↦ (let u : IsUnchanged mid new = c.in_err-reply.ensures.fault.refused refl (λ same. other (cc)) in
          let same = same_unkept (log_of mid) (log_of new) (kept_of mid) (kept_of new) u.same_log u.same_kept in
          omega (arith, fewer, same))
    ]

pub returns-in_err-print_reply-clause-few_unkept : goal.returns-in_err-print_reply-clause-few_unkept
returns-in_err-print_reply-clause-few_unkept g c =
    let none = none_unkept c.command.new.self c.in_ok-reply.ensures.step.answered.page.1 in
    omega (arith, none)

pub returns-in_err-ended-clause-few_unkept : goal.returns-in_err-ended-clause-few_unkept
returns-in_err-ended-clause-few_unkept g c =
    let none = none_unkept c.command.new.self c.in_ok-reply.ensures.step.answered.page.1 in
    omega (arith, none)

pub returns-clause-few_unkept : goal.returns-clause-few_unkept
returns-clause-few_unkept g c =
    let none = none_unkept c.command.new.self c.in_ok-reply.ensures.step.answered.page.1 in
    omega (arith, none)

pub returns-in_err-reply-clause-broken : goal.returns-in_err-reply-clause-broken
returns-in_err-reply-clause-broken g c = λ is.
    err_broken c.from_residual-in_err-reply.result c.in_err-reply.field-0.0 c.from_residual-in_err-reply.ensures.1
    (c.in_err-reply.ensures.fault.broken.1 (c.in_ok-make_room.ensures.still ∙ is))

pub returns-clause-unbroken : goal.returns-clause-unbroken
returns-clause-unbroken g c = not_true (is_broken c.args.book.now) (λ is. (let bad = c.in_ok-reply.ensures.fault.broken.1 (c.in_ok-make_room.ensures.still ∙ is) in cc))

pub returns-in_err-make_room-clause-few_calls : goal.returns-in_err-make_room-clause-few_calls
returns-in_err-make_room-clause-few_calls g c = λ room. same_few (g.D.Disk.clock (disk_of c.args.book.now)) (g.D.Disk.clock (disk_of c.make_room.new.book))
    (clock_same c.args.book.now c.make_room.new.book (c.make_room.ensures.room room).same_keeper)

pub returns-in_err-reply-clause-few_calls : goal.returns-in_err-reply-clause-few_calls
returns-in_err-reply-clause-few_calls g c = λ room. then_six (g.D.Disk.clock (disk_of c.args.book.now)) (g.D.Disk.clock (disk_of c.make_room.new.book)) (g.D.Disk.clock (disk_of c.command.new.self))
    (clock_same c.args.book.now c.make_room.new.book (c.make_room.ensures.room room).same_keeper) c.command.ensures.calls

pub returns-in_err-print_reply-clause-few_calls : goal.returns-in_err-print_reply-clause-few_calls
returns-in_err-print_reply-clause-few_calls g c = λ room. then_six (g.D.Disk.clock (disk_of c.args.book.now)) (g.D.Disk.clock (disk_of c.make_room.new.book)) (g.D.Disk.clock (disk_of c.command.new.self))
    (clock_same c.args.book.now c.make_room.new.book (c.make_room.ensures.room room).same_keeper) c.command.ensures.calls

pub returns-in_err-ended-clause-few_calls : goal.returns-in_err-ended-clause-few_calls
returns-in_err-ended-clause-few_calls g c = λ room. then_six (g.D.Disk.clock (disk_of c.args.book.now)) (g.D.Disk.clock (disk_of c.make_room.new.book)) (g.D.Disk.clock (disk_of c.command.new.self))
    (clock_same c.args.book.now c.make_room.new.book (c.make_room.ensures.room room).same_keeper) c.command.ensures.calls

pub returns-clause-few_calls : goal.returns-clause-few_calls
returns-clause-few_calls g c = λ room. then_six (g.D.Disk.clock (disk_of c.args.book.now)) (g.D.Disk.clock (disk_of c.make_room.new.book)) (g.D.Disk.clock (disk_of c.command.new.self))
    (clock_same c.args.book.now c.make_room.new.book (c.make_room.ensures.room room).same_keeper) c.command.ensures.calls
