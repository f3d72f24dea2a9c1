use Rattle.std.proofs.Common.{◌≡◌, refl, ap, ◌∙◌, [], ◌∷◌, arith}
use Rattle.ic_jobs.specs.declared.event.Event.TheVariants.{Command as by_command}
use Rattle.ic_book.specs.Book.{is_broken, table_of, start_of, log_of, kept_of, IsUnchanged}
use Rattle.ic_book.specs.Entries.{command_entry}
use Rattle.ic_book.specs.Weight.{weight, weight_of}
use Rattle.ic_book.specs.lemmas.Chains.{by_refusal}
use Rattle.ic_book.specs.lemmas.Weights.{weigh_one}
use Rattle.ic_lines.specs.Lines.{ended}
use Rattle.ic_serving.specs.Booked.{last_kept}
use Rattle.ic_serving.specs.Moments.{IsKeptOrNow}
use Rattle.ic_serving.specs.Parts.{IsKeptWithin}
use Rattle.ic_serving.specs.lemmas.Leaving.{leaves_more}
use Rattle.ic_serving.specs.lemmas.Unkept.{same_unkept}
use Rattle.ic_serving.proofs.LineLemmas.{begun_none}
use Rattle.ic_serving.proofs.PageLemmas.{begins_page, command_goes, one_more, one_room, same_then, within_none}
use Rattle.ic_serving.proofs.RefusalLemmas.{err_broken, not_true}
use Rattle.ic_serving.proofs.RunLemmas.{kept_same}
use Rattle.ic_serving.proofs.StopLemmas.{kept_or_now, leaves_command, leaves_still}
use Rattle.ic_serving.proofs.TakeLemmas.{is_taken, taken_begins, taken_by, taken_goes, taken_unkept}
use Rattle.ic_serving.proofs.taking.take_command.Goals as goal

pub returns-in_err-make_room-clause-begun : goal.returns-in_err-make_room-clause-begun
returns-in_err-make_room-clause-begun g c =
    let s = c.make_room.ensures.stays in
    let b = begun_none (table_of c.args.book.now) (last_kept c.args.book.now) (by_command c.args.command ∷ []) (table_of c.make_room.new.book) (last_kept c.make_room.new.book) s.table s.kept in
    record {
      table = b.0;
      kept = b.1;
      page = λ room. within_none (by_command c.args.command ∷ []) c.args.book.now c.make_room.new.book (s.page (one_room c.args.book.now c.args.command room));
    }

pub returns-in_err-reply-clause-begun : goal.returns-in_err-reply-clause-begun
returns-in_err-reply-clause-begun g c =
    let s = c.in_ok-make_room.ensures.stays in
    let u : IsUnchanged c.make_room.new.book c.take.new.self = c.in_err-reply.ensures.refused refl in
    let same : last_kept c.take.new.self ≡ last_kept c.make_room.new.book = kept_same (start_of c.make_room.new.book) (start_of c.take.new.self)
    (log_of c.make_room.new.book) (log_of c.take.new.self) (kept_of c.make_room.new.book) (kept_of c.take.new.self) u.same_start u.same_log u.same_kept in
    let b = begun_none (table_of c.args.book.now) (last_kept c.args.book.now) (by_command c.args.command ∷ []) (table_of c.take.new.self) (last_kept c.take.new.self)
    (u.same_table ∙ s.table) (rw same s.kept) in
    record {
      table = b.0;
      kept = b.1;
      page = λ room. within_none (by_command c.args.command ∷ []) c.args.book.now c.take.new.self
          (same_then c.args.book.now c.make_room.new.book c.take.new.self (s.page (one_room c.args.book.now c.args.command room)) u.same_start u.same_log);
    }

pub returns-in_err-print_reply-clause-begun : goal.returns-in_err-print_reply-clause-begun
returns-in_err-print_reply-clause-begun g c = taken_begins c.args.command c.in_ok-reply.reply c.args.book.now c.make_room.new.book c.take.new.self
    c.in_ok-make_room.ensures.stays c.facts.ensures.history.within c.facts-2.ensures.history.replayed c.in_ok-reply.ensures.step.taken

pub returns-in_err-ended-clause-begun : goal.returns-in_err-ended-clause-begun
returns-in_err-ended-clause-begun g c = taken_begins c.args.command c.in_ok-reply.reply c.args.book.now c.make_room.new.book c.take.new.self
    c.in_ok-make_room.ensures.stays c.facts.ensures.history.within c.facts-2.ensures.history.replayed c.in_ok-reply.ensures.step.taken

pub returns-clause-begun : goal.returns-clause-begun
returns-clause-begun g c = taken_begins c.args.command c.in_ok-reply.reply c.args.book.now c.make_room.new.book c.take.new.self
    c.in_ok-make_room.ensures.stays c.facts.ensures.history.within c.facts-2.ensures.history.replayed c.in_ok-reply.ensures.step.taken

pub returns-in_err-make_room-clause-crash : goal.returns-in_err-make_room-clause-crash
returns-in_err-make_room-clause-crash g c = leaves_more c.args.book.now c.make_room.new.book (IsKeptOrNow c.args.book.now)
    (IsKeptWithin (table_of c.args.book.now) (last_kept c.args.book.now) (by_command c.args.command ∷ [])) c.make_room.ensures.crash
    (kept_or_now (table_of c.args.book.now) (last_kept c.args.book.now) (by_command c.args.command ∷ []))

pub returns-in_err-reply-clause-crash : goal.returns-in_err-reply-clause-crash
returns-in_err-reply-clause-crash g c =
    leaves_still c.args.book.now c.make_room.new.book c.take.new.self (IsKeptWithin (table_of c.args.book.now) (last_kept c.args.book.now) (by_command c.args.command ∷ []))
    (leaves_more c.args.book.now c.make_room.new.book (IsKeptOrNow c.args.book.now)
    (IsKeptWithin (table_of c.args.book.now) (last_kept c.args.book.now) (by_command c.args.command ∷ [])) c.make_room.ensures.crash
    (kept_or_now (table_of c.args.book.now) (last_kept c.args.book.now) (by_command c.args.command ∷ [])))
    (c.in_err-reply.ensures.refused refl).same_keeper
    (by_refusal c.make_room.new.book c.take.new.self (c.in_err-reply.ensures.step.refused refl))

pub returns-in_err-print_reply-clause-crash : goal.returns-in_err-print_reply-clause-crash
returns-in_err-print_reply-clause-crash g c =
    leaves_command c.args.book.now c.make_room.new.book c.take.new.self c.args.command c.in_ok-reply.reply c.make_room.ensures.crash c.in_ok-make_room.ensures.stays
    c.facts.ensures.history.replayed c.facts.ensures.history.within (taken_goes c.args.command c.in_ok-reply.reply c.make_room.new.book c.take.new.self c.in_ok-reply.ensures.step.taken).adds
    c.take.ensures.crash.keeps c.take.ensures.crash.made c.take.ensures.crash.any_moment
    (taken_by c.args.command c.in_ok-reply.reply c.make_room.new.book c.take.new.self c.in_ok-reply.ensures.step.taken)

pub returns-in_err-ended-clause-crash : goal.returns-in_err-ended-clause-crash
returns-in_err-ended-clause-crash g c =
    leaves_command c.args.book.now c.make_room.new.book c.take.new.self c.args.command c.in_ok-reply.reply c.make_room.ensures.crash c.in_ok-make_room.ensures.stays
    c.facts.ensures.history.replayed c.facts.ensures.history.within (taken_goes c.args.command c.in_ok-reply.reply c.make_room.new.book c.take.new.self c.in_ok-reply.ensures.step.taken).adds
    c.take.ensures.crash.keeps c.take.ensures.crash.made c.take.ensures.crash.any_moment
    (taken_by c.args.command c.in_ok-reply.reply c.make_room.new.book c.take.new.self c.in_ok-reply.ensures.step.taken)

pub returns-clause-crash : goal.returns-clause-crash
returns-clause-crash g c =
    leaves_command c.args.book.now c.make_room.new.book c.take.new.self c.args.command c.in_ok-reply.reply c.make_room.ensures.crash c.in_ok-make_room.ensures.stays
    c.facts.ensures.history.replayed c.facts.ensures.history.within (taken_goes c.args.command c.in_ok-reply.reply c.make_room.new.book c.take.new.self c.in_ok-reply.ensures.step.taken).adds
    c.take.ensures.crash.keeps c.take.ensures.crash.made c.take.ensures.crash.any_moment
    (taken_by c.args.command c.in_ok-reply.reply c.make_room.new.book c.take.new.self c.in_ok-reply.ensures.step.taken)

pub returns-clause-page : goal.returns-clause-page
returns-clause-page g c = λ room.
    let goes = taken_goes c.args.command c.in_ok-reply.reply c.make_room.new.book c.take.new.self c.in_ok-reply.ensures.step.taken in
    command_goes c.args.command c.in_ok-reply.reply c.args.book.now c.make_room.new.book c.take.new.self
    (c.in_ok-make_room.ensures.stays.page room) goes.start goes.adds.entry

pub returns-clause-turned : goal.returns-clause-turned
returns-clause-turned g c = λ full.
    let goes = taken_goes c.args.command c.in_ok-reply.reply c.make_room.new.book c.take.new.self c.in_ok-reply.ensures.step.taken in
    begins_page (by_command c.args.command) (command_entry 0 c.args.command c.in_ok-reply.reply) c.args.book.now c.make_room.new.book c.take.new.self refl refl
    (c.in_ok-make_room.ensures.turned full) (c.in_ok-make_room.ensures.begins full) c.in_ok-make_room.ensures.stays.table goes.start goes.adds.entry

pub returns-clause-taken : goal.returns-clause-taken
returns-clause-taken g c = is_taken c.args.command c.in_ok-reply.reply c.args.book.now c.make_room.new.book c.take.new.self _ c.make_room.ensures.crash.done
    c.in_ok-make_room.ensures.stays.table (c.in_ok-ended.ensures ∙ ap ended c.in_ok-print_reply.ensures) c.in_ok-reply.ensures.step.taken

pub returns-in_err-reply-clause-few_unkept : goal.returns-in_err-reply-clause-few_unkept
returns-in_err-reply-clause-few_unkept g c =
    let mid = c.make_room.new.book in
    let new = c.take.new.self in
    let fewer = c.make_room.ensures.fewer in
    let u : IsUnchanged mid new = c.in_err-reply.ensures.refused refl in
    let same = same_unkept (log_of mid) (log_of new) (kept_of mid) (kept_of new) u.same_log u.same_kept in
    omega (arith, fewer, same)

pub returns-in_err-print_reply-clause-few_unkept : goal.returns-in_err-print_reply-clause-few_unkept
returns-in_err-print_reply-clause-few_unkept g c =
    let fewer = c.make_room.ensures.fewer in
    let one = taken_unkept c.args.command c.in_ok-reply.reply c.make_room.new.book c.take.new.self c.in_ok-reply.ensures.step.taken in
    omega (arith, fewer, one)

pub returns-in_err-ended-clause-few_unkept : goal.returns-in_err-ended-clause-few_unkept
returns-in_err-ended-clause-few_unkept g c =
    let fewer = c.make_room.ensures.fewer in
    let one = taken_unkept c.args.command c.in_ok-reply.reply c.make_room.new.book c.take.new.self c.in_ok-reply.ensures.step.taken in
    omega (arith, fewer, one)

pub returns-clause-few_unkept : goal.returns-clause-few_unkept
returns-clause-few_unkept g c =
    let fewer = c.make_room.ensures.fewer in
    let one = taken_unkept c.args.command c.in_ok-reply.reply c.make_room.new.book c.take.new.self c.in_ok-reply.ensures.step.taken in
    omega (arith, fewer, one)

pub returns-in_err-reply-clause-broken : goal.returns-in_err-reply-clause-broken
returns-in_err-reply-clause-broken g c = λ is.
    err_broken c.from_residual-in_err-reply.result c.in_err-reply.field-0.0 c.from_residual-in_err-reply.ensures.1
    (c.in_err-reply.ensures.broken.1 (c.in_ok-make_room.ensures.still ∙ is))

pub returns-clause-unbroken : goal.returns-clause-unbroken
returns-clause-unbroken g c = not_true (is_broken c.args.book.now) (λ is. (let bad = c.in_ok-reply.ensures.broken.1 (c.in_ok-make_room.ensures.still ∙ is) in cc))

pub returns-clause-fresh : goal.returns-clause-fresh
returns-clause-fresh g c = λ worn. c.in_ok-reply.ensures.fresh (c.in_ok-make_room.ensures.worn worn)

pub returns-clause-bounded : goal.returns-clause-bounded
returns-clause-bounded g c =
    let goes = taken_goes c.args.command c.in_ok-reply.reply c.make_room.new.book c.take.new.self c.in_ok-reply.ensures.step.taken in
    one_more (weight_of (log_of c.make_room.new.book)) (weight (by_command c.args.command)) (weight_of (log_of c.take.new.self)) c.in_ok-make_room.ensures.spare
    (weigh_one (log_of c.make_room.new.book) (log_of c.take.new.self) (command_entry 0 c.args.command c.in_ok-reply.reply) goes.adds.entry)
