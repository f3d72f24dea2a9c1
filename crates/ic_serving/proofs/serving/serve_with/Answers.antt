use Rattle.std.proofs.Common.{◌≡◌, ◌≤◌, ◌∙◌, ◌⊎◌, inl, inr, Ok, Err, ℕ, List, [], ◌∷◌, ◌++◌, Option, length, true, false, ◌-◌, length-append, arith, refl, ap}
use Rattle.std.specs.List.{AllByRecursion}
use Rattle.std.specs.Io.KnownBytes.{Appends, Keeps}
use Rattle.ic_text.specs.declared.limits.TheConstants.{MAX_TEXT}
use Rattle.ic_commands.specs.LineText.{ReadsLine}
use Rattle.ic_lines.specs.Taking.{to_come, TakesLine}
use Rattle.ic_book.specs.Book.{table_of, start_of, log_of, kept_of}
use Rattle.ic_book.specs.lemmas.Chains.{by_nothing}
use Rattle.ic_serving.specs.Booked.{last_kept, IsAllKept}
use Rattle.ic_serving.specs.Faults.{ComesAlone, ComesBroken}
use Rattle.ic_serving.specs.declared.limits.TheConstants.{MAX_LINES}
use Rattle.ic_serving.specs.inner.Group.{IsNextAnswered, IsNextBegun, TakesLines}
use Rattle.ic_serving.specs.lemmas.Reaching.{kept_all}
use Rattle.ic_serving.proofs.ReadingLemmas.{fault_unbegun, keeps_then, says_unbegun}
use Rattle.ic_serving.proofs.RefusalLemmas.{err_comes, of_either}
use Rattle.ic_serving.proofs.ServeLemmas.{ahead, cut_after, ended_at, first_more, few_after_all, is_ahead, kept_within, left_within, not_taken, not_write, read_out, says_begun, taken, taken_one, takes_more, under_first, under_more, untaken_alone, untaken_broken}
use Rattle.ic_serving.proofs.StopLemmas.{fault_after, fault_untaken, fault_unwritten, groups_first, groups_more, serving_err, serving_over, serving_untaken, same_front, same_lines, still_all, still_last, stops_first, stops_more}
use Rattle.ic_serving.proofs.serving.serve_with.Goals as goal

pub loop-init : goal.loop-init
loop-init g c = record {
  way = under_first (g.R.Read.remaining c.args.reader.now) c.args.lines.now (table_of c.args.book.now) (g.W.Write.contents c.args.writer.now) c.requires.empty;
  steps = omega arith;
  kept = λ all. all;
  counted = refl;
  ready = λ is. is;
  broken = λ is. is;
  last = inr refl;
  turns = groups_first c.args.group c.args.book.now;
  moments = stops_first c.one_line_reading.ensures.total c.args.book.now (g.met.D.Disk.left_is_image _) c.facts.ensures.either c.facts.ensures.history.replayed
      (by_nothing c.args.book.now c.facts.ensures.step)
      (kept_all (start_of c.args.book.now) (table_of c.args.book.now) (log_of c.args.book.now) (kept_of c.args.book.now) c.facts.ensures.history.replayed);
}

pub returns-in_err-take_one-clause-serving : goal.returns-in_err-take_one-clause-serving
returns-in_err-take_one-clause-serving g c =
    let rest = to_come c.loop.lines (g.R.Read.remaining c.loop.reader) in
    let last = kept_all (start_of c.loop.book) (table_of c.loop.book) (log_of c.loop.book) (kept_of c.loop.book) c.facts-in-loop.ensures.history.replayed in
    let none = not_taken c.in_err-take_one.field-0.0 c.loop.left (table_of c.loop.book) rest c.loop.invariant.way.front c.loop.invariant.way.counted c.in_err-take_one.ensures.untaken in
    serving_untaken c.from_residual.result c.in_err-take_one.field-0.0 c.from_residual.ensures.1 c.one_line_reading.ensures.total c.args.group
    (g.R.Read.remaining c.args.reader.now) rest c.loop.counter c.loop.left
    c.args.book.now c.loop.book (g.W.Write.contents c.args.writer.now) (g.W.Write.contents c.loop.writer) (g.W.Write.contents c.take_one.new.writer) none.more c.requires.group
    c.loop.invariant c.take_one.ensures.kept none.coming none.says last (by_nothing c.loop.book c.facts-in-loop.ensures.step)

pub returns-in_err-take_one-clause-fault : goal.returns-in_err-take_one-clause-fault
returns-in_err-take_one-clause-fault g c = fault_untaken c.from_residual.result c.in_err-take_one.field-0.0 c.loop.left (to_come c.loop.lines (g.R.Read.remaining c.loop.reader))
    c.from_residual.ensures.1 c.in_err-take_one.ensures.untaken c.args.book.now c.loop.book c.loop.invariant.counted c.loop.invariant.ready

pub returns-then-not-branch-clause-serving : goal.returns-then-not-branch-clause-serving
returns-then-not-branch-clause-serving g c = serving_over tt c.one_line_reading.ensures.total c.args.group
    (g.R.Read.remaining c.args.reader.now) (to_come c.loop.lines (g.R.Read.remaining c.loop.reader)) c.loop.counter c.loop.left
    c.args.book.now c.loop.book (g.W.Write.contents c.args.writer.now) (g.W.Write.contents c.loop.writer) (g.W.Write.contents c.take_one.new.writer)
    c.loop.invariant (c.in_ok-take_one.ensures.end (ap (λ b. Ok b) c.if-not-branch.true)) c.take_one.ensures.kept (by_nothing c.loop.book c.facts-in-loop.ensures.step)

pub returns-then-not-branch-clause-over : goal.returns-then-not-branch-clause-over
returns-then-not-branch-clause-over g c =
    let none = ap (λ b. Ok b) c.if-not-branch.true in
    read_out (g.R.Read.remaining c.args.reader.now) (to_come c.loop.lines (g.R.Read.remaining c.loop.reader)) c.loop.invariant.way.front
    c.take_one.new.lines (g.R.Read.remaining c.take_one.new.reader) c.loop.invariant.way.first (c.in_ok-take_one.ensures.end none) (c.in_ok-take_one.ensures.stays none)

pub returns-in_err-reading-clause-serving : goal.returns-in_err-reading-clause-serving
returns-in_err-reading-clause-serving g c =
    let rest = to_come c.loop.lines (g.R.Read.remaining c.loop.reader) in
    let next = to_come c.take_one.new.lines (g.R.Read.remaining c.take_one.new.reader) in
    let takes : TakesLine c.take_one.new.lines.line rest next = c.in_ok-take_one.ensures.taken (ap (λ b. Ok b) c.if-not-branch.false) in
    let last = kept_all (start_of c.loop.book) (table_of c.loop.book) (log_of c.loop.book) (kept_of c.loop.book) c.facts-in-loop.ensures.history.replayed in
    let more = (c.take_one.new.lines.line ∷ []) ++ ahead next in
    let flushed : Keeps (g.W.Write.contents c.loop.writer) (g.W.Write.contents c.begin_line.new.writer) =
    keeps_then (g.W.Write.contents c.loop.writer) (g.W.Write.contents c.take_one.new.writer) (g.W.Write.contents c.begin_line.new.writer) c.take_one.ensures.kept c.begin_line.ensures.kept in
    serving_untaken c.from_residual-in_err-reading.result c.in_err-reading.field-0.0 c.from_residual-in_err-reading.ensures.1 c.one_line_reading.ensures.total c.args.group
    (g.R.Read.remaining c.args.reader.now) rest c.loop.counter c.loop.left
    c.args.book.now c.loop.book (g.W.Write.contents c.args.writer.now) (g.W.Write.contents c.loop.writer) (g.W.Write.contents c.begin_line.new.writer) more c.requires.group
    c.loop.invariant flushed (taken_one c.take_one.new.lines.line rest next takes) (says_unbegun c.in_err-reading.field-0.0 (table_of c.loop.book) (table_of c.loop.book) c.loop.invariant.way.front more c.in_err-reading.ensures.fault)
    last (by_nothing c.loop.book c.facts-in-loop.ensures.step)

pub returns-in_err-reading-clause-fault : goal.returns-in_err-reading-clause-fault
returns-in_err-reading-clause-fault g c = fault_unbegun c.from_residual-in_err-reading.result c.in_err-reading.field-0.0 c.from_residual-in_err-reading.ensures.1 c.in_err-reading.ensures.fault
    c.args.book.now c.loop.book c.loop.invariant.counted c.loop.invariant.ready

pub returns-in_err-answered-clause-serving : goal.returns-in_err-answered-clause-serving
returns-in_err-answered-clause-serving g c =
    let rest = to_come c.loop.lines (g.R.Read.remaining c.loop.reader) in
    let one = to_come c.take_one.new.lines (g.R.Read.remaining c.take_one.new.reader) in
    let next = to_come c.answer_next.new.lines (g.R.Read.remaining c.take_one.new.reader) in
    let done = ap (λ b. Ok b) c.if-not-branch.false in
    let b : IsNextBegun c.min-most.result c.take_one.new.lines c.answer_next.new.lines c.in_err-answered.field-0.0 c.loop.book c.answer_next.new.book = c.in_err-answered.ensures.begun in
    let ls = c.take_one.new.lines.line ∷ b.more in
    let flushed : Keeps (g.W.Write.contents c.loop.writer) (g.W.Write.contents c.begin_line.new.writer) =
    keeps_then (g.W.Write.contents c.loop.writer) (g.W.Write.contents c.take_one.new.writer) (g.W.Write.contents c.begin_line.new.writer) c.take_one.ensures.kept c.begin_line.ensures.kept in
    let takes : TakesLines ls rest next = takes_more c.take_one.new.lines.line b.more rest one next (c.in_ok-take_one.ensures.taken done) (b.took.passed (g.R.Read.remaining c.take_one.new.reader)) in
    let last = kept_all (start_of c.loop.book) (table_of c.loop.book) (log_of c.loop.book) (kept_of c.loop.book) c.facts-in-loop.ensures.history.replayed in
    let some = c.in_ok-take_one.ensures.some done in
    let most : c.min-most.result ≤ c.args.group = omega arith in
    let stops = stops_more c.lines_are_served_in_one_way.ensures.joined c.one_line_reading.ensures.total c.args.group c.min-most.result
    (g.R.Read.remaining c.args.reader.now) rest c.loop.counter c.loop.left c.args.book.now c.loop.book c.answer_next.new.book
    (g.W.Write.contents c.args.writer.now) (g.W.Write.contents c.loop.writer) ls (ahead next) c.loop.invariant (omega (arith, some)) (omega arith)
    (c.in_ok-take_one.ensures.short done, b.took.short) last b.crash in
    let sort = c.in_err-answered.ensures.fault.causes in
    let fault = c.in_err-answered.field-0.0 in
    serving_err c.from_residual-in_err-answered.result fault c.from_residual-in_err-answered.ensures.1 c.args.group (g.R.Read.remaining c.args.reader.now) rest
    c.loop.invariant.way.front (ls ++ ahead next) c.args.book.now c.loop.book c.answer_next.new.book (g.W.Write.contents c.args.writer.now) (g.W.Write.contents c.begin_line.new.writer)
    c.loop.invariant.way.first (taken ls rest next takes)
    (λ other. ended_at fault c.args.group (IsAllKept c.args.book.now) c.loop.invariant.way.front (ls ++ ahead next)
    (table_of c.args.book.now) (table_of c.loop.book) (table_of c.answer_next.new.book) (last_kept c.answer_next.new.book)
    (g.W.Write.contents c.args.writer.now) (g.W.Write.contents c.loop.writer) (g.W.Write.contents c.begin_line.new.writer)
    c.loop.invariant.way.answered flushed (says_begun fault (table_of c.loop.book) (table_of c.answer_next.new.book) c.loop.invariant.way.front c.take_one.new.lines.line (b.more ++ ahead next) sort b.comes)
    (left_within fault c.args.group (table_of c.loop.book) (table_of c.answer_next.new.book) (ls ++ ahead next) sort
    (few_after_all c.one_line_reading.ensures.total c.min-most.result c.args.group (table_of c.loop.book) (table_of c.answer_next.new.book) ls (ahead next) most b.within))
    (λ all. left_within fault c.args.group (table_of c.loop.book) (last_kept c.answer_next.new.book) (ls ++ ahead next) sort
    (kept_within c.one_line_reading.ensures.total c.min-most.result c.args.group (table_of c.loop.book) (last_kept c.loop.book) (last_kept c.answer_next.new.book) ls (ahead next)
    most c.requires.group (last (c.loop.invariant.kept all)) b.kept)))
    (λ write. absurd (not_write fault sort write))
    (λ write. absurd (not_write fault sort write))
    stops c.loop.invariant.turns b.crash.done

pub returns-in_err-answered-clause-fault : goal.returns-in_err-answered-clause-fault
returns-in_err-answered-clause-fault g c = fault_after c.from_residual-in_err-answered.result c.in_err-answered.field-0.0 c.from_residual-in_err-answered.ensures.1
    c.args.book.now c.loop.book c.answer_next.new.book c.loop.invariant.counted c.loop.invariant.ready c.in_err-answered.ensures.fault

pub returns-in_err-write_answer-clause-serving : goal.returns-in_err-write_answer-clause-serving
returns-in_err-write_answer-clause-serving g c =
    let rest = to_come c.loop.lines (g.R.Read.remaining c.loop.reader) in
    let one = to_come c.take_one.new.lines (g.R.Read.remaining c.take_one.new.reader) in
    let next = to_come c.answer_next.new.lines (g.R.Read.remaining c.take_one.new.reader) in
    let done = ap (λ b. Ok b) c.if-not-branch.false in
    let a : IsNextAnswered c.args.limit c.min-most.result c.take_one.new.lines c.answer_next.new.lines c.in_ok-answered.answered.answers.items c.in_ok-answered.answered.count c.loop.book c.answer_next.new.book =
    c.in_ok-answered.ensures.answered in
    let ls = c.take_one.new.lines.line ∷ a.more in
    let counted = a.counted in
    let few = a.few in
    let flushed : Keeps (g.W.Write.contents c.loop.writer) (g.W.Write.contents c.begin_line.new.writer) =
    keeps_then (g.W.Write.contents c.loop.writer) (g.W.Write.contents c.take_one.new.writer) (g.W.Write.contents c.begin_line.new.writer) c.take_one.ensures.kept c.begin_line.ensures.kept in
    let takes : TakesLines ls rest next = takes_more c.take_one.new.lines.line a.more rest one next (c.in_ok-take_one.ensures.taken done) (a.took.passed (g.R.Read.remaining c.take_one.new.reader)) in
    let last = kept_all (start_of c.loop.book) (table_of c.loop.book) (log_of c.loop.book) (kept_of c.loop.book) c.facts-in-loop.ensures.history.replayed in
    let some = c.in_ok-take_one.ensures.some done in
    let short : AllByRecursion (λ line. length line ≤ MAX_TEXT) ls = (c.in_ok-take_one.ensures.short done, a.took.short) in
    let stops = stops_more c.lines_are_served_in_one_way.ensures.joined c.one_line_reading.ensures.total c.args.group c.min-most.result
    (g.R.Read.remaining c.args.reader.now) rest c.loop.counter c.loop.left c.args.book.now c.loop.book c.answer_next.new.book
    (g.W.Write.contents c.args.writer.now) (g.W.Write.contents c.loop.writer) ls (ahead next) c.loop.invariant (omega (arith, some)) (omega arith) short last a.crash in
    let long : length ls ≤ c.min-most.result = omega (arith, counted, few) in
    serving_err c.from_residual-in_err-write_answer.result c.in_err-write_answer.field-0.0 c.from_residual-in_err-write_answer.ensures.1 c.args.group (g.R.Read.remaining c.args.reader.now) next
    (c.loop.invariant.way.front ++ ls) (ahead next) c.args.book.now c.answer_next.new.book c.answer_next.new.book
    (g.W.Write.contents c.args.writer.now) (g.W.Write.contents c.write_answer.new.writer)
    (first_more (g.R.Read.remaining c.args.reader.now) rest next c.loop.invariant.way.front ls c.loop.invariant.way.first takes) (is_ahead next)
    (λ other. absurd (other c.in_err-write_answer.ensures.fault))
    (λ write. cut_after c.args.group c.loop.invariant.way.front c.loop.left (table_of c.args.book.now) (table_of c.loop.book) (table_of c.answer_next.new.book)
    (g.W.Write.contents c.args.writer.now) (g.W.Write.contents c.loop.writer) (g.W.Write.contents c.begin_line.new.writer) (g.W.Write.contents c.write_answer.new.writer)
    ls c.in_ok-answered.answered.answers.items
    c.loop.invariant.way.answered c.loop.invariant.way.counted (omega (arith, long)) (omega (arith, long)) short a.served flushed
    (rw c.deref.ensures.value at c.in_err-write_answer.ensures.cut))
    (λ write all. still_all c.loop.book c.answer_next.new.book a.kept (c.loop.invariant.kept all))
    (same_lines c.loop.invariant.way.front ls (ahead next) c.args.book.now c.answer_next.new.book stops)
    (groups_more c.args.group c.loop.invariant.way.front ls c.in_ok-answered.answered.answers.items c.args.book.now c.loop.book c.answer_next.new.book c.loop.invariant.turns (omega (arith, long)) a.answered)
    (by_nothing c.answer_next.new.book c.facts-in-loop-2.ensures.step)

pub returns-in_err-write_answer-clause-fault : goal.returns-in_err-write_answer-clause-fault
returns-in_err-write_answer-clause-fault g c = fault_unwritten c.from_residual-in_err-write_answer.result c.in_err-write_answer.field-0.0 c.from_residual-in_err-write_answer.ensures.1
    c.in_err-write_answer.ensures.fault c.args.book.now c.answer_next.new.book (c.in_ok-answered.ensures.fault.counted ∙ c.loop.invariant.counted)
    (λ is. c.in_ok-answered.ensures.fault.ready (c.loop.invariant.ready is))

pub loop-preserved : goal.loop-preserved
loop-preserved g c =
    let rest = to_come c.loop.lines (g.R.Read.remaining c.loop.reader) in
    let one = to_come c.take_one.new.lines (g.R.Read.remaining c.take_one.new.reader) in
    let next = to_come c.answer_next.new.lines (g.R.Read.remaining c.take_one.new.reader) in
    let done = ap (λ b. Ok b) c.if-not-branch.false in
    let a : IsNextAnswered c.args.limit c.min-most.result c.take_one.new.lines c.answer_next.new.lines c.in_ok-answered.answered.answers.items c.in_ok-answered.answered.count c.loop.book c.answer_next.new.book =
    c.in_ok-answered.ensures.answered in
    let ls = c.take_one.new.lines.line ∷ a.more in
    let counted = a.counted in
    let few = a.few in
    let flushed : Keeps (g.W.Write.contents c.loop.writer) (g.W.Write.contents c.begin_line.new.writer) =
    keeps_then (g.W.Write.contents c.loop.writer) (g.W.Write.contents c.take_one.new.writer) (g.W.Write.contents c.begin_line.new.writer) c.take_one.ensures.kept c.begin_line.ensures.kept in
    let takes : TakesLines ls rest next = takes_more c.take_one.new.lines.line a.more rest one next (c.in_ok-take_one.ensures.taken done) (a.took.passed (g.R.Read.remaining c.take_one.new.reader)) in
    let last = kept_all (start_of c.loop.book) (table_of c.loop.book) (log_of c.loop.book) (kept_of c.loop.book) c.facts-in-loop.ensures.history.replayed in
    let some = c.in_ok-take_one.ensures.some done in
    let short : AllByRecursion (λ line. length line ≤ MAX_TEXT) ls = (c.in_ok-take_one.ensures.short done, a.took.short) in
    let stops = stops_more c.lines_are_served_in_one_way.ensures.joined c.one_line_reading.ensures.total c.args.group c.min-most.result
    (g.R.Read.remaining c.args.reader.now) rest c.loop.counter c.loop.left c.args.book.now c.loop.book c.answer_next.new.book
    (g.W.Write.contents c.args.writer.now) (g.W.Write.contents c.loop.writer) ls [] c.loop.invariant (omega (arith, some)) (omega arith) short last a.crash in
    let written : Appends (g.W.Write.contents c.begin_line.new.writer) (g.W.Write.contents c.write_answer.new.writer) c.in_ok-answered.answered.answers.items =
    rw c.deref.ensures.value at c.in_ok-write_answer.ensures.written in
    let steps = c.loop.invariant.steps in
    let long : length ls ≤ c.min-most.result = omega (arith, counted, few) in
    record {
      way = under_more c.lines_are_served_in_one_way.ensures.joined (g.R.Read.remaining c.args.reader.now) rest next c.loop.left (c.loop.left - c.in_ok-answered.answered.count)
          (table_of c.args.book.now) (table_of c.loop.book) (table_of c.answer_next.new.book)
          (g.W.Write.contents c.args.writer.now) (g.W.Write.contents c.loop.writer) (g.W.Write.contents c.begin_line.new.writer) (g.W.Write.contents c.write_answer.new.writer)
          ls c.in_ok-answered.answered.answers.items c.loop.invariant.way takes short (omega (arith, counted, few)) a.served flushed written;
      steps = omega (arith, steps, length-append c.loop.invariant.way.front ls);
      kept = λ all. still_all c.loop.book c.answer_next.new.book a.kept (c.loop.invariant.kept all);
      counted = c.in_ok-answered.ensures.fault.counted ∙ c.loop.invariant.counted;
      ready = λ is. c.in_ok-answered.ensures.fault.ready (c.loop.invariant.ready is);
      broken = λ is. c.in_ok-answered.ensures.still (c.loop.invariant.broken is);
      last = still_last c.args.book.now c.loop.book c.answer_next.new.book a.kept c.loop.invariant.last;
      turns = groups_more c.args.group c.loop.invariant.way.front ls c.in_ok-answered.answered.answers.items c.args.book.now c.loop.book c.answer_next.new.book c.loop.invariant.turns
          (omega (arith, long)) a.answered;
      moments = same_front c.loop.invariant.way.front ls c.args.book.now c.answer_next.new.book stops;
    }

pub returns-in_err-take_one-clause-broken : goal.returns-in_err-take_one-clause-broken
returns-in_err-take_one-clause-broken g c = λ is. err_comes c.from_residual.result c.in_err-take_one.field-0.0 ComesBroken c.from_residual.ensures.1
    (untaken_broken c.loop.left c.in_err-take_one.field-0.0 (to_come c.loop.lines (g.R.Read.remaining c.loop.reader)) c.in_err-take_one.ensures.untaken)

pub returns-in_err-take_one-clause-alone : goal.returns-in_err-take_one-clause-alone
returns-in_err-take_one-clause-alone g c = err_comes c.from_residual.result c.in_err-take_one.field-0.0 ComesAlone c.from_residual.ensures.1
    (untaken_alone c.loop.left c.in_err-take_one.field-0.0 (to_come c.loop.lines (g.R.Read.remaining c.loop.reader)) c.in_err-take_one.ensures.untaken)

pub returns-in_err-reading-clause-broken : goal.returns-in_err-reading-clause-broken
returns-in_err-reading-clause-broken g c = λ is. err_comes c.from_residual-in_err-reading.result c.in_err-reading.field-0.0 ComesBroken c.from_residual-in_err-reading.ensures.1
    (of_either c.in_err-reading.field-0.0 c.in_err-reading.ensures.fault)

pub returns-in_err-answered-clause-broken : goal.returns-in_err-answered-clause-broken
returns-in_err-answered-clause-broken g c = λ is. err_comes c.from_residual-in_err-answered.result c.in_err-answered.field-0.0 ComesBroken c.from_residual-in_err-answered.ensures.1
    (c.in_err-answered.ensures.broken (c.loop.invariant.broken is))

pub returns-in_err-write_answer-clause-broken : goal.returns-in_err-write_answer-clause-broken
returns-in_err-write_answer-clause-broken g c = λ is. err_comes c.from_residual-in_err-write_answer.result c.in_err-write_answer.field-0.0 ComesBroken
    c.from_residual-in_err-write_answer.ensures.1 (of_either c.in_err-write_answer.field-0.0 (inr c.in_err-write_answer.ensures.fault))

pub returns-then-not-branch-clause-still : goal.returns-then-not-branch-clause-still
returns-then-not-branch-clause-still g c = c.loop.invariant.broken

pub returns-in_err-answered-clause-few_unkept : goal.returns-in_err-answered-clause-few_unkept
returns-in_err-answered-clause-few_unkept g c = λ all. (let few = c.answer_next.ensures.few_unkept (c.loop.invariant.kept all) in omega (arith, few))

-- the loop never comes to its end
pub returns-clause-serving : goal.returns-clause-serving
returns-clause-serving g c = (let steps = c.loop.invariant.steps in let counted = c.loop.invariant.way.counted in absurd (omega (arith, steps, counted)))

pub returns-clause-fault : goal.returns-clause-fault
returns-clause-fault g c = (let steps = c.loop.invariant.steps in let counted = c.loop.invariant.way.counted in absurd (omega (arith, steps, counted)))

pub returns-clause-few_unkept : goal.returns-clause-few_unkept
returns-clause-few_unkept g c = (let steps = c.loop.invariant.steps in let counted = c.loop.invariant.way.counted in absurd (omega (arith, steps, counted)))
