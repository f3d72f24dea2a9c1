use Rattle.std.proofs.Common.{◌+◌, ◌*◌, ◌/◌, length, refl, inl, inr}
use Rattle.ic_book.specs.Book.{table_of, disk_of}
use Rattle.ic_lines.specs.Answers.{events}
use Rattle.ic_book.specs.lemmas.Chains.{by_nothing}
use Rattle.ic_serving.specs.Booked.{last_kept}
use Rattle.ic_serving.specs.Moments.{IsKeptInLine}
use Rattle.ic_serving.specs.lemmas.Reaching.{in_line}
use Rattle.ic_serving.specs.lemmas.Leaving.{leaves_nothing}
use Rattle.ic_serving.proofs.ReadingLemmas.{if_answered, if_begun, leaves_in_line, no_line_begun}
use Rattle.ic_serving.specs.Faults.{ComesBroken}
use Rattle.ic_serving.proofs.CallLemmas.{at_least}
use Rattle.ic_serving.proofs.RefusalLemmas.{err_comes, of_memory}
use Rattle.ic_serving.proofs.answering.answer_line.Goals as goal

pub returns-in_err-reading-clause-begun : goal.returns-in_err-reading-clause-begun
returns-in_err-reading-clause-begun g c = no_line_begun c.one_line_reading.ensures.total c.args.limit c.args.book.now c.args.line.now c.from_residual.result c.in_err-reading.field-0.0
    c.from_residual.ensures.1 c.in_err-reading.ensures.memory

pub returns-in_err-reading-clause-crash : goal.returns-in_err-reading-clause-crash
returns-in_err-reading-clause-crash g c = leaves_nothing c.args.book.now (IsKeptInLine (table_of c.args.book.now) (last_kept c.args.book.now) c.args.line.now)
    (g.met.D.Disk.left_is_image _) c.facts.ensures.either c.facts.ensures.history.replayed (by_nothing c.args.book.now c.facts.ensures.step) (inl refl)
    (inr (in_line c.one_line_reading.ensures.total (table_of c.args.book.now) c.args.line.now))

pub returns-clause-answered : goal.returns-clause-answered
returns-clause-answered g c = if_answered c.args.limit c.args.line.now c.in_ok-reading.reading c.args.book.now c.answer_read-answered.new.book c.answer_read-answered.result (λ v. v.items)
    c.in_ok-reading.ensures.read c.answer_read-answered.ensures.answered

pub returns-clause-begun : goal.returns-clause-begun
returns-clause-begun g c = if_begun c.args.limit c.args.line.now c.in_ok-reading.reading c.args.book.now c.answer_read-answered.new.book c.answer_read-answered.result
    c.in_ok-reading.ensures.read c.answer_read-answered.ensures.begun c.answer_read-answered.ensures.comes

pub returns-clause-crash : goal.returns-clause-crash
returns-clause-crash g c = leaves_in_line c.args.line.now c.in_ok-reading.reading c.args.book.now c.answer_read-answered.new.book
    c.in_ok-reading.ensures.read c.answer_read-answered.ensures.crash

pub returns-in_err-reading-clause-broken : goal.returns-in_err-reading-clause-broken
returns-in_err-reading-clause-broken g c = λ is. err_comes c.from_residual.result c.in_err-reading.field-0.0 ComesBroken c.from_residual.ensures.1
    (of_memory c.in_err-reading.field-0.0 c.in_err-reading.ensures.memory)

pub returns-in_err-reading-clause-few_calls : goal.returns-in_err-reading-clause-few_calls
returns-in_err-reading-clause-few_calls g c =
    let r = c.one_line_reading.ensures.total c.args.line.now in
    record {
      reading = r.0;
      read = r.1;
      calls = λ room. at_least (g.D.Disk.clock (disk_of c.args.book.now)) (6 * (length (events (table_of c.args.book.now) r.0) / c.args.every + 1));
    }

pub returns-clause-few_calls : goal.returns-clause-few_calls
returns-clause-few_calls g c = record { reading = c.in_ok-reading.reading; read = c.in_ok-reading.ensures.read; calls = c.answer_read-answered.ensures.few_calls }
