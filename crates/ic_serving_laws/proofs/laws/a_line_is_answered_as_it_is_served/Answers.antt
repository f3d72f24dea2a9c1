use Rattle.std.proofs.Common.{[], ◌∷◌, Ok, Err, sym, subst, ◌∙◌, append-nil}
use Rattle.ic_commands.specs.declared.line.Line.TheVariants.{Blank, Run, Command as Asks}
use Rattle.ic_lines.specs.Answers.{answer}
use Rattle.ic_book.specs.Book.{table_of}
use Rattle.ic_serving.specs.Answered.{IsKeptFor}
use Rattle.ic_serving.specs.Booked.{last_kept}
use Rattle.ic_serving.specs.lemmas.Reaching.{kept_or_same}
use Rattle.ic_serving_laws.proofs.PartLemmas.{line_from, kept_from}
use Rattle.ic_serving_laws.proofs.laws.a_line_is_answered_as_it_is_served.Goals as goal

pub returns-clause-served : goal.returns-clause-served
returns-clause-served g c = λ limit line bytes is. record {
  readings = is.reading ∷ [];
  read = (is.read, tt);
  answered = is.answer ∙ sym (append-nil (answer (table_of c.args.before.now) is.reading));
  leaves = is.table;
}

pub returns-clause-kept : goal.returns-clause-kept
returns-clause-kept g c = λ limit line bytes is. kept_or_same is.reading c.args.before.now c.args.after.now is.kept

pub returns-clause-begun : goal.returns-clause-begun
returns-clause-begun g c = λ limit line fault is.
    line_from (table_of c.args.before.now) (table_of c.args.after.now) line is.reading is.read is.begun.table

pub returns-clause-kept_within : goal.returns-clause-kept_within
returns-clause-kept_within g c = λ limit line fault is.
    kept_from (table_of c.args.before.now) (last_kept c.args.before.now) (last_kept c.args.after.now) line is.reading is.read is.begun.kept

pub returns-clause-within : goal.returns-clause-within
returns-clause-within g c = λ t kept u line. (λ h. h, λ h. h)

pub returns-clause-command : goal.returns-clause-command
returns-clause-command g c = λ limit line bytes m reads is.
    subst (λ r. IsKeptFor r c.args.before.now c.args.after.now)
    (c.one_line_reading.ensures.answer line is.reading (Ok (Asks m)) is.read reads) is.kept

pub returns-clause-run : goal.returns-clause-run
returns-clause-run g c = λ limit line bytes k reads is.
    subst (λ r. IsKeptFor r c.args.before.now c.args.after.now)
    (c.one_line_reading.ensures.answer line is.reading (Ok (Run k)) is.read reads) is.kept

pub returns-clause-blank : goal.returns-clause-blank
returns-clause-blank g c = λ limit line bytes reads is.
    subst (λ r. IsKeptFor r c.args.before.now c.args.after.now)
    (c.one_line_reading.ensures.answer line is.reading (Ok Blank) is.read reads) is.kept

pub returns-clause-refused : goal.returns-clause-refused
returns-clause-refused g c = λ limit line bytes fault reads is.
    subst (λ r. IsKeptFor r c.args.before.now c.args.after.now)
    (c.one_line_reading.ensures.answer line is.reading (Err fault) is.read reads) is.kept
