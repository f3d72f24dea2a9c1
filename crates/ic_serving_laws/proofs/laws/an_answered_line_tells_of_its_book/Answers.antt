use Rattle.std.proofs.Common.{Ok, subst}
use Rattle.ic_commands.specs.declared.line.Line.TheVariants.{Run, Command as Asks}
use Rattle.ic_lines.specs.Answers.{Reading, events}
use Rattle.ic_book.specs.Book.{table_of}
use Rattle.ic_serving.specs.Answered.{IsFreshFor, IsWholeFor}
use Rattle.ic_serving.specs.Grown.{GoesOn, GoesOnWithin, HasRoom}
use Rattle.ic_serving_laws.proofs.laws.an_answered_line_tells_of_its_book.Goals as goal

pub returns-clause-page : goal.returns-clause-page
returns-clause-page g c = λ limit line bytes a reads is.
    subst (λ (r : Reading). HasRoom limit (events (table_of c.args.before.now) r) c.args.before.now → GoesOn (events (table_of c.args.before.now) r) c.args.before.now c.args.after.now)
    (c.one_line_reading.ensures.answer line is.reading a is.read reads) is.page

pub returns-clause-begun_page : goal.returns-clause-begun_page
returns-clause-begun_page g c = λ limit line fault a reads is.
    subst (λ (r : Reading). HasRoom limit (events (table_of c.args.before.now) r) c.args.before.now → GoesOnWithin (events (table_of c.args.before.now) r) c.args.before.now c.args.after.now)
    (c.one_line_reading.ensures.answer line is.reading a is.read reads) is.begun.page

pub returns-clause-whole : goal.returns-clause-whole
returns-clause-whole g c = λ limit line bytes m reads is.
    subst (λ r. IsWholeFor r c.args.after.now)
    (c.one_line_reading.ensures.answer line is.reading (Ok (Asks m)) is.read reads) is.whole

pub returns-clause-whole_run : goal.returns-clause-whole_run
returns-clause-whole_run g c = λ limit line bytes k reads is.
    subst (λ r. IsWholeFor r c.args.after.now)
    (c.one_line_reading.ensures.answer line is.reading (Ok (Run k)) is.read reads) is.whole

pub returns-clause-fresh : goal.returns-clause-fresh
returns-clause-fresh g c = λ limit line bytes m reads is.
    subst (λ r. IsFreshFor r c.args.before.now)
    (c.one_line_reading.ensures.answer line is.reading (Ok (Asks m)) is.read reads) is.fresh
