use Rattle.std.proofs.Common.{Ok, subst}
use Rattle.ic_lines.specs.Answers.{Reading, events}
use Rattle.ic_book.specs.Book.{table_of}
use Rattle.ic_serving.specs.Grown.{CallsFew}
use Rattle.ic_serving_laws.proofs.keeps.a_line_makes_few_calls.Goals as goal

pub returns : goal.returns
returns g c = λ limit line a every reads is room.
    subst (λ (r : Reading). CallsFew limit (events (table_of c.args.before.now) r) every c.args.before.now c.args.after.now)
    (c.one_line_reading.ensures.answer line is.reading a is.read reads) is.calls room
