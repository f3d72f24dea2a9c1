use Rattle.std.proofs.Common.{Ok, Err}
use Rattle.ic_commands.specs.declared.line.Line.TheVariants.{Blank, Run, Command as Asks}
use Rattle.ic_book.specs.Book.{table_of}
use Rattle.ic_serving.specs.declared.fault.ServeFault.TheVariants.{Pool}
use Rattle.ic_serving_laws.proofs.PartLemmas.{comes_for}
use Rattle.ic_serving_laws.proofs.laws.a_fault_comes_for_what_a_line_asks.Goals as goal

pub returns-clause-blank : goal.returns-clause-blank
returns-clause-blank g c = λ limit line fault reads is.
    comes_for c.one_line_reading.ensures.answer (table_of c.args.before.now) line (Ok Blank) (table_of c.args.after.now) fault reads (record { reading = is.reading; read = is.read; comes = is.comes })

pub returns-clause-refused : goal.returns-clause-refused
returns-clause-refused g c = λ limit line why fault reads is.
    comes_for c.one_line_reading.ensures.answer (table_of c.args.before.now) line (Err why) (table_of c.args.after.now) fault reads (record { reading = is.reading; read = is.read; comes = is.comes })

pub returns-clause-command : goal.returns-clause-command
returns-clause-command g c = λ limit line m fault reads is.
    comes_for c.one_line_reading.ensures.answer (table_of c.args.before.now) line (Ok (Asks m)) (table_of c.args.after.now) (Pool fault) reads (record { reading = is.reading; read = is.read; comes = is.comes })

pub returns-clause-run : goal.returns-clause-run
returns-clause-run g c = λ limit line k fault reads is none.
    let comes = comes_for c.one_line_reading.ensures.answer (table_of c.args.before.now) line (Ok (Run k)) (table_of c.args.after.now) (Pool fault) reads (record { reading = is.reading; read = is.read; comes = is.comes }) in
    comes.1 none

pub returns-clause-round : goal.returns-clause-round
returns-clause-round g c = λ limit line k fault reads is.
    let comes = comes_for c.one_line_reading.ensures.answer (table_of c.args.before.now) line (Ok (Run k)) (table_of c.args.after.now) (Pool fault) reads (record { reading = is.reading; read = is.read; comes = is.comes }) in
    comes.2
