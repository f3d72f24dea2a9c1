use Rattle.std.proofs.Common.{◌≡◌, Ok, sym, subst}
use Rattle.ic_commands.specs.LineText.{ReadsLine}
use Rattle.ic_commands.specs.declared.line.Line.TheVariants.{Command as Asks}
use Rattle.ic_lines.specs.Answers.{Reading}
use Rattle.ic_serving.proofs.NextLemmas.{group_answered, group_begun, one_answered, one_begun}
use Rattle.ic_serving.proofs.RefusalLemmas.{err_comes}
use Rattle.ic_serving.proofs.serving.answer_next.Goals as goal

pub returns-in-Ok-clause-answered : goal.returns-in-Ok-clause-answered
returns-in-Ok-clause-answered g c =
    let reads : ReadsLine c.args.lines.now.line (Ok (Asks c.in-Ok.command)) = subst (λ (r : Reading). ReadsLine c.args.lines.now.line r) c.in-Ok.ensures.command c.requires.reads in
    group_answered c.lines_are_served_in_one_way.ensures.joined c.one_line_reading.ensures.total c.args.most c.args.lines.now c.answer_group.new.lines c.args.book.now c.answer_group.new.book
    c.args.limit c.in-Ok.command c.answer_group.result (λ v. v.answers.items) (λ v. v.count) reads c.answer_group.ensures.done c.answer_group.ensures.all c.answer_group.ensures.whole

pub returns-in-Ok-clause-begun : goal.returns-in-Ok-clause-begun
returns-in-Ok-clause-begun g c =
    let reads : ReadsLine c.args.lines.now.line (Ok (Asks c.in-Ok.command)) = subst (λ (r : Reading). ReadsLine c.args.lines.now.line r) c.in-Ok.ensures.command c.requires.reads in
    group_begun c.lines_are_served_in_one_way.ensures.joined c.one_line_reading.ensures.total c.args.most c.args.lines.now c.answer_group.new.lines c.args.book.now c.answer_group.new.book
    c.args.limit c.in-Ok.command c.answer_group.result reads c.answer_group.ensures.begun c.answer_group.ensures.comes

pub returns-in_err-answers-in-Err-clause-begun : goal.returns-in_err-answers-in-Err-clause-begun
returns-in_err-answers-in-Err-clause-begun g c =
    let reads : ReadsLine c.args.lines.now.line c.in-Err.reading = subst (λ (r : Reading). ReadsLine c.args.lines.now.line r) (sym c.in-Err.ensures.other) c.requires.reads in
    err_comes c.from_residual.result c.in_err-answers-in-Err.field-0.0 _ c.from_residual.ensures.1
    (one_begun c.args.most c.requires.some c.args.lines.now c.in-Err.reading c.args.book.now c.answer_read.new.book reads c.in_err-answers-in-Err.field-0.0
    c.in_err-answers-in-Err.ensures.begun c.in_err-answers-in-Err.ensures.comes c.answer_read.ensures.crash)

pub returns-in_ok-answers-in-Err-clause-answered : goal.returns-in_ok-answers-in-Err-clause-answered
returns-in_ok-answers-in-Err-clause-answered g c =
    let reads : ReadsLine c.args.lines.now.line c.in-Err.reading = subst (λ (r : Reading). ReadsLine c.args.lines.now.line r) (sym c.in-Err.ensures.other) c.requires.reads in
    one_answered c.args.most c.requires.some c.args.lines.now c.in-Err.reading c.args.book.now c.answer_read.new.book reads c.in_ok-answers-in-Err.answers.items
    c.in_ok-answers-in-Err.ensures.answered c.answer_read.ensures.crash
