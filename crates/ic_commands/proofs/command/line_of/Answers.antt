use Rattle.std.proofs.Common.{Some, sym, ◌∙◌, ap}
use Rattle.ic_commands.specs.declared.line.Opening.TheVariants as opening
use Rattle.ic_commands.specs.LineSource.{nothing}
use Rattle.ic_commands.proofs.LineReading.{is_sense}
use Rattle.ic_commands.proofs.LineParts.{nothing_is, line_after, submit_line}
use Rattle.ic_commands.proofs.command.line_of.Goals as goal

pub returns-then-is_nothing-clause-line : goal.returns-then-is_nothing-clause-line
returns-then-is_nothing-clause-line c = λ _. is_sense _ nothing tt tt (nothing_is _ (sym c.is_nothing.ensures ∙ c.if-is_nothing.true))

pub returns-in-Some-Submit-clause-line : goal.returns-in-Some-Submit-clause-line
returns-in-Some-Submit-clause-line c = λ other.
    line_after c.args.text.now c.split_word.result.0.now c.split_word.result.1.now opening.Submit _ c.split_word.ensures.tokens
    (sym c.in-Some-Submit.ensures ∙ ap Some c.in-Some-Submit.field-0-is) (c.read_submit.ensures.line other)

pub returns-in-Some-Submit-clause-memory : goal.returns-in-Some-Submit-clause-memory
returns-in-Some-Submit-clause-memory c = λ memory.
    submit_line c.args.text.now c.split_word.result.0.now c.split_word.result.1.now c.split_word.ensures.tokens
    (sym c.in-Some-Submit.ensures ∙ ap Some c.in-Some-Submit.field-0-is) (c.read_submit.ensures.memory memory)
