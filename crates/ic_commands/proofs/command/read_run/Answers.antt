use Rattle.std.proofs.Common.{◌≡◌, true, refl, sym, ◌∙◌, subst}
use Rattle.ic_commands.specs.declared.line.Opening.TheVariants as opening
use Rattle.ic_commands.specs.LineSource.{run, is_number}
use Rattle.ic_commands.specs.inner.Line.{ReadsAfter}
use Rattle.ic_commands.proofs.LineReading.{is_sense_after}
use Rattle.ic_commands.proofs.command.read_run.Goals as goal

pub returns-clause-line : goal.returns-clause-line
returns-clause-line c =
    let number : is_number c.in-Some.word.now ≡ true = sym c.is_number.ensures ∙ c.if-not-is_number.false in
    subst (ReadsAfter opening.Run c.args.rest.now) (sym c.run_of.ensures.line)
    (is_sense_after opening.Run c.args.rest.now _ (run c.in-Some.word.now) tt number c.in-Some.ensures.one refl)
