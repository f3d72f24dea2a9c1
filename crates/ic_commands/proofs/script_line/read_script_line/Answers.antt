use Rattle.std.proofs.Common.{◌≡◌, ◌≤◌, false, length, Ok, Err, sym, ap, ◌∙◌, arith}
use Rattle.std.proofs.lemmas.Result.{err_from_is_err_and}
use Rattle.ic_text.specs.declared.limits.TheConstants.{MAX_TEXT}
use Rattle.ic_text.specs.declared.fault.TextFault.TheVariants.{Memory}
use Rattle.ic_commands.specs.LineSource.{LinePhrase}
use Rattle.ic_commands.specs.LineText.{SpellsLine}
use Rattle.ic_commands.specs.inner.ScriptLine.{is_run}
use Rattle.ic_commands.proofs.ScriptLines.{reads_other, memory_of}
use Rattle.ic_commands.proofs.script_line.read_script_line.Goals as goal
use Rattle.ic_commands.proofs.script_line.read_script_line.Goals.{else-text-le-MAX_TEXT-via-then-text-le-MAX_TEXT+else-begins_with_run, else-text-le-MAX_TEXT-via-else-text-le-MAX_TEXT}

pub returns-in_err-read_command-clause-refused : goal.returns-in_err-read_command-clause-refused
returns-in_err-read_command-clause-refused c =
    let text = c.args.text.now in
    let e = err_from_is_err_and c.from_residual.result c.from_residual.ensures.1 in
    let apart : length text ≤ MAX_TEXT → (p : LinePhrase) → SpellsLine text p → is_run p ≡ false = elim c.else-text-le-MAX_TEXT.branch [
      | else-text-le-MAX_TEXT-via-then-text-le-MAX_TEXT+else-begins_with_run w ↦ λ short p spells. w.begins_with_run.ensures p spells ∙ w.if-begins_with_run.false
      | else-text-le-MAX_TEXT-via-else-text-le-MAX_TEXT w ↦ λ short. absurd (omega (arith, short, w.if-text-le-MAX_TEXT.false))
    ] in
    rw (e.1, e.2) (λ other. reads_other text (Err c.in_err-read_command.field-0.0) apart (c.in_err-read_command.ensures.refused other))

pub returns-in_err-read_command-clause-memory : goal.returns-in_err-read_command-clause-memory
returns-in_err-read_command-clause-memory c =
    let e = err_from_is_err_and c.from_residual.result c.from_residual.ensures.1 in
    rw (e.1, e.2) (λ memory. (let same : c.in_err-read_command.field-0.0 ≡ Memory = cc in c.in_err-read_command.ensures.memory (ap Err same)))

pub returns-clause-memory : goal.returns-clause-memory
returns-clause-memory c = λ memory.
    (let bad = memory_of (Ok c.in_ok-read_command.field-0) (sym memory ∙ c.command_of.ensures) in cc)
