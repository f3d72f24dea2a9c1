use Rattle.std.proofs.Common.{sym, ap, ◌∙◌}
use Rattle.std.specs.Str.{bytes_eq}
use Rattle.ic_commands.proofs.ScriptLines.{tells_run}
use Rattle.ic_commands.proofs.script_line.begins_with_run.Goals as goal

pub returns : goal.returns
returns c = λ p spells.
    let word = c.split_word.result.0.now in
    tells_run c.args.text.now word c.split_word.result.1.now c.split_word.ensures.tokens c.split_word.ensures.front p spells
    ∙ ap (bytes_eq word) (sym c.as_slice.ensures) ∙ sym c.eq.ensures
