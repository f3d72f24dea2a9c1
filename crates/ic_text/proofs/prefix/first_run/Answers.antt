use Rattle.std.proofs.Common.{sym, ◌∙◌, arith}
use Rattle.ic_text.proofs.Heads.{run_all, run_ended, run_on}
use Rattle.ic_text.proofs.prefix.first_run.Goals as goal

pub loop-place-preserved : goal.loop-place-preserved
loop-place-preserved c = run_on c.args.text.now c.loop-place.place (omega arith) (sym c.is_word_byte.ensures ∙ c.if-not-is_word_byte.false) ∙ c.loop-place.invariant

pub returns-then-not-is_word_byte : goal.returns-then-not-is_word_byte
returns-then-not-is_word_byte c = run_ended c.args.text.now c.loop-place.place (omega arith) (sym c.is_word_byte.ensures ∙ c.if-not-is_word_byte.true) c.loop-place.invariant

pub returns : goal.returns
returns c = run_all c.args.text.now c.loop-place.place (omega arith) c.loop-place.invariant
