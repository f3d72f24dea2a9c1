use Rattle.std.proofs.Common.{◌≡◌, drop}
use Rattle.ic_text.specs.Token.{tokens}
use Rattle.ic_commands.proofs.word.without_blanks.Given as goal

-- what is left has the tokens of the text
abbrev pub invariant-loop-place : goal.invariant-loop-place
invariant-loop-place l = record { same : tokens (drop l.place l.text) ≡ tokens l.text }
