use Rattle.std.proofs.Common.{◌≡◌, drop}
use Rattle.ic_expand.specs.Reading.{leading_word}
use Rattle.ic_expand.proofs.reading.leading_word.Given as goal

-- only blanks stand before the place
abbrev pub invariant-loop-place : goal.invariant-loop-place
invariant-loop-place l = leading_word (drop l.place l.text) ≡ leading_word l.text
