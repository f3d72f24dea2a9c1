use Rattle.std.proofs.Common.{◌≡◌, take, drop}
use Rattle.ic_text.specs.inner.Braces.{split_at_brace}
use Rattle.ic_text.proofs.SplitText.{bytes_in_front}
use Rattle.ic_text.proofs.syntax.split_at_brace.Given as goal

-- the bytes so far stand before the first `}`
abbrev pub invariant-loop-place : goal.invariant-loop-place
invariant-loop-place l = bytes_in_front (take l.place l.text) (split_at_brace (drop l.place l.text)) ≡ split_at_brace l.text
