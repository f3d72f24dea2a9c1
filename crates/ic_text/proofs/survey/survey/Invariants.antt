use Rattle.std.proofs.Common.{◌≡◌, ◌-◌, ◌≤◌, Some, drop, take}
use Rattle.ic_text.specs.Token.{tokens, tokens_after}
use Rattle.ic_text.specs.inner.Survey.{IsWithin, taken_after, counted, surveyed}
use Rattle.ic_text.proofs.survey.survey.Given as goal

-- what is counted over the run so far and what is left is what the whole text has; and each token took a byte
abbrev pub invariant-loop-place : goal.invariant-loop-place
invariant-loop-place l = record {
  begins : l.start ≤ l.place;
  within : IsWithin l.start l.progress;
  same : counted (taken_after (Some l.progress) (tokens_after (take (l.place - l.start) (drop l.start l.text)) (drop l.place l.text))) ≡ surveyed l.fn.part (tokens l.text);
}
