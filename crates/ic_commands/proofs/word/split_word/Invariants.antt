use Rattle.std.proofs.Common.{◌≡◌, drop, take}
use Rattle.ic_text.specs.Token.{tokens, tokens_after}
use Rattle.ic_commands.proofs.word.split_word.Given as goal

-- the bytes so far are of one word
abbrev pub invariant-loop-place : goal.invariant-loop-place
invariant-loop-place l = record { same : tokens_after (take l.place l.front) (drop l.place l.front) ≡ tokens l.front }
