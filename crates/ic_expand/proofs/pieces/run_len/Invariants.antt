use Rattle.std.proofs.Common.{◌≡◌, ◌+◌, drop}
use Rattle.std.specs.List.{prefix_len}
use Rattle.ic_expand.specs.Pieces.{joins}
use Rattle.ic_expand.proofs.pieces.run_len.Given as goal

-- the bytes so far are of words
abbrev pub invariant-loop-place : goal.invariant-loop-place
invariant-loop-place l = l.place + prefix_len joins (drop l.place l.text) ≡ prefix_len joins l.text
