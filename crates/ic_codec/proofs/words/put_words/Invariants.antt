use Rattle.std.proofs.Common.{◌≤◌, ◌-◌, length, drop}
use Rattle.std.specs.List.{flat_map}
use Rattle.ic_codec.specs.inner.Room.{GoesOn}
use Rattle.ic_codec.specs.inner.WordFronts.{word_bytes}
use Rattle.ic_codec.proofs.words.put_words.Given as goal

-- those from a place on are left
abbrev pub invariant-loop-place : goal.invariant-loop-place
invariant-loop-place l = record {
  within : l.place ≤ length l.words;
  left : GoesOn l.fn.out (flat_map word_bytes l.words) l.out (flat_map word_bytes (drop l.place l.words));
}

abbrev pub decreases-loop-place : goal.decreases-loop-place
decreases-loop-place l = length l.words - l.place
