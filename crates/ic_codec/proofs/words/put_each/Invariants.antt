use Rattle.std.proofs.Common.{drop}
use Rattle.std.specs.List.{flat_map}
use Rattle.ic_codec.specs.inner.Room.{GoesOn}
use Rattle.ic_codec.specs.inner.WordFronts.{word_bytes}
use Rattle.ic_codec.proofs.words.put_each.Given as goal

-- those after these are left
abbrev pub invariant-loop-word : goal.invariant-loop-word
invariant-loop-word l = GoesOn l.fn.out (flat_map word_bytes l.words) l.out (flat_map word_bytes (drop l.word-index l.words))
