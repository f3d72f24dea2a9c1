use Rattle.std.proofs.Common.{◌≡◌, ◌+◌, length}
use Rattle.ic_arena.proofs.HeapPieces.{AreCopied}
use Rattle.ic_arena.proofs.heap.copy_each.Given as goal

abbrev pub invariant-loop-word : goal.invariant-loop-word
invariant-loop-word l = record {
  place : l.place ≡ l.at + l.word-index;
  copied : AreCopied l.initial.words l.more l.at l.word-index l.words;
  len : length l.words ≡ length l.initial.words;
}
