use Rattle.std.proofs.Common.{◌≡◌, ◌+◌, ◌≤◌, length, drop}
use Rattle.std.specs.List.{flat_map}
use Rattle.ic_flat.specs.Words.{word_names}
use Rattle.ic_by_rounds.proofs.amounts.names_among.Given as goal

abbrev pub invariant-loop-word : goal.invariant-loop-word
invariant-loop-word l = record {
  few : l.names ≤ l.word-index;
  rest : l.names + length (flat_map word_names (drop l.word-index l.words)) ≡ length (flat_map word_names l.words);
}
