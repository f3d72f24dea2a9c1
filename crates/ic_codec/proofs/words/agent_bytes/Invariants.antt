use Rattle.std.proofs.Common.{◌≡◌, ◌++◌, length, drop, take}
use Rattle.std.specs.List.{flat_map, list_all}
use Rattle.ic_codec.specs.inner.WordFronts.{word_bytes, is_agent}
use Rattle.ic_codec.proofs.words.agent_bytes.Given as goal

-- those so far have their bytes, and those that are left decide
abbrev pub invariant-loop-place : goal.invariant-loop-place
invariant-loop-place l = record {
  many : length l.bytes ≡ 16;
  front : flat_map word_bytes l.words ≡ take l.place l.bytes ++ flat_map word_bytes (drop l.place l.words);
  left : list_all is_agent l.words ≡ list_all is_agent (drop l.place l.words);
}
