use Rattle.std.proofs.Common.{◌≡◌, ◌+◌, ◌++◌, map, take, drop, length}
use Rattle.ic_arena.specs.Tables.{register}
use Rattle.ic_arena.proofs.heap.write_each.Given as goal

abbrev pub invariant-loop-operand : goal.invariant-loop-operand
invariant-loop-operand l = record {
  place : l.place ≡ l.at + l.operand-index;
  written : l.words ≡ take l.at l.initial.words
      ++ (map (register l.registers) (take l.operand-index l.operands)
      ++ drop (l.at + l.operand-index) l.initial.words);
  len : length l.words ≡ length l.initial.words;
}
