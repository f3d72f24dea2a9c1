use Rattle.std.proofs.Common.{◌≡◌, ◌+◌, ◌≤◌, length, reverse, take, drop}
use Rattle.std.specs.List.{flat_map}
use Rattle.ic_flat.specs.Words.{forest, word_names}
use Rattle.ic_plans.specs.inner.Laying.{AreLaid, CanLay}
use Rattle.ic_plans.proofs.laying.lay.Given as goal

-- the words from here on
abbrev pub invariant-loop-i : goal.invariant-loop-i
invariant-loop-i l = record {
  count : length l.operands.items ≡ length (forest (drop l.i l.words));
  few : length l.builder.registers + l.i + length (flat_map word_names (drop l.i l.words)) ≤ length l.initial.builder.registers + length l.words;
  left : l.left ≡ length (flat_map word_names (take l.i l.words));
  laid : (can : CanLay l.reads l.words l.initial.builder)
      → AreLaid l.initial.builder.arities can.registers can.given can.names (drop l.i l.words) l.builder (reverse l.operands.items);
}
