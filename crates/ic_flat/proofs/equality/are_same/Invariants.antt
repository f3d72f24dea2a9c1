use Rattle.std.proofs.Common.{◌≡◌, ◌≤◌, length, drop}
use Rattle.std.specs.Cmp.Lexicographic.{pointwise}
use Rattle.ic_flat.specs.Words.{word_eq}
use Rattle.ic_flat.proofs.equality.are_same.Given as goal

-- the words that are left decide
abbrev pub invariant-loop-i : goal.invariant-loop-i
invariant-loop-i l = record {
  within : l.i ≤ length l.left;
  left : pointwise word_eq l.left l.right ≡ pointwise word_eq (drop l.i l.left) (drop l.i l.right);
}
