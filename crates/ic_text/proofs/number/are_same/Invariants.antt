use Rattle.std.proofs.Common.{◌≡◌, ◌≤◌, length, drop}
use Rattle.std.specs.Str.{bytes_eq}
use Rattle.ic_text.proofs.number.are_same.Given as goal

-- the bytes that are left decide
abbrev pub invariant-loop-i : goal.invariant-loop-i
invariant-loop-i l = record {
  within : l.i ≤ length l.left;
  left : bytes_eq l.left l.right ≡ bytes_eq (drop l.i l.left) (drop l.i l.right);
}
