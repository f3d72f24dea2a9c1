use Rattle.std.proofs.Common.{◌≡◌, ◌<◌, ◌-◌, ◌*◌, ◌^◌, drop, length}
use Rattle.ic_term.specs.inner.Keys.{packed}
use Rattle.ic_term.proofs.key.packed.Given as goal

-- the later ones are packed
abbrev pub invariant-loop-i : goal.invariant-loop-i
invariant-loop-i l = (l.number ≡ packed (drop l.i l.bytes)) × (l.number < 2 ^ (8 * (length l.bytes - l.i)))
