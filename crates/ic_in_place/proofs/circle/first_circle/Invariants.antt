use Rattle.std.proofs.Common.{◌≡◌, ◌+◌, ◌*◌, length, drop}
use Rattle.ic_flat.specs.Words.{forest}
use Rattle.ic_in_place.proofs.circle.first_circle.Given as goal

-- so many terms are left
abbrev pub invariant-loop-equation : goal.invariant-loop-equation
invariant-loop-equation l = length (forest (drop l.left l.words)) + 2 * l.equation ≡ 2 * l.count
