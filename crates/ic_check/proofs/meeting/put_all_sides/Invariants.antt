use Rattle.std.proofs.Common.{◌≡◌, ◌++◌, drop, map}
use Rattle.std.specs.List.{flat_map}
use Rattle.ic_term.specs.Term.{pair}
use Rattle.ic_check.specs.Warnings.{pair_sides}
use Rattle.ic_check.proofs.meeting.put_all_sides.Given as goal

-- what is appended so far and the sides of what is left are those of the whole
abbrev pub invariant-loop-equation : goal.invariant-loop-equation
invariant-loop-equation l = record {
  whole : l.out.items ++ flat_map pair_sides (map pair (drop l.equation-index l.equations)) ≡ l.fn.out.items ++ flat_map pair_sides (map pair l.equations);
}
