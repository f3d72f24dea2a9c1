use Rattle.std.proofs.Common.{◌≡◌, ◌++◌, map}
use Rattle.ic_machine.proofs.borders.Borders.cuts.Given as goal

-- the cuts so far, and those that are left
abbrev pub invariant-loop-cut : goal.invariant-loop-cut
invariant-loop-cut l = l.cuts.items ++ l.cut-iterator ≡ map (λ e. e.cut) l.self.ends
