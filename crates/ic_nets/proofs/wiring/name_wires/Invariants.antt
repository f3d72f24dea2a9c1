use Rattle.std.proofs.Common.{◌≡◌, [], drop, fold}
use Rattle.ic_nets.specs.Nets.{with_standing}
use Rattle.ic_nets.specs.inner.Named.{AreIndexed}
use Rattle.ic_nets.proofs.wiring.name_wires.Given as goal

-- those left lead from the wires so far to all
abbrev pub invariant-loop-standing : goal.invariant-loop-standing
invariant-loop-standing l = record {
  stood : fold with_standing l.wires.items (drop l.standing-index l.standings) ≡ fold with_standing [] l.standings;
  indexed : AreIndexed l.places l.wires.items;
}
