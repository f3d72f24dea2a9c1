use Rattle.std.proofs.Common.{◌≡◌, ◌+◌, ◌≤◌, ◌++◌, drop}
use Rattle.ic_nets.specs.Nets.{joints_in, plain_wires, standings}
use Rattle.ic_nets.proofs.wiring.parted.Given as goal

-- what is there, and what is left to add
abbrev pub invariant-loop-link : goal.invariant-loop-link
invariant-loop-link l = record {
  few : l.joints ≤ l.link-index;
  counted : l.joints + joints_in (drop l.link-index l.links) ≡ joints_in l.links;
  wires : l.wires.items ++ plain_wires (drop l.link-index l.links) ≡ plain_wires l.links;
  standings : l.standings.items ++ standings l.joints (drop l.link-index l.links) ≡ standings 0 l.links;
}
