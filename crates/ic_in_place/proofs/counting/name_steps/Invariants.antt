use Rattle.std.proofs.Common.{◌≡◌, ◌+◌, ◌^◌, ◌<◌, drop}
use Rattle.ic_in_place.specs.Summing.{made_from}
use Rattle.ic_in_place.proofs.counting.name_steps.Given as goal

abbrev pub invariant-loop-place : goal.invariant-loop-place
invariant-loop-place l = record {
  rest : l.made + made_from (drop l.place l.rules) l.by_rule l.place ≡ l.equations + made_from l.rules l.by_rule 0;
  small : l.made < 2 ^ 64;
}
