use Rattle.std.proofs.Common.{◌≡◌, [], length, take, vec_len, vec_capacity}
use Rattle.std.specs.List.{AllByRecursion}
use Rattle.ic_machine.specs.Plan.{constants}
use Rattle.ic_machine.specs.inner.Firing.{heaps_pieces, arities_of}
use Rattle.ic_machine.proofs.tables.Tables.new.Given as goal

abbrev pub invariant-loop-arity : goal.invariant-loop-arity
invariant-loop-arity l = record {
  symbol : l.symbol ≡ l.arity-index;
  arities : arities_of l.heaps.items ≡ take l.arity-index l.arities;
  heaps : heaps_pieces 0 l.heaps.items ≡ [];
  counts : AllByRecursion (λ b. b.count ≡ 0) l.heaps.items;
  registers : l.registers.items ≡ constants l.arity-index;
  heaps_len : vec_len l.heaps ≡ l.arity-index;
  registers_len : vec_len l.registers ≡ l.arity-index;
  heaps_capacity : vec_capacity l.heaps ≡ length l.arities;
  registers_capacity : vec_capacity l.registers ≡ length l.arities;
}
