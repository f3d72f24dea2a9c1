use Rattle.std.proofs.Common.{◌≡◌, ℕ, List, [], subst}
use Rattle.std.specs.List.{AllByRecursion}
use Rattle.std.proofs.lemmas.List.{take_all}
use Rattle.ic_arena.specs.Tables.{Blocks, blocks_pieces}
use Rattle.ic_machine.proofs.Opening.{no_agents}
use Rattle.ic_machine.proofs.moving.has_agents.Goals as goal

pub returns : goal.returns
returns c = λ e.
    no_agents 0 c.args.heaps.now (subst (λ (l : List Blocks). AllByRecursion (λ (b : Blocks). (s : ℕ) → blocks_pieces s b ≡ []) l)
    (take_all c.loop-heap.heap-index c.args.heaps.now c.loop-heap-test.false) c.loop-heap.invariant)
