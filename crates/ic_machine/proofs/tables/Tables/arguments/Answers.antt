use Rattle.std.proofs.Common.{◌≡◌, ◌+◌, ◌-◌, List, ap, ◌∙◌, arith}
use Rattle.ic_arena.specs.Tables.{Blocks}
use Rattle.ic_machine.specs.inner.Firing.{table}
use Rattle.ic_machine.proofs.Heaps.{table_read}
use Rattle.ic_machine.proofs.tables.Tables.arguments.Goals as goal

pub returns-clause-count : goal.returns-clause-count
returns-clause-count c =
    let hs : List Blocks = c.args.self.now.heaps.items in
    let some = c.requires.left in
    let more = c.requires.right in
    let left : c.arity.result ≡ (table hs (c.args.pair.left.tag - 1)).arity = c.arity.ensures.arity
    ∙ ap (λ (b : Blocks). b.arity) (table_read hs (c.args.pair.left.tag - 1) c.index-left.result.now (omega arith) c.index-left.ensures) in
    let right : c.arity-2.result ≡ (table hs (c.args.pair.right.tag - 1)).arity = c.arity-2.ensures.arity
    ∙ ap (λ (b : Blocks). b.arity) (table_read hs (c.args.pair.right.tag - 1) c.index-right.result.now (omega arith) c.index-right.ensures) in
    (λ i. left i + right i)
