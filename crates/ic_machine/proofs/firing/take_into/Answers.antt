use Rattle.std.proofs.Common.{◌≡◌, ◌-◌, ◌<◌, ◌≤◌, ℕ, List, take, sym, subst, ◌∙◌, arith}
use Rattle.ic_arena.specs.declared.word.Word.{Word}
use Rattle.ic_arena.specs.declared.word.TheConstants.{FREE}
use Rattle.ic_arena.specs.Tables.{Blocks, first_word}
use Rattle.ic_machine.specs.inner.Firing.{table}
use Rattle.ic_machine.proofs.Heaps.{agent_block, arities_set, in_block, not_free, tag_read, taken_args}
use Rattle.ic_machine.proofs.firing.take_into.Goals as goal

pub take_into-requires-clause-there : goal.take_into-requires-clause-there
take_into-requires-clause-there c =
    let hs : List Blocks = c.args.heaps.now.items in
    let w : Word = c.args.agent in
    let s : ℕ = w.tag - 1 in
    let b : Blocks = c.index_mut-heap.result.now in
    let at = tag_read hs w.tag b (omega arith) (omega arith) c.index_mut-heap.ensures.value in
    let some : 1 ≤ (table hs s).arity = omega (arith, at.3) in
    subst (λ (x : Blocks). w.index < x.count) (sym at.2)
    (in_block s w.index (table hs s) (agent_block hs w s at.0 (c.requires.there some)))

pub take_into-requires-clause-used : goal.take_into-requires-clause-used
take_into-requires-clause-used c =
    let hs : List Blocks = c.args.heaps.now.items in
    let w : Word = c.args.agent in
    let s : ℕ = w.tag - 1 in
    let b : Blocks = c.index_mut-heap.result.now in
    let at = tag_read hs w.tag b (omega arith) (omega arith) c.index_mut-heap.ensures.value in
    let some : 1 ≤ (table hs s).arity = omega (arith, at.3) in
    subst (λ (x : Blocks). ¬ ((first_word x w.index).tag ≡ FREE)) (sym at.2) (not_free hs w s at.0 (c.requires.there some))

pub returns-clause-taken : goal.returns-clause-taken
returns-clause-taken c =
    let hs : List Blocks = c.args.heaps.now.items in
    let w : Word = c.args.agent in
    let s : ℕ = w.tag - 1 in
    let b : Blocks = c.index_mut-heap.result.now in
    let at = tag_read hs w.tag b (omega arith) (omega arith) c.index_mut-heap.ensures.value in
    let some : 1 ≤ (table hs s).arity = omega (arith, at.3) in
    taken_args hs w s b c.take_into.new.self (take c.args.filled c.args.registers.now)
    (take c.take_into.result c.take_into.new.registers) at.0 at.1 at.2
    c.arity.ensures.sound (c.requires.there some) c.take_into.ensures.taken c.take_into.ensures.freed

pub returns-clause-arities : goal.returns-clause-arities
returns-clause-arities c =
    let hs : List Blocks = c.args.heaps.now.items in
    let w : Word = c.args.agent in
    let s : ℕ = w.tag - 1 in
    let b : Blocks = c.index_mut-heap.result.now in
    let at = tag_read hs w.tag b (omega arith) (omega arith) c.index_mut-heap.ensures.value in
    arities_set hs s c.take_into.new.self (c.take_into.ensures.arity ∙ at.3)
