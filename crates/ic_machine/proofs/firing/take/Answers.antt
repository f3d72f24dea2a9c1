use Rattle.std.proofs.Common.{◌≡◌, ◌-◌, ◌<◌, ◌≤◌, ℕ, List, sym, subst, ◌∙◌, arith}
use Rattle.ic_arena.specs.declared.word.Word.{Word}
use Rattle.ic_arena.specs.declared.word.TheConstants.{FREE}
use Rattle.ic_arena.specs.Tables.{Blocks, first_word}
use Rattle.ic_machine.specs.inner.Firing.{table}
use Rattle.ic_machine.proofs.Heaps.{agent_block, arities_set, in_block, not_free, tag_read, taken_args}
use Rattle.ic_machine.proofs.firing.take.Goals as goal

pub take-requires-clause-there : goal.take-requires-clause-there
take-requires-clause-there c =
    let hs : List Blocks = c.args.heaps.now.items in
    let w : Word = c.args.agent in
    let s : ℕ = w.tag - 1 in
    let b : Blocks = c.index_mut-heap.result.now in
    let at = tag_read hs w.tag b (omega arith) (omega arith) c.index_mut-heap.ensures.value in
    let some : 1 ≤ (table hs s).arity = omega (arith, at.3) in
    subst (λ (x : Blocks). w.index < x.count) (sym at.2)
    (in_block s w.index (table hs s) (agent_block hs w s at.0 (c.requires.there some)))

pub take-requires-clause-used : goal.take-requires-clause-used
take-requires-clause-used c =
    let hs : List Blocks = c.args.heaps.now.items in
    let w : Word = c.args.agent in
    let s : ℕ = w.tag - 1 in
    let b : Blocks = c.index_mut-heap.result.now in
    let at = tag_read hs w.tag b (omega arith) (omega arith) c.index_mut-heap.ensures.value in
    let some : 1 ≤ (table hs s).arity = omega (arith, at.3) in
    subst (λ (x : Blocks). ¬ ((first_word x w.index).tag ≡ FREE)) (sym at.2) (not_free hs w s at.0 (c.requires.there some))

pub returns-then-arity-gt0-clause-taken : goal.returns-then-arity-gt0-clause-taken
returns-then-arity-gt0-clause-taken c =
    let hs : List Blocks = c.args.heaps.now.items in
    let w : Word = c.args.agent in
    let s : ℕ = w.tag - 1 in
    let b : Blocks = c.index_mut-heap.result.now in
    let at = tag_read hs w.tag b (omega arith) (omega arith) c.index_mut-heap.ensures.value in
    let some : 1 ≤ (table hs s).arity = omega (arith, at.3) in
    taken_args hs w s b c.take.new.self c.args.registers.now.items c.take.new.registers.items at.0 at.1 at.2
    c.arity.ensures.sound (c.requires.there some) c.take.ensures.taken c.take.ensures.freed

pub returns-then-arity-gt0-clause-arities : goal.returns-then-arity-gt0-clause-arities
returns-then-arity-gt0-clause-arities c =
    let hs : List Blocks = c.args.heaps.now.items in
    let w : Word = c.args.agent in
    let s : ℕ = w.tag - 1 in
    let b : Blocks = c.index_mut-heap.result.now in
    let at = tag_read hs w.tag b (omega arith) (omega arith) c.index_mut-heap.ensures.value in
    arities_set hs s c.take.new.self (c.take.ensures.arity ∙ at.3)
