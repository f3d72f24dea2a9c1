use Rattle.std.proofs.Common.{◌≡◌, ℕ, ◌<◌, ◌≤◌, length, ap, arith}
use Rattle.ic_arena.specs.declared.word.Word.{Word}
use Rattle.ic_arena.specs.Word.{agent_word}
use Rattle.ic_arena.specs.Tables.{Blocks, block_at}
use Rattle.ic_machine.proofs.Heaps.{block_length}
use Rattle.ic_machine.proofs.Opening.{marked_block, no_blocks}
use Rattle.ic_machine.proofs.Taking.{block_some}
use Rattle.ic_machine.proofs.moving.has_agent.Goals as goal

pub bounds-get-0 : goal.bounds-get-0
bounds-get-0 c =
    let b : Blocks = c.args.heap.now in
    let j : ℕ = c.loop-block.block in
    let below : j < b.count = omega (arith, c.loop-block-test.true, c.count-block-end.ensures.count) in
    let some : 1 ≤ b.arity = block_some b c.count-block-end.ensures.sound (omega arith) in
    let len : length (block_at b j) ≡ b.arity = block_length b j c.count-block-end.ensures.sound below in
    let long : length c.get.result.now ≡ length (block_at b j) = ap (length {A = Word}) c.get.ensures in
    omega arith

pub returns : goal.returns
returns c = λ e s.
    let b : Blocks = c.args.heap.now in
    no_blocks s b.arity 0 b.count b.words (λ j m o same at lt.
    marked_block b (agent_word s j) m o at c.count-block-end.ensures.sound lt
    (c.loop-block.invariant m (omega (arith, lt, c.loop-block-test.false, c.count-block-end.ensures.count))))
