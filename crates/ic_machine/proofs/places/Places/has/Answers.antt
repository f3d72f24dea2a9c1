use Rattle.std.proofs.Common.{◌≡◌, ◌+◌, ◌-◌, ◌<◌, ◌≤◌, ◌==◌, ℕ, List, ◌++◌, Bool, true, false, not, refl, Contains, length, slice_index_or, ap, sym, subst, ◌∙◌, arith, sum_by}
use Rattle.ic_arena.specs.declared.word.Word.{Word}
use Rattle.ic_arena.specs.declared.word.TheConstants.{FREE}
use Rattle.ic_arena.specs.Piece.{agent_of, room}
use Rattle.ic_arena.specs.Tables.{AreBlocks, Blocks, block_at, block_piece, names_pieces}
use Rattle.ic_machine.specs.Held.{Held}
use Rattle.ic_machine.specs.inner.Firing.{heaps_pieces, table}
use Rattle.ic_machine.proofs.Heaps.{block_length, table_read, tag_read}
use Rattle.ic_machine.proofs.Standing.{agent_below}
use Rattle.ic_machine.proofs.Taking.{agent_known, agent_room, agent_roomy, block_some, block_unused, block_used}
use Rattle.ic_machine.proofs.places.Places.has.Goals as goal
use Rattle.ic_machine.proofs.places.Places.has.Goals.{then-agent-eq0-via-then-agent-eq0, then-agent-eq0-via-else-agent-eq0+then-len-agent}

is_false : (b : Bool) → not b ≡ true → b ≡ false
is_false true e = absurd (cc e)
is_false false e = refl

is_true : (b : Bool) → not b ≡ false → b ≡ true
is_true true e = refl
is_true false e = absurd (cc e)

pub returns-then-agent-eq0-clause-none : goal.returns-then-agent-eq0-clause-none
returns-then-agent-eq0-clause-none c = λ e arguments there.
    let ws : List Word = c.self.inside.names.entries in
    let hs : List Blocks = c.self.inside.heaps.items in
    let known = agent_known ws hs c.args.agent arguments c.self.invariant.blocks
    (subst (λ (h : Held). Contains h.pieces (agent_of c.args.agent arguments)) (sym c.self.view_is) there) in
    let some : 1 ≤ c.args.agent.tag = known.0 in
    let few : c.args.agent.tag ≤ length hs = known.1 in
    elim c.then-agent-eq0.branch [
      | then-agent-eq0-via-then-agent-eq0 w ↦ (let none : c.args.agent.tag ≡ 0 = w.if-agent-eq0.true in absurd (omega arith))
      | then-agent-eq0-via-else-agent-eq0+then-len-agent w ↦ (let past = w.if-len-agent.true in
          absurd (omega (arith, w.len.ensures, c.self.inside.heaps.ok)))
    ]

-- a block is no empty one
whole_block : (b : Blocks) (j : ℕ) → AreBlocks b → j < b.count → 1 ≤ length (block_at b j)
whole_block b j sound below =
    let len = block_length b j sound below in
    let some = block_some b sound (omega arith) in
    omega arith

-- the room of an agent is in the block that is read
read_room : (ws : List Word) (hs : List Blocks) (w : Word) (b : Blocks) → w.tag ≡ (w.tag - 1) + 1 → b ≡ table hs (w.tag - 1)
    → w.index < b.count
    → sum_by (room w) (names_pieces 0 ws ++ heaps_pieces 0 hs) ≡ sum_by (room w) (block_piece w (block_at b w.index))
read_room ws hs w b tag same below =
    agent_room ws hs w (w.tag - 1) tag (subst (λ (x : Blocks). w.index < x.count) same below)
    ∙ ap (λ (x : Blocks). sum_by (room w) (block_piece w (block_at x w.index))) (sym same)

pub bounds-get-0 : goal.bounds-get-0
bounds-get-0 c =
    let b : Blocks = c.index-heap.result.now in
    let below : c.args.agent.index < b.count = omega (arith, c.count.ensures.count) in
    let whole = whole_block b c.args.agent.index c.count.ensures.sound below in
    omega (arith, ap length c.get.ensures)

pub returns-then-agent-count-clause-there : goal.returns-then-agent-count-clause-there
returns-then-agent-count-clause-there c = λ e.
    let w : Word = c.args.agent in
    let d : Word = record { tag = 0; index = 0 } in
    let ws : List Word = c.self.inside.names.entries in
    let hs : List Blocks = c.self.inside.heaps.items in
    let b : Blocks = c.index-heap.result.now in
    let at = tag_read hs w.tag b (omega arith) (omega (arith, c.len.ensures, c.self.inside.heaps.ok)) c.index-heap.ensures in
    let below : w.index < b.count = omega (arith, c.count.ensures.count) in
    let whole : 1 ≤ length (block_at b w.index) = whole_block b w.index c.count.ensures.sound below in
    let is = read_room ws hs w b at.0 at.2 below in
    let used = subst (λ (l : List Word). ((slice_index_or l 0 d).tag == FREE) ≡ false) c.get.ensures
    (is_false ((slice_index_or c.get.result.now 0 d).tag == FREE) e) in
    let here = block_used w (block_at b w.index) d whole used in
    let all : 1 ≤ sum_by (room w) (names_pieces 0 ws ++ heaps_pieces 0 hs) = omega arith in
    subst (λ (h : Held). 1 ≤ sum_by (room w) h.pieces) c.self.view_is all

pub returns-then-agent-count-clause-none : goal.returns-then-agent-count-clause-none
returns-then-agent-count-clause-none c = λ e arguments there.
    let w : Word = c.args.agent in
    let d : Word = record { tag = 0; index = 0 } in
    let ws : List Word = c.self.inside.names.entries in
    let hs : List Blocks = c.self.inside.heaps.items in
    let b : Blocks = c.index-heap.result.now in
    let at = tag_read hs w.tag b (omega arith) (omega (arith, c.len.ensures, c.self.inside.heaps.ok)) c.index-heap.ensures in
    let below : w.index < b.count = omega (arith, c.count.ensures.count) in
    let whole : 1 ≤ length (block_at b w.index) = whole_block b w.index c.count.ensures.sound below in
    let is = read_room ws hs w b at.0 at.2 below in
    let unused = subst (λ (l : List Word). ((slice_index_or l 0 d).tag == FREE) ≡ true) c.get.ensures
    (is_true ((slice_index_or c.get.result.now 0 d).tag == FREE) e) in
    let here = block_unused w (block_at b w.index) d whole unused in
    let roomy = agent_roomy (names_pieces 0 ws ++ heaps_pieces 0 hs) w arguments
    (subst (λ (h : Held). Contains h.pieces (agent_of w arguments)) (sym c.self.view_is) there) in
    absurd (omega arith)

pub returns-else-agent-count-clause-none : goal.returns-else-agent-count-clause-none
returns-else-agent-count-clause-none c = λ e arguments there.
    let w : Word = c.args.agent in
    let s : ℕ = w.tag - 1 in
    let ws : List Word = c.self.inside.names.entries in
    let hs : List Blocks = c.self.inside.heaps.items in
    let b : Blocks = c.index-heap.result.now in
    let tag : w.tag ≡ s + 1 = omega arith in
    let found = agent_below ws hs s w arguments c.self.invariant.blocks tag
    (subst (λ (h : Held). Contains h.pieces (agent_of w arguments)) (sym c.self.view_is) there) in
    let same : b ≡ table hs s = table_read hs s b found.0 c.index-heap.ensures in
    let count : c.count.result ≡ (table hs s).count = c.count.ensures.count ∙ ap (λ (x : Blocks). x.count) same in
    let below : w.index < (table hs s).count = found.1 in
    absurd (omega arith)
