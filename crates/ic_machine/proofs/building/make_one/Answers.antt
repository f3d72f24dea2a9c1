use Rattle.std.proofs.Common.{◌≡◌, ◌+◌, ◌*◌, ◌^◌, ◌<◌, ◌≤◌, ℕ, List, [], ◌∷◌, ◌++◌, length, map, max, sum_by, zero-add, refl, ap, sym, subst, ◌∙◌, arith}
use Rattle.std.specs.List.{AllByRecursion}
use Rattle.std.proofs.Math.Nat.{max-eq_right}
use Rattle.ic_arena.specs.declared.word.Word.{Word}
use Rattle.ic_arena.specs.declared.word.TheConstants.{IDLE, GIVEN}
use Rattle.ic_arena.specs.Word.{agent_word}
use Rattle.ic_arena.specs.Piece.{agent_of, room}
use Rattle.ic_arena.specs.Tables.{Blocks, Replaced, blocks_pieces, register}
use Rattle.ic_machine.specs.inner.Firing.{table}
use Rattle.ic_machine.specs.lemmas.FiringKeeps.{all_append}
use Rattle.ic_machine.proofs.Heaps.{arities_set, arity_known, set_at, table_read, table_replaced, table_room}
use Rattle.ic_machine.proofs.InUse.{one_longer, one_more}
use Rattle.ic_machine.proofs.Standing.{blocks_few}
use Rattle.ic_machine.proofs.building.make_one.Goals as goal
use Rattle.ic_machine.proofs.building.make_one.Goals.{After-index_mut-heap, After-put-block}

pub index_mut-heap-requires : goal.index_mut-heap-requires
index_mut-heap-requires c =
    let there = arity_known c.args.heaps.now.items c.args.symbol (length c.args.operands.now) c.requires.arity in
    let below : c.args.symbol < length c.args.heaps.now.items = there.0 in
    let whole = c.args.heaps.now.ok.0 in
    omega arith

-- the table of the symbol
module _ (c : After-index_mut-heap) where
  there : (c.args.symbol < length c.args.heaps.now.items)
      × ((table c.args.heaps.now.items c.args.symbol).arity ≡ length c.args.operands.now)
  there = arity_known c.args.heaps.now.items c.args.symbol (length c.args.operands.now) c.requires.arity

  same : c.index_mut-heap.result.now ≡ table c.args.heaps.now.items c.args.symbol
  same = table_read c.args.heaps.now.items c.args.symbol c.index_mut-heap.result.now there.0 c.index_mut-heap.ensures.value

pub put-block-requires-clause-arity : goal.put-block-requires-clause-arity
put-block-requires-clause-arity c =
    let d = (goal.at.put-block-requires-clause-arity c).After-index_mut-heap in
    sym (ap (λ (x : Blocks). x.arity) (same d) ∙ (there d).1)

pub put-block-requires-clause-some : goal.put-block-requires-clause-some
put-block-requires-clause-some c =
    let d = (goal.at.put-block-requires-clause-some c).After-index_mut-heap in
    let arity = ap (λ (x : Blocks). x.arity) (same d) ∙ (there d).1 in
    let some : 1 ≤ length c.args.operands.now = c.requires.some in
    omega arith

pub put-block-requires-clause-filled : goal.put-block-requires-clause-filled
put-block-requires-clause-filled c =
    subst (λ (l : List Word). AllByRecursion (λ k. k < length l) c.args.operands.now) (sym c.deref.ensures.value) c.requires.filled

pub put-block-requires-clause-words : goal.put-block-requires-clause-words
put-block-requires-clause-words c =
    subst (λ (l : List Word). AllByRecursion (λ w. w.tag < IDLE) l) (sym c.deref.ensures.value) c.requires.words

pub put-block-requires-clause-room : goal.put-block-requires-clause-room
put-block-requires-clause-room c =
    let d = (goal.at.put-block-requires-clause-room c).After-index_mut-heap in
    let hs : List Blocks = c.args.heaps.now.items in
    let fits : length (table hs c.args.symbol).words + 1 * (table hs c.args.symbol).arity ≤ (table hs c.args.symbol).capacity = c.requires.room.0 in
    subst (λ (x : Blocks). length x.words + x.arity ≤ x.capacity) (sym (same d)) (omega arith)

pub put-block-requires-clause-few : goal.put-block-requires-clause-few
put-block-requires-clause-few c =
    let d = (goal.at.put-block-requires-clause-few c).After-index_mut-heap in
    subst (λ (x : Blocks). x.count + 1 < 2 ^ 32) (sym (same d)) c.requires.room.1

pub agent-requires : goal.agent-requires
agent-requires c =
    let below = (there (goal.at.agent-requires c).After-index_mut-heap).0 in
    let few : length c.args.heaps.now.items < GIVEN = c.requires.symbols in
    omega arith

-- what is known of the block
module _ (c : After-put-block) where
  abbrev hs : List Blocks
  hs = c.args.heaps.now.items

  abbrev s : ℕ
  s = c.args.symbol

  abbrev w : Word
  w = agent_word c.args.symbol c.put-block.result

  of : c.index_mut-heap.result.now ≡ table c.args.heaps.now.items c.args.symbol
  of = table_read c.args.heaps.now.items c.args.symbol c.index_mut-heap.result.now
      (arity_known c.args.heaps.now.items c.args.symbol (length c.args.operands.now) c.requires.arity).0 c.index_mut-heap.ensures.value

  block : Replaced [] (agent_of w (map (register c.args.registers.now.items) c.args.operands.now) ∷ [])
      (blocks_pieces s (table hs s)) (blocks_pieces s c.put-block.new.self)
  block =
      subst (λ (l : List Word). Replaced [] (agent_of w (map (register l) c.args.operands.now) ∷ [])
      (blocks_pieces s (table hs s)) (blocks_pieces s c.put-block.new.self)) c.deref.ensures.value
      (subst (λ (x : Blocks). Replaced [] (agent_of w (map (register c.deref.result.now) c.args.operands.now) ∷ [])
      (blocks_pieces s x) (blocks_pieces s c.put-block.new.self)) of (c.put-block.ensures.made s))

  arity : c.put-block.new.self.arity ≡ (table hs s).arity
  arity = c.put-block.ensures.arity ∙ ap (λ (x : Blocks). x.arity) of

  counted : c.put-block.new.self.count ≡ max (table hs s).count (length (blocks_pieces s c.put-block.new.self))
  counted = subst (λ (x : Blocks). c.put-block.new.self.count ≡ max x.count (length (blocks_pieces s c.put-block.new.self))) of (c.put-block.ensures.count s)

  longer : length (blocks_pieces s c.put-block.new.self) ≡ length (blocks_pieces s (table hs s)) + 1
  longer = one_longer (agent_of w (map (register c.args.registers.now.items) c.args.operands.now)) (blocks_pieces s (table hs s))
      (blocks_pieces s c.put-block.new.self) block

pub returns-clause-made : goal.returns-clause-made
returns-clause-made c =
    let p = (goal.at.returns-clause-made c).After-put-block in
    let hs : List Blocks = c.args.heaps.now.items in
    let s : ℕ = c.args.symbol in
    let rs : List Word = c.args.registers.now.items in
    let w : Word = agent_word s c.put-block.result in
    record {
      place = w;
      tag = refl;
      pushed = c.push_reserved.ensures.items ∙ ap (λ (v : Word). rs ++ v ∷ []) c.agent.ensures;
      pieces = table_replaced hs 0 s s c.put-block.new.self [] (agent_of w (map (register rs) c.args.operands.now) ∷ []) (sym (zero-add s))
          (arity_known hs s (length c.args.operands.now) c.requires.arity).0 (block p);
      fresh = table_room w hs 0 s s (sym (zero-add s)) refl
          ∙ subst (λ (x : Blocks). sum_by (room w) (blocks_pieces s x) ≡ 0) (of p) (c.put-block.ensures.fresh s);
    }

pub returns-clause-words : goal.returns-clause-words
returns-clause-words c =
    let rs : List Word = c.args.registers.now.items in
    let w : Word = agent_word c.args.symbol c.put-block.result in
    let below = (arity_known c.args.heaps.now.items c.args.symbol (length c.args.operands.now) c.requires.arity).0 in
    let few : length c.args.heaps.now.items < GIVEN = c.requires.symbols in
    subst (λ (l : List Word). AllByRecursion (λ v. v.tag < IDLE) l)
    (sym (c.push_reserved.ensures.items ∙ ap (λ (v : Word). rs ++ v ∷ []) c.agent.ensures))
    (all_append (λ v. v.tag < IDLE) rs (w ∷ []) c.requires.words (omega arith, tt))

pub returns-clause-arities : goal.returns-clause-arities
returns-clause-arities c = arities_set c.args.heaps.now.items c.args.symbol c.put-block.new.self (arity (goal.at.returns-clause-arities c).After-put-block)

pub returns-clause-full : goal.returns-clause-full
returns-clause-full c = λ full.
    let p = (goal.at.returns-clause-full c).After-put-block in
    let hs : List Blocks = c.args.heaps.now.items in
    let s : ℕ = c.args.symbol in
    let here = full s in
    let more = longer p in
    set_at (λ k x. x.count ≡ length (blocks_pieces k x)) hs s c.put-block.new.self full (counted p ∙ max-eq_right (omega arith))

pub returns-clause-count : goal.returns-clause-count
returns-clause-count c =
    let p = (goal.at.returns-clause-count c).After-put-block in
    let hs : List Blocks = c.args.heaps.now.items in
    let s : ℕ = c.args.symbol in
    let b' : Blocks = c.put-block.new.self in
    set_at (λ k x. x.count ≤ (table hs k).count + 1) hs s b' (λ k. omega arith)
    (one_more b'.count (table hs s).count (length (blocks_pieces s (table hs s))) (length (blocks_pieces s b')) (counted p) (longer p)
    (blocks_few s (table hs s).arity 0 (table hs s).count (table hs s).words))
