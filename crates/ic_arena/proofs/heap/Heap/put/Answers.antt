use Rattle.std.proofs.Common.{◌≡◌, ℕ, ◌+◌, ◌*◌, ◌^◌, ◌<◌, ◌≤◌, List, [], ◌∷◌, length, map, take, sum_by, ap, sym, subst, ◌∙◌, arith, max, slice_index_or}
use Rattle.std.specs.List.{AllByRecursion}
use Rattle.std.specs.Vec.{with_items}
use Rattle.std.proofs.lemmas.List.{length-map, with_items_is}
use Rattle.ic_arena.specs.declared.word.Word.{Word}
use Rattle.ic_arena.specs.declared.word.TheConstants.{IDLE}
use Rattle.ic_arena.specs.Word.{agent_word, name_word}
use Rattle.ic_arena.specs.Piece.{agent_of, room}
use Rattle.ic_arena.specs.Tables.{Replaced, Blocks, blocks_pieces, register}
use Rattle.ic_arena.proofs.HeapPieces.{read_words}
use Rattle.ic_arena.proofs.HeapPut.{IsPut, Written, held, found_within, write_found, write_last}
use Rattle.ic_arena.proofs.Front.{front_all}
use Rattle.ic_arena.proofs.heap.Heap.put.Goals as goal
use Rattle.ic_arena.proofs.heap.Heap.put.Goals.{then-block, else-block}

pub offset_bounds-words-block : goal.offset_bounds-words-block
offset_bounds-words-block c =
    let old = c.self.inside in
    let n : ℕ = length c.args.operands.now in
    let long : n ≡ old.arity = subst (λ (v : Blocks). n ≡ v.arity) (sym c.self.view_is) c.requires.arity in
    let within = found_within old.arity old.count old.free old.words.items c.self.invariant c.if-block.false in
    let all = front_all (old.count * old.arity) old.words.items c.self.invariant.blocks.whole in
    rw long (omega (arith, within, all, old.words.ok))

pub bounds-words-block : goal.bounds-words-block
bounds-words-block c =
    let old = c.self.inside in
    let n : ℕ = length c.args.operands.now in
    let long : n ≡ old.arity = subst (λ (v : Blocks). n ≡ v.arity) (sym c.self.view_is) c.requires.arity in
    let some : 1 ≤ old.arity = subst (λ (v : Blocks). 1 ≤ v.arity) (sym c.self.view_is) c.requires.some in
    let within = found_within old.arity old.count old.free old.words.items c.self.invariant c.if-block.false in
    let all = front_all (old.count * old.arity) old.words.items c.self.invariant.blocks.whole in
    let size = ap length c.as_mut_slice-words.ensures.value in
    rw long (omega (arith, within, all, some, size))

-- the block lies within the list, which is this one or that one
there : (block from n k size : ℕ) → block ≡ from → n ≡ k → from * k + k ≤ size → block * n + n ≤ size
there block from n k size b e h = rw (b, e) h

pub write-requires-clause-there : goal.write-requires-clause-there
write-requires-clause-there c =
    let old = c.self.inside in
    let block : ℕ = c.if-block.block in
    let n : ℕ = length c.args.operands.now in
    let k : ℕ = old.arity in
    let size : ℕ = length c.as_mut_slice-words.result.now in
    let same : size ≡ length old.words.items = ap length c.as_mut_slice-words.ensures.value in
    let long : n ≡ k = subst (λ (v : Blocks). n ≡ v.arity) (sym c.self.view_is) c.requires.arity in
    let room = subst (λ (v : Blocks). length v.words + v.arity ≤ v.capacity) (sym c.self.view_is) c.requires.room in
    let whole = c.self.invariant.blocks.whole in
    let all = front_all (old.count * k) old.words.items whole in
    elim c.if-block.branch [
      | then-block w ↦ there block old.count n k size w.block-is long (omega (arith, room, whole, same))
      | else-block w ↦ there block old.free n k size w.block-is long
          (let within = found_within k old.count old.free old.words.items c.self.invariant w.if-block.false in
          omega (arith, within, all, same))
    ]

-- what is put, where these words are written into this block
abbrev Puts : (k : ℕ) (ws vs new : List Word) (block next count : ℕ) → (n : ℕ) → Type 0
Puts k ws vs new block next count n =
    Written new vs (block * k) (length vs) ws → IsPut (held k n ws) vs block next (held k count new)

puts_as : (k : ℕ) (ws vs new : List Word) (block next count b f m n : ℕ) → block ≡ b → next ≡ f → count ≡ m
    → Puts k ws vs new b f m n → Puts k ws vs new block next count n
puts_as k ws vs new block next count b f m n e g h puts = rw (e, g, h) puts

module _ (c : goal.After-self-1) where
  abbrev new : List Word
  new = (with_items c.self.inside.words c.write.new.words).items

  abbrev count : ℕ
  count = c.if-block.self-inside.1.1.1.0

  abbrev next : ℕ
  next = c.if-block.self-inside.1.1.1.1.0

  -- the list is as it was, with the words
  listed : c.write.new.words ≡ new
  listed =
      sym (with_items_is c.self.inside.words c.write.new.words
      (let value = ap length c.as_mut_slice-words.ensures.value in
      let same = c.write.auto.words in
      omega (arith, value, same, c.self.inside.words.ok)))

  -- an agent is put, in both cases
  is_put : IsPut (held c.self.inside.arity c.self.inside.count c.self.inside.words.items)
      (map (register c.args.registers.now) c.args.operands.now) c.if-block.block next
      (held c.self.inside.arity count new)
  is_put =
      let old = c.self.inside in
      let rs : List Word = c.args.registers.now in
      let ops : List ℕ = c.args.operands.now in
      let vs : List Word = map (register rs) ops in
      let out : List Word = c.write.new.words in
      let ws : List Word = old.words.items in
      let k : ℕ = old.arity in
      let n : ℕ = old.count in
      let block : ℕ = c.if-block.block in
      let some : 1 ≤ k = subst (λ (v : Blocks). 1 ≤ v.arity) (sym c.self.view_is) c.requires.some in
      let same : length vs ≡ length ops = length-map ops (register rs) in
      let all : length ops ≡ k = subst (λ (v : Blocks). length ops ≡ v.arity) (sym c.self.view_is) c.requires.arity in
      let long : length vs ≡ k = same ∙ all in
      let words : AllByRecursion (λ w. w.tag < IDLE) vs = read_words rs ops c.requires.filled c.requires.words in
      let few : n + 1 < 2 ^ 32 = subst (λ (v : Blocks). v.count + 1 < 2 ^ 32) (sym c.self.view_is) c.requires.few in
      let room : length (take (n * k) ws) + k ≤ length ws =
      subst (λ (v : Blocks). length v.words + v.arity ≤ v.capacity) (sym c.self.view_is) c.requires.room in
      let whole : length (take (n * k) ws) ≡ n * k = c.self.invariant.blocks.whole in
      let written : Written out vs (block * k) (length vs) ws =
      subst (λ (m : ℕ). Written out vs (block * m) (length vs) ws) all
      (subst (λ (m : ℕ). Written out vs (block * length ops) m ws) (sym same)
      (subst (λ (l : List Word). Written out vs (block * length ops) (length ops) l) c.as_mut_slice-words.ensures.value
      c.write.ensures.written)) in
      let list : List Word = c.as_mut_slice-words.result.now in
      let put : IsPut (held k n ws) vs block next (held k count out) =
      elim c.if-block.branch [
        | then-block w ↦ puts_as k ws vs out block next count n old.free (n + 1) n w.block-is
            (ap (λ h. h.1.1.1.1.0) w.self-inside-is) (ap (λ h. h.1.1.1.0) w.self-inside-is)
            (write_last k n old.free ws vs out c.self.invariant w.if-block.true (omega arith) some (omega arith) long words) written
        | else-block w ↦ puts_as k ws vs out block next count old.free
            (slice_index_or ws (old.free * k) (name_word 0)).index n n w.block-is
            (ap (λ h. h.1.1.1.1.0) w.self-inside-is
            ∙ (ap (λ (m : ℕ). (slice_index_or list (old.free * m) (name_word 0)).index) all
            ∙ ap (λ (l : List Word). (slice_index_or l (old.free * k) (name_word 0)).index) c.as_mut_slice-words.ensures.value))
            (ap (λ h. h.1.1.1.0) w.self-inside-is)
            (write_found k n old.free ws vs out (name_word 0) c.self.invariant w.if-block.false some long words) written
      ] in
      subst (λ (l : List Word). IsPut (held k n ws) vs block next (held k count l)) listed put

pub invariant_of-self : goal.invariant_of-self
invariant_of-self c = (is_put c).kept

pub returns-clause-made : goal.returns-clause-made
returns-clause-made c = λ s.
    subst (λ (v : Blocks). Replaced [] (agent_of (agent_word s c.if-block.block) (map (register c.args.registers.now) c.args.operands.now) ∷ [])
    (blocks_pieces s v) (blocks_pieces s (held c.self.inside.arity (count c) (new c))))
    c.self.view_is ((is_put c).made s)

pub returns-clause-fresh : goal.returns-clause-fresh
returns-clause-fresh c = λ s.
    subst (λ (v : Blocks). sum_by (room (agent_word s c.if-block.block)) (blocks_pieces s v) ≡ 0) c.self.view_is ((is_put c).fresh s)

pub returns-clause-count : goal.returns-clause-count
returns-clause-count c = λ s.
    subst (λ (v : Blocks). count c
    ≡ max v.count (length (blocks_pieces s (held c.self.inside.arity (count c) (new c)))))
    c.self.view_is ((is_put c).count s)
