use Rattle.std.proofs.Common.{◌≡◌, ℕ, suc, ◌+◌, ◌-◌, ◌*◌, ◌<◌, ◌≤◌, List, [], ◌++◌, length, take, drop, ap, sym, ◌∙◌, subst, arith, slice_set}
use Rattle.std.specs.Vec.{with_items}
use Rattle.std.proofs.lemmas.List.{length-set, with_items_is}
use Rattle.ic_arena.specs.declared.heap.Heap.TheInside.{Inside}
use Rattle.ic_arena.specs.declared.word.Word.{Word}
use Rattle.ic_arena.specs.declared.word.TheConstants.{FREE}
use Rattle.ic_arena.specs.Word.{agent_word}
use Rattle.ic_arena.specs.Tables.{Replaced, Blocks, block_at, block_piece, blocks_pieces, first_word}
use Rattle.ic_arena.specs.inner.Free.{AreKept}
use Rattle.ic_arena.proofs.Front.{front_all, front_part}
use Rattle.ic_arena.proofs.HeapFreed.{IsFreed, mark_written}
use Rattle.ic_arena.proofs.HeapPieces.{block_long, block_within, copied_front}
use Rattle.ic_arena.proofs.HeapPut.{held}
use Rattle.ic_arena.proofs.heap.Heap.take_into.Goals as goal

module _ (c : goal.After-self-2-1) where
  abbrev old : Inside
  old = c.self.inside

  abbrev at : ℕ
  at = c.args.block * c.self.inside.arity

  abbrev marked : List Word → List Word
  marked l = slice_set l (c.args.block * c.self.inside.arity) (record { tag = FREE; index = c.self.inside.free })

  there : c.args.block < c.self.inside.count
  there = subst (λ (v : Blocks). c.args.block < v.count) (sym c.self.view_is) c.requires.there

  freed : IsFreed (held c.self.inside.arity c.self.inside.count c.self.inside.words.items) c.args.block
      (held c.self.inside.arity c.self.inside.count (marked c.self.inside.words.items))
  freed = mark_written c.self.inside.arity c.self.inside.count c.args.block c.self.inside.free c.self.inside.words.items
      c.self.invariant there
      (subst (λ (v : Blocks). ¬ ((first_word v c.args.block).tag ≡ FREE)) (sym c.self.view_is) c.requires.used)

  -- the list is as it was, with the mark
  same : marked c.self.inside.words.items
      ≡ (with_items c.self.inside.words (marked c.as_mut_slice-words.result.now)).items
  same =
      let value = c.as_mut_slice-words.ensures.value in
      let long = length-set c.as_mut_slice-words.result.now at (record { tag = FREE; index = c.self.inside.free }) in
      ap marked (sym value)
      ∙ sym (with_items_is c.self.inside.words (marked c.as_mut_slice-words.result.now)
      (long ∙ (ap length value ∙ omega (arith, c.self.inside.words.ok))))

pub invariant_of-self : goal.invariant_of-self
invariant_of-self c =
    subst (λ (l : List Word). AreKept (held c.self.inside.arity c.self.inside.count l) c.args.block) (same c) (freed c).kept

pub returns-clause-taken : goal.returns-clause-taken
returns-clause-taken c =
    let old = c.self.inside in
    let b : ℕ = c.args.block in
    let k : ℕ = old.arity in
    let n : ℕ = old.count in
    let rs : List Word = c.args.registers.now in
    let list : List Word = c.as_mut_slice-words.result.now in
    let below : b < n = there c in
    let e : n ≡ b + suc (n - suc b) = omega arith in
    let within : b * k + k ≤ n * k = block_within k b (n - suc b) n e in
    let all : n * k ≤ length old.words.items = front_all (n * k) old.words.items c.self.invariant.blocks.whole in
    let size : b * k + k - b * k ≡ k = omega arith in
    let block : List Word = take (b * k + k - b * k) (drop (b * k) list) in
    let is : block ≡ block_at c.args.self.now b =
    subst (λ (v : Blocks). block ≡ block_at v b) c.self.view_is
    (ap (λ (m : ℕ). take m (drop (b * k) list)) size
    ∙ (ap (λ (l : List Word). take k (drop (b * k) l)) c.as_mut_slice-words.ensures.value
    ∙ front_part (n * k) (b * k) k old.words.items all within)) in
    let long : length block ≡ k =
    ap length is ∙ subst (λ (v : Blocks). length (block_at v b) ≡ k) c.self.view_is
    (block_long (held k n old.words.items) b c.self.invariant.blocks.whole below) in
    let room : c.args.filled + k ≤ length rs =
    subst (λ (v : Blocks). c.args.filled + v.arity ≤ length rs) (sym c.self.view_is) c.requires.room in
    let front : take (c.args.filled + length block) c.copy.new.words ≡ take c.args.filled rs ++ block =
    copied_front rs block c.args.filled c.copy.new.words (omega (arith, room)) c.copy.ensures.copied in
    subst (λ (m : ℕ). take (c.args.filled + m) c.copy.new.words ≡ take c.args.filled rs ++ block_at c.args.self.now b)
    long (front ∙ ap (λ (l : List Word). take c.args.filled rs ++ l) is)

pub returns-clause-freed : goal.returns-clause-freed
returns-clause-freed c = λ s.
    let b : ℕ = c.args.block in
    let old = c.self.inside in
    subst (λ (v : Blocks). Replaced (block_piece (agent_word s b) (block_at v b)) [] (blocks_pieces s v)
    (blocks_pieces s (held old.arity old.count
    (with_items old.words (marked c c.as_mut_slice-words.result.now)).items))) c.self.view_is
    (subst (λ (l : List Word). Replaced (block_piece (agent_word s b) (block_at (held old.arity old.count old.words.items) b)) []
    (blocks_pieces s (held old.arity old.count old.words.items)) (blocks_pieces s (held old.arity old.count l)))
    (same c) ((freed c).freed s))
