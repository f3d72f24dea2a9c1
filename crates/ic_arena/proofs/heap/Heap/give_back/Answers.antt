use Rattle.std.proofs.Common.{◌≡◌, ℕ, ◌*◌, ◌<◌, [], sym, subst, slice_set}
use Rattle.ic_arena.specs.declared.heap.Heap.TheInside.{Inside}
use Rattle.ic_arena.specs.declared.word.Word.{Word}
use Rattle.ic_arena.specs.declared.word.TheConstants.{FREE}
use Rattle.ic_arena.specs.Word.{agent_word}
use Rattle.ic_arena.specs.Tables.{Replaced, Blocks, block_at, block_piece, blocks_pieces, first_word}
use Rattle.ic_arena.proofs.HeapFreed.{mark_written}
use Rattle.ic_arena.proofs.HeapPut.{held}
use Rattle.ic_arena.proofs.heap.Heap.give_back.Goals as goal

pub returns-clause-freed : goal.returns-clause-freed
returns-clause-freed c = λ s.
    let old : Inside = c.self.inside in
    let b : ℕ = c.args.block in
    let mark : Word = record { tag = FREE; index = old.free } in
    let freed = mark_written old.arity old.count b old.free old.words.items c.self.invariant
    (subst (λ (v : Blocks). b < v.count) (sym c.self.view_is) c.requires.there)
    (subst (λ (v : Blocks). ¬ ((first_word v b).tag ≡ FREE)) (sym c.self.view_is) c.requires.used) in
    subst (λ (v : Blocks). Replaced (block_piece (agent_word s b) (block_at v b)) [] (blocks_pieces s v)
    (blocks_pieces s (held old.arity old.count (slice_set old.words.items (b * old.arity) mark)))) c.self.view_is (freed.freed s)

pub invariant_of-self : goal.invariant_of-self
invariant_of-self c =
    let old : Inside = c.self.inside in
    let b : ℕ = c.args.block in
    (mark_written old.arity old.count b old.free old.words.items c.self.invariant
    (subst (λ (v : Blocks). b < v.count) (sym c.self.view_is) c.requires.there)
    (subst (λ (v : Blocks). ¬ ((first_word v b).tag ≡ FREE)) (sym c.self.view_is) c.requires.used)).kept
