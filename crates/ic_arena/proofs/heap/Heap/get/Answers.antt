use Rattle.std.proofs.Common.{◌≡◌, ℕ, suc, ◌+◌, ◌-◌, ◌*◌, ◌<◌, ◌≤◌, List, length, take, drop, ap, sym, ◌∙◌, subst, arith}
use Rattle.ic_arena.specs.declared.word.Word.{Word}
use Rattle.ic_arena.specs.Tables.{Blocks, block_at}
use Rattle.ic_arena.proofs.Front.{front_all, front_part}
use Rattle.ic_arena.proofs.HeapPieces.{block_within}
use Rattle.ic_arena.proofs.heap.Heap.get.Goals as goal

pub returns : goal.returns
returns c =
    let old = c.self.inside in
    let b : ℕ = c.args.block in
    let k : ℕ = old.arity in
    let n : ℕ = old.count in
    let below : b < n = subst (λ (v : Blocks). b < v.count) (sym c.self.view_is) c.requires in
    let e : n ≡ b + suc (n - suc b) = omega arith in
    let within : b * k + k ≤ n * k = block_within k b (n - suc b) n e in
    let all : n * k ≤ length old.words.items = front_all (n * k) old.words.items c.self.invariant.blocks.whole in
    let size : b * k + k - b * k ≡ k = omega arith in
    subst (λ (v : Blocks). take (b * k + k - b * k) (drop (b * k) c.deref.result.now) ≡ block_at v b) c.self.view_is
    (ap (λ (m : ℕ). take m (drop (b * k) c.deref.result.now)) size
    ∙ (ap (λ (l : List Word). take k (drop (b * k) l)) c.deref.ensures.value
    ∙ front_part (n * k) (b * k) k old.words.items all within))
