use Rattle.std.proofs.Common.{◌≡◌, ◌+◌, ◌≤◌, ℕ, List, [], ◌∷◌, ◌++◌, length, take, ap, sym, subst, ◌∙◌, arith, sum_by}
use Rattle.std.specs.List.{AllByRecursion}
use Rattle.std.proofs.lemmas.List.{length-append, take_more}
use Rattle.std.proofs.lemmas.List.Sums.{sum_by-append}
use Rattle.ic_arena.specs.Piece.{Piece}
use Rattle.ic_arena.specs.Tables.{Blocks, AreBlocks, names_pieces}
use Rattle.ic_machine.specs.inner.Firing.{heaps_pieces}
use Rattle.ic_machine.specs.lemmas.FiringKeeps.{all_append}
use Rattle.ic_machine.proofs.Standing.{heaps_more, names_few}
use Rattle.ic_machine.proofs.places.count_places.Goals as goal

pub loop-heap-init : goal.loop-heap-init
loop-heap-init c =
    let ns : List Piece = names_pieces 0 c.args.names.now.entries in
    let few : length ns ≤ length c.args.names.now.entries = names_few 0 c.args.names.now.entries in
    let len = length-append ns [] in
    let names = c.requires.names in
    record {
      few = omega (arith, c.len-count.ensures);
      sound = tt;
      is = omega (arith, c.len-count.ensures);
      fits = omega (arith, c.len-count.ensures);
    }

pub loop-heap-preserved : goal.loop-heap-preserved
loop-heap-preserved c =
    let ns : List Piece = names_pieces 0 c.args.names.now.entries in
    let hs : List Blocks = c.args.heaps.now in
    let i : ℕ = c.loop-heap.heap-index in
    let b : Blocks = c.heap-item.result in
    let front : List Blocks = take i hs in
    let more = take_more hs i b c.loop-heap-test.true ∙ ap (λ (x : Blocks). front ++ x ∷ []) (sym c.heap-item.is) in
    let grown = heaps_more 0 front b in
    let before = length-append ns (heaps_pieces 0 front) in
    let after = length-append ns (heaps_pieces 0 (front ++ b ∷ [])) in
    let few : length (ns ++ heaps_pieces 0 front) ≤ c.loop-heap.count = c.loop-heap.invariant.few in
    let all : length (ns ++ heaps_pieces 0 (front ++ b ∷ [])) ≤ c.loop-heap.count + c.count.result =
    omega (arith, c.count.ensures.count) in
    record {
      few = subst (λ (l : List Blocks). length (ns ++ heaps_pieces 0 l) ≤ c.loop-heap.count + c.count.result) (sym more) all;
      sound = subst (λ (l : List Blocks). AllByRecursion AreBlocks l) (sym more)
          (all_append AreBlocks front (b ∷ []) c.loop-heap.invariant.sound (c.count.ensures.sound, tt));
      is = let sums : sum_by (λ (x : Blocks). x.count) (take (i + 1) hs) ≡ sum_by (λ (x : Blocks). x.count) front + b.count =
          ap (sum_by (λ (x : Blocks). x.count)) more ∙ (sum_by-append (λ (x : Blocks). x.count) front (b ∷ []) ∙ omega arith) in
          let was = c.loop-heap.invariant.is in
          omega (arith, c.count.ensures.count);
      fits = omega (arith, c.loop-heap.invariant.fits);
    }
