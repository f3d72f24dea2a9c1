use Rattle.std.proofs.Common.{◌≡◌, ◌+◌, ◌≤◌, ◌++◌, ℕ, map, length, take, drop, sym, subst, ◌∙◌, arith, slice_set, slice_index_or}
use Rattle.std.proofs.lemmas.List.{length-set}
use Rattle.ic_arena.specs.Word.{name_word}
use Rattle.ic_arena.specs.Tables.{register}
use Rattle.ic_arena.proofs.HeapPieces.{write_more}
use Rattle.ic_arena.proofs.heap.write_each.Goals as goal

pub loop-operand-preserved : goal.loop-operand-preserved
loop-operand-preserved c =
    let old = c.args.words.now in
    let rs = c.args.registers.now in
    let ops = c.args.operands.now in
    let i : ℕ = c.loop-operand.operand-index in
    let room : c.args.at + length ops ≤ length old = omega (arith, c.requires.there) in
    record {
      place = omega arith;
      written = subst (λ (x : ℕ). slice_set c.loop-operand.words x (register rs (slice_index_or ops i 0))
          ≡ take c.args.at old ++ (map (register rs) (take (i + 1) ops) ++ drop (c.args.at + (i + 1)) old))
          (sym c.loop-operand.invariant.place)
          (write_more old rs ops c.args.at i c.loop-operand.words (name_word 0) c.loop-operand-test.true room
          c.loop-operand.invariant.written);
      len = length-set c.loop-operand.words c.loop-operand.place _ ∙ c.loop-operand.invariant.len;
    }
