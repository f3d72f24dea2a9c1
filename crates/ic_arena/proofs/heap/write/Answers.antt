use Rattle.std.proofs.Common.{◌≡◌, ◌+◌, ◌<◌, ◌≤◌, ◌++◌, ℕ, List, map, length, take, drop, ap, sym, ◌∙◌, subst, arith, slice_set, slice_index_or}
use Rattle.std.proofs.lemmas.List.{take-append-drop, take_all}
use Rattle.ic_arena.specs.declared.word.Word.{Word}
use Rattle.ic_arena.specs.Word.{name_word}
use Rattle.ic_arena.specs.Tables.{register}
use Rattle.ic_arena.proofs.HeapPieces.{write_more}
use Rattle.ic_arena.proofs.heap.write.Goals as goal

-- the words of so many registers, the first ones, are written
abbrev Writes : (old rs : List Word) (ops : List ℕ) (at n : ℕ) (ws : List Word) → Type 0
Writes old rs ops at n ws = ws ≡ take at old ++ (map (register rs) (take n ops) ++ drop (at + n) old)

writes_one : (old rs : List Word) (ops : List ℕ) (at : ℕ) → 0 < length ops → at + length ops ≤ length old
    → Writes old rs ops at 1 (slice_set old at (register rs (slice_index_or ops 0 0)))
writes_one old rs ops at some room =
    let here : at + 0 ≡ at = omega arith in
    let none : Writes old rs ops at 0 old = sym (ap (λ (k : ℕ). take at old ++ drop k old) here ∙ take-append-drop at old) in
    subst (λ (k : ℕ). Writes old rs ops at 1 (slice_set old k (register rs (slice_index_or ops 0 0)))) here
    (write_more old rs ops at 0 old (name_word 0) some room none)

writes_all : (old rs : List Word) (ops : List ℕ) (at n : ℕ) (ws : List Word) → length ops ≡ n → Writes old rs ops at n ws
    → ws ≡ take at old ++ (map (register rs) ops ++ drop (at + length ops) old)
writes_all old rs ops at n ws count is =
    let same : take n ops ≡ ops = take_all n ops (omega arith) in
    is ∙ (ap (λ (l : List ℕ). take at old ++ (map (register rs) l ++ drop (at + n) old)) same
    ∙ ap (λ (k : ℕ). take at old ++ (map (register rs) ops ++ drop (at + k) old)) (sym count))

pub returns-then-count-lt2 : goal.returns-then-count-lt2
returns-then-count-lt2 c =
    let old = c.args.words.now in
    let rs = c.args.registers.now in
    let ops = c.args.operands.now in
    let room : c.args.at + length ops ≤ length old = omega (arith, c.requires.there) in
    let count : length ops ≡ 1 = omega (arith, c.if-count-lt2.true, c.requires.some) in
    record { written = writes_all old rs ops c.args.at 1 _ count (writes_one old rs ops c.args.at (omega arith) room) }

pub returns-then-count-eq2 : goal.returns-then-count-eq2
returns-then-count-eq2 c =
    let old = c.args.words.now in
    let rs = c.args.registers.now in
    let ops = c.args.operands.now in
    let room : c.args.at + length ops ≤ length old = omega (arith, c.requires.there) in
    let count : length ops ≡ 2 = omega (arith, c.if-count-eq2.true) in
    record {
      written = writes_all old rs ops c.args.at 2 _ count
          (write_more old rs ops c.args.at 1 _ (name_word 0) (omega arith) room (writes_one old rs ops c.args.at (omega arith) room));
    }

pub returns-then-count-eq3 : goal.returns-then-count-eq3
returns-then-count-eq3 c =
    let old = c.args.words.now in
    let rs = c.args.registers.now in
    let ops = c.args.operands.now in
    let room : c.args.at + length ops ≤ length old = omega (arith, c.requires.there) in
    let count : length ops ≡ 3 = omega (arith, c.if-count-eq3.true) in
    record {
      written = writes_all old rs ops c.args.at 3 _ count
          (write_more old rs ops c.args.at 2 _ (name_word 0) (omega arith) room
          (write_more old rs ops c.args.at 1 _ (name_word 0) (omega arith) room
          (writes_one old rs ops c.args.at (omega arith) room)));
    }
