use Rattle.std.proofs.Common.{◌≡◌, ◌+◌, ◌<◌, ◌≤◌, ℕ, List, length, arith, subst, slice_set, slice_index_or}
use Rattle.ic_arena.specs.declared.word.Word.{Word}
use Rattle.ic_arena.specs.Word.{name_word}
use Rattle.ic_arena.proofs.HeapPieces.{AreCopied, copied_none, copied_more, copied_all}
use Rattle.ic_arena.proofs.heap.copy.Goals as goal

copied_one : (old more : List Word) (at : ℕ) → 0 < length more → at + length more ≤ length old
    → AreCopied old more at 1 (slice_set old at (slice_index_or more 0 (name_word 0)))
copied_one old more at some room =
    let here : at + 0 ≡ at = omega arith in
    subst (λ (k : ℕ). AreCopied old more at 1 (slice_set old k (slice_index_or more 0 (name_word 0)))) here
    (copied_more old more at 0 old (name_word 0) some room (copied_none old more at))

pub returns-in-len1 : goal.returns-in-len1
returns-in-len1 c =
    let old = c.args.words.now in
    let more = c.args.more.now in
    let count : length more ≡ 1 = omega (arith, c.in-len1.len_at_least, c.in-len1.len_below) in
    record { copied = copied_all old more c.args.at 1 _ count (copied_one old more c.args.at (omega arith) c.requires.there) }

pub returns-in-len2 : goal.returns-in-len2
returns-in-len2 c =
    let old = c.args.words.now in
    let more = c.args.more.now in
    let count : length more ≡ 2 = omega (arith, c.in-len2.len_at_least, c.in-len2.len_below) in
    record {
      copied = copied_all old more c.args.at 2 _ count
          (copied_more old more c.args.at 1 _ (name_word 0) (omega arith) c.requires.there
          (copied_one old more c.args.at (omega arith) c.requires.there));
    }

pub returns-in-len3 : goal.returns-in-len3
returns-in-len3 c =
    let old = c.args.words.now in
    let more = c.args.more.now in
    let count : length more ≡ 3 = omega (arith, c.in-len3.len_at_least, c.in-len3.len_below) in
    record {
      copied = copied_all old more c.args.at 3 _ count
          (copied_more old more c.args.at 2 _ (name_word 0) (omega arith) c.requires.there
          (copied_more old more c.args.at 1 _ (name_word 0) (omega arith) c.requires.there
          (copied_one old more c.args.at (omega arith) c.requires.there)));
    }
