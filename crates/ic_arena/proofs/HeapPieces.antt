-- How the pieces of blocks change with their words.
use Rattle.std.proofs.Common.{◌≡◌, ℕ, zero, suc, ◌+◌, ◌-◌, ◌*◌, ◌<◌, ◌≤◌, ◌==◌, List, [], ◌∷◌, ◌++◌, false, length, map, take, drop, refl, ap, sym, ◌∙◌, subst, arith, append_assoc, zero-add, sum_by, slice_set, slice_index_or}
use Rattle.std.specs.List.{AllByRecursion}
use Rattle.std.proofs.Math.Nat.{suc-mul, zero-mul}
use Rattle.std.proofs.Math.Seq.{take-append_seam, drop-append_seam, drop-cons, set-append_seam}
use Rattle.std.proofs.lemmas.Bool.{ne_eqb}
use Rattle.std.proofs.lemmas.List.Sums.{sum_by-append}
use Rattle.std.proofs.lemmas.List.{append-nil, take-append-le, drop-append-le, length-append, length-drop, length-map, length-take-le, map-append, take_more, take_all, take-append-drop, drop-drop}
use Rattle.ic_arena.specs.declared.word.Word.{Word}
use Rattle.ic_arena.specs.declared.word.TheConstants.{FREE, IDLE}
use Rattle.ic_arena.specs.Word.{agent_word, name_word}
use Rattle.ic_arena.specs.Piece.{Piece, agent_of, room}
use Rattle.ic_arena.specs.Tables.{Replaced, Blocks, block_at, block_piece, blocks_from, register}
use Rattle.ic_arena.specs.lemmas.Rooms.{other_index, blocks_elsewhere}
use Rattle.ic_arena.proofs.NamesPieces.{replaced_as}

-- blocks, and those after them
pub blocks-append : (s k i j m n : ℕ) (a r : List Word) → n ≡ j + m → length a ≡ j * k
    → blocks_from s k i n (a ++ r) ≡ blocks_from s k i j a ++ blocks_from s k (i + j) m r
blocks-append s k i zero m n [] r e h =
    let same : n ≡ m = omega arith in
    let here : i + 0 ≡ i = omega arith in
    rw (same, here) refl
blocks-append s k i zero m n (w ∷ a) r e h =
    let none : 0 * k ≡ 0 = zero-mul k in
    absurd (omega arith)
blocks-append s k i (suc j) m zero a r e h = absurd (omega arith)
blocks-append s k i (suc j) m (suc n) a r e h =
    let more : suc j * k ≡ j * k + k = suc-mul j k in
    let front : k ≤ length a = omega arith in
    let fewer : n ≡ j + m = omega arith in
    let rest : length (drop k a) ≡ j * k = length-drop k a ∙ omega arith in
    let next : i + suc j ≡ (i + 1) + j = omega arith in
    let ih : blocks_from s k (i + 1) n (drop k a ++ r)
    ≡ blocks_from s k (i + 1) j (drop k a) ++ blocks_from s k ((i + 1) + j) m r =
    blocks-append s k (i + 1) j m n (drop k a) r fewer rest in
    rw (take-append-le k a r front, drop-append-le k a r front, ih, next)
    (sym (append_assoc (block_piece (agent_word s i) (take k a))
    (blocks_from s k (i + 1) j (drop k a)) (blocks_from s k ((i + 1) + j) m r)))

-- one block at the front of others
pub blocks-front : (s k i n : ℕ) (b c : List Word) → length b ≡ k
    → blocks_from s k i (suc n) (b ++ c)
    ≡ block_piece (agent_word s i) b ++ blocks_from s k (i + 1) n c
blocks-front s k i n b c h =
    let t : take k (b ++ c) ≡ b = subst (λ (l : ℕ). take l (b ++ c) ≡ b) h (take-append_seam b c) in
    let d : drop k (b ++ c) ≡ c = subst (λ (l : ℕ). drop l (b ++ c) ≡ c) h (drop-append_seam b c) in
    rw (t, d) refl

-- a block that is written anew
pub block_rewritten : (s k j m n : ℕ) (a b v c : List Word) → n ≡ j + suc m → length a ≡ j * k
    → length b ≡ k → length v ≡ k
    → Replaced (block_piece (agent_word s j) b) (block_piece (agent_word s j) v)
    (blocks_from s k 0 n (a ++ (b ++ c))) (blocks_from s k 0 n (a ++ (v ++ c)))
block_rewritten s k j m n a b v c e ha hb hv =
    let at : 0 + j ≡ j = zero-add j in record {
      front = blocks_from s k 0 j a;
      back = blocks_from s k (j + 1) m c;
      before = blocks-append s k 0 j (suc m) n a (b ++ c) e ha
          ∙ ap (λ l. blocks_from s k 0 j a ++ l)
          (ap (λ (p : ℕ). blocks_from s k p (suc m) (b ++ c)) at ∙ blocks-front s k j m b c hb);
      after = blocks-append s k 0 j (suc m) n a (v ++ c) e ha
          ∙ ap (λ l. blocks_from s k 0 j a ++ l)
          (ap (λ (p : ℕ). blocks_from s k p (suc m) (v ++ c)) at ∙ blocks-front s k j m v c hv);
    }

-- a block after the last
pub block_appended : (s k n : ℕ) (a v : List Word) → length a ≡ n * k → length v ≡ k
    → Replaced [] (block_piece (agent_word s n) v)
    (blocks_from s k 0 n a) (blocks_from s k 0 (n + 1) (a ++ v))
block_appended s k n a v ha hv =
    let at : 0 + n ≡ n = zero-add n in
    let one : n + 1 ≡ n + suc 0 = omega arith in
    let nothing : v ++ [] ≡ v = append-nil v in record {
      front = blocks_from s k 0 n a;
      back = [];
      before = sym (append-nil (blocks_from s k 0 n a));
      after = ap (λ l. blocks_from s k 0 (n + 1) (a ++ l)) (sym nothing)
          ∙ (blocks-append s k 0 n (suc 0) (n + 1) a (v ++ []) one ha
          ∙ ap (λ l. blocks_from s k 0 n a ++ l)
          (ap (λ (p : ℕ). blocks_from s k p (suc 0) (v ++ [])) at ∙ blocks-front s k n 0 v [] hv));
    }

-- a block whose first word isn't marked free says what it holds
pub taken_piece : (a w : Word) (ws : List Word) → w.tag < IDLE
    → block_piece a (w ∷ ws) ≡ agent_of a (w ∷ ws) ∷ []
taken_piece a w ws h =
    let not_free : (w.tag == FREE) ≡ false = ne_eqb _ _ (λ e. omega arith) in rw not_free refl

pub freed_piece : (a w : Word) (ws : List Word) → w.tag ≡ FREE → block_piece a (w ∷ ws) ≡ []
freed_piece a w ws h = rw h refl

-- the words of some blocks, with those before a block, its own and those after it apart
pub in_three : (at k : ℕ) (ws : List Word)
    → ws ≡ take at ws ++ (take k (drop at ws) ++ drop k (drop at ws))
in_three at k ws = sym (take-append-drop at ws)
    ∙ ap (λ (l : List Word). take at ws ++ l) (sym (take-append-drop k (drop at ws)))

pub length_before : (k j m : ℕ) (ws : List Word) → length ws ≡ (j + suc m) * k
    → length (take (j * k) ws) ≡ j * k
length_before k j m ws h =
    let less : j * k ≤ length ws = omega arith in length-take-le (j * k) ws less

pub length_block : (k j m : ℕ) (ws : List Word) → length ws ≡ (j + suc m) * k
    → length (take k (drop (j * k) ws)) ≡ k
length_block k j m ws h =
    let less : k ≤ length (drop (j * k) ws) = rw (length-drop (j * k) ws) (omega arith) in
    length-take-le k (drop (j * k) ws) less

-- the words of a block are within those of all
pub block_within : (k j m n : ℕ) → n ≡ j + suc m → j * k + k ≤ n * k
block_within k j m n e = rw e (omega arith)

-- a block has as many words as the arity
pub block_long : (b : Blocks) (i : ℕ) → length b.words ≡ b.count * b.arity → i < b.count
    → length (block_at b i) ≡ b.arity
block_long b i whole there =
    let m : ℕ = b.count - suc i in
    let e : b.count ≡ i + suc m = omega arith in
    length_block b.arity i m b.words (subst (λ (n : ℕ). length b.words ≡ n * b.arity) e whole)

-- a block is its first word and others
pub block_first : (k at : ℕ) (ws : List Word) (d : Word) → 1 ≤ k → at < length ws
    → (rest : List Word) × (take k (drop at ws) ≡ slice_index_or ws at d ∷ rest)
block_first zero at ws d some h = absurd (omega arith)
block_first (suc k) at ws d some h =
    (take k (drop (suc at) ws), ap (λ (l : List Word). take (suc k) l) (drop-cons ws at d h))

-- a block that is free says nothing
pub free_block : (s j k at : ℕ) (ws : List Word) (d : Word) → 1 ≤ k → at < length ws
    → (slice_index_or ws at d).tag ≡ FREE
    → block_piece (agent_word s j) (take k (drop at ws)) ≡ []
free_block s j k at ws d some h free =
    let parts : (rest : List Word) × (take k (drop at ws) ≡ slice_index_or ws at d ∷ rest) =
    block_first k at ws d some h in
    ap (block_piece (agent_word s j)) parts.1
    ∙ freed_piece (agent_word s j) (slice_index_or ws at d) parts.0 free

-- words of which none is a mark are those of an agent
pub agent_block : (a : Word) (vs : List Word) → 1 ≤ length vs → AllByRecursion (λ w. w.tag < IDLE) vs
    → block_piece a vs ≡ agent_of a vs ∷ []
agent_block a [] some words = absurd (omega arith)
agent_block a (v ∷ vs) some words = taken_piece a v vs words.0

-- a free block is used again
pub put_again : (s k j m n : ℕ) (ws vs : List Word) (d : Word) → n ≡ j + suc m → length ws ≡ n * k
    → 1 ≤ k → length vs ≡ k → AllByRecursion (λ w. w.tag < IDLE) vs
    → (slice_index_or ws (j * k) d).tag ≡ FREE
    → Replaced [] (agent_of (agent_word s j) vs ∷ []) (blocks_from s k 0 n ws)
    (blocks_from s k 0 n (take (j * k) ws ++ (vs ++ drop (j * k + k) ws)))
put_again s k j m n ws vs d e h some hv words free =
    let whole : length ws ≡ (j + suc m) * k = subst (λ (x : ℕ). length ws ≡ x * k) e h in
    let before : length (take (j * k) ws) ≡ j * k = length_before k j m ws whole in
    let block : length (take k (drop (j * k) ws)) ≡ k = length_block k j m ws whole in
    let there : j * k < length ws = omega arith in
    let none : block_piece (agent_word s j) (take k (drop (j * k) ws)) ≡ [] =
    free_block s j k (j * k) ws d some there free in
    let some_words : 1 ≤ length vs = omega arith in
    let r = block_rewritten s k j m n (take (j * k) ws) (take k (drop (j * k) ws)) vs
    (drop k (drop (j * k) ws)) e before block hv in
    let back : drop k (drop (j * k) ws) ≡ drop (j * k + k) ws = drop-drop k (j * k) ws in
    let s1 = replaced_as _ _ _ _ _ _ none (agent_block (agent_word s j) vs some_words words) r in
    let s2 = subst (λ (l : List Word). Replaced [] (agent_of (agent_word s j) vs ∷ [])
    (blocks_from s k 0 n l)
    (blocks_from s k 0 n (take (j * k) ws ++ (vs ++ drop k (drop (j * k) ws)))))
    (sym (in_three (j * k) k ws)) s1 in
    subst (λ (l : List Word). Replaced [] (agent_of (agent_word s j) vs ∷ [])
    (blocks_from s k 0 n ws) (blocks_from s k 0 n (take (j * k) ws ++ (vs ++ l)))) back s2

-- a block after the last
pub put_after : (s k n : ℕ) (ws vs : List Word) → length ws ≡ n * k → 1 ≤ k → length vs ≡ k
    → AllByRecursion (λ w. w.tag < IDLE) vs
    → Replaced [] (agent_of (agent_word s n) vs ∷ []) (blocks_from s k 0 n ws)
    (blocks_from s k 0 (n + 1) (ws ++ vs))
put_after s k n ws vs h some hv words =
    let some_words : 1 ≤ length vs = omega arith in
    replaced_as _ _ _ _ _ _ refl (agent_block (agent_word s n) vs some_words words)
    (block_appended s k n ws vs h hv)

-- a block is freed
pub block_freed : (s k j m n i : ℕ) (ws : List Word) → n ≡ j + suc m → length ws ≡ n * k → 1 ≤ k
    → Replaced (block_piece (agent_word s j) (take k (drop (j * k) ws))) []
    (blocks_from s k 0 n ws)
    (blocks_from s k 0 n (slice_set ws (j * k) (record { tag = FREE; index = i })))
block_freed s zero j m n i ws e h some = absurd (omega arith)
block_freed s (suc k) j m n i ws e h some =
    let whole : length ws ≡ (j + suc m) * suc k = subst (λ (x : ℕ). length ws ≡ x * suc k) e h in
    let before : length (take (j * suc k) ws) ≡ j * suc k = length_before (suc k) j m ws whole in
    let block : length (take (suc k) (drop (j * suc k) ws)) ≡ suc k =
    length_block (suc k) j m ws whole in
    let mark : Word = record { tag = FREE; index = i } in
    let there : j * suc k < length ws = omega arith in
    let at : ℕ = j * suc k in
    let first : Word = slice_index_or ws at mark in
    let rest : List Word = take k (drop (suc at) ws) in
    let c : List Word = drop (suc k) (drop at ws) in
    let is : take (suc k) (drop at ws) ≡ first ∷ rest =
    ap (λ (l : List Word). take (suc k) l) (drop-cons ws at mark there) in
    let parts : ws ≡ take at ws ++ ((first ∷ rest) ++ c) = in_three at (suc k) ws
    ∙ ap (λ (l : List Word). take at ws ++ (l ++ c)) is in
    let set : slice_set ws at mark ≡ take at ws ++ ((mark ∷ rest) ++ c) =
    ap (λ (l : List Word). slice_set l at mark) parts
    ∙ subst (λ (x : ℕ). slice_set (take at ws ++ (first ∷ (rest ++ c))) x mark
    ≡ take at ws ++ (mark ∷ (rest ++ c))) before (set-append_seam (take at ws) first (rest ++ c) mark) in
    let b1 : length (first ∷ rest) ≡ suc k = sym (ap length is) ∙ block in
    let b2 : length (mark ∷ rest) ≡ suc k = b1 in
    let r = block_rewritten s (suc k) j m n (take at ws) (first ∷ rest) (mark ∷ rest) c e before b1 b2 in
    let s1 = replaced_as _ _ _ _ _ _ (ap (block_piece (agent_word s j)) (sym is)) refl r in
    let s2 = subst (λ (l : List Word). Replaced (block_piece (agent_word s j) (take (suc k) (drop at ws))) []
    (blocks_from s (suc k) 0 n l)
    (blocks_from s (suc k) 0 n (take at ws ++ ((mark ∷ rest) ++ c)))) (sym parts) s1 in
    subst (λ (l : List Word). Replaced (block_piece (agent_word s j) (take (suc k) (drop at ws))) []
    (blocks_from s (suc k) 0 n ws) (blocks_from s (suc k) 0 n l)) (sym set) s2

-- one more word is written, after others that are
pub put_next : (old vs : List Word) (at i : ℕ) (v d : Word) → length vs ≡ i → at + i < length old
    → slice_set (take at old ++ (vs ++ drop (at + i) old)) (at + i) v
    ≡ take at old ++ ((vs ++ v ∷ []) ++ drop (at + (i + 1)) old)
put_next old vs at i v d long there =
    let front : List Word = take at old ++ vs in
    let y : Word = slice_index_or old (at + i) d in
    let seam : drop (at + i) old ≡ y ∷ drop (suc (at + i)) old = drop-cons old (at + i) d there in
    let len : length front ≡ at + i = length-append (take at old) vs ∙ (rw (length-take-le at old (omega arith), long) refl) in
    let parts : take at old ++ (vs ++ drop (at + i) old) ≡ front ++ (y ∷ drop (suc (at + i)) old) =
    ap (λ (l : List Word). take at old ++ (vs ++ l)) seam
    ∙ sym (append_assoc (take at old) vs (y ∷ drop (suc (at + i)) old)) in
    let set : slice_set (take at old ++ (vs ++ drop (at + i) old)) (at + i) v ≡ front ++ (v ∷ drop (suc (at + i)) old) =
    ap (λ (l : List Word). slice_set l (at + i) v) parts
    ∙ subst (λ (x : ℕ). slice_set (front ++ (y ∷ drop (suc (at + i)) old)) x v
    ≡ front ++ (v ∷ drop (suc (at + i)) old)) len (set-append_seam front y (drop (suc (at + i)) old) v) in
    let next : suc (at + i) ≡ at + (i + 1) = omega arith in
    set ∙ (append_assoc (take at old) vs (v ∷ drop (suc (at + i)) old)
    ∙ ap (λ (l : List Word). take at old ++ l)
    (sym (append_assoc vs (v ∷ []) (drop (suc (at + i)) old)) ∙ (rw next refl)))

-- one more word of registers
pub write_more : (old rs : List Word) (ops : List ℕ) (at i : ℕ) (ws : List Word) (d : Word)
    → i < length ops → at + length ops ≤ length old
    → ws ≡ take at old ++ (map (register rs) (take i ops) ++ drop (at + i) old)
    → slice_set ws (at + i) (register rs (slice_index_or ops i 0))
    ≡ take at old ++ (map (register rs) (take (i + 1) ops) ++ drop (at + (i + 1)) old)
write_more old rs ops at i ws d h room is =
    let v : Word = register rs (slice_index_or ops i 0) in
    let vs : List Word = map (register rs) (take i ops) in
    let long : length vs ≡ i = length-map (take i ops) (register rs) ∙ length-take-le i ops (omega arith) in
    let more : map (register rs) (take (i + 1) ops) ≡ vs ++ (v ∷ []) =
    ap (map (register rs)) (take_more ops i 0 h) ∙ map-append (register rs) (take i ops) (slice_index_or ops i 0 ∷ []) in
    ap (λ (l : List Word). slice_set l (at + i) v) is
    ∙ (put_next old vs at i v d long (omega arith)
    ∙ ap (λ (l : List Word). take at old ++ (l ++ drop (at + (i + 1)) old)) (sym more))

-- so many words, the first ones, stand from a place on
abbrev pub AreCopied : (old more : List Word) (at n : ℕ) (ws : List Word) → Type 0
AreCopied old more at n ws = ws ≡ take at old ++ (take n more ++ drop (at + n) old)

pub copied_none : (old more : List Word) (at : ℕ) → AreCopied old more at 0 old
copied_none old more at =
    let here : at + 0 ≡ at = omega arith in
    sym (ap (λ (k : ℕ). take at old ++ drop k old) here ∙ take-append-drop at old)

-- one more is copied
pub copied_more : (old more : List Word) (at i : ℕ) (ws : List Word) (d : Word)
    → i < length more → at + length more ≤ length old → AreCopied old more at i ws
    → AreCopied old more at (i + 1) (slice_set ws (at + i) (slice_index_or more i d))
copied_more old more at i ws d h room is =
    let v : Word = slice_index_or more i d in
    let long : length (take i more) ≡ i = length-take-le i more (omega arith) in
    ap (λ (l : List Word). slice_set l (at + i) v) is
    ∙ (put_next old (take i more) at i v d long (omega arith)
    ∙ ap (λ (l : List Word). take at old ++ (l ++ drop (at + (i + 1)) old)) (sym (take_more more i d h)))

pub copied_all : (old more : List Word) (at n : ℕ) (ws : List Word) → length more ≡ n → AreCopied old more at n ws
    → ws ≡ take at old ++ (more ++ drop (at + length more) old)
copied_all old more at n ws count is =
    let same : take n more ≡ more = take_all n more (omega arith) in
    is ∙ (ap (λ (l : List Word). take at old ++ (l ++ drop (at + n) old)) same
    ∙ ap (λ (k : ℕ). take at old ++ (more ++ drop (at + k) old)) (sym count))

-- what stands before, and the words that were copied
pub copied_front : (old more : List Word) (at : ℕ) (ws : List Word) → at ≤ length old
    → ws ≡ take at old ++ (more ++ drop (at + length more) old) → take (at + length more) ws ≡ take at old ++ more
copied_front old more at ws room is =
    let front : List Word = take at old ++ more in
    let back : List Word = drop (at + length more) old in
    let long : length front ≡ at + length more =
    length-append (take at old) more ∙ (rw (length-take-le at old room) refl) in
    let parts : ws ≡ front ++ back = is ∙ sym (append_assoc (take at old) more back) in
    ap (take (at + length more)) parts
    ∙ subst (λ (n : ℕ). take n (front ++ back) ≡ front) long (take-append_seam front back)

-- what holds of each of a list holds at each place
pub all_at : (P : Word → Type 0) (ws : List Word) (k : ℕ) (d : Word) → AllByRecursion P ws → k < length ws
    → P (slice_index_or ws k d)
all_at P [] k d a h = absurd (omega arith)
all_at P (w ∷ ws) zero d a h = a.0
all_at P (w ∷ ws) (suc k) d a h = all_at P ws k d a.1 (omega arith)

-- words that are read from registers
pub read_words : (rs : List Word) (ops : List ℕ) → AllByRecursion (λ k. k < length rs) ops
    → AllByRecursion (λ w. w.tag < IDLE) rs → AllByRecursion (λ w. w.tag < IDLE) (map (register rs) ops)
read_words rs [] filled words = tt
read_words rs (k ∷ ops) filled words =
    (all_at (λ w. w.tag < IDLE) rs k (name_word 0) words filled.0, read_words rs ops filled.1 words)

-- a free block gives its place no room
pub free_room : (s k j m n : ℕ) (ws : List Word) (d : Word) → n ≡ j + suc m → length ws ≡ n * k → 1 ≤ k
    → (slice_index_or ws (j * k) d).tag ≡ FREE
    → sum_by (room (agent_word s j)) (blocks_from s k 0 n ws) ≡ 0
free_room s k j m n ws d e h some free =
    let whole : length ws ≡ (j + suc m) * k = subst (λ (x : ℕ). length ws ≡ x * k) e h in
    let before : length (take (j * k) ws) ≡ j * k = length_before k j m ws whole in
    let block : length (take k (drop (j * k) ws)) ≡ k = length_block k j m ws whole in
    let there : j * k < length ws = omega arith in
    let v : Word = agent_word s j in
    let a : List Word = take (j * k) ws in
    let b : List Word = take k (drop (j * k) ws) in
    let c : List Word = drop k (drop (j * k) ws) in
    let none : block_piece v b ≡ [] = free_block s j k (j * k) ws d some there free in
    let at : 0 + j ≡ j = zero-add j in
    let parts : blocks_from s k 0 n ws ≡ blocks_from s k 0 j a ++ (block_piece v b ++ blocks_from s k (j + 1) m c) =
    ap (blocks_from s k 0 n) (in_three (j * k) k ws)
    ∙ (blocks-append s k 0 j (suc m) n a (b ++ c) e before
    ∙ ap (λ (l : List Piece). blocks_from s k 0 j a ++ l)
    (ap (λ (p : ℕ). blocks_from s k p (suc m) (b ++ c)) at ∙ blocks-front s k j m b c block)) in
    let left : sum_by (room v) (blocks_from s k 0 j a) ≡ 0 =
    blocks_elsewhere v s k 0 j a (λ p le lt. other_index v (agent_word s p) (λ q. omega arith)) in
    let right : sum_by (room v) (blocks_from s k (j + 1) m c) ≡ 0 =
    blocks_elsewhere v s k (j + 1) m c (λ p le lt. other_index v (agent_word s p) (λ q. omega arith)) in
    ap (sum_by (room v)) parts
    ∙ (rw none (sum_by-append (room v) (blocks_from s k 0 j a) (blocks_from s k (j + 1) m c) ∙ omega arith))

-- there is no room for a place after the last
pub room_after : (s k n : ℕ) (ws : List Word) → sum_by (room (agent_word s n)) (blocks_from s k 0 n ws) ≡ 0
room_after s k n ws = blocks_elsewhere (agent_word s n) s k 0 n ws
    (λ p le lt. other_index (agent_word s n) (agent_word s p) (λ q. omega arith))

-- where a block is there, a block has words
pub has_words : (k n b : ℕ) → (k ≡ 0 → n ≡ 0) → b < n → 1 ≤ k
has_words zero n b h there = let none : n ≡ 0 = h refl in absurd (omega arith)
has_words (suc k) n b h there = omega arith
