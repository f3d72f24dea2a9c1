-- Lemmas: free places are found, whatever is done with the others.
use Rattle.std.proofs.Common.{◌≡◌, ℕ, zero, suc, ◌+◌, ◌-◌, ◌*◌, ◌<◌, ◌≤◌, List, [], ◌∷◌, ◌++◌, length, take, drop, refl, ap, sym, ◌∙◌, subst, arith, slice_set, slice_index_or}
use Rattle.std.proofs.Math.Nat.{suc-mul, zero-mul}
use Rattle.std.proofs.Math.Seq.{drop-append_seam, set-append_seam}
use Rattle.std.proofs.lemmas.List.{get_or-set_same, get_or-set_other, length-set, length-drop, drop-append-le, drop-drop, append-nil}
use Rattle.ic_arena.specs.declared.word.Word.{Word}
use Rattle.ic_arena.specs.declared.word.TheConstants.{FREE, IDLE, NONE}
use Rattle.ic_arena.specs.Tables.{entry}
use Rattle.ic_arena.specs.inner.Free.{AreUsed, AreFound, AreHeld, firsts}
use Rattle.ic_arena.proofs.Front.{front_below, front_read, front_set}
use Rattle.ic_arena.proofs.HeapPieces.{block_first, in_three, length_before, length_block}

-- a place that is written twice, and two places that are written
pub set_again : (ws : List Word) (i : ℕ) (v w : Word) → slice_set (slice_set ws i v) i w ≡ slice_set ws i w
set_again [] i v w = refl
set_again (x ∷ ws) zero v w = refl
set_again (x ∷ ws) (suc i) v w = ap (λ (l : List Word). x ∷ l) (set_again ws i v w)

pub set_both : (ws : List Word) (i j : ℕ) (v w : Word) → (i ≡ j → ⊥)
    → slice_set (slice_set ws i v) j w ≡ slice_set (slice_set ws j w) i v
set_both [] i j v w h = refl
set_both (x ∷ ws) zero zero v w h = absurd (h refl)
set_both (x ∷ ws) zero (suc j) v w h = refl
set_both (x ∷ ws) (suc i) zero v w h = refl
set_both (x ∷ ws) (suc i) (suc j) v w h =
    ap (λ (l : List Word). x ∷ l) (set_both ws i j v w (λ e. h (ap suc e)))

-- where no word is a mark, none is after one was written that isn't
pub used_set : (ws : List Word) (i : ℕ) (w : Word) → ¬ (w.tag ≡ FREE) → AreUsed ws → AreUsed (slice_set ws i w)
used_set [] i w h all = tt
used_set (x ∷ ws) zero w h all = (h, all.1)
used_set (x ∷ ws) (suc i) w h all = (all.0, used_set ws i w h all.1)

pub used_end : (ws : List Word) (w : Word) → ¬ (w.tag ≡ FREE) → AreUsed ws → AreUsed (ws ++ w ∷ [])
used_end [] w h all = (h, tt)
used_end (x ∷ ws) w h all = (all.0, used_end ws w h all.1)

-- a place that isn't free is written with what isn't a mark
pub found_set : (n : ℕ) (ws : List Word) (at i : ℕ) (w : Word) → i < length ws
    → ¬ ((entry ws i).tag ≡ FREE) → ¬ (w.tag ≡ FREE) → AreFound n ws at → AreFound n (slice_set ws i w) at
found_set zero ws at i w there used h found = (found.0, used_set ws i w h found.1)
found_set (suc n) ws at i w there used h found =
    let mark : Word = record { tag = IDLE; index = 0 } in
    let apart : at ≡ i → ⊥ = λ e. used (subst (λ (k : ℕ). (entry ws k).tag ≡ FREE) e found.1) in
    let same : entry (slice_set ws i w) at ≡ entry ws at =
    get_or-set_other ws i at w (record { tag = FREE; index = 0 }) apart in
    let other : entry (slice_set ws at mark) i ≡ entry ws i =
    get_or-set_other ws at i mark (record { tag = FREE; index = 0 }) (λ e. apart (sym e)) in
    let long : length (slice_set ws at mark) ≡ length ws = length-set ws at mark in
    let ih : AreFound n (slice_set (slice_set ws at mark) i w) (entry ws at).index =
    found_set n (slice_set ws at mark) (entry ws at).index i w (omega arith)
    (subst (λ (v : Word). ¬ (v.tag ≡ FREE)) (sym other) used) h found.2 in (
      (let l : length (slice_set ws i w) ≡ length ws = length-set ws i w in let b : at < length ws = found.0 in omega arith),
      subst (λ (v : Word). v.tag ≡ FREE) (sym same) found.1,
      subst (λ (v : Word). AreFound n (slice_set (slice_set ws i w) at mark) v.index) (sym same)
          (subst (λ (l : List Word). AreFound n l (entry ws at).index) (set_both ws at i mark w apart) ih),
    )

-- the free place that is found is used
pub found_used : (n : ℕ) (ws : List Word) (at : ℕ) (w : Word) → ¬ (w.tag ≡ FREE) → AreFound (suc n) ws at
    → AreFound n (slice_set ws at w) (entry ws at).index
found_used n ws at w h found =
    let mark : Word = record { tag = IDLE; index = 0 } in
    let long : length (slice_set ws at mark) ≡ length ws = length-set ws at mark in
    let there : at < length ws = found.0 in
    let same : entry (slice_set ws at mark) at ≡ mark =
    get_or-set_same ws at mark (record { tag = FREE; index = 0 }) there in
    subst (λ (l : List Word). AreFound n l (entry ws at).index) (set_again ws at mark w)
    (found_set n (slice_set ws at mark) (entry ws at).index at w (omega arith)
    (subst (λ (v : Word). ¬ (v.tag ≡ FREE)) (sym same) (λ e. omega arith)) h found.2)

-- a place that is freed is found first
pub found_freed : (n : ℕ) (ws : List Word) (at i : ℕ) → i < length ws → ¬ ((entry ws i).tag ≡ FREE)
    → AreFound n ws at → AreFound (suc n) (slice_set ws i (record { tag = FREE; index = at })) i
found_freed n ws at i there used found =
    let freed : Word = record { tag = FREE; index = at } in
    let mark : Word = record { tag = IDLE; index = 0 } in
    let long : length (slice_set ws i freed) ≡ length ws = length-set ws i freed in
    let same : entry (slice_set ws i freed) i ≡ freed =
    get_or-set_same ws i freed (record { tag = FREE; index = 0 }) there in (
      omega arith,
      ap (λ (v : Word). v.tag) same,
      subst (λ (k : ℕ). AreFound n (slice_set (slice_set ws i freed) i mark) k) (sym (ap (λ (v : Word). v.index) same))
          (subst (λ (l : List Word). AreFound n l at) (sym (set_again ws i freed mark))
          (found_set n ws at i mark there used (λ e. omega arith) found)),
    )

-- where none is found, none is free
pub found_none : (n : ℕ) (ws : List Word) (at : ℕ) → at ≡ NONE → length ws ≤ NONE → AreFound n ws at → AreUsed ws
found_none zero ws at none few found = found.1
found_none (suc n) ws at none few found = let there : at < length ws = found.0 in absurd (omega arith)

-- where one is found, some are free
pub found_some : (n : ℕ) (ws : List Word) (at : ℕ) → ¬ (at ≡ NONE) → AreFound n ws at
    → (k : ℕ) × AreFound (suc k) ws at
found_some zero ws at some found = absurd (some found.0)
found_some (suc k) ws at some found = (k, found)

-- ---- entries of names

-- one that isn't free is written with what isn't a mark
pub held_set : (n free : ℕ) (ws : List Word) (at i : ℕ) (w : Word) → AreHeld n free ws at → i < length (take n ws)
    → ¬ ((entry (take n ws) i).tag ≡ FREE) → ¬ (w.tag ≡ FREE) → AreHeld n free (slice_set ws i w) at
held_set n free ws at i w held there used h =
    let long : length (slice_set ws i w) ≡ length ws = length-set ws i w in
    let all : n ≤ length ws = held.there in
    record {
      there = omega arith;
      found = subst (λ (l : List Word). AreFound free l at) (sym (front_set n i ws w (front_below n i ws there)))
          (found_set free (take n ws) at i w there used h held.found);
    }

-- one is freed
pub held_freed : (n free : ℕ) (ws : List Word) (at i : ℕ) → AreHeld n free ws at → i < length (take n ws)
    → ¬ ((entry (take n ws) i).tag ≡ FREE)
    → AreHeld n (free + 1) (slice_set ws i (record { tag = FREE; index = at })) i
held_freed n free ws at i held there used =
    let mark : Word = record { tag = FREE; index = at } in
    let long : length (slice_set ws i mark) ≡ length ws = length-set ws i mark in
    let all : n ≤ length ws = held.there in
    let one : suc free ≡ free + 1 = omega arith in
    record {
      there = omega arith;
      found = subst (λ (l : List Word). AreFound (free + 1) l i) (sym (front_set n i ws mark (front_below n i ws there)))
          (subst (λ (m : ℕ). AreFound m (slice_set (take n ws) i mark) i) one
          (found_freed free (take n ws) at i there used held.found));
    }

-- the one that is found is there, and free
pub held_some : (n free : ℕ) (ws : List Word) (at : ℕ) → AreHeld n free ws at → ¬ (free ≡ 0)
    → AreFound (suc (free - 1)) (take n ws) at
held_some n free ws at held some =
    let more : free ≡ suc (free - 1) = omega arith in
    subst (λ (m : ℕ). AreFound m (take n ws) at) more held.found

-- it is used
pub held_used : (n free : ℕ) (ws : List Word) (at : ℕ) (w d : Word) → ¬ (w.tag ≡ FREE) → AreHeld n free ws at
    → ¬ (free ≡ 0) → AreHeld n (free - 1) (slice_set ws at w) (slice_index_or ws at d).index
held_used n free ws at w d h held some =
    let found : AreFound (suc (free - 1)) (take n ws) at = held_some n free ws at held some in
    let there : at < n = front_below n at ws found.0 in
    let long : length (slice_set ws at w) ≡ length ws = length-set ws at w in
    let all : n ≤ length ws = held.there in
    let next : entry (take n ws) at ≡ slice_index_or ws at d =
    front_read n at ws (record { tag = FREE; index = 0 }) d all there in
    record {
      there = omega arith;
      found = subst (λ (l : List Word). AreFound (free - 1) l (slice_index_or ws at d).index) (sym (front_set n at ws w there))
          (subst (λ (v : Word). AreFound (free - 1) (slice_set (take n ws) at w) v.index) next
          (found_used (free - 1) (take n ws) at w h found));
    }

-- ---- first words of blocks

pub firsts_length : (k n : ℕ) (ws : List Word) → length (firsts k n ws) ≡ n
firsts_length k zero ws = refl
firsts_length k (suc n) ws = ap suc (firsts_length k n (drop k ws))

-- those of blocks, and of others after them
pub firsts-append : (k j m n : ℕ) (a r : List Word) → 1 ≤ k → n ≡ j + m → length a ≡ j * k
    → firsts k n (a ++ r) ≡ firsts k j a ++ firsts k m r
firsts-append k zero m n [] r some e h = let same : n ≡ m = omega arith in rw same refl
firsts-append k zero m n (w ∷ a) r some e h = let none : 0 * k ≡ 0 = zero-mul k in absurd (omega arith)
firsts-append k (suc j) m zero a r some e h = absurd (omega arith)
firsts-append k (suc j) m (suc n) [] r some e h =
    let more : suc j * k ≡ j * k + k = suc-mul j k in absurd (omega arith)
firsts-append k (suc j) m (suc n) (w ∷ a) r some e h =
    let more : suc j * k ≡ j * k + k = suc-mul j k in
    let front : k ≤ length (w ∷ a) = omega arith in
    let rest : length (drop k (w ∷ a)) ≡ j * k = length-drop k (w ∷ a) ∙ omega arith in
    let ih : firsts k n (drop k (w ∷ a) ++ r) ≡ firsts k j (drop k (w ∷ a)) ++ firsts k m r =
    firsts-append k j m n (drop k (w ∷ a)) r some (omega arith) rest in
    rw (drop-append-le k (w ∷ a) r front, ih) refl

-- those of blocks, one of which begins with this word
pub firsts_apart : (k j m n : ℕ) (a v c : List Word) (y : Word) → 1 ≤ k → n ≡ j + suc m → length a ≡ j * k
    → length (y ∷ v) ≡ k → firsts k n (a ++ ((y ∷ v) ++ c)) ≡ firsts k j a ++ (y ∷ firsts k m c)
firsts_apart k j m n a v c y some e h block =
    let back : drop k ((y ∷ v) ++ c) ≡ c =
    subst (λ (l : ℕ). drop l ((y ∷ v) ++ c) ≡ c) block (drop-append_seam (y ∷ v) c) in
    firsts-append k j (suc m) n a ((y ∷ v) ++ c) some e h
    ∙ ap (λ (l : List Word). firsts k j a ++ (y ∷ firsts k m l)) back

-- the words of blocks, apart at one of them
pub record Apart (k j : ℕ) (ws : List Word) (first : Word) : Type 0 where
  pub rest : List Word
  pub parts : ws ≡ take (j * k) ws ++ ((first ∷ rest) ++ drop (j * k + k) ws)
  pub before : length (take (j * k) ws) ≡ j * k
  pub block : length (first ∷ rest) ≡ k

pub apart : (k j m n : ℕ) (ws : List Word) (d : Word) → n ≡ j + suc m → length ws ≡ n * k → 1 ≤ k
    → Apart k j ws (slice_index_or ws (j * k) d)
apart k j m n ws d e h some =
    let whole : length ws ≡ (j + suc m) * k = subst (λ (x : ℕ). length ws ≡ x * k) e h in
    let there : j * k < length ws = omega arith in
    let first : (rest : List Word) × (take k (drop (j * k) ws) ≡ slice_index_or ws (j * k) d ∷ rest) =
    block_first k (j * k) ws d some there in
    record {
      rest = first.0;
      parts = in_three (j * k) k ws
          ∙ (ap (λ (l : List Word). take (j * k) ws ++ (l ++ drop k (drop (j * k) ws))) first.1
          ∙ ap (λ (l : List Word). take (j * k) ws ++ ((slice_index_or ws (j * k) d ∷ first.0) ++ l)) (drop-drop k (j * k) ws));
      before = length_before k j m ws whole;
      block = sym (ap length first.1) ∙ length_block k j m ws whole;
    }

at_seam : (xs ys : List Word) (x : Word) (j : ℕ) → length xs ≡ j → entry (xs ++ x ∷ ys) j ≡ x
at_seam [] ys x zero h = refl
at_seam (v ∷ xs) ys x (suc j) h = at_seam xs ys x j (omega arith)
at_seam _ ys x _ h = absurd (omega arith)

-- the first word of a block
pub firsts_at : (k j m n : ℕ) (ws : List Word) (d : Word) → n ≡ j + suc m → length ws ≡ n * k → 1 ≤ k
    → entry (firsts k n ws) j ≡ slice_index_or ws (j * k) d
firsts_at k j m n ws d e h some =
    let at : Apart k j ws (slice_index_or ws (j * k) d) = apart k j m n ws d e h some in
    let a : List Word = take (j * k) ws in
    let c : List Word = drop (j * k + k) ws in
    ap (λ (l : List Word). entry (firsts k n l) j) at.parts
    ∙ (ap (λ (l : List Word). entry l j) (firsts_apart k j m n a at.rest c (slice_index_or ws (j * k) d) some e at.before at.block)
    ∙ at_seam (firsts k j a) (firsts k m c) (slice_index_or ws (j * k) d) j (firsts_length k j a))

-- a block that is written anew
pub firsts_put : (k j m n : ℕ) (ws vs : List Word) (v d : Word) → n ≡ j + suc m → length ws ≡ n * k → 1 ≤ k
    → length (v ∷ vs) ≡ k
    → firsts k n (take (j * k) ws ++ ((v ∷ vs) ++ drop (j * k + k) ws)) ≡ slice_set (firsts k n ws) j v
firsts_put k j m n ws vs v d e h some long =
    let x : Word = slice_index_or ws (j * k) d in
    let at : Apart k j ws x = apart k j m n ws d e h some in
    let a : List Word = take (j * k) ws in
    let c : List Word = drop (j * k + k) ws in
    let old : firsts k n ws ≡ firsts k j a ++ (x ∷ firsts k m c) =
    ap (firsts k n) at.parts ∙ firsts_apart k j m n a at.rest c x some e at.before at.block in
    firsts_apart k j m n a vs c v some e at.before long
    ∙ sym (ap (λ (l : List Word). slice_set l j v) old
    ∙ subst (λ (i : ℕ). slice_set (firsts k j a ++ (x ∷ firsts k m c)) i v ≡ firsts k j a ++ (v ∷ firsts k m c))
    (firsts_length k j a) (set-append_seam (firsts k j a) x (firsts k m c) v))

-- the first word of a block that is written alone
pub firsts_set : (k j m n : ℕ) (ws : List Word) (v d : Word) → n ≡ j + suc m → length ws ≡ n * k → 1 ≤ k
    → firsts k n (slice_set ws (j * k) v) ≡ slice_set (firsts k n ws) j v
firsts_set k j m n ws v d e h some =
    let x : Word = slice_index_or ws (j * k) d in
    let at : Apart k j ws x = apart k j m n ws d e h some in
    let a : List Word = take (j * k) ws in
    let c : List Word = drop (j * k + k) ws in
    let set : slice_set ws (j * k) v ≡ a ++ ((v ∷ at.rest) ++ c) =
    ap (λ (l : List Word). slice_set l (j * k) v) at.parts
    ∙ subst (λ (i : ℕ). slice_set (a ++ (x ∷ (at.rest ++ c))) i v ≡ a ++ (v ∷ (at.rest ++ c))) at.before
    (set-append_seam a x (at.rest ++ c) v) in
    ap (firsts k n) set ∙ firsts_put k j m n ws at.rest v d e h some at.block

-- a block after the last
pub firsts_end : (k n : ℕ) (ws vs : List Word) (v : Word) → length ws ≡ n * k → 1 ≤ k → length (v ∷ vs) ≡ k
    → firsts k (n + 1) (ws ++ (v ∷ vs)) ≡ firsts k n ws ++ v ∷ []
firsts_end k n ws vs v h some long =
    let one : n + 1 ≡ n + suc 0 = omega arith in
    ap (λ (l : List Word). firsts k (n + 1) (ws ++ l)) (sym (append-nil (v ∷ vs)))
    ∙ firsts_apart k n 0 (n + 1) ws vs [] v some one h long
