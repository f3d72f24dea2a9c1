-- Lemmas: how many pieces the tables hold, and when all places are in use.
use Rattle.std.proofs.Common.{◌≡◌, ℕ, zero, suc, ◌+◌, ◌*◌, ◌<◌, ◌≤◌, ◌==◌, List, [], ◌∷◌, ◌++◌, Bool, true, false, cond, length, take, drop, refl, ap, sym, ◌∙◌, arith, max, slice_set}
use Rattle.std.proofs.Math.Nat.{max-eq_left, max-eq_right, suc-mul}
use Rattle.std.proofs.lemmas.Bool.{ne_eqb}
use Rattle.std.proofs.lemmas.List.{length-append, length-drop, length-set}
use Rattle.ic_arena.specs.declared.word.Word.{Word}
use Rattle.ic_arena.specs.declared.word.TheConstants.{FREE, IDLE}
use Rattle.ic_arena.specs.Word.{agent_word, name_word}
use Rattle.ic_arena.specs.Piece.{Piece, idle, waits, agent_of}
use Rattle.ic_arena.specs.Tables.{Replaced, entry, entry_piece, names_pieces, block_piece, blocks_from}
use Rattle.ic_arena.specs.inner.Free.{AreFound, AreUsed, firsts}
use Rattle.ic_arena.proofs.Found.{found_freed, used_end}
use Rattle.ic_arena.proofs.NamesPieces.{opened_again}

-- as many as before, or as are in use
pub as_before : (old new used : ℕ) → new ≡ old → used ≤ new → new ≡ max old used
as_before old new used e le = e ∙ sym (max-eq_left (omega arith))

pub as_used : (old new used : ℕ) → new ≡ used → old ≤ used → new ≡ max old used
as_used old new used e le = e ∙ sym (max-eq_right le)

-- ---- names

entry_few : (i : ℕ) (w : Word) → length (entry_piece i w) ≤ 1
entry_few i w = by (w.tag == FREE) (w.tag == IDLE)
  where
    by : (b c : Bool) → length (cond b [] (cond c (idle (name_word i) ∷ []) (waits (name_word i) w ∷ []))) ≤ 1
    by true c = omega arith
    by false true = omega arith
    by false false = omega arith

pub names_few : (i : ℕ) (ws : List Word) → length (names_pieces i ws) ≤ length ws
names_few i [] = omega arith
names_few i (w ∷ ws) =
    let a = length-append (entry_piece i w) (names_pieces (i + 1) ws) in
    let b : length (entry_piece i w) ≤ 1 = entry_few i w in
    let c : length (names_pieces (i + 1) ws) ≤ length ws = names_few (i + 1) ws in
    omega arith

entry_used : (i : ℕ) (w : Word) → ¬ (w.tag ≡ FREE) → length (entry_piece i w) ≡ 1
entry_used i w h = by (w.tag == FREE) (w.tag == IDLE) (ne_eqb w.tag FREE h)
  where
    by : (b c : Bool) → b ≡ false → length (cond b [] (cond c (idle (name_word i) ∷ []) (waits (name_word i) w ∷ []))) ≡ 1
    by true c e = cc
    by false true e = refl
    by false false e = refl

pub names_full : (i : ℕ) (ws : List Word) → AreUsed ws → length (names_pieces i ws) ≡ length ws
names_full i [] all = refl
names_full i (w ∷ ws) all =
    let a = length-append (entry_piece i w) (names_pieces (i + 1) ws) in
    let b : length (entry_piece i w) ≡ 1 = entry_used i w all.0 in
    let c : length (names_pieces (i + 1) ws) ≡ length ws = names_full (i + 1) ws all.1 in
    omega arith

-- a free name was used
pub names_again : (ws : List Word) (i : ℕ) (w : Word)
    → length (slice_set ws i w) ≡ max (length ws) (length (names_pieces 0 (slice_set ws i w)))
names_again ws i w =
    as_before (length ws) (length (slice_set ws i w)) (length (names_pieces 0 (slice_set ws i w)))
    (length-set ws i w) (names_few 0 (slice_set ws i w))

-- there was none
pub names_more : (ws : List Word) (w : Word) → ¬ (w.tag ≡ FREE) → AreUsed ws
    → length (ws ++ w ∷ []) ≡ max (length ws) (length (names_pieces 0 (ws ++ w ∷ [])))
names_more ws w h all =
    let full : length (names_pieces 0 (ws ++ w ∷ [])) ≡ length (ws ++ w ∷ []) =
    names_full 0 (ws ++ w ∷ []) (used_end ws w h all) in
    let long = length-append ws (w ∷ []) in
    as_used (length ws) (length (ws ++ w ∷ [])) (length (names_pieces 0 (ws ++ w ∷ []))) (sym full) (omega arith)

one_longer : (p : Piece) (xs ys : List Piece) → Replaced [] (p ∷ []) xs ys → length ys ≡ length xs + 1
one_longer p xs ys r =
    let a : length xs ≡ length r.front + length r.back = ap length r.before ∙ length-append r.front r.back in
    let b : length ys ≡ length r.front + length (p ∷ r.back) = ap length r.after ∙ length-append r.front (p ∷ r.back) in
    omega arith

-- names in use, and those that are found free, are all
pub used_and_found : (n : ℕ) (ws : List Word) (at : ℕ) → AreFound n ws at → length (names_pieces 0 ws) + n ≡ length ws
used_and_found zero ws at found = let full = names_full 0 ws found.1 in omega arith
used_and_found (suc n) ws at found =
    let mark : Word = record { tag = IDLE; index = 0 } in
    let set : List Word = slice_set ws at mark in
    let long : length set ≡ length ws = length-set ws at mark in
    let rest : length (names_pieces 0 set) + n ≡ length set = used_and_found n set (entry ws at).index found.2 in
    let more : length (names_pieces 0 set) ≡ length (names_pieces 0 ws) + 1 =
    one_longer (idle (name_word at)) (names_pieces 0 ws) (names_pieces 0 set) (opened_again ws at 0 found.0 found.1) in
    omega arith

-- where a word waits, not all are free
pub some_used : (n : ℕ) (ws : List Word) (at i : ℕ) → i < length ws → ¬ ((entry ws i).tag ≡ FREE) → AreFound n ws at
    → n + 1 ≤ length ws
some_used n ws at i there used found =
    let freed : List Word = slice_set ws i (record { tag = FREE; index = at }) in
    let after = used_and_found (suc n) freed i (found_freed n ws at i there used found) in
    let long : length freed ≡ length ws = length-set ws i (record { tag = FREE; index = at }) in
    omega arith

-- ---- blocks

block_few : (a : Word) (ws : List Word) → length (block_piece a ws) ≤ 1
block_few a [] = omega arith
block_few a (w ∷ ws) = by (w.tag == FREE)
  where
    by : (b : Bool) → length (cond b [] (agent_of a (w ∷ ws) ∷ [])) ≤ 1
    by true = omega arith
    by false = omega arith

pub blocks_few : (s k i n : ℕ) (ws : List Word) → length (blocks_from s k i n ws) ≤ n
blocks_few s k i zero ws = omega arith
blocks_few s k i (suc n) ws =
    let a = length-append (block_piece (agent_word s i) (take k ws)) (blocks_from s k (i + 1) n (drop k ws)) in
    let b : length (block_piece (agent_word s i) (take k ws)) ≤ 1 = block_few (agent_word s i) (take k ws) in
    let c : length (blocks_from s k (i + 1) n (drop k ws)) ≤ n = blocks_few s k (i + 1) n (drop k ws) in
    omega arith

block_used : (a w : Word) (ws : List Word) → ¬ (w.tag ≡ FREE) → length (block_piece a (w ∷ ws)) ≡ 1
block_used a w ws h = by (w.tag == FREE) (ne_eqb w.tag FREE h)
  where
    by : (b : Bool) → b ≡ false → length (cond b [] (agent_of a (w ∷ ws) ∷ [])) ≡ 1
    by true e = cc
    by false e = refl

pub blocks_full : (s k i n : ℕ) (ws : List Word) → 1 ≤ k → length ws ≡ n * k → AreUsed (firsts k n ws)
    → length (blocks_from s k i n ws) ≡ n
blocks_full s k i zero ws some h all = refl
blocks_full s zero i (suc n) ws some h all = absurd (omega arith)
blocks_full s (suc k) i (suc n) [] some h all =
    let more : suc n * suc k ≡ n * suc k + suc k = suc-mul n (suc k) in absurd (omega arith)
blocks_full s (suc k) i (suc n) (w ∷ ws) some h all =
    let more : suc n * suc k ≡ n * suc k + suc k = suc-mul n (suc k) in
    let rest : length (drop k ws) ≡ n * suc k = length-drop k ws ∙ omega arith in
    let a = length-append (block_piece (agent_word s i) (w ∷ take k ws)) (blocks_from s (suc k) (i + 1) n (drop k ws)) in
    let b : length (block_piece (agent_word s i) (w ∷ take k ws)) ≡ 1 = block_used (agent_word s i) w (take k ws) all.0 in
    let c : length (blocks_from s (suc k) (i + 1) n (drop k ws)) ≡ n =
    blocks_full s (suc k) (i + 1) n (drop k ws) some rest all.1 in
    omega arith
