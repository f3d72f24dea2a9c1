-- Lemmas: the first words of a list, those that are used, and what is done to them in the whole list.
use Rattle.std.proofs.Common.{◌≡◌, ℕ, zero, suc, ◌+◌, ◌<◌, ◌≤◌, List, [], ◌∷◌, ◌++◌, length, take, drop, refl, ap, sym, ◌∙◌, arith, append_assoc, slice_set, slice_index_or}
use Rattle.std.proofs.Math.Seq.{take-set-lt}
use Rattle.std.proofs.lemmas.List.{length-append, length-drop, length-take, length-take-le, get_or-take, take-append-drop, take-append-le, drop-append-le, take_at}
use Rattle.ic_arena.specs.declared.word.Word.{Word}

-- a place of the first ones
pub front_below : (n i : ℕ) (ws : List Word) → i < length (take n ws) → i < n
front_below n i ws there = let long = length-take n ws in omega arith

-- there are as many as are taken
pub front_all : (n : ℕ) (ws : List Word) → length (take n ws) ≡ n → n ≤ length ws
front_all n ws all = let long = length-take n ws in omega arith

any_default : (ws : List Word) (i : ℕ) (d e : Word) → i < length ws → slice_index_or ws i d ≡ slice_index_or ws i e
any_default [] i d e there = absurd (omega arith)
any_default (w ∷ ws) zero d e there = refl
any_default (w ∷ ws) (suc i) d e there = any_default ws i d e (omega arith)

-- one of them is read
pub front_read : (n i : ℕ) (ws : List Word) (d e : Word) → n ≤ length ws → i < n
    → slice_index_or (take n ws) i d ≡ slice_index_or ws i e
front_read n i ws d e all there = get_or-take n ws i d there ∙ any_default ws i d e (omega arith)

-- one of them is written
pub front_set : (n i : ℕ) (ws : List Word) (w : Word) → i < n → take n (slice_set ws i w) ≡ slice_set (take n ws) i w
front_set n i ws w there = take-set-lt n ws i w there

-- some of them are written
pub front_written : (n at : ℕ) (ws vs : List Word) → n ≤ length ws → at + length vs ≤ n
    → take n (take at ws ++ (vs ++ drop (at + length vs) ws))
    ≡ take at (take n ws) ++ (vs ++ drop (at + length vs) (take n ws))
front_written n at ws vs all there =
    let front : List Word = take n ws in
    let back : List Word = drop n ws in
    let k : ℕ = at + length vs in
    let long : length front ≡ n = length-take-le n ws all in
    let new : List Word = take at front ++ (vs ++ drop k front) in
    let size : length new ≡ n =
    length-append (take at front) (vs ++ drop k front)
    ∙ (rw (length-take-le at front (omega arith), length-append vs (drop k front), length-drop k front, long) (omega arith)) in
    let parts : take at ws ++ (vs ++ drop k ws) ≡ new ++ back =
    ap (λ (l : List Word). take at l ++ (vs ++ drop k l)) (sym (take-append-drop n ws))
    ∙ (rw (take-append-le at front back (omega arith), drop-append-le k front back (omega arith))
    (ap (λ (l : List Word). take at front ++ l) (sym (append_assoc vs (drop k front) back))
    ∙ sym (append_assoc (take at front) (vs ++ drop k front) back))) in
    ap (take n) parts ∙ take_at new back n size

-- there are as many then as before
pub written_length : (at : ℕ) (ws vs : List Word) → at + length vs ≤ length ws
    → length (take at ws ++ (vs ++ drop (at + length vs) ws)) ≡ length ws
written_length at ws vs there =
    let back : List Word = drop (at + length vs) ws in
    length-append (take at ws) (vs ++ back)
    ∙ (rw (length-take-le at ws (omega arith), length-append vs back, length-drop (at + length vs) ws) (omega arith))

-- a part of them
pub front_part : (n at k : ℕ) (ws : List Word) → n ≤ length ws → at + k ≤ n
    → take k (drop at ws) ≡ take k (drop at (take n ws))
front_part n at k ws all there =
    let front : List Word = take n ws in
    let back : List Word = drop n ws in
    let long : length front ≡ n = length-take-le n ws all in
    let rest : k ≤ length (drop at front) = rw (length-drop at front) (omega arith) in
    ap (λ (l : List Word). take k (drop at l)) (sym (take-append-drop n ws))
    ∙ (rw (drop-append-le at front back (omega arith)) (take-append-le k (drop at front) back rest))
