-- Lemmas: what is at each place of a file after a write.
use Rattle.std.proofs.Common.{◌≡◌, ℕ, ◌+◌, ◌-◌, ◌<◌, ◌≤◌, max, List, ◌++◌, length, get_or, take, drop, ⊎_elim, refl, sym, ◌∙◌, ap, arith, length-append, length-drop}
use Rattle.std.proofs.lemmas.Bool.{cases_lt}
use Rattle.std.proofs.lemmas.List.{get_or_past, get_or_append_left, get_or-append_right, get_or-take, get_or-drop, get_or-replicate, length-replicate, length-take-le}
use Rattle.std.specs.Prelude.{replicate}
use Rattle.ic_disk.specs.Content.{laid, filled_to}

pub length-filled_to : (at : ℕ) (file : List ℕ) → length (filled_to at file) ≡ length file + (at - length file)
length-filled_to at file = omega (arith, length-append file (replicate (at - length file) 0), length-replicate {A = ℕ} (at - length file) 0)

-- zeros are what a place past the end reads as
zeros_at : (n i : ℕ) → get_or {A = ℕ} (replicate {A = ℕ} n 0) i 0 ≡ 0
zeros_at n i = ⊎_elim (λ below. get_or-replicate n i 0 0 below) (λ past. get_or_past (replicate n 0) i 0 (omega (arith, length-replicate {A = ℕ} n 0))) (cases_lt i n)

pub filled_to-at : (at : ℕ) (file : List ℕ) (i : ℕ) → get_or (filled_to at file) i 0 ≡ get_or file i 0
filled_to-at at file i = ⊎_elim
    (λ below. get_or_append_left file (replicate (at - length file) 0) 0 i below)
    (λ past. get_or-append_right file (replicate (at - length file) 0) (length file) i 0 refl past ∙ zeros_at (at - length file) (i - length file) ∙ sym (get_or_past file i 0 past))
    (cases_lt i (length file))

-- how long what stands before the bytes is
length-front : (at : ℕ) (file : List ℕ) → length (take at (filled_to at file)) ≡ at
length-front at file = length-take-le at (filled_to at file) (omega (arith, length-filled_to at file))

pub length-laid : (at : ℕ) (bytes file : List ℕ) → length (laid at bytes file) ≡ max (length file) (at + length bytes)
unfolding laid
length-laid at bytes file =
    let front = take at (filled_to at file) in
    let back = drop (at + length bytes) file in
    omega (arith, length-append (front ++ bytes) back, length-append front bytes, length-front at file, length-drop (at + length bytes) file)

pub laid-before : (at : ℕ) (bytes file : List ℕ) (i : ℕ) → i < at → get_or (laid at bytes file) i 0 ≡ get_or file i 0
unfolding laid
laid-before at bytes file i before =
    let front = take at (filled_to at file) in
    let back = drop (at + length bytes) file in
    let short : i < length front = omega (arith, length-front at file) in
    get_or_append_left (front ++ bytes) back 0 i (omega (arith, length-append front bytes))
    ∙ get_or_append_left front bytes 0 i short
    ∙ get_or-take at (filled_to at file) i 0 before
    ∙ filled_to-at at file i

pub laid-inside : (at : ℕ) (bytes file : List ℕ) (i : ℕ) → at ≤ i → i < at + length bytes → get_or (laid at bytes file) i 0 ≡ get_or bytes (i - at) 0
unfolding laid
laid-inside at bytes file i from until =
    let front = take at (filled_to at file) in
    let back = drop (at + length bytes) file in
    get_or_append_left (front ++ bytes) back 0 i (omega (arith, length-append front bytes, length-front at file))
    ∙ get_or-append_right front bytes at i 0 (length-front at file) from

pub laid-after : (at : ℕ) (bytes file : List ℕ) (i : ℕ) → at + length bytes ≤ i → get_or (laid at bytes file) i 0 ≡ get_or file i 0
unfolding laid
laid-after at bytes file i past =
    let front = take at (filled_to at file) in
    let back = drop (at + length bytes) file in
    let here : length (front ++ bytes) ≡ at + length bytes = omega (arith, length-append front bytes, length-front at file) in
    let there : at + length bytes + (i - (at + length bytes)) ≡ i = omega arith in
    get_or-append_right (front ++ bytes) back (at + length bytes) i 0 here past
    ∙ get_or-drop (at + length bytes) file (i - (at + length bytes)) 0
    ∙ ap (λ (k : ℕ). get_or file k 0) there
