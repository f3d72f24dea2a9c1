-- Bytes of a file that a write leaves alone, and those that it writes.
use Rattle.std.proofs.Common.{◌≡◌, ◌⊎◌, ⊎_elim, ℕ, ◌+◌, ◌-◌, ◌<◌, ◌≤◌, List, [], ◌∷◌, length, get_or, drop, sym, ◌∙◌, ap, arith, length-drop}
use Rattle.std.proofs.lemmas.List.{ext_get_or, get_or-take, get_or-drop, length-take-le}
use Rattle.ic_disk.specs.Content.{bytes_at, laid}
use Rattle.ic_disk.specs.Images.{Torn}
use Rattle.ic_disk.specs.lemmas.ContentLaws.{length-laid, laid-inside}

pub length-bytes_at : (k n : ℕ) (a : List ℕ) → k + n ≤ length a → length (bytes_at k n a) ≡ n
length-bytes_at k n a within = length-take-le n (drop k a) (omega (arith, length-drop k a))

pub get_or-bytes_at : (k n i : ℕ) (a : List ℕ) → i < n → get_or (bytes_at k n a) i 0 ≡ get_or a (k + i) 0
get_or-bytes_at k n i a below = get_or-take n (drop k a) i 0 below ∙ get_or-drop k a i 0

-- a write elsewhere leaves these bytes
pub torn_bytes : (r m k n : ℕ) (a c : List ℕ) → Torn r m a c → k + n ≤ length a → (k + n ≤ r) ⊎ (r + m ≤ k) → bytes_at k n c ≡ bytes_at k n a
torn_bytes r m k n a c torn within apart = ext_get_or 0 (bytes_at k n c) (bytes_at k n a)
    (length-bytes_at k n c (omega (arith, torn.no_shorter)) ∙ sym (length-bytes_at k n a within))
    (λ i inside.
    let below : i < n = omega (arith, inside, length-bytes_at k n c (omega (arith, torn.no_shorter))) in
    get_or-bytes_at k n i c below
    ∙ ⊎_elim
    (λ before. torn.before (k + i) (omega (arith, below, within)) (omega (arith, below, before)))
    (λ after. torn.after (k + i) (omega (arith, below, within)) (omega (arith, after)))
    apart
    ∙ sym (get_or-bytes_at k n i a below))

-- the bytes that are laid
pub laid_bytes : (at : ℕ) (bytes a : List ℕ) → bytes_at at (length bytes) (laid at bytes a) ≡ bytes
laid_bytes at bytes a = ext_get_or 0 (bytes_at at (length bytes) (laid at bytes a)) bytes
    (length-bytes_at at (length bytes) (laid at bytes a) (omega (arith, length-laid at bytes a)))
    (λ i inside.
    let below : i < length bytes = omega (arith, inside, length-bytes_at at (length bytes) (laid at bytes a) (omega (arith, length-laid at bytes a))) in
    let there : at + i - at ≡ i = omega arith in
    get_or-bytes_at at (length bytes) i (laid at bytes a) below
    ∙ laid-inside at bytes a (at + i) (omega arith) (omega (arith, below))
    ∙ ap (λ (k : ℕ). get_or bytes k 0) there)

-- the one byte that is laid at the beginning
pub laid_first : (byte : ℕ) (a : List ℕ) → get_or (laid 0 (byte ∷ []) a) 0 0 ≡ byte
laid_first byte a = laid-inside 0 (byte ∷ []) a 0 (omega arith) (omega arith)

-- a write after the first byte leaves it
pub torn_first : (r m : ℕ) (a c : List ℕ) → Torn r m a c → 1 ≤ r → 1 ≤ length a → get_or c 0 0 ≡ get_or a 0 0
torn_first r m a c torn after some = torn.before 0 (omega (arith, some)) (omega (arith, after))
