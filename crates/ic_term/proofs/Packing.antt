-- Bytes that are packed from the last one on.
use Rattle.std.proofs.Common.{◌≡◌, ℕ, zero, suc, ◌+◌, ◌*◌, ◌-◌, ◌^◌, ◌<◌, ◌≤◌, List, [], ◌∷◌, drop, length, slice_index_or, refl, ap, ◌∙◌, arith}
use Rattle.std.proofs.lemmas.Nat.{pow-add}
use Rattle.std.proofs.Math.Pow.{pow_mono}
use Rattle.ic_term.specs.inner.Keys.{packed}

packed_at : (bytes : List ℕ) (j : ℕ) → j < length bytes → packed (drop j bytes) ≡ packed (drop (suc j) bytes) * 256 + slice_index_or bytes j 0
packed_at [] j within = absurd (omega arith)
packed_at (b ∷ bytes) zero within = refl
packed_at (b ∷ bytes) (suc j) within = packed_at bytes j (omega arith)

-- one byte more
pub packed_back : (bytes : List ℕ) (i : ℕ) → 0 < i → i ≤ length bytes → packed (drop (i - 1) bytes) ≡ packed (drop i bytes) * 256 + slice_index_or bytes (i - 1) 0
packed_back bytes zero some within = absurd (omega arith)
packed_back bytes (suc j) some within = let e : suc j - 1 ≡ j = omega arith in rw e (packed_at bytes j (omega arith))

digits : (k : ℕ) → 2 ^ (8 * (k + 1)) ≡ 2 ^ (8 * k) * 256
digits k = let more : 8 * (k + 1) ≡ 8 * k + 8 = omega arith in ap (λ n. 2 ^ n) more ∙ pow-add 2 (8 * k) 8

-- it stays below as many digits
pub stays_low : (length i number byte : ℕ) → 0 < i → i ≤ length → number < 2 ^ (8 * (length - i)) → byte < 256 → number * 256 + byte < 2 ^ (8 * (length - (i - 1)))
stays_low length i number byte some within low byte_low =
    let k = length - i in
    let e : length - (i - 1) ≡ k + 1 = omega arith in
    rw e (rw (digits k) (omega (arith, low, byte_low)))

pub fits : (length i number byte : ℕ) → length ≤ 16 → 0 < i → i ≤ length → number < 2 ^ (8 * (length - i)) → byte < 256 → number * 256 + byte < 2 ^ 128
fits length i number byte short some within low byte_low =
    let few : 8 * (length - (i - 1)) ≤ 128 = omega arith in
    omega (arith, stays_low length i number byte some within low byte_low, pow_mono few)
