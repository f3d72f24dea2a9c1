-- The first of the spare numbers.
use Rattle.std.proofs.Common.{◌≡◌, ℕ, zero, suc, ◌+◌, ◌-◌, ◌≤◌, ◌<◌, List, ◌∷◌, ◌++◌, not, filter, length, get_or, refl, sym, ap, ◌∙◌, arith}
use Rattle.std.specs.List.{range_with_len}
use Rattle.std.proofs.Math.ListN.{get_or-append}
use Rattle.std.proofs.lemmas.List.Elements.{filter-append}
use Rattle.ic_naming.specs.Naming.{is_kept, spare_numbers}
use Rattle.ic_naming.specs.inner.Numbering.{AreSpare}

range-parts : (a m r t b : ℕ) → m + r ≡ t → a + m ≡ b → range_with_len a t ≡ range_with_len a m ++ range_with_len b r
range-parts a zero r t b whole next =
    let same : a ≡ b = omega (arith, next) in
    let rest : t ≡ r = omega (arith, whole) in
    (λ i. range_with_len (same i) (rest i))
range-parts a (suc m) r t b whole next =
    let longer : t ≡ suc (m + r) = omega (arith, whole) in
    ap (range_with_len a) longer ∙ ap (λ ns. a ∷ ns) (range-parts (a + 1) m r (m + r) b refl (omega (arith, next)))

-- what passes among the first numbers begins what passes among more
pub spare_front : (names spare : List ℕ) (m last : ℕ) → m ≤ length names + length names
    → spare ≡ filter (λ n. not (is_kept names n)) (range_with_len 0 m) → last < length spare → AreSpare names last spare
spare_front names spare m last within is long k low =
    let p = λ (n : ℕ). not (is_kept names n) in
    let all = length names + length names in
    let split : range_with_len 0 all ≡ range_with_len 0 m ++ range_with_len m (all - m) = range-parts 0 m (all - m) all m (omega arith) (omega arith) in
    let whole : spare_numbers names ≡ spare ++ filter p (range_with_len m (all - m)) =
    ap (filter p) split ∙ filter-append p (range_with_len 0 m) (range_with_len m (all - m)) ∙ ap (λ l. l ++ filter p (range_with_len m (all - m))) (sym is) in
    sym (ap (λ l. get_or l k 0) whole ∙ get_or-append spare (filter p (range_with_len m (all - m))) 0 k (omega (arith, low, long)))
