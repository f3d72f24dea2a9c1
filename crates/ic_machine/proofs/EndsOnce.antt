-- Each cut is that of one end, and each name is.
use Rattle.std.proofs.Common.{◌≡◌, ℕ, ◌+◌, ◌≤◌, ◌==◌, List, [], ◌∷◌, Bool, true, false, cond, Option, Some, map, refl, sym, ap, ◌∙◌, arith}
use Rattle.std.specs.List.{AllByRecursion, IsDistinct}
use Rattle.std.specs.Cmp.{unsigned_Decides}
use Rattle.std.proofs.lemmas.Bool.{ne_eqb}
use Rattle.std.proofs.lemmas.List.Sums.{sum_by-cons}
use Rattle.std.proofs.lemmas.Map.Keys.{IsDistinct-head, IsDistinct-tail}
use Rattle.ic_machine.specs.Moving.{CutEnd, times}

true_false : true ≡ false → ⊥
true_false e = cc

first_times : (c m : ℕ) (ms : List ℕ) → times c (m ∷ ms) ≡ cond {A = ℕ} (m == c) 1 0 + times c ms
first_times c m ms = sum_by-cons (λ (k : ℕ). cond {A = ℕ} (k == c) 1 0) m ms

none_of_these : (c : ℕ) (ms : List ℕ) → AllByRecursion (λ m. (c == m) ≡ false) ms → times c ms ≡ 0
none_of_these c [] others = refl
none_of_these c (m ∷ ms) others =
    let parts = first_times c m ms in
    let here : cond {A = ℕ} (m == c) 1 0 ≡ 0 =
    ap (λ (b : Bool). cond {A = ℕ} b 1 0) (ne_eqb m c (λ same. true_false (sym ((unsigned_Decides c m).1 (sym same)) ∙ others.0))) in
    let rest = none_of_these c ms others.1 in
    omega (arith, parts, here, rest)

-- numbers that differ are there once
pub distinct_once : (ns : List ℕ) → IsDistinct (λ a b. a == b) ns → (c : ℕ) → times c ns ≤ 1
distinct_once [] distinct c = omega arith
distinct_once (n ∷ ns) distinct c = at (n == c) refl (IsDistinct-head (λ a b. a == b) n ns distinct) (distinct_once ns (IsDistinct-tail (λ a b. a == b) n ns distinct) c)
  where
    at : (b : Bool) → (n == c) ≡ b → AllByRecursion (λ m. (n == m) ≡ false) ns → times c ns ≤ 1 → times c (n ∷ ns) ≤ 1
    at true e others rest =
        let parts = first_times c n ns in
        let here : cond {A = ℕ} (n == c) 1 0 ≡ 1 = ap (λ (b : Bool). cond {A = ℕ} b 1 0) e in
        let none = ap (λ (k : ℕ). times k ns) (sym ((unsigned_Decides n c).0 e)) ∙ none_of_these n ns others in
        omega (arith, parts, here, none)
    at false e others rest =
        let parts = first_times c n ns in
        let here : cond {A = ℕ} (n == c) 1 0 ≡ 0 = ap (λ (b : Bool). cond {A = ℕ} b 1 0) e in
        omega (arith, parts, here, rest)

same_number : (a b : ℕ) → ◌≡◌ {A = Option ℕ} (Some a) (Some b) → a ≡ b
same_number a b e = cc

-- where each name has the cut of its end, and the cuts differ
pub names_once : (gs : ℕ → Option ℕ) (es : List CutEnd) → AllByRecursion (λ e. gs e.name ≡ Some e.cut) es
    → IsDistinct (λ a b. a == b) (map (λ e. e.cut) es) → (n : ℕ) → times n (map (λ e. e.name) es) ≤ 1
names_once gs [] found distinct n = omega arith
names_once gs (e ∷ es) found distinct n =
    at (e.name == n) refl (IsDistinct-head (λ a b. a == b) e.cut (map (λ (f : CutEnd). f.cut) es) distinct)
    (names_once gs es found.1 (IsDistinct-tail (λ a b. a == b) e.cut (map (λ (f : CutEnd). f.cut) es) distinct) n)
  where
    others : (ds : List CutEnd) → AllByRecursion (λ d. gs d.name ≡ Some d.cut) ds → AllByRecursion (λ c. (e.cut == c) ≡ false) (map (λ d. d.cut) ds)
        → times e.name (map (λ d. d.name) ds) ≡ 0
    others [] named apart = refl
    others (d ∷ ds) named apart =
        let parts = first_times e.name d.name (map (λ (f : CutEnd). f.name) ds) in
        let here : cond {A = ℕ} (d.name == e.name) 1 0 ≡ 0 = ap (λ (b : Bool). cond {A = ℕ} b 1 0) (ne_eqb d.name e.name (λ same.
        let cut : e.cut ≡ d.cut = same_number e.cut d.cut (sym found.0 ∙ (ap gs (sym same) ∙ named.0)) in
        true_false (sym ((unsigned_Decides e.cut d.cut).1 cut) ∙ apart.0))) in
        let rest = others ds named.1 apart.1 in
        omega (arith, parts, here, rest)

    at : (b : Bool) → (e.name == n) ≡ b → AllByRecursion (λ c. (e.cut == c) ≡ false) (map (λ d. d.cut) es) → times n (map (λ d. d.name) es) ≤ 1
        → times n (map (λ d. d.name) (e ∷ es)) ≤ 1
    at true same apart rest =
        let parts = first_times n e.name (map (λ (f : CutEnd). f.name) es) in
        let here : cond {A = ℕ} (e.name == n) 1 0 ≡ 1 = ap (λ (b : Bool). cond {A = ℕ} b 1 0) same in
        let none = ap (λ (k : ℕ). times k (map (λ (f : CutEnd). f.name) es)) (sym ((unsigned_Decides e.name n).0 same)) ∙ others es found.1 apart in
        omega (arith, parts, here, none)
    at false same apart rest =
        let parts = first_times n e.name (map (λ (f : CutEnd). f.name) es) in
        let here : cond {A = ℕ} (e.name == n) 1 0 ≡ 0 = ap (λ (b : Bool). cond {A = ℕ} b 1 0) same in
        omega (arith, parts, here, rest)
