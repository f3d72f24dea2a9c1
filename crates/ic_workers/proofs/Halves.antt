-- Lemmas: a list in which each number is there twice, or not at all, is some list with itself.
use Rattle.std.proofs.Common.{◌≡◌, ◌⊎◌, inl, inr, ℕ, zero, suc, ◌+◌, ◌≤◌, ◌==◌, List, [], ◌∷◌, ◌++◌, Bool, true, false, cond, length, refl, sym, ap, arith, subst as transport}
use Rattle.std.specs.Prelude.{IsPermutation}
use Rattle.std.specs.Cmp.{unsigned_Decides}
use Rattle.std.proofs.lemmas.List.{length-append}
use Rattle.std.proofs.lemmas.List.Sums.{sum_by-cons, sum_by-append}
use Rattle.std.proofs.lemmas.List.Sorted.{IsPermutation-refl, IsPermutation-sym, IsPermutation-trans, IsPermutation-cons, IsPermutation-middle}
use Rattle.ic_machine.specs.Moving.{times}

first_times : (c n : ℕ) (ns : List ℕ) → times c (n ∷ ns) ≡ cond {A = ℕ} (n == c) 1 0 + times c ns
first_times c n ns = sum_by-cons (λ (m : ℕ). cond {A = ℕ} (m == c) 1 0) n ns

both_times : (c : ℕ) (ms ns : List ℕ) → times c (ms ++ ns) ≡ times c ms + times c ns
both_times c ms ns = sum_by-append (λ (m : ℕ). cond {A = ℕ} (m == c) 1 0) ms ns

record Found (n : ℕ) (ns : List ℕ) : Type 0 where
  front : List ℕ
  back : List ℕ
  is : ns ≡ front ++ n ∷ back

find : (n : ℕ) (ns : List ℕ) → 1 ≤ times n ns → Found n ns
find n [] some = absurd (omega (arith, some))
find n (m ∷ ms) some = at (m == n) refl (λ more. find n ms more)
  where
    at : (b : Bool) → (m == n) ≡ b → (1 ≤ times n ms → Found n ms) → Found n (m ∷ ms)
    at true e later = record { front = []; back = ms; is = ap (λ (k : ℕ). k ∷ ms) ((unsigned_Decides m n).0 e) }
    at false e later =
        let parts = first_times n m ms in
        let none : cond {A = ℕ} (m == n) 1 0 ≡ 0 = ap (λ (b : Bool). cond {A = ℕ} b 1 0) e in
        let rest = later (omega (arith, parts, none, some)) in
        record { front = m ∷ rest.front; back = rest.back; is = ap (λ (l : List ℕ). m ∷ l) rest.is }

-- each number is there twice, or not at all
abbrev pub ArePaired : List ℕ → Type 0
ArePaired ns = (c : ℕ) → (times c ns ≡ 0) ⊎ (times c ns ≡ 2)

pub record Half (ns : List ℕ) : Type 0 where
  pub half : List ℕ
  pub twice : IsPermutation (half ++ half) ns

halves_of : (fuel : ℕ) (ns : List ℕ) → length ns ≤ fuel → ArePaired ns → Half ns
halves_of fuel [] few paired = record { half = []; twice = IsPermutation-refl [] }
halves_of zero (n ∷ ns) few paired = absurd (omega (arith, few))
halves_of (suc fuel) (n ∷ ns) few paired =
    let parts = first_times n n ns in
    let itself : cond {A = ℕ} (n == n) 1 0 ≡ 1 = ap (λ (b : Bool). cond {A = ℕ} b 1 0) ((unsigned_Decides n n).1 refl) in
    let two : times n (n ∷ ns) ≡ 2 = elim (paired n) [
      | inl none ↦ absurd (omega (arith, none, parts, itself))
      | inr twice ↦ twice
    ] in
    let found = find n ns (omega (arith, parts, itself, two)) in
    let ms : List ℕ = found.front ++ found.back in
    let long = length-append found.front found.back in
    let longer = length-append found.front (n ∷ found.back) in
    let same = ap (length {A = ℕ}) {y = found.front ++ n ∷ found.back} found.is in
    let rest = halves_of fuel ms (omega (arith, few, long, longer, same)) (left found) in
    let cs : List ℕ = rest.half in
    record {
      half = n ∷ cs;
      twice = transport (λ (l : List ℕ). IsPermutation (n ∷ (cs ++ n ∷ cs)) (n ∷ l)) {x = found.front ++ n ∷ found.back} (sym {b = found.front ++ n ∷ found.back} found.is)
          (IsPermutation-cons n (cs ++ n ∷ cs) (found.front ++ n ∷ found.back)
          (IsPermutation-trans (cs ++ n ∷ cs) (n ∷ (cs ++ cs)) (found.front ++ n ∷ found.back) (IsPermutation-middle cs n cs)
          (IsPermutation-trans (n ∷ (cs ++ cs)) (n ∷ ms) (found.front ++ n ∷ found.back) (IsPermutation-cons n (cs ++ cs) ms rest.twice)
          (IsPermutation-sym (found.front ++ n ∷ found.back) (n ∷ ms) (IsPermutation-middle found.front n found.back)))));
    }
  where
    left : (found : Found n ns) → ArePaired (found.front ++ found.back)
    left found c = at (n == c) refl
      where
        all : times c (n ∷ ns) ≡ cond {A = ℕ} (n == c) 1 0 + (cond {A = ℕ} (n == c) 1 0 + times c (found.front ++ found.back))
        all =
            let a = first_times c n ns in
            let b = ap (times c) found.is in
            let d = both_times c found.front (n ∷ found.back) in
            let e = first_times c n found.back in
            let f = both_times c found.front found.back in
            omega (arith, a, b, d, e, f)

        at : (b : Bool) → (n == c) ≡ b → (times c (found.front ++ found.back) ≡ 0) ⊎ (times c (found.front ++ found.back) ≡ 2)
        at true e =
            let one : cond {A = ℕ} (n == c) 1 0 ≡ 1 = ap (λ (b : Bool). cond {A = ℕ} b 1 0) e in
            elim (paired c) [
              | inl none ↦ absurd (omega (arith, none, all, one))
              | inr two ↦ inl (omega (arith, two, all, one))
            ]
        at false e =
            let none : cond {A = ℕ} (n == c) 1 0 ≡ 0 = ap (λ (b : Bool). cond {A = ℕ} b 1 0) e in
            elim (paired c) [
              | inl nothing ↦ inl (omega (arith, nothing, all, none))
              | inr two ↦ inr (omega (arith, two, all, none))
            ]

pub halves : (ns : List ℕ) → ArePaired ns → Half ns
halves ns paired = halves_of (length ns) ns (omega arith) paired
