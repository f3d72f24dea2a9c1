-- Links, one after another.
use Rattle.std.proofs.Common.{◌≡◌, ℕ, zero, suc, ◌+◌, ◌≤◌, ◌<◌, ◌==◌, List, [], ◌∷◌, ◌++◌, Bool, true, false, cond, Option, Some, length, take, drop, refl, sym, ap, ◌∙◌, arith, inl, inr}
use Rattle.std.specs.Prelude.{IsSome, is_some}
use Rattle.std.specs.Cmp.{unsigned_Decides}
use Rattle.std.proofs.lemmas.Bool.{ne_eqb}
use Rattle.std.proofs.lemmas.Bool.Decides.{leb_tells}
use Rattle.ic_term.specs.Tree.{Tree}
use Rattle.ic_machine.specs.declared.plan.Link.{Link}
use Rattle.ic_meaning.specs.Plans.{arguments_from, is_read}
use Rattle.ic_plans.specs.inner.Registers.{Registers, AreFreshNames, found, links_of}
use Rattle.ic_plans.proofs.RuleLemmas.{not_same}

-- the first argument is linked, or read from its own register
pub link-step : (registers : ℕ → ℕ) (n i : ℕ) (ts us : List Tree) (ops os : List ℕ) (t : Tree) (o : ℕ) (b : Bool) → ts ≡ t ∷ us → ops ≡ o ∷ os
    → is_read registers (record { register = n + i; term = t }) ≡ b
    → links_of registers (arguments_from (n + i) ts) ops
    ≡ cond b (links_of registers (arguments_from (n + (i + 1)) us) os) (record { left = n + i; right = o } ∷ links_of registers (arguments_from (n + (i + 1)) us) os)
link-step registers n i ts us ops os t o b first operand read =
    let next : n + i + 1 ≡ n + (i + 1) = omega arith in
    (λ j. links_of registers (arguments_from (n + i) (first j)) (operand j))
    ∙ (λ j. cond (read j) (links_of registers (arguments_from (next j) us) os) (record { left = n + i; right = o } ∷ links_of registers (arguments_from (next j) us) os))

-- links of some arguments and those of others
pub links-append : (registers : ℕ → ℕ) (k : ℕ) (ts us : List Tree) (os : List ℕ) → length ts ≤ length os
    → links_of registers (arguments_from k (ts ++ us)) os
    ≡ links_of registers (arguments_from k ts) (take (length ts) os) ++ links_of registers (arguments_from (k + length ts) us) (drop (length ts) os)
links-append registers k [] us os enough = let same : k ≡ k + 0 = omega arith in ap (λ n. links_of registers (arguments_from n us) os) same
links-append registers k (t ∷ ts) us [] enough = absurd (omega arith)
links-append registers k (t ∷ ts) us (o ∷ os) enough =
    at (is_read registers (record { register = k; term = t })) _ _ _
    (links-append registers (k + 1) ts us os (omega arith) ∙ ap (λ n. links_of registers (arguments_from (k + 1) ts) (take (length ts) os) ++ links_of registers (arguments_from n us) (drop (length ts) os)) same)
  where
    same : (k + 1) + length ts ≡ k + suc (length ts)
    same = omega arith

    at : (b : Bool) (whole front back : List Link) → whole ≡ front ++ back
        → cond b whole (record { left = k; right = o } ∷ whole) ≡ cond b front (record { left = k; right = o } ∷ front) ++ back
    at true whole front back e = e
    at false whole front back e = ap (λ l. record { left = k; right = o } ∷ l) e

pub take_whole : (xs : List ℕ) (n : ℕ) → length xs ≤ n → take n xs ≡ xs
take_whole [] zero enough = refl
take_whole [] (suc n) enough = refl
take_whole (x ∷ xs) zero enough = absurd (omega arith)
take_whole (x ∷ xs) (suc n) enough = ap (λ l. x ∷ l) (take_whole xs n (omega arith))

-- ---- names that have a register

pub some-is : (o : Option ℕ) → is_some o ≡ true → IsSome o
some-is o there = there

pub all-kept : (n : ℕ) (registers : Registers) → ((x : ℕ) → x < n → IsSome (found registers x)) → is_some (found registers n) ≡ true
    → (x : ℕ) → x < n + 1 → IsSome (found registers x)
all-kept n registers all here x low = at (n == x) refl
  where
    at : (b : Bool) → (n == x) ≡ b → IsSome (found registers x)
    at true e = some-is (found registers x) (ap (λ m. is_some (found registers m)) (sym ((unsigned_Decides n x).0 e)) ∙ here)
    at false e = all x (below x n low (λ s. not_same n x e (sym s)))
      where
        below : (x n : ℕ) → x < n + 1 → (x ≡ n → ⊥) → x < n
        below x n low other = omega arith

pub all-added : (n r : ℕ) (old new : Registers) → ((q : ℕ) → found new q ≡ cond (n == q) (Some r) (found old q))
    → ((x : ℕ) → x < n → IsSome (found old x)) → (x : ℕ) → x < n + 1 → IsSome (found new x)
all-added n r old new updated all x low = at (n == x) refl
  where
    below : (x n : ℕ) → x < n + 1 → (x ≡ n → ⊥) → x < n
    below x n low other = omega arith

    at : (b : Bool) → (n == x) ≡ b → IsSome (found new x)
    at true e = rw (updated x, e) refl
    at false e = rw (updated x, e) (all x (below x n low (λ s. not_same n x e (sym s))))

-- fresh registers of names so far are those of one name more
pub used-kept : (n start fresh : ℕ) (registers : Registers) → AreFreshNames n start fresh registers
    → AreFreshNames (n + 1) start fresh registers
used-kept n start fresh registers used k low = let it = used k low in (it.0, omega (arith, it.1), it.2)

pub used-added : (n start fresh : ℕ) (old new : Registers)
    → ((q : ℕ) → found new q ≡ cond (n == q) (Some (start + fresh)) (found old q))
    → AreFreshNames n start fresh old → AreFreshNames (n + 1) start (fresh + 1) new
used-added n start fresh old new updated used k low = elim (leb_tells fresh k) [
  | inl t ↦
      (let same : k ≡ fresh = (let le : fresh ≤ k = t.1 in omega arith) in
      let here : (n == n) ≡ true = (unsigned_Decides n n).1 refl in
      let at : found new n ≡ Some (start + fresh) = updated n ∙ ap (λ b. cond b (Some (start + fresh)) (found old n)) here in
      (n, omega arith, at ∙ ap (λ (j : ℕ). Some (start + j)) (sym same)))
  | inr t ↦
      (let lt : k < fresh = t.1 in
      let it = used k lt in
      let other : (n == it.0) ≡ false = ne_eqb n it.0 (λ e. omega (arith, e, it.1)) in
      (it.0, omega (arith, it.1), updated it.0 ∙ (ap (λ b. cond b (Some (start + fresh)) (found old it.0)) other ∙ it.2)))
]
