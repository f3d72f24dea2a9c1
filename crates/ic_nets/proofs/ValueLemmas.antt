-- What the wires of a net weigh, by what is joined and the ports at which names stand.
use Rattle.std.proofs.Common.{◌≡◌, ℕ, ◌+◌, ◌≤◌, ◌<◌, ◌==◌, List, [], ◌∷◌, Bool, true, false, cond, Option, None, Some, refl, sym, ap, ◌∙◌, arith, eq-eqb}
use Rattle.ic_nets.specs.declared.net.Wire.{Wire}
use Rattle.ic_nets.specs.declared.port.Port.{Port}
use Rattle.ic_nets.specs.declared.port.Port.TheVariants.{Free}
use Rattle.ic_nets.proofs.NamedLemmas.{led}
use Rattle.ic_nets.proofs.SumLemmas.{sum, sum-same, total, total-same, total_but_one}
use Rattle.ic_nets.proofs.MarkLemmas.{Item, wired, stood, between, Side, at, one}

abbrev pub ports_in : ℕ → List Item → List Port
ports_in n [] = []
ports_in n (stood m p ∷ xs) = cond (m == n) (p ∷ ports_in n xs) (ports_in n xs)
ports_in n (x ∷ xs) = ports_in n xs

abbrev pub Weight : Type 0
Weight = Port → Port → ℕ

abbrev pub BothWays : Weight → Type 0
BothWays P = (p q : Port) → P p q ≡ P q p

abbrev pub joined_by : Weight → Item → ℕ
joined_by P (wired p q) = P p q
joined_by P x = 0

abbrev pub worth : Weight → Option Wire → ℕ
worth P None = 0
worth P (Some w) = P w.from w.to

abbrev pub name_worth : Weight → ℕ → List Port → ℕ
name_worth P n ps = worth P (led n None ps)

-- all wires, where names are below a bound
abbrev pub value : Weight → ℕ → List Item → ℕ
value P N xs = sum (joined_by P) xs + total (λ n. name_worth P n (ports_in n xs)) N

-- each name stands at most twice, and is below the bound
abbrev pub Few : ℕ → List Item → Type 0
Few N xs = (n : ℕ) → (sum (at n one) xs ≤ 2) × (N ≤ n → sum (at n one) xs ≡ 0)

-- which side is named first says nothing
abbrev pub Symmetric : (Item → ℕ) → Type 0
Symmetric w = ((p q : Port) → w (wired p q) ≡ w (wired q p)) × ((l r : Side) → w (between l r) ≡ w (between r l))

-- nor which ports are joined
abbrev pub Blind : (Item → ℕ) → Type 0
Blind w = Symmetric w × ((p q : Port) → w (wired p q) ≡ 0) × ((n : ℕ) (p q : Port) → w (stood n p) ≡ w (stood n q))

pub ports-sum : (n : ℕ) (v : Port → ℕ) (xs : List Item) → sum v (ports_in n xs) ≡ sum (at n v) xs
ports-sum n v [] = refl
ports-sum n v (stood m p ∷ xs) = by (m == n) (ports-sum n v xs)
  where
    by : (b : Bool) → sum v (ports_in n xs) ≡ sum (at n v) xs → sum v (cond b (p ∷ ports_in n xs) (ports_in n xs)) ≡ cond b (v p) 0 + sum (at n v) xs
    by true later = omega arith
    by false later = omega arith
ports-sum n v (x ∷ xs) = omega (arith, ports-sum n v xs)

pub no_ports : (n : ℕ) (xs : List Item) → sum (at n one) xs ≡ 0 → ports_in n xs ≡ []
no_ports n xs none = by (ports_in n xs) (ports-sum n one xs ∙ none)
  where
    by : (ps : List Port) → sum one ps ≡ 0 → ps ≡ []
    by [] e = refl
    by (p ∷ ps) e = absurd (omega (arith, e))

-- ---- only how often a name stands at a port says what its wire weighs

module _ (P : Weight) (both : BothWays P) (n : ℕ) where
  pub worth_same : (ps qs : List Port) → ((v : Port → ℕ) → sum v ps ≡ sum v qs) → sum one ps ≤ 2 → name_worth P n ps ≡ name_worth P n qs
  worth_same [] [] same low = refl
  worth_same (p ∷ []) (q ∷ []) same low = omega (arith, same (λ a. P a (Free n)))
  worth_same (p ∷ q ∷ []) (r ∷ s ∷ []) same low =
      let ps = p ∷ q ∷ [] in
      let qs = r ∷ s ∷ [] in
      omega (arith, same (λ a. sum (P a) ps) ∙ sum-same (λ a. sum (P a) ps) (λ a. sum (P a) qs) (λ a. same (P a)) qs, same (λ a. P a a), both q p, both s r)
  worth_same (p ∷ q ∷ t ∷ ps) qs same low = absurd (omega (arith, low))
  worth_same _ _ same low = absurd (omega (arith, same one))

abbrev pub SameCounts : List Item → List Item → Type 0
SameCounts xs ys = (w : Item → ℕ) → Symmetric w → sum w xs ≡ sum w ys

pub value_same : (P : Weight) → BothWays P → (N : ℕ) (xs ys : List Item) → SameCounts xs ys → Few N xs → value P N xs ≡ value P N ys
value_same P both N xs ys same few =
    λ i. same (joined_by P) (both, λ l r. refl) i
    + total-same (λ n. name_worth P n (ports_in n xs)) (λ n. name_worth P n (ports_in n ys))
    (λ n. worth_same P both n (ports_in n xs) (ports_in n ys)
    (λ v. ports-sum n v xs ∙ same (at n v) (λ p q. refl, λ l r. refl) ∙ sym (ports-sum n v ys)) (omega (arith, ports-sum n one xs, (few n).0))) N i

-- a name that stands at two ports alone is a wire between them
pub contracted : (P : Weight) (N x : ℕ) (p q : Port) (xs : List Item) → sum (at x one) xs ≡ 0 → x < N → value P N (stood x p ∷ stood x q ∷ xs) ≡ P p q + value P N xs
contracted P N x p q xs none lt =
    let f : ℕ → ℕ = λ n. name_worth P n (ports_in n (stood x p ∷ stood x q ∷ xs)) in
    let g : ℕ → ℕ = λ n. name_worth P n (ports_in n xs) in
    let differ : (n : ℕ) → (x == n) ≡ false → f n ≡ g n =
    λ n e. ap (λ b. name_worth P n (cond b (p ∷ cond b (q ∷ ports_in n xs) (ports_in n xs)) (cond b (q ∷ ports_in n xs) (ports_in n xs)))) e in
    let nothing = no_ports x xs none in
    let here : f x ≡ P p q =
    ap (λ b. name_worth P x (cond b (p ∷ cond b (q ∷ ports_in x xs) (ports_in x xs)) (cond b (q ∷ ports_in x xs) (ports_in x xs)))) (eq-eqb x x refl)
    ∙ ap (λ ps. name_worth P x (p ∷ q ∷ ps)) nothing in
    omega (arith, total_but_one f g x differ N lt, ap (name_worth P x) nothing)
