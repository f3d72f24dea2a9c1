-- The plan of a rule stands for it.
use Rattle.std.proofs.Common.{◌≡◌, ◌⊎◌, ℕ, zero, suc, ◌+◌, ◌*◌, ◌≤◌, ◌<◌, ◌==◌, List, [], ◌∷◌, Bool, true, false, ◌&&◌, cond, Some, length, map, slice_get, nat_lt, count_by, true≢false, refl, sym, ap, ◌∙◌, arith, inl, inr}
use Rattle.std.proofs.lemmas.Option.{none-some, same_Some}
use Rattle.std.proofs.lemmas.Bool.{ne_eqb, ltb-true, ltb-false}
use Rattle.std.proofs.lemmas.List.Sums.{sum_by-cons}
use Rattle.std.specs.Cmp.{unsigned_Decides}
use Rattle.std.specs.List.{flat_map, filter, AllByRecursion}
use Rattle.ic_term.specs.Tree.{Tree, name, agent, trees_of}
use Rattle.ic_term.specs.Configuration.{occurrences}
use Rattle.ic_machine.specs.declared.plan.Link.{Link}
use Rattle.ic_machine.specs.Plan.{Made, link_operands}
use Rattle.ic_meaning.specs.Plans.{Argument, arguments_from, filled, held_with, held_made, is_read, is_matched, linked_terms, matched}
use Rattle.ic_plans.specs.inner.Registers.{found, links_of}
use Rattle.ic_plans.specs.inner.Flattening.{times_made}
use Rattle.ic_plans.proofs.FlatLemmas.{count-cons, count-other, count-same, times-below, times-within, times-above, held_below, held_with_same}

-- ---- an agent that is made is no name

abbrev pub is_agent : Tree → Bool
is_agent (name x) = false
is_agent (agent s ts) = true

pub held_agent : (k : ℕ) (ms : List Made) (held : ℕ → Tree) (o : ℕ) → k ≤ o → o < k + length ms → is_agent (held_made k ms held o) ≡ true
held_agent k [] held o high low = absurd (omega arith)
held_agent k (m ∷ ms) held o high low =
    at (o == k) refl (λ above. held_agent (k + 1) ms (held_with k (agent m.symbol (trees_of (map held m.operands))) held) o above (omega arith))
  where
    a : Tree
    a = agent m.symbol (trees_of (map held m.operands))

    at : (b : Bool) → (o == k) ≡ b → (k + 1 ≤ o → is_agent (held_made (k + 1) ms (held_with k a held) o) ≡ true)
        → is_agent (held_made (k + 1) ms (held_with k a held) o) ≡ true
    at true e rest =
        let same = (unsigned_Decides o k).0 e in
        ap is_agent (held_below (k + 1) ms (held_with k a held) o (omega arith) ∙ ap (held_with k a held) same ∙ held_with_same k a held)
    at false e rest = rest (above o k high (λ s. true≢false (sym ((unsigned_Decides o k).1 s) ∙ e)))
      where
        above : (o k : ℕ) → k ≤ o → (o ≡ k → ⊥) → k + 1 ≤ o
        above o k high other = omega arith

-- ---- links

abbrev pub head_or : Tree → List Tree → Tree
head_or u [] = u
head_or u (v ∷ vs) = v

abbrev pub tail_of : List Tree → List Tree
tail_of [] = []
tail_of (v ∷ vs) = vs

-- the equations of the links are those of the arguments that are matched
pub links_matched : (registers : ℕ → ℕ) (held after f : ℕ → Tree) (first k : ℕ) (ts : List Tree) (os : List ℕ) → k + length ts ≤ first
    → ((j : ℕ) → j < first → after j ≡ held j) → map after os ≡ map (filled f) ts
    → map (matched held f) (filter (is_matched registers) (arguments_from k ts)) ≡ map (linked_terms after) (links_of registers (arguments_from k ts) os)
links_matched registers held after f first k [] os high own terms = refl
links_matched registers held after f first k (t ∷ ts) [] high own terms = absurd (nil_cons terms)
  where
    nil_cons : ◌≡◌ {A = List Tree} [] (filled f t ∷ map (filled f) ts) → ⊥
    nil_cons e = let lengths = ap length e in omega arith
links_matched registers held after f first k (t ∷ ts) (o ∷ os) high own terms =
    at (is_read registers (record { register = k; term = t })) refl (links_matched registers held after f first (k + 1) ts os (omega arith) own (ap tail_of terms))
  where
    a : Argument
    a = record { register = k; term = t }

    heads : after o ≡ filled f t
    heads = ap (head_or (filled f t)) terms

    at : (b : Bool) → is_read registers a ≡ b
        → map (matched held f) (filter (is_matched registers) (arguments_from (k + 1) ts)) ≡ map (linked_terms after) (links_of registers (arguments_from (k + 1) ts) os)
        → map (matched held f) (filter (is_matched registers) (a ∷ arguments_from (k + 1) ts)) ≡ map (linked_terms after) (links_of registers (a ∷ arguments_from (k + 1) ts) (o ∷ os))
    at true e rest = rw e rest
    at false e rest = rw e (λ i. record { left = sym (own k (omega arith)) i; right = sym heads i } ∷ rest i)

-- arguments that are read from a register
abbrev pub times_own : (ℕ → ℕ) → ℕ → List Argument → ℕ
times_own registers j ds = count_by (λ a. is_read registers a && a.register == j) ds

-- an argument that is read has its own register ds its operand
abbrev pub AreOwn : (ℕ → ℕ) → List Argument → List ℕ → Type 0
AreOwn registers [] [] = Unit {0}
AreOwn registers (a ∷ ds) (o ∷ os) = (is_read registers a ≡ true → o ≡ a.register) × AreOwn registers ds os
AreOwn registers _ _ = ⊥

count_links : (j : ℕ) (l : Link) (ls : List Link) → count_by (λ m. m == j) (flat_map link_operands (l ∷ ls))
    ≡ cond (l.left == j) 1 0 + (cond (l.right == j) 1 0 + count_by (λ m. m == j) (flat_map link_operands ls))
count_links j l ls = omega (arith, count-cons j l.left (l.right ∷ flat_map link_operands ls), count-cons j l.right (flat_map link_operands ls))

pub not_same : (n k : ℕ) → (n == k) ≡ false → n ≡ k → ⊥
not_same n k e s = true≢false (sym ((unsigned_Decides n k).1 s) ∙ e)

times-cons : (k n j : ℕ) → times_made k (suc n) j ≡ cond (k == j) 1 0 + times_made (k + 1) n j
times-cons k n j = at (nat_lt j k) (k == j) (nat_lt j (k + suc n)) refl refl refl
  where
    above : (k j : ℕ) → k ≤ j → (k ≡ j → ⊥) → k + 1 ≤ j
    above k j high other = omega arith

    at : (a b e : Bool) → nat_lt j k ≡ a → (k == j) ≡ b → nat_lt j (k + suc n) ≡ e → times_made k (suc n) j ≡ cond (k == j) 1 0 + times_made (k + 1) n j
    at true b e p q r =
        let low : j < k = ltb-true j k p in
        let one : times_made k (suc n) j ≡ 0 = times-below k (suc n) j low in
        let two : times_made (k + 1) n j ≡ 0 = times-below (k + 1) n j (omega arith) in
        let three = count-other k j (λ s. omega arith) in
        omega arith
    at false true e p q r =
        let same : k ≡ j = (unsigned_Decides k j).0 q in
        let one : times_made k (suc n) j ≡ 1 = times-within k (suc n) j (omega arith) (omega arith) in
        let two : times_made (k + 1) n j ≡ 0 = times-below (k + 1) n j (omega arith) in
        let three = count-same k j same in
        omega arith
    at false false true p q r =
        let high : k + 1 ≤ j = above k j (ltb-false j k p) (not_same k j q) in
        let low : j < k + suc n = ltb-true j (k + suc n) r in
        let one : times_made k (suc n) j ≡ 1 = times-within k (suc n) j (omega arith) low in
        let two : times_made (k + 1) n j ≡ 1 = times-within (k + 1) n j high (omega arith) in
        let three = count-other k j (not_same k j q) in
        omega arith
    at false false false p q r =
        let high : k + suc n ≤ j = ltb-false j (k + suc n) r in
        let one : times_made k (suc n) j ≡ 0 = times-above k (suc n) j high in
        let two : times_made (k + 1) n j ≡ 0 = times-above (k + 1) n j (omega arith) in
        let three = count-other k j (not_same k j q) in
        omega arith

times-none : (k j : ℕ) → times_made k 0 j ≡ 0
times-none k j = at (nat_lt j k) refl
  where
    at : (b : Bool) → nat_lt j k ≡ b → times_made k 0 j ≡ 0
    at true e = times-below k 0 j (ltb-true j k e)
    at false e = let high : k ≤ j = ltb-false j k e in times-above k 0 j (omega arith)

own-cons : (registers : ℕ → ℕ) (j : ℕ) (a : Argument) (ds : List Argument)
    → times_own registers j (a ∷ ds) ≡ cond (is_read registers a && a.register == j) 1 0 + times_own registers j ds
own-cons registers j a ds = sum_by-cons (λ a. cond (is_read registers a && a.register == j) 1 0) a ds

-- how often the links use a register
pub links-count : (registers : ℕ → ℕ) (k : ℕ) (ts : List Tree) (os : List ℕ) (j : ℕ) → AreOwn registers (arguments_from k ts) os
    → count_by (λ m. m == j) (flat_map link_operands (links_of registers (arguments_from k ts) os)) + 2 * times_own registers j (arguments_from k ts)
    ≡ times_made k (length ts) j + count_by (λ m. m == j) os
links-count registers k [] [] j own = let none = times-none k j in omega arith
links-count registers k (t ∷ ts) (o ∷ os) j own =
    at (is_read registers (record { register = k; term = t })) refl (links-count registers (k + 1) ts os j own.1)
  where
    a : Argument
    a = record { register = k; term = t }

    ds : List Argument
    ds = arguments_from (k + 1) ts

    at : (b : Bool) → is_read registers a ≡ b
        → count_by (λ m. m == j) (flat_map link_operands (links_of registers ds os)) + 2 * times_own registers j ds ≡ times_made (k + 1) (length ts) j + count_by (λ m. m == j) os
        → count_by (λ m. m == j) (flat_map link_operands (links_of registers (a ∷ ds) (o ∷ os))) + 2 * times_own registers j (a ∷ ds)
        ≡ times_made k (suc (length ts)) j + count_by (λ m. m == j) (o ∷ os)
    at true e rest =
        let same : ◌≡◌ {A = ℕ} (cond (o == j) 1 0) (cond (k == j) 1 0) = ap (λ m. cond (m == j) 1 0) (own.0 e) in
        let mine : ◌≡◌ {A = ℕ} (cond (is_read registers a && k == j) 1 0) (cond (k == j) 1 0) = ap (λ b. cond (b && k == j) 1 0) e in
        let less : links_of registers (a ∷ ds) (o ∷ os) ≡ links_of registers ds os = ap (λ b. cond b (links_of registers ds os) (record { left = k; right = o } ∷ links_of registers ds os)) e in
        let links = ap (λ l. count_by (λ m. m == j) (flat_map link_operands l)) less in
        let one = own-cons registers j a ds in
        let two = times-cons k (length ts) j in
        let three = count-cons j o os in
        omega arith
    at false e rest =
        let mine : ◌≡◌ {A = ℕ} (cond (is_read registers a && k == j) 1 0) 0 = ap (λ b. cond (b && k == j) 1 0) e in
        let more : links_of registers (a ∷ ds) (o ∷ os) ≡ record { left = k; right = o } ∷ links_of registers ds os =
        ap (λ b. cond b (links_of registers ds os) (record { left = k; right = o } ∷ links_of registers ds os)) e in
        let links = ap (λ l. count_by (λ m. m == j) (flat_map link_operands l)) more in
        let parts = count_links j (record { left = k; right = o }) (links_of registers ds os) in
        let one = own-cons registers j a ds in
        let two = times-cons k (length ts) j in
        let three = count-cons j o os in
        omega arith
links-count registers k _ _ j own = absurd own

-- arguments that are read from a register are those in it
pub own-none : (registers : ℕ → ℕ) (k : ℕ) (ts : List Tree) (j : ℕ) → k + length ts ≤ j → times_own registers j (arguments_from k ts) ≡ 0
own-none registers k [] j high = refl
own-none registers k (t ∷ ts) j high =
    let rest : times_own registers j (arguments_from (k + 1) ts) ≡ 0 = own-none registers (k + 1) ts j (omega arith) in
    let one = own-cons registers j (record { register = k; term = t }) (arguments_from (k + 1) ts) in
    let other : (k == j) ≡ false = ne_eqb k j (λ e. omega arith) in
    let here : ◌≡◌ {A = ℕ} (cond (is_read registers (record { register = k; term = t }) && k == j) 1 0) 0 =
    ap (λ b. cond (is_read registers (record { register = k; term = t }) && b) 1 0) other ∙ no (is_read registers (record { register = k; term = t })) in
    omega arith
  where
    no : (b : Bool) → ◌≡◌ {A = ℕ} (cond (b && false) 1 0) 0
    no true = refl
    no false = refl

pub own-there : (registers : ℕ → ℕ) (j : ℕ) (ds : List Argument) (i : ℕ) (a : Argument) → slice_get ds i ≡ Some a → is_read registers a ≡ true
    → a.register ≡ j → 1 ≤ times_own registers j ds
own-there registers j [] i a there is same = absurd (none-some a there)
own-there registers j (b ∷ ds) zero a there is same =
    let one = own-cons registers j b ds in
    let e = same_Some b a there in
    let eq : (b.register == j) ≡ true = (unsigned_Decides b.register j).1 (ap (λ x. x.register) e ∙ same) in
    let read : is_read registers b ≡ true = ap (is_read registers) e ∙ is in
    let here : ◌≡◌ {A = ℕ} (cond (is_read registers b && b.register == j) 1 0) 1 = (λ i. cond (read i && eq i) 1 0) in
    omega arith
own-there registers j (b ∷ ds) (suc i) a there is same =
    let one = own-cons registers j b ds in
    let rest = own-there registers j ds i a there is same in
    omega arith

-- ---- how often a register is read

-- a register is read by no name, or by one, which occurs twice
pub read-cases : (registers : ℕ → ℕ) (names j : ℕ) (ns : List ℕ) → AllByRecursion (λ x. x < names) ns → AllByRecursion (λ x. occurrences x ns ≡ 2) ns
    → ((x y : ℕ) → x < names → y < names → registers x ≡ registers y → x ≡ y)
    → (count_by (λ x. registers x == j) ns ≡ 0) ⊎ ((x : ℕ) × (x < names) × (registers x ≡ j) × (count_by (λ x. registers x == j) ns ≡ 2))
read-cases registers names j ns below paired apart = at (some ns below paired)
  where
    some : (ms : List ℕ) → AllByRecursion (λ x. x < names) ms → AllByRecursion (λ x. occurrences x ns ≡ 2) ms
        → (count_by (λ x. registers x == j) ms ≡ 0) ⊎ ((x : ℕ) × (x < names) × (registers x ≡ j) × (occurrences x ns ≡ 2))
    some [] b p = inl refl
    some (m ∷ ms) b p = by (registers m == j) refl (some ms b.1 p.1)
      where
        by : (t : Bool) → (registers m == j) ≡ t
            → (count_by (λ x. registers x == j) ms ≡ 0) ⊎ ((x : ℕ) × (x < names) × (registers x ≡ j) × (occurrences x ns ≡ 2))
            → (count_by (λ x. registers x == j) (m ∷ ms) ≡ 0) ⊎ ((x : ℕ) × (x < names) × (registers x ≡ j) × (occurrences x ns ≡ 2))
        by true e rest = inr (m, b.0, (unsigned_Decides (registers m) j).0 e, p.0)
        by false e (inl none) =
            let one = sum_by-cons (λ x. cond (registers x == j) 1 0) m ms in
            let here : ◌≡◌ {A = ℕ} (cond (registers m == j) 1 0) 0 = ap (λ t. cond t 1 0) e in
            inl (omega arith)
        by false e (inr found) = inr found

    same : (x : ℕ) → x < names → registers x ≡ j → (ms : List ℕ) → AllByRecursion (λ y. y < names) ms
        → count_by (λ y. registers y == j) ms ≡ occurrences x ms
    same x low is [] b = refl
    same x low is (m ∷ ms) b =
        let one = sum_by-cons (λ y. cond (registers y == j) 1 0) m ms in
        let two = sum_by-cons (λ y. cond (y == x) 1 0) m ms in
        let rest = same x low is ms b.1 in
        let here = by (m == x) refl in
        omega arith
      where
        by : (t : Bool) → (m == x) ≡ t → ◌≡◌ {A = ℕ} (cond (registers m == j) 1 0) (cond (m == x) 1 0)
        by true e = count-same (registers m) j (ap registers ((unsigned_Decides m x).0 e) ∙ is) ∙ sym (ap (λ t. cond t 1 0) e)
        by false e = count-other (registers m) j (λ s. not_same m x e (apart m x b.0 low (s ∙ sym is))) ∙ sym (ap (λ t. cond t 1 0) e)

    at : (count_by (λ x. registers x == j) ns ≡ 0) ⊎ ((x : ℕ) × (x < names) × (registers x ≡ j) × (occurrences x ns ≡ 2))
        → (count_by (λ x. registers x == j) ns ≡ 0) ⊎ ((x : ℕ) × (x < names) × (registers x ≡ j) × (count_by (λ x. registers x == j) ns ≡ 2))
    at (inl none) = inl none
    at (inr found) = inr (found.0, found.1, found.2, same found.0 found.1 found.2 ns below ∙ found.3)
