-- Names that stand at ports: which they are, and the ends of their wires.
use Rattle.std.proofs.Common.{◌≡◌, ℕ, ◌+◌, ◌≤◌, ◌==◌, ◌⊎◌, inl, inr, List, [], ◌∷◌, ◌++◌, Bool, true, false, cond, Some, fold, length, map, refl, sym, ap, ◌∙◌, append_assoc, arith, eq-eqb}
use Rattle.std.specs.List.{flat_map}
use Rattle.std.proofs.lemmas.Bool.{eqb-true, true≢false}
use Rattle.std.proofs.lemmas.List.Concat.{flat_map-append}
use Rattle.ic_term.specs.Tree.{Tree, name, agent, Trees, no_trees, more_trees, trees_of, names, names_of, Pair, pair_names}
use Rattle.ic_term.specs.Configuration.{Configuration, configuration_names, occurrences}
use Rattle.ic_rules.specs.Rule.{Rule}
use Rattle.ic_nets.specs.Nets.{agents_among, agents_in, end_of, equation_link, hanging, inside, joined, links_of, pair_agents, pair_links, are_names, standings, standings_between, wire_of, with_standing}
use Rattle.ic_nets.specs.Likeness.{ends, is_bound, port_eq, times}
use Rattle.ic_nets.specs.declared.net.Wire.{Wire}
use Rattle.ic_nets.specs.declared.links.End.{End}
use Rattle.ic_nets.specs.declared.links.End.TheVariants.{At, Named}
use Rattle.ic_nets.specs.declared.links.Link.{Link}
use Rattle.ic_nets.specs.declared.links.Standing.{Standing}
use Rattle.ic_nets.specs.declared.port.Port.{Port}
use Rattle.ic_nets.specs.declared.port.Port.TheVariants.{Interface, Auxiliary, Free}
use Rattle.ic_nets.proofs.SumLemmas.{bit, itself_equal, sum, sum-count, sum-map}
use Rattle.ic_nets.proofs.PortLemmas.{AreBound, standing_ports, times-append}
use Rattle.ic_settle.specs.lemmas.PutEach.{names_of-trees_of}
use Rattle.ic_confluence.specs.lemmas.Counts.{apart_sym}

-- ---- the names that are joined are those of the text, in its order

abbrev pub name_among : End → List ℕ
name_among (At p) = []
name_among (Named n) = n ∷ []

abbrev pub joined_names : List Link → List ℕ
joined_names ls = flat_map (λ l. name_among l.from ++ name_among l.to) ls

names-append : (xs bs : List Link) → joined_names (xs ++ bs) ≡ joined_names xs ++ joined_names bs
names-append xs bs = flat_map-append (λ (l : Link). name_among l.from ++ name_among l.to) xs bs

mutual
  inside-names : (k : ℕ) (t : Tree) → name_among (end_of k t) ++ joined_names (inside k t) ≡ names t
  inside-names k (name n) = refl
  inside-names k (agent s ts) = hanging-names (Auxiliary k) 1 (k + 1) ts

  hanging-names : (port : ℕ → Port) (i k : ℕ) (ts : Trees) → joined_names (hanging port i k ts) ≡ names_of ts
  hanging-names port i k no_trees = refl
  hanging-names port i k (more_trees t ts) =
      let rest = hanging port (i + 1) (k + length (agents_in t)) ts in
      ap (λ l. name_among (end_of k t) ++ l) (names-append (inside k t) rest)
      ∙ sym (append_assoc (name_among (end_of k t)) (joined_names (inside k t)) (joined_names rest))
      ∙ (λ d. inside-names k t d ++ hanging-names port (i + 1) (k + length (agents_in t)) ts d)

pair-names : (rs : List Rule) (k : ℕ) (e : Pair) → joined_names (pair_links rs k e) ≡ pair_names e
pair-names rs k e = by e.left refl
  where
    by : (l : Tree) → e.left ≡ l → joined_names (pair_links rs k e) ≡ pair_names e
    by l is =
        let j = k + length (agents_in e.left) in
        let below = inside j e.right in
        names-append (inside k e.left) (equation_link rs k j e ∷ below)
        ∙ ap (λ n. joined_names (inside k e.left) ++ n) (append_assoc (name_among (end_of k e.left)) (name_among (end_of j e.right)) (joined_names below) ∙ ap (λ n. name_among (end_of k e.left) ++ n) (inside-names j e.right))
        ∙ swap e.left (names e.right)
        ∙ ap (λ n. n ++ names e.right) (inside-names k e.left)
      where
        swap : (t : Tree) (rest : List ℕ) → joined_names (inside k t) ++ (name_among (end_of k t) ++ rest) ≡ (name_among (end_of k t) ++ joined_names (inside k t)) ++ rest
        swap (name n) rest = refl
        swap (agent s ts) rest = refl

equations-names : (rs : List Rule) (k : ℕ) (es : List Pair) → joined_names (joined rs k es) ≡ flat_map pair_names es
equations-names rs k [] = refl
equations-names rs k (e ∷ es) =
    names-append (pair_links rs k e) (joined rs (k + length (pair_agents e)) es)
    ∙ (λ i. pair-names rs k e i ++ equations-names rs (k + length (pair_agents e)) es i)

pub links-names : (rs : List Rule) (c : Configuration) → joined_names (links_of rs c) ≡ configuration_names c
links-names rs c =
    names-append (hanging Interface 1 0 (trees_of c.interface)) (joined rs (length (agents_among (trees_of c.interface))) c.equations)
    ∙ (λ i. (hanging-names Interface 1 0 (trees_of c.interface) ∙ names_of-trees_of c.interface) i ++ equations-names rs (length (agents_among (trees_of c.interface))) c.equations i)

abbrev pub standing_names : List Standing → List ℕ
standing_names ss = map (λ s. s.name) ss

pub standings-names : (j : ℕ) (ls : List Link) → standing_names (standings j ls) ≡ joined_names ls
standings-names j [] = refl
standings-names j (l ∷ ls) = by l.from l.to (standings-names j ls) (standings-names (j + 1) ls)
  where
    by : (from to : End) → standing_names (standings j ls) ≡ joined_names ls → standing_names (standings (j + 1) ls) ≡ joined_names ls
        → standing_names (standings_between j from to ++ standings (cond (are_names from to) (j + 1) j) ls) ≡ (name_among from ++ name_among to) ++ joined_names ls
    by (At p) (At q) here next = here
    by (At p) (Named n) here next = ap (λ l. n ∷ l) here
    by (Named m) (At q) here next = ap (λ l. m ∷ l) here
    by (Named m) (Named n) here next = ap (λ l. m ∷ n ∷ l) next

-- ---- wires of names, of which each ends free until it stands twice

-- how often a name stands
abbrev pub often : ℕ → List Standing → ℕ
often n ss = sum (λ s. bit (s.name == n)) ss

pub often-occurrences : (n : ℕ) (ss : List Standing) → often n ss ≡ occurrences n (standing_names ss)
often-occurrences n ss = sym (sum-map (λ (s : Standing). s.name) (λ m. bit (m == n)) ss) ∙ sum-count (λ m. m == n) (standing_names ss)

abbrev pub bound_part : Port → List Port
bound_part q = cond (is_bound q) (q ∷ []) []

-- the ends of wires of names that aren't free
abbrev pub closed : List (ℕ × Wire) → List Port
closed [] = []
closed (e ∷ es) = e.1.from ∷ (bound_part e.1.to ++ closed es)

-- how many ports a name of these wires stands at
abbrev pub stands : ℕ → List (ℕ × Wire) → ℕ
stands n [] = 0
stands n (e ∷ es) = cond (e.0 == n) (cond (is_bound e.1.to) 2 1) (stands n es)

-- each wire of a name begins at a port, and ends at one or free, and no name has two
abbrev pub AreOwn : List (ℕ × Wire) → Type 0
AreOwn [] = Unit {0}
AreOwn (e ∷ es) = (is_bound e.1.from ≡ true) × ((is_bound e.1.to ≡ true) ⊎ (e.1.to ≡ Free e.0)) × (stands e.0 es ≡ 0) × AreOwn es

turned : (m n : ℕ) → (m == n) ≡ true → (n == m) ≡ true
turned m n e = eq-eqb n m (sym (eqb-true m n e))

-- where a name stands at most once, its wire ends free
pub at_first : (x : ℕ) (e : ℕ × Wire) (es : List (ℕ × Wire)) → (x == e.0) ≡ true → stands x (e ∷ es) ≤ 1 → is_bound e.1.to ≡ false
at_first x e es is le = few (is_bound e.1.to) (rw (turned x e.0 is) at le)
  where
    few : (b : Bool) → cond b 2 1 ≤ 1 → b ≡ false
    few true le = absurd (omega arith)
    few false le = refl

pub at_rest : (x : ℕ) (e : ℕ × Wire) (es : List (ℕ × Wire)) → (x == e.0) ≡ false → stands x (e ∷ es) ≤ 1 → stands x es ≤ 1
at_rest x e es is le = rw (apart_sym x e.0 is) at le

module _ (s : Standing) (bound : is_bound s.port ≡ true) where
  added : (p : Port) (es : List (ℕ × Wire)) → stands s.name es ≤ 1 → times p (closed (with_standing es s)) ≡ times p (closed es) + cond (port_eq p s.port) 1 0
  added p [] le = omega arith
  added p (e ∷ es) le = by (s.name == e.0) refl (added p es)
    where
      by : (b : Bool) → (s.name == e.0) ≡ b → (stands s.name es ≤ 1 → times p (closed (with_standing es s)) ≡ times p (closed es) + cond (port_eq p s.port) 1 0)
          → times p (closed (cond b ((e.0, wire_of (Some e.1) s) ∷ es) (e ∷ with_standing es s))) ≡ times p (closed (e ∷ es)) + cond (port_eq p s.port) 1 0
      by true is rest =
          let free = at_first s.name e es is le in
          rw (bound, free) (omega arith)
      by false is rest =
          let low = at_rest s.name e es is le in
          omega (arith, times-append p (bound_part e.1.to) (closed (with_standing es s)), times-append p (bound_part e.1.to) (closed es), rest low)

  counted : (n : ℕ) (es : List (ℕ × Wire)) → stands s.name es ≤ 1 → stands n (with_standing es s) ≡ stands n es + cond (s.name == n) 1 0
  counted n [] le = omega arith
  counted n (e ∷ es) le = by (s.name == e.0) refl (counted n es)
    where
      twice : (b : Bool) (x : ℕ) → cond b 2 x ≡ cond b 1 x + cond b 1 0
      twice true x = refl
      twice false x = omega arith

      kept : (b c : Bool) (m x y : ℕ) → (b ≡ true → c ≡ false) → x ≡ y + cond c 1 0 → cond b m x ≡ cond b m y + cond c 1 0
      kept true c m x y off e = rw (off refl) (omega arith)
      kept false c m x y off e = e

      by : (b : Bool) → (s.name == e.0) ≡ b → (stands s.name es ≤ 1 → stands n (with_standing es s) ≡ stands n es + cond (s.name == n) 1 0)
          → stands n (cond b ((e.0, wire_of (Some e.1) s) ∷ es) (e ∷ with_standing es s)) ≡ stands n (e ∷ es) + cond (s.name == n) 1 0
      by true is rest =
          let free = at_first s.name e es is le in
          let own : (s.name == n) ≡ (e.0 == n) = ap (λ m. m == n) (eqb-true s.name e.0 is) in
          rw (bound, free, own) (twice (e.0 == n) (stands n es))
      by false is rest =
          let low = at_rest s.name e es is le in
          let off : (e.0 == n) ≡ true → (s.name == n) ≡ false = λ f. ap (λ m. s.name == m) (sym (eqb-true e.0 n f)) ∙ is in
          kept (e.0 == n) (s.name == n) (cond (is_bound e.1.to) 2 1) (stands n (with_standing es s)) (stands n es) off (rest low)

  pub own_added : (es : List (ℕ × Wire)) → stands s.name es ≤ 1 → AreOwn es → AreOwn (with_standing es s)
  own_added [] le own = (bound, inr refl, refl, tt)
  own_added (e ∷ es) le own = by (s.name == e.0) refl (own_added es)
    where
      by : (b : Bool) → (s.name == e.0) ≡ b → (stands s.name es ≤ 1 → AreOwn es → AreOwn (with_standing es s))
          → AreOwn (cond b ((e.0, wire_of (Some e.1) s) ∷ es) (e ∷ with_standing es s))
      by true is rest = (own.0, inl bound, own.2, own.3)
      by false is rest =
          let low = at_rest s.name e es is le in
          (own.0, own.1, omega (arith, counted e.0 es low, own.2, ap bit is), rest low own.3)

-- no name stands more than twice
abbrev pub AreFew : List (ℕ × Wire) → List Standing → Type 0
AreFew es ss = (n : ℕ) → stands n es + often n ss ≤ 2

pub first_low : (es : List (ℕ × Wire)) (s : Standing) (ss : List Standing) → AreFew es (s ∷ ss) → stands s.name es ≤ 1
first_low es s ss le = omega (arith, le s.name, itself_equal s.name)

pub next_few : (es : List (ℕ × Wire)) (s : Standing) (ss : List Standing) → is_bound s.port ≡ true → AreFew es (s ∷ ss) → AreFew (with_standing es s) ss
next_few es s ss bound le n = let here = counted s bound n es (first_low es s ss le) in let all = le n in omega arith

pub all_added : (p : Port) (es : List (ℕ × Wire)) (ss : List Standing) → AreBound (standing_ports ss) → AreFew es ss
    → times p (closed (fold with_standing es ss)) ≡ times p (closed es) + times p (standing_ports ss)
all_added p es [] bound le = omega arith
all_added p es (s ∷ ss) bound le =
    omega (arith, all_added p (with_standing es s) ss bound.1 (next_few es s ss bound.0 le), added s bound.0 p es (first_low es s ss le))

pub all_counted : (n : ℕ) (es : List (ℕ × Wire)) (ss : List Standing) → AreBound (standing_ports ss) → AreFew es ss → stands n (fold with_standing es ss) ≡ stands n es + often n ss
all_counted n es [] bound le = omega arith
all_counted n es (s ∷ ss) bound le =
    omega (arith, all_counted n (with_standing es s) ss bound.1 (next_few es s ss bound.0 le), counted s bound.0 n es (first_low es s ss le))

-- ---- the ends of all wires

abbrev pub own_wires : List (ℕ × Wire) → List Wire
own_wires es = map (λ w. w.1) es

unbound : (p q : Port) → is_bound p ≡ true → is_bound q ≡ false → port_eq p q ≡ false
unbound (Free m) q b e = absurd (true≢false (sym b))
unbound p (Free n) b e = refl
unbound p q b e = absurd (true≢false e)

pub bound_ends : (p : Port) (es : List (ℕ × Wire)) → is_bound p ≡ true → times p (ends (own_wires es)) ≡ times p (closed es)
bound_ends p [] b = refl
bound_ends p (e ∷ es) b = ap (λ n. cond (port_eq p e.1.from) 1 0 + n) (by (is_bound e.1.to) refl (bound_ends p es b))
  where
    by : (c : Bool) → is_bound e.1.to ≡ c → times p (ends (own_wires es)) ≡ times p (closed es) → cond (port_eq p e.1.to) 1 0 + times p (ends (own_wires es)) ≡ times p (cond c (e.1.to ∷ []) [] ++ closed es)
    by true is rest = ap (λ n. cond (port_eq p e.1.to) 1 0 + n) rest
    by false is rest = omega (arith, rest, ap bit (unbound p e.1.to b is))

pub all_own : (es : List (ℕ × Wire)) (ss : List Standing) → AreBound (standing_ports ss) → AreFew es ss → AreOwn es → AreOwn (fold with_standing es ss)
all_own es [] bound le own = own
all_own es (s ∷ ss) bound le own = all_own (with_standing es s) ss bound.1 (next_few es s ss bound.0 le) (own_added s bound.0 es (first_low es s ss le) own)

-- a name has a free end where it stands once
pub free_ends : (n : ℕ) (es : List (ℕ × Wire)) → AreOwn es → times (Free n) (ends (own_wires es)) ≡ cond (stands n es == 1) 1 0
free_ends n [] own = refl
free_ends n (e ∷ es) own = by own.1 (e.0 == n) refl (free_ends n es own.3)
  where
    off : (q : Port) → is_bound q ≡ true → port_eq (Free n) q ≡ false
    off (Free m) b = absurd (true≢false (sym b))
    off q b = refl

    alone : (e.0 == n) ≡ true → times (Free n) (ends (own_wires es)) ≡ cond (stands n es == 1) 1 0 → times (Free n) (ends (own_wires es)) ≡ 0
    alone is rest =
        rest ∙ ap (λ m. cond (m == 1) 1 0) (ap (λ m. stands m es) (sym (eqb-true e.0 n is)) ∙ own.2)

    by : (is_bound e.1.to ≡ true) ⊎ (e.1.to ≡ Free e.0) → (b : Bool) → (e.0 == n) ≡ b → times (Free n) (ends (own_wires es)) ≡ cond (stands n es == 1) 1 0
        → cond (port_eq (Free n) e.1.from) 1 0 + (cond (port_eq (Free n) e.1.to) 1 0 + times (Free n) (ends (own_wires es))) ≡ cond (cond b (cond (is_bound e.1.to) 2 1) (stands n es) == 1) 1 0
    by (inl to) true is rest = let none = alone is rest in rw (off e.1.from own.0, off e.1.to to, to) (omega arith)
    by (inl to) false is rest = rw (off e.1.from own.0, off e.1.to to) (omega arith)
    by (inr to) true is rest = let none = alone is rest in rw (off e.1.from own.0, to, turned e.0 n is) (omega arith)
    by (inr to) false is rest = rw (off e.1.from own.0, to, apart_sym e.0 n is) (omega arith)
