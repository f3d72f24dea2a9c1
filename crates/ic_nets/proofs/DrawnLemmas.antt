-- The net of a configuration by what is joined in it, where agents are numbered in the order of the text.
use Rattle.std.proofs.Common.{◌≡◌, ℕ, zero, suc, ◌+◌, ◌≤◌, ◌==◌, List, [], ◌∷◌, ◌++◌, Bool, true, false, cond, None, Some, filter, length, map, refl, sym, ap, ◌∙◌, arith, append_assoc, eq-eqb}
use Rattle.ic_term.specs.Tree.{Tree, name, agent, Trees, no_trees, more_trees, list_of, trees_of, Pair}
use Rattle.ic_term.specs.Configuration.{Configuration, configuration_names, occurrences}
use Rattle.ic_rules.specs.Rule.{Rule}
use Rattle.ic_nets.specs.Nets.{agents_among, agents_in, agents_of, end_of, equation_link, hanging, inside, joined, links_of, pair_agents, pairs_agents, are_names, joins_names, name_wires, named_wires, plain_wires, standings, standings_between, wire_between}
use Rattle.ic_nets.specs.Likeness.{is_bound, ports_at, wire_named}
use Rattle.ic_nets.specs.declared.net.Agent.{Agent}
use Rattle.ic_nets.specs.declared.net.Wire.{Wire}
use Rattle.ic_nets.specs.declared.links.End.{End}
use Rattle.ic_nets.specs.declared.links.End.TheVariants.{At, Named}
use Rattle.ic_nets.specs.declared.links.Link.{Link}
use Rattle.ic_nets.specs.declared.links.Standing.{Standing}
use Rattle.ic_nets.specs.declared.port.Port.{Port}
use Rattle.ic_nets.specs.declared.port.Port.TheVariants.{Interface, Auxiliary, Left, Right}
use Rattle.ic_nets.proofs.NameLemmas.{AreOwn, AreFew, all_counted, all_own, often, own_wires, stands}
use Rattle.ic_nets.proofs.NamedLemmas.{named-all}
use Rattle.ic_nets.proofs.EndLemmas.{AtMostTwice, are_bound, often-names}
use Rattle.ic_nets.proofs.PortLemmas.{joints}
use Rattle.ic_nets.proofs.SumLemmas.{bit, not_equal, sum, sum-append, total, total-same, total_but_one}
use Rattle.ic_nets.proofs.MarkLemmas.{Item, wired, stood, placed, between, Side, Marked, Markeds, letter, node, no_more, more, bare, bares, hung_item, items_in, items_among, at, one, sum-occurrences}
use Rattle.ic_nets.proofs.ValueLemmas.{Weight, BothWays, joined_by, worth, name_worth, value, Few, ports_in, ports-sum, worth_same}
use Rattle.ic_nets.proofs.MovedLemmas.{Equation, bare_pair, sides_items, pair_items, all_items}

-- ---- agents are numbered from a number on

abbrev mutual
  pub mark : ℕ → Tree → Marked
  mark k (name n) = letter n
  mark k (agent s ts) = node k s (marks (k + 1) ts)

  pub marks : ℕ → Trees → Markeds
  marks k no_trees = no_more
  marks k (more_trees t ts) = more (mark k t) (marks (k + length (agents_in t)) ts)

abbrev pub mark_pair : (j k : ℕ) → Pair → Equation
mark_pair j k p = record { left_side = (j, false); right_side = (j, true); left = mark k p.left; right = mark (k + length (agents_in p.left)) p.right }

abbrev pub next_point : (j k : ℕ) → Pair → ℕ
next_point j k p = cond (are_names (end_of k p.left) (end_of (k + length (agents_in p.left)) p.right)) (j + 1) j

abbrev pub mark_all : (j k : ℕ) → List Pair → List Equation
mark_all j k [] = []
mark_all j k (p ∷ ps) = mark_pair j k p ∷ mark_all (next_point j k p) (k + length (pair_agents p)) ps

mutual
  pub bare-mark : (k : ℕ) (t : Tree) → bare (mark k t) ≡ t
  bare-mark k (name n) = refl
  bare-mark k (agent s ts) = ap (agent s) (bares-marks (k + 1) ts)

  pub bares-marks : (k : ℕ) (ts : Trees) → bares (marks k ts) ≡ ts
  bares-marks k no_trees = refl
  bares-marks k (more_trees t ts) = λ i. more_trees (bare-mark k t i) (bares-marks (k + length (agents_in t)) ts i)

pub bare-all : (j k : ℕ) (ps : List Pair) → map bare_pair (mark_all j k ps) ≡ ps
bare-all j k [] = refl
bare-all j k (p ∷ ps) =
    λ i. record { left = bare-mark k p.left i; right = bare-mark (k + length (agents_in p.left)) p.right i } ∷ bare-all (next_point j k p) (k + length (pair_agents p)) ps i

abbrev pub first_equation : Configuration → ℕ
first_equation c = length (agents_among (trees_of c.interface))

abbrev pub places_items : Configuration → List Item
places_items c = items_among Interface 1 (marks 0 (trees_of c.interface))

abbrev pub items_of : Configuration → List Item
items_of c = places_items c ++ all_items (mark_all 0 (first_equation c) c.equations)

-- ---- what links join

abbrev pub ends_items : ℕ → End → End → List Item
ends_items j (At p) (At q) = wired p q ∷ []
ends_items j (At p) (Named n) = stood n p ∷ []
ends_items j (Named m) (At q) = stood m q ∷ []
ends_items j (Named m) (Named n) = stood m (Left j) ∷ stood n (Right j) ∷ between (j, false) (j, true) ∷ []

abbrev pub links_items : ℕ → List Link → List Item
links_items j [] = []
links_items j (l ∷ ls) = ends_items j l.from l.to ++ links_items (cond (joins_names l) (j + 1) j) ls

abbrev pub placed_from : ℕ → List Agent → List Item
placed_from k [] = []
placed_from k (a ∷ rest) = placed k a ∷ placed_from (k + 1) rest

module _ (w : Item → ℕ) where
  placed-append : (k : ℕ) (xs ys : List Agent) → sum w (placed_from k (xs ++ ys)) ≡ sum w (placed_from k xs) + sum w (placed_from (k + length xs) ys)
  placed-append k [] ys = let none : k ≡ k + 0 = omega arith in omega (arith, ap (λ j. sum w (placed_from j ys)) none)
  placed-append k (x ∷ xs) ys =
      let count : k + 1 + length xs ≡ k + suc (length xs) = omega arith in
      omega (arith, placed-append (k + 1) xs ys, ap (λ j. sum w (placed_from j ys)) count)

  hung_sum : (j k : ℕ) (p : Port) (t : Tree) → sum w (ends_items j (At p) (end_of k t)) ≡ w (hung_item p (mark k t))
  hung_sum j k p (name n) = omega arith
  hung_sum j k p (agent s ts) = omega arith

  mutual
    inside_sum : (j k : ℕ) (t : Tree) (ls : List Link) → sum w (links_items j (inside k t ++ ls)) + sum w (placed_from k (agents_in t)) ≡ sum w (items_in (mark k t)) + sum w (links_items j ls)
    inside_sum j k (name n) ls = omega arith
    inside_sum j k (agent s ts) ls =
        omega (arith, ap (λ us. w (placed k (record { sym = s; arity = length (list_of us) }))) (sym (bares-marks (k + 1) ts)), hanging_sum j (Auxiliary k) 1 (k + 1) ts ls)

    hanging_sum : (j : ℕ) (port : ℕ → Port) (i k : ℕ) (ts : Trees) (ls : List Link)
        → sum w (links_items j (hanging port i k ts ++ ls)) + sum w (placed_from k (agents_among ts)) ≡ sum w (items_among port i (marks k ts)) + sum w (links_items j ls)
    hanging_sum j port i k no_trees ls = omega arith
    hanging_sum j port i k (more_trees t ts) ls =
        let later = k + length (agents_in t) in
        let rest = hanging port (i + 1) later ts in
        let hang = ends_items j (At (port i)) (end_of k t) in
        let marked = items_among port (i + 1) (marks later ts) in
        omega (arith, sum-append w hang (links_items j ((inside k t ++ rest) ++ ls)), ap (λ ks. sum w (links_items j ks)) (append_assoc (inside k t) rest ls), hung_sum j k (port i) t, placed-append k (agents_in t) (agents_among ts), inside_sum j k t (rest ++ ls), hanging_sum j port (i + 1) later ts ls, sum-append w (items_in (mark k t)) marked)

  sides_sum : (j k i : ℕ) (t u : Tree) → sides_items (j, false) (j, true) (mark k t) (mark i u) ≡ ends_items j (end_of k t) (end_of i u)
  sides_sum j k i (name m) (name n) = refl
  sides_sum j k i (agent s ts) (agent r us) = refl
  sides_sum j k i t u = refl

  joined_sum : (rs : List Rule) (j k : ℕ) (ps : List Pair) → sum w (links_items j (joined rs k ps)) + sum w (placed_from k (pairs_agents ps)) ≡ sum w (all_items (mark_all j k ps))
  joined_sum rs j k [] = refl
  joined_sum rs j k (p ∷ ps) =
      let right = k + length (agents_in p.left) in
      let later = k + length (pair_agents p) in
      let rest = joined rs later ps in
      let equation = equation_link rs k right p in
      let point = next_point j k p in
      let sides = sides_items (j, false) (j, true) (mark k p.left) (mark right p.right) in
      let links = ap (λ ks. sum w (links_items j ks)) (append_assoc (inside k p.left) (equation ∷ inside right p.right) rest) in
      let left = inside_sum j k p.left (equation ∷ (inside right p.right ++ rest)) in
      let ends = sum-append w (ends_items j (end_of k p.left) (end_of right p.right)) (links_items point (inside right p.right ++ rest)) in
      let agents = placed-append k (pair_agents p) (pairs_agents ps) in
      let both = placed-append k (agents_in p.left) (agents_in p.right) in
      let items = sum-append w (pair_items (mark_pair j k p)) (all_items (mark_all point later ps)) in
      let own = sum-append w (items_in (mark k p.left)) (sides ++ items_in (mark right p.right)) in
      let last = sum-append w sides (items_in (mark right p.right)) in
      omega (arith, inside_sum point right p.right rest, joined_sum rs point later ps, ap (sum w) (sides_sum j k right p.left p.right))

  pub drawn_sum : (rs : List Rule) (c : Configuration) → sum w (links_items 0 (links_of rs c)) + sum w (placed_from 0 (agents_of c)) ≡ sum w (items_of c)
  drawn_sum rs c =
      let ts = trees_of c.interface in
      let first = first_equation c in
      let front : 0 + first ≡ first = omega arith in
      let hangs = hanging_sum 0 Interface 1 0 ts (joined rs first c.equations) in
      let placed = placed-append 0 (agents_among ts) (pairs_agents c.equations) in
      let items = sum-append w (items_among Interface 1 (marks 0 ts)) (all_items (mark_all 0 first c.equations)) in
      omega (arith, joined_sum rs 0 first c.equations, ap (λ j. sum w (placed_from j (pairs_agents c.equations))) front)

-- ---- weights of agents alone, and of what is joined alone

pub no_places : (w : Item → ℕ) → ((k : ℕ) (a : Agent) → w (placed k a) ≡ 0) → (k : ℕ) (xs : List Agent) → sum w (placed_from k xs) ≡ 0
no_places w none k [] = refl
no_places w none k (a ∷ xs) = λ i. none k a i + no_places w none (k + 1) xs i

pub joined_alone : (w : Item → ℕ) → ((k : ℕ) (a : Agent) → w (placed k a) ≡ 0) → (rs : List Rule) (c : Configuration) → sum w (links_items 0 (links_of rs c)) ≡ sum w (items_of c)
joined_alone w none rs c = omega (arith, no_places w none 0 (agents_of c), drawn_sum w rs c)

-- ---- the wires of a net

some : (b : Bool) → ◌≡◌ {A = ℕ} (cond b 2 1) 0 → ⊥
some true e = omega arith
some false e = omega arith

module _ (P : Weight) where
  abbrev pub wire_weight : Wire → ℕ
  wire_weight w = P w.from w.to

  plain_sum : (j : ℕ) (ls : List Link) → sum wire_weight (plain_wires ls) ≡ sum (joined_by P) (links_items j ls)
  plain_sum j [] = refl
  plain_sum j (l ∷ ls) = by l.active l.from l.to (plain_sum j ls) (plain_sum (j + 1) ls)
    where
      by : (active : Bool) (a b : End) → sum wire_weight (plain_wires ls) ≡ sum (joined_by P) (links_items j ls) → sum wire_weight (plain_wires ls) ≡ sum (joined_by P) (links_items (j + 1) ls)
          → sum wire_weight (wire_between active a b ++ plain_wires ls) ≡ sum (joined_by P) (ends_items j a b ++ links_items (cond (are_names a b) (j + 1) j) ls)
      by active (At p) (At q) here next = omega arith
      by active (Named m) (Named n) here next = omega arith
      by active a b here next = omega arith

  unnamed : (x : ℕ) (es : List (ℕ × Wire)) → stands x es ≡ 0 → wire_named x es ≡ None
  unnamed x [] none = refl
  unnamed x (e ∷ es) none = by (e.0 == x) none (unnamed x es)
    where
      by : (b : Bool) → cond b (cond (is_bound e.1.to) 2 1) (stands x es) ≡ 0 → (stands x es ≡ 0 → wire_named x es ≡ None) → cond b (Some e.1) (wire_named x es) ≡ None
      by true none later = absurd (some (is_bound e.1.to) none)
      by false none later = later none

  total_none : (N : ℕ) → total (λ n. 0) N ≡ 0
  total_none zero = refl
  total_none (suc N) = omega (arith, total_none N)

  module _ (N : ℕ) where
    own_total : (es : List (ℕ × Wire)) → AreOwn es → ((n : ℕ) → N ≤ n → stands n es ≡ 0) → sum wire_weight (own_wires es) ≡ total (λ n. worth P (wire_named n es)) N
    own_total [] own below = sym (total_none N)
    own_total (e ∷ es) own below =
        let f : ℕ → ℕ = λ n. worth P (wire_named n (e ∷ es)) in
        let g : ℕ → ℕ = λ n. worth P (wire_named n es) in
        let differ : (n : ℕ) → (e.0 == n) ≡ false → f n ≡ g n = λ n off. ap (λ b. worth P (cond b (Some e.1) (wire_named n es))) off in
        let it = eq-eqb e.0 e.0 refl in
        let here : f e.0 ≡ wire_weight e.1 = ap (λ b. worth P (cond b (Some e.1) (wire_named e.0 es))) it in
        let isnt : N ≤ e.0 → ⊥ = λ le. some (is_bound e.1.to) (rw it at (below e.0 le)) in
        omega (arith, own_total es own.3 (λ n le. by n (e.0 == n) (below n le)), total_but_one f g e.0 differ N (omega (arith, isnt)), ap (worth P) (unnamed e.0 es own.2))
      where
        by : (n : ℕ) (b : Bool) → cond b (cond (is_bound e.1.to) 2 1) (stands n es) ≡ 0 → stands n es ≡ 0
        by n true z = absurd (some (is_bound e.1.to) z)
        by n false z = z

-- ---- the ports at which names stand

module _ (n : ℕ) (v : Port → ℕ) where
  abbrev of_standing : Standing → ℕ
  of_standing s = cond (s.name == n) (v s.port) 0

  ports_weigh : (ss : List Standing) → sum v (ports_at n ss) ≡ sum of_standing ss
  ports_weigh [] = refl
  ports_weigh (s ∷ ss) = by (s.name == n) (ports_weigh ss)
    where
      by : (b : Bool) → sum v (ports_at n ss) ≡ sum of_standing ss
          → sum v (map (λ (x : Standing). x.port) (cond b (s ∷ filter (λ (x : Standing). x.name == n) ss) (filter (λ (x : Standing). x.name == n) ss))) ≡ cond b (v s.port) 0 + sum of_standing ss
      by true rest = omega arith
      by false rest = omega arith

  standings_sum : (j : ℕ) (ls : List Link) → sum of_standing (standings j ls) ≡ sum (at n v) (links_items j ls)
  standings_sum j [] = refl
  standings_sum j (l ∷ ls) = by l.from l.to (standings_sum j ls) (standings_sum (j + 1) ls)
    where
      by : (a b : End) → sum of_standing (standings j ls) ≡ sum (at n v) (links_items j ls) → sum of_standing (standings (j + 1) ls) ≡ sum (at n v) (links_items (j + 1) ls)
          → sum of_standing (standings_between j a b ++ standings (cond (are_names a b) (j + 1) j) ls) ≡ sum (at n v) (ends_items j a b ++ links_items (cond (are_names a b) (j + 1) j) ls)
      by (At p) (At q) here next = omega arith
      by (Named m) (Named i) here next = omega arith
      by a b here next = omega arith

  pub ports_sum : (rs : List Rule) (c : Configuration) → sum v (ports_at n (standings 0 (links_of rs c))) ≡ sum (at n v) (items_of c)
  ports_sum rs c = ports_weigh (standings 0 (links_of rs c)) ∙ standings_sum 0 (links_of rs c) ∙ joined_alone (at n v) (λ k a. refl) rs c

often_items : (n : ℕ) (rs : List Rule) (c : Configuration) → often n (standings 0 (links_of rs c)) ≡ sum (at n one) (items_of c)
often_items n rs c = sym (ports_weigh n one (standings 0 (links_of rs c))) ∙ ports_sum n one rs c

-- the wires of a net weigh what its configuration's do
pub net_value : (P : Weight) → BothWays P → (N : ℕ) (rs : List Rule) (c : Configuration) → Few N (items_of c)
    → sum (wire_weight P) (plain_wires (links_of rs c) ++ name_wires (standings 0 (links_of rs c))) ≡ value P N (items_of c)
net_value P both N rs c few =
    let ls = links_of rs c in
    let ss = standings 0 ls in
    let low : AreFew [] ss = λ n. omega (arith, often_items n rs c, (few n).0) in
    let own : AreOwn (named_wires ss) = all_own [] ss (are_bound rs c) low tt in
    let below : (n : ℕ) → N ≤ n → stands n (named_wires ss) ≡ 0 = λ n le. omega (arith, all_counted n [] ss (are_bound rs c) low, often_items n rs c, (few n).1 le) in
    let worths : (n : ℕ) → worth P (wire_named n (named_wires ss)) ≡ name_worth P n (ports_in n (items_of c)) =
    λ n. ap (worth P) (named-all n [] ss)
    ∙ worth_same P both n (ports_at n ss) (ports_in n (items_of c)) (λ v. ports_sum n v rs c ∙ sym (ports-sum n v (items_of c))) (omega (arith, ports_sum n one rs c, (few n).0)) in
    sum-append (wire_weight P) (plain_wires ls) (name_wires ss)
    ∙ (λ i. (plain_sum P 0 ls ∙ joined_alone (joined_by P) (λ k a. refl) rs c) i + (own_total P N (named_wires ss) own below ∙ total-same _ _ worths N) i)

-- ---- a number above all names, which occur at most twice

abbrev pub above : List ℕ → ℕ
above ns = sum (λ n. n + 1) ns

none_above : (n : ℕ) (ns : List ℕ) → above ns ≤ n → sum (λ m. bit (m == n)) ns ≡ 0
none_above n [] le = refl
none_above n (m ∷ ns) le = omega (arith, not_equal m n (λ e. omega (arith, e, le)), none_above n ns (omega (arith, le)))

pub names_few : (rs : List Rule) (c : Configuration) → AtMostTwice c → Few (above (configuration_names c)) (items_of c)
names_few rs c twice n =
    let same : sum (at n one) (items_of c) ≡ occurrences n (configuration_names c) = sym (often_items n rs c) ∙ often-names rs c n in
    (omega (arith, same, twice n), λ le. same ∙ sym (sum-occurrences n (configuration_names c)) ∙ none_above n (configuration_names c) le)

-- ---- the agents and the points of a net

-- what agents and points weigh
abbrev pub on_parts : (ℕ → Agent → ℕ) → (Side → Side → ℕ) → Item → ℕ
on_parts v u (placed k a) = v k a
on_parts v u (between l r) = u l r
on_parts v u x = 0

abbrev pub entries : ℕ → List Agent → List (ℕ × Agent)
entries k [] = []
entries k (a ∷ rest) = (k, a) ∷ entries (k + 1) rest

abbrev pub both_sides : (first count : ℕ) → List (Side × Side)
both_sides j zero = []
both_sides j (suc n) = ((j, false), (j, true)) ∷ both_sides (j + 1) n

module _ (v : ℕ → Agent → ℕ) (u : Side → Side → ℕ) where
  entries_sum : (k : ℕ) (xs : List Agent) → sum (λ (e : ℕ × Agent). v e.0 e.1) (entries k xs) ≡ sum (on_parts v u) (placed_from k xs)
  entries_sum k [] = refl
  entries_sum k (a ∷ xs) = ap (λ n. v k a + n) (entries_sum (k + 1) xs)

  sides_joined : (j : ℕ) (ls : List Link) → sum (λ (e : Side × Side). u e.0 e.1) (both_sides j (joints ls)) ≡ sum (on_parts v u) (links_items j ls)
  sides_joined j [] = refl
  sides_joined j (l ∷ ls) = by l.from l.to (sides_joined j ls) (sides_joined (j + 1) ls)
    where
      Sum : ℕ → ℕ → ℕ
      Sum i m = sum (λ (e : Side × Side). u e.0 e.1) (both_sides i m)

      by : (a b : End) → Sum j (joints ls) ≡ sum (on_parts v u) (links_items j ls) → Sum (j + 1) (joints ls) ≡ sum (on_parts v u) (links_items (j + 1) ls)
          → Sum j (cond (are_names a b) (suc (joints ls)) (joints ls)) ≡ sum (on_parts v u) (ends_items j a b ++ links_items (cond (are_names a b) (j + 1) j) ls)
      by (At p) (At q) here later = omega arith
      by (Named m) (Named n) here later = omega arith
      by a b here later = omega arith

  pub parts_sum : (rs : List Rule) (c : Configuration)
      → sum (λ (e : ℕ × Agent). v e.0 e.1) (entries 0 (agents_of c)) + sum (λ (e : Side × Side). u e.0 e.1) (both_sides 0 (joints (links_of rs c))) ≡ sum (on_parts v u) (items_of c)
  parts_sum rs c = omega (arith, entries_sum 0 (agents_of c), sides_joined 0 (links_of rs c), drawn_sum (on_parts v u) rs c)
