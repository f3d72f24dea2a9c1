-- Configurations whose equations are rearranged have nets that are one graph.
use Rattle.std.proofs.Common.{◌≡◌, ℕ, zero, suc, ◌+◌, ◌-◌, ◌<◌, ◌==◌, inl, inr, List, [], ◌∷◌, ◌++◌, true, false, length, map, refl, sym, ap, ◌∙◌, arith, subst as transport}
use Rattle.std.proofs.lemmas.List.{map-append}
use Rattle.std.proofs.lemmas.Bool.{cases_eq}
use Rattle.ic_term.specs.Tree.{trees_of}
use Rattle.ic_term.specs.Configuration.{Configuration, configuration_names}
use Rattle.ic_rules.specs.Rule.{Rule}
use Rattle.ic_confluence.specs.Sameness.{Rearranges, Renames}
use Rattle.ic_nets.specs.Likeness.{AreAlike, EitherWay, InSomeOrder, IsVertex, Vertex, carried, carried_ends, edges, points, vertex, vertices, counted_ports}
use Rattle.ic_nets.specs.Nets.{agents_among, agents_of, links_of, IsNet}
use Rattle.ic_nets.specs.declared.net.Agent.{Agent}
use Rattle.ic_nets.specs.declared.net.Net.{Net}
use Rattle.ic_nets.specs.declared.net.Wire.{Wire}
use Rattle.ic_nets.specs.declared.port.Port.{Port}
use Rattle.ic_nets.specs.declared.port.Port.TheVariants.{Interface, Principal, Auxiliary, Left, Right}
use Rattle.ic_nets.proofs.PortNames.{paired, paired-apart, port_number, port_one}
use Rattle.ic_nets.proofs.AlikeLemmas.{nets_alike, wires_of}
use Rattle.ic_nets.proofs.PortLemmas.{joints}
use Rattle.ic_nets.proofs.RenamingLemmas.{net_forgets, still_twice}
use Rattle.ic_nets.proofs.EndLemmas.{AtMostTwice}
use Rattle.ic_nets.proofs.SumLemmas.{AreApart, among, bit, counted, in_order, mapped_order, not_equal, same_apart, sum, sum-append, sum-map, sum-same, turned_into}
use Rattle.ic_nets.proofs.MarkLemmas.{Item, wired, Side, side_port, Markeds, items_among}
use Rattle.ic_nets.proofs.ValueLemmas.{Weight, Blind, Few, value}
use Rattle.ic_nets.proofs.MovedLemmas.{Agree, Equation, all_items, all_moved, bare_pair, few_too}
use Rattle.ic_nets.proofs.DrawnLemmas.{above, bare-all, bares-marks, both_sides, entries, first_equation, items_of, mark_all, marks, names_few, net_value, on_parts, parts_sum, places_items, wire_weight}
use Rattle.ic_nets.proofs.CarriedLemmas.{all_carried, all_ids_count, among_carried, carry, carry_apart, carry_bound, carry_item, few_carried, ids_all, ids_among, ids_sum_among, length_counted, numbers_sum, on_numbers, parted_count, points_all, sides_all, sides_counted, sides_length, value_carried}

-- ---- numbers of sides, edges and agents, by which they are told apart

abbrev own : ℕ → ℕ
own n = n

own_one : (m n : ℕ) → own m ≡ own n → m ≡ n
own_one m n e = e

abbrev side_number : Side → ℕ
side_number s = s.0 + s.0 + bit s.1

side_one : (s t : Side) → side_number s ≡ side_number t → s ≡ t
side_one (j, true) (k, true) e = let same : j ≡ k = omega (arith, e) in λ i. (same i, true)
side_one (j, false) (k, false) e = let same : j ≡ k = omega (arith, e) in λ i. (same i, false)
side_one s t e = absurd (omega (arith, e))

abbrev Edge : Type 0
Edge = Port × Port

-- which number stands first says nothing
abbrev either : (m n : ℕ) → ℕ
either m n = paired (m + n) ((m - n) + (n - m))

either_back : (m n : ℕ) → either m n ≡ either n m
either_back m n =
    let all : m + n ≡ n + m = omega arith in
    let between : (m - n) + (n - m) ≡ (n - m) + (m - n) = omega arith in
    λ i. paired (all i) (between i)

abbrev edge_number : Edge → ℕ
edge_number e = either (port_number e.0) (port_number e.1)

edge_one : (e f : Edge) → edge_number e ≡ edge_number f → EitherWay e f
edge_one e f same =
    let a = port_number e.0 in
    let b = port_number e.1 in
    let c = port_number f.0 in
    let d = port_number f.1 in
    let both = paired-apart (a + b) ((a - b) + (b - a)) (c + d) ((c - d) + (d - c)) same in
    elim (cases_eq a c) [
      | inl first ↦ inl (λ i. (port_one e.0 f.0 first i, port_one e.1 f.1 (omega (arith, both.0, first)) i))
      | inr isnt ↦ inr (λ i. (port_one e.0 f.1 (omega (arith, both, isnt)) i, port_one e.1 f.0 (omega (arith, both, isnt)) i))
    ]

abbrev Entry : Type 0
Entry = ℕ × Agent

abbrev IsEntry : Entry → Entry → Type 0
IsEntry e f = e ≡ f

abbrev entry_number : Entry → ℕ
entry_number e = paired e.0 (paired e.1.sym e.1.arity)

entry_one : (e f : Entry) → entry_number e ≡ entry_number f → IsEntry e f
entry_one e f same =
    let outer = paired-apart e.0 (paired e.1.sym e.1.arity) f.0 (paired f.1.sym f.1.arity) same in
    let inner = paired-apart e.1.sym e.1.arity f.1.sym f.1.arity outer.1 in
    λ i. (outer.0 i, record { sym = inner.0 i; arity = inner.1 i })

-- ---- what is counted on has nothing twice

counted_below : (m k n : ℕ) → m < k → among own m (counted k n) ≡ 0
counted_below m k zero lt = refl
counted_below m k (suc n) lt = omega (arith, not_equal m k (λ e. omega (arith, e, lt)), counted_below m (k + 1) n (omega (arith, lt)))

counted_apart : (k n : ℕ) → AreApart own own_one (counted k n)
counted_apart k zero = tt
counted_apart k (suc n) = (counted_below k (k + 1) n (omega arith), counted_apart (k + 1) n)

sides_below : (m j n : ℕ) → m < j + j → among side_number m (sides_counted j n) ≡ 0
sides_below m j zero lt = refl
sides_below m j (suc n) lt =
    omega (arith, not_equal m (side_number (j, false)) (λ e. omega (arith, e, lt)), not_equal m (side_number (j, true)) (λ e. omega (arith, e, lt)), sides_below m (j + 1) n (omega (arith, lt)))

sides_apart : (j n : ℕ) → AreApart side_number side_one (sides_counted j n)
sides_apart j zero = tt
sides_apart j (suc n) = (
  omega (arith, not_equal (side_number (j, false)) (side_number (j, true)) (λ e. omega (arith, e)), sides_below (side_number (j, false)) (j + 1) n (omega arith)),
  (sides_below (side_number (j, true)) (j + 1) n (omega arith), sides_apart (j + 1) n),
)

-- ---- sums over agents and points

nothing : {A : Type 0} (xs : List A) → sum (λ (x : A). 0) xs ≡ 0
nothing [] = refl
nothing (x ∷ xs) = omega (arith, nothing xs)

counted_sum : (v : ℕ → ℕ) (k : ℕ) (xs : List Agent) → sum v (counted k (length xs)) ≡ sum (λ (e : Entry). v e.0) (entries k xs)
counted_sum v k [] = refl
counted_sum v k (a ∷ xs) = ap (λ n. v k + n) (counted_sum v (k + 1) xs)

sides_sum : (u : Side → ℕ) (j n : ℕ) → sum u (sides_counted j n) ≡ sum (λ (e : Side × Side). u e.0 + u e.1) (both_sides j n)
sides_sum u j zero = refl
sides_sum u j (suc n) = omega (arith, sides_sum u (j + 1) n)

points_sum : (P : Weight) (u : Side → Side → ℕ) → ((j : ℕ) → P (Left j) (Right j) ≡ u (j, false) (j, true)) → (j n : ℕ)
    → sum (λ (e : Edge). P e.0 e.1) (points j n) ≡ sum (λ (e : Side × Side). u e.0 e.1) (both_sides j n)
points_sum P u is j zero = refl
points_sum P u is j (suc n) = λ i. is j i + points_sum P u is (j + 1) n i

-- ---- agents as vertices

abbrev entry_vertex : Entry → Vertex
entry_vertex e = vertex e.0 e.1

entry_vertices : (k : ℕ) (xs : List Agent) → map entry_vertex (entries k xs) ≡ vertices k xs
entry_vertices k [] = refl
entry_vertices k (a ∷ xs) = ap (λ vs. vertex k a ∷ vs) (entry_vertices (k + 1) xs)

module _ (f : ℕ → ℕ) (g : Side → Side) where
  abbrev entry_carried : Entry → Entry
  entry_carried e = (f e.0, e.1)

  ports_counted : (k i n : ℕ) → map (carry f g) (counted_ports (Auxiliary k) i n) ≡ counted_ports (Auxiliary (f k)) i n
  ports_counted k i zero = refl
  ports_counted k i (suc n) = ap (λ ps. Auxiliary (f k) i ∷ ps) (ports_counted k (i + 1) n)

  carried_vertices : (k : ℕ) (xs : List Agent) → map entry_vertex (map entry_carried (entries k xs)) ≡ map (carried (carry f g)) (vertices k xs)
  carried_vertices k [] = refl
  carried_vertices k (a ∷ xs) =
      let ports = sym (ports_counted k 1 a.arity) in
      λ i. record { sym = a.sym; principal = Principal (f k); auxiliary = ports i } ∷ carried_vertices (k + 1) xs i

-- ---- the law

module _ (rs : List Rule) (b : Configuration) (twice : AtMostTwice b) (ds : List Equation) (moved : Agree (above (configuration_names b)) (all_items (mark_all 0 (first_equation b) b.equations)) (all_items ds)) where
  abbrev bound : ℕ
  bound = above (configuration_names b)

  abbrev after : Configuration
  after = record b { equations = map bare_pair ds }

  abbrev marked : Markeds
  marked = marks 0 (trees_of b.interface)

  abbrev result : List Item
  result = places_items b ++ all_items ds

  blind_same : (w : Item → ℕ) → Blind w → sum w (items_of b) ≡ sum w result
  blind_same w blind =
      sum-append w (places_items b) (all_items (mark_all 0 (first_equation b) b.equations))
      ∙ ap (λ k. sum w (places_items b) + k) (moved.0 w blind) ∙ sym (sum-append w (places_items b) (all_items ds))

  abbrev ids : List ℕ
  ids = ids_among marked ++ ids_all ds

  numbers_same : (v : ℕ → ℕ) (u : Side → ℕ) → sum v (counted 0 (length (agents_of b))) + sum u (sides_counted 0 (joints (links_of rs b))) ≡ sum v ids + sum u (sides_all ds)
  numbers_same v u =
      let blind = blind_same (on_numbers v u) ((λ p q. refl, λ l r. omega arith), λ p q. refl, λ n p q. refl) in
      let items = sum-append (on_numbers v u) (places_items b) (all_items ds) in
      let listed = sum-append v (ids_among marked) (ids_all ds) in
      let parts = parts_sum (λ k a. v k) (λ l r. u l + u r) rs b in
      omega (arith, counted_sum v 0 (agents_of b), sides_sum u 0 (joints (links_of rs b)), ids_sum_among v u Interface 1 marked, numbers_sum v u ds)

  ids_same : (v : ℕ → ℕ) → sum v (counted 0 (length (agents_of b))) ≡ sum v ids
  ids_same v = omega (arith, numbers_same v (λ s. 0), nothing (sides_counted 0 (joints (links_of rs b))), nothing (sides_all ds))

  sides_same : (u : Side → ℕ) → sum u (sides_counted 0 (joints (links_of rs b))) ≡ sum u (sides_all ds)
  sides_same u = omega (arith, numbers_same (λ n. 0) u, nothing (counted 0 (length (agents_of b))), nothing ids)

  numbers : (f : ℕ → ℕ) × ((x y : ℕ) → f x ≡ f y → x ≡ y) × (map f ids ≡ counted 0 (length ids))
  numbers =
      turned_into own own_one ids (counted 0 (length ids))
      (same_apart own own_one (counted 0 (length (agents_of b))) ids (λ n. ids_same (λ y. bit (n == y))) (counted_apart 0 (length (agents_of b))))
      (counted_apart 0 (length ids)) (length_counted 0 (length ids))

  points_turned : (g : Side → Side) × ((x y : Side) → g x ≡ g y → x ≡ y) × (map g (sides_all ds) ≡ sides_counted 0 (points_all ds))
  points_turned =
      turned_into side_number side_one (sides_all ds) (sides_counted 0 (points_all ds))
      (same_apart side_number side_one (sides_counted 0 (joints (links_of rs b))) (sides_all ds) (λ n. sides_same (λ y. bit (n == side_number y))) (sides_apart 0 (joints (links_of rs b))))
      (sides_apart 0 (points_all ds)) (sides_length 0 ds)

  abbrev f : ℕ → ℕ
  f = numbers.0

  abbrev g : Side → Side
  g = points_turned.0

  result_carried : map (carry_item f g) result ≡ items_of after
  result_carried =
      let parts = parted_count f 0 (ids_among marked) (ids_all ds) numbers.2 in
      let same = bares-marks 0 (trees_of b.interface) in
      let first : 0 + length (ids_among marked) ≡ first_equation b = omega (arith, all_ids_count f g marked, ap (λ ts. length (agents_among ts)) same) in
      map-append (carry_item f g) (places_items b) (all_items ds)
      ∙ (λ i. among_carried f g Interface Interface (λ k. refl) 1 0 marked parts.0 i ++ all_carried f g 0 (0 + length (ids_among marked)) ds parts.1 points_turned.2 i)
      ∙ (λ i. items_among Interface 1 (marks 0 (same i)) ++ all_items (mark_all 0 (first i) (map bare_pair ds)))

  few_result : Few bound result
  few_result = few_too bound (places_items b) (all_items (mark_all 0 (first_equation b) b.equations)) (all_items ds) moved.0 (names_few rs b twice)

  few_after : Few bound (items_of after)
  few_after = transport (λ (xs : List Item). Few bound xs) result_carried (few_carried f g numbers.1 points_turned.1 bound result few_result)

  abbrev test : ℕ → Weight
  test z p q = bit (z == edge_number (p, q))

  abbrev test_before : ℕ → Weight
  test_before z p q = test z (carry f g p) (carry f g q)

  test_both : (z : ℕ) (p q : Port) → test z p q ≡ test z q p
  test_both z p q = ap (λ n. bit (z == n)) (either_back (port_number p) (port_number q))

  wires_same : (z : ℕ) → sum (wire_weight (test_before z)) (wires_of rs b) ≡ sum (wire_weight (test z)) (wires_of rs after)
  wires_same z =
      let before_both : (p q : Port) → test_before z p q ≡ test_before z q p = λ p q. test_both z (carry f g p) (carry f g q) in
      net_value (test_before z) before_both bound rs b (names_few rs b twice)
      ∙ moved.1 (test_before z) before_both (places_items b) (names_few rs b twice)
      ∙ value_carried f g numbers.1 points_turned.1 (test z) bound result few_result
      ∙ ap (value (test z) bound) result_carried
      ∙ sym (net_value (test z) (test_both z) bound rs after few_after)

  module _ (v : ℕ → Agent → ℕ) (u : Side → Side → ℕ) (both : (l r : Side) → u l r ≡ u r l) where
    abbrev before : Item → ℕ
    before = on_parts (λ k a. v (f k) a) (λ l r. u (g l) (g r))

    part_carried : (x : Item) → before x ≡ on_parts v u (carry_item f g x)
    part_carried (wired p q) = refl
    part_carried x = refl

    parts_same : sum (λ (e : Entry). v (f e.0) e.1) (entries 0 (agents_of b)) + sum (λ (e : Side × Side). u (g e.0) (g e.1)) (both_sides 0 (joints (links_of rs b)))
        ≡ sum (λ (e : Entry). v e.0 e.1) (entries 0 (agents_of after)) + sum (λ (e : Side × Side). u e.0 e.1) (both_sides 0 (joints (links_of rs after)))
    parts_same =
        parts_sum (λ k a. v (f k) a) (λ l r. u (g l) (g r)) rs b
        ∙ blind_same before ((λ p q. refl, λ l r. both (g l) (g r)), λ p q. refl, λ n p q. refl)
        ∙ sum-same before (λ x. on_parts v u (carry_item f g x)) part_carried result
        ∙ sym (sum-map (carry_item f g) (on_parts v u) result)
        ∙ ap (sum (on_parts v u)) result_carried
        ∙ sym (parts_sum v u rs after)

  agents_same : (z : ℕ) → sum (λ (e : Entry). bit (z == entry_number (f e.0, e.1))) (entries 0 (agents_of b)) ≡ among entry_number z (entries 0 (agents_of after))
  agents_same z =
      omega (arith, parts_same (λ k a. bit (z == entry_number (k, a))) (λ l r. 0) (λ l r. refl), nothing (both_sides 0 (joints (links_of rs b))), nothing (both_sides 0 (joints (links_of rs after))))

  points_same : (z : ℕ) → sum (λ (e : Edge). test_before z e.0 e.1) (points 0 (joints (links_of rs b))) ≡ among edge_number z (points 0 (joints (links_of rs after)))
  points_same z =
      let parts = parts_same (λ k a. 0) (λ l r. test z (side_port l) (side_port r)) (λ l r. test_both z (side_port l) (side_port r)) in
      let given = points_sum (test_before z) (λ l r. test z (side_port (g l)) (side_port (g r))) (λ j. refl) 0 (joints (links_of rs b)) in
      let left = points_sum (test z) (λ l r. test z (side_port l) (side_port r)) (λ j. refl) 0 (joints (links_of rs after)) in
      omega (arith, nothing (entries 0 (agents_of b)), nothing (entries 0 (agents_of after)))

  agents_ordered : InSomeOrder IsVertex (map (carried (carry f g)) (vertices 0 (agents_of b))) (vertices 0 (agents_of after))
  agents_ordered =
      transport (λ (e : List Vertex × List Vertex). InSomeOrder IsVertex e.0 e.1) (λ i. (carried_vertices f g 0 (agents_of b) i, entry_vertices 0 (agents_of after) i))
      (mapped_order IsEntry IsVertex entry_vertex (λ x y same. ap entry_vertex same) (map (entry_carried f g) (entries 0 (agents_of b))) (entries 0 (agents_of after))
      (in_order entry_number IsEntry entry_one (map (entry_carried f g) (entries 0 (agents_of b))) (entries 0 (agents_of after))
      (λ z. sum-map (entry_carried f g) (λ y. bit (z == entry_number y)) (entries 0 (agents_of b)) ∙ agents_same z)))

  joints_ordered : InSomeOrder EitherWay (map (carried_ends (carry f g)) (points 0 (joints (links_of rs b)))) (points 0 (joints (links_of rs after)))
  joints_ordered =
      in_order edge_number EitherWay edge_one _ _
      (λ z. sum-map (carried_ends (carry f g)) (λ y. bit (z == edge_number y)) (points 0 (joints (links_of rs b))) ∙ points_same z)

  edges_ordered : InSomeOrder EitherWay (map (carried_ends (carry f g)) (edges (wires_of rs b))) (edges (wires_of rs after))
  edges_ordered =
      in_order edge_number EitherWay edge_one _ _
      (λ z.
      sum-map (carried_ends (carry f g)) (λ y. bit (z == edge_number y)) (edges (wires_of rs b))
      ∙ sum-map (λ (w : Wire). (w.from, w.to)) (λ y. bit (z == edge_number (carried_ends (carry f g) y))) (wires_of rs b)
      ∙ wires_same z
      ∙ sym (sum-map (λ (w : Wire). (w.from, w.to)) (λ y. bit (z == edge_number y)) (wires_of rs after)))

  after_alike : (m n : Net) → IsNet rs b m → IsNet rs after n → AreAlike m n
  after_alike =
      nets_alike rs b after (carry f g) (carry_bound f g numbers.1 points_turned.1) (carry_apart f g numbers.1 points_turned.1) (λ k. refl) (λ i. refl) refl
      agents_ordered joints_ordered edges_ordered

rearranged_alike : (rs : List Rule) (b d : Configuration) (m n : Net) → AtMostTwice b → Rearranges b d → IsNet rs b m → IsNet rs d n → AreAlike m n
rearranged_alike rs b d m n twice rearranges is_m is_n =
    let first = mark_all 0 (first_equation b) b.equations in
    let moved = all_moved (above (configuration_names b)) b.equations d.equations rearranges.equations first (bare-all 0 (first_equation b) b.equations) in
    after_alike rs b twice moved.0 moved.2 m n is_m
    (transport (λ (e : Configuration). IsNet rs e n) (rearranges.result ∙ (λ i. record b { equations = sym moved.1 i })) is_n)

pub parts_alike : (rs : List Rule) (c b d : Configuration) (m n : Net) → AtMostTwice c → Renames c b → Rearranges b d → IsNet rs c m → IsNet rs d n → AreAlike m n
parts_alike rs c b d m n twice renames rearranges is_m is_n =
    rearranged_alike rs b d m n (still_twice c b twice renames) rearranges (net_forgets rs c b m twice renames is_m) is_n
