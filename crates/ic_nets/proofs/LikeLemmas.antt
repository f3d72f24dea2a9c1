-- Nets that are one graph are of configurations that settle to one net.
use Rattle.std.proofs.Common.{◌≡◌, ℕ, zero, suc, ◌+◌, inl, inr, List, [], ◌∷◌, ◌++◌, map, refl, sym, ap, ◌∙◌, arith, subst as transport}
use Rattle.std.proofs.lemmas.Simd.{map-map}
use Rattle.ic_term.specs.Tree.{name, agent, trees_of, Pair}
use Rattle.ic_term.specs.Configuration.{Configuration, IsConfiguration}
use Rattle.ic_settle.specs.Settling.{settled}
use Rattle.ic_rules.specs.Rule.{Rule}
use Rattle.ic_confluence.specs.Sameness.{Alike, itself, exchanged, Rearranged, nothing, kept, swapped, one_by_one, Same, rearranging, through}
use Rattle.ic_nets.specs.Likeness.{AreAlike, EitherWay, InSomeOrder, empty, matched, crossed, chained, IsVertex, Vertex, carried, carried_ends, edges, points, vertices, counted_ports, ports_of}
use Rattle.ic_nets.specs.Nets.{IsNet}
use Rattle.ic_nets.specs.inner.ReadBack.{IsNaming, agent_equation, agent_equations, equated, joint_equations, names_at, read_back, wire_equations}
use Rattle.ic_nets.specs.declared.net.Agent.{Agent}
use Rattle.ic_nets.specs.declared.net.Net.{Net}
use Rattle.ic_nets.specs.declared.net.Wire.{Wire}
use Rattle.ic_nets.specs.declared.port.Port.{Port}
use Rattle.ic_nets.specs.declared.port.Port.TheVariants.{Interface, Principal, Auxiliary, Left, Right}
use Rattle.ic_nets.proofs.LeadLemmas.{Laws, after_these, as_they_are, parts}
use Rattle.ic_nets.proofs.NamingLemmas.{found_again, read_names}
use Rattle.ic_nets.proofs.PortNames.{numbered, numbering, port_number, reach, reached}

-- ---- equations in some order

before_these : (xs ys zs : List Pair) → Rearranged xs ys → Rearranged (xs ++ zs) (ys ++ zs)
before_these xs ys zs nothing = as_they_are zs
before_these xs ys zs (kept p q es fs alike rest) = kept p q (es ++ zs) (fs ++ zs) alike (before_these es fs zs rest)
before_these xs ys zs (swapped p q es) = swapped p q (es ++ zs)
before_these xs ys zs (one_by_one es fs gs first second) = one_by_one (es ++ zs) (fs ++ zs) (gs ++ zs) (before_these es fs zs first) (before_these fs gs zs second)

both_ordered : (xs ys us vs : List Pair) → Rearranged xs ys → Rearranged us vs → Rearranged (xs ++ us) (ys ++ vs)
both_ordered xs ys us vs first second = one_by_one (xs ++ us) (ys ++ us) (ys ++ vs) (before_these xs ys us first) (after_these ys us vs second)

module _ {A : Type 0} (like : A → A → Type 0) (equation : A → Pair) (alike : (x y : A) → like x y → Alike (equation x) (equation y)) where
  ordered : (xs ys : List A) → InSomeOrder like xs ys → Rearranged (map equation xs) (map equation ys)
  ordered xs ys empty = nothing
  ordered xs ys (matched x y us vs is rest) = kept (equation x) (equation y) (map equation us) (map equation vs) (alike x y is) (ordered us vs rest)
  ordered xs ys (crossed x y us) = swapped (equation x) (equation y) (map equation us)
  ordered xs ys (chained us vs ws first second) = one_by_one (map equation us) (map equation vs) (map equation ws) (ordered us vs first) (ordered vs ws second)

-- ---- what is read back is an equation for each vertex, point and edge

module _ (f : Port → ℕ) where
  abbrev vertex_equation : Vertex → Pair
  vertex_equation v = equated (name (f v.principal)) (agent v.sym (trees_of (map (λ p. name (f p)) v.auxiliary)))

  abbrev edge_equation : Port × Port → Pair
  edge_equation e = equated (name (f e.0)) (name (f e.1))

  of_vertices : (k : ℕ) (xs : List Agent) → map vertex_equation (vertices k xs) ≡ agent_equations f k xs
  of_vertices k [] = refl
  of_vertices k (a ∷ xs) = ap (λ es. agent_equation f k a ∷ es) (of_vertices (k + 1) xs)

  of_points : (j m : ℕ) → map edge_equation (points j m) ≡ joint_equations f j m
  of_points j zero = refl
  of_points j (suc m) = ap (λ es. equated (name (f (Left j))) (name (f (Right j))) ∷ es) (of_points (j + 1) m)

  same_vertex : (v w : Vertex) → IsVertex v w → Alike (vertex_equation v) (vertex_equation w)
  same_vertex v w same = transport (λ (u : Vertex). Alike (vertex_equation v) (vertex_equation u)) same (itself (vertex_equation v))

  same_edge : (d e : Port × Port) → EitherWay d e → Alike (edge_equation d) (edge_equation e)
  same_edge d e (inl same) = transport (λ (u : Port × Port). Alike (edge_equation d) (edge_equation u)) same (itself (edge_equation d))
  same_edge d e (inr same) = transport (λ (u : Port × Port). Alike (edge_equation u) (edge_equation e)) (sym same) (exchanged (edge_equation (e.1, e.0)))

  module _ (to : Port → Port) where
    abbrev there : Port → ℕ
    there p = f (to p)

    pub of_carried_vertices : (k : ℕ) (xs : List Agent) → map vertex_equation (map (carried to) (vertices k xs)) ≡ agent_equations there k xs
    of_carried_vertices k [] = refl
    of_carried_vertices k (a ∷ xs) =
        (λ i. equated (name (there (Principal k))) (agent a.sym (trees_of (map-map (λ p. name (f p)) to (counted_ports (Auxiliary k) 1 a.arity) i))) ∷ of_carried_vertices (k + 1) xs i)

    pub of_places : ((i : ℕ) → to (Interface i) ≡ Interface i) → (i count : ℕ) → names_at there Interface i count ≡ names_at f Interface i count
    of_places stay i zero = refl
    of_places stay i (suc count) = (λ d. name (f (stay i d)) ∷ of_places stay (i + 1) count d)

-- ---- alike nets are read back as one net

module _ (m n : Net) (is : AreAlike m n) (f : Port → ℕ) (next : ℕ) where
  abbrev g : Port → ℕ
  g p = f (is.to p)

  abbrev Both : List Pair × List Pair → Type 0
  Both es = Rearranged es.0 es.1

  agents_ordered : Rearranged (agent_equations g 0 m.agents.items) (agent_equations f 0 n.agents.items)
  agents_ordered =
      transport Both (λ i. (of_carried_vertices f is.to 0 m.agents.items i, of_vertices f 0 n.agents.items i)) (ordered IsVertex (vertex_equation f) (same_vertex f) _ _ is.agents)

  points_ordered : Rearranged (joint_equations g 0 m.joints) (joint_equations f 0 n.joints)
  points_ordered =
      transport Both (λ i. ((map-map (edge_equation f) (carried_ends is.to) (points 0 m.joints) ∙ of_points g 0 m.joints) i, of_points f 0 n.joints i))
      (ordered EitherWay (edge_equation f) (same_edge f) _ _ is.joints)

  edges_ordered : Rearranged (wire_equations g m.wires.items) (wire_equations f n.wires.items)
  edges_ordered =
      let ends : Wire → Port × Port = λ w. (w.from, w.to) in
      let there = map-map (edge_equation f) (carried_ends is.to) (edges m.wires.items) ∙ map-map (edge_equation g) ends m.wires.items in
      transport Both (λ i. (there i, map-map (edge_equation f) ends n.wires.items i)) (ordered EitherWay (edge_equation f) (same_edge f) _ _ is.wires)

  read_alike : Same (read_back g next m) (read_back f next n)
  read_alike =
      let all = both_ordered _ _ _ _ agents_ordered (both_ordered _ _ _ _ points_ordered edges_ordered) in
      let places : names_at f Interface 1 n.interface ≡ names_at g Interface 1 m.interface =
      ap (names_at f Interface 1) (sym is.interface) ∙ sym (of_places f is.to is.places 1 m.interface) in
      rearranging _ _ (record { equations = all; result = λ d. parts (places d) (read_back f next n).equations next })

-- ---- alike nets are of configurations that settle to one net

pub alike_nets : (laws : Laws) (rs : List Rule) (c d : Configuration) (m n : Net) → IsConfiguration c → IsConfiguration d → IsNet rs c m → IsNet rs d n → AreAlike m n
    → (next : ℕ) × Same (settled (record c { next = next })) (settled (record d { next = next }))
alike_nets laws rs c d m n sound_c sound_d of_c of_d is =
    let first = c.next + d.next in
    let f = numbered first in
    let there : Port → ℕ = λ p. f (is.to p) in
    let next = first + reach port_number (ports_of n) + reach there (ports_of m) in
    let naming = numbering n first in
    let naming_c : IsNaming there c.next next m = record {
      free = λ k. ap f (is.free k);
      apart = λ p q b e same. is.apart p q b e (naming.apart (is.to p) (is.to q) (is.bound p b) (is.bound q e) same);
      new = λ p b. omega (arith, naming.new (is.to p) (is.bound p b));
      below = λ p once. omega (arith, reached there p (ports_of m) (omega (arith, once)));
      room = omega arith;
    } in
    let naming_d : IsNaming f d.next next n = record {
      free = naming.free;
      apart = naming.apart;
      new = λ p b. omega (arith, naming.new p b);
      below = λ p once. omega (arith, naming.below p once);
      room = omega arith;
    } in
    let found_c = found_again rs c m there next sound_c of_c naming_c laws in
    let found_d = found_again rs d n f next sound_d of_d naming_d laws in
    let named = read_names rs c m there next sound_c of_c naming_c laws in
    let one = laws.settle _ _ named (read_alike m n is f next) in
    (next, through _ _ _ (laws.back _ _ found_c) (through _ _ _ one found_d))
