-- Lemmas: each net is like itself, likeness goes on, and the order of wires and of their ends says nothing.
use Rattle.std.proofs.Common.{◌≡◌, ℕ, inl, inr, List, ◌++◌, true, length, map, refl, sym, ap, ◌∙◌, subst as transport}
use Rattle.std.proofs.lemmas.List.{map-id}
use Rattle.std.proofs.lemmas.Simd.{map-map}
use Rattle.ic_term.specs.Configuration.{Configuration}
use Rattle.ic_rules.specs.Rule.{Rule}
use Rattle.ic_nets.specs.Likeness.{AreAlike, EitherWay, InSomeOrder, chained, IsVertex, Vertex, carried, carried_ends, edges, points, vertices, is_bound}
use Rattle.ic_nets.specs.Nets.{agents_of, links_of, IsNet, name_wires, plain_wires, standings}
use Rattle.ic_nets.specs.declared.net.Agent.{Agent}
use Rattle.ic_nets.specs.declared.net.Net.{Net}
use Rattle.ic_nets.specs.declared.net.Wire.{Wire}
use Rattle.ic_nets.specs.declared.port.Port.{Port}
use Rattle.ic_nets.specs.declared.port.Port.TheVariants.{Interface, Free}
use Rattle.ic_nets.proofs.PortLemmas.{joints, joints-are}
use Rattle.ic_nets.proofs.SumLemmas.{as_is, mapped_order}

pub either_through : (d e f : Port × Port) → EitherWay d e → EitherWay e f → EitherWay d f
either_through d e f (inl a) (inl b) = inl (a ∙ b)
either_through d e f (inl a) (inr b) = inr (a ∙ b)
either_through d e f (inr a) (inl b) = inr (a ∙ ap (λ (g : Port × Port). (g.1, g.0)) b)
either_through d e f (inr a) (inr b) = inl (a ∙ ap (λ (g : Port × Port). (g.1, g.0)) b)

pub either_kept : (to : Port → Port) (d e : Port × Port) → EitherWay d e → EitherWay (carried_ends to d) (carried_ends to e)
either_kept to d e (inl same) = inl (ap (carried_ends to) same)
either_kept to d e (inr same) = inr (ap (carried_ends to) same)

-- ---- carried by nothing, and twice

abbrev same_port : Port → Port
same_port p = p

vertices_stay : (vs : List Vertex) → map (carried same_port) vs ≡ vs
vertices_stay vs = (λ i. map (λ (v : Vertex). record { sym = v.sym; principal = v.principal; auxiliary = map-id v.auxiliary i }) vs) ∙ map-id vs

module _ (f g : Port → Port) where
  abbrev both : Port → Port
  both p = g (f p)

  vertices_twice : (vs : List Vertex) → map (carried g) (map (carried f) vs) ≡ map (carried both) vs
  vertices_twice vs =
      map-map (carried g) (carried f) vs ∙ (λ i. map (λ (v : Vertex). record { sym = v.sym; principal = both v.principal; auxiliary = map-map g f v.auxiliary i }) vs)

-- ---- alike nets

module _ (m n : Net) (interface : m.interface ≡ n.interface) (agents : m.agents.items ≡ n.agents.items) (joints : m.joints ≡ n.joints) (wires : InSomeOrder EitherWay (edges m.wires.items) (edges n.wires.items)) where
  pub alike_in_order : AreAlike m n
  alike_in_order = record {
    to = same_port;
    bound = λ p b. b;
    apart = λ p q b d same. same;
    free = λ k. refl;
    places = λ i. refl;
    interface = interface;
    agents = transport (λ (e : List Vertex × List Vertex). InSomeOrder IsVertex e.0 e.1) (λ i. (sym (vertices_stay (vertices 0 m.agents.items)) i, vertices 0 (agents i))) (as_is IsVertex (λ v. refl) (vertices 0 m.agents.items));
    joints = transport (λ (e : List (Port × Port) × List (Port × Port)). InSomeOrder EitherWay e.0 e.1) (λ i. (sym (map-id (points 0 m.joints)) i, points 0 (joints i))) (as_is EitherWay (λ e. inl refl) (points 0 m.joints));
    wires = transport (λ (es : List (Port × Port)). InSomeOrder EitherWay es (edges n.wires.items)) (sym (map-id (edges m.wires.items))) wires;
  }

pub alike_itself : (n : Net) → AreAlike n n
alike_itself n = alike_in_order n n refl refl refl (as_is EitherWay (λ e. inl refl) (edges n.wires.items))

pub alike_through : (m n o : Net) → AreAlike m n → AreAlike n o → AreAlike m o
alike_through m n o r s = record {
  to = λ p. s.to (r.to p);
  bound = λ p b. s.bound (r.to p) (r.bound p b);
  apart = λ p q b d same. r.apart p q b d (s.apart (r.to p) (r.to q) (r.bound p b) (r.bound q d) same);
  free = λ k. ap s.to (r.free k) ∙ s.free k;
  places = λ i. ap s.to (r.places i) ∙ s.places i;
  interface = r.interface ∙ s.interface;
  agents = chained _ _ _
      (transport (λ (vs : List Vertex). InSomeOrder IsVertex vs (map (carried s.to) (vertices 0 n.agents.items))) (vertices_twice r.to s.to (vertices 0 m.agents.items))
      (mapped_order IsVertex IsVertex (carried s.to) (λ v w same. ap (carried s.to) same) _ _ r.agents))
      s.agents;
  joints = chained _ _ _
      (transport (λ (es : List (Port × Port)). InSomeOrder EitherWay es (map (carried_ends s.to) (points 0 n.joints))) (map-map (carried_ends s.to) (carried_ends r.to) (points 0 m.joints))
      (mapped_order EitherWay EitherWay (carried_ends s.to) (either_kept s.to) _ _ r.joints))
      s.joints;
  wires = chained _ _ _
      (transport (λ (es : List (Port × Port)). InSomeOrder EitherWay es (map (carried_ends s.to) (edges n.wires.items))) (map-map (carried_ends s.to) (carried_ends r.to) (edges m.wires.items))
      (mapped_order EitherWay EitherWay (carried_ends s.to) (either_kept s.to) _ _ r.wires))
      s.wires;
}

abbrev pub wires_of : List Rule → Configuration → List Wire
wires_of rs c = plain_wires (links_of rs c) ++ name_wires (standings 0 (links_of rs c))

-- nets are alike where the agents, points and wires of their configurations are
pub nets_alike : (rs : List Rule) (c d : Configuration) (to : Port → Port) → ((p : Port) → is_bound p ≡ true → is_bound (to p) ≡ true) → ((p q : Port) → to p ≡ to q → p ≡ q)
    → ((k : ℕ) → to (Free k) ≡ Free k) → ((i : ℕ) → to (Interface i) ≡ Interface i) → length c.interface ≡ length d.interface
    → InSomeOrder IsVertex (map (carried to) (vertices 0 (agents_of c))) (vertices 0 (agents_of d))
    → InSomeOrder EitherWay (map (carried_ends to) (points 0 (joints (links_of rs c)))) (points 0 (joints (links_of rs d)))
    → InSomeOrder EitherWay (map (carried_ends to) (edges (wires_of rs c))) (edges (wires_of rs d)) → (m n : Net) → IsNet rs c m → IsNet rs d n → AreAlike m n
nets_alike rs c d to bound apart free places interface agents both wires m n of_m of_n = record {
  to = to;
  bound = bound;
  apart = λ p q b e same. apart p q same;
  free = free;
  places = places;
  interface = of_m.interface ∙ interface ∙ sym of_n.interface;
  agents = transport (λ (e : List Agent × List Agent). InSomeOrder IsVertex (map (carried to) (vertices 0 e.0)) (vertices 0 e.1)) (λ i. (sym of_m.agents i, sym of_n.agents i)) agents;
  joints = transport (λ (e : ℕ × ℕ). InSomeOrder EitherWay (map (carried_ends to) (points 0 e.0)) (points 0 e.1))
      (λ i. (sym (of_m.joints ∙ joints-are (links_of rs c)) i, sym (of_n.joints ∙ joints-are (links_of rs d)) i)) both;
  wires = transport (λ (e : List Wire × List Wire). InSomeOrder EitherWay (map (carried_ends to) (edges e.0)) (edges e.1)) (λ i. (sym of_m.wires i, sym of_n.wires i)) wires;
}
