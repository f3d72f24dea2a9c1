-- Each port of a net is listed once.
use Rattle.std.proofs.Common.{◌≡◌, ℕ, zero, suc, ◌+◌, ◌<◌, ◌≤◌, ◌==◌, inl, inr, List, [], ◌∷◌, ◌++◌, Bool, true, false, refl, ap, ◌∙◌, arith}
use Rattle.std.proofs.lemmas.Bool.{and_left, and_right, cases_eq, ne_eqb}
use Rattle.ic_nets.specs.Likeness.{agent_ports, counted_ports, joint_ports, port_eq, ports_of, times}
use Rattle.ic_nets.specs.declared.net.Agent.{Agent}
use Rattle.ic_nets.specs.declared.net.Net.{Net}
use Rattle.ic_nets.specs.declared.port.Port.{Port}
use Rattle.ic_nets.specs.declared.port.Port.TheVariants.{Interface, Principal, Auxiliary, Left, Right, Free}
use Rattle.ic_nets.proofs.SumLemmas.{bit, counted, not_equal}
use Rattle.ic_nets.proofs.PortLemmas.{times-append}

low_bit : (b : Bool) → bit b ≤ 1
low_bit true = omega arith
low_bit false = omega arith

module _ {A : Type 0} (w : ℕ → A → ℕ) where
  -- what members weigh, of which the first has this number
  abbrev weigh : ℕ → List A → ℕ
  weigh k [] = 0
  weigh k (a ∷ xs) = w k a + weigh (k + 1) xs

  none : ((k : ℕ) (a : A) → w k a ≡ 0) → (k : ℕ) (xs : List A) → weigh k xs ≡ 0
  none off k [] = refl
  none off k (a ∷ xs) = omega (arith, off k a, none off (k + 1) xs)

  module _ (i : ℕ) (off : (k : ℕ) (a : A) → (i ≡ k → ⊥) → w k a ≡ 0) where
    none_below : (k : ℕ) (xs : List A) → i < k → weigh k xs ≡ 0
    none_below k [] lt = refl
    none_below k (a ∷ xs) lt = omega (arith, off k a (λ e. omega (arith, e, lt)), none_below (k + 1) xs (omega (arith, lt)))

    once : ((k : ℕ) (a : A) → w k a ≤ 1) → (k : ℕ) (xs : List A) → weigh k xs ≤ 1
    once low k [] = omega arith
    once low k (a ∷ xs) =
        let later = once low (k + 1) xs in
        elim (cases_eq i k) [
          | inl same ↦ omega (arith, low k a, none_below (k + 1) xs (omega (arith, same)))
          | inr isnt ↦ omega (arith, later, off k a isnt)
        ]

module _ (p : Port) where
  abbrev of_place : (ℕ → Port) → ℕ → ℕ → ℕ
  of_place port k m = bit (port_eq p (port k))

  abbrev of_agent : ℕ → Agent → ℕ
  of_agent k a = bit (port_eq p (Principal k)) + times p (counted_ports (Auxiliary k) 1 a.arity)

  abbrev of_point : ℕ → ℕ → ℕ
  of_point j m = bit (port_eq p (Left j)) + bit (port_eq p (Right j))

  places : (port : ℕ → Port) (j m : ℕ) → times p (counted_ports port j m) ≡ weigh (of_place port) j (counted j m)
  places port j zero = refl
  places port j (suc m) = ap (λ n. bit (port_eq p (port j)) + n) (places port (j + 1) m)

  agents : (k : ℕ) (xs : List Agent) → times p (agent_ports k xs) ≡ weigh of_agent k xs
  agents k [] = refl
  agents k (a ∷ xs) = omega (arith, times-append p (counted_ports (Auxiliary k) 1 a.arity) (agent_ports (k + 1) xs), agents (k + 1) xs)

  points : (j m : ℕ) → times p (joint_ports j m) ≡ weigh of_point j (counted j m)
  points j zero = refl
  points j (suc m) = omega (arith, points (j + 1) m)

  no_places : (port : ℕ → Port) → ((q : ℕ) → port_eq p (port q) ≡ false) → (j m : ℕ) → times p (counted_ports port j m) ≡ 0
  no_places port off j m = places port j m ∙ none (of_place port) (λ k a. ap bit (off k)) j (counted j m)

  one_place : (port : ℕ → Port) (i : ℕ) → ((q : ℕ) → (i ≡ q → ⊥) → port_eq p (port q) ≡ false) → (j m : ℕ) → times p (counted_ports port j m) ≤ 1
  one_place port i off j m = omega (arith, places port j m, once (of_place port) i (λ k a isnt. ap bit (off k isnt)) (λ k a. low_bit (port_eq p (port k))) j (counted j m))

  no_agents : ((q : ℕ) → port_eq p (Principal q) ≡ false) → ((a q : ℕ) → port_eq p (Auxiliary a q) ≡ false) → (k : ℕ) (xs : List Agent) → times p (agent_ports k xs) ≡ 0
  no_agents principal auxiliary k xs = agents k xs ∙ none of_agent (λ k a. omega (arith, ap bit (principal k), no_places (Auxiliary k) (auxiliary k) 1 a.arity)) k xs

  no_points : ((q : ℕ) → port_eq p (Left q) ≡ false) → ((q : ℕ) → port_eq p (Right q) ≡ false) → (j m : ℕ) → times p (joint_ports j m) ≡ 0
  no_points left right j m = points j m ∙ none of_point (λ k a. omega (arith, ap bit (left k), ap bit (right k))) j (counted j m)

-- no free end is a port of a net
pub free-none : (n i : ℕ) (xs : List Agent) (m : ℕ) → times (Free n) (counted_ports Interface 1 i) + (times (Free n) (agent_ports 0 xs) + times (Free n) (joint_ports 0 m)) ≡ 0
free-none n i xs m =
    omega (arith, no_places (Free n) Interface (λ _. refl) 1 i, no_agents (Free n) (λ _. refl) (λ _ _. refl) 0 xs, no_points (Free n) (λ _. refl) (λ _. refl) 0 m)

pub ports-parted : (net : Net) (p : Port)
    → times p (ports_of net) ≡ times p (counted_ports Interface 1 net.interface) + (times p (agent_ports 0 net.agents.items) + times p (joint_ports 0 net.joints))
ports-parted net p =
    let agents = agent_ports 0 net.agents.items in
    let joints = joint_ports 0 net.joints in
    omega (arith, times-append p (counted_ports Interface 1 net.interface) (agents ++ joints), times-append p agents joints)

pub listed_once : (net : Net) (p : Port) → times p (ports_of net) ≤ 1
listed_once net (Interface i) =
    omega (arith, ports-parted net (Interface i), one_place (Interface i) Interface i (ne_eqb i) 1 net.interface, no_agents (Interface i) (λ _. refl) (λ _ _. refl) 0 net.agents.items, no_points (Interface i) (λ _. refl) (λ _. refl) 0 net.joints)
listed_once net (Principal i) =
    let below : (k : ℕ) (a : Agent) → times (Principal i) (counted_ports (Auxiliary k) 1 a.arity) ≡ 0 = λ k a. no_places (Principal i) (Auxiliary k) (λ _. refl) 1 a.arity in
    let within = once (of_agent (Principal i)) i (λ k a isnt. omega (arith, not_equal i k isnt, below k a)) (λ k a. omega (arith, low_bit (i == k), below k a)) 0 net.agents.items in
    omega (arith, ports-parted net (Principal i), no_places (Principal i) Interface (λ _. refl) 1 net.interface, agents (Principal i) 0 net.agents.items, no_points (Principal i) (λ _. refl) (λ _. refl) 0 net.joints)
listed_once net (Auxiliary n i) =
    let p = Auxiliary n i in
    let within = once (of_agent p) n (λ k a isnt. omega (arith, no_places p (Auxiliary k) (λ q. and_left (n == k) (i == q) (ne_eqb n k isnt)) 1 a.arity))
    (λ k a. omega (arith, one_place p (Auxiliary k) i (λ q isnt. and_right (n == k) (i == q) (ne_eqb i q isnt)) 1 a.arity)) 0 net.agents.items in
    omega (arith, ports-parted net p, no_places p Interface (λ _. refl) 1 net.interface, agents p 0 net.agents.items, no_points p (λ _. refl) (λ _. refl) 0 net.joints)
listed_once net (Left i) =
    let within = once (of_point (Left i)) i (λ k a isnt. omega (arith, not_equal i k isnt)) (λ k a. omega (arith, low_bit (i == k))) 0 (counted 0 net.joints) in
    omega (arith, ports-parted net (Left i), no_places (Left i) Interface (λ _. refl) 1 net.interface, no_agents (Left i) (λ _. refl) (λ _ _. refl) 0 net.agents.items, points (Left i) 0 net.joints)
listed_once net (Right i) =
    let within = once (of_point (Right i)) i (λ k a isnt. omega (arith, not_equal i k isnt)) (λ k a. omega (arith, low_bit (i == k))) 0 (counted 0 net.joints) in
    omega (arith, ports-parted net (Right i), no_places (Right i) Interface (λ _. refl) 1 net.interface, no_agents (Right i) (λ _. refl) (λ _ _. refl) 0 net.agents.items, points (Right i) 0 net.joints)
listed_once net (Free n) = omega (arith, ports-parted net (Free n), free-none n net.interface net.agents.items net.joints)
