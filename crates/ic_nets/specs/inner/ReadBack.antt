-- For proofs: a net read back, as a configuration with a name for each port, and an equation for each agent and wire.
use Rattle.std.specs.Prelude.{◌≡◌, ℕ, zero, suc, ◌+◌, ◌<◌, ◌≤◌, List, [], ◌∷◌, ◌++◌, true, map}
use Rattle.ic_term.specs.Tree.{Tree, name, agent, trees_of, Pair}
use Rattle.ic_term.specs.Configuration.{Configuration}
use Rattle.ic_nets.specs.Likeness.{counted_ports, is_bound, ports_of, times}
use Rattle.ic_nets.specs.declared.net.Agent.{Agent}
use Rattle.ic_nets.specs.declared.net.Net.{Net}
use Rattle.ic_nets.specs.declared.net.Wire.{Wire}
use Rattle.ic_nets.specs.declared.port.Port.{Port}
use Rattle.ic_nets.specs.declared.port.Port.TheVariants.{Interface, Principal, Auxiliary, Left, Right, Free}

-- Names for the ports of a net: each bound port has a name of its own, which isn't below the first
-- number, and a free end has the name that it is. Those of the net are below the second number.
pub record IsNaming (name_of : Port → ℕ) (first next : ℕ) (net : Net) : Type 0 where
  pub free : (n : ℕ) → name_of (Free n) ≡ n
  pub apart : (p q : Port) → is_bound p ≡ true → is_bound q ≡ true → name_of p ≡ name_of q → p ≡ q
  pub new : (p : Port) → is_bound p ≡ true → first ≤ name_of p
  pub below : (p : Port) → times p (ports_of net) ≡ 1 → name_of p < next
  pub room : first ≤ next

-- the equation of two terms
abbrev pub equated : Tree → Tree → Pair
equated t u = record { left = t; right = u }

-- the names of so many ports, counted on from a place
abbrev pub names_at : (Port → ℕ) → (ℕ → Port) → (place count : ℕ) → List Tree
names_at name_of port i count = map (λ p. name (name_of p)) (counted_ports port i count)

-- the equation of an agent: the name of its principal port, and it with those of its auxiliary ports
abbrev pub agent_equation : (Port → ℕ) → (number : ℕ) → Agent → Pair
agent_equation name_of k a = equated (name (name_of (Principal k)))
    (agent a.sym (trees_of (names_at name_of (Auxiliary k) 1 a.arity)))

-- the equations of agents, of which the first has this number
abbrev pub agent_equations : (Port → ℕ) → ℕ → List Agent → List Pair
agent_equations name_of k [] = []
agent_equations name_of k (a ∷ rest) =
    agent_equation name_of k a ∷ agent_equations name_of (k + 1) rest

-- the equations of so many points, of which the first has this number: those of their two sides
abbrev pub joint_equations : (Port → ℕ) → (first count : ℕ) → List Pair
joint_equations name_of j zero = []
joint_equations name_of j (suc n) =
    equated (name (name_of (Left j))) (name (name_of (Right j)))
    ∷ joint_equations name_of (j + 1) n

-- the equation of a wire: the names at its ends
abbrev pub wire_equation : (Port → ℕ) → Wire → Pair
wire_equation name_of w = equated (name (name_of w.from)) (name (name_of w.to))

abbrev pub wire_equations : (Port → ℕ) → List Wire → List Pair
wire_equations name_of ws = map (wire_equation name_of) ws

-- A net as a configuration, by names for its ports.
abbrev pub read_back : (Port → ℕ) → (next : ℕ) → Net → Configuration
read_back name_of next net = record {
  interface = names_at name_of Interface 1 net.interface;
  equations = agent_equations name_of 0 net.agents.items
      ++ (joint_equations name_of 0 net.joints ++ wire_equations name_of net.wires.items);
  next = next;
}
