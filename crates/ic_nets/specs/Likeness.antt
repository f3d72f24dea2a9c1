-- The ports of a net, and when two nets are one graph: which number an agent has, the order of agents and wires, and which
-- end is named first only say how the graph is written down.
use Rattle.std.specs.Prelude.{ℕ, zero, suc, ◌+◌, ◌==◌, List, [], ◌∷◌, ◌++◌, Bool, true, false, ◌&&◌, Option, None, Some, filter, if◌then◌else◌, map, ◌≡◌, ◌⊎◌}
use Rattle.std.specs.List.{flat_map}
use Rattle.ic_nets.specs.declared.net.Agent.{Agent}
use Rattle.ic_nets.specs.declared.net.Wire.{Wire}
use Rattle.ic_nets.specs.declared.net.Net.{Net}
use Rattle.ic_nets.specs.declared.links.Standing.{Standing}
use Rattle.ic_nets.specs.declared.port.Port.{Port}
use Rattle.ic_nets.specs.declared.port.Port.TheVariants.{Interface, Principal, Auxiliary, Left, Right, Free}
use Rattle.ic_term.specs.Tree.{Tree, name, agent, no_trees, more_trees}
use Rattle.ic_term.specs.Configuration.{Configuration}

-- whether two ports are the same
abbrev pub port_eq : Port → Port → Bool
port_eq (Interface i) (Interface j) = i == j
port_eq (Principal i) (Principal j) = i == j
port_eq (Auxiliary a i) (Auxiliary b j) = a == b && i == j
port_eq (Left i) (Left j) = i == j
port_eq (Right i) (Right j) = i == j
port_eq (Free m) (Free n) = m == n
port_eq _ _ = false

-- not the free end of a name
abbrev pub is_bound : Port → Bool
is_bound (Interface i) = true
is_bound (Principal k) = true
is_bound (Auxiliary k i) = true
is_bound (Left j) = true
is_bound (Right j) = true
is_bound (Free n) = false

-- how many of these are this port
abbrev pub times : Port → List Port → ℕ
times p [] = 0
times p (q ∷ qs) = (if port_eq p q then 1 else 0) + times p qs

-- both ends of each wire
abbrev pub ends : List Wire → List Port
ends ws = flat_map (λ w. w.from ∷ w.to ∷ []) ws

-- so many ports, counted on from a place
abbrev pub counted_ports : (ℕ → Port) → (place count : ℕ) → List Port
counted_ports port i zero = []
counted_ports port i (suc n) = port i ∷ counted_ports port (i + 1) n

-- the principal port and the auxiliary ports of each agent, of which the first has this number
abbrev pub agent_ports : ℕ → List Agent → List Port
agent_ports k [] = []
agent_ports k (a ∷ rest) = Principal k
    ∷ (counted_ports (Auxiliary k) 1 a.arity ++ agent_ports (k + 1) rest)

-- the two sides of so many equations of two names, of which the first has this number
abbrev pub joint_ports : (first count : ℕ) → List Port
joint_ports j zero = []
joint_ports j (suc n) = Left j ∷ Right j ∷ joint_ports (j + 1) n

-- the bound ports of a net: the places of its interface, the ports of its agents, and the sides of its
-- equations of two names
abbrev pub ports_of : Net → List Port
ports_of net = counted_ports Interface 1 net.interface
    ++ (agent_ports 0 net.agents.items ++ joint_ports 0 net.joints)

-- the ports at which a name stands, in the order of the text
abbrev pub ports_at : ℕ → List Standing → List Port
ports_at n ss = map (λ s. s.port) (filter (λ s. s.name == n) ss)

-- the wire of a name
abbrev pub wire_named : ℕ → List (ℕ × Wire) → Option Wire
wire_named n [] = None
wire_named n (w ∷ ws) = if w.0 == n then Some w.1 else wire_named n ws

-- an agent as a vertex: its symbol, and its ports in order
pub record Vertex : Type 0 where
  pub sym : ℕ
  pub principal : Port
  pub auxiliary : List Port

-- the agent with this number as a vertex
abbrev pub vertex : ℕ → Agent → Vertex
vertex k a = record {
  sym = a.sym;
  principal = Principal k;
  auxiliary = counted_ports (Auxiliary k) 1 a.arity;
}

-- agents as vertices, of which the first has this number
abbrev pub vertices : ℕ → List Agent → List Vertex
vertices k [] = []
vertices k (a ∷ rest) = vertex k a ∷ vertices (k + 1) rest

-- the two sides of so many points, of which the first has this number
abbrev pub points : (first count : ℕ) → List (Port × Port)
points j zero = []
points j (suc n) = (Left j, Right j) ∷ points (j + 1) n

-- the two ends of each wire
abbrev pub edges : List Wire → List (Port × Port)
edges ws = map (λ w. (w.from, w.to)) ws

-- what has its ports carried to others
abbrev pub carried : (Port → Port) → Vertex → Vertex
carried to v = record { sym = v.sym; principal = to v.principal; auxiliary = map to v.auxiliary }

abbrev pub carried_ends : (Port → Port) → Port × Port → Port × Port
carried_ends to e = (to e.0, to e.1)

abbrev pub IsVertex : Vertex → Vertex → Type 0
IsVertex v w = v ≡ w

-- the same two ports, either way round
abbrev pub EitherWay : Port × Port → Port × Port → Type 0
EitherWay e f = (e ≡ f) ⊎ (e ≡ (f.1, f.0))

-- One list has what the other has in some order, each as it stands or as what is like it.
pub data InSomeOrder {A : Type 0} (like : A → A → Type 0) : List A → List A → Type 0 where
  empty : InSomeOrder like [] []
  matched : (x y : A) (xs ys : List A) → like x y → InSomeOrder like xs ys
      → InSomeOrder like (x ∷ xs) (y ∷ ys)
  crossed : (x y : A) (xs : List A) → InSomeOrder like (x ∷ y ∷ xs) (y ∷ x ∷ xs)
  chained : (xs ys zs : List A) → InSomeOrder like xs ys → InSomeOrder like ys zs
      → InSomeOrder like xs zs

-- Two nets are alike: the ports of one are carried to those of the other, no two to one. Free ends and
-- places of the interface stay, and agents, points and wires are carried to agents, points and wires.
pub record AreAlike (m n : Net) : Type 0 where
  pub to : Port → Port
  pub bound : (p : Port) → is_bound p ≡ true → is_bound (to p) ≡ true
  pub apart : (p q : Port) → is_bound p ≡ true → is_bound q ≡ true → to p ≡ to q → p ≡ q
  pub free : (k : ℕ) → to (Free k) ≡ Free k
  pub places : (i : ℕ) → to (Interface i) ≡ Interface i
  pub interface : m.interface ≡ n.interface
  pub agents : InSomeOrder IsVertex (map (carried to) (vertices 0 m.agents.items))
      (vertices 0 n.agents.items)
  pub joints : InSomeOrder EitherWay (map (carried_ends to) (points 0 m.joints))
      (points 0 n.joints)
  pub wires : InSomeOrder EitherWay (map (carried_ends to) (edges m.wires.items))
      (edges n.wires.items)

-- Church's true and false as nets, for a law: functions of two arguments, of which one returns the first and the other one
-- the second. What isn't used is erased. Here the agent of a function, with its argument and its result.
abbrev pub function_of : ℕ → (argument answer : Tree) → Tree
function_of l x t = agent l (more_trees x (more_trees t no_trees))

-- `L(x,L(E,x))`, where x has the number 0
abbrev pub church_true : (l e : ℕ) → Tree
church_true l e = function_of l (name 0) (function_of l (agent e no_trees) (name 0))

-- `L(E,L(x,x))`
abbrev pub church_false : (l e : ℕ) → Tree
church_false l e = function_of l (agent e no_trees) (function_of l (name 0) (name 0))

-- a configuration of one term whose only name is 0, and no equations
abbrev pub alone : Tree → Configuration
alone t = record { interface = t ∷ []; equations = []; next = 1 }
