-- The net of a configuration: its agents, and a wire for each two ports that are joined and for each name (Lafont 1990: a
-- principal port, and auxiliary ports in order; Fernández and Mackie 1999, section 2).
use Rattle.std.specs.Prelude.{ℕ, ◌+◌, List, [], ◌∷◌, ◌++◌, false, length, is_some, ◌==◌, Bool, true, Option, None, Some, count_by, fold, if◌then◌else◌, map, ◌≡◌}
use Rattle.std.specs.List.{flat_map}
use Rattle.ic_term.specs.Tree.{Tree, name, agent, Trees, no_trees, more_trees, list_of, trees_of, Pair}
use Rattle.ic_term.specs.Configuration.{Configuration}
use Rattle.ic_rules.specs.Rule.{Rule}
use Rattle.ic_round.specs.Firing.{rule_of_sides}
use Rattle.ic_nets.specs.declared.net.Agent.{Agent}
use Rattle.ic_nets.specs.declared.port.Port.{Port}
use Rattle.ic_nets.specs.declared.port.Port.TheVariants.{Interface, Principal, Auxiliary, Left, Right, Free}
use Rattle.ic_nets.specs.declared.links.End.{End}
use Rattle.ic_nets.specs.declared.links.End.TheVariants.{At, Named}
use Rattle.ic_nets.specs.declared.links.Link.{Link}
use Rattle.ic_nets.specs.declared.net.Wire.{Wire}
use Rattle.ic_nets.specs.declared.links.Standing.{Standing}
use Rattle.ic_nets.specs.declared.net.Net.{Net}

-- the agents of a term in the order of the text
abbrev mutual
  pub agents_in : Tree → List Agent
  agents_in (name n) = []
  agents_in (agent s ts) = record { sym = s; arity = length (list_of ts) } ∷ agents_among ts

  pub agents_among : Trees → List Agent
  agents_among no_trees = []
  agents_among (more_trees t ts) = agents_in t ++ agents_among ts

-- what a term is joined by: its name, or the principal port of its agent, which has this number
abbrev pub end_of : ℕ → Tree → End
end_of k (name n) = Named n
end_of k (agent s ts) = At (Principal k)

-- a term hangs at a port
abbrev pub hung : Port → ℕ → Tree → Link
hung port k t = record { from = At port; to = end_of k t; active = false }

-- What is joined below a term whose first agent has this number: each argument hangs at its auxiliary
-- port. Terms hang at ports that are counted on from a place, in the order of the text.
abbrev mutual
  pub inside : ℕ → Tree → List Link
  inside k (name n) = []
  inside k (agent s ts) = hanging (Auxiliary k) 1 (k + 1) ts

  pub hanging : (port : ℕ → Port) (place first : ℕ) → Trees → List Link
  hanging port i k no_trees = []
  hanging port i k (more_trees t ts) =
      hung (port i) k t ∷ (inside k t ++ hanging port (i + 1) (k + length (agents_in t)) ts)

-- the sides of an equation are joined, and stand out where they have a rule
abbrev pub equation_link : List Rule → (left right : ℕ) → Pair → Link
equation_link rs j k p = record {
  from = end_of j p.left;
  to = end_of k p.right;
  active = is_some (rule_of_sides rs p.left p.right);
}

abbrev pub pair_agents : Pair → List Agent
pair_agents p = agents_in p.left ++ agents_in p.right

-- what an equation joins, of which the first agent has this number
abbrev pub pair_links : List Rule → ℕ → Pair → List Link
pair_links rs k p = inside k p.left
    ++ equation_link rs k (k + length (agents_in p.left)) p
    ∷ inside (k + length (agents_in p.left)) p.right

abbrev pub pairs_agents : List Pair → List Agent
pairs_agents ps = flat_map pair_agents ps

-- what equations join
abbrev pub joined : List Rule → ℕ → List Pair → List Link
joined rs k [] = []
joined rs k (p ∷ ps) = pair_links rs k p ++ joined rs (k + length (pair_agents p)) ps

-- the agents of a configuration in the order of the text. An agent's number is its place here.
abbrev pub agents_of : Configuration → List Agent
agents_of c = agents_among (trees_of c.interface) ++ pairs_agents c.equations

-- what a configuration joins: its interface hangs at places, and the sides of equations are joined
abbrev pub links_of : List Rule → Configuration → List Link
links_of rs c = hanging Interface 1 0 (trees_of c.interface)
    ++ joined rs (length (agents_among (trees_of c.interface))) c.equations

-- the wire of two ports that are joined
abbrev pub wire_between : Bool → End → End → List Wire
wire_between active (At p) (At q) = record { from = p; to = q; active = active } ∷ []
wire_between active (At p) (Named n) = []
wire_between active (Named m) (At q) = []
wire_between active (Named m) (Named n) = []

abbrev pub wires_at : Link → List Wire
wires_at l = wire_between l.active l.from l.to

-- the wires of ports that are joined
abbrev pub plain_wires : List Link → List Wire
plain_wires ls = flat_map wires_at ls

-- an equation of two names, which is a point between two wires
abbrev pub are_names : End → End → Bool
are_names (Named m) (Named n) = true
are_names (Named m) (At q) = false
are_names (At p) q = false

abbrev pub joins_names : Link → Bool
joins_names l = are_names l.from l.to

abbrev pub joints_in : List Link → ℕ
joints_in ls = count_by joins_names ls

-- the names that are joined with ports; those of an equation of two names, which has this number,
-- stand at its sides
abbrev pub standings_between : ℕ → End → End → List Standing
standings_between j (At p) (At q) = []
standings_between j (At p) (Named n) = record { name = n; port = p } ∷ []
standings_between j (Named m) (At q) = record { name = m; port = q } ∷ []
standings_between j (Named m) (Named n) =
    record { name = m; port = Left j } ∷ record { name = n; port = Right j } ∷ []

abbrev pub standings_at : ℕ → Link → List Standing
standings_at j l = standings_between j l.from l.to

-- the ports at which names stand, where the next equation of two names has this number
abbrev pub standings : ℕ → List Link → List Standing
standings j [] = []
standings j (l ∷ ls) = standings_at j l ++ standings (if joins_names l then j + 1 else j) ls

-- the wire of a name once it stands at one more port: it ends free at first
abbrev pub wire_of : Option Wire → Standing → Wire
wire_of None s = record { from = s.port; to = Free s.name; active = false }
wire_of (Some w) s = record { from = w.from; to = s.port; active = false }

-- The wires of names, once a name stands at one more port: the wire of a new name goes last.
abbrev pub with_standing : List (ℕ × Wire) → Standing → List (ℕ × Wire)
with_standing [] s = (s.name, wire_of None s) ∷ []
with_standing (w ∷ ws) s = if s.name == w.0 then (w.0, wire_of (Some w.1) s) ∷ ws
    else w ∷ with_standing ws s

-- the wires of names that stand at ports, in the order in which the names come first
abbrev pub named_wires : List Standing → List (ℕ × Wire)
named_wires ss = fold with_standing [] ss

abbrev pub name_wires : List Standing → List Wire
name_wires ss = map (λ w. w.1) (named_wires ss)

-- A net is that of a configuration: it has its agents, and a wire for each two ports that are joined
-- and for each name.
pub record IsNet (rs : List Rule) (c : Configuration) (net : Net) : Type 0 where
  pub interface : net.interface ≡ length c.interface
  pub agents : net.agents.items ≡ agents_of c
  pub joints : net.joints ≡ joints_in (links_of rs c)
  pub wires : net.wires.items
      ≡ plain_wires (links_of rs c) ++ name_wires (standings 0 (links_of rs c))
