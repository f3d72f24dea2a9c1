-- The ports among what a configuration joins are those of its net.
use Rattle.std.proofs.Common.{◌≡◌, ℕ, suc, ◌+◌, ◌==◌, List, [], ◌∷◌, ◌++◌, Bool, true, false, cond, length, map, refl, sym, ap, ◌∙◌, arith, eq-eqb}
use Rattle.std.proofs.lemmas.Bool.{and_from}
use Rattle.std.specs.List.{flat_map}
use Rattle.std.proofs.lemmas.List.Concat.{flat_map-append}
use Rattle.std.proofs.lemmas.List.Sums.{sum_by-cons}
use Rattle.ic_term.specs.Tree.{Tree, name, agent, Trees, no_trees, more_trees, list_of, trees_of, Pair}
use Rattle.ic_term.specs.Configuration.{Configuration}
use Rattle.ic_term.specs.lemmas.TreeLaws.{list_of-trees_of}
use Rattle.ic_rules.specs.Rule.{Rule}
use Rattle.ic_nets.specs.Nets.{agents_among, agents_in, agents_of, end_of, equation_link, hanging, inside, joined, links_of, pair_agents, pair_links, pairs_agents, are_names, joins_names, joints_in, plain_wires, standings, standings_between, wire_between}
use Rattle.ic_nets.specs.Likeness.{agent_ports, counted_ports, ends, is_bound, joint_ports, port_eq, times}
use Rattle.ic_nets.specs.declared.net.Agent.{Agent}
use Rattle.ic_nets.specs.declared.links.End.{End}
use Rattle.ic_nets.specs.declared.links.End.TheVariants.{At, Named}
use Rattle.ic_nets.specs.declared.links.Link.{Link}
use Rattle.ic_nets.specs.declared.links.Standing.{Standing}
use Rattle.ic_nets.specs.declared.port.Port.{Port}
use Rattle.ic_nets.specs.declared.port.Port.TheVariants.{Interface, Principal, Auxiliary, Left, Right, Free}
use Rattle.ic_nets.proofs.SumLemmas.{itself_equal}

-- the port that something joined is, if it is one
abbrev pub port_among : End → List Port
port_among (At p) = p ∷ []
port_among (Named n) = []

abbrev pub joined_ports : List Link → List Port
joined_ports ls = flat_map (λ l. port_among l.from ++ port_among l.to) ls

abbrev pub standing_ports : List Standing → List Port
standing_ports ss = map (λ s. s.port) ss

pub port_itself : (p : Port) → port_eq p p ≡ true
port_itself (Interface i) = eq-eqb i i refl
port_itself (Principal k) = eq-eqb k k refl
port_itself (Auxiliary k i) = and_from (k == k) (i == i) (eq-eqb k k refl) (eq-eqb i i refl)
port_itself (Left j) = eq-eqb j j refl
port_itself (Right j) = eq-eqb j j refl
port_itself (Free n) = eq-eqb n n refl

-- none of these ports is the free end of a name
abbrev pub AreBound : List Port → Type 0
AreBound [] = Unit {0}
AreBound (p ∷ ps) = (is_bound p ≡ true) × AreBound ps

pub all_bound : (ps : List Port) → ((n : ℕ) → times (Free n) ps ≡ 0) → AreBound ps
all_bound [] none = tt
all_bound (p ∷ ps) none = (by p none, all_bound ps (λ n. omega (arith, none n)))
  where
    by : (p : Port) → ((n : ℕ) → cond (port_eq (Free n) p) 1 0 + times (Free n) ps ≡ 0) → is_bound p ≡ true
    by (Free n) off = absurd (omega (arith, off n, itself_equal n))
    by p off = refl

-- how many equations have two names
abbrev pub joints : List Link → ℕ
joints [] = 0
joints (l ∷ ls) = cond (joins_names l) (suc (joints ls)) (joints ls)

pub joints-are : (ls : List Link) → joints_in ls ≡ joints ls
joints-are [] = refl
joints-are (l ∷ ls) = sum_by-cons (λ (x : Link). cond (joins_names x) 1 0) l ls ∙ by (joins_names l) (joints-are ls)
  where
    by : (b : Bool) → joints_in ls ≡ joints ls → cond b 1 0 + joints_in ls ≡ cond b (suc (joints ls)) (joints ls)
    by true same = omega arith
    by false same = omega arith

module _ (p : Port) where
  pub times-append : (xs ys : List Port) → times p (xs ++ ys) ≡ times p xs + times p ys
  times-append [] ys = omega arith
  times-append (x ∷ xs) ys = omega (arith, times-append xs ys)

  joined-append : (xs bs : List Link) → times p (joined_ports (xs ++ bs)) ≡ times p (joined_ports xs) + times p (joined_ports bs)
  joined-append xs bs = ap (times p) (flat_map-append (λ (l : Link). port_among l.from ++ port_among l.to) xs bs) ∙ times-append (joined_ports xs) (joined_ports bs)

  agents-append : (k : ℕ) (xs bs : List Agent) → times p (agent_ports k (xs ++ bs)) ≡ times p (agent_ports k xs) + times p (agent_ports (k + length xs) bs)
  agents-append k [] bs = let none : k ≡ k + 0 = omega arith in omega (arith, ap (λ j. times p (agent_ports j bs)) none)
  agents-append k (a ∷ xs) bs =
      let own = counted_ports (Auxiliary k) 1 a.arity in
      let count : k + 1 + length xs ≡ k + suc (length xs) = omega arith in
      omega (arith, agents-append (k + 1) xs bs, ap (λ j. times p (agent_ports j bs)) count, times-append own (agent_ports (k + 1) (xs ++ bs)), times-append own (agent_ports (k + 1) xs))

  mutual
    inside-ports : (k : ℕ) (t : Tree) → times p (port_among (end_of k t)) + times p (joined_ports (inside k t)) ≡ times p (agent_ports k (agents_in t))
    inside-ports k (name n) = refl
    inside-ports k (agent s ts) =
        let own = counted_ports (Auxiliary k) 1 (length (list_of ts)) in
        omega (arith, hanging-ports (Auxiliary k) 1 (k + 1) ts, times-append own (agent_ports (k + 1) (agents_among ts)))

    hanging-ports : (port : ℕ → Port) (i k : ℕ) (ts : Trees)
        → times p (joined_ports (hanging port i k ts)) ≡ times p (counted_ports port i (length (list_of ts))) + times p (agent_ports k (agents_among ts))
    hanging-ports port i k no_trees = refl
    hanging-ports port i k (more_trees t ts) =
        let rest = hanging port (i + 1) (k + length (agents_in t)) ts in
        omega (arith, times-append (port i ∷ port_among (end_of k t)) (joined_ports (inside k t ++ rest)), joined-append (inside k t) rest, inside-ports k t, hanging-ports port (i + 1) (k + length (agents_in t)) ts, agents-append k (agents_in t) (agents_among ts))

  pair-ports : (rs : List Rule) (k : ℕ) (e : Pair) → times p (joined_ports (pair_links rs k e)) ≡ times p (agent_ports k (pair_agents e))
  pair-ports rs k e =
      let j = k + length (agents_in e.left) in
      let link = equation_link rs k j e in
      let below = inside j e.right in
      let links = joined-append (inside k e.left) (link ∷ below) in
      let ends = times-append (port_among (end_of k e.left) ++ port_among (end_of j e.right)) (joined_ports below) in
      let both = times-append (port_among (end_of k e.left)) (port_among (end_of j e.right)) in
      omega (arith, inside-ports k e.left, inside-ports j e.right, agents-append k (agents_in e.left) (agents_in e.right))

  equations-ports : (rs : List Rule) (k : ℕ) (es : List Pair) → times p (joined_ports (joined rs k es)) ≡ times p (agent_ports k (pairs_agents es))
  equations-ports rs k [] = refl
  equations-ports rs k (e ∷ es) =
      joined-append (pair_links rs k e) (joined rs (k + length (pair_agents e)) es)
      ∙ (λ i. pair-ports rs k e i + equations-ports rs (k + length (pair_agents e)) es i)
      ∙ sym (agents-append k (pair_agents e) (pairs_agents es))

  pub links-ports : (rs : List Rule) (c : Configuration)
      → times p (joined_ports (links_of rs c)) ≡ times p (counted_ports Interface 1 (length c.interface)) + times p (agent_ports 0 (agents_of c))
  links-ports rs c =
      let ts = trees_of c.interface in
      let first = agents_among ts in
      let front : length first ≡ 0 + length first = omega arith in
      let places = ap (λ (us : List Tree). times p (counted_ports Interface 1 (length us))) (list_of-trees_of c.interface) in
      let agents = ap (λ j. times p (agent_ports j (pairs_agents c.equations))) front in
      omega (arith, joined-append (hanging Interface 1 0 ts) (joined rs (length first) c.equations), hanging-ports Interface 1 0 ts, equations-ports rs (length first) c.equations, agents-append 0 first (pairs_agents c.equations))

  -- ---- what is joined is parted into wires and names at ports

  module _ (ls : List Link) (j : ℕ) where
    abbrev Parted : Bool → End → End → Type 0
    Parted active from to = times p (ends (wire_between active from to ++ plain_wires ls))
        + times p (standing_ports (standings_between j from to ++ standings (cond (are_names from to) (j + 1) j) ls))
        ≡ times p ((port_among from ++ port_among to) ++ joined_ports ls) + times p (joint_ports j (cond (are_names from to) (suc (joints ls)) (joints ls)))

    abbrev Rest : ℕ → Type 0
    Rest i = times p (ends (plain_wires ls)) + times p (standing_ports (standings i ls)) ≡ times p (joined_ports ls) + times p (joint_ports i (joints ls))

    parted-by : Rest j → Rest (j + 1) → (active : Bool) (from to : End) → Parted active from to
    parted-by here next active (At q) (At r) = omega arith
    parted-by here next active (Named m) (Named n) = omega arith
    parted-by here next active from to = omega arith

  pub parted-ports : (j : ℕ) (ls : List Link)
      → times p (ends (plain_wires ls)) + times p (standing_ports (standings j ls)) ≡ times p (joined_ports ls) + times p (joint_ports j (joints ls))
  parted-ports j [] = refl
  parted-ports j (l ∷ ls) = parted-by ls j (parted-ports j ls) (parted-ports (j + 1) ls) l.active l.from l.to
