-- Each bound port of a net is an end of its wires as often as it is a port.
use Rattle.std.proofs.Common.{◌≡◌, ℕ, ◌+◌, ◌≤◌, ◌==◌, List, [], ◌∷◌, true, cond, length, ap, ◌∙◌, arith}
use Rattle.std.proofs.lemmas.List.Concat.{flat_map-append}
use Rattle.ic_term.specs.Configuration.{Configuration, configuration_names, occurrences}
use Rattle.ic_rules.specs.Rule.{Rule}
use Rattle.ic_nets.specs.Nets.{agents_of, links_of, name_wires, named_wires, plain_wires, standings, IsNet}
use Rattle.ic_nets.specs.Likeness.{agent_ports, counted_ports, ends, is_bound, joint_ports, ports_of, times}
use Rattle.ic_nets.specs.declared.net.Net.{Net}
use Rattle.ic_nets.specs.declared.net.Wire.{Wire}
use Rattle.ic_nets.specs.declared.links.Link.{Link}
use Rattle.ic_nets.specs.declared.links.Standing.{Standing}
use Rattle.ic_nets.specs.declared.port.Port.{Port}
use Rattle.ic_nets.specs.declared.port.Port.TheVariants.{Interface, Free}
use Rattle.ic_nets.proofs.PortLemmas.{AreBound, all_bound, joints, joints-are, links-ports, parted-ports, standing_ports, times-append}
use Rattle.ic_nets.proofs.SumLemmas.{bit}
use Rattle.ic_nets.proofs.OnceLemmas.{free-none, ports-parted}
use Rattle.ic_nets.proofs.NameLemmas.{AreFew, all_added, all_counted, all_own, bound_ends, free_ends, links-names, often, often-occurrences, standings-names, stands}

free-standings : (n : ℕ) (rs : List Rule) (c : Configuration) → times (Free n) (standing_ports (standings 0 (links_of rs c))) ≡ 0
free-standings n rs c =
    omega (arith, parted-ports (Free n) 0 (links_of rs c), links-ports (Free n) rs c, free-none n (length c.interface) (agents_of c) (joints (links_of rs c)))

pub are_bound : (rs : List Rule) (c : Configuration) → AreBound (standing_ports (standings 0 (links_of rs c)))
are_bound rs c = all_bound (standing_ports (standings 0 (links_of rs c))) (λ n. free-standings n rs c)

pub often-names : (rs : List Rule) (c : Configuration) (n : ℕ) → often n (standings 0 (links_of rs c)) ≡ occurrences n (configuration_names c)
often-names rs c n =
    often-occurrences n (standings 0 (links_of rs c)) ∙ ap (occurrences n) (standings-names 0 (links_of rs c) ∙ links-names rs c)

-- each name occurs at most twice
abbrev pub AtMostTwice : Configuration → Type 0
AtMostTwice c = (n : ℕ) → occurrences n (configuration_names c) ≤ 2

pub are_few : (rs : List Rule) (c : Configuration) → AtMostTwice c → AreFew [] (standings 0 (links_of rs c))
are_few rs c twice n = let low = twice n in let same = often-names rs c n in omega arith

-- ---- the law

module _ (rs : List Rule) (c : Configuration) (net : Net) (twice : AtMostTwice c) (is : IsNet rs c net) (p : Port) where
  abbrev ls : List Link
  ls = links_of rs c

  abbrev ss : List Standing
  ss = standings 0 ls

  pub all_ends : times p (ends net.wires.items) ≡ times p (ends (plain_wires ls)) + times p (ends (name_wires ss))
  all_ends =
      ap (λ ws. times p (ends ws)) is.wires
      ∙ ap (times p) (flat_map-append (λ (w : Wire). w.from ∷ w.to ∷ []) (plain_wires ls) (name_wires ss))
      ∙ times-append p (ends (plain_wires ls)) (ends (name_wires ss))

  pub all_ports : times p (ports_of net) ≡ times p (counted_ports Interface 1 (length c.interface)) + (times p (agent_ports 0 (agents_of c)) + times p (joint_ports 0 (joints ls)))
  all_ports =
      ports-parted net p
      ∙ (λ i. times p (counted_ports Interface 1 (is.interface i)) + (times p (agent_ports 0 (is.agents i)) + times p (joint_ports 0 ((is.joints ∙ joints-are ls) i))))

  pub ends_are_ports : is_bound p ≡ true → times p (ends net.wires.items) ≡ times p (ports_of net)
  ends_are_ports bound =
      omega (arith, all_ends, all_ports, bound_ends p (named_wires ss) bound, all_added p [] ss (are_bound rs c) (are_few rs c twice), parted-ports p 0 ls, links-ports p rs c)

pub free_ends_are_names : (rs : List Rule) (c : Configuration) (net : Net) (n : ℕ) → AtMostTwice c → IsNet rs c net
    → times (Free n) (ends net.wires.items) ≡ cond (occurrences n (configuration_names c) == 1) 1 0
free_ends_are_names rs c net n twice is =
    let ss = standings 0 (links_of rs c) in
    let bound = are_bound rs c in
    let low = are_few rs c twice in
    let count : stands n (named_wires ss) ≡ occurrences n (configuration_names c) = omega (arith, all_counted n [] ss bound low, often-names rs c n) in
    let none = free-none n (length c.interface) (agents_of c) (joints (links_of rs c)) in
    let own = free_ends n (named_wires ss) (all_own [] ss bound low tt) in
    omega (arith, all_ends rs c net twice is (Free n), parted-ports (Free n) 0 (links_of rs c), links-ports (Free n) rs c, ap (λ m. bit (m == 1)) count)
