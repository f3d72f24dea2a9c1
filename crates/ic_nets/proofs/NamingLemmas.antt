-- By names for its ports, a net is a configuration that settles to the net of the configuration that it is of.
use Rattle.std.proofs.Common.{◌≡◌, ℕ, zero, suc, ◌+◌, ◌≤◌, ◌<◌, ◌==◌, ◌⊎◌, inl, inr, List, [], ◌∷◌, ◌++◌, true, length, map, refl, sym, ap, ◌∙◌, arith, append-nil}
use Rattle.std.specs.List.{flat_map}
use Rattle.std.proofs.lemmas.Bool.{cases_eq, cases_lt}
use Rattle.std.proofs.lemmas.List.{map-append}
use Rattle.std.proofs.lemmas.List.Concat.{flat_map-append}
use Rattle.ic_term.specs.Tree.{Tree, name, names, Pair, pair_names}
use Rattle.ic_term.specs.Configuration.{Configuration, IsConfiguration, configuration_names, occurrences}
use Rattle.ic_settle.specs.Settling.{settled}
use Rattle.ic_settle.specs.lemmas.SubstitutionLaws.{occurrences-append, occurrences-cons}
use Rattle.ic_settle.specs.lemmas.PutEach.{names_of-trees_of}
use Rattle.ic_rules.specs.Rule.{Rule}
use Rattle.ic_round.specs.Naming.{HasNames}
use Rattle.ic_round.specs.lemmas.FreshNames.{absent_above}
use Rattle.ic_confluence.specs.Sameness.{Rearranged, one_by_one, Same, through}
use Rattle.ic_confluence.specs.lemmas.Counts.{All_from as all_from}
use Rattle.ic_nets.specs.Nets.{agents_of, links_of, IsNet, name_wires, plain_wires, standings}
use Rattle.ic_nets.specs.Likeness.{agent_ports, counted_ports, ends, is_bound, joint_ports, port_eq, ports_of, times}
use Rattle.ic_nets.specs.inner.ReadBack.{IsNaming, agent_equations, joint_equations, names_at, read_back, wire_equation, wire_equations}
use Rattle.ic_nets.specs.declared.net.Agent.{Agent}
use Rattle.ic_nets.specs.declared.net.Net.{Net}
use Rattle.ic_nets.specs.declared.net.Wire.{Wire}
use Rattle.ic_nets.specs.declared.links.Link.{Link}
use Rattle.ic_nets.specs.declared.links.Standing.{Standing}
use Rattle.ic_nets.specs.declared.port.Port.{Port}
use Rattle.ic_nets.specs.declared.port.Port.TheVariants.{Interface, Principal, Auxiliary, Left, Right, Free}
use Rattle.ic_nets.proofs.SumLemmas.{bit, itself_equal, not_equal}
use Rattle.ic_nets.proofs.PortLemmas.{AreBound, all_bound, joints, joints-are, links-ports, parted-ports, port_itself, standing_ports, times-append}
use Rattle.ic_nets.proofs.NameLemmas.{links-names, standing_names, standings-names}
use Rattle.ic_nets.proofs.EndLemmas.{all_ports as ports_there, are_bound, are_few}
use Rattle.ic_nets.proofs.OnceLemmas.{free-none, listed_once, ports-parted}
use Rattle.ic_nets.proofs.LeadLemmas.{Laws, Leads, after_these, exchange, leads-itself, leads-rearranged, leads-through, parts}
use Rattle.ic_nets.proofs.BuiltLemmas.{configuration-built, link_equations}
use Rattle.ic_nets.proofs.ReadLemmas.{all_stood, links-joined, standing_equations}

module _ (f : Port → ℕ) where
  -- ---- the names of what is read back are those of ports

  terms-names : (ps : List Port) → flat_map names (map (λ p. name (f p)) ps) ≡ map f ps
  terms-names [] = refl
  terms-names (p ∷ ps) = ap (λ ns. f p ∷ ns) (terms-names ps)

  agents-names : (k : ℕ) (xs : List Agent) → flat_map pair_names (agent_equations f k xs) ≡ map f (agent_ports k xs)
  agents-names k [] = refl
  agents-names k (a ∷ xs) =
      let own = counted_ports (Auxiliary k) 1 a.arity in
      ap (λ ns. f (Principal k) ∷ ns)
      ((λ d. (names_of-trees_of (names_at f (Auxiliary k) 1 a.arity) ∙ terms-names own) d ++ agents-names (k + 1) xs d) ∙ sym (map-append f own (agent_ports (k + 1) xs)))

  joints-names : (j m : ℕ) → flat_map pair_names (joint_equations f j m) ≡ map f (joint_ports j m)
  joints-names j zero = refl
  joints-names j (suc m) = ap (λ ns. f (Left j) ∷ f (Right j) ∷ ns) (joints-names (j + 1) m)

  wires-names : (ws : List Wire) → flat_map pair_names (wire_equations f ws) ≡ map f (ends ws)
  wires-names [] = refl
  wires-names (w ∷ ws) = ap (λ ns. f w.from ∷ f w.to ∷ ns) (wires-names ws)

  standings-counts : (n : ℕ) (ss : List Standing)
      → occurrences n (flat_map pair_names (standing_equations f ss)) ≡ occurrences n (map f (standing_ports ss)) + occurrences n (standing_names ss)
  standings-counts n [] = refl
  standings-counts n (s ∷ ss) =
      let rest = flat_map pair_names (standing_equations f ss) in
      omega (arith, occurrences-cons n (f s.port) (s.name ∷ rest), occurrences-cons n s.name rest, occurrences-cons n (f s.port) (map f (standing_ports ss)), occurrences-cons n s.name (standing_names ss), standings-counts n ss)

  -- ---- how often a name stands among those of bound ports

  module _ (apart : (p q : Port) → is_bound p ≡ true → is_bound q ≡ true → f p ≡ f q → p ≡ q) where
    at_most : (p : Port) → is_bound p ≡ true → (ps : List Port) → AreBound ps → occurrences (f p) (map f ps) ≤ times p ps
    at_most p bound [] all = omega arith
    at_most p bound (q ∷ qs) all =
        let count = occurrences-cons (f p) (f q) (map f qs) in
        let later = at_most p bound qs all.1 in
        elim (cases_eq (f q) (f p)) [
          | inl is ↦
              let same : p ≡ q = sym (apart q p all.0 bound is) in
              omega (arith, itself_equal (f q), ap (λ n. bit (f q == n)) is, ap bit (port_itself p), ap (λ r. bit (port_eq p r)) same)
          | inr isnt ↦ omega (arith, not_equal (f q) (f p) isnt)
        ]

    found : (n : ℕ) (ps : List Port) → AreBound ps → (occurrences n (map f ps) ≡ 0) ⊎ ((p : Port) × (is_bound p ≡ true) × (f p ≡ n))
    found n [] all = inl refl
    found n (q ∷ qs) all = by (cases_eq (f q) n) (found n qs all.1)
      where
        by : (f q ≡ n) ⊎ (f q ≡ n → ⊥) → (occurrences n (map f qs) ≡ 0) ⊎ ((p : Port) × (is_bound p ≡ true) × (f p ≡ n))
            → (occurrences n (f q ∷ map f qs) ≡ 0) ⊎ ((p : Port) × (is_bound p ≡ true) × (f p ≡ n))
        by (inl is) rest = inr (q, all.0, is)
        by (inr isnt) (inr it) = inr it
        by (inr isnt) (inl none) = inl (omega (arith, occurrences-cons n (f q) (map f qs), not_equal (f q) n isnt, none))

module _ (rs : List Rule) (c : Configuration) (net : Net) (f : Port → ℕ) (next : ℕ) (sound : IsConfiguration c) (is : IsNet rs c net) (naming : IsNaming f c.next next net) where
  abbrev ls : List Link
  ls = links_of rs c

  abbrev ss : List Standing
  ss = standings 0 ls

  abbrev places : List Port
  places = counted_ports Interface 1 (length c.interface)

  abbrev agents : List Port
  agents = agent_ports 0 (agents_of c)

  abbrev points : List Port
  points = joint_ports 0 (joints ls)

  abbrev plain : List Port
  plain = ends (plain_wires ls)

  abbrev at_names : List Port
  at_names = standing_ports ss

  -- the ports of all equations before names are put together
  abbrev all_ports : List Port
  all_ports = places ++ (at_names ++ (agents ++ (points ++ plain)))

  twice_listed : (p : Port) → times p all_ports ≡ times p (ports_of net) + times p (ports_of net)
  twice_listed p =
      let first = times-append p places (at_names ++ (agents ++ (points ++ plain))) in
      let rest = times-append p at_names (agents ++ (points ++ plain)) in
      omega (arith, times-append p agents (points ++ plain), times-append p points plain, parted-ports p 0 ls, links-ports p rs c, ports_there rs c net sound.twice is p)

  bound_ports : AreBound all_ports
  bound_ports = all_bound all_ports (λ m. omega (arith, twice_listed (Free m), ports-parted net (Free m), free-none m net.interface net.agents.items net.joints))

  -- ---- the configuration before names are put together

  abbrev agent_part : List Pair
  agent_part = agent_equations f 0 (agents_of c)

  abbrev joint_part : List Pair
  joint_part = joint_equations f 0 (joints ls)

  abbrev wire_part : List Pair
  wire_part = wire_equations f (plain_wires ls)

  abbrev rest_part : List Pair
  rest_part = agent_part ++ (joint_part ++ (wire_part ++ []))

  abbrev apart_yet : Configuration
  apart_yet = parts (names_at f Interface 1 (length c.interface)) (standing_equations f ss ++ rest_part) next

  all_counts : (n : ℕ) → occurrences n (configuration_names apart_yet) ≡ occurrences n (map f all_ports) + occurrences n (configuration_names c)
  all_counts n =
      let ts = names_at f Interface 1 (length c.interface) in
      let es = standing_equations f ss in
      let wired : flat_map pair_names (wire_part ++ []) ≡ map f plain = ap (flat_map pair_names) (append-nil wire_part) ∙ wires-names f (plain_wires ls) in
      let joined_wired : flat_map pair_names (joint_part ++ (wire_part ++ [])) ≡ map f points ++ map f plain =
      flat_map-append pair_names joint_part (wire_part ++ []) ∙ (λ d. joints-names f 0 (joints ls) d ++ wired d) in
      let rest : flat_map pair_names rest_part ≡ map f (agents ++ (points ++ plain)) =
      flat_map-append pair_names agent_part (joint_part ++ (wire_part ++ [])) ∙ (λ d. agents-names f 0 (agents_of c) d ++ joined_wired d)
      ∙ sym (map-append f agents (points ++ plain) ∙ ap (λ ns. map f agents ++ ns) (map-append f points plain)) in
      let total = occurrences-append n (flat_map names ts) (flat_map pair_names (es ++ rest_part)) in
      let second = ap (occurrences n) (flat_map-append pair_names es rest_part) in
      let parted = occurrences-append n (flat_map pair_names es) (flat_map pair_names rest_part) in
      let own = ap (occurrences n) (standings-names 0 ls ∙ links-names rs c) in
      let ports = ap (occurrences n) (map-append f places (at_names ++ (agents ++ (points ++ plain)))) in
      let ports_parted = occurrences-append n (map f places) (map f (at_names ++ (agents ++ (points ++ plain)))) in
      let others = ap (occurrences n) (map-append f at_names (agents ++ (points ++ plain))) in
      let others_parted = occurrences-append n (map f at_names) (map f (agents ++ (points ++ plain))) in
      omega (arith, total, second, parted, own, ports, ports_parted, others, others_parted, ap (occurrences n) (terms-names f places), standings-counts f n ss, ap (occurrences n) rest)

  few_names : (n : ℕ) → occurrences n (map f all_ports) ≤ 2
  few_names n = elim (found f naming.apart n all_ports bound_ports) [
    | inl none ↦ omega (arith, none)
    | inr it ↦
        let low = at_most f naming.apart it.0 it.1 all_ports bound_ports in
        omega (arith, ap (λ m. occurrences m (map f all_ports)) it.2, listed_once net it.0, twice_listed it.0)
  ]

  none_low : (n : ℕ) → n < c.next → occurrences n (map f all_ports) ≡ 0
  none_low n low = elim (found f naming.apart n all_ports bound_ports) [
    | inl none ↦ none
    | inr it ↦ absurd (omega (arith, naming.new it.0 it.1, it.2, low))
  ]

  below_next : (n : ℕ) → 1 ≤ occurrences n (map f all_ports) → n < next
  below_next n some = elim (found f naming.apart n all_ports bound_ports) [
    | inl none ↦ absurd (omega (arith, none, some))
    | inr it ↦
        let low = at_most f naming.apart it.0 it.1 all_ports bound_ports in
        let less = naming.below it.0 (omega (arith, ap (λ m. occurrences m (map f all_ports)) it.2, listed_once net it.0, twice_listed it.0, some)) in
        omega (arith, less, it.2)
  ]

  names_kept : HasNames apart_yet
  names_kept = record {
    below = all_from (λ n. n < next) (configuration_names apart_yet) (λ n some. elim (cases_lt n c.next) [
      | inl low ↦ omega (arith, low, naming.room)
      | inr high ↦ below_next n (omega (arith, all_counts n, absent_above n c.next (configuration_names c) sound.below high, some))
    ]);
    twice = λ n. elim (cases_lt n c.next) [
      | inl low ↦ omega (arith, all_counts n, none_low n low, sound.twice n)
      | inr high ↦ omega (arith, all_counts n, absent_above n c.next (configuration_names c) sound.below high, few_names n)
    ];
  }

  module _ (laws : Laws) where
    abbrev named_part : List Pair
    named_part = wire_equations f (name_wires ss)

    abbrev interface_names : List Tree
    interface_names = names_at f Interface 1 (length c.interface)

    to_net : Leads apart_yet (read_back f next net)
    to_net =
        let wired : wire_part ++ (named_part ++ []) ≡ wire_equations f (plain_wires ls ++ name_wires ss) =
        ap (λ es. wire_part ++ es) (append-nil named_part) ∙ sym (map-append (wire_equation f) (plain_wires ls) (name_wires ss)) in
        let net_is : read_back f next net ≡ parts interface_names (agent_part ++ (joint_part ++ wire_equations f (plain_wires ls ++ name_wires ss))) next =
        λ i. parts (names_at f Interface 1 (is.interface i)) (agent_equations f 0 (is.agents i) ++ (joint_equations f 0 ((is.joints ∙ joints-are ls) i) ++ wire_equations f (is.wires i))) next in
        leads-through laws _ _ _ (all_stood f laws next interface_names naming.free ss [] rest_part (are_bound rs c) (are_few rs c sound.twice) tt)
        (leads-through laws _ _ _ (leads-rearranged laws interface_names next _ _ (one_by_one _ _ _ (exchange named_part agent_part (joint_part ++ (wire_part ++ [])))
        (after_these agent_part _ _ (one_by_one _ _ _ (exchange named_part joint_part (wire_part ++ [])) (after_these joint_part _ _ (exchange named_part wire_part []))))))
        (leads-itself laws _ _ (ap (λ (es : List Pair). parts interface_names (agent_part ++ (joint_part ++ es)) next) wired ∙ sym net_is)))

    to_configuration : Leads apart_yet (parts c.interface c.equations next)
    to_configuration =
        let standing = standing_equations f ss in
        let links = link_equations f ls in
        let sorted : Rearranged (standing ++ (agent_part ++ (joint_part ++ (wire_part ++ [])))) (joint_part ++ (wire_part ++ (standing ++ (agent_part ++ [])))) =
        one_by_one _ _ _ (after_these standing _ _ (exchange agent_part joint_part (wire_part ++ [])))
        (one_by_one _ _ _ (exchange standing joint_part (agent_part ++ (wire_part ++ [])))
        (after_these joint_part _ _ (one_by_one _ _ _ (after_these standing _ _ (exchange agent_part wire_part [])) (exchange standing wire_part (agent_part ++ []))))) in
        leads-through laws _ _ _ (leads-rearranged laws interface_names next _ _ sorted)
        (leads-through laws _ _ _ (links-joined f laws next interface_names 0 ls (agent_part ++ []))
        (leads-through laws _ _ _ (leads-rearranged laws interface_names next _ _ (exchange links agent_part []))
        (leads-through laws _ _ _ (leads-itself laws _ _ (ap (λ (es : List Pair). parts interface_names (agent_part ++ es) next) (append-nil links)))
        (configuration-built f laws next rs c))))

    pub found_again : Same (settled (read_back f next net)) (settled (record c { next = next }))
    found_again = through _ _ _ (to_net names_kept).1 (laws.back _ _ (to_configuration names_kept).1)

    pub read_names : HasNames (read_back f next net)
    read_names = (to_net names_kept).0
