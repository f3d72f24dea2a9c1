-- A net has no names but free ones: where names are turned into others, it stays.
use Rattle.std.proofs.Common.{◌≡◌, ℕ, suc, ◌+◌, ◌≤◌, ◌==◌, List, [], ◌∷◌, ◌++◌, Bool, true, false, cond, Some, fold, length, map, refl, sym, ap, ◌∙◌, subst, arith, eq-eqb}
use Rattle.std.specs.Prelude.{is_some}
use Rattle.std.proofs.lemmas.Bool.{eqb-true}
use Rattle.std.proofs.lemmas.Bool.Decides.{Decides-eqb, same_from_decides}
use Rattle.std.specs.List.{flat_map}
use Rattle.std.proofs.lemmas.List.{length-map, map-append}
use Rattle.std.proofs.lemmas.List.Folds.{flat_map-map}
use Rattle.std.proofs.lemmas.Simd.{map-map}
use Rattle.ic_term.specs.Tree.{Tree, name, agent, Trees, no_trees, more_trees, list_of, trees_of, Pair}
use Rattle.ic_term.specs.Configuration.{Configuration, configuration_names, occurrences}
use Rattle.ic_rules.specs.Rule.{Rule}
use Rattle.ic_rules.specs.Renaming.{renamed, renamed_trees}
use Rattle.ic_rules.specs.lemmas.RenamingLaws.{renamed_trees-trees_of}
use Rattle.ic_round.specs.Firing.{rule_of_sides}
use Rattle.ic_confluence.specs.Sameness.{Renames, renamed_in, renamed_pair}
use Rattle.ic_nets.specs.Nets.{agents_among, agents_in, agents_of, end_of, equation_link, hanging, inside, joined, links_of, pair_agents, pair_links, pairs_agents, are_names, joins_names, name_wires, named_wires, plain_wires, standings, standings_at, standings_between, wire_between, wire_of, wires_at, with_standing, IsNet}
use Rattle.ic_nets.specs.Likeness.{ends, is_bound, port_eq, times}
use Rattle.ic_nets.specs.declared.net.Net.{Net}
use Rattle.ic_nets.specs.declared.net.Wire.{Wire}
use Rattle.ic_nets.specs.declared.links.End.{End}
use Rattle.ic_nets.specs.declared.links.End.TheVariants.{At, Named}
use Rattle.ic_nets.specs.declared.links.Link.{Link}
use Rattle.ic_nets.specs.declared.links.Standing.{Standing}
use Rattle.ic_nets.specs.declared.port.Port.{Port}
use Rattle.ic_nets.specs.declared.port.Port.TheVariants.{Interface, Auxiliary, Free}
use Rattle.ic_nets.proofs.SumLemmas.{bit, itself_equal}
use Rattle.ic_nets.proofs.PortLemmas.{AreBound, joints, joints-are, standing_ports}
use Rattle.ic_nets.proofs.NameLemmas.{often, own_wires}
use Rattle.ic_nets.proofs.EndLemmas.{AtMostTwice, all_ends, are_bound, free_ends_are_names, often-names}

module _ (f : ℕ → ℕ) where
  -- ---- agents

  renamed_length : (ts : Trees) → length (list_of (renamed_trees f ts)) ≡ length (list_of ts)
  renamed_length no_trees = refl
  renamed_length (more_trees t ts) = ap suc (renamed_length ts)

  mutual
    agents-renamed : (t : Tree) → agents_in (renamed f t) ≡ agents_in t
    agents-renamed (name n) = refl
    agents-renamed (agent s ts) = λ i. record { sym = s; arity = renamed_length ts i } ∷ among-renamed ts i

    among-renamed : (ts : Trees) → agents_among (renamed_trees f ts) ≡ agents_among ts
    among-renamed no_trees = refl
    among-renamed (more_trees t ts) = λ i. agents-renamed t i ++ among-renamed ts i

  pair_agents-renamed : (p : Pair) → pair_agents (renamed_pair f p) ≡ pair_agents p
  pair_agents-renamed p = λ i. agents-renamed p.left i ++ agents-renamed p.right i

  pairs_agents-renamed : (ps : List Pair) → pairs_agents (map (renamed_pair f) ps) ≡ pairs_agents ps
  pairs_agents-renamed ps = flat_map-map pair_agents (renamed_pair f) ps ∙ (λ i. flat_map (λ (p : Pair). pair_agents-renamed p i) ps)

  trees-renamed : (ts : List Tree) → trees_of (map (renamed f) ts) ≡ renamed_trees f (trees_of ts)
  trees-renamed ts = sym (renamed_trees-trees_of f ts)

  agents_of-renamed : (c : Configuration) → agents_of (renamed_in f c) ≡ agents_of c
  agents_of-renamed c =
      (λ i. agents_among (trees-renamed c.interface i) ++ pairs_agents (map (renamed_pair f) c.equations))
      ∙ (λ i. among-renamed (trees_of c.interface) i ++ pairs_agents-renamed c.equations i)

  -- ---- what is joined

  abbrev end_named : End → End
  end_named (At p) = At p
  end_named (Named n) = Named (f n)

  abbrev link_named : Link → Link
  link_named l = record { from = end_named l.from; to = end_named l.to; active = l.active }

  end-renamed : (k : ℕ) (t : Tree) → end_of k (renamed f t) ≡ end_named (end_of k t)
  end-renamed k (name n) = refl
  end-renamed k (agent s ts) = refl

  mutual
    inside-renamed : (k : ℕ) (t : Tree) → inside k (renamed f t) ≡ map link_named (inside k t)
    inside-renamed k (name n) = refl
    inside-renamed k (agent s ts) = hanging-renamed (Auxiliary k) 1 (k + 1) ts

    hanging-renamed : (port : ℕ → Port) (i k : ℕ) (ts : Trees) → hanging port i k (renamed_trees f ts) ≡ map link_named (hanging port i k ts)
    hanging-renamed port i k no_trees = refl
    hanging-renamed port i k (more_trees t ts) =
        let first : Link = record { from = At (port i); to = end_named (end_of k t); active = false } in
        let later = k + length (agents_in t) in
        (λ d. record { from = At (port i); to = end-renamed k t d; active = false }
        ∷ (inside-renamed k t d ++ hanging port (i + 1) (k + length (agents-renamed t d)) (renamed_trees f ts)))
        ∙ ap (λ (ls : List Link). first ∷ (map link_named (inside k t) ++ ls)) (hanging-renamed port (i + 1) later ts)
        ∙ ap (λ (ls : List Link). first ∷ ls) (sym (map-append link_named (inside k t) (hanging port (i + 1) later ts)))

  sides-renamed : (rs : List Rule) (t u : Tree) → rule_of_sides rs (renamed f t) (renamed f u) ≡ rule_of_sides rs t u
  sides-renamed rs (name m) (name n) = refl
  sides-renamed rs (agent s ts) (agent r us) = refl
  sides-renamed rs t u = refl

  equation-renamed : (rs : List Rule) (j k : ℕ) (p : Pair) → equation_link rs j k (renamed_pair f p) ≡ link_named (equation_link rs j k p)
  equation-renamed rs j k p =
      λ d. record { from = end-renamed j p.left d; to = end-renamed k p.right d; active = is_some (sides-renamed rs p.left p.right d) }

  pair_links-renamed : (rs : List Rule) (k : ℕ) (p : Pair) → pair_links rs k (renamed_pair f p) ≡ map link_named (pair_links rs k p)
  pair_links-renamed rs k p =
      let j = k + length (agents_in p.left) in
      (λ d. inside-renamed k p.left d
      ++ equation_link rs k (k + length (agents-renamed p.left d)) (renamed_pair f p) ∷ inside (k + length (agents-renamed p.left d)) (renamed f p.right))
      ∙ (λ d. map link_named (inside k p.left) ++ equation-renamed rs k j p d ∷ inside-renamed j p.right d)
      ∙ sym (map-append link_named (inside k p.left) (equation_link rs k j p ∷ inside j p.right))

  joined-renamed : (rs : List Rule) (k : ℕ) (ps : List Pair) → joined rs k (map (renamed_pair f) ps) ≡ map link_named (joined rs k ps)
  joined-renamed rs k [] = refl
  joined-renamed rs k (p ∷ ps) =
      let later = k + length (pair_agents p) in
      (λ d. pair_links-renamed rs k p d ++ joined rs (k + length (pair_agents-renamed p d)) (map (renamed_pair f) ps))
      ∙ ap (λ (ls : List Link). map link_named (pair_links rs k p) ++ ls) (joined-renamed rs later ps)
      ∙ sym (map-append link_named (pair_links rs k p) (joined rs later ps))

  links-renamed : (rs : List Rule) (c : Configuration) → links_of rs (renamed_in f c) ≡ map link_named (links_of rs c)
  links-renamed rs c =
      let ts = trees_of c.interface in
      let later = length (agents_among ts) in
      (λ d. hanging Interface 1 0 (trees-renamed c.interface d) ++ joined rs (length (agents_among (trees-renamed c.interface d))) (map (renamed_pair f) c.equations))
      ∙ (λ d. hanging-renamed Interface 1 0 ts d ++ joined rs (length (among-renamed ts d)) (map (renamed_pair f) c.equations))
      ∙ ap (λ (ls : List Link). map link_named (hanging Interface 1 0 ts) ++ ls) (joined-renamed rs later c.equations)
      ∙ sym (map-append link_named (hanging Interface 1 0 ts) (joined rs later c.equations))

  -- ---- the wires of ports, and equations of two names

  between-renamed : (active : Bool) (a b : End) → wire_between active (end_named a) (end_named b) ≡ wire_between active a b
  between-renamed active (At p) (At q) = refl
  between-renamed active (Named m) (Named n) = refl
  between-renamed active a b = refl

  plain-renamed : (ls : List Link) → plain_wires (map link_named ls) ≡ plain_wires ls
  plain-renamed ls = flat_map-map wires_at link_named ls ∙ (λ d. flat_map (λ (l : Link). between-renamed l.active l.from l.to d) ls)

  are_names-renamed : (a b : End) → are_names (end_named a) (end_named b) ≡ are_names a b
  are_names-renamed (At p) b = refl
  are_names-renamed (Named m) (At q) = refl
  are_names-renamed (Named m) (Named n) = refl

  joints-renamed : (ls : List Link) → joints (map link_named ls) ≡ joints ls
  joints-renamed [] = refl
  joints-renamed (l ∷ ls) = λ d. cond (are_names-renamed l.from l.to d) (suc (joints-renamed ls d)) (joints-renamed ls d)

  -- ---- names that stand at ports

  abbrev standing_named : Standing → Standing
  standing_named s = record { name = f s.name; port = s.port }

  at-renamed : (j : ℕ) (a b : End) → standings_between j (end_named a) (end_named b) ≡ map standing_named (standings_between j a b)
  at-renamed j (At p) (At q) = refl
  at-renamed j (Named m) (Named n) = refl
  at-renamed j a b = refl

  standings-renamed : (j : ℕ) (ls : List Link) → standings j (map link_named ls) ≡ map standing_named (standings j ls)
  standings-renamed j [] = refl
  standings-renamed j (l ∷ ls) =
      let later = cond (joins_names l) (j + 1) j in
      (λ d. at-renamed j l.from l.to d ++ standings (cond (are_names-renamed l.from l.to d) (j + 1) j) (map link_named ls))
      ∙ ap (λ (ss : List Standing). map standing_named (standings_at j l) ++ ss) (standings-renamed later ls)
      ∙ sym (map-append standing_named (standings_at j l) (standings later ls))

  -- ---- their wires

  abbrev port_named : Port → Port
  port_named (Free n) = Free (f n)
  port_named p = p

  abbrev wire_named : Wire → Wire
  wire_named w = record { from = w.from; to = port_named w.to; active = w.active }

  abbrev entry_named : ℕ × Wire → ℕ × Wire
  entry_named e = (f e.0, wire_named e.1)

  bound_stays : (p : Port) → is_bound p ≡ true → port_named p ≡ p
  bound_stays (Free n) bound = cc
  bound_stays p bound = refl

  own-renamed : (es : List (ℕ × Wire)) → own_wires (map entry_named es) ≡ map wire_named (own_wires es)
  own-renamed es = map-map (λ (e : ℕ × Wire). e.1) entry_named es ∙ sym (map-map wire_named (λ (e : ℕ × Wire). e.1) es)

  module _ (one : (m n : ℕ) → (f m == f n) ≡ (m == n)) where
    standing-renamed : (es : List (ℕ × Wire)) (s : Standing) → is_bound s.port ≡ true → with_standing (map entry_named es) (standing_named s) ≡ map entry_named (with_standing es s)
    standing-renamed [] s bound = refl
    standing-renamed (e ∷ es) s bound =
        (λ d. cond (one s.name e.0 d) ((f e.0, record { from = e.1.from; to = s.port; active = false }) ∷ map entry_named es) (entry_named e ∷ standing-renamed es s bound d))
        ∙ by (s.name == e.0)
      where
        by : (b : Bool) → cond b ((f e.0, record { from = e.1.from; to = s.port; active = false }) ∷ map entry_named es) (entry_named e ∷ map entry_named (with_standing es s))
            ≡ map entry_named (cond b ((e.0, wire_of (Some e.1) s) ∷ es) (e ∷ with_standing es s))
        by true = ap (λ (p : Port). (f e.0, record { from = e.1.from; to = p; active = false }) ∷ map entry_named es) (sym (bound_stays s.port bound))
        by false = refl

    names-renamed : (es : List (ℕ × Wire)) (ss : List Standing) → AreBound (standing_ports ss) → fold with_standing (map entry_named es) (map standing_named ss) ≡ map entry_named (fold with_standing es ss)
    names-renamed es [] bound = refl
    names-renamed es (s ∷ ss) bound =
        ap (λ (x : List (ℕ × Wire)). fold with_standing x (map standing_named ss)) (standing-renamed es s bound.0) ∙ names-renamed (with_standing es s) ss bound.1

  -- ---- free ends stay

  wires_stay : (ws : List Wire) → ((m : ℕ) → 1 ≤ times (Free m) (ends ws) → f m ≡ m) → map wire_named ws ≡ ws
  wires_stay [] free = refl
  wires_stay (w ∷ ws) free =
      λ d. record { from = w.from; to = here w.to free d; active = w.active } ∷ wires_stay ws (λ m some. free m (omega (arith, some))) d
    where
      here : (p : Port) → ((m : ℕ) → 1 ≤ cond (port_eq (Free m) w.from) 1 0 + (cond (port_eq (Free m) p) 1 0 + times (Free m) (ends ws)) → f m ≡ m) → port_named p ≡ p
      here (Free n) free = ap Free (free n (omega (arith, itself_equal n)))
      here p free = refl

-- ---- the law

pub same_test : (f g : ℕ → ℕ) → ((n : ℕ) → g (f n) ≡ n) → (m n : ℕ) → (f m == f n) ≡ (m == n)
same_test f g back m n =
    same_from_decides {P = m ≡ n} (f m == f n) (m == n)
    (λ e. sym (back m) ∙ (ap g (eqb-true (f m) (f n) e) ∙ back n), λ e. eq-eqb (f m) (f n) (ap f e)) (Decides-eqb m n)

once : (b : Bool) → 1 ≤ bit b → b ≡ true
once true some = refl
once false some = absurd (omega arith)

pub net_forgets : (rs : List Rule) (c d : Configuration) (net : Net) → AtMostTwice c → Renames c d → IsNet rs c net → IsNet rs d net
net_forgets rs c d net twice renames is =
    let f = renames.to in
    let ls = links_of rs c in
    let ss = standings 0 ls in
    let links = links-renamed f rs c in
    let named = ap (λ (x : List (ℕ × Wire)). own_wires x) (names-renamed f (same_test f renames.from renames.there_and_back) [] ss (are_bound rs c)) ∙ own-renamed f (named_wires ss) in
    let free : (m : ℕ) → 1 ≤ times (Free m) (ends (name_wires ss)) → f m ≡ m =
    λ m some. renames.free m (eqb-true (occurrences m (configuration_names c)) 1
    (once (occurrences m (configuration_names c) == 1) (omega (arith, free_ends_are_names rs c net m twice is, some, all_ends rs c net twice is (Free m))))) in
    let stay = wires_stay f (name_wires ss) free in
    let wires : plain_wires (links_of rs (renamed_in f c)) ++ name_wires (standings 0 (links_of rs (renamed_in f c))) ≡ plain_wires ls ++ name_wires ss =
    (λ i. plain_wires (links i) ++ name_wires (standings 0 (links i)))
    ∙ (λ i. plain-renamed f ls i ++ name_wires (standings-renamed f 0 ls i))
    ∙ ap (λ (ws : List Wire). plain_wires ls ++ ws) (named ∙ stay) in
    let net_of_renamed : IsNet rs (renamed_in f c) net = record {
      interface = is.interface ∙ sym (length-map c.interface _);
      agents = is.agents ∙ sym (agents_of-renamed f c);
      joints = is.joints ∙ joints-are ls ∙ sym (joints-are (links_of rs (renamed_in f c)) ∙ ap joints links ∙ joints-renamed f ls);
      wires = is.wires ∙ sym wires;
    } in
    subst (λ (e : Configuration). IsNet rs e net) (sym renames.result) net_of_renamed

-- ---- names occur as often

module _ (f g : ℕ → ℕ) (back : (n : ℕ) → g (f n) ≡ n) (there : (n : ℕ) → f (g n) ≡ n) (n : ℕ) where
  often_renamed : (ss : List Standing) → often n (map (standing_named f) ss) ≡ often (g n) ss
  often_renamed [] = refl
  often_renamed (s ∷ ss) =
      let test : (f s.name == n) ≡ (s.name == g n) = ap (λ m. f s.name == m) (sym (there n)) ∙ same_test f g back s.name (g n) in
      λ i. cond (test i) 1 0 + often_renamed ss i

pub still_twice : (c d : Configuration) → AtMostTwice c → Renames c d → AtMostTwice d
still_twice c d twice renames n =
    let f = renames.to in
    let g = renames.from in
    let same = ap (λ (e : Configuration). occurrences n (configuration_names e)) renames.result
    ∙ sym (often-names [] (renamed_in f c) n)
    ∙ ap (λ (ls : List Link). often n (standings 0 ls)) (links-renamed f [] c)
    ∙ ap (often n) (standings-renamed f 0 (links_of [] c))
    ∙ often_renamed f g renames.there_and_back renames.back_and_there n (standings 0 (links_of [] c))
    ∙ often-names [] c (g n) in
    omega (arith, twice (g n))
