-- Terms are built of the equations of their agents and of what is joined.
use Rattle.std.proofs.Common.{◌≡◌, ℕ, suc, ◌+◌, ◌≤◌, List, [], ◌∷◌, ◌++◌, true, length, map, refl, sym, ap, ◌∙◌, arith, append_assoc, append-nil, eq-eqb}
use Rattle.std.proofs.lemmas.List.{map-append}
use Rattle.ic_term.specs.Tree.{Tree, name, agent, Trees, no_trees, more_trees, list_of, trees_of, names_of, Pair}
use Rattle.ic_term.specs.Configuration.{Configuration, occurrences}
use Rattle.ic_term.specs.lemmas.TreeLaws.{list_of-trees_of}
use Rattle.ic_settle.specs.Settling.{occurs, subst, subst_all}
use Rattle.ic_settle.specs.lemmas.PutEach.{names_of-trees_of}
use Rattle.ic_rules.specs.Rule.{Rule}
use Rattle.ic_confluence.specs.Sameness.{Rearranged, kept, itself, one_by_one}
use Rattle.ic_nets.specs.Nets.{agents_among, agents_in, agents_of, end_of, equation_link, hanging, hung, inside, joined, links_of, pair_agents, pair_links, pairs_agents}
use Rattle.ic_nets.specs.inner.ReadBack.{agent_equation, agent_equations, equated, names_at}
use Rattle.ic_nets.specs.declared.net.Agent.{Agent}
use Rattle.ic_nets.specs.declared.links.End.{End}
use Rattle.ic_nets.specs.declared.links.End.TheVariants.{At, Named}
use Rattle.ic_nets.specs.declared.links.Link.{Link}
use Rattle.ic_nets.specs.declared.port.Port.{Port}
use Rattle.ic_nets.specs.declared.port.Port.TheVariants.{Interface, Principal, Auxiliary}
use Rattle.ic_nets.proofs.LeadLemmas.{Laws, Leads, after_these, before, exchange, leads-itself, leads-rearranged, leads-through, moved_after, parts, put_alone, put_among, put_place, put_right, stands_among, turn}

trees_of-list_of : (ts : Trees) → trees_of (list_of ts) ≡ ts
trees_of-list_of no_trees = refl
trees_of-list_of (more_trees t ts) = ap (more_trees t) (trees_of-list_of ts)

subst-trees_of : (x : ℕ) (u : Tree) (ts : List Tree) → subst_all x u (trees_of ts) ≡ trees_of (map (subst x u) ts)
subst-trees_of x u [] = refl
subst-trees_of x u (t ∷ ts) = ap (more_trees (subst x u t)) (subst-trees_of x u ts)

module _ (name_of : Port → ℕ) where
  -- what is joined, as an equation
  abbrev pub end_tree : End → Tree
  end_tree (At p) = name (name_of p)
  end_tree (Named n) = name n

  abbrev pub link_equation : Link → Pair
  link_equation l = equated (end_tree l.from) (end_tree l.to)

  abbrev pub link_equations : List Link → List Pair
  link_equations ls = map link_equation ls

  -- terms that hang at ports, which are counted on from a place
  abbrev hung_equations : (ℕ → Port) → ℕ → List Tree → List Pair
  hung_equations port i [] = []
  hung_equations port i (t ∷ ts) = equated (name (name_of (port i))) t ∷ hung_equations port (i + 1) ts

  agents-append : (k : ℕ) (xs ys : List Agent) → agent_equations name_of k (xs ++ ys) ≡ agent_equations name_of k xs ++ agent_equations name_of (k + length xs) ys
  agents-append k [] ys = let none : k ≡ k + 0 = omega arith in ap (λ j. agent_equations name_of j ys) none
  agents-append k (a ∷ xs) ys =
      let count : k + 1 + length xs ≡ k + suc (length xs) = omega arith in
      ap (λ es. agent_equation name_of k a ∷ es) (agents-append (k + 1) xs ys ∙ ap (λ j. agent_equations name_of (k + 1) xs ++ agent_equations name_of j ys) count)

  -- what two parts of a text have, sorted by parts
  both-append : (k : ℕ) (xs ys : List Agent) (ls ms : List Link) (es : List Pair)
      → agent_equations name_of k (xs ++ ys) ++ (link_equations (ls ++ ms) ++ es)
      ≡ agent_equations name_of k xs ++ (agent_equations name_of (k + length xs) ys ++ (link_equations ls ++ (link_equations ms ++ es)))
  both-append k xs ys ls ms es =
      let first = agent_equations name_of k xs in
      let second = agent_equations name_of (k + length xs) ys in
      (λ d. agents-append k xs ys d ++ (map-append link_equation ls ms d ++ es)) ∙ append_assoc first second ((link_equations ls ++ link_equations ms) ++ es)
      ∙ ap (λ ps. first ++ (second ++ ps)) (append_assoc (link_equations ls) (link_equations ms) es)

  module _ (laws : Laws) (n : ℕ) where
    -- ---- the arguments of an agent, and the places of the interface

    arguments_put : (port : ℕ → Port) (i : ℕ) (done us : List Tree) (ts : List Tree) (l : Tree) (s : ℕ) (es : List Pair)
        → Leads (parts ts (hung_equations port i us ++ (equated l (agent s (trees_of (done ++ names_at name_of port i (length us)))) ∷ es)) n)
        (parts ts (equated l (agent s (trees_of (done ++ us))) ∷ es) n)
    arguments_put port i done [] ts l s es = leads-itself laws _ _ refl
    arguments_put port i done (u ∷ us) ts l s es =
        let x = name_of (port i) in
        let later = names_at name_of port (i + 1) (length us) in
        let hung_later = hung_equations port (i + 1) us in
        let with = done ++ (name x ∷ later) in
        let put = done ++ (u ∷ later) in
        let old = equated l (agent s (trees_of with)) in
        let new = equated l (agent s (trees_of put)) in
        let there : occurs x (names_of (trees_of with)) ≡ true = ap (occurs x) (names_of-trees_of with) ∙ stands_among x done later in
        let substituted : occurrences x (names_of (trees_of with)) ≤ 1 → subst x u (agent s (trees_of with)) ≡ agent s (trees_of put) =
        λ few. ap (agent s) (subst-trees_of x u with ∙ ap trees_of (put_among x u done later (rw (names_of-trees_of with) at few))) in
        let one_more : put ≡ (done ++ (u ∷ [])) ++ later = sym (append_assoc done (u ∷ []) later) in
        let all : (done ++ (u ∷ [])) ++ us ≡ done ++ (u ∷ us) = append_assoc done (u ∷ []) us in
        leads-through laws _ _ _ (leads-rearranged laws ts n _ _ (kept (equated (name x) u) _ _ _ (itself _) (before old hung_later es)))
        (leads-through laws _ _ _ (put_right laws x u l (agent s (trees_of with)) (agent s (trees_of put)) ts (hung_later ++ es) n there substituted)
        (leads-through laws _ _ _ (leads-rearranged laws ts n _ _ (moved_after new hung_later es))
        (leads-through laws _ _ _ (leads-itself laws _ _ (ap (λ (us : List Tree). parts ts (hung_later ++ (equated l (agent s (trees_of us)) ∷ es)) n) one_more))
        (leads-through laws _ _ _ (arguments_put port (i + 1) (done ++ (u ∷ [])) us ts l s es)
        (leads-itself laws _ _ (ap (λ (us : List Tree). parts ts (equated l (agent s (trees_of us)) ∷ es) n) all))))))

    places_put : (port : ℕ → Port) (i : ℕ) (done us : List Tree) (es : List Pair)
        → Leads (parts (done ++ names_at name_of port i (length us)) (hung_equations port i us ++ es) n) (parts (done ++ us) es n)
    places_put port i done [] es = leads-itself laws _ _ refl
    places_put port i done (u ∷ us) es =
        let later = names_at name_of port (i + 1) (length us) in
        let hung_later = hung_equations port (i + 1) us in
        let one_more : done ++ (u ∷ later) ≡ (done ++ (u ∷ [])) ++ later = sym (append_assoc done (u ∷ []) later) in
        let all : (done ++ (u ∷ [])) ++ us ≡ done ++ (u ∷ us) = append_assoc done (u ∷ []) us in
        leads-through laws _ _ _ (put_place laws (name_of (port i)) u done later (hung_later ++ es) n)
        (leads-through laws _ _ _ (leads-itself laws _ _ (ap (λ (us : List Tree). parts us (hung_later ++ es) n) one_more))
        (leads-through laws _ _ _ (places_put port (i + 1) (done ++ (u ∷ [])) us es)
        (leads-itself laws _ _ (ap (λ (us : List Tree). parts us es n) all))))

    -- ---- terms

    mutual
      term-built : (k : ℕ) (t : Tree) (v : Tree) (ts : List Tree) (es : List Pair)
          → Leads (parts ts (agent_equations name_of k (agents_in t) ++ (equated v (end_tree (end_of k t)) ∷ (link_equations (inside k t) ++ es))) n)
          (parts ts (equated v t ∷ es) n)
      term-built k (name m) v ts es = leads-itself laws _ _ refl
      term-built k (agent s us) v ts es =
          let x = name_of (Principal k) in
          let below = agent_equations name_of (k + 1) (agents_among us) in
          let links = link_equations (hanging (Auxiliary k) 1 (k + 1) us) in
          let own = agent_equation name_of k (record { sym = s; arity = length (list_of us) }) in
          let joined_to = equated v (name x) in
          let full = agent s us in
          let whole : agent s (trees_of (list_of us)) ≡ full = ap (agent s) (trees_of-list_of us) in
          leads-through laws _ _ _ (leads-rearranged laws ts n _ _ (one_by_one _ _ _ (moved_after own below (joined_to ∷ (links ++ es))) (after_these below _ _ (exchange (own ∷ joined_to ∷ []) links es))))
          (leads-through laws _ _ _ (terms-built (Auxiliary k) 1 (k + 1) us ts (own ∷ joined_to ∷ es))
          (leads-through laws _ _ _ (arguments_put (Auxiliary k) 1 [] (list_of us) ts (name x) s (joined_to ∷ es))
          (leads-through laws _ _ _ (leads-itself laws _ _ (ap (λ (u : Tree). parts ts (equated (name x) u ∷ joined_to ∷ es) n) whole))
          (put_right laws x full v (name x) full ts es n (rw (eq-eqb x x refl) refl) (λ few. put_alone x full)))))

      terms-built : (port : ℕ → Port) (i k : ℕ) (us : Trees) (ts : List Tree) (es : List Pair)
          → Leads (parts ts (agent_equations name_of k (agents_among us) ++ (link_equations (hanging port i k us) ++ es)) n)
          (parts ts (hung_equations port i (list_of us) ++ es) n)
      terms-built port i k no_trees ts es = leads-itself laws _ _ refl
      terms-built port i k (more_trees t us) ts es =
          let j = k + length (agents_in t) in
          let a1 = agent_equations name_of k (agents_in t) in
          let a2 = agent_equations name_of j (agents_among us) in
          let h = link_equation (hung (port i) k t) in
          let l1 = link_equations (inside k t) in
          let l2 = link_equations (hanging port (i + 1) j us) in
          let built = equated (name (name_of (port i))) t in
          let later = hung_equations port (i + 1) (list_of us) in
          let parted = both-append k (agents_in t) (agents_among us) (hung (port i) k t ∷ inside k t) (hanging port (i + 1) j us) es in
          leads-through laws _ _ _ (leads-itself laws _ _ (ap (λ (ls : List Pair). parts ts ls n) parted))
          (leads-through laws _ _ _ (leads-rearranged laws ts n _ _ (after_these a1 _ _ (exchange a2 (h ∷ l1) (l2 ++ es))))
          (leads-through laws _ _ _ (term-built k t (name (name_of (port i))) ts (a2 ++ (l2 ++ es)))
          (leads-through laws _ _ _ (leads-rearranged laws ts n _ _ (one_by_one _ _ _ (moved_after built a2 (l2 ++ es)) (after_these a2 _ _ (moved_after built l2 es))))
          (leads-through laws _ _ _ (terms-built port (i + 1) j us ts (built ∷ es))
          (leads-rearranged laws ts n _ _ (before built later es))))))

    -- ---- equations

    equation-built : (rs : List Rule) (k : ℕ) (p : Pair) (ts : List Tree) (es : List Pair)
        → Leads (parts ts (agent_equations name_of k (pair_agents p) ++ (link_equations (pair_links rs k p) ++ es)) n) (parts ts (p ∷ es) n)
    equation-built rs k p ts es =
        let j = k + length (agents_in p.left) in
        let a1 = agent_equations name_of k (agents_in p.left) in
        let a2 = agent_equations name_of j (agents_in p.right) in
        let l1 = link_equations (inside k p.left) in
        let l2 = link_equations (inside j p.right) in
        let left = end_tree (end_of k p.left) in
        let right = end_tree (end_of j p.right) in
        let q = equated left right in
        let parted = both-append k (agents_in p.left) (agents_in p.right) (inside k p.left) (equation_link rs k j p ∷ inside j p.right) es in
        let sorted : Rearranged (a1 ++ (a2 ++ (l1 ++ (q ∷ (l2 ++ es))))) (a2 ++ (q ∷ (l2 ++ (a1 ++ (l1 ++ es))))) =
        one_by_one _ _ _ (exchange a1 a2 (l1 ++ (q ∷ (l2 ++ es))))
        (after_these a2 _ _ (one_by_one _ _ _ (after_these a1 _ _ (exchange l1 (q ∷ l2) es)) (exchange a1 (q ∷ l2) (l1 ++ es)))) in
        leads-through laws _ _ _ (leads-itself laws _ _ (ap (λ (ls : List Pair). parts ts ls n) parted))
        (leads-through laws _ _ _ (leads-rearranged laws ts n _ _ sorted)
        (leads-through laws _ _ _ (term-built j p.right left ts (a1 ++ (l1 ++ es)))
        (leads-through laws _ _ _ (leads-rearranged laws ts n _ _ (one_by_one _ _ _ (turn left p.right (a1 ++ (l1 ++ es))) (moved_after (equated p.right left) a1 (l1 ++ es))))
        (leads-through laws _ _ _ (term-built k p.left p.right ts es)
        (leads-rearranged laws ts n _ _ (turn p.right p.left es))))))

    equations-built : (rs : List Rule) (k : ℕ) (ps : List Pair) (ts : List Tree) (es : List Pair)
        → Leads (parts ts (agent_equations name_of k (pairs_agents ps) ++ (link_equations (joined rs k ps) ++ es)) n) (parts ts (ps ++ es) n)
    equations-built rs k [] ts es = leads-itself laws _ _ refl
    equations-built rs k (p ∷ ps) ts es =
        let j = k + length (pair_agents p) in
        let a1 = agent_equations name_of k (pair_agents p) in
        let a2 = agent_equations name_of j (pairs_agents ps) in
        let l1 = link_equations (pair_links rs k p) in
        let l2 = link_equations (joined rs j ps) in
        let parted = both-append k (pair_agents p) (pairs_agents ps) (pair_links rs k p) (joined rs j ps) es in
        leads-through laws _ _ _ (leads-itself laws _ _ (ap (λ (ls : List Pair). parts ts ls n) parted))
        (leads-through laws _ _ _ (leads-rearranged laws ts n _ _ (after_these a1 _ _ (exchange a2 l1 (l2 ++ es))))
        (leads-through laws _ _ _ (equation-built rs k p ts (a2 ++ (l2 ++ es)))
        (leads-through laws _ _ _ (leads-rearranged laws ts n _ _ (one_by_one _ _ _ (moved_after p a2 (l2 ++ es)) (after_these a2 _ _ (moved_after p l2 es))))
        (leads-through laws _ _ _ (equations-built rs j ps ts (p ∷ es))
        (leads-rearranged laws ts n _ _ (before p ps es))))))

    -- ---- a configuration

    pub configuration-built : (rs : List Rule) (c : Configuration)
        → Leads (parts (names_at name_of Interface 1 (length c.interface)) (agent_equations name_of 0 (agents_of c) ++ link_equations (links_of rs c)) n)
        (parts c.interface c.equations n)
    configuration-built rs c =
        let us = trees_of c.interface in
        let k = length (agents_among us) in
        let a1 = agent_equations name_of 0 (agents_among us) in
        let a2 = agent_equations name_of k (pairs_agents c.equations) in
        let l1 = link_equations (hanging Interface 1 0 us) in
        let l2 = link_equations (joined rs k c.equations) in
        let places = names_at name_of Interface 1 (length c.interface) in
        let hangs = hung_equations Interface 1 c.interface in
        let front : 0 + k ≡ k = omega arith in
        let same = list_of-trees_of c.interface in
        let parted : agent_equations name_of 0 (agents_of c) ++ link_equations (links_of rs c) ≡ a1 ++ (a2 ++ (l1 ++ (l2 ++ []))) =
        sym (ap (λ ls. agent_equations name_of 0 (agents_of c) ++ ls) (append-nil (link_equations (links_of rs c))))
        ∙ both-append 0 (agents_among us) (pairs_agents c.equations) (hanging Interface 1 0 us) (joined rs k c.equations) []
        ∙ ap (λ m. a1 ++ (agent_equations name_of m (pairs_agents c.equations) ++ (l1 ++ (l2 ++ [])))) front in
        leads-through laws _ _ _ (leads-itself laws _ _ (ap (λ (ls : List Pair). parts places ls n) parted))
        (leads-through laws _ _ _ (leads-rearranged laws places n _ _ (after_these a1 _ _ (exchange a2 l1 (l2 ++ []))))
        (leads-through laws _ _ _ (terms-built Interface 1 0 us places (a2 ++ (l2 ++ [])))
        (leads-through laws _ _ _ (leads-itself laws _ _ (ap (λ (ts : List Tree). parts places (hung_equations Interface 1 ts ++ (a2 ++ (l2 ++ []))) n) same))
        (leads-through laws _ _ _ (leads-rearranged laws places n _ _ (one_by_one _ _ _ (exchange hangs a2 (l2 ++ [])) (after_these a2 _ _ (exchange hangs l2 []))))
        (leads-through laws _ _ _ (equations-built rs k c.equations places (hangs ++ []))
        (leads-through laws _ _ _ (leads-rearranged laws places n _ _ (exchange c.equations hangs []))
        (leads-through laws _ _ _ (places_put Interface 1 [] c.interface (c.equations ++ []))
        (leads-itself laws _ _ (ap (λ (ls : List Pair). parts c.interface ls n) (append-nil c.equations))))))))))
