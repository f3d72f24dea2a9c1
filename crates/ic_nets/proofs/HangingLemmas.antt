-- Terms that hang at ports and stand on a stack: what they join, and which agents they have.
use Rattle.std.proofs.Common.{◌≡◌, ℕ, ◌+◌, List, [], ◌∷◌, ◌++◌, reverse, map, drop, length, sum_by, refl, sym, ap, ◌∙◌, append_assoc, append-nil, length-append, arith}
use Rattle.std.specs.Borrow.{Bor}
use Rattle.std.proofs.lemmas.List.{reverse-append, map-append}
use Rattle.std.proofs.lemmas.List.Sums.{sum_by-cons}
use Rattle.ic_term.specs.declared.term.Term.{Term}
use Rattle.ic_term.specs.Tree.{Tree, agent, trees_of, nodes, nodes_of}
use Rattle.ic_term.specs.Term.{tree}
use Rattle.ic_term.specs.lemmas.TreeLaws.{list_of-trees_of}
use Rattle.ic_nets.specs.Nets.{agents_among, agents_in, hanging, inside, hung}
use Rattle.ic_nets.specs.inner.Hanging.{agents_hung, coming, hung_at, links_hung}
use Rattle.ic_nets.specs.declared.net.Agent.{Agent}
use Rattle.ic_nets.specs.declared.port.Port.{Port}
use Rattle.ic_nets.specs.declared.port.Port.TheVariants.{Interface, Auxiliary}

-- what is put on a stack is on top, and what is taken was
pub coming-append : (hs : List (Port × Bor Term)) (h : Port × Bor Term) → coming (hs ++ h ∷ []) ≡ (h.0, tree h.1.now) ∷ coming hs
coming-append hs h =
    ap reverse (map-append (λ (x : Port × Bor Term). (x.0, tree x.1.now)) hs (h ∷ [])) ∙ reverse-append (map (λ (x : Port × Bor Term). (x.0, tree x.1.now)) hs) ((h.0, tree h.1.now) ∷ [])

-- ---- terms that are put on a stack

module _ (port : ℕ → Port) where
  pub links_hung-append : (i k : ℕ) (ts : List Tree) (rest : List (Port × Tree))
      → links_hung k (hung_at port i ts ++ rest) ≡ hanging port i k (trees_of ts) ++ links_hung (k + length (agents_among (trees_of ts))) rest
  links_hung-append i k [] rest = let none : k ≡ k + 0 = omega arith in ap (λ j. links_hung j rest) none
  links_hung-append i k (t ∷ ts) rest =
      let j = k + length (agents_in t) in
      let more = length (agents_among (trees_of ts)) in
      let count : j + more ≡ k + length (agents_in t ++ agents_among (trees_of ts)) = omega (arith, length-append (agents_in t) (agents_among (trees_of ts))) in
      ap (λ l. hung (port i) k t ∷ (inside k t ++ l)) (links_hung-append (i + 1) j ts rest ∙ ap (λ n. hanging port (i + 1) j (trees_of ts) ++ links_hung n rest) count)
      ∙ ap (λ l. hung (port i) k t ∷ l) (sym (append_assoc (inside k t) (hanging port (i + 1) j (trees_of ts)) (links_hung (k + length (agents_in t ++ agents_among (trees_of ts))) rest)))

  pub agents_hung-append : (i : ℕ) (ts : List Tree) (rest : List (Port × Tree)) → agents_hung (hung_at port i ts ++ rest) ≡ agents_among (trees_of ts) ++ agents_hung rest
  agents_hung-append i [] rest = refl
  agents_hung-append i (t ∷ ts) rest =
      ap (λ l. agents_in t ++ l) (agents_hung-append (i + 1) ts rest) ∙ sym (append_assoc (agents_in t) (agents_among (trees_of ts)) (agents_hung rest))

  pub nodes_hung-append : (i : ℕ) (ts : List Tree) (rest : List (Port × Tree))
      → sum_by (λ (h : Port × Tree). nodes h.1) (hung_at port i ts ++ rest) ≡ nodes_of (trees_of ts) + sum_by (λ (h : Port × Tree). nodes h.1) rest
  nodes_hung-append i [] rest = omega arith
  nodes_hung-append i (t ∷ ts) rest =
      omega (arith, sum_by-cons (λ (h : Port × Tree). nodes h.1) (port i, t) (hung_at port (i + 1) ts ++ rest), nodes_hung-append (i + 1) ts rest)

-- what hangs at an interface
pub interface-agents : (ts : List Tree) (stack : List (Port × Tree)) → stack ≡ hung_at Interface 1 ts ++ [] → agents_hung stack ≡ agents_among (trees_of ts)
interface-agents ts stack is = ap agents_hung is ∙ agents_hung-append Interface 1 ts [] ∙ append-nil (agents_among (trees_of ts))

pub interface-links : (ts : List Tree) (stack : List (Port × Tree)) → stack ≡ hung_at Interface 1 ts ++ [] → links_hung 0 stack ≡ hanging Interface 1 0 (trees_of ts)
interface-links ts stack is = ap (links_hung 0) is ∙ links_hung-append Interface 1 0 ts [] ∙ append-nil (hanging Interface 1 0 (trees_of ts))

-- a term more is put on a stack
pub stacked : (port : ℕ → Port) (i j : ℕ) (terms : List Term) (x : Term) (h : Port × Bor Term) (old new : List (Port × Bor Term)) (beyond : List (Port × Tree)) → i ≡ j + 1
    → drop j terms ≡ x ∷ drop (j + 1) terms → coming old ≡ hung_at port (i + 1) (map tree (drop i terms)) ++ beyond → new ≡ old ++ h ∷ [] → h.0 ≡ port (j + 1) → h.1.now ≡ x
    → coming new ≡ hung_at port (j + 1) (map tree (drop j terms)) ++ beyond
stacked port i j terms x h old new beyond next here all one at same =
    ap coming one ∙ coming-append old h ∙ (λ k. (at k, tree (same k)) ∷ all k)
    ∙ ap (λ n. (port (j + 1), tree x) ∷ (hung_at port (n + 1) (map tree (drop n terms)) ++ beyond)) next
    ∙ ap (λ (l : List Term). hung_at port (j + 1) (map tree l) ++ beyond) (sym here)

-- ---- an agent that is opened

module _ (s n : ℕ) (args : List Tree) (t : Tree) (old new : List Agent) (beyond after : List (Port × Tree)) (is : t ≡ agent s (trees_of args)) (count : n ≡ length args)
    (one : new ≡ old ++ record { sym = s; arity = n } ∷ []) (all : after ≡ hung_at (Auxiliary (length old)) 1 args ++ beyond) where
  own : agents_in t ≡ record { sym = s; arity = n } ∷ agents_among (trees_of args)
  own = ap agents_in is ∙ ap (λ m. record { sym = s; arity = m } ∷ agents_among (trees_of args)) (ap length (list_of-trees_of args) ∙ sym count)

  pub agent-agents : new ++ agents_hung after ≡ old ++ (agents_in t ++ agents_hung beyond)
  agent-agents =
      (λ i. one i ++ agents_hung (all i))
      ∙ append_assoc old (record { sym = s; arity = n } ∷ []) (agents_hung (hung_at (Auxiliary (length old)) 1 args ++ beyond))
      ∙ ap (λ l. old ++ record { sym = s; arity = n } ∷ l) (agents_hung-append (Auxiliary (length old)) 1 args beyond)
      ∙ ap (λ l. old ++ (l ++ agents_hung beyond)) (sym own)

  pub agent-links : links_hung (length new) after ≡ inside (length old) t ++ links_hung (length old + length (agents_in t)) beyond
  agent-links =
      let k = length old in
      let more : length new ≡ k + 1 = ap length one ∙ length-append old (record { sym = s; arity = n } ∷ []) in
      let whole : k + 1 + length (agents_among (trees_of args)) ≡ k + length (agents_in t) = omega (arith, ap length own) in
      (λ i. links_hung (more i) (all i))
      ∙ links_hung-append (Auxiliary k) 1 (k + 1) args beyond
      ∙ (λ i. inside k (sym is i) ++ links_hung (whole i) beyond)

  pub agent-fewer : sum_by (λ (h : Port × Tree). nodes h.1) after + 1 ≡ nodes t + sum_by (λ (h : Port × Tree). nodes h.1) beyond
  agent-fewer = omega (arith, ap (sum_by (λ (h : Port × Tree). nodes h.1)) all, nodes_hung-append (Auxiliary (length old)) 1 args beyond, ap nodes is)
