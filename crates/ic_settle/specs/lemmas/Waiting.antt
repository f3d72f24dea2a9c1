-- Bindings that wait in a map until their names are met. The pass over the equations and the
-- rebuilding after it keep what is said here; what settling is doesn't rest on it.
use Rattle.std.specs.Prelude.{◌≡◌, ℕ, ◌+◌, ◌*◌, ◌≤◌, ◌==◌, List, [], ◌∷◌, ◌++◌, Option, None, Some, sum_by, map, nat_eq, is_some, if◌then◌else◌}
use Rattle.std.specs.List.{flat_map}
use Rattle.std.specs.Map.{lookup}
use Rattle.ic_term.specs.Tree.{Tree, name, agent, trees_of, Pair, names, nodes, pair_names}
use Rattle.ic_term.specs.Configuration.{occurrences}
use Rattle.ic_settle.specs.Settling.{Binding, subst}

-- ---- the entries of a map of bindings

-- the entries of a map as plain data, each value by the term that it stands for
abbrev pub kept_by : {V : Type 0} → (V → Tree) → List (ℕ × V) → List (ℕ × Tree)
kept_by view es = map (λ e. (e.0, view e.1)) es

-- the term that is kept for a name
abbrev pub look : List (ℕ × Tree) → ℕ → Option Tree
look es x = lookup (nat_eq x) es

-- how often a name occurs in the terms that are kept
abbrev pub held : List (ℕ × Tree) → ℕ → ℕ
held es y = sum_by (λ e. occurrences y (names e.1)) es

-- the nodes of the terms that are kept
abbrev pub nodes_kept : List (ℕ × Tree) → ℕ
nodes_kept es = sum_by (λ e. nodes e.1) es

-- a name was there with this term, and is no more
pub record IsTaken (es es' : List (ℕ × Tree)) (x : ℕ) (u : Tree) : Type 0 where
  pub there : look es x ≡ Some u
  pub gone : (q : ℕ) → look es' q ≡ (if x == q then None else look es q)
  pub held : (y : ℕ) → held es' y + occurrences y (names u) ≡ held es y
  pub nodes : nodes_kept es' + nodes u ≡ nodes_kept es

-- a name that wasn't there is there with this term
pub record IsAdded (es es' : List (ℕ × Tree)) (x : ℕ) (u : Tree) : Type 0 where
  pub there : (q : ℕ) → look es' q ≡ (if x == q then Some u else look es q)
  pub held : (y : ℕ) → held es' y ≡ held es y + occurrences y (names u)

-- ---- bindings put in

-- bindings put in a term, the oldest first; the list has the newest first
abbrev pub put_each : List Binding → Tree → Tree
put_each [] t = t
put_each (b ∷ bs) t = subst b.name b.term (put_each bs t)

abbrev pub put_each_pair : List Binding → Pair → Pair
put_each_pair bs p = record { left = put_each bs p.left; right = put_each bs p.right }

-- how often a name is bound
abbrev pub bound : ℕ → List Binding → ℕ
bound y bs = occurrences y (map (λ b. b.name) bs)

-- one where a name has an entry
abbrev pub here : Option Tree → ℕ
here found = if is_some found then 1 else 0

-- Bindings of which some wait in a map. Each that waits is as good as its name, and a bound name has
-- at most one occurrence left, in what is pending or in a term that waits, and none if it doesn't
-- wait itself.
pub record IsDelayed (bs : List Binding) (es : List (ℕ × Tree)) (pending : List ℕ) : Type 0 where
  pub same : (x : ℕ) (u : Tree) → look es x ≡ Some u → put_each bs (name x) ≡ put_each bs u
  pub once : (y : ℕ) → occurrences y pending + held es y + 2 * bound y bs ≤ 2 + here (look es y)
  pub keys : (y : ℕ) → here (look es y) ≤ bound y bs

-- an agent, or a name that isn't bound
abbrev pub IsTop : List Binding → Tree → Type 0
IsTop bs (name x) = bound x bs ≡ 0
IsTop bs (agent s ts) = Unit {0}

-- a term resolved at its top: bound names there gave way to their terms, and the map to what is
-- left
abbrev pub Resolves : List (ℕ × Tree) → List (ℕ × Tree) → Tree → Tree → Type 0
Resolves es es' t u = (bs : List Binding) (rest : List ℕ) → IsDelayed bs es (names t ++ rest)
    → (put_each bs u ≡ put_each bs t) × (IsTop bs u × IsDelayed bs es' (names u ++ rest))

-- all bindings put in a term
abbrev pub Rebuilds : List (ℕ × Tree) → List (ℕ × Tree) → Tree → Tree → Type 0
Rebuilds es es' t u = (bs : List Binding) (rest : List ℕ) → IsDelayed bs es (names t ++ rest)
    → (u ≡ put_each bs t) × IsDelayed bs es' rest

-- all bindings put in each term of a list
abbrev pub RebuildsTerms : List (ℕ × Tree) → List (ℕ × Tree) → List Tree → List Tree → Type 0
RebuildsTerms es es' ts us = (bs : List Binding) (rest : List ℕ)
    → IsDelayed bs es (flat_map names ts ++ rest)
    → (us ≡ map (put_each bs) ts) × IsDelayed bs es' rest

-- all bindings put in each equation of a list
abbrev pub RebuildsPairs : List (ℕ × Tree) → List (ℕ × Tree) → List Pair → List Pair → Type 0
RebuildsPairs es es' ps qs = (bs : List Binding) (rest : List ℕ)
    → IsDelayed bs es (flat_map pair_names ps ++ rest)
    → (qs ≡ map (put_each_pair bs) ps) × IsDelayed bs es' rest

-- all bindings put in the arguments of an agent
pub record RebuildsArguments (es es' : List (ℕ × Tree)) (t u : Tree) : Type 0 where
  pub sym : ℕ
  pub given : List Tree
  pub made : List Tree
  pub given_is : t ≡ agent sym (trees_of given)
  pub made_is : u ≡ agent sym (trees_of made)
  pub rebuilds : RebuildsTerms es es' given made
