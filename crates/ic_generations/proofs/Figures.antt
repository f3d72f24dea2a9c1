-- Lemmas: figures that add up over agents: nodes and names of a configuration, and how firing and settling change what agents amount to.
use Rattle.std.proofs.Common.{◌≡◌, ◌⊎◌, ℕ, ◌+◌, ◌*◌, ◌≤◌, ◌==◌, List, [], ◌∷◌, ◌++◌, Bool, true, false, cond, Option, None, Some, slice_get, length, map, sum_by, refl, sym, ap, ◌∙◌, arith, inl, inr, length-append}
use Rattle.std.proofs.lemmas.Bool.{and_parts}
use Rattle.std.proofs.lemmas.Grind.{flat_map-append}
use Rattle.std.proofs.lemmas.List.Sums.{sum_by-append, sum_by-cons}
use Rattle.std.specs.Cmp.{unsigned_Decides}
use Rattle.std.specs.List.{flat_map, list_all}
use Rattle.std.specs.Option.{option_map_or}
use Rattle.ic_term.specs.Tree.{Tree, name, agent, Trees, no_trees, more_trees, list_of, nodes, nodes_of, names, names_of, Pair, pair_nodes, pair_names}
use Rattle.ic_term.specs.Configuration.{Configuration, configuration_nodes, configuration_names, names_in, occurrences}
use Rattle.ic_term.specs.Symbol.{Symbol, has_arity, is_tree_over, are_trees_over, is_pair_over, is_over}
use Rattle.ic_rules.specs.Renaming.{renamed, renamed_trees}
use Rattle.ic_rules.specs.Rule.{Rule}
use Rattle.ic_rules.specs.RuleSet.{Rules, IsRuleSet}
use Rattle.ic_settle.specs.Settling.{subst, subst_all, subst_pair, subst_in, settled}
use Rattle.ic_settle.specs.NameSteps.{NameStep, NameSteps, no_step, one_more}
use Rattle.ic_settle.specs.lemmas.Reached.{settled_steps}
use Rattle.ic_settle.specs.lemmas.SubstitutionLaws.{occurrences-append, occurrences-cons, occurrences_some}
use Rattle.ic_round.specs.Firing.{Active, active_pair, arguments, against, products_by, names_taken, fired_pair, fired_from, fired}
use Rattle.ic_round.specs.Instance.{inst}
use Rattle.ic_round.specs.Naming.{HasNames}
use Rattle.ic_round.specs.Works.{is_agent_of}
use Rattle.ic_round.specs.lemmas.FiredNames.{SidesOf}
use Rattle.ic_round.specs.lemmas.NamesLemmas.{name_step-names}
use Rattle.ic_confluence.specs.Agents.{symbols, symbols_of, pair_symbols, configuration_symbols}
use Rattle.ic_confluence.specs.lemmas.Actives.{HasRule, has_rule, products_are, agent_length, lengths_renamed}
use Rattle.ic_confluence.specs.lemmas.Counts.{in_configuration, in_pair, in_more}
use Rattle.ic_confluence.specs.lemmas.Replacing.{in_both}
use Rattle.ic_generations.specs.Figures.{arity_of, amount, amount_made, amount_spent}
use Rattle.ic_generations.specs.Firings.{rule_of, rules_of}
use Rattle.ic_generations.proofs.Fired.{count_in}
use Rattle.ic_generations.proofs.ByRule.{ruled, unruled}

-- ---- nodes

abbrev sum_terms : (ℕ → ℕ) → List Tree → ℕ
sum_terms f ts = sum_by f (flat_map symbols ts)

abbrev sum_pairs : (ℕ → ℕ) → List Pair → ℕ
sum_pairs f es = sum_by f (flat_map pair_symbols es)

more_terms : (f : ℕ → ℕ) (t : Tree) (ts : List Tree) → sum_terms f (t ∷ ts) ≡ sum_by f (symbols t) + sum_terms f ts
more_terms f t ts = sum_by-append f (symbols t) (flat_map symbols ts)

more_pairs : (f : ℕ → ℕ) (p : Pair) (es : List Pair) → sum_pairs f (p ∷ es) ≡ sum_by f (symbols p.left) + sum_by f (symbols p.right) + sum_pairs f es
more_pairs f p es =
    let all = sum_by-append f (pair_symbols p) (flat_map pair_symbols es) in
    let both = sum_by-append f (symbols p.left) (symbols p.right) in
    omega (arith, all, both)

amount_is : (f : ℕ → ℕ) (c : Configuration) → amount f c ≡ sum_terms f c.interface + sum_pairs f c.equations
amount_is f c = sum_by-append f (flat_map symbols c.interface) (flat_map pair_symbols c.equations)

known : (ss : List Symbol) (s k : ℕ) (found : Option Symbol) → slice_get ss s ≡ found → has_arity k found ≡ true → arity_of ss s ≡ k
known ss s k None is fits = cc
known ss s k (Some z) is fits = ap (λ o. option_map_or (λ (y : Symbol). y.arity) o 0) is ∙ (unsigned_Decides z.arity k).0 fits

mutual
  tree_nodes : (ss : List Symbol) (t : Tree) → is_tree_over ss t ≡ true → nodes t ≡ 1 + sum_by (arity_of ss) (symbols t)
  tree_nodes ss (name n) over = let nothing : sum_by (arity_of ss) [] ≡ 0 = refl in omega (arith, nothing)
  tree_nodes ss (agent s ts) over =
      let both = and_parts (has_arity (length (list_of ts)) (slice_get ss s)) (are_trees_over ss ts) over in
      let here = known ss s (length (list_of ts)) (slice_get ss s) refl both.0 in
      let rest = trees_nodes ss ts both.1 in
      let first = sum_by-cons (arity_of ss) s (symbols_of ts) in
      omega (arith, here, rest, first)

  trees_nodes : (ss : List Symbol) (ts : Trees) → are_trees_over ss ts ≡ true → nodes_of ts ≡ length (list_of ts) + sum_by (arity_of ss) (symbols_of ts)
  trees_nodes ss no_trees over = let nothing : sum_by (arity_of ss) [] ≡ 0 = refl in omega (arith, nothing)
  trees_nodes ss (more_trees t ts) over =
      let both = and_parts (is_tree_over ss t) (are_trees_over ss ts) over in
      let here = tree_nodes ss t both.0 in
      let rest = trees_nodes ss ts both.1 in
      let all = sum_by-append (arity_of ss) (symbols t) (symbols_of ts) in
      omega (arith, here, rest, all)

terms_nodes : (ss : List Symbol) (ts : List Tree) → list_all (is_tree_over ss) ts ≡ true → sum_by nodes ts ≡ length ts + sum_terms (arity_of ss) ts
terms_nodes ss [] over = refl
terms_nodes ss (t ∷ ts) over =
    let both = and_parts (is_tree_over ss t) (list_all (is_tree_over ss) ts) over in
    let here = tree_nodes ss t both.0 in
    let rest = terms_nodes ss ts both.1 in
    let first = sum_by-cons nodes t ts in
    let all = more_terms (arity_of ss) t ts in
    omega (arith, here, rest, first, all)

pairs_nodes : (ss : List Symbol) (es : List Pair) → list_all (is_pair_over ss) es ≡ true → sum_by pair_nodes es ≡ 2 * length es + sum_pairs (arity_of ss) es
pairs_nodes ss [] over = refl
pairs_nodes ss (p ∷ es) over =
    let both = and_parts (is_pair_over ss p) (list_all (is_pair_over ss) es) over in
    let sides = and_parts (is_tree_over ss p.left) (is_tree_over ss p.right) both.0 in
    let left = tree_nodes ss p.left sides.0 in
    let right = tree_nodes ss p.right sides.1 in
    let rest = pairs_nodes ss es both.1 in
    let first = sum_by-cons pair_nodes p es in
    let all = more_pairs (arity_of ss) p es in
    omega (arith, left, right, rest, first, all)

pub nodes_are : (ss : List Symbol) (c : Configuration) → is_over ss c ≡ true → configuration_nodes c ≡ length c.interface + 2 * length c.equations + amount (arity_of ss) c
nodes_are ss c over =
    let both = and_parts (list_all (is_tree_over ss) c.interface) (list_all (is_pair_over ss) c.equations) over in
    let terms = terms_nodes ss c.interface both.0 in
    let pairs = pairs_nodes ss c.equations both.1 in
    let all = amount_is (arity_of ss) c in
    omega (arith, terms, pairs, all)

-- ---- names

mutual
  tree_names : (t : Tree) → length (names t) + length (symbols t) ≡ nodes t
  tree_names (name n) = omega arith
  tree_names (agent s ts) = let rest = trees_names ts in omega (arith, rest)

  trees_names : (ts : Trees) → length (names_of ts) + length (symbols_of ts) ≡ nodes_of ts
  trees_names no_trees = refl
  trees_names (more_trees t ts) =
      let here = tree_names t in
      let rest = trees_names ts in
      let all = length-append (names t) (names_of ts) in
      let own = length-append (symbols t) (symbols_of ts) in
      omega (arith, here, rest, all, own)

terms_names : (ts : List Tree) → length (flat_map names ts) + length (flat_map symbols ts) ≡ sum_by nodes ts
terms_names [] = refl
terms_names (t ∷ ts) =
    let here = tree_names t in
    let rest = terms_names ts in
    let all = length-append (names t) (flat_map names ts) in
    let own = length-append (symbols t) (flat_map symbols ts) in
    let first = sum_by-cons nodes t ts in
    omega (arith, here, rest, all, own, first)

pairs_names : (es : List Pair) → length (flat_map pair_names es) + length (flat_map pair_symbols es) ≡ sum_by pair_nodes es
pairs_names [] = refl
pairs_names (p ∷ es) =
    let left = tree_names p.left in
    let right = tree_names p.right in
    let rest = pairs_names es in
    let all = length-append (pair_names p) (flat_map pair_names es) in
    let own = length-append (pair_symbols p) (flat_map pair_symbols es) in
    let names_both = length-append (names p.left) (names p.right) in
    let symbols_both = length-append (symbols p.left) (symbols p.right) in
    let first = sum_by-cons pair_nodes p es in
    omega (arith, left, right, rest, all, own, names_both, symbols_both, first)

pub names_are : (c : Configuration) → length (configuration_names c) + length (configuration_symbols c) ≡ configuration_nodes c
names_are c =
    let terms = terms_names c.interface in
    let pairs = pairs_names c.equations in
    let all = length-append (flat_map names c.interface) (flat_map pair_names c.equations) in
    let own = length-append (flat_map symbols c.interface) (flat_map pair_symbols c.equations) in
    omega (arith, terms, pairs, all, own)

-- ---- what firing changes

in_against : (f : ℕ → ℕ) (ts us : List Tree) → length ts ≡ length us → sum_pairs f (against ts us) ≡ sum_terms f ts + sum_terms f us
in_against f [] [] same = refl
in_against f (t ∷ ts) (u ∷ us) same =
    let rest = in_against f ts us (omega (arith, same)) in
    let all = more_pairs f (record { left = t; right = u }) (against ts us) in
    let one = more_terms f t ts in
    let other = more_terms f u us in
    omega (arith, rest, all, one, other)
in_against f _ _ same = absurd (omega (arith, same))

mutual
  renamed_symbols : (f : ℕ → ℕ) (t : Tree) → symbols (renamed f t) ≡ symbols t
  renamed_symbols f (name n) = refl
  renamed_symbols f (agent s ts) = ap (λ l. s ∷ l) (renamed_symbols_of f ts)

  renamed_symbols_of : (f : ℕ → ℕ) (ts : Trees) → symbols_of (renamed_trees f ts) ≡ symbols_of ts
  renamed_symbols_of f no_trees = refl
  renamed_symbols_of f (more_trees t ts) = λ i. renamed_symbols f t i ++ renamed_symbols_of f ts i

renamed_terms : (f : ℕ → ℕ) (ts : List Tree) → flat_map symbols (map (renamed f) ts) ≡ flat_map symbols ts
renamed_terms f [] = refl
renamed_terms f (t ∷ ts) = λ i. renamed_symbols f t i ++ renamed_terms f ts i

argument_symbols : (ts : Trees) → flat_map symbols (list_of ts) ≡ symbols_of ts
argument_symbols no_trees = refl
argument_symbols (more_trees t ts) = ap (λ l. symbols t ++ l) (argument_symbols ts)

agent_sum : (f : ℕ → ℕ) (s k : ℕ) (t : Tree) → is_agent_of s k t ≡ true → sum_by f (symbols t) ≡ f s + sum_terms f (arguments t)
agent_sum f s k (name m) is = cc
agent_sum f s k (agent z ts) is =
    let same : z ≡ s = (unsigned_Decides z s).0 (and_parts (z == s) (length (list_of ts) == k) is).0 in
    let first = sum_by-cons f z (symbols_of ts) in
    let own = ap (sum_by f) (argument_symbols ts) in
    let equal = ap f same in
    omega (arith, first, own, equal)

sides_sum : (f : ℕ → ℕ) (p : Pair) (a : Active) → SidesOf p a → sum_by f (symbols a.left) + sum_by f (symbols a.right) ≡ sum_by f (symbols p.left) + sum_by f (symbols p.right)
sides_sum f p a (inl (l, r)) = let one = ap (λ t. sum_by f (symbols t)) l in let other = ap (λ t. sum_by f (symbols t)) r in omega (arith, one, other)
sides_sum f p a (inr (l, r)) = let one = ap (λ t. sum_by f (symbols t)) l in let other = ap (λ t. sum_by f (symbols t)) r in omega (arith, one, other)

products_sum : (f : ℕ → ℕ) (rs : List Rule) (p : Pair) (a : Active) (h : HasRule rs p a) (base : ℕ)
    → sum_pairs f (products_by rs base a) + amount_spent f rs a.rule ≡ sum_by f (symbols p.left) + sum_by f (symbols p.right) + amount_made f rs a.rule
products_sum f rs p a h base =
    let r = h.rule in
    let copy = inst r base in
    let is = ap (sum_pairs f) (products_are rs p a h base) in
    let apart = ap (sum_by f) (flat_map-append pair_symbols (against (arguments a.left) copy.left_args) (against (arguments a.right) copy.right_args)) in
    let both = sum_by-append f (flat_map pair_symbols (against (arguments a.left) copy.left_args)) (flat_map pair_symbols (against (arguments a.right) copy.right_args)) in
    let left = in_against f (arguments a.left) copy.left_args (agent_length r.left (length r.left_args) a.left h.left ∙ sym (lengths_renamed (λ k. base + k) r.left_args)) in
    let right = in_against f (arguments a.right) copy.right_args (agent_length r.right (length r.right_args) a.right h.right ∙ sym (lengths_renamed (λ k. base + k) r.right_args)) in
    let left_copy = ap (sum_by f) (renamed_terms (λ k. base + k) r.left_args) in
    let right_copy = ap (sum_by f) (renamed_terms (λ k. base + k) r.right_args) in
    let left_agent = agent_sum f r.left (length r.left_args) a.left h.left in
    let right_agent = agent_sum f r.right (length r.right_args) a.right h.right in
    let sides = sides_sum f p a h.sides in
    let made : amount_made f rs a.rule ≡ sum_by f (flat_map symbols (r.left_args ++ r.right_args)) =
    ap (λ o. option_map_or (λ (z : Rule). sum_by f (flat_map symbols (z.left_args ++ z.right_args))) o 0) h.there in
    let split = ap (sum_by f) (flat_map-append symbols r.left_args r.right_args) in
    let parts = sum_by-append f (flat_map symbols r.left_args) (flat_map symbols r.right_args) in
    let spent : amount_spent f rs a.rule ≡ f r.left + f r.right = ap (λ o. option_map_or (λ (z : Rule). f z.left + f z.right) o 0) h.there in
    omega (arith, is, apart, both, left, right, left_copy, right_copy, left_agent, right_agent, sides, made, split, parts, spent)

found_sum : (f : ℕ → ℕ) (rs : Rules) (base : ℕ) (p : Pair) (found : Option Active) → IsRuleSet rs → is_pair_over rs.symbols p ≡ true → active_pair rs.rules p ≡ found
    → sum_pairs f (option_map_or (products_by rs.rules base) found (p ∷ [])) + sum_by (amount_spent f rs.rules) (rules_of rs.rules (p ∷ []))
    ≡ sum_by f (symbols p.left) + sum_by f (symbols p.right) + sum_by (amount_made f rs.rules) (rules_of rs.rules (p ∷ []))
found_sum f rs base p None set over is =
    let alone = more_pairs f p [] in
    let nothing : sum_pairs f [] ≡ 0 = refl in
    let spent = ap (λ l. sum_by (amount_spent f rs.rules) (l ++ [])) (unruled rs.rules p is) in
    let made = ap (λ l. sum_by (amount_made f rs.rules) (l ++ [])) (unruled rs.rules p is) in
    let no_spent : sum_by (amount_spent f rs.rules) [] ≡ 0 = refl in
    let no_made : sum_by (amount_made f rs.rules) [] ≡ 0 = refl in
    omega (arith, alone, nothing, spent, made, no_spent, no_made)
found_sum f rs base p (Some a) set over is =
    let products = products_sum f rs.rules p a (has_rule rs p a set over is) base in
    let spent = ap (λ l. sum_by (amount_spent f rs.rules) (l ++ [])) (ruled rs.rules p a is) in
    let made = ap (λ l. sum_by (amount_made f rs.rules) (l ++ [])) (ruled rs.rules p a is) in
    let one_spent = sum_by-cons (amount_spent f rs.rules) a.rule [] in
    let one_made = sum_by-cons (amount_made f rs.rules) a.rule [] in
    let no_spent : sum_by (amount_spent f rs.rules) [] ≡ 0 = refl in
    let no_made : sum_by (amount_made f rs.rules) [] ≡ 0 = refl in
    omega (arith, products, spent, made, one_spent, one_made, no_spent, no_made)

more_rules : (g : ℕ → ℕ) (rs : List Rule) (p : Pair) (ps : List Pair) → sum_by g (rules_of rs (p ∷ ps)) ≡ sum_by g (rules_of rs (p ∷ [])) + sum_by g (rules_of rs ps)
more_rules g rs p ps = ap (sum_by g) (flat_map-append (rule_of rs) (p ∷ []) ps) ∙ sum_by-append g (rules_of rs (p ∷ [])) (rules_of rs ps)

pairs_fired : (f : ℕ → ℕ) (rs : Rules) (base : ℕ) (ps : List Pair) → IsRuleSet rs → list_all (is_pair_over rs.symbols) ps ≡ true
    → sum_pairs f (fired_from rs.rules base ps) + sum_by (amount_spent f rs.rules) (rules_of rs.rules ps) ≡ sum_pairs f ps + sum_by (amount_made f rs.rules) (rules_of rs.rules ps)
pairs_fired f rs base [] set over = refl
pairs_fired f rs base (p ∷ ps) set over =
    let both = and_parts (is_pair_over rs.symbols p) (list_all (is_pair_over rs.symbols) ps) over in
    let later = base + names_taken rs.rules p in
    let here = found_sum f rs base p (active_pair rs.rules p) set both.0 refl in
    let rest = pairs_fired f rs later ps set both.1 in
    let split = ap (sum_by f) (flat_map-append pair_symbols (fired_pair rs.rules base p) (fired_from rs.rules later ps)) in
    let parts = sum_by-append f (flat_map pair_symbols (fired_pair rs.rules base p)) (flat_map pair_symbols (fired_from rs.rules later ps)) in
    let all = more_pairs f p ps in
    let spent = more_rules (amount_spent f rs.rules) rs.rules p ps in
    let made = more_rules (amount_made f rs.rules) rs.rules p ps in
    omega (arith, here, rest, split, parts, all, spent, made)

pub amount_fired : (f : ℕ → ℕ) (rs : Rules) (c : Configuration) → IsRuleSet rs → is_over rs.symbols c ≡ true
    → amount f (fired rs.rules c) + sum_by (amount_spent f rs.rules) (rules_of rs.rules c.equations) ≡ amount f c + sum_by (amount_made f rs.rules) (rules_of rs.rules c.equations)
amount_fired f rs c set over =
    let pairs = pairs_fired f rs c.next c.equations set (and_parts (list_all (is_tree_over rs.symbols) c.interface) (list_all (is_pair_over rs.symbols) c.equations) over).1 in
    let before = amount_is f c in
    let after = amount_is f (fired rs.rules c) in
    omega (arith, pairs, before, after)

-- ---- what name steps change: nothing

put_name : (f : ℕ → ℕ) (x n : ℕ) (u : Tree) (b : Bool) → (n == x) ≡ b → sum_by f (symbols (cond b u (name n))) ≡ 0 + (0 + cond b 1 0) * sum_by f (symbols u)
put_name f x n u true is = omega arith
put_name f x n u false is = let nothing : sum_by f [] ≡ 0 = refl in omega (arith, nothing)

put_more : (p m o k q r s t u a b : ℕ) → p ≡ m + o * k → q ≡ r + s * k → t ≡ p + q → a ≡ m + r → b ≡ o + s → u ≡ a + b * k → t ≡ u
put_more p m o k q r s t u a b e f g h i j = rw (g, j, h, i, e, f) (omega arith)

mutual
  put_sum : (f : ℕ → ℕ) (x : ℕ) (u t : Tree) → sum_by f (symbols (subst x u t)) ≡ sum_by f (symbols t) + occurrences x (names t) * sum_by f (symbols u)
  put_sum f x u (name n) = put_name f x n u (n == x) refl
  put_sum f x u (agent s ts) =
      let rest = put_sums f x u ts in
      let first = sum_by-cons f s (symbols_of (subst_all x u ts)) in
      let own = sum_by-cons f s (symbols_of ts) in
      omega (arith, rest, first, own)

  put_sums : (f : ℕ → ℕ) (x : ℕ) (u : Tree) (ts : Trees) → sum_by f (symbols_of (subst_all x u ts)) ≡ sum_by f (symbols_of ts) + occurrences x (names_of ts) * sum_by f (symbols u)
  put_sums f x u no_trees = let nothing : sum_by f [] ≡ 0 = refl in omega (arith, nothing)
  put_sums f x u (more_trees t ts) =
      put_more _ (sum_by f (symbols t)) (occurrences x (names t)) (sum_by f (symbols u)) _ (sum_by f (symbols_of ts)) (occurrences x (names_of ts)) _ _
      (sum_by f (symbols t ++ symbols_of ts)) (occurrences x (names t ++ names_of ts))
      (put_sum f x u t) (put_sums f x u ts) (sum_by-append f (symbols (subst x u t)) (symbols_of (subst_all x u ts)))
      (sum_by-append f (symbols t) (symbols_of ts)) (occurrences-append x (names t) (names_of ts)) refl

put_terms : (f : ℕ → ℕ) (x : ℕ) (u : Tree) (ts : List Tree) → sum_terms f (map (subst x u) ts) ≡ sum_terms f ts + occurrences x (flat_map names ts) * sum_by f (symbols u)
put_terms f x u [] = let nothing : sum_by f [] ≡ 0 = refl in omega (arith, nothing)
put_terms f x u (t ∷ ts) =
    put_more _ (sum_by f (symbols t)) (occurrences x (names t)) (sum_by f (symbols u)) _ (sum_terms f ts) (occurrences x (flat_map names ts)) _ _
    (sum_terms f (t ∷ ts)) (occurrences x (names t ++ flat_map names ts))
    (put_sum f x u t) (put_terms f x u ts) (more_terms f (subst x u t) (map (subst x u) ts))
    (more_terms f t ts) (occurrences-append x (names t) (flat_map names ts)) refl

put_pairs : (f : ℕ → ℕ) (x : ℕ) (u : Tree) (es : List Pair) → sum_pairs f (map (subst_pair x u) es) ≡ sum_pairs f es + count_in x es * sum_by f (symbols u)
put_pairs f x u [] = let nothing : sum_by f [] ≡ 0 = refl in omega (arith, nothing)
put_pairs f x u (p ∷ es) =
    put_more (sum_by f (symbols (subst x u p.left)) + sum_by f (symbols (subst x u p.right))) (sum_by f (symbols p.left) + sum_by f (symbols p.right)) (occurrences x (pair_names p)) (sum_by f (symbols u)) _ (sum_pairs f es) (count_in x es) _ _
    (sum_pairs f (p ∷ es)) (count_in x (p ∷ es))
    (put_more _ (sum_by f (symbols p.left)) (occurrences x (names p.left)) (sum_by f (symbols u)) _ (sum_by f (symbols p.right)) (occurrences x (names p.right)) _ _
    (sum_by f (symbols p.left) + sum_by f (symbols p.right)) (occurrences x (pair_names p)) (put_sum f x u p.left) (put_sum f x u p.right) refl refl (in_pair x p) refl)
    (put_pairs f x u es) (more_pairs f (subst_pair x u p) (map (subst_pair x u) es))
    (more_pairs f p es) (in_more x p es) refl

once_each : (t e k a b : ℕ) → t + e ≡ 1 → a ≡ t * k → b ≡ e * k → a + b ≡ k
once_each t e k a b one first second = by t e one first second
  where
    by : (t e : ℕ) → t + e ≡ 1 → a ≡ t * k → b ≡ e * k → a + b ≡ k
    by t e one first second = rw (first, second) (sym (shared t e) ∙ (ap (λ n. n * k) one ∙ (omega arith)))
      where
        shared : (t e : ℕ) → (t + e) * k ≡ t * k + e * k
        shared t e = omega arith

-- the equation that is removed has the term and the name
binding_sum : (f : ℕ → ℕ) (c d : Configuration) (s : NameStep c d) → sum_by f (symbols s.equation.left) + sum_by f (symbols s.equation.right) ≡ sum_by f (symbols s.bound.term)
binding_sum f c d s = by s.side
  where
    by : (s.equation ≡ record { left = name s.bound.name; right = s.bound.term }) ⊎ (s.equation ≡ record { left = s.bound.term; right = name s.bound.name })
        → sum_by f (symbols s.equation.left) + sum_by f (symbols s.equation.right) ≡ sum_by f (symbols s.bound.term)
    by (inl is) =
        let left = ap (λ (p : Pair). sum_by f (symbols p.left)) is in
        let right = ap (λ (p : Pair). sum_by f (symbols p.right)) is in
        let nothing : sum_by f [] ≡ 0 = refl in
        omega (arith, left, right, nothing)
    by (inr is) =
        let left = ap (λ (p : Pair). sum_by f (symbols p.left)) is in
        let right = ap (λ (p : Pair). sum_by f (symbols p.right)) is in
        let nothing : sum_by f [] ≡ 0 = refl in
        omega (arith, left, right, nothing)

bound_once : (c d : Configuration) (s : NameStep c d) → 1 ≤ occurrences s.bound.name (pair_names s.equation)
bound_once c d s = by s.side
  where
    by : (s.equation ≡ record { left = name s.bound.name; right = s.bound.term }) ⊎ (s.equation ≡ record { left = s.bound.term; right = name s.bound.name })
        → 1 ≤ occurrences s.bound.name (pair_names s.equation)
    by (inl is) =
        let x = s.bound.name in
        let pair = in_pair x s.equation in
        let left = ap (λ (p : Pair). occurrences x (names p.left)) is in
        let own = occurrences-cons x x [] in
        let here : ◌≡◌ {A = ℕ} (cond (x == x) 1 0) 1 = rw ((unsigned_Decides x x).1 refl) refl in
        omega (arith, pair, left, own, here)
    by (inr is) =
        let x = s.bound.name in
        let pair = in_pair x s.equation in
        let right = ap (λ (p : Pair). occurrences x (names p.right)) is in
        let own = occurrences-cons x x [] in
        let here : ◌≡◌ {A = ℕ} (cond (x == x) 1 0) 1 = rw ((unsigned_Decides x x).1 refl) refl in
        omega (arith, pair, right, own, here)

others_sum : (f : ℕ → ℕ) (before : List Pair) (p : Pair) (after : List Pair)
    → sum_pairs f (before ++ p ∷ after) ≡ sum_pairs f (before ++ after) + (sum_by f (symbols p.left) + sum_by f (symbols p.right))
others_sum f before p after =
    let all = ap (sum_by f) (flat_map-append pair_symbols before (p ∷ after)) ∙ sum_by-append f (flat_map pair_symbols before) (flat_map pair_symbols (p ∷ after)) in
    let more = more_pairs f p after in
    let others = ap (sum_by f) (flat_map-append pair_symbols before after) ∙ sum_by-append f (flat_map pair_symbols before) (flat_map pair_symbols after) in
    omega (arith, all, more, others)

amount_step : (f : ℕ → ℕ) (c d : Configuration) → HasNames c → (s : NameStep c d) → amount f d ≡ amount f c
amount_step f c d named s =
    let x = s.bound.name in
    let u = s.bound.term in
    let others = s.before ++ s.after in
    let ts = c.interface in
    let some = occurrences_some x (names_in ts others) s.outside in
    let outside = in_configuration x ts others in
    let both = in_both x s.before s.after in
    let whole = in_configuration x ts c.equations in
    let place = ap (count_in x) s.place in
    let parts = in_both x s.before (s.equation ∷ s.after) in
    let more = in_more x s.equation s.after in
    let two = named.twice x in
    let bound = bound_once c d s in
    let one : occurrences x (flat_map names ts) + count_in x others ≡ 1 = omega (arith, some, outside, both, whole, place, parts, more, two, bound) in
    let put = once_each (occurrences x (flat_map names ts)) (count_in x others) (sum_by f (symbols u)) _ _ one refl refl in
    let terms = put_terms f x u ts in
    let pairs = put_pairs f x u others in
    let after = ap (amount f) s.result ∙ amount_is f (subst_in x u (record c { equations = others })) in
    let before = amount_is f c in
    let given = ap (sum_pairs f) s.place in
    let apart = others_sum f s.before s.equation s.after in
    let own = binding_sum f c d s in
    omega (arith, put, terms, pairs, after, before, given, apart, own)

pub amount_steps : (f : ℕ → ℕ) (c d : Configuration) → HasNames c → NameSteps c d → (amount f d ≡ amount f c) × HasNames d
amount_steps f c d named (no_step x) = (refl, named)
amount_steps f c d named (one_more x y z steps step) =
    let first = amount_steps f x y named steps in
    (amount_step f y z first.1 step ∙ first.0, name_step-names y z step first.1)

pub amount_settled : (f : ℕ → ℕ) (c : Configuration) → HasNames c → amount f (settled c) ≡ amount f c
amount_settled f c named = (amount_steps f c (settled c) named (settled_steps c)).0
