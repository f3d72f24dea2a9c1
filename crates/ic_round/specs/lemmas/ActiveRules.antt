-- The rule of an active equation has its symbols and arities, so firing it changes the nodes by
-- those of the rule.
use Rattle.std.proofs.Common.{◌≡◌, ℕ, ◌+◌, ◌≤◌, ◌<◌, ◌==◌, List, [], ◌∷◌, Bool, true, false, Option, None, Some, slice_get, length, map, sum_by, refl, sym, ap, ◌∙◌, arith, IfSome, subst as transport}
use Rattle.std.proofs.lemmas.List.{length-map}
use Rattle.std.proofs.lemmas.List.Sums.{sum_by-append, sum_by-cons}
use Rattle.std.specs.Cmp.{unsigned_Decides}
use Rattle.std.specs.Option.{option_map_or}
use Rattle.ic_term.specs.Tree.{Tree, name, agent, Trees, no_trees, more_trees, list_of, nodes, nodes_of, Pair, pair_nodes}
use Rattle.ic_term.specs.Symbol.{Symbol, has_arity, is_tree_over, are_trees_over, is_pair_over}
use Rattle.ic_rules.specs.Renaming.{renamed, renamed_trees}
use Rattle.ic_rules.specs.Rule.{Rule, rule_nodes}
use Rattle.ic_rules.specs.RuleSet.{first_unfit, rule_for, StandsTurned}
use Rattle.ic_rules.specs.lemmas.FitLaws.{rule_over_at}
use Rattle.ic_rules.specs.lemmas.FindLaws.{rule_for-found}
use Rattle.ic_round.specs.Instance.{inst}
use Rattle.ic_round.specs.Firing.{Active, oriented, rule_of_sides, active_pair, arguments, against, products, products_by, count_of, names_taken, fired_pair, fired_from, next_after}
use Rattle.ic_round.specs.Works.{is_agent_of}
use Rattle.ic_round.specs.lemmas.Sizes.{fired_nodes}
use Rattle.std.proofs.lemmas.Bool.{and_parts}
use Rattle.ic_settle.specs.lemmas.SubstitutionLaws.{and_both}

-- ---- arities

one_arity : (m n : ℕ) (o : Option Symbol) → has_arity m o ≡ true → has_arity n o ≡ true → m ≡ n
one_arity m n None e f = cc
one_arity m n (Some s) e f = sym ((unsigned_Decides s.arity m).0 e) ∙ (unsigned_Decides s.arity n).0 f

side_fits : (ss : List Symbol) (s n a : ℕ) (ts : Trees) → has_arity n (slice_get ss s) ≡ true → (s == a) ≡ true → is_tree_over ss (agent a ts) ≡ true
    → is_agent_of s n (agent a ts) ≡ true
side_fits ss s n a ts arity same over =
    let symbols = (unsigned_Decides s a).0 same in
    let known = (and_parts (has_arity (length (list_of ts)) (slice_get ss a)) (are_trees_over ss ts) over).0 in
    let count = one_arity (length (list_of ts)) n (slice_get ss a) known (ap (λ k. has_arity n (slice_get ss k)) (sym symbols) ∙ arity) in
    and_both ((unsigned_Decides a s).1 (sym symbols)) ((unsigned_Decides (length (list_of ts)) n).1 count)

-- ---- the rule of an active equation

-- a rule is there, and the sides have its symbols and arities
pub record FitsRule (rs : List Rule) (a : Active) (r : Rule) : Type 0 where
  pub there : slice_get rs a.rule ≡ Some r
  pub left : is_agent_of r.left (length r.left_args) a.left ≡ true
  pub right : is_agent_of r.right (length r.right_args) a.right ≡ true

turned_fits : (ss : List Symbol) (rs : List Rule) (a b i : ℕ) (ts us : Trees) (turned : Bool) (r : Rule) → slice_get rs i ≡ Some r
    → (has_arity (length r.left_args) (slice_get ss r.left) ≡ true) × (has_arity (length r.right_args) (slice_get ss r.right) ≡ true)
    → is_tree_over ss (agent a ts) ≡ true → is_tree_over ss (agent b us) ≡ true → StandsTurned a b turned r
    → (c : Active) → oriented (agent a ts) (agent b us) (Some (i, turned)) ≡ Some c → FitsRule rs c r
turned_fits ss rs a b i ts us false r there arities over_t over_u stands c e =
    let same : record { rule = i; left = agent a ts; right = agent b us } ≡ c = cc in
    let symbols = and_parts (r.left == a) (r.right == b) stands in
    let P : Active → Type 0 = λ d. FitsRule rs d r in
    transport P same (record { there = there; left = side_fits ss r.left _ a ts arities.0 symbols.0 over_t; right = side_fits ss r.right _ b us arities.1 symbols.1 over_u })
turned_fits ss rs a b i ts us true r there arities over_t over_u stands c e =
    let same : record { rule = i; left = agent b us; right = agent a ts } ≡ c = cc in
    let symbols = and_parts (r.left == b) (r.right == a) stands.0 in
    let P : Active → Type 0 = λ d. FitsRule rs d r in
    transport P same (record { there = there; left = side_fits ss r.left _ b us arities.0 symbols.0 over_u; right = side_fits ss r.right _ a ts arities.1 symbols.1 over_t })

of_pair_at : (rs : List Rule) (a b i : ℕ) (turned : Bool) (r : Rule) → rule_for rs a b ≡ Some (i, turned) → slice_get rs i ≡ Some r → StandsTurned a b turned r
of_pair_at rs a b i turned r found there =
    let at_rule : IfSome (Some r) (StandsTurned a b turned) = rw there at (rule_for-found rs a b i turned found).of_pair in at_rule

-- the place of a rule that is found is one
pub rule_within : (rs : List Rule) (t u : Tree) (i : ℕ) (turned : Bool) → rule_of_sides rs t u ≡ Some (i, turned) → i < length rs
rule_within rs (name n) u i turned e = cc
rule_within rs (agent a ts) (name n) i turned e = cc
rule_within rs (agent a ts) (agent b us) i turned e = (rule_for-found rs a b i turned e).there

pub sides_fit : (ss : List Symbol) (rs : List Rule) (t u : Tree) (i : ℕ) (turned : Bool) (r : Rule) → first_unfit ss rs ≡ None
    → is_tree_over ss t ≡ true → is_tree_over ss u ≡ true → rule_of_sides rs t u ≡ Some (i, turned) → slice_get rs i ≡ Some r
    → (c : Active) → oriented t u (Some (i, turned)) ≡ Some c → FitsRule rs c r
sides_fit ss rs (name n) u i turned r none ot ou e there c f = cc
sides_fit ss rs (agent a ts) (name n) i turned r none ot ou e there c f = cc
sides_fit ss rs (agent a ts) (agent b us) i turned r none ot ou e there c f =
    let known = rule_over_at ss rs i r none there in
    turned_fits ss rs a b i ts us turned r there (known.left, known.right) ot ou (of_pair_at rs a b i turned r e there) c f

pub oriented_rule : (t u : Tree) (i : ℕ) (turned : Bool) → (c : Active) × ((oriented t u (Some (i, turned)) ≡ Some c) × (c.rule ≡ i))
oriented_rule t u i false = (record { rule = i; left = t; right = u }, (refl, refl))
oriented_rule t u i true = (record { rule = i; left = u; right = t }, (refl, refl))

-- an equation whose sides have a rule is active
pub active_by : (rs : List Rule) (p : Pair) (i : ℕ) (turned : Bool) → rule_of_sides rs p.left p.right ≡ Some (i, turned)
    → (c : Active) × ((active_pair rs p ≡ Some c) × (c.rule ≡ i))
active_by rs p i turned e =
    let o = oriented_rule p.left p.right i turned in
    (o.0, (ap (oriented p.left p.right) e ∙ o.1.0, o.1.1))

-- ---- nodes

mutual
  same_nodes : (f : ℕ → ℕ) (t : Tree) → nodes (renamed f t) ≡ nodes t
  same_nodes f (name n) = refl
  same_nodes f (agent s ts) = ap (λ n. 1 + n) (same_nodes_of f ts)

  same_nodes_of : (f : ℕ → ℕ) (ts : Trees) → nodes_of (renamed_trees f ts) ≡ nodes_of ts
  same_nodes_of f no_trees = refl
  same_nodes_of f (more_trees t ts) = λ i. same_nodes f t i + same_nodes_of f ts i

sum_nodes-renamed : (f : ℕ → ℕ) (ts : List Tree) → sum_by nodes (map (renamed f) ts) ≡ sum_by nodes ts
sum_nodes-renamed f [] = refl
sum_nodes-renamed f (t ∷ ts) =
    sum_by-cons nodes (renamed f t) (map (renamed f) ts) ∙ (λ i. same_nodes f t i + sum_nodes-renamed f ts i) ∙ sym (sum_by-cons nodes t ts)

nodes-arguments : (ts : Trees) → sum_by nodes (list_of ts) ≡ nodes_of ts
nodes-arguments no_trees = refl
nodes-arguments (more_trees t ts) = sum_by-cons nodes t (list_of ts) ∙ ap (λ n. nodes t + n) (nodes-arguments ts)

nodes-against : (ts us : List Tree) → length ts ≡ length us → sum_by pair_nodes (against ts us) ≡ sum_by nodes ts + sum_by nodes us
nodes-against [] [] e = refl
nodes-against (t ∷ ts) (u ∷ us) e =
    let rest = nodes-against ts us (omega arith) in
    let here = sum_by-cons pair_nodes (record { left = t; right = u }) (against ts us) in
    let left = sum_by-cons nodes t ts in
    let right = sum_by-cons nodes u us in
    omega arith
nodes-against _ _ e = absurd (omega arith)

-- the numbers of the names don't matter
nodes-against_renamed : (f g : ℕ → ℕ) (ts us : List Tree) → sum_by pair_nodes (against ts (map (renamed f) us)) ≡ sum_by pair_nodes (against ts (map (renamed g) us))
nodes-against_renamed f g [] us = refl
nodes-against_renamed f g (t ∷ ts) [] = refl
nodes-against_renamed f g (t ∷ ts) (u ∷ us) =
    let rest = nodes-against_renamed f g ts us in
    let here = sum_by-cons pair_nodes (record { left = t; right = renamed f u }) (against ts (map (renamed f) us)) in
    let there = sum_by-cons pair_nodes (record { left = t; right = renamed g u }) (against ts (map (renamed g) us)) in
    let one = same_nodes f u in
    let other = same_nodes g u in
    omega arith

agent_parts : (s n : ℕ) (t : Tree) → is_agent_of s n t ≡ true → (length (arguments t) ≡ n) × (nodes t ≡ 1 + sum_by nodes (arguments t))
agent_parts s n (name m) e = cc
agent_parts s n (agent z ts) e =
    ((unsigned_Decides (length (list_of ts)) n).0 (and_parts (z == s) (length (list_of ts) == n) e).1, ap (λ k. 1 + k) (sym (nodes-arguments ts)))

nodes-products : (rs : List Rule) (a : Active) (r : Rule) (base : ℕ) → FitsRule rs a r
    → sum_by pair_nodes (products (inst r base) a.left a.right) + 2 ≡ nodes a.left + nodes a.right + rule_nodes r
nodes-products rs a r base fit =
    let f : ℕ → ℕ = λ k. base + k in
    let copy = inst r base in
    let left = agent_parts r.left (length r.left_args) a.left fit.left in
    let right = agent_parts r.right (length r.right_args) a.right fit.right in
    let split = sum_by-append pair_nodes (against (arguments a.left) copy.left_args) (against (arguments a.right) copy.right_args) in
    let lefts = nodes-against (arguments a.left) copy.left_args (left.0 ∙ sym (length-map r.left_args (renamed f))) in
    let rights = nodes-against (arguments a.right) copy.right_args (right.0 ∙ sym (length-map r.right_args (renamed f))) in
    let old_left = sum_nodes-renamed f r.left_args in
    let old_right = sum_nodes-renamed f r.right_args in
    let left_nodes = left.1 in
    let right_nodes = right.1 in
    omega arith

sides_nodes : (p : Pair) (t u : Tree) (i : ℕ) (turned : Bool) (a : Active) → oriented t u (Some (i, turned)) ≡ Some a → nodes a.left + nodes a.right ≡ nodes t + nodes u
sides_nodes p t u i false a e = let left : a.left ≡ t = cc in let right : a.right ≡ u = cc in rw (left, right) refl
sides_nodes p t u i true a e = let left : a.left ≡ u = cc in let right : a.right ≡ t = cc in rw (left, right) (omega arith)

-- an equation that fires has two nodes fewer, and those of its rule
pub nodes-fired_pair : (rs : List Rule) (p : Pair) (i : ℕ) (turned : Bool) (a : Active) (r : Rule) (base : ℕ) → rule_of_sides rs p.left p.right ≡ Some (i, turned)
    → oriented p.left p.right (Some (i, turned)) ≡ Some a → FitsRule rs a r
    → sum_by pair_nodes (fired_pair rs base p) + 2 ≡ pair_nodes p + rule_nodes r
nodes-fired_pair rs p i turned a r base found is fit =
    let active : active_pair rs p ≡ Some a = ap (oriented p.left p.right) found ∙ is in
    let out : fired_pair rs base p ≡ products (inst r base) a.left a.right =
    ap (λ o. option_map_or (products_by rs base) o (p ∷ [])) active
    ∙ ap (λ o. option_map_or (λ q. products (inst q base) a.left a.right) o []) fit.there in
    let count = nodes-products rs a r base fit in
    let sides = sides_nodes p p.left p.right i turned a is in
    let total = ap (sum_by pair_nodes) out in
    omega arith

pub names-taken_by : (rs : List Rule) (p : Pair) (a : Active) (r : Rule) → active_pair rs p ≡ Some a → slice_get rs a.rule ≡ Some r → names_taken rs p ≡ r.names
names-taken_by rs p a r is there =
    ap (λ o. option_map_or (λ c. count_of rs c.rule) o 0) is ∙ ap (λ o. option_map_or (λ q. q.names) o 0) there

same_found : (rs : List Rule) (p : Pair) (base : ℕ) (found : Option Active)
    → sum_by pair_nodes (option_map_or (products_by rs base) found (p ∷ [])) ≡ sum_by pair_nodes (option_map_or (products_by rs 0) found (p ∷ []))
same_found rs p base None = refl
same_found rs p base (Some a) = by (slice_get rs a.rule)
  where
    by : (o : Option Rule) → sum_by pair_nodes (option_map_or (λ r. products (inst r base) a.left a.right) o []) ≡ sum_by pair_nodes (option_map_or (λ r. products (inst r 0) a.left a.right) o [])
    by None = refl
    by (Some r) =
        let f : ℕ → ℕ = λ k. base + k in
        let g : ℕ → ℕ = λ k. 0 + k in
        sum_by-append pair_nodes (against (arguments a.left) (map (renamed f) r.left_args)) (against (arguments a.right) (map (renamed f) r.right_args))
        ∙ (λ i. nodes-against_renamed f g (arguments a.left) r.left_args i + nodes-against_renamed f g (arguments a.right) r.right_args i)
        ∙ sym (sum_by-append pair_nodes (against (arguments a.left) (map (renamed g) r.left_args)) (against (arguments a.right) (map (renamed g) r.right_args)))

-- the nodes of an equation that has fired don't depend on the base
pub nodes-any_base : (rs : List Rule) (p : Pair) (base : ℕ) → sum_by pair_nodes (fired_pair rs base p) ≡ fired_nodes rs p
nodes-any_base rs p base = same_found rs p base (active_pair rs p)

-- the nodes and the next number after all equations, as sums
pub nodes-fired_from : (rs : List Rule) (base : ℕ) (ps : List Pair) → sum_by pair_nodes (fired_from rs base ps) ≡ sum_by (fired_nodes rs) ps
nodes-fired_from rs base [] = refl
nodes-fired_from rs base (p ∷ ps) =
    let split = sum_by-append pair_nodes (fired_pair rs base p) (fired_from rs (base + names_taken rs p) ps) in
    let here = same_found rs p base (active_pair rs p) in
    let rest = nodes-fired_from rs (base + names_taken rs p) ps in
    let whole = sum_by-cons (fired_nodes rs) p ps in
    omega arith

pub next-sum : (rs : List Rule) (base : ℕ) (ps : List Pair) → next_after rs base ps ≡ base + sum_by (names_taken rs) ps
next-sum rs base [] = omega arith
next-sum rs base (p ∷ ps) =
    let rest = next-sum rs (base + names_taken rs p) ps in
    let whole = sum_by-cons (names_taken rs) p ps in
    omega arith

two_nodes : (rs : List Rule) (t u : Tree) (i : ℕ) (turned : Bool) → rule_of_sides rs t u ≡ Some (i, turned) → 2 ≤ nodes t + nodes u
two_nodes rs (name n) u i turned e = cc
two_nodes rs (agent a ts) (name n) i turned e = cc
two_nodes rs (agent a ts) (agent b us) i turned e = omega arith

-- What is known of an equation whose sides have a rule.
pub record ActiveBy (rs : List Rule) (p : Pair) (r : Rule) : Type 0 where
  pub active : Active
  pub is : active_pair rs p ≡ Some active
  pub fit : FitsRule rs active r
  pub two : 2 ≤ pair_nodes p
  pub nodes : fired_nodes rs p + 2 ≡ pair_nodes p + rule_nodes r
  pub names : names_taken rs p ≡ r.names

pub active_with : (ss : List Symbol) (rs : List Rule) (p : Pair) (i : ℕ) (turned : Bool) (r : Rule) → first_unfit ss rs ≡ None → is_pair_over ss p ≡ true
    → rule_of_sides rs p.left p.right ≡ Some (i, turned) → slice_get rs i ≡ Some r → ActiveBy rs p r
active_with ss rs p i turned r none over found there =
    let o = oriented_rule p.left p.right i turned in
    let active : active_pair rs p ≡ Some o.0 = ap (oriented p.left p.right) found ∙ o.1.0 in
    let sides = and_parts (is_tree_over ss p.left) (is_tree_over ss p.right) over in
    let fit = sides_fit ss rs p.left p.right i turned r none sides.0 sides.1 found there o.0 o.1.0 in
    record {
      active = o.0;
      is = active;
      fit = fit;
      two = two_nodes rs p.left p.right i turned found;
      nodes = nodes-fired_pair rs p i turned o.0 r 0 found o.1.0 fit;
      names = names-taken_by rs p o.0 r active fit.there;
    }
