-- The symbols of a configuration stay among those that rules reach, whatever number of rounds is made.
use Rattle.std.proofs.Common.{◌≡◌, ◌≢◌, if◌then◌else◌, inl, inr, ℕ, zero, suc, ◌+◌, ◌==◌, ◌&&◌, List, [], ◌∷◌, ◌++◌, Bool, true, false, Option, None, Some, length, map, slice_get, refl, sym, ap, ◌∙◌, subst, arith}
use Rattle.std.specs.Cmp.{unsigned_Decides}
use Rattle.std.specs.List.{AllByRecursion, flat_map, list_all}
use Rattle.std.specs.Option.{option_map, option_map_or}
use Rattle.std.proofs.lemmas.Bool.{and_parts}
use Rattle.std.proofs.lemmas.List.Folds.{list_all-append}
use Rattle.ic_term.specs.Tree.{Tree, name, agent, Trees, no_trees, more_trees, list_of, Pair}
use Rattle.ic_term.specs.Configuration.{Configuration}
use Rattle.ic_term.specs.Symbol.{Symbol, has_arity, is_tree_over, are_trees_over, is_pair_over, is_over}
use Rattle.ic_rules.specs.Renaming.{renamed, renamed_trees}
use Rattle.ic_rules.specs.Rule.{Rule}
use Rattle.ic_rules.specs.RuleSet.{IsRuleOver, IsRuleSet, Rules, first_unfit}
use Rattle.ic_rules.specs.lemmas.FitLaws.{rule_over_at}
use Rattle.ic_round.specs.Instance.{inst}
use Rattle.ic_round.specs.Firing.{Active, active_pair, against, arguments, fired, fired_from, fired_pair, names_taken, oriented, products_by, rule_of_sides}
use Rattle.ic_round.specs.Rounds.{iterate}
use Rattle.ic_round.specs.Works.{is_agent_of}
use Rattle.ic_round.specs.lemmas.ActiveRules.{FitsRule, oriented_rule, sides_fit}
use Rattle.ic_round.specs.lemmas.FiredNames.{SidesOf, active_sides_of}
use Rattle.ic_round.specs.lemmas.RoundLemmas.{round_is_over}
use Rattle.ic_round.specs.lemmas.SettledLemmas.{settled_over}
use Rattle.ic_confluence.specs.Agents.{configuration_symbols, pair_symbols, symbols, symbols_of}
use Rattle.ic_check.specs.Warnings.{made_symbols, AllAmong, IsClosed, IsKeptBy, IsReach, IsTakenBy, unused}
use Rattle.ic_settle.specs.lemmas.SubstitutionLaws.{and_both}

-- ---- all of two lists

all_left : (among : ℕ → Bool) (xs ys : List ℕ) → AllAmong among (xs ++ ys) → AllAmong among xs
all_left among [] ys all = tt
all_left among (x ∷ xs) ys all = (all.0, all_left among xs ys all.1)

all_right : (among : ℕ → Bool) (xs ys : List ℕ) → AllAmong among (xs ++ ys) → AllAmong among ys
all_right among [] ys all = all
all_right among (x ∷ xs) ys all = all_right among xs ys all.1

all_both : (among : ℕ → Bool) (xs ys : List ℕ) → AllAmong among xs → AllAmong among ys → AllAmong among (xs ++ ys)
all_both among [] ys first second = second
all_both among (x ∷ xs) ys first second = (first.0, all_both among xs ys first.1 second)

-- ---- symbols of which those that aren't among these have an arity that no agent has

abbrev masked : Bool → Symbol → Symbol
masked true s = s
masked false s = record { text = s.text; arity = suc s.arity }

abbrev mask : (ℕ → Bool) → List Symbol → List Symbol
mask among [] = []
mask among (s ∷ ss) = masked (among 0) s ∷ mask (λ k. among (suc k)) ss

at_mask : (among : ℕ → Bool) (ss : List Symbol) (k : ℕ) → slice_get (mask among ss) k ≡ option_map (masked (among k)) (slice_get ss k)
at_mask among [] zero = refl
at_mask among (s ∷ ss) (suc k) = at_mask (λ j. among (suc j)) ss k
at_mask among _ _ = refl

same_masked : (n : ℕ) (o : Option Symbol) → has_arity n (option_map (masked true) o) ≡ has_arity n o
same_masked n None = refl
same_masked n (Some s) = refl

arity_masked : (among : ℕ → Bool) (ss : List Symbol) (k n : ℕ) → has_arity n (slice_get ss k) ≡ true → among k ≡ true → has_arity n (slice_get (mask among ss) k) ≡ true
arity_masked among ss k n fits is =
    ap (has_arity n) (at_mask among ss k) ∙ ap (λ b. has_arity n (option_map (masked b) (slice_get ss k))) is ∙ same_masked n (slice_get ss k) ∙ fits

not_both : (n : ℕ) (o : Option Symbol) → has_arity n o ≡ true → has_arity n (option_map (masked false) o) ≡ true → ⊥
not_both n None fits too = cc
not_both n (Some s) fits too =
    let one : s.arity ≡ n = (unsigned_Decides s.arity n).0 fits in
    let more : suc s.arity ≡ n = (unsigned_Decides (suc s.arity) n).0 too in
    omega (arith, one, more)

is_among : (among : ℕ → Bool) (ss : List Symbol) (k n : ℕ) → has_arity n (slice_get ss k) ≡ true → has_arity n (slice_get (mask among ss) k) ≡ true → among k ≡ true
is_among among ss k n fits too = by (among k) (sym (ap (has_arity n) (at_mask among ss k)) ∙ too)
  where
    by : (b : Bool) → has_arity n (option_map (masked b) (slice_get ss k)) ≡ true → b ≡ true
    by true e = refl
    by false e = absurd (not_both n (slice_get ss k) fits e)

mutual
  tree_masked : (among : ℕ → Bool) (ss : List Symbol) (t : Tree) → is_tree_over ss t ≡ true → AllAmong among (symbols t) → is_tree_over (mask among ss) t ≡ true
  tree_masked among ss (name n) over all = refl
  tree_masked among ss (agent s ts) over all =
      let parts = and_parts (has_arity (length (list_of ts)) (slice_get ss s)) (are_trees_over ss ts) over in
      and_both (arity_masked among ss s (length (list_of ts)) parts.0 all.0) (trees_masked among ss ts parts.1 all.1)

  trees_masked : (among : ℕ → Bool) (ss : List Symbol) (ts : Trees) → are_trees_over ss ts ≡ true → AllAmong among (symbols_of ts) → are_trees_over (mask among ss) ts ≡ true
  trees_masked among ss no_trees over all = refl
  trees_masked among ss (more_trees t ts) over all =
      let parts = and_parts (is_tree_over ss t) (are_trees_over ss ts) over in
      and_both (tree_masked among ss t parts.0 (all_left among (symbols t) (symbols_of ts) all)) (trees_masked among ss ts parts.1 (all_right among (symbols t) (symbols_of ts) all))

mutual
  tree_among : (among : ℕ → Bool) (ss : List Symbol) (t : Tree) → is_tree_over ss t ≡ true → is_tree_over (mask among ss) t ≡ true → AllAmong among (symbols t)
  tree_among among ss (name n) over too = tt
  tree_among among ss (agent s ts) over too =
      let parts = and_parts (has_arity (length (list_of ts)) (slice_get ss s)) (are_trees_over ss ts) over in
      let more = and_parts (has_arity (length (list_of ts)) (slice_get (mask among ss) s)) (are_trees_over (mask among ss) ts) too in
      (is_among among ss s (length (list_of ts)) parts.0 more.0, trees_among among ss ts parts.1 more.1)

  trees_among : (among : ℕ → Bool) (ss : List Symbol) (ts : Trees) → are_trees_over ss ts ≡ true → are_trees_over (mask among ss) ts ≡ true → AllAmong among (symbols_of ts)
  trees_among among ss no_trees over too = tt
  trees_among among ss (more_trees t ts) over too =
      let parts = and_parts (is_tree_over ss t) (are_trees_over ss ts) over in
      let more = and_parts (is_tree_over (mask among ss) t) (are_trees_over (mask among ss) ts) too in
      all_both among (symbols t) (symbols_of ts) (tree_among among ss t parts.0 more.0) (trees_among among ss ts parts.1 more.1)

-- the same of lists of terms and of equations
list_masked : (among : ℕ → Bool) (ss : List Symbol) (ts : List Tree) → list_all (is_tree_over ss) ts ≡ true → AllAmong among (flat_map symbols ts)
    → list_all (is_tree_over (mask among ss)) ts ≡ true
list_masked among ss [] over all = refl
list_masked among ss (t ∷ ts) over all =
    let parts = and_parts (is_tree_over ss t) (list_all (is_tree_over ss) ts) over in
    and_both (tree_masked among ss t parts.0 (all_left among (symbols t) (flat_map symbols ts) all)) (list_masked among ss ts parts.1 (all_right among (symbols t) (flat_map symbols ts) all))

list_among : (among : ℕ → Bool) (ss : List Symbol) (ts : List Tree) → list_all (is_tree_over ss) ts ≡ true → list_all (is_tree_over (mask among ss)) ts ≡ true
    → AllAmong among (flat_map symbols ts)
list_among among ss [] over too = tt
list_among among ss (t ∷ ts) over too =
    let parts = and_parts (is_tree_over ss t) (list_all (is_tree_over ss) ts) over in
    let more = and_parts (is_tree_over (mask among ss) t) (list_all (is_tree_over (mask among ss)) ts) too in
    all_both among (symbols t) (flat_map symbols ts) (tree_among among ss t parts.0 more.0) (list_among among ss ts parts.1 more.1)

pairs_masked : (among : ℕ → Bool) (ss : List Symbol) (es : List Pair) → list_all (is_pair_over ss) es ≡ true → AllAmong among (flat_map pair_symbols es)
    → list_all (is_pair_over (mask among ss)) es ≡ true
pairs_masked among ss [] over all = refl
pairs_masked among ss (e ∷ es) over all =
    let parts = and_parts (is_pair_over ss e) (list_all (is_pair_over ss) es) over in
    let sides = and_parts (is_tree_over ss e.left) (is_tree_over ss e.right) parts.0 in
    let here = all_left among (pair_symbols e) (flat_map pair_symbols es) all in
    and_both (and_both (tree_masked among ss e.left sides.0 (all_left among (symbols e.left) (symbols e.right) here)) (tree_masked among ss e.right sides.1 (all_right among (symbols e.left) (symbols e.right) here)))
    (pairs_masked among ss es parts.1 (all_right among (pair_symbols e) (flat_map pair_symbols es) all))

pairs_among : (among : ℕ → Bool) (ss : List Symbol) (es : List Pair) → list_all (is_pair_over ss) es ≡ true → list_all (is_pair_over (mask among ss)) es ≡ true
    → AllAmong among (flat_map pair_symbols es)
pairs_among among ss [] over too = tt
pairs_among among ss (e ∷ es) over too =
    let parts = and_parts (is_pair_over ss e) (list_all (is_pair_over ss) es) over in
    let more = and_parts (is_pair_over (mask among ss) e) (list_all (is_pair_over (mask among ss)) es) too in
    let sides = and_parts (is_tree_over ss e.left) (is_tree_over ss e.right) parts.0 in
    let others = and_parts (is_tree_over (mask among ss) e.left) (is_tree_over (mask among ss) e.right) more.0 in
    all_both among (pair_symbols e) (flat_map pair_symbols es)
    (all_both among (symbols e.left) (symbols e.right) (tree_among among ss e.left sides.0 others.0) (tree_among among ss e.right sides.1 others.1))
    (pairs_among among ss es parts.1 more.1)

config_masked : (among : ℕ → Bool) (ss : List Symbol) (c : Configuration) → is_over ss c ≡ true → AllAmong among (configuration_symbols c) → is_over (mask among ss) c ≡ true
config_masked among ss c over all =
    let parts = and_parts (list_all (is_tree_over ss) c.interface) (list_all (is_pair_over ss) c.equations) over in
    let front = flat_map symbols c.interface in
    let back = flat_map pair_symbols c.equations in
    and_both (list_masked among ss c.interface parts.0 (all_left among front back all)) (pairs_masked among ss c.equations parts.1 (all_right among front back all))

config_among : (among : ℕ → Bool) (ss : List Symbol) (c : Configuration) → is_over ss c ≡ true → is_over (mask among ss) c ≡ true → AllAmong among (configuration_symbols c)
config_among among ss c over too =
    let parts = and_parts (list_all (is_tree_over ss) c.interface) (list_all (is_pair_over ss) c.equations) over in
    let more = and_parts (list_all (is_tree_over (mask among ss)) c.interface) (list_all (is_pair_over (mask among ss)) c.equations) too in
    all_both among (flat_map symbols c.interface) (flat_map pair_symbols c.equations) (list_among among ss c.interface parts.0 more.0) (pairs_among among ss c.equations parts.1 more.1)

-- ---- products of a rule

same_count : (f : ℕ → ℕ) (ts : Trees) → length (list_of (renamed_trees f ts)) ≡ length (list_of ts)
same_count f no_trees = refl
same_count f (more_trees t ts) = ap suc (same_count f ts)

mutual
  over_renamed : (ss : List Symbol) (f : ℕ → ℕ) (t : Tree) → is_tree_over ss (renamed f t) ≡ is_tree_over ss t
  over_renamed ss f (name n) = refl
  over_renamed ss f (agent s ts) = λ i. has_arity (same_count f ts i) (slice_get ss s) && over_renamed_trees ss f ts i

  over_renamed_trees : (ss : List Symbol) (f : ℕ → ℕ) (ts : Trees) → are_trees_over ss (renamed_trees f ts) ≡ are_trees_over ss ts
  over_renamed_trees ss f no_trees = refl
  over_renamed_trees ss f (more_trees t ts) = λ i. over_renamed ss f t i && over_renamed_trees ss f ts i

over_map : (ss : List Symbol) (f : ℕ → ℕ) (ts : List Tree) → list_all (is_tree_over ss) (map (renamed f) ts) ≡ list_all (is_tree_over ss) ts
over_map ss f [] = refl
over_map ss f (t ∷ ts) = λ i. over_renamed ss f t i && over_map ss f ts i

over_list : (ss : List Symbol) (ts : Trees) → list_all (is_tree_over ss) (list_of ts) ≡ are_trees_over ss ts
over_list ss no_trees = refl
over_list ss (more_trees t ts) = ap (λ b. is_tree_over ss t && b) (over_list ss ts)

over_arguments : (ss : List Symbol) (t : Tree) → is_tree_over ss t ≡ true → list_all (is_tree_over ss) (arguments t) ≡ true
over_arguments ss (name n) over = refl
over_arguments ss (agent s ts) over = over_list ss ts ∙ (and_parts (has_arity (length (list_of ts)) (slice_get ss s)) (are_trees_over ss ts) over).1

over_against : (ss : List Symbol) (ts us : List Tree) → list_all (is_tree_over ss) ts ≡ true → list_all (is_tree_over ss) us ≡ true → list_all (is_pair_over ss) (against ts us) ≡ true
over_against ss [] us p q = refl
over_against ss (t ∷ ts) [] p q = refl
over_against ss (t ∷ ts) (u ∷ us) p q =
    let first = and_parts (is_tree_over ss t) (list_all (is_tree_over ss) ts) p in
    let second = and_parts (is_tree_over ss u) (list_all (is_tree_over ss) us) q in
    and_both (and_both first.0 second.0) (over_against ss ts us first.1 second.1)

over_sides : (ss : List Symbol) (p : Pair) (a : Active) → SidesOf p a → is_pair_over ss p ≡ true → (is_tree_over ss a.left ≡ true) × (is_tree_over ss a.right ≡ true)
over_sides ss p a (inl (l, r)) over = let both = and_parts (is_tree_over ss p.left) (is_tree_over ss p.right) over in (ap (is_tree_over ss) l ∙ both.0, ap (is_tree_over ss) r ∙ both.1)
over_sides ss p a (inr (l, r)) over = let both = and_parts (is_tree_over ss p.left) (is_tree_over ss p.right) over in (ap (is_tree_over ss) l ∙ both.1, ap (is_tree_over ss) r ∙ both.0)

-- ---- the rule of an active equation has symbols among these

fits_at : (ss : List Symbol) (rs : List Rule) (p : Pair) (a : Active) (r : Rule) → first_unfit ss rs ≡ None → is_pair_over ss p ≡ true
    → slice_get rs a.rule ≡ Some r → (found : Option (ℕ × Bool)) → rule_of_sides rs p.left p.right ≡ found → oriented p.left p.right found ≡ Some a → FitsRule rs a r
fits_at ss rs p a r none over there None e f = cc
fits_at ss rs p a r none over there (Some (i, turned)) e f =
    let sides = and_parts (is_tree_over ss p.left) (is_tree_over ss p.right) over in
    let place = oriented_rule p.left p.right i turned in
    let same : place.0 ≡ a = one_active place.0 a (sym place.1.0 ∙ f) in
    let at : a.rule ≡ i = ap (λ (b : Active). b.rule) (sym same) ∙ place.1.1 in
    sides_fit ss rs p.left p.right i turned r none sides.0 sides.1 e (ap (slice_get rs) (sym at) ∙ there) a f
  where
    one_active : (b d : Active) → Some b ≡ Some d → b ≡ d
    one_active b d e = cc

side_among : (among : ℕ → Bool) (ss : List Symbol) (s n : ℕ) (t : Tree) → is_agent_of s n t ≡ true → is_tree_over ss t ≡ true → is_tree_over (mask among ss) t ≡ true → among s ≡ true
side_among among ss s n (name m) is over too = cc
side_among among ss s n (agent z ts) is over too =
    let same : z ≡ s = (unsigned_Decides z s).0 (and_parts (z == s) (length (list_of ts) == n) is).0 in
    let parts = and_parts (has_arity (length (list_of ts)) (slice_get ss z)) (are_trees_over ss ts) over in
    let more = and_parts (has_arity (length (list_of ts)) (slice_get (mask among ss) z)) (are_trees_over (mask among ss) ts) too in
    ap among (sym same) ∙ is_among among ss z (length (list_of ts)) parts.0 more.0

kept_at : (among : ℕ → Bool) (rs : List Rule) (i : ℕ) (r : Rule) → AllByRecursion (IsKeptBy among) rs → slice_get rs i ≡ Some r → IsKeptBy among r
kept_at among [] zero r all e = cc
kept_at among [] (suc i) r all e = cc
kept_at among (q ∷ rs) zero r all e = let same : q ≡ r = cc in subst (IsKeptBy among) same all.0
kept_at among (q ∷ rs) (suc i) r all e = kept_at among rs i r all.1 e

-- both symbols of the rule of an active equation are among these
pub rule_among : (among : ℕ → Bool) (ss : List Symbol) (rs : List Rule) (p : Pair) (a : Active) (r : Rule) → first_unfit ss rs ≡ None → is_pair_over ss p ≡ true
    → is_pair_over (mask among ss) p ≡ true → active_pair rs p ≡ Some a → slice_get rs a.rule ≡ Some r → (among r.left ≡ true) × (among r.right ≡ true)
rule_among among ss rs p a r none over too e there =
    let fit = fits_at ss rs p a r none over there (rule_of_sides rs p.left p.right) refl e in
    let sides = over_sides ss p a (active_sides_of rs p a e) over in
    let others = over_sides (mask among ss) p a (active_sides_of rs p a e) too in
    (side_among among ss r.left (length r.left_args) a.left fit.left sides.0 others.0, side_among among ss r.right (length r.right_args) a.right fit.right sides.1 others.1)

args_masked : (among : ℕ → Bool) (ss : List Symbol) (r : Rule) → IsRuleOver ss r → AllAmong among (made_symbols r)
    → (list_all (is_tree_over (mask among ss)) r.left_args ≡ true) × (list_all (is_tree_over (mask among ss)) r.right_args ≡ true)
args_masked among ss r over all =
    let front = flat_map symbols r.left_args in
    let back = flat_map symbols r.right_args in
    (list_masked among ss r.left_args over.left_args (all_left among front back all), list_masked among ss r.right_args over.right_args (all_right among front back all))

products_over : (ms : List Symbol) (base : ℕ) (a : Active) → is_tree_over ms a.left ≡ true → is_tree_over ms a.right ≡ true → (rs : List Rule) (o : Option Rule)
    → ((r : Rule) → o ≡ Some r → (list_all (is_tree_over ms) r.left_args ≡ true) × (list_all (is_tree_over ms) r.right_args ≡ true))
    → list_all (is_pair_over ms) (option_map_or (λ r. against (arguments a.left) (inst r base).left_args ++ against (arguments a.right) (inst r base).right_args) o []) ≡ true
products_over ms base a left right rs None args = refl
products_over ms base a left right rs (Some r) args =
    let f : ℕ → ℕ = λ k. base + k in
    let both = args r refl in
    list_all-append (is_pair_over ms) (against (arguments a.left) (map (renamed f) r.left_args)) (against (arguments a.right) (map (renamed f) r.right_args))
    ∙ and_both (over_against ms (arguments a.left) (map (renamed f) r.left_args) (over_arguments ms a.left left) (over_map ms f r.left_args ∙ both.0))
    (over_against ms (arguments a.right) (map (renamed f) r.right_args) (over_arguments ms a.right right) (over_map ms f r.right_args ∙ both.1))

pair_fired : (among : ℕ → Bool) (ss : List Symbol) (rs : List Rule) (base : ℕ) (p : Pair) → first_unfit ss rs ≡ None → AllByRecursion (IsKeptBy among) rs
    → is_pair_over ss p ≡ true → is_pair_over (mask among ss) p ≡ true → (found : Option Active) → active_pair rs p ≡ found
    → list_all (is_pair_over (mask among ss)) (option_map_or (products_by rs base) found (p ∷ [])) ≡ true
pair_fired among ss rs base p none kept over too None e = and_both too refl
pair_fired among ss rs base p none kept over too (Some a) e =
    let others = over_sides (mask among ss) p a (active_sides_of rs p a e) too in
    products_over (mask among ss) base a others.0 others.1 rs (slice_get rs a.rule)
    (λ r there. (let both = rule_among among ss rs p a r none over too e there in
    args_masked among ss r (rule_over_at ss rs a.rule r none there) (kept_at among rs a.rule r kept there both.0 both.1)))

all_fired : (among : ℕ → Bool) (ss : List Symbol) (rs : List Rule) (base : ℕ) (ps : List Pair) → first_unfit ss rs ≡ None → AllByRecursion (IsKeptBy among) rs
    → list_all (is_pair_over ss) ps ≡ true → list_all (is_pair_over (mask among ss)) ps ≡ true → list_all (is_pair_over (mask among ss)) (fired_from rs base ps) ≡ true
all_fired among ss rs base [] none kept over too = refl
all_fired among ss rs base (p ∷ ps) none kept over too =
    let both = and_parts (is_pair_over ss p) (list_all (is_pair_over ss) ps) over in
    let others = and_parts (is_pair_over (mask among ss) p) (list_all (is_pair_over (mask among ss)) ps) too in
    list_all-append (is_pair_over (mask among ss)) (fired_pair rs base p) (fired_from rs (base + names_taken rs p) ps)
    ∙ and_both (pair_fired among ss rs base p none kept both.0 others.0 (active_pair rs p) refl) (all_fired among ss rs (base + names_taken rs p) ps none kept both.1 others.1)

-- ---- rounds

pub fired_among : (rs : Rules) (c : Configuration) (among : ℕ → Bool) → IsRuleSet rs → AllByRecursion (IsKeptBy among) rs.rules → is_over rs.symbols c ≡ true
    → is_over (mask among rs.symbols) c ≡ true → is_over (mask among rs.symbols) (fired rs.rules c) ≡ true
fired_among rs c among set kept over too =
    let parts = and_parts (list_all (is_tree_over rs.symbols) c.interface) (list_all (is_pair_over rs.symbols) c.equations) over in
    let others = and_parts (list_all (is_tree_over (mask among rs.symbols)) c.interface) (list_all (is_pair_over (mask among rs.symbols)) c.equations) too in
    and_both others.0 (all_fired among rs.symbols rs.rules c.next c.equations set.fitting kept parts.1 others.1)

-- after any number of rounds the configuration is over the symbols, and over those of them that are reached
pub rounds_among : (rs : Rules) (c : Configuration) (among : ℕ → Bool) (n : ℕ) → IsRuleSet rs → is_over rs.symbols c ≡ true → IsClosed rs.rules c among
    → (is_over rs.symbols (iterate rs.rules n c) ≡ true) × (is_over (mask among rs.symbols) (iterate rs.rules n c) ≡ true)
rounds_among rs c among zero set over closed = (over, config_masked among rs.symbols c over closed.begins)
rounds_among rs c among (suc n) set over closed =
    let before = rounds_among rs c among n set over closed in
    let d = iterate rs.rules n c in
    (round_is_over rs d set before.0, settled_over (mask among rs.symbols) (fired rs.rules d) (fired_among rs d among set closed.goes_on before.0 before.1))

pub symbols_stay : (rs : Rules) (c : Configuration) (among : ℕ → Bool) (n : ℕ) → IsRuleSet rs → is_over rs.symbols c ≡ true → IsReach rs.rules c among
    → AllAmong among (configuration_symbols (iterate rs.rules n c))
symbols_stay rs c among n set over reach =
    let both = rounds_among rs c among n set over reach.closed in config_among among rs.symbols (iterate rs.rules n c) both.0 both.1

-- ---- a rule one of whose symbols isn't reached

not_both_among : (a b : Bool) → (a && b) ≡ false → a ≡ true → b ≡ true → ⊥
not_both_among true true e left right = cc
not_both_among true false e left right = cc
not_both_among false b e left right = cc

none_taken : (among : ℕ → Bool) (ss : List Symbol) (rs : List Rule) (i : ℕ) (r : Rule) (ps : List Pair) → first_unfit ss rs ≡ None → slice_get rs i ≡ Some r
    → (among r.left && among r.right) ≡ false → list_all (is_pair_over ss) ps ≡ true → list_all (is_pair_over (mask among ss)) ps ≡ true
    → AllByRecursion (λ p. ¬ IsTakenBy rs i p) ps
none_taken among ss rs i r [] none there aside over too = tt
none_taken among ss rs i r (p ∷ ps) none there aside over too =
    let both = and_parts (is_pair_over ss p) (list_all (is_pair_over ss) ps) over in
    let others = and_parts (is_pair_over (mask among ss) p) (list_all (is_pair_over (mask among ss)) ps) too in (
      λ taken. (let found = rule_among among ss rs p taken.0 r none both.0 others.0 taken.1 (ap (slice_get rs) taken.2 ∙ there) in
          not_both_among (among r.left) (among r.right) aside found.0 found.1),
      none_taken among ss rs i r ps none there aside both.1 others.1,
    )

pub never_taken : (rs : Rules) (c : Configuration) (among : ℕ → Bool) (i n : ℕ) (r : Rule) → IsRuleSet rs → is_over rs.symbols c ≡ true → IsReach rs.rules c among
    → slice_get rs.rules i ≡ Some r → (among r.left && among r.right) ≡ false → AllByRecursion (λ p. ¬ IsTakenBy rs.rules i p) (iterate rs.rules n c).equations
never_taken rs c among i n r set over reach there aside =
    let both = rounds_among rs c among n set over reach.closed in
    let d = iterate rs.rules n c in
    let parts = and_parts (list_all (is_tree_over rs.symbols) d.interface) (list_all (is_pair_over rs.symbols) d.equations) both.0 in
    let others = and_parts (list_all (is_tree_over (mask among rs.symbols)) d.interface) (list_all (is_pair_over (mask among rs.symbols)) d.equations) both.1 in
    none_taken among rs.symbols rs.rules i r d.equations set.fitting there aside parts.1 others.1

found_aside : (b : Bool) (places : List ℕ) → (if b then [] else places) ≢ [] → b ≡ false
found_aside true places found = absurd (found refl)
found_aside false places found = refl

-- what is found of it is so
pub found_never_taken : (rs : Rules) (c : Configuration) (among : ℕ → Bool) (i n : ℕ) (r : Rule) → IsRuleSet rs → is_over rs.symbols c ≡ true
    → IsReach rs.rules c among → slice_get rs.rules i ≡ Some r → unused among i r ≢ [] → AllByRecursion (λ p. ¬ IsTakenBy rs.rules i p) (iterate rs.rules n c).equations
found_never_taken rs c among i n r set over reach there found =
    never_taken rs c among i n r set over reach there (found_aside (among r.left && among r.right) (i ∷ []) found)

same_bool : (a b : Bool) → (a ≡ true → b ≡ true) → (b ≡ true → a ≡ true) → a ≡ b
same_bool true false f g = sym (f refl)
same_bool false true f g = g refl
same_bool _ _ f g = refl

pub one_reach : (rs : List Rule) (c : Configuration) (among other : ℕ → Bool) → IsReach rs c among → IsReach rs c other → (s : ℕ) → among s ≡ other s
one_reach rs c among other first second s = same_bool (among s) (other s) (first.least other second.closed s) (second.least among first.closed s)
