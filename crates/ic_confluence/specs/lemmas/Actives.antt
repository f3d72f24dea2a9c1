-- Lemmas: the rule of an active equation, the names of its products, and products with terms put for names and with names
-- renamed.
use Rattle.std.proofs.Common.{◌≡◌, ℕ, zero, suc, ◌+◌, ◌-◌, ◌≤◌, ◌<◌, ◌==◌, List, [], ◌∷◌, ◌++◌, Bool, true, false, cond, Option, None, Some, slice_get, length, map, refl, sym, ap, ◌∙◌, arith, inl, inr, subst as transport}
use Rattle.std.proofs.lemmas.Bool.{and_parts}
use Rattle.std.proofs.lemmas.List.{map-append}
use Rattle.std.specs.Cmp.{unsigned_Decides}
use Rattle.std.specs.List.{flat_map, list_all}
use Rattle.std.specs.Option.{option_map, option_map_or}
use Rattle.ic_term.specs.Tree.{Tree, name, agent, Trees, no_trees, more_trees, list_of, names, Pair, pair_names}
use Rattle.ic_term.specs.Configuration.{occurrences}
use Rattle.ic_term.specs.Symbol.{is_pair_over}
use Rattle.ic_rules.specs.Renaming.{renamed, renamed_trees}
use Rattle.ic_rules.specs.Rule.{Rule, IsRule, rule_names}
use Rattle.ic_rules.specs.RuleSet.{Rules, IsRuleSet}
use Rattle.ic_rules.specs.lemmas.RenamingLaws.{Through, through-append, terms-through}
use Rattle.ic_settle.specs.Settling.{subst, subst_all, subst_pair}
use Rattle.ic_settle.specs.lemmas.SubstitutionLaws.{occurrences-append, occurrences-cons}
use Rattle.ic_round.specs.Instance.{inst}
use Rattle.ic_round.specs.Works.{is_agent_of}
use Rattle.ic_round.specs.Firing.{Active, oriented, rule_of_sides, active_pair, arguments, against, products, products_by, count_of}
use Rattle.ic_round.specs.lemmas.ActiveRules.{rule_within}
use Rattle.ic_round.specs.lemmas.SoundRules.{sound_rule}
use Rattle.ic_round.specs.lemmas.FiredNames.{SidesOf, active_sides_of, names-arguments, All-mono}
use Rattle.ic_round.specs.lemmas.FreshNames.{absent_below, absent_above, from_base, below_top, rule_below, occurrences-shift}
use Rattle.ic_rules.specs.lemmas.RenamingLaws.{flat_names-renamed}
use Rattle.ic_confluence.specs.Sameness.{renamed_pair}
use Rattle.ic_confluence.specs.lemmas.Counts.{in_pair}
use Rattle.ic_confluence.specs.lemmas.Puts.{terms_absent}
use Rattle.ic_confluence.specs.lemmas.Replacing.{in_both}

-- ---- the rule of an active equation

pub record HasRule (rs : List Rule) (p : Pair) (a : Active) : Type 0 where
  pub rule : Rule
  pub there : slice_get rs a.rule ≡ Some rule
  pub is_rule : IsRule rule
  pub left : is_agent_of rule.left (length rule.left_args) a.left ≡ true
  pub right : is_agent_of rule.right (length rule.right_args) a.right ≡ true
  pub sides : SidesOf p a

pub at_place : {X : Type 0} (xs : List X) (i : ℕ) → i < length xs → (x : X) × (slice_get xs i ≡ Some x)
at_place [] i low = absurd (omega (arith, low))
at_place (x ∷ xs) zero low = (x, refl)
at_place (x ∷ xs) (suc i) low = at_place xs i (omega (arith, low))

there_is_rule : (rs : List Rule) (t u : Tree) (a : Active) (found : Option (ℕ × Bool)) → rule_of_sides rs t u ≡ found → oriented t u found ≡ Some a
    → (r : Rule) × (slice_get rs a.rule ≡ Some r)
there_is_rule rs t u a None e f = cc
there_is_rule rs t u a (Some (i, false)) e f =
    let same : record { rule = i; left = t; right = u } ≡ a = cc in
    let P : Active → Type 0 = λ b. (r : Rule) × (slice_get rs b.rule ≡ Some r) in
    transport P same (at_place rs i (rule_within rs t u i false e))
there_is_rule rs t u a (Some (i, true)) e f =
    let same : record { rule = i; left = u; right = t } ≡ a = cc in
    let P : Active → Type 0 = λ b. (r : Rule) × (slice_get rs b.rule ≡ Some r) in
    transport P same (at_place rs i (rule_within rs t u i true e))

pub has_rule : (rs : Rules) (p : Pair) (a : Active) → IsRuleSet rs → is_pair_over rs.symbols p ≡ true → active_pair rs.rules p ≡ Some a → HasRule rs.rules p a
has_rule rs p a set over is =
    let found = there_is_rule rs.rules p.left p.right a (rule_of_sides rs.rules p.left p.right) refl is in
    let sound = sound_rule rs.symbols rs.rules p set.fitting set.each over a found.0 is found.1 in
    record { rule = found.0; there = found.1; is_rule = sound.is_rule; left = sound.left; right = sound.right; sides = active_sides_of rs.rules p a is }

pub products_are : (rs : List Rule) (p : Pair) (a : Active) (h : HasRule rs p a) (base : ℕ) → products_by rs base a ≡ products (inst h.rule base) a.left a.right
products_are rs p a h base = ap (λ o. option_map_or (λ r. products (inst r base) a.left a.right) o []) h.there

pub count_is : (rs : List Rule) (p : Pair) (a : Active) (h : HasRule rs p a) → count_of rs a.rule ≡ h.rule.names
count_is rs p a h = ap (λ o. option_map_or (λ (r : Rule). r.names) o 0) h.there

-- ---- the names of the products

pub agent_arguments : (s k : ℕ) (t : Tree) → is_agent_of s k t ≡ true → flat_map names (arguments t) ≡ names t
agent_arguments s k (name m) e = cc
agent_arguments s k (agent z ts) e = names-arguments ts

pub agent_length : (s k : ℕ) (t : Tree) → is_agent_of s k t ≡ true → length (arguments t) ≡ k
agent_length s k (name m) e = cc
agent_length s k (agent z ts) e = (unsigned_Decides (length (list_of ts)) k).0 (and_parts (z == s) (length (list_of ts) == k) e).1

pub in_against : (n : ℕ) (ts us : List Tree) → length ts ≡ length us
    → occurrences n (flat_map pair_names (against ts us)) ≡ occurrences n (flat_map names ts) + occurrences n (flat_map names us)
in_against n [] [] e = refl
in_against n (t ∷ ts) (u ∷ us) e =
    let rest = in_against n ts us (omega (arith, e)) in
    let a = occurrences-append n (names t ++ names u) (flat_map pair_names (against ts us)) in
    let b = occurrences-append n (names t) (names u) in
    let c = occurrences-append n (names t) (flat_map names ts) in
    let d = occurrences-append n (names u) (flat_map names us) in
    omega (arith, rest, a, b, c, d)
in_against n _ _ e = absurd (omega (arith, e))

pub lengths_renamed : (f : ℕ → ℕ) (ts : List Tree) → length (map (renamed f) ts) ≡ length ts
lengths_renamed f [] = refl
lengths_renamed f (t ∷ ts) = ap suc (lengths_renamed f ts)

-- the names of an active equation are in its products as often as in it; and so are those of the rule's copy
pub in_products : (rs : List Rule) (p : Pair) (a : Active) (h : HasRule rs p a) (base n : ℕ)
    → occurrences n (flat_map pair_names (products_by rs base a)) ≡ occurrences n (pair_names p) + occurrences n (map (λ k. base + k) (rule_names h.rule))
in_products rs p a h base n =
    let r = h.rule in
    let copy = inst r base in
    let is = ap (λ es. occurrences n (flat_map pair_names es)) (products_are rs p a h base) in
    let both = in_both n (against (arguments a.left) copy.left_args) (against (arguments a.right) copy.right_args) in
    let left = in_against n (arguments a.left) copy.left_args (agent_length r.left (length r.left_args) a.left h.left ∙ sym (lengths_renamed (λ k. base + k) r.left_args)) in
    let right = in_against n (arguments a.right) copy.right_args (agent_length r.right (length r.right_args) a.right h.right ∙ sym (lengths_renamed (λ k. base + k) r.right_args)) in
    let own_left = ap (occurrences n) (agent_arguments r.left (length r.left_args) a.left h.left) in
    let own_right = ap (occurrences n) (agent_arguments r.right (length r.right_args) a.right h.right) in
    let fresh_left = ap (occurrences n) (flat_names-renamed (λ k. base + k) r.left_args) in
    let fresh_right = ap (occurrences n) (flat_names-renamed (λ k. base + k) r.right_args) in
    let fresh = ap (occurrences n) (map-append (λ k. base + k) (flat_map names r.left_args) (flat_map names r.right_args)) in
    let split = occurrences-append n (map (λ k. base + k) (flat_map names r.left_args)) (map (λ k. base + k) (flat_map names r.right_args)) in
    let given = sides_count h.sides in
    omega (arith, is, both, left, right, own_left, own_right, fresh_left, fresh_right, fresh, split, given)
  where
    sides_count : SidesOf p a → occurrences n (names a.left) + occurrences n (names a.right) ≡ occurrences n (pair_names p)
    sides_count (inl (l, r)) = let own = in_pair n p in let one = ap (λ t. occurrences n (names t)) l in let other = ap (λ t. occurrences n (names t)) r in omega (arith, own, one, other)
    sides_count (inr (l, r)) = let own = in_pair n p in let one = ap (λ t. occurrences n (names t)) l in let other = ap (λ t. occurrences n (names t)) r in omega (arith, own, one, other)

-- names below the base
pub older_products : (rs : List Rule) (p : Pair) (a : Active) (h : HasRule rs p a) (base n : ℕ) → n < base
    → occurrences n (flat_map pair_names (products_by rs base a)) ≡ occurrences n (pair_names p)
older_products rs p a h base n low =
    let all = in_products rs p a h base n in
    let none = absent_below n base (map (λ k. base + k) (rule_names h.rule)) (from_base base (rule_names h.rule)) low in
    omega (arith, all, none)

-- names after the copy's
pub later_products : (rs : List Rule) (p : Pair) (a : Active) (h : HasRule rs p a) (base n : ℕ) → base + count_of rs a.rule ≤ n
    → occurrences n (flat_map pair_names (products_by rs base a)) ≡ occurrences n (pair_names p)
later_products rs p a h base n high =
    let all = in_products rs p a h base n in
    let count = count_is rs p a h in
    let none = absent_above n (base + h.rule.names) (map (λ k. base + k) (rule_names h.rule)) (below_top base h.rule.names (rule_names h.rule) (rule_below h.rule h.is_rule)) (omega (arith, high, count)) in
    omega (arith, all, none)

paired_at : (all ns : List ℕ) (n : ℕ) → list_all (λ m. occurrences m all == 2) ns ≡ true → 1 ≤ occurrences n ns → occurrences n all ≡ 2
paired_at all [] n each some = absurd (let nothing : occurrences n [] ≡ 0 = refl in omega (arith, some, nothing))
paired_at all (m ∷ ns) n each some =
    let both = and_parts (occurrences m all == 2) (list_all (λ k. occurrences k all == 2) ns) each in
    here (m == n) refl both.0 (paired_at all ns n both.1)
  where
    here : (b : Bool) → (m == n) ≡ b → (occurrences m all == 2) ≡ true → (1 ≤ occurrences n ns → occurrences n all ≡ 2) → occurrences n all ≡ 2
    here true e two later = let same = (unsigned_Decides m n).0 e in ap (λ k. occurrences k all) (sym same) ∙ (unsigned_Decides (occurrences m all) 2).0 two
    here false e two later =
        let first = occurrences-cons n m ns in
        let other : ◌≡◌ {A = ℕ} (cond (m == n) 1 0) 0 = rw e refl in
        later (omega (arith, first, other, some))

-- no name of a rule occurs in it once
pub never_once : (r : Rule) → IsRule r → (n : ℕ) → occurrences n (rule_names r) ≡ 1 → ⊥
never_once r is n once = let two = paired_at (rule_names r) (rule_names r) n is.paired (omega (arith, once)) in omega (arith, two, once)

-- no name from the base on that is new occurs in the products once
pub fresh_products : (rs : List Rule) (p : Pair) (a : Active) (h : HasRule rs p a) (base n : ℕ) → base ≤ n → occurrences n (pair_names p) ≡ 0
    → occurrences n (flat_map pair_names (products_by rs base a)) ≡ 1 → ⊥
fresh_products rs p a h base n high none once =
    let all = in_products rs p a h base n in
    let split : base + (n - base) ≡ n = omega (arith, high) in
    let P : ℕ → Type 0 = λ k. occurrences k (map (λ j. base + j) (rule_names h.rule)) ≡ occurrences (n - base) (rule_names h.rule) in
    let same = transport P split (occurrences-shift base (n - base) (rule_names h.rule)) in
    never_once h.rule h.is_rule (n - base) (omega (arith, all, same, none, once))

-- ---- a term put for a name in products

put_against : (x : ℕ) (t : Tree) (ts us : List Tree) → map (subst_pair x t) (against ts us) ≡ against (map (subst x t) ts) (map (subst x t) us)
put_against x t [] us = refl
put_against x t (a ∷ ts) [] = refl
put_against x t (a ∷ ts) (u ∷ us) = ap (λ es. record { left = subst x t a; right = subst x t u } ∷ es) (put_against x t ts us)

put_list : (x : ℕ) (t : Tree) (ts : Trees) → list_of (subst_all x t ts) ≡ map (subst x t) (list_of ts)
put_list x t no_trees = refl
put_list x t (more_trees u ts) = ap (λ us. subst x t u ∷ us) (put_list x t ts)

put_arguments : (s k x : ℕ) (t u : Tree) → is_agent_of s k u ≡ true → arguments (subst x t u) ≡ map (subst x t) (arguments u)
put_arguments s k x t (name m) e = cc
put_arguments s k x t (agent z ts) e = put_list x t ts

abbrev pub put_active : ℕ → Tree → Active → Active
put_active x t a = record { rule = a.rule; left = subst x t a.left; right = subst x t a.right }

pub put_products : (rs : List Rule) (p : Pair) (a : Active) (h : HasRule rs p a) (base x : ℕ) (t : Tree) → x < base
    → map (subst_pair x t) (products_by rs base a) ≡ products_by rs base (put_active x t a)
put_products rs p a h base x t low =
    let r = h.rule in
    let copy = inst r base in
    let left_names = flat_names-renamed (λ k. base + k) r.left_args in
    let right_names = flat_names-renamed (λ k. base + k) r.right_args in
    let none = absent_below x base (map (λ k. base + k) (rule_names r)) (from_base base (rule_names r)) low in
    let split = ap (occurrences x) (map-append (λ k. base + k) (flat_map names r.left_args) (flat_map names r.right_args)) in
    let parts = occurrences-append x (map (λ k. base + k) (flat_map names r.left_args)) (map (λ k. base + k) (flat_map names r.right_args)) in
    let fresh_left = ap (occurrences x) left_names in
    let fresh_right = ap (occurrences x) right_names in
    let lefts = terms_absent x t copy.left_args (omega (arith, none, split, parts, fresh_left)) in
    let rights = terms_absent x t copy.right_args (omega (arith, none, split, parts, fresh_right)) in
    let own_left = put_arguments r.left (length r.left_args) x t a.left h.left in
    let own_right = put_arguments r.right (length r.right_args) x t a.right h.right in
    let given = ap (map (subst_pair x t)) (products_are rs p a h base) in
    let apart = map-append (subst_pair x t) (against (arguments a.left) copy.left_args) (against (arguments a.right) copy.right_args) in
    let left = put_against x t (arguments a.left) copy.left_args ∙ (λ i. against (sym own_left i) (lefts i)) in
    let right = put_against x t (arguments a.right) copy.right_args ∙ (λ i. against (sym own_right i) (rights i)) in
    let there = ap (λ o. option_map_or (λ z. products (inst z base) (subst x t a.left) (subst x t a.right)) o []) (sym h.there) in
    given ∙ (apart ∙ ((λ i. left i ++ right i) ∙ there))

oriented_put : (x : ℕ) (t l r : Tree) (found : Option (ℕ × Bool)) → oriented (subst x t l) (subst x t r) found ≡ option_map (put_active x t) (oriented l r found)
oriented_put x t l r (Some (i, false)) = refl
oriented_put x t l r _ = refl

sides_put : (rs : List Rule) (x : ℕ) (t l r : Tree) (a : Active) → oriented l r (rule_of_sides rs l r) ≡ Some a
    → rule_of_sides rs (subst x t l) (subst x t r) ≡ rule_of_sides rs l r
sides_put rs x t (name n) r a e = cc
sides_put rs x t (agent s ts) (name n) a e = cc
sides_put rs x t (agent s ts) (agent z us) a e = refl

pub active_put : (rs : List Rule) (x : ℕ) (t : Tree) (p : Pair) (a : Active) → active_pair rs p ≡ Some a → active_pair rs (subst_pair x t p) ≡ Some (put_active x t a)
active_put rs x t p a is =
    ap (oriented (subst x t p.left) (subst x t p.right)) (sides_put rs x t p.left p.right a is)
    ∙ (oriented_put x t p.left p.right (rule_of_sides rs p.left p.right) ∙ ap (option_map (put_active x t)) is)

-- ---- names of products renamed

pub renamed_against : (f : ℕ → ℕ) (ts us : List Tree) → map (renamed_pair f) (against ts us) ≡ against (map (renamed f) ts) (map (renamed f) us)
renamed_against f [] us = refl
renamed_against f (a ∷ ts) [] = refl
renamed_against f (a ∷ ts) (u ∷ us) = ap (λ es. record { left = renamed f a; right = renamed f u } ∷ es) (renamed_against f ts us)

renamed_list : (f : ℕ → ℕ) (ts : Trees) → list_of (renamed_trees f ts) ≡ map (renamed f) (list_of ts)
renamed_list f no_trees = refl
renamed_list f (more_trees u ts) = ap (λ us. renamed f u ∷ us) (renamed_list f ts)

pub renamed_arguments : (f : ℕ → ℕ) (t : Tree) → arguments (renamed f t) ≡ map (renamed f) (arguments t)
renamed_arguments f (name m) = refl
renamed_arguments f (agent z ts) = renamed_list f ts

abbrev pub renamed_active : (ℕ → ℕ) → Active → Active
renamed_active f a = record { rule = a.rule; left = renamed f a.left; right = renamed f a.right }

-- a renaming that takes the names of one copy to those of another
pub renamed_products : (rs : List Rule) (p : Pair) (a : Active) (h : HasRule rs p a) (base later : ℕ) (f : ℕ → ℕ) → ((k : ℕ) → k < count_of rs a.rule → f (base + k) ≡ later + k)
    → map (renamed_pair f) (products_by rs base a) ≡ products_by rs later (renamed_active f a)
renamed_products rs p a h base later f moves =
    let r = h.rule in
    let copy = inst r base in
    let next_copy = inst r later in
    let count = count_is rs p a h in
    let through : Through (λ k. base + k) f (λ k. later + k) (rule_names r) =
    All-mono (λ n. n < r.names) (λ n. f (base + n) ≡ later + n) (λ n low. moves n (omega (arith, low, count))) (rule_names r) (rule_below r h.is_rule) in
    let parts = through-append (λ k. base + k) f (λ k. later + k) (flat_map names r.left_args) (flat_map names r.right_args) through in
    let lefts = terms-through (λ k. base + k) f (λ k. later + k) r.left_args parts.0 in
    let rights = terms-through (λ k. base + k) f (λ k. later + k) r.right_args parts.1 in
    let given = ap (map (renamed_pair f)) (products_are rs p a h base) in
    let apart = map-append (renamed_pair f) (against (arguments a.left) copy.left_args) (against (arguments a.right) copy.right_args) in
    let left = renamed_against f (arguments a.left) copy.left_args ∙ (λ i. against (sym (renamed_arguments f a.left) i) (lefts i)) in
    let right = renamed_against f (arguments a.right) copy.right_args ∙ (λ i. against (sym (renamed_arguments f a.right) i) (rights i)) in
    let there = ap (λ o. option_map_or (λ z. products (inst z later) (renamed f a.left) (renamed f a.right)) o []) (sym h.there) in
    given ∙ (apart ∙ ((λ i. left i ++ right i) ∙ there))

pub oriented_renamed : (f : ℕ → ℕ) (l r : Tree) (found : Option (ℕ × Bool)) → oriented (renamed f l) (renamed f r) found ≡ option_map (renamed_active f) (oriented l r found)
oriented_renamed f l r (Some (i, false)) = refl
oriented_renamed f l r _ = refl

pub sides_renamed : (rs : List Rule) (f : ℕ → ℕ) (l r : Tree) → rule_of_sides rs (renamed f l) (renamed f r) ≡ rule_of_sides rs l r
sides_renamed rs f (name n) r = refl
sides_renamed rs f (agent s ts) (name n) = refl
sides_renamed rs f (agent s ts) (agent z us) = refl

pub active_renamed : (rs : List Rule) (f : ℕ → ℕ) (p : Pair) (a : Active) → active_pair rs p ≡ Some a → active_pair rs (renamed_pair f p) ≡ Some (renamed_active f a)
active_renamed rs f p a is =
    ap (oriented (renamed f p.left) (renamed f p.right)) (sides_renamed rs f p.left p.right)
    ∙ (oriented_renamed f p.left p.right (rule_of_sides rs p.left p.right) ∙ ap (option_map (renamed_active f)) is)
