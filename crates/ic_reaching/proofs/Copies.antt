-- Lemmas: products with any fresh names: how often names occur in them, and how they are renamed.
use Rattle.std.proofs.Common.{◌≡◌, ℕ, ◌+◌, ◌≤◌, ◌<◌, ◌==◌, List, [], ◌∷◌, ◌++◌, Bool, true, false, cond, length, map, refl, sym, ap, ◌∙◌, arith, inl, inr}
use Rattle.std.proofs.lemmas.Grind.{flat_map-append}
use Rattle.std.proofs.lemmas.List.{map-append}
use Rattle.std.specs.Cmp.{unsigned_Decides}
use Rattle.std.specs.List.{AllByRecursion, flat_map}
use Rattle.std.specs.Option.{option_map_or}
use Rattle.ic_term.specs.Tree.{Tree, name, agent, Trees, no_trees, more_trees, names, names_of, Pair, pair_names}
use Rattle.ic_term.specs.Configuration.{occurrences}
use Rattle.ic_rules.specs.Renaming.{renamed, renamed_trees}
use Rattle.ic_rules.specs.Rule.{Rule, IsRule, rule_names}
use Rattle.ic_rules.specs.lemmas.RenamingLaws.{Through, through-append, terms-through, flat_names-renamed}
use Rattle.ic_settle.specs.lemmas.SubstitutionLaws.{occurrences-append, occurrences-cons, All-front, All-back}
use Rattle.ic_round.specs.Firing.{Active, arguments, against, products}
use Rattle.ic_round.specs.lemmas.FiredNames.{SidesOf, All-mono}
use Rattle.ic_round.specs.lemmas.FreshNames.{apart_false, rule_below, rule_twice}
use Rattle.ic_confluence.specs.Sameness.{renamed_pair}
use Rattle.ic_confluence.specs.lemmas.Actives.{HasRule, agent_arguments, agent_length, in_against, lengths_renamed, never_once, renamed_against, renamed_arguments}
use Rattle.ic_reaching.specs.FreshNames.{copied, products_with}
use Rattle.ic_reaching.proofs.Exchanges.{Apart}

-- ---- the rule of an active equation

pub products_are : (rs : List Rule) (p : Pair) (a : Active) (h : HasRule rs p a) (u : ℕ → ℕ) → products_with rs u a ≡ products (copied h.rule u) a.left a.right
products_are rs p a h u = ap (λ o. option_map_or (λ r. products (copied r u) a.left a.right) o []) h.there

-- ---- the names of the products

-- the names of an active equation are in its products as often as in it; and so are those of the rule's copy
pub in_products : (rs : List Rule) (p : Pair) (a : Active) (h : HasRule rs p a) (u : ℕ → ℕ) (n : ℕ)
    → occurrences n (flat_map pair_names (products_with rs u a)) ≡ occurrences n (pair_names p) + occurrences n (map u (rule_names h.rule))
in_products rs p a h u n =
    let r = h.rule in
    let copy = copied r u in
    let is = ap (λ es. occurrences n (flat_map pair_names es)) (products_are rs p a h u) in
    let apart = ap (occurrences n) (flat_map-append pair_names (against (arguments a.left) copy.left_args) (against (arguments a.right) copy.right_args)) in
    let both = occurrences-append n (flat_map pair_names (against (arguments a.left) copy.left_args)) (flat_map pair_names (against (arguments a.right) copy.right_args)) in
    let left = in_against n (arguments a.left) copy.left_args (agent_length r.left (length r.left_args) a.left h.left ∙ sym (lengths_renamed u r.left_args)) in
    let right = in_against n (arguments a.right) copy.right_args (agent_length r.right (length r.right_args) a.right h.right ∙ sym (lengths_renamed u r.right_args)) in
    let own_left = ap (occurrences n) (agent_arguments r.left (length r.left_args) a.left h.left) in
    let own_right = ap (occurrences n) (agent_arguments r.right (length r.right_args) a.right h.right) in
    let fresh_left = ap (occurrences n) (flat_names-renamed u r.left_args) in
    let fresh_right = ap (occurrences n) (flat_names-renamed u r.right_args) in
    let fresh = ap (occurrences n) (map-append u (flat_map names r.left_args) (flat_map names r.right_args)) in
    let split = occurrences-append n (map u (flat_map names r.left_args)) (map u (flat_map names r.right_args)) in
    let given = sides_count h.sides in
    omega (arith, is, apart, both, left, right, own_left, own_right, fresh_left, fresh_right, fresh, split, given)
  where
    sides_count : SidesOf p a → occurrences n (names a.left) + occurrences n (names a.right) ≡ occurrences n (pair_names p)
    sides_count (inl (l, r)) =
        let own = occurrences-append n (names p.left) (names p.right) in
        let one = ap (λ t. occurrences n (names t)) l in
        let other = ap (λ t. occurrences n (names t)) r in
        omega (arith, own, one, other)
    sides_count (inr (l, r)) =
        let own = occurrences-append n (names p.left) (names p.right) in
        let one = ap (λ t. occurrences n (names t)) l in
        let other = ap (λ t. occurrences n (names t)) r in
        omega (arith, own, one, other)

-- ---- the names of the copy

mapped_absent : (u : ℕ → ℕ) (m n : ℕ) (ks : List ℕ) → AllByRecursion (λ k. k < m) ks → ((k : ℕ) → k < m → u k ≡ n → ⊥) → occurrences n (map u ks) ≡ 0
mapped_absent u m n [] all none = refl
mapped_absent u m n (k ∷ ks) all none =
    let first = occurrences-cons n (u k) (map u ks) in
    let other : ◌≡◌ {A = ℕ} (cond (u k == n) 1 0) 0 = rw (apart_false (u k) n (none k all.0)) refl in
    let rest = mapped_absent u m n ks all.1 none in
    omega (arith, first, other, rest)

same_test : (u : ℕ → ℕ) (m j k : ℕ) → Apart m u → j < m → k < m → (b : Bool) → (j == k) ≡ b → (u j == u k) ≡ (j == k)
same_test u m j k apart low less true e = (unsigned_Decides (u j) (u k)).1 (ap u ((unsigned_Decides j k).0 e)) ∙ sym e
same_test u m j k apart low less false e =
    apart_false (u j) (u k) (λ same. let yes = (unsigned_Decides j k).1 (apart j k low less same) in let bad : true ≡ false = sym yes ∙ e in cc) ∙ sym e

mapped_at : (u : ℕ → ℕ) (m k : ℕ) (ks : List ℕ) → Apart m u → AllByRecursion (λ j. j < m) ks → k < m → occurrences (u k) (map u ks) ≡ occurrences k ks
mapped_at u m k [] apart all low = refl
mapped_at u m k (j ∷ ks) apart all low =
    let first = occurrences-cons (u k) (u j) (map u ks) in
    let own = occurrences-cons k j ks in
    let test : ◌≡◌ {A = ℕ} (cond (u j == u k) 1 0) (cond (j == k) 1 0) = ap (λ b. cond b 1 0) (same_test u m j k apart all.0 low (j == k) refl) in
    let rest = mapped_at u m k ks apart all.1 low in
    omega (arith, first, own, test, rest)

-- nor in its copy, and there at most twice
pub copy_never_once : (r : Rule) → IsRule r → (u : ℕ → ℕ) (k : ℕ) → Apart r.names u → k < r.names → occurrences (u k) (map u (rule_names r)) ≡ 1 → ⊥
copy_never_once r is u k apart low once = never_once r is k (sym (mapped_at u r.names k (rule_names r) apart (rule_below r is) low) ∙ once)

pub copy_twice : (r : Rule) → IsRule r → (u : ℕ → ℕ) (k : ℕ) → Apart r.names u → k < r.names → occurrences (u k) (map u (rule_names r)) ≤ 2
copy_twice r is u k apart low =
    let same = mapped_at u r.names k (rule_names r) apart (rule_below r is) low in
    let few = rule_twice r is k in
    omega (arith, same, few)

pub copy_absent : (r : Rule) → IsRule r → (u : ℕ → ℕ) (n : ℕ) → ((k : ℕ) → k < r.names → u k ≡ n → ⊥) → occurrences n (map u (rule_names r)) ≡ 0
copy_absent r is u n none = mapped_absent u r.names n (rule_names r) (rule_below r is) none

-- ---- products renamed

-- a renaming that keeps both sides, and takes the names of one copy to those of another
pub renamed_products : (rs : List Rule) (p : Pair) (a : Active) (h : HasRule rs p a) (u v f : ℕ → ℕ) → renamed f a.left ≡ a.left → renamed f a.right ≡ a.right
    → ((k : ℕ) → k < h.rule.names → f (u k) ≡ v k) → map (renamed_pair f) (products_with rs u a) ≡ products_with rs v a
renamed_products rs p a h u v f left_stays right_stays moves =
    let r = h.rule in
    let copy = copied r u in
    let through : Through u f v (rule_names r) = All-mono (λ n. n < r.names) (λ n. f (u n) ≡ v n) moves (rule_names r) (rule_below r h.is_rule) in
    let parts = through-append u f v (flat_map names r.left_args) (flat_map names r.right_args) through in
    let lefts = terms-through u f v r.left_args parts.0 in
    let rights = terms-through u f v r.right_args parts.1 in
    let given = ap (map (renamed_pair f)) (products_are rs p a h u) in
    let apart = map-append (renamed_pair f) (against (arguments a.left) copy.left_args) (against (arguments a.right) copy.right_args) in
    let own_left = sym (renamed_arguments f a.left) ∙ ap arguments left_stays in
    let own_right = sym (renamed_arguments f a.right) ∙ ap arguments right_stays in
    let left = renamed_against f (arguments a.left) copy.left_args ∙ (λ i. against (own_left i) (lefts i)) in
    let right = renamed_against f (arguments a.right) copy.right_args ∙ (λ i. against (own_right i) (rights i)) in
    given ∙ (apart ∙ ((λ i. left i ++ right i) ∙ sym (products_are rs p a h v)))

-- ---- names that stay

mutual
  pub renamed_stays : (f : ℕ → ℕ) (t : Tree) → AllByRecursion (λ n. f n ≡ n) (names t) → renamed f t ≡ t
  renamed_stays f (name n) each = ap name each.0
  renamed_stays f (agent s ts) each = ap (agent s) (renamed_trees_stay f ts each)

  renamed_trees_stay : (f : ℕ → ℕ) (ts : Trees) → AllByRecursion (λ n. f n ≡ n) (names_of ts) → renamed_trees f ts ≡ ts
  renamed_trees_stay f no_trees each = refl
  renamed_trees_stay f (more_trees t ts) each =
      let here = renamed_stays f t (All-front (λ n. f n ≡ n) (names t) (names_of ts) each) in
      let rest = renamed_trees_stay f ts (All-back (λ n. f n ≡ n) (names t) (names_of ts) each) in
      λ i. more_trees (here i) (rest i)

pub renamed_terms_stay : (f : ℕ → ℕ) (ts : List Tree) → AllByRecursion (λ n. f n ≡ n) (flat_map names ts) → map (renamed f) ts ≡ ts
renamed_terms_stay f [] each = refl
renamed_terms_stay f (t ∷ ts) each =
    let here = renamed_stays f t (All-front (λ n. f n ≡ n) (names t) (flat_map names ts) each) in
    let rest = renamed_terms_stay f ts (All-back (λ n. f n ≡ n) (names t) (flat_map names ts) each) in
    λ i. here i ∷ rest i

pub renamed_pair_stays : (f : ℕ → ℕ) (p : Pair) → AllByRecursion (λ n. f n ≡ n) (pair_names p) → renamed_pair f p ≡ p
renamed_pair_stays f p each =
    let left = renamed_stays f p.left (All-front (λ n. f n ≡ n) (names p.left) (names p.right) each) in
    let right = renamed_stays f p.right (All-back (λ n. f n ≡ n) (names p.left) (names p.right) each) in
    λ i. record { left = left i; right = right i }

pub renamed_pairs_stay : (f : ℕ → ℕ) (es : List Pair) → AllByRecursion (λ n. f n ≡ n) (flat_map pair_names es) → map (renamed_pair f) es ≡ es
renamed_pairs_stay f [] each = refl
renamed_pairs_stay f (p ∷ es) each =
    let here = renamed_pair_stays f p (All-front (λ n. f n ≡ n) (pair_names p) (flat_map pair_names es) each) in
    let rest = renamed_pairs_stay f es (All-back (λ n. f n ≡ n) (pair_names p) (flat_map pair_names es) each) in
    λ i. here i ∷ rest i

-- an active equation's own sides stay where its names do
pub sides_stay : (f : ℕ → ℕ) (p : Pair) (a : Active) → SidesOf p a → AllByRecursion (λ n. f n ≡ n) (pair_names p) → (renamed f a.left ≡ a.left) × (renamed f a.right ≡ a.right)
sides_stay f p a (inl (l, r)) each =
    let left = renamed_stays f p.left (All-front (λ n. f n ≡ n) (names p.left) (names p.right) each) in
    let right = renamed_stays f p.right (All-back (λ n. f n ≡ n) (names p.left) (names p.right) each) in
    (ap (renamed f) l ∙ (left ∙ sym l), ap (renamed f) r ∙ (right ∙ sym r))
sides_stay f p a (inr (l, r)) each =
    let left = renamed_stays f p.left (All-front (λ n. f n ≡ n) (names p.left) (names p.right) each) in
    let right = renamed_stays f p.right (All-back (λ n. f n ≡ n) (names p.left) (names p.right) each) in
    (ap (renamed f) l ∙ (right ∙ sym l), ap (renamed f) r ∙ (left ∙ sym r))
