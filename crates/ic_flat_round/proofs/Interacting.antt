-- The words of an active equation's products.
use Rattle.std.proofs.Common.{◌≡◌, ℕ, ◌+◌, ◌≤◌, ◌<◌, ◌==◌, zero, suc, List, [], ◌∷◌, ◌++◌, Bool, true, false, Option, None, Some, get_or, subst, sum_by, length, map, take, drop, slice_get, refl, sym, ap, ◌∙◌, arith}
use Rattle.std.specs.Prelude.{IfSome}
use Rattle.std.specs.List.{flat_map, AllByRecursion}
use Rattle.std.specs.Option.{option_map_or}
use Rattle.std.specs.Cmp.{unsigned_Decides}
use Rattle.std.proofs.lemmas.Bool.{and_parts}
use Rattle.std.proofs.lemmas.List.{length-append, length-map, length-take-le, length-drop, take_all, take_at, drop_at}
use Rattle.std.proofs.lemmas.List.Sums.{sum_by-append}
use Rattle.std.proofs.lemmas.List.Concat.{flat_map-append}
use Rattle.std.proofs.Common.{cond, Result, Ok, Err}
use Rattle.std.proofs.lemmas.Grind.{common_steps}
use Rattle.ic_term.specs.declared.limits.TheConstants.{MAX_NODES}
use Rattle.ic_round.specs.Rounds.{is_small, names_suffice, unless_unfit}
use Rattle.ic_round.specs.declared.round_fault.RoundFault.{RoundFault}
use Rattle.ic_round.specs.declared.round_fault.RoundFault.TheVariants.{Overgrown, NamesOut}
use Rattle.std.proofs.lemmas.Option.{same_Some}
use Rattle.ic_term.specs.Configuration.{Configuration, IsConfiguration, configuration_nodes}
use Rattle.ic_term.specs.Tree.{Tree, name, agent, list_of, nodes, Pair, pair_nodes}
use Rattle.ic_term.specs.Symbol.{Symbol, is_pair_over}
use Rattle.ic_term.specs.declared.limits.TheConstants.{MAX_NEXT}
use Rattle.ic_rules.specs.Renaming.{renamed}
use Rattle.ic_rules.specs.Rule.{Rule, IsRule, rule_nodes}
use Rattle.ic_rules.specs.RuleSet.{Rules, IsRuleSet, first_unfit}
use Rattle.ic_round.specs.Firing.{Active, oriented, rule_of_sides, arguments, against, products_by, fired_pair, fired_from, fired, count_of, names_taken}
use Rattle.ic_round.specs.Works.{is_agent_of, work_at}
use Rattle.ic_round.specs.lemmas.ActiveRules.{ActiveBy, active_with, rule_within, nodes-any_base}
use Rattle.ic_round.specs.lemmas.SoundRules.{sound_rule}
use Rattle.ic_round.specs.lemmas.Planned.{one_suits}
use Rattle.ic_round.specs.lemmas.Products.{products_of_suiting}
use Rattle.ic_flat.specs.declared.word.Word.{Word}
use Rattle.ic_flat.specs.declared.word.Word.TheVariants.{Name}
use Rattle.ic_flat.specs.Words.{arguments as word_arguments, forest, IsWhole, tree_words}
use Rattle.ic_flat.specs.lemmas.WordLaws.{words-forest, whole-drop, whole-words, nodes-forest}
use Rattle.ic_flat.specs.Flat.{sides, configuration_of, configuration_words, IsFlat}
use Rattle.ic_flat.specs.lemmas.FlatLaws.{nodes-words, IsFlat-configuration_words, configuration_of-words}
use Rattle.ic_flat_rules.specs.declared.places.Sides.{Sides}
use Rattle.ic_flat_rules.specs.Standing.{tree_at, pair_at}
use Rattle.ic_flat_rules.specs.lemmas.WordPlaces.{arguments_at, arguments_there, arguments_count}
use Rattle.ic_flat_rules.specs.RuleWords.{rule_words, pairs_words}
use Rattle.ic_flat_round.specs.inner.RuleWords.{above, against_words, interaction_words}
use Rattle.ic_flat_round.proofs.RaisedWords.{forest-rule_words}

pub pairs_words-append : (ps qs : List Pair) → pairs_words (ps ++ qs) ≡ pairs_words ps ++ pairs_words qs
pairs_words-append ps qs =
    ap (flat_map tree_words) (flat_map-append (λ (e : Pair). e.left ∷ e.right ∷ []) ps qs) ∙ flat_map-append tree_words (sides ps) (sides qs)

-- an agent's arguments, by the terms from which they are taken
pub against-arguments : (base n : ℕ) (ts all terms : List Tree) → n ≤ length all → ts ≡ take n all → against_words base n all terms ≡ against_words base (length ts) ts terms
against-arguments base n ts all terms enough is =
    let count : length ts ≡ n = ap length is ∙ length-take-le n all enough in
    let whole : take (length ts) ts ≡ ts = take_all (length ts) ts (omega arith) in
    λ i. pairs_words (against ((sym is ∙ sym whole) i) (map (renamed (above base)) (take (sym count i) terms)))

count_is : (s n : ℕ) (t : Tree) → is_agent_of s n t ≡ true → length (arguments t) ≡ n
count_is s n (name m) e = cc
count_is s n (agent z ts) e = (unsigned_Decides (length (list_of ts)) n).0 (and_parts (z == s) (length (list_of ts) == n) e).1

-- the arguments of an active equation's sides have their terms
pub terms_there : (rs : List Rule) (p : Pair) (r : Rule) (b : ActiveBy rs p r) → (length (arguments b.active.left) + length (arguments b.active.right) ≤ length (forest (rule_words r)))
terms_there rs p r b =
    omega (
      arith,
      count_is r.left (length r.left_args) b.active.left b.fit.left,
      count_is r.right (length r.right_args) b.active.right b.fit.right,
      ap length (forest-rule_words r),
      length-append r.left_args r.right_args,
    )

-- nodes of equations are their words
pub length-pairs_words : (ps : List Pair) → length (pairs_words ps) ≡ sum_by pair_nodes ps
length-pairs_words ps = omega (arith, nodes-words (record { interface = []; equations = ps; next = 0 }))

length-against : (ts us : List Tree) → length ts ≡ length us → length (against ts us) ≡ length ts
length-against [] us same = refl
length-against (t ∷ ts) [] same = absurd (omega (arith, same))
length-against (t ∷ ts) (u ∷ us) same = ap suc (length-against ts us (omega (arith, same)))

-- fired, an active equation is its arguments against the terms of its rule
fired_pairs : (ss : List Symbol) (rs : List Rule) (p : Pair) (r : Rule) (base : ℕ) (b : ActiveBy rs p r) → first_unfit ss rs ≡ None → AllByRecursion IsRule rs
    → is_pair_over ss p ≡ true → base + names_taken rs p ≤ MAX_NEXT
    → against (arguments b.active.left) (map (renamed (above base)) r.left_args) ++ against (arguments b.active.right) (map (renamed (above base)) r.right_args) ≡ fired_pair rs base p
fired_pairs ss rs p r base b none each over low =
    let a = b.active in
    let sound = sound_rule ss rs p none each over in
    let taken : names_taken rs p ≡ count_of rs a.rule = ap (λ o. option_map_or (λ q. count_of rs q.rule) o 0) b.is in
    let fits = one_suits rs 0 base p a sound b.is (omega (arith, low, taken)) in
    let lefts = against (arguments a.left) (map (renamed (above base)) r.left_args) in
    let rights = against (arguments a.right) (map (renamed (above base)) r.right_args) in
    let made : lefts ++ rights ≡ products_by rs base a = products_of_suiting rs (work_at 0 base a) r (lefts ++ rights) lefts b.fit.there (sound a r b.is b.fit.there).is_rule fits refl refl in
    made ∙ ap (λ o. option_map_or (products_by rs base) o (p ∷ [])) (sym b.is)

-- so it becomes as many equations as it has arguments
fired_count : (ss : List Symbol) (rs : List Rule) (p : Pair) (r : Rule) (base : ℕ) (b : ActiveBy rs p r) → first_unfit ss rs ≡ None → AllByRecursion IsRule rs
    → is_pair_over ss p ≡ true → base + names_taken rs p ≤ MAX_NEXT
    → length (arguments b.active.left) + length (arguments b.active.right) ≡ length (fired_pair rs base p)
fired_count ss rs p r base b none each over low =
    let a = b.active in
    let f = renamed (above base) in
    let first = count_is r.left (length r.left_args) a.left b.fit.left in
    let second = count_is r.right (length r.right_args) a.right b.fit.right in
    omega (
      arith,
      ap length (fired_pairs ss rs p r base b none each over low),
      length-append (against (arguments a.left) (map f r.left_args)) (against (arguments a.right) (map f r.right_args)),
      length-against (arguments a.left) (map f r.left_args) (first ∙ sym (length-map r.left_args f)),
      length-against (arguments a.right) (map f r.right_args) (second ∙ sym (length-map r.right_args f)),
    )

fired_words : (ss : List Symbol) (rs : List Rule) (p : Pair) (r : Rule) (base : ℕ) (b : ActiveBy rs p r) → first_unfit ss rs ≡ None → AllByRecursion IsRule rs
    → is_pair_over ss p ≡ true → base + names_taken rs p ≤ MAX_NEXT
    → interaction_words base (arguments b.active.left) (arguments b.active.right) (forest (rule_words r)) ≡ pairs_words (fired_pair rs base p)
fired_words ss rs p r base b none each over low =
    let a = b.active in
    let ls = r.left_args in
    let us = r.right_args in
    let first = count_is r.left (length ls) a.left b.fit.left in
    let second = count_is r.right (length us) a.right b.fit.right in
    let front : take (length (arguments a.left)) (forest (rule_words r)) ≡ ls =
    ap (take (length (arguments a.left))) (forest-rule_words r) ∙ take_at ls us (length (arguments a.left)) (sym first) in
    let back : drop (length (arguments a.left)) (forest (rule_words r)) ≡ us =
    ap (drop (length (arguments a.left))) (forest-rule_words r) ∙ drop_at ls us (length (arguments a.left)) (sym first) in
    let all : take (length (arguments a.right)) us ≡ us = take_all (length (arguments a.right)) us (omega (arith, second)) in
    let f = renamed (above base) in
    let lefts = against (arguments a.left) (map f ls) in
    let rights = against (arguments a.right) (map f us) in
    let whole : take (length (arguments a.left)) (arguments a.left) ≡ arguments a.left = take_all (length (arguments a.left)) (arguments a.left) (omega arith) in
    let whole_right : take (length (arguments a.right)) (arguments a.right) ≡ arguments a.right = take_all (length (arguments a.right)) (arguments a.right) (omega arith) in
    let one : against_words base (length (arguments a.left)) (arguments a.left) (forest (rule_words r)) ≡ pairs_words lefts =
    λ i. pairs_words (against (whole i) (map f (front i))) in
    let two : against_words base (length (arguments a.right)) (arguments a.right) (drop (length (arguments a.left)) (forest (rule_words r))) ≡ pairs_words rights =
    ap (against_words base (length (arguments a.right)) (arguments a.right)) back ∙ (λ i. pairs_words (against (whole_right i) (map f (all i)))) in
    (λ i. one i ++ two i) ∙ sym (pairs_words-append lefts rights) ∙ ap pairs_words (fired_pairs ss rs p r base b none each over low)

-- ---- one agent's part

pub count_at : (ws : List Word) (place n : ℕ) → IsWhole ws → place < length ws → n ≡ word_arguments (get_or ws place (Name 0)) → n ≡ length (arguments (tree_at ws place))
count_at ws place n whole there is = is ∙ sym (arguments_count ws place (Name 0) whole there)

pub enough_at : (ws : List Word) (place n : ℕ) → IsWhole ws → place < length ws → n ≡ word_arguments (get_or ws place (Name 0)) → n ≤ length (forest (drop (place + 1) ws))
enough_at ws place n whole there is = omega (arith, is, arguments_there ws place (Name 0) whole there)

pub agent_words : (ws : List Word) (place n base : ℕ) (terms : List Tree) → IsWhole ws → place < length ws → n ≡ word_arguments (get_or ws place (Name 0))
    → against_words base n (forest (drop (place + 1) ws)) terms ≡ against_words base (length (arguments (tree_at ws place))) (arguments (tree_at ws place)) terms
agent_words ws place n base terms whole there is =
    let all = forest (drop (place + 1) ws) in
    against-arguments base n (arguments (tree_at ws place)) all terms (enough_at ws place n whole there is)
    (arguments_at ws place (Name 0) there ∙ ap (λ k. take k all) (sym is))

-- the second agent's part, by the place where its terms begin
pub second_words : (ws vs : List Word) (place n m from base : ℕ) (ts : List Tree) → IsWhole ws → place < length ws → n ≡ word_arguments (get_or ws place (Name 0))
    → m ≡ length ts → forest (drop from vs) ≡ drop m (forest vs)
    → against_words base n (forest (drop (place + 1) ws)) (forest (drop from vs))
    ≡ against_words base (length (arguments (tree_at ws place))) (arguments (tree_at ws place)) (drop (length ts) (forest vs))
second_words ws vs place n m from base ts whole there is count rest =
    agent_words ws place n base (forest (drop from vs)) whole there is
    ∙ ap (against_words base (length (arguments (tree_at ws place))) (arguments (tree_at ws place))) (rest ∙ ap (λ k. drop k (forest vs)) count)

-- ---- whichever side is the rule's left one

-- the products of two sides are the equation fired
pub record Fires (rs : List Rule) (base : ℕ) (p : Pair) (t u : Tree) (r : Rule) : Type 0 where
  pub there : length (arguments t) + length (arguments u) ≤ length (forest (rule_words r))
  pub words : interaction_words base (arguments t) (arguments u) (forest (rule_words r)) ≡ pairs_words (fired_pair rs base p)
  pub count : length (arguments t) + length (arguments u) ≡ length (fired_pair rs base p)

pub fires : (ss : List Symbol) (rs : List Rule) (p : Pair) (i : ℕ) (turned : Bool) (r : Rule) (base : ℕ) → first_unfit ss rs ≡ None → AllByRecursion IsRule rs
    → is_pair_over ss p ≡ true → rule_of_sides rs p.left p.right ≡ Some (i, turned) → slice_get rs i ≡ Some r → base + names_taken rs p ≤ MAX_NEXT
    → (a : Active) → oriented p.left p.right (Some (i, turned)) ≡ Some a → Fires rs base p a.left a.right r
fires ss rs p i turned r base none each over found there low a is =
    let b = active_with ss rs p i turned r none over found there in
    let same : b.active ≡ a = same_Some b.active a (sym b.is ∙ ap (oriented p.left p.right) found ∙ is) in
    let P : Active → Type 0 = λ d. Fires rs base p d.left d.right r in
    subst P same (record { there = terms_there rs p r b; words = fired_words ss rs p r base b none each over low; count = fired_count ss rs p r base b none each over low })

pub rule_there : (rs : List Rule) (i : ℕ) → i < length rs → (r : Rule) × (slice_get rs i ≡ Some r)
rule_there [] i within = absurd (omega (arith, within))
rule_there (r ∷ rs) zero within = (r, refl)
rule_there (r ∷ rs) (suc i) within = rule_there rs i (omega (arith, within))

-- ---- a whole configuration

-- the words of a fired configuration
pub fired_configuration : (rs : List Rule) (c : Configuration)
    → configuration_words (fired rs c) ≡ flat_map tree_words c.interface ++ pairs_words (fired_from rs c.next c.equations)
fired_configuration rs c = flat_map-append tree_words c.interface (sides (fired_from rs c.next c.equations))

-- the words of its interface are those of the configuration's
pub interface_words : (c : Configuration) (ws : List Word) (place : ℕ) → ws ≡ configuration_words c → place ≤ length (configuration_words c)
    → forest (drop place (configuration_words c)) ≡ sides c.equations → take place ws ≡ flat_map tree_words c.interface
interface_words c ws place is within after =
    let cw = configuration_words c in
    let front = flat_map tree_words c.interface in
    let back = flat_map tree_words (sides c.equations) in
    let split : cw ≡ front ++ back = flat_map-append tree_words c.interface (sides c.equations) in
    let rest : drop place cw ≡ back = sym (words-forest (drop place cw) (whole-drop place cw (whole-words (c.interface ++ sides c.equations)))) ∙ ap (flat_map tree_words) after in
    let count : length front ≡ place = omega (arith, within, ap length split, length-append front back, ap length rest, length-drop place cw) in
    ap (take place) (is ∙ split) ∙ take_at front back place count

-- ---- an equation, by what its rule is found to be

pub some_at : (P : Rule → Type 0) (o : Option Rule) (r : Rule) → o ≡ Some r → IfSome o P → P r
some_at P o r e holds = subst (λ (q : Option Rule). IfSome q P) e holds

-- an equation without a rule stays
pub record Inert (rs : List Rule) (base : ℕ) (p : Pair) : Type 0 where
  pub stays : fired_pair rs base p ≡ p ∷ []
  pub names : names_taken rs p ≡ 0

pub inert_by : (rs used : Rules) (p : Pair) (base : ℕ) (answer : Option (ℕ × Bool)) → used ≡ rs → answer ≡ rule_of_sides used.rules p.left p.right → answer ≡ None
    → Inert rs.rules base p
inert_by rs used p base answer same told is =
    let none : rule_of_sides rs.rules p.left p.right ≡ None = ap (λ (q : Rules). rule_of_sides q.rules p.left p.right) (sym same) ∙ sym told ∙ is in
    record {
      stays = ap (λ o. option_map_or (products_by rs.rules base) (oriented p.left p.right o) (p ∷ [])) none;
      names = ap (λ o. option_map_or (λ a. count_of rs.rules a.rule) (oriented p.left p.right o) 0) none;
    }

-- the words of a rule are its nodes
length-rule_words : (r : Rule) → length (rule_words r) ≡ rule_nodes r
length-rule_words r =
    omega (
      arith,
      nodes-forest (rule_words r),
      ap (sum_by nodes) (forest-rule_words r),
      sum_by-append nodes r.left_args r.right_args,
    )

-- an equation fires with its sides in the order of its rule
fires_ordered : (rs : Rules) (p : Pair) (i : ℕ) (turned : Bool) (r : Rule) (base : ℕ) → IsRuleSet rs → is_pair_over rs.symbols p ≡ true
    → rule_of_sides rs.rules p.left p.right ≡ Some (i, turned) → slice_get rs.rules i ≡ Some r → base + names_taken rs.rules p ≤ MAX_NEXT
    → Fires rs.rules base p (cond turned p.right p.left) (cond turned p.left p.right) r
fires_ordered rs p i true r base set over found there low =
    fires rs.symbols rs.rules p i true r base set.fitting set.each over found there low (record { rule = i; left = p.right; right = p.left }) refl
fires_ordered rs p i false r base set over found there low =
    fires rs.symbols rs.rules p i false r base set.fitting set.each over found there low (record { rule = i; left = p.left; right = p.right }) refl

-- the same by the places of the sides
pub fires_at : (rs : List Rule) (base : ℕ) (ws : List Word) (s : Sides) (turned : Bool) (o : ℕ × ℕ) (r : Rule) → o ≡ cond turned (s.right, s.left) (s.left, s.right)
    → Fires rs base (pair_at ws s) (cond turned (tree_at ws s.right) (tree_at ws s.left)) (cond turned (tree_at ws s.left) (tree_at ws s.right)) r
    → Fires rs base (pair_at ws s) (tree_at ws o.0) (tree_at ws o.1) r
fires_at rs base ws s true o r is f = subst (λ (q : ℕ × ℕ). Fires rs base (pair_at ws s) (tree_at ws q.0) (tree_at ws q.1) r) (sym is) f
fires_at rs base ws s false o r is f = subst (λ (q : ℕ × ℕ). Fires rs base (pair_at ws s) (tree_at ws q.0) (tree_at ws q.1) r) (sym is) f

-- all that is known of an equation whose rule is found at a place
pub record Ruled (rs : Rules) (base : ℕ) (p : Pair) (i : ℕ) (turned : Bool) : Type 0 where
  pub within : i < length rs.rules
  pub rule : Rule
  pub there : slice_get rs.rules i ≡ Some rule
  pub names : names_taken rs.rules p ≡ rule.names
  pub nodes : length (pairs_words (fired_pair rs.rules base p)) + 2 ≡ pair_nodes p + length (rule_words rule)
  pub fires : base + names_taken rs.rules p ≤ MAX_NEXT → Fires rs.rules base p (cond turned p.right p.left) (cond turned p.left p.right) rule

pub ruled : (rs used : Rules) (p : Pair) (i : ℕ) (turned : Bool) (base : ℕ) (answer : Option (ℕ × Bool)) → used ≡ rs → answer ≡ rule_of_sides used.rules p.left p.right
    → answer ≡ Some (i, turned) → IsRuleSet used → is_pair_over rs.symbols p ≡ true → Ruled rs base p i turned
ruled rs used p i turned base answer same told is sound over =
    let found : rule_of_sides rs.rules p.left p.right ≡ Some (i, turned) = ap (λ (q : Rules). rule_of_sides q.rules p.left p.right) (sym same) ∙ sym told ∙ is in
    let set = subst (λ (q : Rules). IsRuleSet q) same sound in
    let within = rule_within rs.rules p.left p.right i turned found in
    let rule = rule_there rs.rules i within in
    let active = active_with rs.symbols rs.rules p i turned rule.0 set.fitting over found rule.1 in
    record {
      within = within;
      rule = rule.0;
      there = rule.1;
      names = active.names;
      nodes = omega (arith, length-pairs_words (fired_pair rs.rules base p), nodes-any_base rs.rules p base, active.nodes, length-rule_words rule.0);
      fires = fires_ordered rs p i turned rule.0 base set over found rule.1;
    }

-- ---- a fired configuration's words

pub flat_parts : (d : Configuration) (ws : List Word) (terms equations next : ℕ) → IsConfiguration d → ws ≡ configuration_words d → terms ≡ length d.interface
    → equations ≡ length d.equations → next ≡ d.next → IsFlat ws terms equations next × (configuration_of ws terms next ≡ d)
flat_parts d ws terms equations next sound words interface count number = (
  rw (words, interface, count, number) (IsFlat-configuration_words d sound),
  (λ i. configuration_of (words i) (interface i) (number i)) ∙ configuration_of-words d,
)

pub answered : (rs : List Rule) (c d : Configuration) → configuration_nodes (fired rs c) ≤ MAX_NODES → (fired rs c).next ≤ MAX_NEXT → unless_unfit rs c d ≡ Ok d
answered rs c d small low =
    let first : is_small rs c ≡ true = grind (arith, common_steps, small) in
    let second : names_suffice rs c ≡ true = grind (arith, common_steps, low) in
    (λ i. cond (first i) (cond (second i) (Ok d) (Err NamesOut)) (Err Overgrown))

-- what a round fires where it fits
pub fired_where_fit : (rs : List Rule) (c v w : Configuration) → Ok v ≡ unless_unfit rs c w → v ≡ w
fired_where_fit rs c v w e = by (is_small rs c) (names_suffice rs c) e
  where
    by : (a b : Bool) → ◌≡◌ {A = Result Configuration RoundFault} (Ok v) (cond a (cond b (Ok w) (Err NamesOut)) (Err Overgrown)) → v ≡ w
    by true true e = cc
    by true false e = cc
    by false b e = cc
