-- Lemmas: sums modulo 2^64, and what the rules change.
use Rattle.std.proofs.Common.{◌≡◌, ℕ, zero, suc, ◌+◌, ◌-◌, ◌*◌, ◌^◌, ◌%◌, ◌<◌, ◌≤◌, List, [], ◌∷◌, ◌++◌, true, false, ◌⊎◌, inl, inr, Option, None, Some, Result, Ok, Err, length, map, min, drop, nat_le, sum_by, slice_get, refl, sym, ap, ◌∙◌, append-nil, arith, subst}
use Rattle.std.specs.Prelude.{IfOk, IsTrue}
use Rattle.std.specs.List.{flat_map, list_all}
use Rattle.std.specs.Option.{option_map_or}
use Rattle.std.specs.Cmp.{unsigned_Decides}
use Rattle.std.proofs.lemmas.Bool.{and_from, and_parts, leb-true}
use Rattle.std.proofs.lemmas.List.{length-append}
use Rattle.std.proofs.lemmas.List.Sums.{sum_by-append}
use Rattle.std.proofs.lemmas.Grind.{flat_map-append}
use Rattle.std.proofs.lemmas.Nat.{mul-mod_second}
use Rattle.std.proofs.Math.Dec.{leb, ltb}
use Rattle.std.proofs.lemmas.Bool.Decides.{leb_tells}
use Rattle.ic_term.specs.Tree.{Tree, names, nodes, Pair, pair_nodes}
use Rattle.ic_term.specs.Configuration.{Configuration, configuration_names, configuration_nodes}
use Rattle.ic_term.specs.Symbol.{Symbol, has_arity, is_over, is_tree_over}
use Rattle.ic_rules.specs.Rule.{Rule, rule_names, rule_nodes}
use Rattle.ic_rules.specs.RuleSet.{Rules, IsRuleSet, IsRuleOver}
use Rattle.ic_rules.specs.declared.limits.TheConstants.{MAX_RULE_NODES, MAX_WIDE_RULES}
use Rattle.ic_rules.specs.lemmas.FitLaws.{rule_over_at}
use Rattle.ic_confluence.specs.Agents.{configuration_symbols, symbols}
use Rattle.ic_generations.specs.Figures.{amount, amount_made, amount_spent, arity_of}
use Rattle.ic_meaning.specs.Plans.{rule_number}
use Rattle.ic_in_place.specs.Amounts.{by_counts}
use Rattle.ic_by_rounds.specs.declared.amounts.Amounts.{Amounts}
use Rattle.ic_by_rounds.specs.inner.Amounts.{Agree, IsChange, one_each, products}
use Rattle.ic_by_rounds.proofs.RowsTold.{ones}

-- ---- sums of products

times_same : (n a b m : ℕ) → Agree (a + b) m → Agree (n * a + n * b) (n * m)
times_same n a b m same =
    let apart : n * a + n * b ≡ n * (a + b) = omega arith in
    ap (λ (x : ℕ). x % 2 ^ 64) apart
    ∙ (sym (mul-mod_second n (a + b) (2 ^ 64)) ∙ (ap (λ (x : ℕ). (n * x) % 2 ^ 64) same ∙ mul-mod_second n m (2 ^ 64)))

add_both : (a b c d : ℕ) → Agree a b → Agree c d → Agree (a + c) (b + d)
add_both a b c d one two = omega arith

-- what plans change that fired so often is what they make less what they spend
pub changed : (rs : Rules) (f : ℕ → ℕ) (g : Amounts → ℕ) (numbers : List ℕ) (fired : List ℕ) (changes : List Amounts) (k : ℕ) → length fired ≤ length changes
    → ((i : ℕ) (change : Amounts) → slice_get changes i ≡ Some change
    → Agree (g change + amount_spent f rs.rules (rule_number numbers (k + i))) (amount_made f rs.rules (rule_number numbers (k + i))))
    → Agree (products fired (map g changes) + by_counts (amount_spent f rs.rules) numbers fired k) (by_counts (amount_made f rs.rules) numbers fired k)
changed rs f g numbers [] changes k few each = refl
changed rs f g numbers (n ∷ fired) [] k few each = absurd (omega (arith, few))
changed rs f g numbers (n ∷ fired) (c ∷ changes) k few each =
    let spent : ℕ = amount_spent f rs.rules (rule_number numbers k) in
    let made : ℕ = amount_made f rs.rules (rule_number numbers k) in
    let same : k + 0 ≡ k = omega arith in
    let here : Agree (g c + spent) made =
    subst (λ (j : ℕ). Agree (g c + amount_spent f rs.rules (rule_number numbers j)) (amount_made f rs.rules (rule_number numbers j))) same (each 0 c refl) in
    let first : Agree (n * g c + n * spent) (n * made) = times_same n (g c) spent made here in
    let later : (i : ℕ) (change : Amounts) → slice_get changes i ≡ Some change
    → Agree (g change + amount_spent f rs.rules (rule_number numbers ((k + 1) + i))) (amount_made f rs.rules (rule_number numbers ((k + 1) + i))) = λ i change there.
    let moved : k + suc i ≡ (k + 1) + i = omega arith in
    subst (λ (j : ℕ). Agree (g change + amount_spent f rs.rules (rule_number numbers j)) (amount_made f rs.rules (rule_number numbers j))) moved (each (suc i) change there) in
    let rest = changed rs f g numbers fired changes (k + 1) (omega (arith, few)) later in
    let both = add_both (n * g c + n * spent) (n * made) (products fired (map g changes) + by_counts (amount_spent f rs.rules) numbers fired (k + 1))
    (by_counts (amount_made f rs.rules) numbers fired (k + 1)) first rest in
    let order : (n * g c + products fired (map g changes)) + (n * spent + by_counts (amount_spent f rs.rules) numbers fired (k + 1))
    ≡ (n * g c + n * spent) + (products fired (map g changes) + by_counts (amount_spent f rs.rules) numbers fired (k + 1)) = omega arith in
    ap (λ (x : ℕ). x % 2 ^ 64) order ∙ both

-- the same of all of them
pub all_changed : (rs : Rules) (f : ℕ → ℕ) (g : Amounts → ℕ) (numbers : List ℕ) (fired : List ℕ) (changes : List Amounts) → length fired ≤ length changes
    → ((i : ℕ) (change : Amounts) → slice_get changes i ≡ Some change → Agree (g change + amount_spent f rs.rules (rule_number numbers i)) (amount_made f rs.rules (rule_number numbers i)))
    → Agree (products fired (map g changes) + by_counts (amount_spent f rs.rules) numbers fired 0) (by_counts (amount_made f rs.rules) numbers fired 0)
all_changed rs f g numbers fired changes few each =
    changed rs f g numbers fired changes 0 few (λ i change there.
    let same : i ≡ 0 + i = omega arith in
    subst (λ (j : ℕ). Agree (g change + amount_spent f rs.rules (rule_number numbers j)) (amount_made f rs.rules (rule_number numbers j))) same (each i change there))

-- the products from a place on
pub products_at : (g : Amounts → ℕ) (fired : List ℕ) (changes : List Amounts) (k n : ℕ) (c : Amounts) → slice_get fired k ≡ Some n → slice_get changes k ≡ Some c
    → products (drop k fired) (map g (drop k changes)) ≡ n * g c + products (drop (k + 1) fired) (map g (drop (k + 1) changes))
products_at g fired changes k n c there also =
    let later : suc k ≡ k + 1 = omega arith in
    subst (λ (j : ℕ). products (drop k fired) (map g (drop k changes)) ≡ n * g c + products (drop j fired) (map g (drop j changes))) later (at fired changes k there also)
  where
    at : (fired : List ℕ) (changes : List Amounts) (k : ℕ) → slice_get fired k ≡ Some n → slice_get changes k ≡ Some c
        → products (drop k fired) (map g (drop k changes)) ≡ n * g c + products (drop (suc k) fired) (map g (drop (suc k) changes))
    at [] changes k there also = absurd (cc there)
    at (m ∷ fired) [] k there also = absurd (cc also)
    at (m ∷ fired) (d ∷ changes) zero there also =
        let same : m ≡ n = cc in
        let as_well : d ≡ c = cc in
        λ i. same i * g (as_well i) + products fired (map g changes)
    at (m ∷ fired) (d ∷ changes) (suc k) there also = at fired changes k there also

pub none_left : (g : Amounts → ℕ) (fired : List ℕ) (changes : List Amounts) (k : ℕ) → length fired ≤ k → products (drop k fired) (map g (drop k changes)) ≡ 0
none_left g [] changes zero low = refl
none_left g [] changes (suc k) low = refl
none_left g (n ∷ fired) changes zero low = absurd (omega (arith, low))
none_left g (n ∷ fired) [] (suc k) low = by (drop k fired)
  where
    by : (ns : List ℕ) → products ns [] ≡ 0
    by [] = refl
    by (m ∷ ns) = refl
none_left g (n ∷ fired) (c ∷ changes) (suc k) low = none_left g fired changes k (omega (arith, low))

-- ---- what a rule changes

arity_found : (o : Option Symbol) (n : ℕ) → IsTrue (has_arity n o) → option_map_or (λ (z : Symbol). z.arity) o 0 ≡ n
arity_found None n has = absurd (cc has)
arity_found (Some z) n has = (unsigned_Decides z.arity n).0 has

all_over : (ss : List Symbol) (ts us : List Tree) → IsTrue (list_all (is_tree_over ss) ts) → IsTrue (list_all (is_tree_over ss) us) → IsTrue (list_all (is_tree_over ss) (ts ++ us))
all_over ss [] us one two = two
all_over ss (t ∷ ts) us one two =
    let both = and_parts (is_tree_over ss t) (list_all (is_tree_over ss) ts) one in
    and_from (is_tree_over ss t) (list_all (is_tree_over ss) (ts ++ us)) both.0 (all_over ss ts us both.1 two)

-- the arguments of a rule as an interface
abbrev arguments_as : Rule → Configuration
arguments_as r = record { interface = r.left_args ++ r.right_args; equations = []; next = 0 }

over_as : (ss : List Symbol) (r : Rule) → IsRuleOver ss r → IsTrue (is_over ss (arguments_as r))
over_as ss r over = and_from (list_all (is_tree_over ss) (r.left_args ++ r.right_args)) true (all_over ss r.left_args r.right_args over.left_args over.right_args) refl

-- what laws say of a configuration without a round
pub record CountLaws (rs : Rules) : Type 0 where
  pub nodes : (c : Configuration) → IsTrue (is_over rs.symbols c) → configuration_nodes c ≡ length c.interface + 2 * length c.equations + amount (arity_of rs.symbols) c
  pub names : (c : Configuration) → length (configuration_names c) + length (configuration_symbols c) ≡ configuration_nodes c

module _ (rs : Rules) (laws : CountLaws rs) (r : Rule) (over : IsRuleOver rs.symbols r) where
  abbrev c : Configuration
  c = arguments_as r

  as_many_nodes : configuration_nodes c ≡ rule_nodes r
  as_many_nodes =
      let all = sum_by-append nodes r.left_args r.right_args in
      let none : sum_by pair_nodes [] ≡ 0 = refl in
      omega (arith, all, none)

  made_of : (f : ℕ → ℕ) → amount f c ≡ sum_by f (flat_map symbols (r.left_args ++ r.right_args))
  made_of f = ap (sum_by f) (append-nil (flat_map symbols (r.left_args ++ r.right_args)))

  pub arities_made : sum_by (arity_of rs.symbols) (flat_map symbols (r.left_args ++ r.right_args)) + (length r.left_args + length r.right_args) ≡ rule_nodes r
  arities_made =
      let all = laws.nodes c (over_as rs.symbols r over) in
      let same = as_many_nodes in
      let made = made_of (arity_of rs.symbols) in
      let terms = length-append r.left_args r.right_args in
      let none : length {A = Pair} [] ≡ 0 = refl in
      omega (arith, all, same, made, terms, none)

  pub agents_made : sum_by one_each (flat_map symbols (r.left_args ++ r.right_args)) + length (rule_names r) ≡ rule_nodes r
  agents_made =
      let all = laws.names c in
      let same = as_many_nodes in
      let counted = ones (flat_map symbols (r.left_args ++ r.right_args)) in
      let agents : length (configuration_symbols c) ≡ length (flat_map symbols (r.left_args ++ r.right_args)) =
      ap (length {A = ℕ}) (append-nil (flat_map symbols (r.left_args ++ r.right_args))) in
      let named : length (configuration_names c) ≡ length (rule_names r) =
      ap (length {A = ℕ}) (append-nil (flat_map names (r.left_args ++ r.right_args)) ∙ flat_map-append names r.left_args r.right_args) in
      omega (arith, all, same, counted, agents, named)

  pub arities_spent : arity_of rs.symbols r.left + arity_of rs.symbols r.right ≡ length r.left_args + length r.right_args
  arities_spent =
      let left = arity_found (slice_get rs.symbols r.left) (length r.left_args) over.left in
      let right = arity_found (slice_get rs.symbols r.right) (length r.right_args) over.right in
      omega (arith, left, right)

abbrev spent_by : (ℕ → ℕ) → Option Rule → ℕ
spent_by f o = option_map_or (λ (r : Rule). f r.left + f r.right) o 0

abbrev made_by : (ℕ → ℕ) → Option Rule → ℕ
made_by f o = option_map_or (λ (r : Rule). sum_by f (flat_map symbols (r.left_args ++ r.right_args))) o 0

-- what is told of a rule is what it changes
pub is_change : (rs : Rules) → IsRuleSet rs → CountLaws rs → (rule : ℕ) (r : Rule) (change : Amounts) → slice_get rs.rules rule ≡ Some r
    → Agree (change.arities + 2 * (length r.left_args + length r.right_args)) (rule_nodes r)
    → Agree (change.agents + 2 + length (rule_names r)) (rule_nodes r) → IsChange rs rule change
is_change rs set laws rule r change there arities agents =
    let over = rule_over_at rs.symbols rs.rules rule r set.fitting there in
    let spent = ap (spent_by (arity_of rs.symbols)) there in
    let made = ap (made_by (arity_of rs.symbols)) there in
    let spent_each = ap (spent_by one_each) there in
    let made_each = ap (made_by one_each) there in
    let arity_sum = arities_made rs laws r over in
    let agent_sum = agents_made rs laws r over in
    let sides = arities_spent rs laws r over in
    record {
      arities = omega (arith, arities, spent, made, arity_sum, sides);
      agents = omega (arith, agents, spent_each, made_each, agent_sum);
    }

-- no rule has this number
pub no_change : (rs : Rules) (rule : ℕ) (change : Amounts) → slice_get rs.rules rule ≡ None → change.arities ≡ 0 → change.agents ≡ 0 → IsChange rs rule change
no_change rs rule change there arities agents =
    let spent = ap (spent_by (arity_of rs.symbols)) there in
    let made = ap (made_by (arity_of rs.symbols)) there in
    let spent_each = ap (spent_by one_each) there in
    let made_each = ap (made_by one_each) there in
    record {
      arities = omega (arith, spent, made, arities);
      agents = omega (arith, spent_each, made_each, agents);
    }

few_in : (rs : List Rule) (i : ℕ) (r : Rule) → list_all (λ q. nat_le (rule_nodes q) MAX_RULE_NODES) rs ≡ true → slice_get rs i ≡ Some r → rule_nodes r ≤ MAX_RULE_NODES
few_in [] i r few there = absurd (cc there)
few_in (q ∷ rs) zero r few there =
    let both = and_parts (nat_le (rule_nodes q) MAX_RULE_NODES) (list_all (λ q. nat_le (rule_nodes q) MAX_RULE_NODES) rs) few in
    let same : q ≡ r = cc in
    let low = leb-true (rule_nodes q) MAX_RULE_NODES both.0 in
    subst (λ (x : Rule). rule_nodes x ≤ MAX_RULE_NODES) same low
few_in (q ∷ rs) (suc i) r few there =
    few_in rs i r (and_parts (nat_le (rule_nodes q) MAX_RULE_NODES) (list_all (λ q. nat_le (rule_nodes q) MAX_RULE_NODES) rs) few).1 there

-- a rule of a rule set has few nodes
pub few_nodes : (rs : Rules) (i : ℕ) (r : Rule) → IsRuleSet rs → slice_get rs.rules i ≡ Some r → rule_nodes r ≤ MAX_RULE_NODES
few_nodes rs i r set there =
    few_in rs.rules i r (and_parts (nat_le (length rs.rules) MAX_WIDE_RULES) (list_all (λ q. nat_le (rule_nodes q) MAX_RULE_NODES) rs.rules) set.few).1 there

-- ---- loops

-- the element at a place of a list with one more at its end
pub pushed_at : {X : Type 0} (P : ℕ → X → Type 0) (xs : List X) (y : X) → ((k : ℕ) (x : X) → slice_get xs k ≡ Some x → P k x) → P (length xs) y
    → (k : ℕ) (x : X) → slice_get (xs ++ y ∷ []) k ≡ Some x → P k x
pushed_at P [] y each one zero x there = let same : y ≡ x = cc in subst (P 0) same one
pushed_at P [] y each one (suc k) x there = absurd (cc there)
pushed_at P (z ∷ xs) y each one zero x there = each zero x there
pushed_at P (z ∷ xs) y each one (suc k) x there = pushed_at (λ i. P (suc i)) xs y (λ i. each (suc i)) one k x there

pub one_more : (all new n each before after total : ℕ) → Agree (all + before) total → before ≡ n * each + after → new ≡ (all + n * each) % 2 ^ 64 → Agree (new + after) total
one_more all new n each before after total so_far parts is = omega arith

-- ---- wrapping sums

pub arities_of_rule : (left right l r all terms others change : ℕ) → left ≡ min l (2 ^ 64 - 1) → right ≡ min r (2 ^ 64 - 1) → l + r ≡ all → all ≤ 2048
    → change ≡ ((left + right) % 2 ^ 64 + (2 ^ 64 - (((terms + others) % 2 ^ 64) * 2) % 2 ^ 64)) % 2 ^ 64 → Agree (change + 2 * (terms + others)) all
arities_of_rule left right l r all terms others change is_left is_right sum few is = omega arith

pub agents_of_rule : (left right l r all named others change : ℕ) → left ≡ min l (2 ^ 64 - 1) → right ≡ min r (2 ^ 64 - 1) → l + r ≡ all → all ≤ 2048
    → change ≡ (((left + right) % 2 ^ 64 + (2 ^ 64 - (named + others) % 2 ^ 64)) % 2 ^ 64 + (2 ^ 64 - 2)) % 2 ^ 64 → Agree (change + 2 + (named + others)) all
agents_of_rule left right l r all named others change is_left is_right sum few is = omega arith

pub nodes_told : (told terms left begun changed spent made amounts : ℕ) → amounts ≡ (begun + changed) % 2 ^ 64 → Agree (changed + spent) made
    → told ≡ ((terms + (left * 2) % 2 ^ 64) % 2 ^ 64 + amounts) % 2 ^ 64 → Agree (told + spent) (terms + 2 * left + (begun + made))
nodes_told told terms left begun changed spent made amounts is sums all = omega arith

pub names_told : (told nodes begun changed spent made amounts : ℕ) → amounts ≡ (begun + changed) % 2 ^ 64 → Agree (changed + spent) made → amounts < 2 ^ 64
    → told ≡ (nodes + (2 ^ 64 - amounts)) % 2 ^ 64 → Agree (told + (begun + made)) (nodes + spent)
names_told told nodes begun changed spent made amounts is sums low all = omega arith

-- what two facts of a result say together
pub if_both : {X E : Type 0} {P Q R : X → Type 0} (r : Result X E) → ((x : X) → P x → Q x → R x) → IfOk r P → IfOk r Q → IfOk r R
if_both (Ok x) f p q = f x p q
if_both (Err e) f p q = tt

pub past_end : (a b : ℕ) → false ≡ ltb a b → b ≤ a
past_end a b is = at (leb_tells (suc a) b)
  where
    at : ((leb (suc a) b ≡ true) × (suc a ≤ b)) ⊎ ((leb (suc a) b ≡ false) × (b < suc a)) → b ≤ a
    at (inl (below, low)) = absurd (let bad : false ≡ true = is ∙ below in cc)
    at (inr (above, low)) = omega (arith, low)
