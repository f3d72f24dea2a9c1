-- Bytes that begin with those of two values begin with those of one, part by part.
use Rattle.std.proofs.Common.{◌≡◌, ℕ, zero, suc, ◌+◌, ◌^◌, ◌<◌, ◌≤◌, Bool, true, false, ◌||◌, ◌==◌, Option, None, Some, IfSome, List, [], ◌∷◌, ◌++◌, length, cond, refl, sym, ap, subst, ◌∙◌, append_assoc, arith, sum_by}
use Rattle.std.specs.Prelude.{slice_get}
use Rattle.std.specs.List.{flat_map, list_any, list_all, range_with_len, AllByRecursion}
use Rattle.std.specs.Cmp.{unsigned_Decides}
use Rattle.std.proofs.lemmas.Bool.{and_parts}
use Rattle.std.proofs.lemmas.List.{length-append}
use Rattle.std.proofs.lemmas.List.Sums.{sum_by-cons}
use Rattle.std.proofs.lemmas.List.FromFn.{length-range_with_len}
use Rattle.ic_term.specs.Tree.{Tree, name, agent, Trees, no_trees, more_trees, names, names_of, nodes, nodes_of, Pair, pair_names}
use Rattle.ic_term.specs.Symbol.{Symbol, has_arity, is_tree_over, is_pair_over}
use Rattle.ic_term.specs.Configuration.{Configuration, IsConfiguration}
use Rattle.ic_rules.specs.Renaming.{first_after, first_occurrences}
use Rattle.ic_rules.specs.Rule.{Rule, rule_names, rule_nodes, IsNumbered, IsRule}
use Rattle.ic_rules.specs.RuleSet.{Rules, AreServed, IsRuleSet, IsRuleOver}
use Rattle.ic_rules.specs.lemmas.FitLaws.{first_unfit-None}
use Rattle.ic_rules.specs.lemmas.NumberingLaws.{Among, each_among}
use Rattle.ic_jobs.specs.declared.state.State.{State}
use Rattle.ic_jobs.specs.declared.state.State.TheVariants.{Running}
use Rattle.ic_jobs.specs.State.{state_number, state_numbered}
use Rattle.ic_jobs.specs.Budget.{IsBudget}
use Rattle.ic_codec.specs.Form.{budget_number, budget_bytes, heading_bytes}
use Rattle.ic_codec.specs.declared.form.Form.{Form}
use Rattle.ic_codec.specs.declared.form.Form.TheVariants.{Ict1, Ict2}
use Rattle.ic_codec.specs.declared.form.Heading.{Heading}
use Rattle.ic_codec.specs.Numbers.{two_bytes, eight_bytes}
use Rattle.ic_codec.specs.Texts.{text_bytes}
use Rattle.ic_codec.specs.Terms.{tree_bytes, pair_bytes}
use Rattle.ic_codec.specs.inner.Forms.{HasBytes, HasPairBytes, HasRuleBytes, HasBudgetBytes, HasHeadingBytes}
use Rattle.ic_codec.specs.Symbols.{symbol_bytes, symbols_bytes}
use Rattle.ic_codec.specs.Rules.{rule_bytes, rules_bytes}
use Rattle.ic_codec.specs.Configurations.{configuration_bytes}
use Rattle.ic_codec.specs.inner.Fronts.{IsConfigurationOver, IsRuleSetOver, set_bytes}
use Rattle.ic_codec.proofs.NumberLemmas.{fronts, length-two_bytes, two_bytes-injective, length-eight_bytes, eight_bytes-injective}
use Rattle.ic_codec.proofs.TermLemmas.{tree_front, one_arity}
use Rattle.ic_codec.proofs.Sizes.{pairs_few}
use Rattle.ic_codec.proofs.Items.{Tells, items_front}

-- ---- numbers, texts and symbols

pub two_front : (m n : ℕ) (a b : List ℕ) → m < 2 ^ 16 → n < 2 ^ 16 → two_bytes m ++ a ≡ two_bytes n ++ b → (m ≡ n) × (a ≡ b)
two_front m n a b small little e =
    let parts = fronts (two_bytes m) (two_bytes n) a b (length-two_bytes m ∙ sym (length-two_bytes n)) e in
    (two_bytes-injective m n small little parts.0, parts.1)

pub eight_front : (m n : ℕ) (a b : List ℕ) → m < 2 ^ 64 → n < 2 ^ 64 → eight_bytes m ++ a ≡ eight_bytes n ++ b → (m ≡ n) × (a ≡ b)
eight_front m n a b small little e =
    let parts = fronts (eight_bytes m) (eight_bytes n) a b (length-eight_bytes m ∙ sym (length-eight_bytes n)) e in
    (eight_bytes-injective m n small little parts.0, parts.1)

pub text_front : (x y a b : List ℕ) → text_bytes x ++ a ≡ text_bytes y ++ b → (x ≡ y) × (a ≡ b)
text_front x y a b e =
    let counts : length x ≡ length y = cc in
    let tails : x ++ a ≡ y ++ b = cc in
    fronts x y a b counts tails

byte_numbered : (s : State) → state_numbered (state_number s) ≡ s
byte_numbered Running = refl
byte_numbered _ = refl

pub state_same : (s r : State) → state_number s ≡ state_number r → s ≡ r
state_same s r e = sym (byte_numbered s) ∙ ap state_numbered e ∙ byte_numbered r

abbrev pub AnySymbol : Symbol → Type 0
AnySymbol s = Unit {0}

pub any_symbols : (ss : List Symbol) → AllByRecursion AnySymbol ss
any_symbols [] = tt
any_symbols (s ∷ ss) = (tt, any_symbols ss)

pub symbol_tells : Tells AnySymbol symbol_bytes
symbol_tells s t a b v w e =
    let joined : text_bytes s.text ++ (s.arity ∷ a) ≡ text_bytes t.text ++ (t.arity ∷ b) =
    sym (append_assoc (text_bytes s.text) (s.arity ∷ []) a) ∙ e ∙ append_assoc (text_bytes t.text) (t.arity ∷ []) b in
    let first = text_front s.text t.text (s.arity ∷ a) (t.arity ∷ b) joined in
    let arities : s.arity ≡ t.arity = cc (first.1) in
    let tails : a ≡ b = cc (first.1) in
    ((λ i. record { text = first.0 i; arity = arities i }), tails)

pub symbols_front : (ss ts : List Symbol) (a b : List ℕ) → symbols_bytes ss ++ a ≡ symbols_bytes ts ++ b → (ss ≡ ts) × (a ≡ b)
symbols_front ss ts a b e =
    let counts : length ss ≡ length ts = cc in
    let tails : flat_map symbol_bytes ss ++ a ≡ flat_map symbol_bytes ts ++ b = cc in
    items_front AnySymbol symbol_bytes symbol_tells ss ts a b (any_symbols ss) (any_symbols ts) counts tails

-- ---- headings

-- a budget's number fits in eight bytes
number_small : (b : Option ℕ) → IfSome b IsBudget → budget_number b < 2 ^ 64
number_small None is = omega arith
number_small (Some n) is = omega (arith, is.few)

number_same : (b c : Option ℕ) → IfSome b IsBudget → IfSome c IsBudget → budget_number b ≡ budget_number c → b ≡ c
number_same None None is also e = refl
number_same None (Some n) is also e = absurd (omega (arith, also.some, e))
number_same (Some n) None is also e = absurd (omega (arith, is.some, e))
number_same (Some n) (Some m) is also e = ap (λ (k : ℕ). Some k) e

pub budget_tells : (form : Form) → Tells (HasBudgetBytes form) (budget_bytes form)
budget_tells Ict1 b c x y v w e = (v ∙ sym w, e)
budget_tells Ict2 b c x y v w e =
    let parts = eight_front (budget_number b) (budget_number c) x y (number_small b v) (number_small c w) e in
    (number_same b c v w parts.0, parts.1)

pub heading_spread : (form : Form) (h : Heading) (rest : List ℕ)
    → heading_bytes form h ++ rest
    ≡ text_bytes h.name ++ (state_number h.state ∷ (eight_bytes h.rounds ++ (budget_bytes form h.budget ++ (eight_bytes h.next ++ rest))))
heading_spread form h rest =
    let budget = budget_bytes form h.budget in
    append_assoc (text_bytes h.name) (state_number h.state ∷ (eight_bytes h.rounds ++ (budget ++ eight_bytes h.next))) rest
    ∙ ap (λ (bs : List ℕ). text_bytes h.name ++ (state_number h.state ∷ bs))
    (append_assoc (eight_bytes h.rounds) (budget ++ eight_bytes h.next) rest
    ∙ ap (λ (bs : List ℕ). eight_bytes h.rounds ++ bs) (append_assoc budget (eight_bytes h.next) rest))

pub heading_tells : (form : Form) → Tells (HasHeadingBytes form) (heading_bytes form)
heading_tells form g h a b v w e =
    let first = text_front g.name h.name _ _ (sym (heading_spread form g a) ∙ e ∙ heading_spread form h b) in
    let states : state_number g.state ≡ state_number h.state = cc (first.1) in
    let after : eight_bytes g.rounds ++ (budget_bytes form g.budget ++ (eight_bytes g.next ++ a))
    ≡ eight_bytes h.rounds ++ (budget_bytes form h.budget ++ (eight_bytes h.next ++ b)) = cc (first.1) in
    let rounds = eight_front g.rounds h.rounds _ _ v.rounds w.rounds after in
    let budgets = budget_tells form g.budget h.budget (eight_bytes g.next ++ a) (eight_bytes h.next ++ b) v.budget w.budget rounds.1 in
    let nexts = eight_front g.next h.next a b v.next w.next budgets.1 in
    let state = state_same g.state h.state states in
    ((λ i. record { name = first.0 i; state = state i; rounds = rounds.0 i; budget = budgets.0 i; next = nexts.0 i }), nexts.1)

-- ---- terms

pub all_left : {X : Type 0} (P : X → Type 0) (xs ys : List X) → AllByRecursion P (xs ++ ys) → AllByRecursion P xs
all_left P [] ys all = tt
all_left P (x ∷ xs) ys all = (all.0, all_left P xs ys all.1)

pub all_right : {X : Type 0} (P : X → Type 0) (xs ys : List X) → AllByRecursion P (xs ++ ys) → AllByRecursion P ys
all_right P [] ys all = all
all_right P (x ∷ xs) ys all = all_right P xs ys all.1

pub all_both : {X : Type 0} (P : X → Type 0) (xs ys : List X) → AllByRecursion P xs → AllByRecursion P ys → AllByRecursion P (xs ++ ys)
all_both P [] ys left right = right
all_both P (x ∷ xs) ys left right = (left.0, all_both P xs ys left.1 right)

abbrev pub AreSmall : List ℕ → Type 0
AreSmall ns = AllByRecursion (λ n. n < 2 ^ 64) ns

pub tree_tells : (ss : List Symbol) → length ss ≤ 64 → Tells (HasBytes ss) tree_bytes
tree_tells ss few t u a b v w e = tree_front ss few t u a b v.over w.over v.names w.names e

pub pair_tells : (ss : List Symbol) → length ss ≤ 64 → Tells (HasPairBytes ss) pair_bytes
pair_tells ss few p q a b v w e =
    let joined = sym (append_assoc (tree_bytes p.left) (tree_bytes p.right) a) ∙ e ∙ append_assoc (tree_bytes q.left) (tree_bytes q.right) b in
    let left = tree_tells ss few p.left q.left (tree_bytes p.right ++ a) (tree_bytes q.right ++ b) v.0 w.0 joined in
    let right = tree_tells ss few p.right q.right a b v.1 w.1 left.1 in
    ((λ i. record { left = left.0 i; right = right.0 i }), right.1)

-- terms over the symbols whose names are small have bytes
pub terms_have : (ss : List Symbol) (ts : List Tree) → list_all (is_tree_over ss) ts ≡ true → AreSmall (flat_map names ts) → AllByRecursion (HasBytes ss) ts
terms_have ss [] over small = tt
terms_have ss (t ∷ ts) over small =
    let parts = and_parts (is_tree_over ss t) (list_all (is_tree_over ss) ts) over in
    (record { over = parts.0; names = all_left _ (names t) (flat_map names ts) small }, terms_have ss ts parts.1 (all_right _ (names t) (flat_map names ts) small))

pub pairs_have : (ss : List Symbol) (ps : List Pair) → list_all (is_pair_over ss) ps ≡ true → AreSmall (flat_map pair_names ps) → AllByRecursion (HasPairBytes ss) ps
pairs_have ss [] over small = tt
pairs_have ss (p ∷ ps) over small =
    let parts = and_parts (is_pair_over ss p) (list_all (is_pair_over ss) ps) over in
    let sides = and_parts (is_tree_over ss p.left) (is_tree_over ss p.right) parts.0 in
    let here = all_left _ (pair_names p) (flat_map pair_names ps) small in (
      (
        record { over = sides.0; names = all_left _ (names p.left) (names p.right) here },
        record { over = sides.1; names = all_right _ (names p.left) (names p.right) here },
      ),
      pairs_have ss ps parts.1 (all_right _ (pair_names p) (flat_map pair_names ps) small),
    )

-- ---- rules

in_range : (n a k : ℕ) → list_any (λ m. n == m) (range_with_len a k) ≡ true → n < a + k
in_range n a zero there = cc
in_range n a (suc k) there = at (n == a) refl there (in_range n (a + 1) k)
  where
    at : (b : Bool) → (n == a) ≡ b → (b || list_any (λ m. n == m) (range_with_len (a + 1) k)) ≡ true
        → (list_any (λ m. n == m) (range_with_len (a + 1) k) ≡ true → n < a + 1 + k) → n < a + suc k
    at true is e below = omega (arith, (unsigned_Decides n a).0 is)
    at false is e below = omega (arith, below e)

firsts_few : (seen ns : List ℕ) → length (first_after seen ns) ≤ length seen + length ns
firsts_few seen [] = omega arith
firsts_few seen (n ∷ ns) =
    let old = firsts_few seen ns in
    let new = firsts_few (seen ++ n ∷ []) ns in
    let count = length-append seen (n ∷ []) in
    elim (list_any (λ m. n == m) seen) as (λ b. length (cond b (first_after seen ns) (first_after (seen ++ n ∷ []) ns)) ≤ length seen + suc (length ns)) [
      | true ↦ omega arith
      | false ↦ omega arith
    ]

mutual
  names_few : (t : Tree) → length (names t) ≤ nodes t
  names_few (name n) = omega arith
  names_few (agent s ts) = omega (arith, names_of_few ts)

  names_of_few : (ts : Trees) → length (names_of ts) ≤ nodes_of ts
  names_of_few no_trees = omega arith
  names_of_few (more_trees t ts) = omega (arith, names_few t, names_of_few ts, length-append (names t) (names_of ts))

flat_names_few : (ts : List Tree) → length (flat_map names ts) ≤ sum_by nodes ts
flat_names_few [] = omega arith
flat_names_few (t ∷ ts) = omega (arith, names_few t, flat_names_few ts, length-append (names t) (flat_map names ts), sum_by-cons nodes t ts)

all_within : (k : ℕ) (firsts ns : List ℕ) → firsts ≡ range_with_len 0 k → k ≤ 2048 → Among firsts ns → AreSmall ns
all_within k firsts [] e few among = tt
all_within k firsts (n ∷ ns) e few among =
    let there : list_any (λ m. n == m) (range_with_len 0 k) ≡ true = ap (list_any (λ m. n == m)) (sym e) ∙ among.0 in
    (omega (arith, in_range n 0 k there), all_within k firsts ns e few among.1)

-- the names of a numbered rule with few nodes are small
names_small : (r : Rule) → IsNumbered r → rule_nodes r ≤ 2048 → AreSmall (rule_names r)
names_small r in_order few =
    let count : length (first_occurrences (rule_names r)) ≡ r.names = ap length in_order ∙ length-range_with_len 0 r.names in
    let total = length-append (flat_map names r.left_args) (flat_map names r.right_args) in
    all_within r.names (first_occurrences (rule_names r)) (rule_names r) in_order
    (omega (arith, count, firsts_few [] (rule_names r), total, flat_names_few r.left_args, flat_names_few r.right_args)) (each_among [] (rule_names r))

rules_have : (ss : List Symbol) (rs : List Rule) → AllByRecursion (IsRuleOver ss) rs → AllByRecursion IsRule rs → sum_by rule_nodes rs ≤ 2048
    → AllByRecursion (HasRuleBytes ss) rs
rules_have ss [] over each few = tt
rules_have ss (r ∷ rs) over each few =
    let total = sum_by-cons rule_nodes r rs in
    (record { over = over.0; names = names_small r each.0.in_order (omega arith); in_order = each.0.in_order }, rules_have ss rs over.1 each.1 (omega arith))

-- the rules of a rule set have bytes
pub rule_set_has : (set : Rules) → IsRuleSet set → AreServed set → AllByRecursion (HasRuleBytes set.symbols) set.rules
rule_set_has set is served = rules_have set.symbols set.rules ((first_unfit-None set.symbols set.rules).0 is.fitting) is.each served.nodes

pub left_have : (ss : List Symbol) (r : Rule) → HasRuleBytes ss r → AllByRecursion (HasBytes ss) r.left_args
left_have ss r has = terms_have ss r.left_args has.over.left_args (all_left _ (flat_map names r.left_args) (flat_map names r.right_args) has.names)

pub right_have : (ss : List Symbol) (r : Rule) → HasRuleBytes ss r → AllByRecursion (HasBytes ss) r.right_args
right_have ss r has = terms_have ss r.right_args has.over.right_args (all_right _ (flat_map names r.left_args) (flat_map names r.right_args) has.names)

-- the number of a numbered rule's names is known from its arguments
pub names_counted : (r : Rule) → IsNumbered r → length (first_occurrences (rule_names r)) ≡ r.names
names_counted r in_order = ap length in_order ∙ length-range_with_len 0 r.names

pub rule_tells : (ss : List Symbol) → length ss ≤ 64 → Tells (HasRuleBytes ss) rule_bytes
rule_tells ss few r q a b v w e =
    let lefts : r.left ≡ q.left = cc in
    let rights : r.right ≡ q.right = cc in
    let terms : (flat_map tree_bytes r.left_args ++ flat_map tree_bytes r.right_args) ++ a ≡ (flat_map tree_bytes q.left_args ++ flat_map tree_bytes q.right_args) ++ b = cc in
    let joined = sym (append_assoc (flat_map tree_bytes r.left_args) (flat_map tree_bytes r.right_args) a) ∙ terms
    ∙ append_assoc (flat_map tree_bytes q.left_args) (flat_map tree_bytes q.right_args) b in
    let left_count = one_arity (length r.left_args) (length q.left_args) (slice_get ss r.left) v.over.left
    (ap (λ k. has_arity (length q.left_args) (slice_get ss k)) lefts ∙ w.over.left) in
    let right_count = one_arity (length r.right_args) (length q.right_args) (slice_get ss r.right) v.over.right
    (ap (λ k. has_arity (length q.right_args) (slice_get ss k)) rights ∙ w.over.right) in
    let first = items_front (HasBytes ss) tree_bytes (tree_tells ss few) r.left_args q.left_args (flat_map tree_bytes r.right_args ++ a) (flat_map tree_bytes q.right_args ++ b)
    (left_have ss r v) (left_have ss q w) left_count joined in
    let second = items_front (HasBytes ss) tree_bytes (tree_tells ss few) r.right_args q.right_args a b (right_have ss r v) (right_have ss q w) right_count first.1 in
    let counts : r.names ≡ q.names = sym (names_counted r v.in_order)
    ∙ (λ i. length (first_occurrences (flat_map names (first.0 i) ++ flat_map names (second.0 i)))) ∙ names_counted q w.in_order in
    ((λ i. record { left = lefts i; right = rights i; left_args = first.0 i; right_args = second.0 i; names = counts i }), second.1)

pub rules_front : (ss : List Symbol) → length ss ≤ 64 → (rs qs : List Rule) (a b : List ℕ) → AllByRecursion (HasRuleBytes ss) rs → AllByRecursion (HasRuleBytes ss) qs
    → length rs < 2 ^ 16 → length qs < 2 ^ 16 → rules_bytes rs ++ a ≡ rules_bytes qs ++ b → (rs ≡ qs) × (a ≡ b)
rules_front ss few rs qs a b v w small little e =
    let joined = sym (append_assoc (two_bytes (length rs)) (flat_map rule_bytes rs) a) ∙ e ∙ append_assoc (two_bytes (length qs)) (flat_map rule_bytes qs) b in
    let counts = two_front (length rs) (length qs) (flat_map rule_bytes rs ++ a) (flat_map rule_bytes qs ++ b) small little joined in
    items_front (HasRuleBytes ss) rule_bytes (rule_tells ss few) rs qs a b v w counts.0 counts.1

pub set_tells : (ss : List Symbol) → length ss ≤ 64 → Tells (IsRuleSetOver ss) set_bytes
set_tells ss few s t a b v w e =
    let has = subst (λ (l : List Symbol). AllByRecursion (HasRuleBytes l) s.rules) v.over (rule_set_has s v.rules v.served) in
    let has_too = subst (λ (l : List Symbol). AllByRecursion (HasRuleBytes l) t.rules) w.over (rule_set_has t w.rules w.served) in
    let same = rules_front ss few s.rules t.rules a b has has_too (omega (arith, v.served.rules)) (omega (arith, w.served.rules)) e in
    let symbols = v.over ∙ sym w.over in
    ((λ i. record { symbols = symbols i; rules = same.0 i }), same.1)

-- ---- configurations

pub configuration_spread : (c : Configuration) (rest : List ℕ)
    → configuration_bytes c ++ rest
    ≡ length c.interface ∷ (two_bytes (length c.equations) ++ (flat_map tree_bytes c.interface ++ (flat_map pair_bytes c.equations ++ rest)))
configuration_spread c rest =
    ap (λ (bs : List ℕ). length c.interface ∷ bs)
    (append_assoc (two_bytes (length c.equations)) (flat_map tree_bytes c.interface ++ flat_map pair_bytes c.equations) rest
    ∙ ap (λ (bs : List ℕ). two_bytes (length c.equations) ++ bs) (append_assoc (flat_map tree_bytes c.interface) (flat_map pair_bytes c.equations) rest))

pub below_small : (next : ℕ) (ns : List ℕ) → next ≤ 2 ^ 62 → AllByRecursion (λ n. n < next) ns → AreSmall ns
below_small next [] limit all = tt
below_small next (n ∷ ns) limit all = (omega (arith, all.0), below_small next ns limit all.1)

pub interface_has : (ss : List Symbol) (next : ℕ) (c : Configuration) → IsConfigurationOver ss next c → AllByRecursion (HasBytes ss) c.interface
interface_has ss next c is =
    let over = and_parts (list_all (is_tree_over ss) c.interface) (list_all (is_pair_over ss) c.equations) is.over in
    terms_have ss c.interface over.0 (all_left _ (flat_map names c.interface) (flat_map pair_names c.equations)
    (below_small c.next (flat_map names c.interface ++ flat_map pair_names c.equations) is.config.next is.config.below))

pub equations_have : (ss : List Symbol) (next : ℕ) (c : Configuration) → IsConfigurationOver ss next c → AllByRecursion (HasPairBytes ss) c.equations
equations_have ss next c is =
    let over = and_parts (list_all (is_tree_over ss) c.interface) (list_all (is_pair_over ss) c.equations) is.over in
    pairs_have ss c.equations over.1 (all_right _ (flat_map names c.interface) (flat_map pair_names c.equations)
    (below_small c.next (flat_map names c.interface ++ flat_map pair_names c.equations) is.config.next is.config.below))

-- equations are few enough for two bytes
pub equations_few : (c : Configuration) → IsConfiguration c → length c.equations < 2 ^ 16
equations_few c is = omega (arith, pairs_few c.equations, is.nodes)

pub configuration_tells : (ss : List Symbol) (next : ℕ) → length ss ≤ 64 → Tells (IsConfigurationOver ss next) configuration_bytes
configuration_tells ss next few c d a b v w e =
    let joined = sym (configuration_spread c a) ∙ e ∙ configuration_spread d b in
    let terms : length c.interface ≡ length d.interface = cc (joined) in
    let after : two_bytes (length c.equations) ++ (flat_map tree_bytes c.interface ++ (flat_map pair_bytes c.equations ++ a))
    ≡ two_bytes (length d.equations) ++ (flat_map tree_bytes d.interface ++ (flat_map pair_bytes d.equations ++ b)) = cc (joined) in
    let pairs = two_front (length c.equations) (length d.equations) _ _ (equations_few c v.config) (equations_few d w.config) after in
    let first = items_front (HasBytes ss) tree_bytes (tree_tells ss few) c.interface d.interface (flat_map pair_bytes c.equations ++ a) (flat_map pair_bytes d.equations ++ b)
    (interface_has ss next c v) (interface_has ss next d w) terms pairs.1 in
    let second = items_front (HasPairBytes ss) pair_bytes (pair_tells ss few) c.equations d.equations a b
    (equations_have ss next c v) (equations_have ss next d w) pairs.0 first.1 in
    let nexts = v.same_next ∙ sym w.same_next in
    ((λ i. record { interface = first.0 i; equations = second.0 i; next = nexts i }), second.1)
