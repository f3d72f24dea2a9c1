-- Which rules bytes begin with, and when they begin with none.
use Rattle.std.proofs.Common.{◌≡◌, ◌≢◌, ℕ, ◌^◌, ◌<◌, ◌≤◌, ◌↔◌, true, List, [], ◌∷◌, ◌++◌, length, Some, Ok, refl, sym, ap, subst, ◌∙◌, append_assoc, arith, sum_by}
use Rattle.std.specs.Prelude.{slice_get}
use Rattle.std.specs.List.{flat_map, list_all, range_with_len, AllByRecursion}
use Rattle.std.proofs.lemmas.List.{length-append}
use Rattle.ic_term.specs.Tree.{Tree, names, nodes}
use Rattle.ic_term.specs.Symbol.{Symbol, has_arity, symbol_arity, is_tree_over}
use Rattle.ic_rules.specs.Renaming.{first_occurrences}
use Rattle.ic_rules.specs.Rule.{Rule, rule_names, rule_nodes, IsNumbered}
use Rattle.ic_rules.specs.RuleSet.{Rules, AreServed, IsRuleSet, built}
use Rattle.ic_rules.specs.Refusals.{IsTaken}
use Rattle.ic_rules.specs.lemmas.NumberingLaws.{map-numbered-same}
use Rattle.ic_codec.specs.Numbers.{two_bytes}
use Rattle.ic_codec.specs.Terms.{tree_bytes}
use Rattle.ic_codec.specs.inner.Forms.{HasBytes, HasRuleBytes}
use Rattle.ic_codec.specs.Rules.{rule_bytes}
use Rattle.ic_codec.specs.inner.Fronts.{BeginsWithTrees, BeginsWithNoTrees, BeginsWith, BeginsWithNone, BeginsWithOne, BeginsWithNoOne, BeginsWithMany, BeginsWithNoMany, IsRuleSetOver, set_bytes}
use Rattle.ic_codec.proofs.NumberLemmas.{length-two_bytes}
use Rattle.ic_codec.proofs.TermLemmas.{known_below, one_arity}
use Rattle.ic_codec.proofs.TermReading.{arity_known}
use Rattle.ic_codec.proofs.Items.{items_front}
use Rattle.ic_codec.proofs.Unique.{two_front, AreSmall, all_both, tree_tells, left_have, right_have, names_counted, rule_tells, rule_set_has}

pub terms_over : (ss : List Symbol) (ts : List Tree) → AllByRecursion (HasBytes ss) ts → list_all (is_tree_over ss) ts ≡ true
terms_over ss [] all = refl
terms_over ss (t ∷ ts) all = rw (all.0.over, terms_over ss ts all.1) refl

terms_small : (ss : List Symbol) (ts : List Tree) → AllByRecursion (HasBytes ss) ts → AreSmall (flat_map names ts)
terms_small ss [] all = tt
terms_small ss (t ∷ ts) all = all_both _ (names t) (flat_map names ts) all.0.names (terms_small ss ts all.1)

-- a rule as its agents are written
abbrev pub rule_of : ℕ → ℕ → List Tree → List Tree → Rule
rule_of l r ls rs = record {
  left = l;
  right = r;
  left_args = ls;
  right_args = rs;
  names = length (first_occurrences (flat_map names ls ++ flat_map names rs));
}

rule_spread : (q : Rule) (rest : List ℕ)
    → rule_bytes q ++ rest ≡ q.left ∷ q.right ∷ (flat_map tree_bytes q.left_args ++ (flat_map tree_bytes q.right_args ++ rest))
rule_spread q rest = ap (λ (bs : List ℕ). q.left ∷ q.right ∷ bs) (append_assoc (flat_map tree_bytes q.left_args) (flat_map tree_bytes q.right_args) rest)

-- Of a rule that bytes begin with, the symbols are these, and its arguments stand after them.
record SameSymbols (l r : ℕ) (c : List ℕ) (q : Rule) (rest : List ℕ) : Type 0 where
  left : l ≡ q.left
  right : r ≡ q.right
  after : c ≡ flat_map tree_bytes q.left_args ++ (flat_map tree_bytes q.right_args ++ rest)

same_symbols : (l r : ℕ) (bytes b c : List ℕ) (q : Rule) (rest : List ℕ) → bytes ≡ l ∷ b → b ≡ r ∷ c → bytes ≡ rule_bytes q ++ rest → SameSymbols l r c q rest
same_symbols l r bytes b c q rest first second e =
    let same : l ∷ r ∷ c ≡ q.left ∷ q.right ∷ (flat_map tree_bytes q.left_args ++ (flat_map tree_bytes q.right_args ++ rest)) =
    sym (first ∙ ap (λ (bs : List ℕ). l ∷ bs) second) ∙ e ∙ rule_spread q rest in
    record { left = cc (same); right = cc (same); after = cc (same) }

-- where no known symbol stands first, or second, there is no rule
pub none_left : (ss : List Symbol) (budget : ℕ) (bytes : List ℕ) → ((s : ℕ) (rest : List ℕ) → s < length ss → bytes ≢ s ∷ rest)
    → BeginsWithNoOne (HasRuleBytes ss) rule_bytes rule_nodes budget bytes
none_left ss budget bytes none q rest has within e =
    none q.left (q.right ∷ (flat_map tree_bytes q.left_args ++ (flat_map tree_bytes q.right_args ++ rest))) (known_below ss q.left (length q.left_args) (slice_get ss q.left) refl has.over.left) (e ∙ rule_spread q rest)

pub none_right : (ss : List Symbol) (budget l : ℕ) (bytes b : List ℕ) → bytes ≡ l ∷ b → ((s : ℕ) (rest : List ℕ) → s < length ss → b ≢ s ∷ rest)
    → BeginsWithNoOne (HasRuleBytes ss) rule_bytes rule_nodes budget bytes
none_right ss budget l bytes b first none q rest has within e =
    let args = flat_map tree_bytes q.left_args ++ (flat_map tree_bytes q.right_args ++ rest) in
    let same : l ∷ b ≡ q.left ∷ q.right ∷ args = sym first ∙ e ∙ rule_spread q rest in
    none q.right args (known_below ss q.right (length q.right_args) (slice_get ss q.right) refl has.over.right) (cc (same))

-- the number of arguments is the symbol's arity
same_count : (ss : List Symbol) (s a : ℕ) (n k : ℕ) → symbol_arity ss s ≡ Some a → s ≡ k → has_arity n (slice_get ss k) ≡ true → n ≡ a
same_count ss s a n k arity same known =
    one_arity n a (slice_get ss k) known (ap (λ m. has_arity a (slice_get ss m)) (sym same) ∙ arity_known a (slice_get ss s) arity)

pub none_left_args : (ss : List Symbol) (budget l r a : ℕ) (bytes b c : List ℕ) → bytes ≡ l ∷ b → b ≡ r ∷ c → symbol_arity ss l ≡ Some a
    → BeginsWithNoTrees ss a budget c → BeginsWithNoOne (HasRuleBytes ss) rule_bytes rule_nodes budget bytes
none_left_args ss budget l r a bytes b c first second arity none q rest has within e =
    let same = same_symbols l r bytes b c q rest first second e in
    none q.left_args (flat_map tree_bytes q.right_args ++ rest) (left_have ss q has)
    (same_count ss l a (length q.left_args) q.left arity same.left has.over.left) (omega arith) same.after

-- the left arguments of a rule that bytes begin with are those that were read
left_front : (ss : List Symbol) (budget l r a left : ℕ) (bytes b c : List ℕ) (ls : List Tree) (d : List ℕ) (q : Rule) (rest : List ℕ) → length ss ≤ 64 → HasRuleBytes ss q
    → symbol_arity ss l ≡ Some a → BeginsWithTrees ss a budget c ls left d → SameSymbols l r c q rest
    → (ls ≡ q.left_args) × (d ≡ flat_map tree_bytes q.right_args ++ rest)
left_front ss budget l r a left bytes b c ls d q rest few has arity begins same =
    items_front (HasBytes ss) tree_bytes (tree_tells ss few) ls q.left_args d (flat_map tree_bytes q.right_args ++ rest) begins.has_bytes (left_have ss q has)
    (begins.many ∙ sym (same_count ss l a (length q.left_args) q.left arity same.left has.over.left)) (sym begins.parts ∙ same.after)

pub none_right_args : (ss : List Symbol) (budget l r al ar left : ℕ) (bytes b c : List ℕ) (ls : List Tree) (d : List ℕ) → length ss ≤ 64 → bytes ≡ l ∷ b → b ≡ r ∷ c
    → symbol_arity ss l ≡ Some al → symbol_arity ss r ≡ Some ar → BeginsWithTrees ss al budget c ls left d
    → BeginsWithNoTrees ss ar left d → BeginsWithNoOne (HasRuleBytes ss) rule_bytes rule_nodes budget bytes
none_right_args ss budget l r al ar left bytes b c ls d few first second left_arity right_arity begins none q rest has within e =
    let same = same_symbols l r bytes b c q rest first second e in
    let front = left_front ss budget l r al left bytes b c ls d q rest few has left_arity begins same in
    none q.right_args rest (right_have ss q has) (same_count ss r ar (length q.right_args) q.right right_arity same.right has.over.right)
    (omega (arith, begins.counted, ap (sum_by nodes) front.0)) front.1

pub none_numbered : (ss : List Symbol) (budget l r al ar left left' : ℕ) (bytes b c : List ℕ) (ls : List Tree) (d : List ℕ) (rs : List Tree) (after : List ℕ)
    → length ss ≤ 64 → bytes ≡ l ∷ b → b ≡ r ∷ c → symbol_arity ss l ≡ Some al → symbol_arity ss r ≡ Some ar → BeginsWithTrees ss al budget c ls left d
    → BeginsWithTrees ss ar left d rs left' after → (IsNumbered (rule_of l r ls rs) → ⊥) → BeginsWithNoOne (HasRuleBytes ss) rule_bytes rule_nodes budget bytes
none_numbered ss budget l r al ar left left' bytes b c ls d rs after few first second left_arity right_arity begins further not q rest has within e =
    let same = same_symbols l r bytes b c q rest first second e in
    let front = left_front ss budget l r al left bytes b c ls d q rest few has left_arity begins same in
    let back = items_front (HasBytes ss) tree_bytes (tree_tells ss few) rs q.right_args after rest further.has_bytes (right_have ss q has)
    (further.many ∙ sym (same_count ss r ar (length q.right_args) q.right right_arity same.right has.over.right)) (sym further.parts ∙ front.1) in
    let all : flat_map names ls ++ flat_map names rs ≡ rule_names q = λ i. flat_map names (front.0 i) ++ flat_map names (back.0 i) in
    let counted_up = has.in_order ∙ ap (range_with_len 0) (sym (names_counted q has.in_order)) in
    not (subst (λ (ns : List ℕ). first_occurrences ns ≡ range_with_len 0 (length (first_occurrences ns))) (sym all) counted_up)

pub rule_begins : (ss : List Symbol) (budget l r al ar left left' : ℕ) (bytes b c : List ℕ) (ls : List Tree) (d : List ℕ) (rs : List Tree) (rest : List ℕ)
    → bytes ≡ l ∷ b → b ≡ r ∷ c → symbol_arity ss l ≡ Some al → symbol_arity ss r ≡ Some ar → BeginsWithTrees ss al budget c ls left d
    → BeginsWithTrees ss ar left d rs left' rest → IsNumbered (rule_of l r ls rs)
    → BeginsWithOne (HasRuleBytes ss) rule_bytes rule_nodes budget bytes (rule_of l r ls rs) left' rest
rule_begins ss budget l r al ar left left' bytes b c ls d rs rest first second left_arity right_arity begins further in_order = record {
  parts = first ∙ ap (λ (bs : List ℕ). l ∷ bs) (second ∙ ap (λ (bs : List ℕ). r ∷ bs) (begins.parts ∙ ap (λ (bs : List ℕ). flat_map tree_bytes ls ++ bs) further.parts))
      ∙ sym (rule_spread (rule_of l r ls rs) rest);
  valid = record {
    over = record {
      left = ap (λ k. has_arity k (slice_get ss l)) begins.many ∙ arity_known al (slice_get ss l) left_arity;
      right = ap (λ k. has_arity k (slice_get ss r)) further.many ∙ arity_known ar (slice_get ss r) right_arity;
      left_args = terms_over ss ls begins.has_bytes;
      right_args = terms_over ss rs further.has_bytes;
    };
    names = all_both _ (flat_map names ls) (flat_map names rs) (terms_small ss ls begins.has_bytes) (terms_small ss rs further.has_bytes);
    in_order = in_order;
  };
  counted = omega (arith, begins.counted, further.counted);
}

-- ---- rule sets

pub none_rules_count : (ss : List Symbol) (bytes : List ℕ) → length bytes < 2 → BeginsWithNone (IsRuleSetOver ss) set_bytes bytes
none_rules_count ss bytes short set rest is e =
    let n = length set.rules in
    omega (arith, ap length e, length-append (set_bytes set) rest, length-append (two_bytes n) (flat_map rule_bytes set.rules), length-two_bytes n)

count_first : (ss : List Symbol) (n : ℕ) (bytes b : List ℕ) (set : Rules) (rest : List ℕ) → n < 2 ^ 16 → IsRuleSetOver ss set → bytes ≡ two_bytes n ++ b
    → bytes ≡ set_bytes set ++ rest → (n ≡ length set.rules) × (b ≡ flat_map rule_bytes set.rules ++ rest)
count_first ss n bytes b set rest small is read e =
    two_front n (length set.rules) b (flat_map rule_bytes set.rules ++ rest) small (omega (arith, is.served.rules))
    (sym read ∙ e ∙ append_assoc (two_bytes (length set.rules)) (flat_map rule_bytes set.rules) rest)

set_has : (ss : List Symbol) (set : Rules) → IsRuleSetOver ss set → AllByRecursion (HasRuleBytes ss) set.rules
set_has ss set is = subst (λ (l : List Symbol). AllByRecursion (HasRuleBytes l) set.rules) is.over (rule_set_has set is.rules is.served)

pub none_rules : (ss : List Symbol) (n : ℕ) (bytes b : List ℕ) → n < 2 ^ 16 → bytes ≡ two_bytes n ++ b
    → BeginsWithNoMany (HasRuleBytes ss) rule_bytes rule_nodes n 2048 b → BeginsWithNone (IsRuleSetOver ss) set_bytes bytes
none_rules ss n bytes b small read none set rest is e =
    let first = count_first ss n bytes b set rest small is read e in
    none set.rules rest (set_has ss set is) (sym first.0) is.served.nodes first.1

-- rules that are too many have no bytes
pub too_many_rules : (ss : List Symbol) (n : ℕ) (bytes b : List ℕ) → n < 2 ^ 16 → bytes ≡ two_bytes n ++ b → 256 < n → BeginsWithNone (IsRuleSetOver ss) set_bytes bytes
too_many_rules ss n bytes b small read many set rest is e =
    omega (arith, many, is.served.rules, (count_first ss n bytes b set rest small is read e).0)

pub none_set : ((set : Rules) → (built set.symbols set.rules ≡ Ok set) ↔ IsRuleSet set) → (ss : List Symbol) (n : ℕ) (bytes b : List ℕ) (rs : List Rule) (left : ℕ) (after : List ℕ)
    → length ss ≤ 64 → n < 2 ^ 16 → bytes ≡ two_bytes n ++ b → BeginsWithMany (HasRuleBytes ss) rule_bytes rule_nodes n 2048 b rs left after
    → ((set : Rules) → built ss rs ≢ Ok set) → BeginsWithNone (IsRuleSetOver ss) set_bytes bytes
none_set takes ss n bytes b rs left after few small read begins not set rest is e =
    let first = count_first ss n bytes b set rest small is read e in
    let same = (items_front (HasRuleBytes ss) rule_bytes (rule_tells ss few) rs set.rules after rest begins.each (set_has ss set is) (begins.many ∙ first.0)
    (sym begins.parts ∙ first.1)).0 in
    let over = sym is.over in
    not set ((λ i. built (over i) (same i)) ∙ (takes set).1 is.rules)

numbered_each : (ss : List Symbol) (rs : List Rule) → AllByRecursion (HasRuleBytes ss) rs → AllByRecursion IsNumbered rs
numbered_each ss [] all = tt
numbered_each ss (r ∷ rs) all = (all.0.in_order, numbered_each ss rs all.1)

pub set_begins : ((set : Rules) → (built set.symbols set.rules ≡ Ok set) ↔ IsRuleSet set)
    → ((ss : List Symbol) (rs : List Rule) (set : Rules) → built ss rs ≡ Ok set → IsTaken ss rs set)
    → (ss : List Symbol) (n : ℕ) (bytes b : List ℕ) (rs : List Rule) (left : ℕ) (rest : List ℕ) (set : Rules)
    → length ss ≤ 64 → n ≤ 256 → bytes ≡ two_bytes n ++ b → BeginsWithMany (HasRuleBytes ss) rule_bytes rule_nodes n 2048 b rs left rest → Ok set ≡ built ss rs
    → BeginsWith (IsRuleSetOver ss) set_bytes bytes set rest
set_begins takes made ss n bytes b rs left rest set known few read begins ok =
    let whole : set ≡ record { symbols = ss; rules = rs } =
    (made ss rs set (sym ok)).made ∙ ap (λ (l : List Rule). record { symbols = ss; rules = l }) (map-numbered-same rs (numbered_each ss rs begins.each)) in
    let is : IsRuleSet (record { symbols = ss; rules = rs }) = (takes (record { symbols = ss; rules = rs })).0 (sym ok ∙ ap (λ (s : Rules). Ok s) whole) in
    let served : AreServed (record { symbols = ss; rules = rs }) =
    record { symbols = known; rules = omega (arith, few, begins.many); nodes = omega (arith, begins.counted) } in
    record {
      parts = read ∙ ap (λ (k : ℕ). two_bytes k ++ b) (sym begins.many) ∙ ap (λ (bs : List ℕ). two_bytes (length rs) ++ bs) begins.parts
          ∙ sym (append_assoc (two_bytes (length rs)) (flat_map rule_bytes rs) rest) ∙ ap (λ (s : Rules). set_bytes s ++ rest) (sym whole);
      valid = record { rules = subst IsRuleSet (sym whole) is; served = subst AreServed (sym whole) served; over = ap (λ (s : Rules). s.symbols) whole };
    }
