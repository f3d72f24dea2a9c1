-- Lists of rules: the first that passes a test, and lists that are numbered.
use Rattle.std.proofs.Common.{◌≡◌, ℕ, zero, suc, ◌+◌, ◌<◌, ◌==◌, Bool, true, false, List, [], ◌∷◌, ◌++◌, ◌&&◌, ◌||◌, Option, None, Some, length, map, get_or, drop, take, cond, is_some, sum_by, nat_le, refl, sym, ap, ◌∙◌, arith, drop-cons, add-one}
use Rattle.std.proofs.lemmas.List.{take_more, map-append, length-map, length-take-le}
use Rattle.std.specs.Cmp.{unsigned_Decides}
use Rattle.std.specs.BTreeMap.{BTreeMap, get, is_at}
use Rattle.std.specs.declared.cmp.Ordering.{Ordering}
use Rattle.std.specs.declared.cmp.Ordering.TheVariants.{Less, Equal, Greater}
use Rattle.std.specs.Ordering.{nat_cmp, ordering_then, is_eq}
use Rattle.std.proofs.lemmas.Bool.Decides.{nat_tests}
use Rattle.std.specs.List.{position_from, list_any, list_all, flat_map, AllByRecursion}
use Rattle.ic_term.specs.declared.term.Cell.{Cell}
use Rattle.ic_rules.specs.declared.rule_set.SymbolPair.{SymbolPair}
use Rattle.ic_term.specs.Tree.{Tree, name, agent, Trees, no_trees, more_trees, trees_of, list_of, nodes, nodes_of}
use Rattle.ic_term.specs.Symbol.{Symbol}
use Rattle.ic_rules.specs.declared.limits.TheConstants.{MAX_WIDE_RULES, MAX_RULE_NODES}
use Rattle.ic_rules.specs.Renaming.{renamed, renamed_trees, number_among, first_occurrences}
use Rattle.ic_rules.specs.Rule.{Rule, stands_for, same_pair, agents, agents_of, rule_agents, rule_names, rule_nodes, numbered, IsRule}
use Rattle.ic_rules.specs.RuleSet.{repeated_after, first_repeated, first_unfit, unfit_among, are_few, IsRuleSet}
use Rattle.std.proofs.lemmas.List.Sums.{sum_by-cons}
use Rattle.ic_rules.specs.Written.{written}
use Rattle.ic_rules.specs.inner.Places.{ArePlaces, pair_cmp}
use Rattle.ic_rules.specs.lemmas.FindLaws.{any_of_two}

abbrev pub Places : Type 0
Places = BTreeMap SymbolPair ℕ

same_number : (m n : ℕ) → is_eq (nat_cmp m n) ≡ (m == n)
same_number m n = grind (arith, nat_tests)

then_eq : (o p : Ordering) → is_eq (ordering_then o p) ≡ (is_eq o && is_eq p)
then_eq Less p = refl
then_eq Equal p = refl
then_eq Greater p = refl

-- a map's test of a pair is equality of both symbols
pub pair_test : (p q : SymbolPair) → is_at (pair_cmp p) q ≡ (p.first == q.first && p.second == q.second)
pair_test p q = then_eq (nat_cmp p.first q.first) (nat_cmp p.second q.second) ∙ (λ i. same_number p.first q.first i && same_number p.second q.second i)

-- what the first finds, or else the second
abbrev pub first_or : Option ℕ → Option ℕ → Option ℕ
first_or None other = other
first_or (Some i) other = Some i

first_or-none : (o : Option ℕ) → first_or o None ≡ o
first_or-none None = refl
first_or-none (Some i) = refl

and_parts : (a b c d : ℕ) → (a == b && c == d) ≡ true → (a ≡ b) × (c ≡ d)
and_parts a b c d e = parts (a == b) (c == d) refl refl e
  where
    parts : (p q : Bool) → (a == b) ≡ p → (c == d) ≡ q → (p && q) ≡ true → (a ≡ b) × (c ≡ d)
    parts true true ep eq e = ((unsigned_Decides a b).0 ep, (unsigned_Decides c d).0 eq)
    parts true false ep eq e = cc
    parts false q ep eq e = cc

-- where none passes, that at a place doesn't
pub none_at : {X Y : Type 0} (p : Y → Bool) (f : X → Y) (j : ℕ) (xs : List X) (i : ℕ) (d : X) → position_from p j (map f xs) ≡ None → i < length xs → p (f (get_or xs i d)) ≡ false
none_at p f j [] i d none within = absurd (omega arith)
none_at p f j (x ∷ xs) zero d none within = head (p (f x)) _ none
  where
    head : (b : Bool) (o : Option ℕ) → cond b (Some j) o ≡ None → b ≡ false
    head true o e = cc
    head false o e = refl
none_at p f j (x ∷ xs) (suc i) d none within = none_at p f (j + 1) xs i d (rest (p (f x)) _ none) (omega arith)
  where
    rest : (b : Bool) (o : Option ℕ) → cond b (Some j) o ≡ None → o ≡ None
    rest true o e = cc
    rest false o e = e

-- one element more
pub position_from-push : {X : Type 0} (p : X → Bool) (j : ℕ) (xs : List X) (y : X)
    → position_from p j (xs ++ y ∷ []) ≡ first_or (position_from p j xs) (cond (p y) (Some (j + length xs)) None)
position_from-push p j [] y = ap (λ n. cond (p y) (Some n) None) (omega arith)
position_from-push p j (x ∷ xs) y = elim (p x) as (λ b. cond b (Some j) (position_from p (j + 1) (xs ++ y ∷ [])) ≡ first_or (cond b (Some j) (position_from p (j + 1) xs)) (cond (p y) (Some (j + suc (length xs))) None)) [
  | true ↦ refl
  | false ↦ position_from-push p (j + 1) xs y ∙ ap (λ n. first_or (position_from p (j + 1) xs) (cond (p y) (Some n) None)) (omega arith)
]

take_written : (rs : List (Cell × Cell)) (i : ℕ) (d : Cell × Cell) → i < length rs → map written (take (i + 1) rs) ≡ map written (take i rs) ++ written (get_or rs i d) ∷ []
take_written rs i d within = ap (map written) (take_more rs i d within) ∙ map-append written (take i rs) (get_or rs i d ∷ [])

drop_written : (rs : List (Cell × Cell)) (i : ℕ) (d : Cell × Cell) → i < length rs → map written (drop i rs) ≡ written (get_or rs i d) ∷ map written (drop (i + 1) rs)
drop_written rs i d within = rw (drop-cons rs i d, add-one i) refl

length_written : (rs : List (Cell × Cell)) (i : ℕ) → i < length rs → length (map written (take i rs)) ≡ i
length_written rs i within = length-map (take i rs) written ∙ length-take-le i rs (omega arith)

-- the pair of the next rule is there already
pub repeated_here : (rs : List (Cell × Cell)) (i : ℕ) (d : Cell × Cell) → i < length rs
    → list_any (same_pair (written (get_or rs i d))) (map written (take i rs)) ≡ true
    → repeated_after (map written (take i rs)) (map written (drop i rs)) ≡ Some i
repeated_here rs i d within there = rw (drop_written rs i d within, there) (ap Some (length_written rs i within))

-- the pair of the next rule is new
pub repeated_later : (rs : List (Cell × Cell)) (i : ℕ) (d : Cell × Cell) → i < length rs
    → list_any (same_pair (written (get_or rs i d))) (map written (take i rs)) ≡ false
    → repeated_after (map written (take i rs)) (map written (drop i rs)) ≡ repeated_after (map written (take (i + 1) rs)) (map written (drop (i + 1) rs))
repeated_later rs i d within new = rw (drop_written rs i d within, new, take_written rs i d within) refl

-- whether the pair of a rule is among those of others, by the map of their places
pub pair_there : (m : Places) (earlier : List Rule) (r : Rule) → ArePlaces m earlier
    → list_any (same_pair r) earlier ≡ (is_some (get pair_cmp m (record { first = r.left; second = r.right })) || is_some (get pair_cmp m (record { first = r.right; second = r.left })))
pair_there m earlier r are =
    any_of_two (stands_for r.left r.right) (stands_for r.right r.left) 0 earlier
    ∙ (λ j. is_some (sym (are.each (record { first = r.left; second = r.right })) j) || is_some (sym (are.each (record { first = r.right; second = r.left })) j))

-- the places once a rule is added whose symbols have none
pub places_next : (m n : Places) (rs : List (Cell × Cell)) (i : ℕ) (d : Cell × Cell) → i < length rs → ArePlaces m (map written (take i rs))
    → get pair_cmp m (record { first = (written (get_or rs i d)).left; second = (written (get_or rs i d)).right }) ≡ None
    → ((q : SymbolPair) → get pair_cmp n q ≡ cond ((written (get_or rs i d)).left == q.first && (written (get_or rs i d)).right == q.second) (Some i) (get pair_cmp m q))
    → ArePlaces n (map written (take (i + 1) rs))
places_next m n rs i d within are none put = record { each = λ q. put q ∙ at q ((written (get_or rs i d)).left == q.first && (written (get_or rs i d)).right == q.second) refl ∙ sym (grown q) }
  where
    grown : (q : SymbolPair) → position_from (stands_for q.first q.second) 0 (map written (take (i + 1) rs))
        ≡ first_or (position_from (stands_for q.first q.second) 0 (map written (take i rs))) (cond ((written (get_or rs i d)).left == q.first && (written (get_or rs i d)).right == q.second) (Some i) None)
    grown q = ap (position_from (stands_for q.first q.second) 0) (take_written rs i d within)
        ∙ position_from-push (stands_for q.first q.second) 0 (map written (take i rs)) (written (get_or rs i d))
        ∙ ap (λ k. first_or (position_from (stands_for q.first q.second) 0 (map written (take i rs))) (cond ((written (get_or rs i d)).left == q.first && (written (get_or rs i d)).right == q.second) (Some k) None))
        (omega (arith, length_written rs i within))

    at : (q : SymbolPair) (b : Bool) → ((written (get_or rs i d)).left == q.first && (written (get_or rs i d)).right == q.second) ≡ b
        → cond ((written (get_or rs i d)).left == q.first && (written (get_or rs i d)).right == q.second) (Some i) (get pair_cmp m q)
        ≡ first_or (position_from (stands_for q.first q.second) 0 (map written (take i rs))) (cond ((written (get_or rs i d)).left == q.first && (written (get_or rs i d)).right == q.second) (Some i) None)
    at q true is =
        let same = and_parts (written (get_or rs i d)).left q.first (written (get_or rs i d)).right q.second is in
        let absent : position_from (stands_for q.first q.second) 0 (map written (take i rs)) ≡ None =
        (λ j. position_from (stands_for (sym same.0 j) (sym same.1 j)) 0 (map written (take i rs)))
        ∙ sym (are.each (record { first = (written (get_or rs i d)).left; second = (written (get_or rs i d)).right })) ∙ none in
        rw (is, absent) refl
    at q false is = rw is (are.each q ∙ sym (first_or-none (position_from (stands_for q.first q.second) 0 (map written (take i rs)))))

pub none_of_either : (o p : Option ℕ) → (is_some o || is_some p) ≡ false → o ≡ None
none_of_either None p e = refl
none_of_either (Some n) p e = cc

-- What a rule set keeps, of the rules with their names numbered.
mutual
  nodes-renamed : (f : ℕ → ℕ) (t : Tree) → nodes (renamed f t) ≡ nodes t
  nodes-renamed f (name n) = refl
  nodes-renamed f (agent s ts) = ap (λ n. 1 + n) (nodes_of-renamed f ts)

  nodes_of-renamed : (f : ℕ → ℕ) (ts : Trees) → nodes_of (renamed_trees f ts) ≡ nodes_of ts
  nodes_of-renamed f no_trees = refl
  nodes_of-renamed f (more_trees t ts) = λ i. nodes-renamed f t i + nodes_of-renamed f ts i

mutual
  agents-renamed : (f : ℕ → ℕ) (t : Tree) → agents (renamed f t) ≡ agents t
  agents-renamed f (name n) = refl
  agents-renamed f (agent s ts) = λ i. (s, length-renamed f ts i) ∷ agents_of-renamed f ts i

  agents_of-renamed : (f : ℕ → ℕ) (ts : Trees) → agents_of (renamed_trees f ts) ≡ agents_of ts
  agents_of-renamed f no_trees = refl
  agents_of-renamed f (more_trees t ts) = λ i. agents-renamed f t i ++ agents_of-renamed f ts i

  length-renamed : (f : ℕ → ℕ) (ts : Trees) → length (list_of (renamed_trees f ts)) ≡ length (list_of ts)
  length-renamed f no_trees = refl
  length-renamed f (more_trees t ts) = ap suc (length-renamed f ts)

sum_nodes-renamed : (f : ℕ → ℕ) (ts : List Tree) → sum_by nodes (map (renamed f) ts) ≡ sum_by nodes ts
sum_nodes-renamed f [] = refl
sum_nodes-renamed f (t ∷ ts) = sum_by-cons nodes (renamed f t) (map (renamed f) ts) ∙ (λ i. nodes-renamed f t i + sum_nodes-renamed f ts i) ∙ sym (sum_by-cons nodes t ts)

rule_nodes-numbered : (r : Rule) → rule_nodes (numbered r) ≡ rule_nodes r
rule_nodes-numbered r = λ i. sum_nodes-renamed (number_among (first_occurrences (rule_names r))) r.left_args i + sum_nodes-renamed (number_among (first_occurrences (rule_names r))) r.right_args i

short-numbered : (rs : List Rule) → list_all (λ r. nat_le (rule_nodes r) MAX_RULE_NODES) (map numbered rs) ≡ list_all (λ r. nat_le (rule_nodes r) MAX_RULE_NODES) rs
short-numbered [] = refl
short-numbered (r ∷ rs) = λ i. nat_le (rule_nodes-numbered r i) MAX_RULE_NODES && short-numbered rs i

agents_of-map : (f : ℕ → ℕ) (ts : List Tree) → agents_of (trees_of (map (renamed f) ts)) ≡ agents_of (trees_of ts)
agents_of-map f [] = refl
agents_of-map f (t ∷ ts) = λ i. agents-renamed f t i ++ agents_of-map f ts i

length_args-map : (f : ℕ → ℕ) (ts : List Tree) → length (list_of (trees_of (map (renamed f) ts))) ≡ length (list_of (trees_of ts))
length_args-map f [] = refl
length_args-map f (t ∷ ts) = ap suc (length_args-map f ts)

agents-numbered : (rs : List Rule) → flat_map rule_agents (map numbered rs) ≡ flat_map rule_agents rs
agents-numbered [] = refl
agents-numbered (r ∷ rs) =
    let f : ℕ → ℕ = number_among (first_occurrences (rule_names r)) in
    λ i. ((r.left, length_args-map f r.left_args i) ∷ agents_of-map f r.left_args i ++ (r.right, length_args-map f r.right_args i) ∷ agents_of-map f r.right_args i) ++ agents-numbered rs i

pairs-numbered : (p : Rule → Rule → Bool) → ((r s : Rule) → p (numbered r) (numbered s) ≡ p r s) → (r : Rule) (rs : List Rule)
    → list_any (p (numbered r)) (map numbered rs) ≡ list_any (p r) rs
pairs-numbered p same r [] = refl
pairs-numbered p same r (s ∷ rs) = λ i. same r s i || pairs-numbered p same r rs i

repeated-numbered : (seen rs : List Rule) → repeated_after (map numbered seen) (map numbered rs) ≡ repeated_after seen rs
repeated-numbered seen [] = refl
repeated-numbered seen (r ∷ rs) =
    (λ i. cond (pairs-numbered same_pair (λ _ _. refl) r seen i) (Some (length-map seen numbered i)) (repeated_after (sym (map-append numbered seen (r ∷ [])) i) (map numbered rs)))
    ∙ ap (cond (list_any (same_pair r) seen) (Some (length seen))) (repeated-numbered (seen ++ r ∷ []) rs)

position-numbered : (a b j : ℕ) (rs : List Rule) → position_from (stands_for a b) j (map numbered rs) ≡ position_from (stands_for a b) j rs
position-numbered a b j [] = refl
position-numbered a b j (r ∷ rs) = ap (cond (stands_for a b r) (Some j)) (position-numbered a b (j + 1) rs)

pub IsRuleSet-numbered : (ss : List Symbol) (rs : List Rule) → AllByRecursion IsRule (map numbered rs) → are_few rs ≡ true → first_unfit ss rs ≡ None → first_repeated rs ≡ None
    → IsRuleSet (record { symbols = ss; rules = map numbered rs })
IsRuleSet-numbered ss rs each few fitting single = record {
  each = each;
  few = (λ i. nat_le (length-map rs numbered i) MAX_WIDE_RULES && short-numbered rs i) ∙ few;
  fitting = ap (unfit_among ss) (agents-numbered rs) ∙ fitting;
  single = repeated-numbered [] rs ∙ single;
}

pub ArePlaces-numbered : (m : Places) (rs : List Rule) → ArePlaces m rs → ArePlaces m (map numbered rs)
ArePlaces-numbered m rs are = record { each = λ p. are.each p ∙ sym (position-numbered p.first p.second 0 rs) }
