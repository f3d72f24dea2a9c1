-- The nodes of rules, counted word by word and rule by rule.
use Rattle.std.proofs.Common.{◌≡◌, ℕ, zero, suc, ◌+◌, ◌-◌, ◌*◌, ◌<◌, ◌≤◌, ◌^◌, Bool, true, false, not, ◌&&◌, cond, List, [], ◌∷◌, ◌++◌, length, drop, get_or, refl, sym, ap, ◌∙◌, append_assoc, arith, length-append}
use Rattle.std.specs.Prelude.{nat_le, nat_lt, sum_by}
use Rattle.std.specs.List.{list_all}
use Rattle.std.proofs.lemmas.Bool.{and_from, leb-true, leb-false, lt-ltb, le-ltb, ltb-true, ltb-false}
use Rattle.std.proofs.lemmas.Bool.Decides.{nat_tests}
use Rattle.std.proofs.lemmas.List.{drop_more}
use Rattle.std.proofs.lemmas.List.Sums.{sum_by-append, sum_by-cons}
use Rattle.ic_term.specs.Symbol.{Symbol}
use Rattle.ic_rules.specs.declared.limits.TheConstants.{MAX_RULE_NODES}
use Rattle.ic_text.specs.declared.limits.Limits.{Limits}
use Rattle.ic_text.specs.declared.limits.Limits.TheVariants.{Served, Wide}
use Rattle.ic_text.specs.Source.{Source, leaf, node, Sources, no_sources, more_sources, count_of, nodes_of_sources, source_nodes}
use Rattle.ic_text.specs.SystemSource.{RulePhrase, agent_source, rule_nodes}
use Rattle.ic_text.specs.SystemSense.{rules_are_small}
use Rattle.ic_text.specs.inner.Words.{prefix, prefix_of_sources, rules_prefix}
use Rattle.ic_text.specs.inner.Counted.{due_after, each_keeps, rule_nodes_keep}
use Rattle.ic_text.proofs.Numbering.{gt_test}
use Rattle.ic_text.proofs.JoinedPhrase.{length-rules_prefix}

pub le_test : (n m : ℕ) → n ≤ m → nat_le n m ≡ true
le_test n m le = grind (arith, nat_tests)

abbrev pub arities : List Symbol → ℕ
arities ws = sum_by (λ (w : Symbol). w.arity) ws

-- words have no more arguments than they are
mutual
  arities-prefix : (t : Source) → 1 + arities (prefix t) ≡ length (prefix t)
  arities-prefix (leaf n) = refl
  arities-prefix (node text us) =
      omega (arith, arities-sources us, sum_by-cons (λ (x : Symbol). x.arity) (record { text = text; arity = count_of us }) (prefix_of_sources us))

  arities-sources : (us : Sources) → count_of us + arities (prefix_of_sources us) ≡ length (prefix_of_sources us)
  arities-sources no_sources = refl
  arities-sources (more_sources u us) =
      omega (arith, arities-prefix u, arities-sources us, sum_by-append (λ (x : Symbol). x.arity) (prefix u) (prefix_of_sources us), length-append (prefix u) (prefix_of_sources us))

arities-append : (vs ws : List Symbol) → arities (vs ++ ws) ≡ arities vs + arities ws
arities-append vs ws = sum_by-append (λ (x : Symbol). x.arity) vs ws

pub arities-rules : (rs : List RulePhrase) → arities (rules_prefix rs) ≤ length (rules_prefix rs)
arities-rules [] = omega arith
arities-rules (r ∷ rs) =
    let left = prefix (agent_source r.left) in
    let right = prefix (agent_source r.right) in
    omega (arith, arities-prefix (agent_source r.left), arities-prefix (agent_source r.right), arities-rules rs, arities-append (left ++ right) (rules_prefix rs), arities-append left right, length-append (left ++ right) (rules_prefix rs), length-append left right)

-- where the words so far are walked over, this is left to be seen
pub record Walked (ws : List Symbol) (k due : ℕ) (second : Bool) (found : ℕ) : Type 0 where
  pub room : due + arities (drop k ws) < 2 ^ 64
  pub few : found ≤ MAX_RULE_NODES
  pub same : each_keeps due second found (drop k ws) ≡ each_keeps 0 true 0 ws

module _ (ws : List Symbol) (k : ℕ) (w : Symbol) (rest : drop k ws ≡ w ∷ drop (k + 1) ws) (due found : ℕ) (second : Bool) (walked : Walked ws k due second found) where
  more : arities (drop k ws) ≡ w.arity + arities (drop (k + 1) ws)
  more = ap arities rest ∙ sum_by-cons (λ (x : Symbol). x.arity) w (drop (k + 1) ws)

  here : each_keeps due second found (w ∷ drop (k + 1) ws) ≡ each_keeps 0 true 0 ws
  here = ap (each_keeps due second found) (sym rest) ∙ walked.same

  pub due_fits : due + w.arity < 2 ^ 64
  due_fits = omega (arith, walked.room, more)

  after-le : (d n : ℕ) → due_after d n ≤ d + n
  after-le zero n = omega arith
  after-le (suc d) n = omega arith

  -- a node too many
  one_too_many : 0 < due → found ≡ MAX_RULE_NODES → false ≡ each_keeps 0 true 0 ws
  one_too_many some full = by due some here
    where
      by : (d : ℕ) → 0 < d → each_keeps d second found (w ∷ drop (k + 1) ws) ≡ each_keeps 0 true 0 ws → false ≡ each_keeps 0 true 0 ws
      by zero some is = absurd (omega (arith, some))
      by (suc d) some is = ap (λ b. b && each_keeps (d + w.arity) second (found + 1) (drop (k + 1) ws)) (sym (le-ltb found MAX_RULE_NODES (omega (arith, full)))) ∙ is

  module _ (next : ℕ) (next_is : next ≡ due_after due w.arity) where
    fits_on : next + arities (drop (k + 1) ws) < 2 ^ 64
    fits_on = omega (arith, next_is, after-le due w.arity, walked.room, more)

    -- a node of an agent
    pub one_within : 0 < due → found < MAX_RULE_NODES → Walked ws (k + 1) next second (found + 1)
    one_within some low = record {
      room = fits_on;
      few = omega (arith, low);
      same = ap (λ d. each_keeps d second (found + 1) (drop (k + 1) ws)) next_is ∙ by due some here;
    }
      where
        by : (d : ℕ) → 0 < d → each_keeps d second found (w ∷ drop (k + 1) ws) ≡ each_keeps 0 true 0 ws → each_keeps (due_after d w.arity) second (found + 1) (drop (k + 1) ws) ≡ each_keeps 0 true 0 ws
        by zero some is = absurd (omega (arith, some))
        by (suc d) some is = ap (λ b. b && each_keeps (d + w.arity) second (found + 1) (drop (k + 1) ws)) (sym (lt-ltb found MAX_RULE_NODES low)) ∙ is

    -- the first word of an agent
    pub one_outer : due ≡ 0 → Walked ws (k + 1) next (not second) (cond second 0 found)
    one_outer none = record {
      room = fits_on;
      few = low second;
      same = ap (λ d. each_keeps d (not second) (cond second 0 found) (drop (k + 1) ws)) (next_is ∙ ap (λ d. due_after d w.arity) none) ∙ ap (λ d. each_keeps d second found (w ∷ drop (k + 1) ws)) (sym none) ∙ here;
    }
      where
        low : (b : Bool) → cond b 0 found ≤ MAX_RULE_NODES
        low true = omega arith
        low false = walked.few

pub too_many_there : (ws : List Symbol) (k due found : ℕ) (second : Bool) → k < length ws → Walked ws k due second found → 0 < due → found ≡ MAX_RULE_NODES → false ≡ each_keeps 0 true 0 ws
too_many_there ws k due found second inside walked =
    let d : Symbol = record { text = []; arity = 0 } in
    one_too_many ws k (get_or ws k d) (drop_more ws k d inside) due found second walked

below_is : (n : ℕ) → nat_lt n MAX_RULE_NODES ≡ nat_le (n + 1) MAX_RULE_NODES
below_is n = by (nat_lt n MAX_RULE_NODES) refl
  where
    by : (b : Bool) → nat_lt n MAX_RULE_NODES ≡ b → b ≡ nat_le (n + 1) MAX_RULE_NODES
    by true low = sym (le_test (n + 1) MAX_RULE_NODES (omega (arith, ltb-true n MAX_RULE_NODES low)))
    by false high = sym (gt_test (n + 1) MAX_RULE_NODES (omega (arith, ltb-false n MAX_RULE_NODES high)))

mutual
  term-within : (t : Source) (rest : List Symbol) (second : Bool) (due n : ℕ) → each_keeps (suc due) second n (prefix t ++ rest)
      ≡ (nat_le (n + source_nodes t) MAX_RULE_NODES && each_keeps due second (n + source_nodes t) rest)
  term-within (leaf m) rest second due n =
      let none : due + 0 ≡ due = omega arith in
      λ i. below_is n i && each_keeps (none i) second (n + 1) rest
  term-within (node text us) rest second due n = by (nat_lt n MAX_RULE_NODES) refl (sources-within us rest second due (n + 1))
    where
      by : (b : Bool) → nat_lt n MAX_RULE_NODES ≡ b
          → (n + 1 ≤ MAX_RULE_NODES → each_keeps (count_of us + due) second (n + 1) (prefix_of_sources us ++ rest)
          ≡ (nat_le (n + 1 + nodes_of_sources us) MAX_RULE_NODES && each_keeps due second (n + 1 + nodes_of_sources us) rest))
          → (b && each_keeps (due + count_of us) second (n + 1) (prefix_of_sources us ++ rest))
          ≡ (nat_le (n + (1 + nodes_of_sources us)) MAX_RULE_NODES && each_keeps due second (n + (1 + nodes_of_sources us)) rest)
      by true low within =
          let turned : due + count_of us ≡ count_of us + due = omega arith in
          let sum : n + 1 + nodes_of_sources us ≡ n + (1 + nodes_of_sources us) = omega arith in
          ap (λ d. each_keeps d second (n + 1) (prefix_of_sources us ++ rest)) turned
          ∙ within (omega (arith, ltb-true n MAX_RULE_NODES low))
          ∙ (λ i. nat_le (sum i) MAX_RULE_NODES && each_keeps due second (sum i) rest)
      by false high within =
          sym (ap (λ b. b && each_keeps due second (n + (1 + nodes_of_sources us)) rest)
          (gt_test (n + (1 + nodes_of_sources us)) MAX_RULE_NODES (omega (arith, ltb-false n MAX_RULE_NODES high))))

  sources-within : (us : Sources) (rest : List Symbol) (second : Bool) (due n : ℕ) → n ≤ MAX_RULE_NODES → each_keeps (count_of us + due) second n (prefix_of_sources us ++ rest)
      ≡ (nat_le (n + nodes_of_sources us) MAX_RULE_NODES && each_keeps due second (n + nodes_of_sources us) rest)
  sources-within no_sources rest second due n low =
      let same : 0 + due ≡ due = omega arith in
      let none : n ≡ n + 0 = omega arith in
      let fit : true ≡ nat_le (n + 0) MAX_RULE_NODES = sym (le_test (n + 0) MAX_RULE_NODES (omega (arith, low))) in
      λ i. fit i && each_keeps (same i) second (none i) rest
  sources-within (more_sources u us) rest second due n low =
      let next : 1 + count_of us + due ≡ suc (count_of us + due) = omega arith in
      ap (λ d. each_keeps d second n ((prefix u ++ prefix_of_sources us) ++ rest)) next
      ∙ ap (each_keeps (suc (count_of us + due)) second n) (append_assoc (prefix u) (prefix_of_sources us) rest)
      ∙ term-within u (prefix_of_sources us ++ rest) second (count_of us + due) n
      ∙ by (nat_le (n + source_nodes u) MAX_RULE_NODES) refl (sources-within us rest second due (n + source_nodes u))
    where
      by : (b : Bool) → nat_le (n + source_nodes u) MAX_RULE_NODES ≡ b
          → (n + source_nodes u ≤ MAX_RULE_NODES → each_keeps (count_of us + due) second (n + source_nodes u) (prefix_of_sources us ++ rest)
          ≡ (nat_le (n + source_nodes u + nodes_of_sources us) MAX_RULE_NODES && each_keeps due second (n + source_nodes u + nodes_of_sources us) rest))
          → (b && each_keeps (count_of us + due) second (n + source_nodes u) (prefix_of_sources us ++ rest))
          ≡ (nat_le (n + (source_nodes u + nodes_of_sources us)) MAX_RULE_NODES && each_keeps due second (n + (source_nodes u + nodes_of_sources us)) rest)
      by true low within =
          let sum : n + source_nodes u + nodes_of_sources us ≡ n + (source_nodes u + nodes_of_sources us) = omega arith in
          within (leb-true (n + source_nodes u) MAX_RULE_NODES low) ∙ (λ i. nat_le (sum i) MAX_RULE_NODES && each_keeps due second (sum i) rest)
      by false high within =
          sym (ap (λ b. b && each_keeps due second (n + (source_nodes u + nodes_of_sources us)) rest)
          (gt_test (n + (source_nodes u + nodes_of_sources us)) MAX_RULE_NODES (omega (arith, leb-false (n + source_nodes u) MAX_RULE_NODES high))))

-- the words of one rule, and others after it
rule-within : (r : RulePhrase) (rest : List Symbol) (n : ℕ) → each_keeps 0 true n ((prefix (agent_source r.left) ++ prefix (agent_source r.right)) ++ rest)
    ≡ (nat_le (rule_nodes r) MAX_RULE_NODES && each_keeps 0 true (rule_nodes r) rest)
rule-within r rest n =
    ap (each_keeps 0 true n) (append_assoc (prefix (agent_source r.left)) (prefix (agent_source r.right)) rest)
    ∙ ap (λ d. each_keeps d false 0 (prefix_of_sources r.left.arguments ++ (prefix (agent_source r.right) ++ rest))) none_left
    ∙ sources-within r.left.arguments (prefix (agent_source r.right) ++ rest) false 0 0 (omega arith)
    ∙ by (nat_le (0 + nodes_of_sources r.left.arguments) MAX_RULE_NODES) refl
  where
    none_left : count_of r.left.arguments ≡ count_of r.left.arguments + 0
    none_left = omega arith

    none_right : count_of r.right.arguments ≡ count_of r.right.arguments + 0
    none_right = omega arith

    by : (b : Bool) → nat_le (0 + nodes_of_sources r.left.arguments) MAX_RULE_NODES ≡ b
        → (b && each_keeps 0 false (0 + nodes_of_sources r.left.arguments) (prefix (agent_source r.right) ++ rest))
        ≡ (nat_le (rule_nodes r) MAX_RULE_NODES && each_keeps 0 true (rule_nodes r) rest)
    by true low =
        let sum : 0 + nodes_of_sources r.left.arguments + nodes_of_sources r.right.arguments ≡ rule_nodes r = omega arith in
        ap (λ d. each_keeps d true (0 + nodes_of_sources r.left.arguments) (prefix_of_sources r.right.arguments ++ rest)) none_right
        ∙ sources-within r.right.arguments rest true 0 (0 + nodes_of_sources r.left.arguments) (leb-true (0 + nodes_of_sources r.left.arguments) MAX_RULE_NODES low)
        ∙ (λ i. nat_le (sum i) MAX_RULE_NODES && each_keeps 0 true (sum i) rest)
    by false high =
        sym (ap (λ b. b && each_keeps 0 true (rule_nodes r) rest)
        (gt_test (rule_nodes r) MAX_RULE_NODES (omega (arith, leb-false (0 + nodes_of_sources r.left.arguments) MAX_RULE_NODES high))))

-- the words of rules
pub each-rules : (rs : List RulePhrase) (n : ℕ) → each_keeps 0 true n (rules_prefix rs) ≡ list_all (λ r. nat_le (rule_nodes r) MAX_RULE_NODES) rs
each-rules [] n = refl
each-rules (r ∷ rs) n = rule-within r (rules_prefix rs) n ∙ ap (λ b. nat_le (rule_nodes r) MAX_RULE_NODES && b) (each-rules rs (rule_nodes r))

pub each_of_sum : (rs : List RulePhrase) → sum_by rule_nodes rs ≤ MAX_RULE_NODES → list_all (λ r. nat_le (rule_nodes r) MAX_RULE_NODES) rs ≡ true
each_of_sum [] few = refl
each_of_sum (r ∷ rs) few =
    let sum = sum_by-cons rule_nodes r rs in
    and_from _ _ (le_test (rule_nodes r) MAX_RULE_NODES (omega (arith, few, sum))) (each_of_sum rs (omega (arith, few, sum)))

pub each_small : (limits : Limits) (rs : List RulePhrase) → rules_are_small limits rs ≡ true → list_all (λ r. nat_le (rule_nodes r) MAX_RULE_NODES) rs ≡ true
each_small Served rs small = each_of_sum rs (leb-true (sum_by rule_nodes rs) MAX_RULE_NODES small)
each_small Wide rs small = small

-- so the words of rules tell whether they are small
pub keep-small : (limits : Limits) (rs : List RulePhrase) (agents : ℕ) → agents ≡ 2 * length rs → rule_nodes_keep limits agents (rules_prefix rs) ≡ rules_are_small limits rs
keep-small Served rs agents are =
    let many : length (rules_prefix rs) - agents ≡ sum_by rule_nodes rs = omega (arith, are, length-rules_prefix rs) in
    ap (λ n. nat_le n MAX_RULE_NODES) many
keep-small Wide rs agents are = each-rules rs 0
