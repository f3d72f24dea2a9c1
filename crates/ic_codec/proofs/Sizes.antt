-- How long byte forms are.
use Rattle.std.proofs.Common.{◌≡◌, ℕ, ◌+◌, ◌*◌, ◌≤◌, true, Option, List, [], ◌∷◌, ◌++◌, length, arith, sum_by}
use Rattle.std.specs.Prelude.{IsTrue, nat_le}
use Rattle.std.specs.List.{flat_map, AllByRecursion}
use Rattle.std.proofs.lemmas.Bool.{and_parts, leb-true}
use Rattle.std.proofs.lemmas.List.{length-append}
use Rattle.std.proofs.lemmas.List.Sums.{sum_by-cons}
use Rattle.ic_term.specs.Tree.{Tree, name, agent, Trees, no_trees, more_trees, nodes, nodes_of, Pair, pair_nodes}
use Rattle.ic_term.specs.Symbol.{Symbol, is_symbol_text, fits_limits}
use Rattle.ic_term.specs.Configuration.{Configuration, IsConfiguration}
use Rattle.ic_rules.specs.JobName.{is_job_name}
use Rattle.ic_rules.specs.Rule.{Rule, rule_nodes}
use Rattle.ic_jobs.specs.State.{state_number}
use Rattle.ic_codec.specs.Form.{budget_bytes, budget_number, heading_bytes, heading_of}
use Rattle.ic_codec.specs.declared.form.Form.{Form}
use Rattle.ic_codec.specs.declared.form.Form.TheVariants.{Ict1, Ict2}
use Rattle.ic_jobs.specs.Job.{JobParts, IsJob}
use Rattle.ic_jobs.specs.Table.{IsTable}
use Rattle.ic_codec.specs.declared.form.Heading.{Heading}
use Rattle.ic_codec.specs.Numbers.{two_bytes, eight_bytes}
use Rattle.ic_codec.specs.Texts.{text_bytes}
use Rattle.ic_codec.specs.Terms.{tree_bytes, trees_bytes, pair_bytes}
use Rattle.ic_codec.specs.Symbols.{symbol_bytes, symbols_bytes}
use Rattle.ic_codec.specs.Rules.{rule_bytes, rules_bytes}
use Rattle.ic_codec.specs.Configurations.{configuration_bytes}
use Rattle.ic_codec.specs.Jobs.{job_bytes}
use Rattle.ic_codec.specs.Tables.{table_bytes_in}
use Rattle.ic_codec.proofs.NumberLemmas.{length-two_bytes, length-eight_bytes}

mutual
  tree_length : (t : Tree) → length (tree_bytes t) ≤ 9 * nodes t
  tree_length (name n) = omega (arith, length-eight_bytes n)
  tree_length (agent s ts) = omega (arith, trees_length ts)

  trees_length : (ts : Trees) → length (trees_bytes ts) ≤ 9 * nodes_of ts
  trees_length no_trees = omega arith
  trees_length (more_trees t ts) = omega (arith, tree_length t, trees_length ts, length-append (tree_bytes t) (trees_bytes ts))

terms_length : (ts : List Tree) → length (flat_map tree_bytes ts) ≤ 9 * sum_by nodes ts
terms_length [] = omega arith
terms_length (t ∷ ts) = omega (arith, tree_length t, terms_length ts, length-append (tree_bytes t) (flat_map tree_bytes ts), sum_by-cons nodes t ts)

pair_length : (p : Pair) → length (pair_bytes p) ≤ 9 * pair_nodes p
pair_length p = omega (arith, tree_length p.left, tree_length p.right, length-append (tree_bytes p.left) (tree_bytes p.right))

pairs_length : (ps : List Pair) → length (flat_map pair_bytes ps) ≤ 9 * sum_by pair_nodes ps
pairs_length [] = omega arith
pairs_length (p ∷ ps) = omega (arith, pair_length p, pairs_length ps, length-append (pair_bytes p) (flat_map pair_bytes ps), sum_by-cons pair_nodes p ps)

-- a text that fits the limits has at most 32 bytes, and at most 15 arguments
pub small_symbol : (text : List ℕ) (arity : ℕ) → fits_limits text arity ≡ true → (length text ≤ 32) × (arity ≤ 15)
small_symbol text arity fits =
    let parts = and_parts (nat_le (length text) 32) (nat_le arity 15) fits in
    (leb-true (length text) 32 parts.0, leb-true arity 15 parts.1)

symbol_length : (s : Symbol) → fits_limits s.text s.arity ≡ true → length (symbol_bytes s) ≤ 34
symbol_length s fits = omega (arith, (small_symbol s.text s.arity fits).0, length-append (text_bytes s.text) (s.arity ∷ []))

symbols_length : (ss : List Symbol) → AllByRecursion (λ s. IsTrue (is_symbol_text s.text) × IsTrue (fits_limits s.text s.arity)) ss
    → length (flat_map symbol_bytes ss) ≤ 34 * length ss
symbols_length [] all = omega arith
symbols_length (s ∷ ss) all = omega (arith, symbol_length s all.0.1, symbols_length ss all.1, length-append (symbol_bytes s) (flat_map symbol_bytes ss))

rule_length : (r : Rule) → length (rule_bytes r) ≤ 2 + 9 * rule_nodes r
rule_length r =
    omega (arith, terms_length r.left_args, terms_length r.right_args, length-append (flat_map tree_bytes r.left_args) (flat_map tree_bytes r.right_args))

rules_length : (rs : List Rule) → length (flat_map rule_bytes rs) ≤ 2 * length rs + 9 * sum_by rule_nodes rs
rules_length [] = omega arith
rules_length (r ∷ rs) = omega (arith, rule_length r, rules_length rs, length-append (rule_bytes r) (flat_map rule_bytes rs), sum_by-cons rule_nodes r rs)

-- a job's name has at most 16 bytes
pub short_name : (text : List ℕ) → is_job_name text ≡ true → length text ≤ 16
short_name [] is = cc
short_name (b ∷ bs) is = leb-true (length (b ∷ bs)) 16 (and_parts _ (nat_le (length (b ∷ bs)) 16) is).1

budget_length : (form : Form) (budget : Option ℕ) → length (budget_bytes form budget) ≤ 8
budget_length Ict1 budget = omega arith
budget_length Ict2 budget = omega (arith, length-eight_bytes (budget_number budget))

heading_length : (form : Form) (h : Heading) → is_job_name h.name ≡ true → length (heading_bytes form h) ≤ 42
heading_length form h is =
    let after = budget_bytes form h.budget ++ eight_bytes h.next in
    let numbers = eight_bytes h.rounds ++ after in
    omega (
      arith,
      short_name h.name is,
      length-eight_bytes h.rounds,
      budget_length form h.budget,
      length-eight_bytes h.next,
      length-append (budget_bytes form h.budget) (eight_bytes h.next),
      length-append (eight_bytes h.rounds) after,
      length-append (text_bytes h.name) (state_number h.state ∷ numbers),
    )

-- there are no more equations than nodes
pub pairs_few : (ps : List Pair) → length ps ≤ sum_by pair_nodes ps
pairs_few [] = omega arith
pairs_few (p ∷ ps) = omega (arith, pairs_few ps, some_nodes p.left, sum_by-cons pair_nodes p ps)
  where
    some_nodes : (t : Tree) → 1 ≤ nodes t
    some_nodes (name n) = omega arith
    some_nodes (agent s ts) = omega arith

configuration_length : (c : Configuration) → IsConfiguration c → length (configuration_bytes c) ≤ 73731
configuration_length c is =
    omega (
      arith,
      is.nodes,
      terms_length c.interface,
      pairs_length c.equations,
      length-two_bytes (length c.equations),
      length-append (flat_map tree_bytes c.interface) (flat_map pair_bytes c.equations),
      length-append (two_bytes (length c.equations)) (flat_map tree_bytes c.interface ++ flat_map pair_bytes c.equations),
    )

job_length : (form : Form) (j : JobParts) → IsJob j → length (job_bytes form j) ≤ 94896
job_length form j is =
    let heading = heading_bytes form (heading_of j) in
    let symbols = symbols_bytes j.rules.symbols in
    let rules = rules_bytes j.rules.rules in
    let config = configuration_bytes j.config in
    omega (
      arith,
      is.served.rules,
      is.served.nodes,
      is.served.symbols,
      heading_length form (heading_of j) is.name,
      symbols_length j.rules.symbols is.symbols.each,
      rules_length j.rules.rules,
      length-two_bytes (length j.rules.rules),
      length-append (two_bytes (length j.rules.rules)) (flat_map rule_bytes j.rules.rules),
      configuration_length j.config is.config,
      length-append heading (symbols ++ (rules ++ config)),
      length-append symbols (rules ++ config),
      length-append rules config,
    )

jobs_length : (form : Form) (js : List JobParts) → AllByRecursion IsJob js → length (flat_map (job_bytes form) js) ≤ 94896 * length js
jobs_length form [] all = omega arith
jobs_length form (j ∷ js) all = omega (arith, job_length form j all.0, jobs_length form js all.1, length-append (job_bytes form j) (flat_map (job_bytes form) js))

pub table_length : (form : Form) (t : List JobParts) → IsTable t → length (table_bytes_in form t) ≤ 3036677
table_length form t is = omega (arith, is.few, jobs_length form t is.each)
