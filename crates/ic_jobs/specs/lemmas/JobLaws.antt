-- The tests of equality of jobs and of tables are equality.
use Rattle.std.specs.Prelude.{◌≡◌, ℕ, ◌==◌, List, true, Option, None, Some, refl}
use Rattle.std.specs.Bool.{Decides}
use Rattle.std.specs.Cmp.{IsEquivalence, decided, unsigned_Decides}
use Rattle.std.specs.Cmp.Lexicographic.{bytes_decides, pointwise_decides}
use Rattle.std.specs.Str.{bytes_eq}
use Rattle.std.proofs.Common.{sym, ◌∙◌, ap}
use Rattle.std.proofs.lemmas.Bool.{and_parts, and_from}
use Rattle.ic_term.specs.lemmas.ConfigurationEq.{configuration_eq-Decides}
use Rattle.ic_term.specs.Configuration.{configuration_eq}
use Rattle.ic_rules.specs.RuleSet.{rules_eq}
use Rattle.ic_rules.specs.lemmas.RuleLaws.{rules_eq-Decides}
use Rattle.ic_jobs.specs.declared.state.State.{State}
use Rattle.ic_jobs.specs.State.{state_number, state_eq, state_numbered}
use Rattle.ic_jobs.specs.Budget.{budget_eq}
use Rattle.ic_jobs.specs.lemmas.StateLaws.{state_numbered-number}
use Rattle.ic_jobs.specs.Job.{JobParts, job_eq, table_eq}

state_eq-true : (s r : State) → state_eq s r ≡ true → s ≡ r
state_eq-true s r e =
    sym (state_numbered-number s) ∙ ap state_numbered ((unsigned_Decides (state_number s) (state_number r)).0 e) ∙ state_numbered-number r

budget_eq-true : (b c : Option ℕ) → budget_eq b c ≡ true → b ≡ c
budget_eq-true None None e = refl
budget_eq-true (Some m) (Some n) e = ap (λ (k : ℕ). Some k) ((unsigned_Decides m n).0 e)
budget_eq-true _ _ e = cc

budget_eq-refl : (b : Option ℕ) → budget_eq b b ≡ true
budget_eq-refl None = refl
budget_eq-refl (Some n) = (unsigned_Decides n n).1 refl

job_eq-true : (j k : JobParts) → job_eq j k ≡ true → j ≡ k
job_eq-true j k e =
    let last = and_parts _ (rules_eq j.rules k.rules) e in
    let configs = and_parts _ (configuration_eq j.config k.config) last.0 in
    let budgets = and_parts _ (budget_eq j.budget k.budget) configs.0 in
    let states = and_parts _ (state_eq j.state k.state) budgets.0 in
    let first = and_parts (bytes_eq j.name k.name) (j.rounds == k.rounds) states.0 in
    let name = (bytes_decides j.name k.name).0 first.0 in
    let rounds = (unsigned_Decides j.rounds k.rounds).0 first.1 in
    let state = state_eq-true j.state k.state states.1 in
    let budget = budget_eq-true j.budget k.budget budgets.1 in
    let config = (configuration_eq-Decides j.config k.config).0 configs.1 in
    let rules = (rules_eq-Decides j.rules k.rules).0 last.1 in
    λ i. record { name = name i; rules = rules i; config = config i; rounds = rounds i; state = state i; budget = budget i }

job_eq-refl : (j : JobParts) → job_eq j j ≡ true
job_eq-refl j =
    and_from _ _ (and_from _ _ (and_from _ _ (and_from _ _ (and_from _ _ ((bytes_decides j.name j.name).1 refl) ((unsigned_Decides j.rounds j.rounds).1 refl))
    ((unsigned_Decides (state_number j.state) (state_number j.state)).1 refl))
    (budget_eq-refl j.budget))
    ((configuration_eq-Decides j.config j.config).1 refl))
    ((rules_eq-Decides j.rules j.rules).1 refl)

pub job_eq-Decides : (j k : JobParts) → Decides (job_eq j k) (j ≡ k)
job_eq-Decides j k = (job_eq-true j k, λ e. ap (job_eq j) (sym e) ∙ job_eq-refl j)

pub table_eq-Decides : (t u : List JobParts) → Decides (table_eq t u) (t ≡ u)
table_eq-Decides t u = pointwise_decides job_eq-Decides t u

pub job_eq-equivalence : IsEquivalence job_eq
job_eq-equivalence = decided job_eq job_eq-Decides

pub table_eq-equivalence : IsEquivalence table_eq
table_eq-equivalence = decided table_eq table_eq-Decides
