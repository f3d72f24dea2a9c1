-- Values that have bytes. Inner: private functions cite it.
use Rattle.std.specs.Prelude.{◌≡◌, ◌^◌, ◌<◌, ◌≤◌, ℕ, List, Option, None, IsTrue, IfSome, length}
use Rattle.std.specs.List.{AllByRecursion}
use Rattle.ic_term.specs.Tree.{Tree, Pair, names}
use Rattle.ic_term.specs.Symbol.{Symbol, AreSymbols, is_tree_over}
use Rattle.ic_term.specs.declared.limits.TheConstants.{MAX_SYMBOLS}
use Rattle.ic_rules.specs.JobName.{is_job_name}
use Rattle.ic_rules.specs.Rule.{Rule, rule_names, IsNumbered}
use Rattle.ic_rules.specs.RuleSet.{IsRuleOver}
use Rattle.ic_jobs.specs.Budget.{IsBudget}
use Rattle.ic_jobs.specs.Job.{JobParts, IsJob}
use Rattle.ic_jobs.specs.Table.{IsTable}
use Rattle.ic_codec.specs.declared.form.Form.{Form}
use Rattle.ic_codec.specs.declared.form.Form.TheVariants.{Ict1, Ict2}
use Rattle.ic_codec.specs.declared.form.Heading.{Heading}

-- Symbols that have bytes: so few that they are served.
pub record HaveSymbolBytes (ss : List Symbol) : Type 0 where
  pub symbols : AreSymbols ss
  pub few : length ss ≤ MAX_SYMBOLS

-- A term that has bytes: its agents are known, with as many arguments as their arities, and its names
-- fit in eight bytes.
pub record HasBytes (ss : List Symbol) (t : Tree) : Type 0 where
  pub over : IsTrue (is_tree_over ss t)
  pub names : AllByRecursion (λ n. n < 2 ^ 64) (names t)

-- an equation that has bytes: both of its sides have
abbrev pub HasPairBytes : List Symbol → Pair → Type 0
HasPairBytes ss p = HasBytes ss p.left × HasBytes ss p.right

-- A rule that has bytes: its agents are known, with as many arguments as their arities, and its names
-- are numbered and fit in eight bytes.
pub record HasRuleBytes (ss : List Symbol) (r : Rule) : Type 0 where
  pub over : IsRuleOver ss r
  pub names : AllByRecursion (λ n. n < 2 ^ 64) (rule_names r)
  pub in_order : IsNumbered r

-- a budget that has bytes: in the old form there is none
abbrev pub HasBudgetBytes : Form → Option ℕ → Type 0
HasBudgetBytes Ict1 budget = budget ≡ None
HasBudgetBytes Ict2 budget = IfSome budget IsBudget

-- A heading that has bytes: it has a job's name, its numbers fit in eight bytes, and its budget has
-- bytes.
pub record HasHeadingBytes (form : Form) (h : Heading) : Type 0 where
  pub name : IsTrue (is_job_name h.name)
  pub rounds : h.rounds < 2 ^ 64
  pub budget : HasBudgetBytes form h.budget
  pub next : h.next < 2 ^ 64

-- A job that has bytes: its budget has.
pub record HasJobBytes (form : Form) (j : JobParts) : Type 0 where
  pub job : IsJob j
  pub budget : HasBudgetBytes form j.budget

-- A table that has bytes: all budgets of its jobs have.
pub record HasTableBytes (form : Form) (t : List JobParts) : Type 0 where
  pub table : IsTable t
  pub jobs : AllByRecursion (HasJobBytes form) t
