-- Other rules and other configurations.
use Rattle.std.proofs.Common.{◌≡◌, ◌≢◌, true, false, not, sym, ◌∙◌}
use Rattle.std.proofs.lemmas.Bool.{not-false, not-true, true≢false}
use Rattle.ic_rules.specs.RuleSet.{Rules, rules_eq}
use Rattle.ic_rules.specs.lemmas.RuleLaws.{rules_eq-Decides}
use Rattle.ic_term.specs.Configuration.{Configuration, configuration_eq}
use Rattle.ic_term.specs.lemmas.ConfigurationEq.{configuration_eq-Decides}
use Rattle.ic_jobs.specs.Job.{JobParts}
use Rattle.ic_batch.specs.declared.fault.Difference.TheVariants as difference
use Rattle.ic_batch.specs.declared.jobs.NewJob.{NewJob}
use Rattle.ic_batch.specs.Faults.{IsSame}

pub other_rules : (r s : Rules) → not (rules_eq r s) ≡ true → s ≢ r
other_rules r s other same = true≢false (sym ((rules_eq-Decides r s).1 (sym same)) ∙ not-true (rules_eq r s) other)

pub other_config : (c d : Configuration) → not (configuration_eq c d) ≡ true → d ≢ c
other_config c d other same = true≢false (sym ((configuration_eq-Decides c d).1 (sym same)) ∙ not-true (configuration_eq c d) other)

pub same_rules : (r s : Rules) → not (rules_eq r s) ≡ false → s ≡ r
same_rules r s is = sym ((rules_eq-Decides r s).0 (not-false (rules_eq r s) is))

pub same_config : (c d : Configuration) → not (configuration_eq c d) ≡ false → d ≡ c
same_config c d is = sym ((configuration_eq-Decides c d).0 (not-false (configuration_eq c d) is))

-- a job that differs in nothing: it is as it began, or has made rounds
module _ (new : NewJob) (j : JobParts) (rules : j.rules ≡ new.system.rules) (budget : j.budget ≡ new.budget) where
  pub same_began : j.config ≡ new.system.config → IsSame new j
  same_began config difference.Rules other = other rules
  same_began config difference.Budget other = other.1 budget
  same_began config difference.Start other = other.3 config

  pub same_moved : (j.rounds ≡ 0 → ⊥) → IsSame new j
  same_moved moved difference.Rules other = other rules
  same_moved moved difference.Budget other = other.1 budget
  same_moved moved difference.Start other = moved other.2
