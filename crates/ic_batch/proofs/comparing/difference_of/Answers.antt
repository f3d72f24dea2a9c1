use Rattle.std.proofs.Common.{rules, ◌≡◌, ◌≢◌, ◌∙◌, sym}
use Rattle.ic_batch.proofs.OtherLemmas.{other_config, other_rules, same_config, same_rules, same_began, same_moved}
use Rattle.ic_batch.proofs.comparing.difference_of.Goals as goal
use Rattle.ic_batch.proofs.comparing.difference_of.Goals.{else-rounds-eq0-via-then-rounds-eq0+else-has_other_config, else-rounds-eq0-via-else-rounds-eq0}

pub returns-then-has_other_rules-clause-differs : goal.returns-then-has_other_rules-clause-differs
returns-then-has_other_rules-clause-differs c = other_rules c.args.new.now.system.rules c.args.job.now.rules (sym c.has_other_rules.ensures ∙ c.if-has_other_rules.true)

pub returns-then-ne-clause-differs : goal.returns-then-ne-clause-differs
returns-then-ne-clause-differs c =
    let same : c.args.job.now.rules ≡ c.args.new.now.system.rules = same_rules c.args.new.now.system.rules c.args.job.now.rules (sym c.has_other_rules.ensures ∙ c.if-has_other_rules.false) in
    let other : c.args.job.now.budget ≢ c.args.new.now.budget = search rules in
    (same, other)

pub returns-then-has_other_config-clause-differs : goal.returns-then-has_other_config-clause-differs
returns-then-has_other_config-clause-differs c =
    let new = c.args.new.now in
    let job = c.args.job.now in
    let same : job.rules ≡ new.system.rules = same_rules new.system.rules job.rules (sym c.has_other_rules.ensures ∙ c.if-has_other_rules.false) in
    let budget : job.budget ≡ new.budget = search rules in
    (same, budget, sym c.rounds.ensures.rounds ∙ c.if-rounds-eq0.true, other_config new.system.config job.config (sym c.has_other_config.ensures ∙ c.if-has_other_config.true))

pub returns-clause-same : goal.returns-clause-same
returns-clause-same c =
    let new = c.args.new.now in
    let job = c.args.job.now in
    let same : job.rules ≡ new.system.rules = same_rules new.system.rules job.rules (sym c.has_other_rules.ensures ∙ c.if-has_other_rules.false) in
    let budget : job.budget ≡ new.budget = search rules in
    elim c.else-rounds-eq0.branch [
      | else-rounds-eq0-via-then-rounds-eq0+else-has_other_config w ↦
          same_began new job same budget (same_config new.system.config job.config (sym w.has_other_config.ensures ∙ w.if-has_other_config.false))
      | else-rounds-eq0-via-else-rounds-eq0 w ↦ same_moved new job same budget (λ none. w.if-rounds-eq0.false (c.rounds.ensures.rounds ∙ none))
    ]
