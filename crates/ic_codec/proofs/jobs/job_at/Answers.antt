use Rattle.std.proofs.Common.{refl, sym, ap, subst, ◌∙◌}
use Rattle.std.proofs.lemmas.Bool.{false≢true}
use Rattle.std.specs.Arc.{arc_value}
use Rattle.ic_term.specs.Configuration.{Configuration}
use Rattle.ic_rules.specs.RuleSet.{Rules}
use Rattle.ic_jobs.specs.Job.{JobParts, IsJob}
use Rattle.ic_codec.specs.Jobs.{job_bytes}
use Rattle.ic_codec.specs.inner.Forms.{HasJobBytes}
use Rattle.ic_codec.specs.inner.Fronts.{BeginsWith}
use Rattle.ic_codec.proofs.JobReading.{job_none_heading, job_none_symbols, job_none_rules, job_none_config, job_none_job, job_of, job_begins}
use Rattle.ic_codec.proofs.jobs.job_at.Goals as goal

pub returns-in-Err-clause-refused : goal.returns-in-Err-clause-refused
returns-in-Err-clause-refused c = λ same. job_none_heading c.args.form c.args.bytes.now (c.in-Err.ensures.refused same)

pub returns-in-Err-symbols_at-clause-refused : goal.returns-in-Err-symbols_at-clause-refused
returns-in-Err-symbols_at-clause-refused c = λ same. job_none_symbols c.args.form c.args.bytes.now c.in-Ok.heading c.in-Ok.rest.now c.in-Ok.ensures.read (c.in-Err-symbols_at.ensures.refused same)

pub returns-in-Err-rule_set_at-clause-refused : goal.returns-in-Err-rule_set_at-clause-refused
returns-in-Err-rule_set_at-clause-refused c =
    λ same. job_none_rules c.args.form c.args.bytes.now c.in-Ok.heading c.in-Ok.rest.now c.in-Ok-symbols_at.symbols c.in-Ok-symbols_at.rest.now c.in-Ok.ensures.read c.in-Ok-symbols_at.ensures.read (c.in-Err-rule_set_at.ensures.refused same)

pub returns-in-Err-flat_at-clause-refused : goal.returns-in-Err-flat_at-clause-refused
returns-in-Err-flat_at-clause-refused c =
    λ same. job_none_config c.args.form c.args.bytes.now c.in-Ok.heading c.in-Ok.rest.now c.in-Ok-symbols_at.symbols c.in-Ok-symbols_at.rest.now c.in-Ok-rule_set_at.rules c.in-Ok-rule_set_at.rest.now c.symbols.result.now
    c.in-Ok.ensures.read c.in-Ok-symbols_at.ensures.read c.in-Ok-rule_set_at.ensures.read c.symbols.ensures.symbols (c.in-Err-flat_at.ensures.refused same)

pub returns-in-None-clause-refused : goal.returns-in-None-clause-refused
returns-in-None-clause-refused c =
    λ same. job_none_job c.args.form c.args.bytes.now c.in-Ok.heading c.in-Ok.rest.now c.in-Ok-symbols_at.symbols c.in-Ok-symbols_at.rest.now c.in-Ok-rule_set_at.rules c.in-Ok-rule_set_at.rest.now c.symbols.result.now
    c.in-Ok-flat_at.config c.in-Ok-flat_at.rest.now c.in-Ok.ensures.read c.in-Ok-symbols_at.ensures.read c.in-Ok-rule_set_at.ensures.read c.symbols.ensures.symbols c.in-Ok-flat_at.ensures.read
    (λ is. false≢true (c.in-None.ensures.job.1
    (subst (λ (s : Rules). IsJob (job_of c.in-Ok.heading s (arc_value c.in_ok-config.config))) (sym c.in_ok-rules.ensures)
    (subst (λ (k : Configuration). IsJob (job_of c.in-Ok.heading c.in-Ok-rule_set_at.rules k)) (sym c.in_ok-config.ensures.ok) is))))

pub returns-in-Some-clause-read : goal.returns-in-Some-clause-read
returns-in-Some-clause-read c =
    let is = subst (λ (k : Configuration). IsJob (job_of c.in-Ok.heading c.in-Ok-rule_set_at.rules k)) c.in_ok-config.ensures.ok
    (subst (λ (s : Rules). IsJob (job_of c.in-Ok.heading s (arc_value c.in_ok-config.config))) c.in_ok-rules.ensures (c.in-Some.ensures.job.0 refl)) in
    let whole = c.in-Some.ensures.parts ∙ ap (λ (s : Rules). job_of c.in-Ok.heading s (arc_value c.in_ok-config.config)) c.in_ok-rules.ensures
    ∙ ap (λ (k : Configuration). job_of c.in-Ok.heading c.in-Ok-rule_set_at.rules k) c.in_ok-config.ensures.ok in
    subst (λ (j : JobParts). BeginsWith (HasJobBytes c.args.form) (job_bytes c.args.form) c.args.bytes.now j c.in-Ok-flat_at.rest.now) (sym whole)
    (job_begins c.args.form c.args.bytes.now c.in-Ok.heading c.in-Ok.rest.now c.in-Ok-symbols_at.symbols c.in-Ok-symbols_at.rest.now c.in-Ok-rule_set_at.rules c.in-Ok-rule_set_at.rest.now c.symbols.result.now
    c.in-Ok-flat_at.config c.in-Ok-flat_at.rest.now c.in-Ok.ensures.read c.in-Ok-symbols_at.ensures.read c.in-Ok-rule_set_at.ensures.read c.in-Ok-flat_at.ensures.read is)
