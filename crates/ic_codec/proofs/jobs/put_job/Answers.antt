use Rattle.std.proofs.Common.{List, ℕ, ◌++◌, ap, sym, subst, ◌∙◌}
use Rattle.ic_term.specs.Configuration.{Configuration}
use Rattle.ic_rules.specs.RuleSet.{Rules}
use Rattle.ic_jobs.specs.Job.{JobParts}
use Rattle.ic_codec.specs.Symbols.{symbols_bytes}
use Rattle.ic_codec.specs.Rules.{rules_bytes}
use Rattle.ic_codec.specs.Configurations.{configuration_bytes}
use Rattle.ic_codec.specs.Form.{heading_bytes, heading_of}
use Rattle.ic_codec.specs.declared.form.Form.TheVariants.{Ict2}
use Rattle.ic_codec.specs.inner.Room.{Fits}
use Rattle.ic_codec.proofs.Appending.{first_fits, rest_fits}
use Rattle.ic_codec.proofs.jobs.put_job.Goals as goal
use Rattle.ic_codec.proofs.jobs.put_job.Goals.{After-put_heading, After-put_symbols}

abbrev after_symbols : JobParts → List ℕ
after_symbols j = rules_bytes j.rules.rules ++ configuration_bytes j.config

abbrev after_heading : JobParts → List ℕ
after_heading j = symbols_bytes j.rules.symbols ++ after_symbols j

-- what fits once the heading is there
fits_after_heading : (c : After-put_heading) → Fits c.put_heading.new.out (after_heading c.args.job.now)
fits_after_heading c =
    let j = c.args.job.now in
    rest_fits (heading_bytes Ict2 (heading_of j)) (after_heading j) _ (ap (heading_bytes Ict2) c.of.ensures) c.requires c.put_heading.ensures

-- what fits once the symbols are there
fits_after_symbols : (c : After-put_symbols) → Fits c.put_heading.new.out (after_heading c.args.job.now)
    → Fits c.put_symbols.new.out (after_symbols c.args.job.now)
fits_after_symbols c after =
    let j = c.args.job.now in
    let same = c.symbols.ensures.symbols ∙ ap (λ (r : Rules). r.symbols) c.rules-rules.ensures.rules in
    rest_fits (symbols_bytes j.rules.symbols) (after_symbols j) _ (ap symbols_bytes same) after c.put_symbols.ensures

pub put_heading-requires : goal.put_heading-requires
put_heading-requires c =
    let j = c.args.job.now in
    first_fits (heading_bytes Ict2 (heading_of j)) (after_heading j) _ (ap (heading_bytes Ict2) c.of.ensures) c.requires

pub put_symbols-requires : goal.put_symbols-requires
put_symbols-requires c =
    let j = c.args.job.now in
    let same = c.symbols.ensures.symbols ∙ ap (λ (r : Rules). r.symbols) c.rules-rules.ensures.rules in
    first_fits (symbols_bytes j.rules.symbols) (after_symbols j) _ (ap symbols_bytes same) (fits_after_heading (goal.at.put_symbols-requires c).After-put_heading)

pub put_rules-requires-clause-fits : goal.put_rules-requires-clause-fits
put_rules-requires-clause-fits c =
    let j = c.args.job.now in
    let alike = c.rules.ensures.rules ∙ ap (λ (r : Rules). r.rules) c.rules-rules.ensures.rules in
    let after = fits_after_heading (goal.at.put_rules-requires-clause-fits c).After-put_heading in
    let left = fits_after_symbols (goal.at.put_rules-requires-clause-fits c).After-put_symbols after in
    first_fits (rules_bytes j.rules.rules) (configuration_bytes j.config) _ (ap rules_bytes alike) left

pub put_flat-requires : goal.put_flat-requires
put_flat-requires c =
    let j = c.args.job.now in
    let alike = c.rules.ensures.rules ∙ ap (λ (r : Rules). r.rules) c.rules-rules.ensures.rules in
    let after = fits_after_heading (goal.at.put_flat-requires c).After-put_heading in
    let left = fits_after_symbols (goal.at.put_flat-requires c).After-put_symbols after in
    let last = rest_fits (rules_bytes j.rules.rules) (configuration_bytes j.config) _ (ap rules_bytes alike) left c.put_rules.ensures in
    subst (λ (n : Configuration). Fits c.put_rules.new.out (configuration_bytes n)) (sym c.config.ensures.config) last
