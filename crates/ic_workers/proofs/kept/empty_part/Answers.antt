use Rattle.std.proofs.Common.{◌∙◌, ap}
use Rattle.ic_workers.specs.Parts.{Part}
use Rattle.ic_workers.specs.inner.Keeping.{part_of}
use Rattle.ic_workers.proofs.Bare.{empty_bare, empty_kept}
use Rattle.ic_workers.proofs.kept.empty_part.Goals as goal

pub returns-clause-bare : goal.returns-clause-bare
returns-clause-bare c =
    empty_bare c.args.program.now (part_of c.new.result) (ap (λ (q : Part). q.net) c.new.ensures ∙ c.in_ok-machine.ensures)
    (ap (λ (q : Part). q.borders.ends) c.new.ensures)

pub returns-clause-kept : goal.returns-clause-kept
returns-clause-kept c =
    empty_kept c.args.program.now (part_of c.new.result) (ap (λ (q : Part). q.net) c.new.ensures ∙ c.in_ok-machine.ensures)
    (ap (λ (q : Part). q.borders.ends) c.new.ensures)
