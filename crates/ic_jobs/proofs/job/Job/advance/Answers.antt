use Rattle.std.proofs.Common.{◌+◌}
use Rattle.std.specs.Arc.{arc_value}
use Rattle.ic_jobs.proofs.JobLemmas.{IsJob-advanced}
use Rattle.ic_jobs.proofs.job.Job.advance.Goals as goal

pub invariant_of-self : goal.invariant_of-self
invariant_of-self c =
    IsJob-advanced _ c.args.self.now (arc_value c.args.after) _ c.args.quiet c.self.invariant c.self.view_is c.requires.unfinished c.requires.can c.requires.round c.requires.quiet
    c.state_after-self-inside.ensures
