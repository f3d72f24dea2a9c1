use Rattle.std.proofs.Common.{rules}
use Rattle.std.specs.Arc.{arc_value}
use Rattle.ic_jobs.proofs.JobLemmas.{IsJob-advanced}
use Rattle.ic_jobs.proofs.job.Job.round_in.Goals as goal

pub invariant_of-self-2 : goal.invariant_of-self-2
invariant_of-self-2 c =
    IsJob-advanced _ c.args.self.now (arc_value c.round_alone.new.config) _ c.quiet-quiet_now.result c.self.invariant c.self.view_is c.requires.unfinished (search rules) (search rules) (search rules)
    c.state_after-self-inside.ensures
