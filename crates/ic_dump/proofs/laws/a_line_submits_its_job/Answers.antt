use Rattle.ic_dump.proofs.Submitting.{job_submitted}
use Rattle.ic_dump.proofs.laws.a_line_submits_its_job.Goals as goal

pub returns : goal.returns
returns c =
    job_submitted c.printed_spells.ensures c.one_system_reading.ensures.source c.third_occurrence_is_the_first.ensures.none
    c.level_rules_are_their_own_mirrors.ensures.same c.level_rules_are_their_own_mirrors.ensures.two c.commands_ask.ensures.plain c.names_are_told_apart.ensures.free
