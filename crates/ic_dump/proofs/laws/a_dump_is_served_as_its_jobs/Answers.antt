use Rattle.ic_jobs.specs.Job.{JobParts, IsJob}
use Rattle.ic_dump.specs.Telling.{told_system}
use Rattle.ic_dump.proofs.Feeds.{line_unfed}
use Rattle.ic_dump.proofs.Served.{dump_lines, dump_served}
use Rattle.ic_dump.proofs.Submitting.{line_read, system_spelled}
use Rattle.ic_dump.proofs.Told.{told_whole}
use Rattle.ic_dump.proofs.laws.a_dump_is_served_as_its_jobs.Goals as goal

pub returns : goal.returns
returns c =
    let spells = c.printed_spells.ensures in
    let read = line_read spells c.one_system_reading.ensures.source c.third_occurrence_is_the_first.ensures.none
    c.level_rules_are_their_own_mirrors.ensures.same c.level_rules_are_their_own_mirrors.ensures.two c.commands_ask.ensures.plain in
    let first = c.lines_are_parted_by_line_feeds.ensures.first in
    let unfed = λ (j : JobParts) (is : IsJob j). line_unfed c.tokens_keep_bytes.ensures j is (system_spelled spells (told_system j) (told_whole j is)) in
    record { lines = dump_lines first read unfed; served = dump_served first read unfed }
