use Rattle.ic_dump.proofs.FreeNames.{lines_tell_free, read_free}
use Rattle.ic_dump.proofs.Submitting.{line_read}
use Rattle.ic_dump.proofs.laws.free_names_are_read_again.Goals as goal

pub returns-clause-read : goal.returns-clause-read
returns-clause-read c = read_free c.names_are_told_apart.ensures.free

pub returns-clause-lines : goal.returns-clause-lines
returns-clause-lines c =
    lines_tell_free c.names_are_told_apart.ensures.free (line_read c.printed_spells.ensures c.one_system_reading.ensures.source c.third_occurrence_is_the_first.ensures.none
    c.level_rules_are_their_own_mirrors.ensures.same c.level_rules_are_their_own_mirrors.ensures.two c.commands_ask.ensures.plain) c.one_line_reading.ensures.answer
