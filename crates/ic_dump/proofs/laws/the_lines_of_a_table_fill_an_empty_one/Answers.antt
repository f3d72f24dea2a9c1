use Rattle.ic_dump.proofs.Filling.{table_filled}
use Rattle.ic_dump.proofs.Submitting.{line_read, read_alike}
use Rattle.ic_dump.proofs.laws.the_lines_of_a_table_fill_an_empty_one.Goals as goal

pub returns-clause-read : goal.returns-clause-read
returns-clause-read c =
    line_read c.printed_spells.ensures c.one_system_reading.ensures.source c.third_occurrence_is_the_first.ensures.none
    c.level_rules_are_their_own_mirrors.ensures.same c.level_rules_are_their_own_mirrors.ensures.two c.commands_ask.ensures.plain

pub returns-clause-alike : goal.returns-clause-alike
returns-clause-alike c = read_alike

pub returns-clause-filled : goal.returns-clause-filled
returns-clause-filled c = table_filled
