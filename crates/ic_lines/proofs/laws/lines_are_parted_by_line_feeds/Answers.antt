use Rattle.ic_lines.proofs.LineLemmas.{lines_first, lines_last, lines_open, lines_whole, lines_joined}
use Rattle.ic_lines.proofs.laws.lines_are_parted_by_line_feeds.Goals as goal

pub returns-clause-last : goal.returns-clause-last
returns-clause-last c = lines_last

pub returns-clause-first : goal.returns-clause-first
returns-clause-first c = lines_first

pub returns-clause-each : goal.returns-clause-each
returns-clause-each c = lines_open

pub returns-clause-whole : goal.returns-clause-whole
returns-clause-whole c = lines_whole

pub returns-clause-joined : goal.returns-clause-joined
returns-clause-joined c = lines_joined
