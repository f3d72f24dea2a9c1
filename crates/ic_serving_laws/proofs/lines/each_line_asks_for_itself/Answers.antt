use Rattle.ic_serving_laws.proofs.lines.each_line_asks_for_itself.Goals as goal

pub returns-clause-none : goal.returns-clause-none
returns-clause-none c = tt

pub returns-clause-more : goal.returns-clause-more
returns-clause-more c line ls asks found read rest = (read, rest)
