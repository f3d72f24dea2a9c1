use Rattle.std.proofs.Common.{refl}
use Rattle.ic_serving_laws.proofs.lines.these_lines_are_plain.Goals as goal

pub returns-clause-pause : goal.returns-clause-pause
returns-clause-pause c name named = record { named = named; written = refl }

pub returns-clause-resume : goal.returns-clause-resume
returns-clause-resume c name named = record { named = named; written = refl }

pub returns-clause-cancel : goal.returns-clause-cancel
returns-clause-cancel c name named = record { named = named; written = refl }

pub returns-clause-fetch : goal.returns-clause-fetch
returns-clause-fetch c name named = record { named = named; written = refl }

pub returns-clause-submit : goal.returns-clause-submit
returns-clause-submit c name text most system named budget reads short =
    record { system_text = text; named = named; budget = budget; written = refl; short = short; reads = reads }

pub returns-clause-copy : goal.returns-clause-copy
returns-clause-copy c old new first second = record { first = first; second = second; written = refl }

pub returns-clause-list : goal.returns-clause-list
returns-clause-list c = refl

pub returns-clause-command : goal.returns-clause-command
returns-clause-command c command text asks = asks

pub returns-clause-run : goal.returns-clause-run
returns-clause-run c n few = (few, refl)

pub returns-clause-blank : goal.returns-clause-blank
returns-clause-blank c text short blanks = (short, blanks)
