use Rattle.ic_lives.proofs.WordLemmas.{told_past}
use Rattle.ic_lives.proofs.words.what_is_told.Goals as goal

pub returns-clause-table : goal.returns-clause-table
returns-clause-table g c past is = (is.legal, is.lasting, is.replayed, is.jobs)

pub returns-clause-file : goal.returns-clause-file
returns-clause-file g c past file is there = let here = is file there in (here.legal, (here.prefix, here.lasting, here.within, here.holds))

pub returns-clause-run : goal.returns-clause-run
returns-clause-run g c = told_past

pub returns-clause-earlier : goal.returns-clause-earlier
returns-clause-earlier g c move moves first last run past is = (is.0, is.1, is.2)
