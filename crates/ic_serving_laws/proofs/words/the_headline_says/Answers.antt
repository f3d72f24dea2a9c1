use Rattle.ic_serving_laws.proofs.words.the_headline_says.Goals as goal

pub returns-clause-table : goal.returns-clause-table
returns-clause-table c moves table is = (is.past, is.comes, is.tells.legal, is.tells.lasting, is.tells.replayed, is.tells.jobs)

pub returns-clause-file : goal.returns-clause-file
returns-clause-file c moves file is = (is.past, is.comes, is.tells.legal, is.tells.prefix, is.tells.lasting, is.tells.within, is.tells.holds)
