use Rattle.ic_keeping.proofs.laws.a_keep_spares_the_newest_file.Goals as goal

pub returns-clause-kept : goal.returns-clause-kept
returns-clause-kept g c next done new is = is.spared

pub returns-clause-held : goal.returns-clause-held
returns-clause-held g c state next done new is model keeps = is.kept state model keeps

pub returns-clause-refused : goal.returns-clause-refused
returns-clause-refused g c next fault new is = is.spared
