use Rattle.ic_batch.proofs.laws.a_batch_brings_its_jobs_to_their_ends.Goals as goal

pub returns-clause-ended : goal.returns-clause-ended
returns-clause-ended g c done most jobs before after is = (is.ended, is.kept, is.written)

pub returns-clause-text : goal.returns-clause-text
returns-clause-text g c done most jobs is = is.text

pub returns-clause-on_way : goal.returns-clause-on_way
returns-clause-on_way g c result most jobs is = (is.on_way.table, is.on_way.kept, is.crash)

pub returns-clause-meanwhile : goal.returns-clause-meanwhile
returns-clause-meanwhile g c result most jobs before after is = (is.table, is.last, is.crash)
