use Rattle.std.proofs.Common.{◌∙◌, inl, inr, Err, refl}
use Rattle.ic_book.specs.Book.{table_of}
use Rattle.ic_book.specs.lemmas.Chains.{by_nothing}
use Rattle.ic_serving.specs.Booked.{last_kept}
use Rattle.ic_serving.specs.lemmas.Leaving.{leaves_nothing}
use Rattle.ic_batch.specs.declared.fault.BatchFault.TheVariants.{Full, Serve}
use Rattle.ic_batch.specs.Way.{IsKeptOr, IsUnderWay}
use Rattle.ic_batch.proofs.BatchLemmas.{brings_all, brings_less, is_batch, leads_none, not_write, not_writing, under_none}
use Rattle.ic_batch.proofs.CallLemmas.{few_none}
use Rattle.ic_batch.proofs.bringing.batch.Goals as goal

pub returns-in-Some-clause-brings : goal.returns-in-Some-clause-brings
returns-in-Some-clause-brings g c =
    let jobs = c.args.jobs.now in
    let book = c.args.book.now in
    brings_less c.args.most jobs (Err c.in-Some.fault) book book (g.W.Write.contents c.args.writer.now) tt (not_write jobs c.table.result.now c.in-Some.fault c.in-Some.ensures.taken)
    (leads_none c.args.most jobs book (leaves_nothing book (IsKeptOr (last_kept book) (IsUnderWay c.args.most jobs (table_of book))) (g.met.D.Disk.left_is_image _) c.facts.ensures.either
    c.facts.ensures.history.replayed (by_nothing book c.facts.ensures.step) (inl refl) (inr (under_none c.args.most jobs (table_of book)))))

pub returns-in-Some-clause-batch : goal.returns-in-Some-clause-batch
returns-in-Some-clause-batch g c = λ on.
    let bytes = g.W.Write.contents c.args.writer.now in
    is_batch (Err c.in-Some.fault) c.args.most c.args.jobs.now c.args.book.now c.args.book.now bytes bytes c.requires.distinct on (returns-in-Some-clause-brings g c)

pub returns-then-not-has_room-clause-brings : goal.returns-then-not-has_room-clause-brings
returns-then-not-has_room-clause-brings g c =
    let jobs = c.args.jobs.now in
    let book = c.args.book.now in
    brings_less c.args.most jobs (Err Full) book book (g.W.Write.contents c.args.writer.now) tt (λ e. cc)
    (leads_none c.args.most jobs book (leaves_nothing book (IsKeptOr (last_kept book) (IsUnderWay c.args.most jobs (table_of book))) (g.met.D.Disk.left_is_image _) c.facts.ensures.either
    c.facts.ensures.history.replayed (by_nothing book c.facts.ensures.step) (inl refl) (inr (under_none c.args.most jobs (table_of book)))))

pub returns-then-not-has_room-clause-batch : goal.returns-then-not-has_room-clause-batch
returns-then-not-has_room-clause-batch g c = λ on.
    let bytes = g.W.Write.contents c.args.writer.now in
    is_batch (Err Full) c.args.most c.args.jobs.now c.args.book.now c.args.book.now bytes bytes c.requires.distinct on (returns-then-not-has_room-clause-brings g c)

pub returns-in-Ok-clause-brings : goal.returns-in-Ok-clause-brings
returns-in-Ok-clause-brings g c = brings_all c.args.most c.args.jobs.now c.write.result c.args.book.now c.bring_to_ends-brought.new.book (g.W.Write.contents c.args.writer.now)
    (g.W.Write.contents c.write.new.writer) c.deref.result.now (c.deref.ensures.value ∙ c.in-Ok.ensures.text) c.in-Ok.ensures.ended c.in-Ok.ensures.kept c.write.ensures.written
    c.write.ensures.cut c.write.ensures.refused c.bring_to_ends-brought.ensures.leads

pub returns-in-Ok-clause-batch : goal.returns-in-Ok-clause-batch
returns-in-Ok-clause-batch g c = λ on. is_batch c.write.result c.args.most c.args.jobs.now c.args.book.now c.bring_to_ends-brought.new.book (g.W.Write.contents c.args.writer.now)
    (g.W.Write.contents c.write.new.writer) c.requires.distinct on (returns-in-Ok-clause-brings g c)

pub returns-in-Err-clause-brings : goal.returns-in-Err-clause-brings
returns-in-Err-clause-brings g c = brings_less c.args.most c.args.jobs.now (Err (Serve c.in-Err.fault)) c.args.book.now c.bring_to_ends-brought.new.book
    (g.W.Write.contents c.args.writer.now) tt (not_writing c.in-Err.fault c.in-Err.ensures.fault.causes) c.bring_to_ends-brought.ensures.leads

pub returns-in-Err-clause-batch : goal.returns-in-Err-clause-batch
returns-in-Err-clause-batch g c = λ on.
    let bytes = g.W.Write.contents c.args.writer.now in
    is_batch (Err (Serve c.in-Err.fault)) c.args.most c.args.jobs.now c.args.book.now c.bring_to_ends-brought.new.book bytes bytes c.requires.distinct on (returns-in-Err-clause-brings g c)

pub returns-in-Some-clause-few_calls : goal.returns-in-Some-clause-few_calls
returns-in-Some-clause-few_calls g c = few_none c.args.jobs.now c.args.every c.args.book.now

pub returns-then-not-has_room-clause-few_calls : goal.returns-then-not-has_room-clause-few_calls
returns-then-not-has_room-clause-few_calls g c = few_none c.args.jobs.now c.args.every c.args.book.now
