use Rattle.std.proofs.Common.{Result, Ok, Err, OnErr}
use Rattle.ic_book.proofs.AnswerLemmas.{shown_stays}
use Rattle.ic_book.proofs.enter.answer_in_room.Goals as goal

-- what holds anyhow holds at Err
on_err : {T E : Type 0} (r : Result T E) (P : Type 0) → P → OnErr r P
on_err (Ok value) P is = tt
on_err (Err fault) P is = is

pub returns-in_err-reply-clause-same_table : goal.returns-in_err-reply-clause-same_table
returns-in_err-reply-clause-same_table c =
    on_err _ _ (shown_stays c.args.table.now c.apply.new.self c.args.command c.in_ok-answer.answer c.in_ok-answer.ensures.event c.in_err-reply.ensures.memory)
