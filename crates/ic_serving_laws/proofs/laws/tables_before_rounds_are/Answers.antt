use Rattle.std.proofs.Common.{⊎_elim}
use Rattle.ic_serving.specs.lemmas.Making.{before_after, before_either, before_longer, before_part, none_before}
use Rattle.ic_serving_laws.proofs.RoundLemmas.{halts_have_none, history_has, history_says, run_has, run_says}
use Rattle.ic_serving_laws.proofs.laws.tables_before_rounds_are.Goals as goal

pub returns-clause-none : goal.returns-clause-none
returns-clause-none c = none_before

pub returns-clause-part : goal.returns-clause-part
returns-clause-part c = before_part

pub returns-clause-joined : goal.returns-clause-joined
returns-clause-joined c = λ t u es more. (before_either t u es more, ⊎_elim (before_longer t u es more) (before_after t u es more))

pub returns-clause-history : goal.returns-clause-history
returns-clause-history c = λ t u h legal. (history_says t u h legal, history_has t u h legal)

pub returns-clause-halts : goal.returns-clause-halts
returns-clause-halts c = halts_have_none

pub returns-clause-run : goal.returns-clause-run
returns-clause-run c = λ k place t u v f sound is left.
    let first = c.runs_are_rounds_in_turn.ensures.first k place t f is in
    let awaits = c.what_is_due_is_awaited.ensures.due t place f sound is in
    (run_says t u v f k place first awaits left, run_has t u v f k place first sound awaits left)
