use Rattle.std.proofs.Common.{◌++◌, sym, ap, ◌∙◌}
use Rattle.ic_serving_laws.proofs.laws.answers_are_appended.Goals as goal

pub returns-clause-few : goal.returns-clause-few
returns-clause-few c = λ ls t u old new is. is.within.few

pub returns-clause-short : goal.returns-clause-short
returns-clause-short c = λ ls t u old new is. is.within.short

pub returns-clause-appended : goal.returns-clause-appended
returns-clause-appended c = λ ls t u a b is. (is.answers, is.served, is.written)

pub returns-clause-one_table : goal.returns-clause-one_table
returns-clause-one_table c = λ ls t u v old new past next p q.
    c.lines_are_served_in_one_way.ensures.leaves t u v ls p.answers q.answers p.served q.served

pub returns-clause-one_text : goal.returns-clause-one_text
returns-clause-one_text c = λ ls t u v text one other p q.
    let same = c.lines_are_served_in_one_way.ensures.answers t u v ls p.answers q.answers p.served q.served in
    p.written ∙ ap (λ answers. text ++ answers) same ∙ sym q.written
