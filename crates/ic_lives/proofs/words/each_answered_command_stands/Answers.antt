use Rattle.std.proofs.Common.{List, [], ◌∷◌, ◌++◌, subst}
use Rattle.ic_jobs.specs.declared.event.Entry.{Entry}
use Rattle.ic_jobs.specs.History.{IsLegal, replay}
use Rattle.ic_book.specs.Entries.{command_entry}
use Rattle.ic_lives.specs.Histories.{StandAmong, answered, taken}
use Rattle.ic_lives.proofs.ToldLemmas.{answer_told}
use Rattle.ic_lives.proofs.WordLemmas.{among_at}
use Rattle.ic_lives.proofs.words.each_answered_command_stands.Goals as goal

pub returns : goal.returns
returns c later earlier who command reply history is =
    let e = command_entry who command reply in
    let at = among_at (answered earlier ++ taken earlier) (answered later) history e (subst (λ (es : List Entry). StandAmong es history) (answer_told later earlier who command reply) is.answers) in
    let legal = (c.histories_split_and_join.ensures.legal [] at.0 (e ∷ at.1)).0 (subst (λ (es : List Entry). IsLegal [] es) at.2 is.legal) in
    (at.0, at.1, at.2, at.3, at.4, (c.one_entry_is_legal_where_it_is_answered.ensures.legal (replay [] at.0) e).0 (legal.1.0, tt))
