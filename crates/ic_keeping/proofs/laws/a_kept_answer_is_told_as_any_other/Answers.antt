use Rattle.std.proofs.Common.{[], ◌∙◌, cond}
use Rattle.ic_streams.specs.Streams.{line_of}
use Rattle.ic_streams.specs.Stuck.{stuck_text}
use Rattle.ic_in_place.specs.Reductions.{is_written}
use Rattle.ic_keeping.proofs.laws.a_kept_answer_is_told_as_any_other.Goals as goal

pub returns-clause-line : goal.returns-clause-line
returns-clause-line c = λ s bounds end k asked is. (λ i. cond (is_written asked end) (line_of s.rules.symbols (is.written i)) [])

pub returns-clause-stuck : goal.returns-clause-stuck
returns-clause-stuck c = λ s bounds k is. (λ i. stuck_text s.rules.symbols (is.written i))

pub returns-clause-run : goal.returns-clause-run
returns-clause-run c = λ s bounds most asked k run has.
    (has.told.rules, has.told.line ∙ (λ i. cond (is_written asked run.end) (line_of s.rules.symbols (has.answer.written i)) []))

pub returns-clause-run_stuck : goal.returns-clause-run_stuck
returns-clause-run_stuck c = λ s bounds most asked k run has quiet. has.told.stuck quiet ∙ (λ i. stuck_text s.rules.symbols (has.answer.written i))
