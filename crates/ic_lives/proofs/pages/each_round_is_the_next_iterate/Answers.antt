use Rattle.std.proofs.Common.{◌++◌, take}
use Rattle.ic_jobs.specs.Table.{job_named}
use Rattle.ic_jobs.specs.History.{replay}
use Rattle.ic_jobs.specs.Life.{life}
use Rattle.ic_book.specs.Lives.{lived}
use Rattle.ic_lives.proofs.PageLemmas.{lived_once, iterated, at_job, at_life}
use Rattle.ic_lives.proofs.pages.each_round_is_the_next_iterate.Goals as goal

pub returns-clause-began : goal.returns-clause-began
returns-clause-began c = λ before last n name j lives is.
    let h = lived before ++ take n last.log in
    let all = c.each_job_is_as_it_lived.ensures.jobs before last n name lives in
    lived_once j (life name h) (at_job (job_named name (replay last.start (take n last.log))) (life name h) j all is)

pub returns-clause-rules : goal.returns-clause-rules
returns-clause-rules c = λ before last n name j l lives is says.
    let all = c.each_job_is_as_it_lived.ensures.jobs before last n name lives in
    let one = at_life (job_named name (replay last.start (take n last.log))) (life name (lived before ++ take n last.log)) j l all is says in
    one.rules

pub returns-clause-rounds : goal.returns-clause-rounds
returns-clause-rounds c = λ before last n name j l lives is says.
    let all = c.each_job_is_as_it_lived.ensures.jobs before last n name lives in
    let one = at_life (job_named name (replay last.start (take n last.log))) (life name (lived before ++ take n last.log)) j l all is says in
    one.rounds

pub returns-clause-config : goal.returns-clause-config
returns-clause-config c = λ before last n name j l lives is says.
    let all = c.each_job_is_as_it_lived.ensures.jobs before last n name lives in
    iterated j l (at_life (job_named name (replay last.start (take n last.log))) (life name (lived before ++ take n last.log)) j l all is says)
