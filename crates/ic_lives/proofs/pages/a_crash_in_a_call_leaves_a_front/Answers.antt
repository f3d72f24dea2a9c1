use Rattle.std.proofs.Common.{◌∙◌}
use Rattle.ic_lives.proofs.LeftLemmas.{stop_front}
use Rattle.ic_lives.proofs.pages.a_crash_in_a_call_leaves_a_front.Goals as goal

pub returns-clause-front : goal.returns-clause-front
returns-clause-front g c = λ log file crash keeps made left within.
    let old = c.args.old.now in
    stop_front old.start log old.kept file within ((crash.any_moment keeps made).each file left)

pub returns-clause-stays : goal.returns-clause-stays
returns-clause-stays g c = λ log crash keeps made. (crash.keeps ∙ keeps, crash.made keeps made)
