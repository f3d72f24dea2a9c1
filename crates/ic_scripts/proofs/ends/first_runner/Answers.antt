use Rattle.std.proofs.Common.{◌∙◌, sym}
use Rattle.std.proofs.lemmas.List.{get_or_default}
use Rattle.ic_scripts.specs.Telling.{runner_fault}
use Rattle.ic_scripts.proofs.FirstLemmas.{found_first, none_more}
use Rattle.ic_scripts.proofs.ends.first_runner.Goals as goal

pub returns-in-Some : goal.returns-in-Some
returns-in-Some c =
    sym (found_first runner_fault c.args.ends.now c.loop-end.end-index _ c.in-Some.fault c.loop-end.invariant c.loop-end-test.true
    (get_or_default c.args.ends.now c.loop-end.end-index _ _ c.loop-end-test.true) (sym c.runner_fault.ensures ∙ c.in-Some.is))

pub loop-end-preserved : goal.loop-end-preserved
loop-end-preserved c =
    none_more runner_fault c.args.ends.now c.loop-end.end-index _ c.loop-end.invariant c.loop-end-test.true
    (get_or_default c.args.ends.now c.loop-end.end-index _ _ c.loop-end-test.true) (sym c.runner_fault.ensures ∙ c.in_default.is)
