use Rattle.std.proofs.Common.{ap, sym}
use Rattle.std.specs.Prelude.{option_map}
use Rattle.ic_scripts.specs.Telling.{client_fault}
use Rattle.ic_scripts.specs.declared.fault.ScriptsFault.TheVariants.{Book}
use Rattle.ic_scripts.proofs.FirstLemmas.{found_first, none_more}
use Rattle.ic_scripts.proofs.ends.first_client.Goals as goal

pub returns-in-Some : goal.returns-in-Some
returns-in-Some c =
    sym (found_first client_fault c.args.runs.now c.loop-run.run-index c.run-item.result (Book c.in-Some.fault) c.loop-run.invariant c.loop-run-test.true c.run-item.is
    (ap (option_map Book) c.in-Some.is))

pub loop-run-preserved : goal.loop-run-preserved
loop-run-preserved c =
    none_more client_fault c.args.runs.now c.loop-run.run-index c.run-item.result c.loop-run.invariant c.loop-run-test.true c.run-item.is (ap (option_map Book) c.in_default.is)
