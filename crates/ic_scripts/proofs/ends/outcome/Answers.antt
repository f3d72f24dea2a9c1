use Rattle.std.proofs.Common.{◌∙◌, List, ap, sym}
use Rattle.std.specs.Prelude.{slice_get}
use Rattle.ic_scripts.specs.Telling.{keep_faults}
use Rattle.ic_scripts.specs.declared.fault.ScriptsFault.{ScriptsFault}
use Rattle.ic_scripts.proofs.FirstLemmas.{keep_alone}
use Rattle.ic_scripts.proofs.ends.outcome.Goals as goal

pub returns-in-Ok : goal.returns-in-Ok
returns-in-Ok c =
    keep_alone c.args.runs.now c.args.ends.now c.args.kept (sym c.in_default.is ∙ c.first_client.ensures) (sym c.in_default-first_runner.is ∙ c.first_runner.ensures)
    ∙ ap keep_faults c.in-Ok.is

pub returns-in-Err : goal.returns-in-Err
returns-in-Err c =
    ap (λ (l : List ScriptsFault). slice_get l 0)
    (keep_alone c.args.runs.now c.args.ends.now c.args.kept (sym c.in_default.is ∙ c.first_client.ensures) (sym c.in_default-first_runner.is ∙ c.first_runner.ensures)
    ∙ ap keep_faults c.in-Err.is)
