use Rattle.std.proofs.Common.{◌∙◌}
use Rattle.ic_kept.specs.Sheet.{IsShut}
use Rattle.ic_kept.proofs.SheetLemmas.{zeros_shut}
use Rattle.ic_kept.proofs.WriteLemmas.{of_only}
use Rattle.ic_kept.proofs.creation.write_first.Goals as goal

pub returns-clause-newest : goal.returns-clause-newest
returns-clause-newest g c keeps =
    let disk = g.D.Disk in
    let once = c.write_synced-2.ensures.keeps ∙ keeps in
    let shut = of_only IsShut _ (disk.image c.write_synced-2.new.disk) (c.in_ok-write_synced-2.ensures.durable keeps) (zeros_shut (disk.content c.args.first.now)) in
    c.in_ok-open_gate.ensures.opened 1 c.args.state.now (c.write_state.ensures.keeps ∙ once) (c.in_ok-write_state.ensures.after once shut)

pub returns-clause-shut : goal.returns-clause-shut
returns-clause-shut g c keeps =
    let disk = g.D.Disk in
    of_only IsShut _ (disk.image c.write_synced.new.disk) (c.in_ok-write_synced.ensures.durable keeps) (zeros_shut (disk.content c.args.second.now))
