use Rattle.ic_kept.specs.Sheet.{IsNewest}
use Rattle.ic_kept.proofs.SheetLemmas.{laid_open}
use Rattle.ic_kept.proofs.WriteLemmas.{opening_run, of_only}
use Rattle.ic_kept.proofs.writing.open_gate.Goals as goal

pub returns-in_err-write_synced-clause-any_moment : goal.returns-in_err-write_synced-clause-any_moment
returns-in_err-write_synced-clause-any_moment g c n state keeps after =
    let disk = g.D.Disk in
    opening_run disk.content disk.image disk.clock disk.left n state c.args.disk.now c.write_synced.new.disk after (c.write_synced.ensures.any_moment keeps)

pub returns-clause-any_moment : goal.returns-clause-any_moment
returns-clause-any_moment g c n state keeps after =
    let disk = g.D.Disk in
    opening_run disk.content disk.image disk.clock disk.left n state c.args.disk.now c.write_synced.new.disk after (c.write_synced.ensures.any_moment keeps)

pub returns-clause-opened : goal.returns-clause-opened
returns-clause-opened g c n state keeps after =
    let disk = g.D.Disk in
    let old = c.args.disk.now in
    let file = disk.content old in
    of_only (IsNewest n state) _ (disk.image c.write_synced.new.disk) (c.in_ok-write_synced.ensures.durable keeps) (laid_open n state file (after file (g.met.D.Disk.content_is_image old)))
