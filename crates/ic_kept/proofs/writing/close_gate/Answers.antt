use Rattle.ic_kept.specs.Sheet.{IsShut}
use Rattle.ic_kept.proofs.SheetLemmas.{laid_shut}
use Rattle.ic_kept.proofs.WriteLemmas.{below_run, of_only}
use Rattle.ic_kept.proofs.writing.close_gate.Goals as goal

pub returns-in_err-write_synced-clause-any_moment : goal.returns-in_err-write_synced-clause-any_moment
returns-in_err-write_synced-clause-any_moment g c n keeps all =
    let disk = g.D.Disk in
    below_run disk.content disk.image disk.clock disk.left n c.args.disk.now c.write_synced.new.disk all (c.write_synced.ensures.any_moment keeps)

pub returns-clause-any_moment : goal.returns-clause-any_moment
returns-clause-any_moment g c n keeps all =
    let disk = g.D.Disk in
    below_run disk.content disk.image disk.clock disk.left n c.args.disk.now c.write_synced.new.disk all (c.write_synced.ensures.any_moment keeps)

pub returns-clause-shut : goal.returns-clause-shut
returns-clause-shut g c n keeps all =
    let disk = g.D.Disk in
    let old = c.args.disk.now in
    let file = disk.content old in
    of_only IsShut _ (disk.image c.write_synced.new.disk) (c.in_ok-write_synced.ensures.durable keeps) (laid_shut file (all file (g.met.D.Disk.content_is_image old)).made)
