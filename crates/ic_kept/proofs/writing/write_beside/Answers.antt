use Rattle.std.proofs.Common.{◌∙◌, ◌⊎◌, Bool, subst}
use Rattle.ic_disk.specs.Images.{Within}
use Rattle.ic_kept.specs.Sheet.{IsBeside, IsNewest, IsOlder}
use Rattle.ic_kept.proofs.WriteLemmas.{older_run, closing_run, run_then}
use Rattle.ic_kept.proofs.writing.write_beside.Goals as goal

pub returns-then-closed-clause-any_moment : goal.returns-then-closed-clause-any_moment
returns-then-closed-clause-any_moment g c n keeps all =
    let disk = g.D.Disk in
    let old = c.args.disk.now in
    let shut = subst (λ (b : Bool). Within (disk.image old) (IsBeside b n)) c.if-closed.true all in
    older_run disk.content disk.image disk.clock disk.left n c.args.number c.args.state.now old c.write_shut.new.disk (c.write_shut.ensures.any_moment keeps shut)

pub returns-then-closed-clause-written : goal.returns-then-closed-clause-written
returns-then-closed-clause-written g c n keeps all =
    let disk = g.D.Disk in
    let shut = subst (λ (b : Bool). Within (disk.image c.args.disk.now) (IsBeside b n)) c.if-closed.true all in
    c.write_shut.ensures.written keeps shut

pub returns-in_err-close_gate-clause-any_moment : goal.returns-in_err-close_gate-clause-any_moment
returns-in_err-close_gate-clause-any_moment g c n keeps all =
    let disk = g.D.Disk in
    let old = c.args.disk.now in
    let below = subst (λ (b : Bool). Within (disk.image old) (IsBeside b n)) c.if-closed.false all in
    closing_run disk.content disk.image disk.clock disk.left n c.args.number c.args.state.now old c.close_gate.new.disk (c.close_gate.ensures.any_moment n keeps below)

pub returns-clause-any_moment : goal.returns-clause-any_moment
returns-clause-any_moment g c n keeps all =
    let disk = g.D.Disk in
    let old = c.args.disk.now in
    let mid = c.close_gate.new.disk in
    let below = subst (λ (b : Bool). Within (disk.image old) (IsBeside b n)) c.if-closed.false all in
    run_then disk.content disk.image disk.clock disk.left old mid c.write_shut-2.new.disk (λ file. IsOlder n file ⊎ IsNewest c.args.number c.args.state.now file)
    (closing_run disk.content disk.image disk.clock disk.left n c.args.number c.args.state.now old mid (c.close_gate.ensures.any_moment n keeps below))
    (older_run disk.content disk.image disk.clock disk.left n c.args.number c.args.state.now mid c.write_shut-2.new.disk
    (c.write_shut-2.ensures.any_moment (c.close_gate.ensures.keeps ∙ keeps) (c.in_ok-close_gate.ensures.shut n keeps below)))

pub returns-clause-written : goal.returns-clause-written
returns-clause-written g c n keeps all =
    let disk = g.D.Disk in
    let below = subst (λ (b : Bool). Within (disk.image c.args.disk.now) (IsBeside b n)) c.if-closed.false all in
    c.write_shut-2.ensures.written (c.close_gate.ensures.keeps ∙ keeps) (c.in_ok-close_gate.ensures.shut n keeps below)
