use Rattle.std.proofs.Common.{◌∙◌, ◌⊎◌, inl}
use Rattle.ic_disk.specs.lemmas.Moments.{leaves_weaker}
use Rattle.ic_kept.specs.Sheet.{IsNewest, IsShut}
use Rattle.ic_kept.proofs.WriteLemmas.{shut_then}
use Rattle.ic_kept.proofs.writing.write_shut.Goals as goal

pub returns-in_err-write_state-clause-any_moment : goal.returns-in_err-write_state-clause-any_moment
returns-in_err-write_state-clause-any_moment g c keeps all =
    let disk = g.D.Disk in
    leaves_weaker disk.clock disk.left c.args.disk.now c.write_state.new.disk IsShut (λ file. IsShut file ⊎ IsNewest c.args.number c.args.state.now file)
    (c.write_state.ensures.any_moment keeps all) (λ file is. inl is)

pub returns-in_err-open_gate-clause-any_moment : goal.returns-in_err-open_gate-clause-any_moment
returns-in_err-open_gate-clause-any_moment g c keeps all =
    let disk = g.D.Disk in
    shut_then disk.content disk.image disk.clock disk.left c.args.number c.args.state.now c.args.disk.now c.write_state.new.disk c.open_gate.new.disk
    (c.write_state.ensures.any_moment keeps all)
    (c.open_gate.ensures.any_moment c.args.number c.args.state.now (c.write_state.ensures.keeps ∙ keeps) (c.in_ok-write_state.ensures.after keeps all))

pub returns-clause-any_moment : goal.returns-clause-any_moment
returns-clause-any_moment g c keeps all =
    let disk = g.D.Disk in
    shut_then disk.content disk.image disk.clock disk.left c.args.number c.args.state.now c.args.disk.now c.write_state.new.disk c.open_gate.new.disk
    (c.write_state.ensures.any_moment keeps all)
    (c.open_gate.ensures.any_moment c.args.number c.args.state.now (c.write_state.ensures.keeps ∙ keeps) (c.in_ok-write_state.ensures.after keeps all))

pub returns-clause-written : goal.returns-clause-written
returns-clause-written g c keeps all =
    c.in_ok-open_gate.ensures.opened c.args.number c.args.state.now (c.write_state.ensures.keeps ∙ keeps) (c.in_ok-write_state.ensures.after keeps all)
