use Rattle.std.proofs.Common.{◌≡◌, ◌∙◌, ℕ, List, Ok, subst}
use Rattle.ic_frames.specs.declared.faults.KeepFault.{KeepFault}
use Rattle.ic_kept.specs.Keeping.{CrashInKeeping}
use Rattle.ic_keeping.specs.Life.{KeepFails}
use Rattle.ic_keeping.proofs.Refusing.{keep_fails, keep_ready}
use Rattle.ic_keeping.proofs.going.keep_state.Goals as goal

pub returns-in-Ok-clause-keeps : goal.returns-in-Ok-clause-keeps
returns-in-Ok-clause-keeps g c =
    let disk = g.D.Disk in
    record {
      crash = subst (λ (bytes : List ℕ). CrashInKeeping disk.keeps disk.image disk.clock disk.left bytes (Ok tt) c.args.keeper.now c.keep.new.self)
          (c.deref.ensures.value ∙ c.in_ok-bytes.ensures.bytes) c.in-Ok.ensures.crash;
      model = c.in-Ok.ensures.model;
    }

pub returns-clause-failed : goal.returns-clause-failed
returns-clause-failed g c cause same =
    let one : c.in-Err.fault ≡ cause = cc (same) in
    subst (λ (fault : KeepFault). KeepFails fault c.args.keeper.now c.keep.new.self) one
    (keep_fails c.in-Err.fault c.args.keeper.now c.keep.new.self c.in-Err.ensures.fault)

pub returns-in-Ok-clause-ready : goal.returns-in-Ok-clause-ready
returns-in-Ok-clause-ready g c = keep_ready c.args.keeper.now c.keep.new.self c.in-Ok.ensures.fault
