use Rattle.std.proofs.Common.{◌≡◌, ◌∙◌, List, ℕ, sym, subst}
use Rattle.ic_kept.specs.Held.{Hold}
use Rattle.ic_kept.specs.Keeper.{Keeps}
use Rattle.ic_state.specs.State.{kept_by, state_bytes}
use Rattle.ic_keeping.specs.declared.fault.KeepingFault.{KeepingFault}
use Rattle.ic_keeping.specs.Life.{StopsAnOpening}
use Rattle.ic_keeping.proofs.LivesLemmas.{held_is}
use Rattle.ic_keeping.proofs.Resuming.{of_calls}
use Rattle.ic_keeping.proofs.beginning.resume.Goals as goal

pub returns-in-Ok-state_of-clause-found : goal.returns-in-Ok-state_of-clause-found
returns-in-Ok-state_of-clause-found g c model =
    let disk = g.D.Disk in
    let same : c.in-Ok.bytes.items ≡ state_bytes (kept_by c.in-Ok-state_of.state) = sym c.deref.ensures.value ∙ c.in-Ok-state_of.ensures.state in
    let kept = c.in-Ok.ensures.kept model.0 model.1 in
    record {
      held = subst (λ (b : List ℕ). Hold b (disk.content c.args.first) (disk.content c.args.second)) same (c.in-Ok.ensures.opened model.0 model.1);
      model = kept.0;
      keeps = subst (λ (b : List ℕ). Keeps disk.image b c.in-Ok.keeper) same kept.1;
      reads = c.in-Ok.ensures.reads model.0 model.1;
    }

pub returns-in-Ok-state_of-clause-state : goal.returns-in-Ok-state_of-clause-state
returns-in-Ok-state_of-clause-state g c s from hold =
    let disk = g.D.Disk in
    let same : c.in-Ok.bytes.items ≡ state_bytes (kept_by c.in-Ok-state_of.state) = sym c.deref.ensures.value ∙ c.in-Ok-state_of.ensures.state in
    held_is c.one_state_is_held.ensures c.each_state_has_its_own_bytes.ensures s from (disk.content c.args.first) (disk.content c.args.second) (kept_by c.in-Ok-state_of.state) c.in-Ok-state_of.ensures.sound
    (subst (λ (b : List ℕ). Hold b (disk.content c.args.first) (disk.content c.args.second)) same (c.in-Ok.ensures.opened hold.model.0 hold.model.1)) hold.held

pub returns-clause-refused : goal.returns-clause-refused
returns-clause-refused g c s from hold =
    let disk = g.D.Disk in
    subst (λ (x : KeepingFault). StopsAnOpening x) (sym c.unopened.ensures.cause)
    (of_calls c.in-Err.fault.cause (disk.content c.args.first) (disk.content c.args.second) hold.held.0 (c.in-Err.ensures.refused hold.model.0 hold.model.1) hold.held.2)
