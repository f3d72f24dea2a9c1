use Rattle.std.proofs.Common.{refl}
use Rattle.ic_kept.specs.lemmas.CourseLaws.{left_on_way, way_leads}
use Rattle.ic_state.specs.State.{state_bytes}
use Rattle.ic_keeping.specs.Way.{IsKeptAfter}
use Rattle.ic_keeping.proofs.GoingLemmas.{leads_form}
use Rattle.ic_keeping.proofs.laws.a_stop_leaves_the_last_state_or_the_next.Goals as goal

pub returns-clause-held : goal.returns-clause-held
returns-clause-held g c = λ s first end has way.
    let disk = g.D.Disk in
    left_on_way disk.keeps disk.image disk.clock disk.left (IsKeptAfter s) c.args.keeper.now end (state_bytes first) has.0 has.1 way

pub returns-clause-states : goal.returns-clause-states
returns-clause-states g c = λ s first end is_kept is way kept coming one other there.
    let disk = g.D.Disk in
    let led = way_leads disk.keeps disk.image disk.clock disk.left (IsKeptAfter s) c.args.keeper.now end (state_bytes first) way kept coming one other there in
    (leads_form c.each_state_has_its_own_bytes.ensures s first is_kept is (state_bytes first) kept refl led.0, led.1)
