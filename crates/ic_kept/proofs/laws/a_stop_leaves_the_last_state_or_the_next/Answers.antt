use Rattle.std.specs.Prelude.{List, ℕ, IsTrue}
use Rattle.ic_kept.specs.lemmas.CourseLaws.{left_on_way, way_leads}
use Rattle.ic_kept.proofs.laws.a_stop_leaves_the_last_state_or_the_next.Goals as goal

pub returns-clause-held : goal.returns-clause-held
returns-clause-held g c = λ after end first model keeps way.
    let disk = g.D.Disk in
    left_on_way disk.keeps disk.image disk.clock disk.left (λ (old new : List ℕ). IsTrue (after old new)) c.args.keeper.now end first model keeps way

pub returns-clause-led : goal.returns-clause-led
returns-clause-led g c = λ after end first way.
    let disk = g.D.Disk in
    way_leads disk.keeps disk.image disk.clock disk.left (λ (old new : List ℕ). IsTrue (after old new)) c.args.keeper.now end first way
