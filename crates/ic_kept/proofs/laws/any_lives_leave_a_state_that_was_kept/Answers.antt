use Rattle.std.specs.Prelude.{List, ℕ, IsTrue}
use Rattle.ic_kept.specs.lemmas.LivesLaws.{stands, opened_is}
use Rattle.ic_kept.proofs.HeldLemmas.{one_held}
use Rattle.ic_kept.proofs.laws.any_lives_leave_a_state_that_was_kept.Goals as goal

pub returns-clause-held : goal.returns-clause-held
returns-clause-held g c = λ after begun kept coming lives.
    let disk = g.D.Disk in
    (stands disk.keeps disk.content disk.image disk.clock disk.left (λ d. g.met.D.Disk.content_is_image d) one_held (λ (old new : List ℕ). IsTrue (after old new)) begun
    kept coming c.args.first.now c.args.second.now lives).holds

pub returns-clause-led : goal.returns-clause-led
returns-clause-led g c = λ after begun kept coming lives.
    let disk = g.D.Disk in
    let is = stands disk.keeps disk.content disk.image disk.clock disk.left (λ d. g.met.D.Disk.content_is_image d) one_held (λ (old new : List ℕ). IsTrue (after old new)) begun
    kept coming c.args.first.now c.args.second.now lives in
    (is.chain, is.next)

pub returns-clause-opened : goal.returns-clause-opened
returns-clause-opened g c = λ after begun kept coming state lives held.
    let disk = g.D.Disk in
    let After = λ (old new : List ℕ). IsTrue (after old new) in
    opened_is disk.keeps disk.content disk.image disk.clock disk.left (λ d. g.met.D.Disk.content_is_image d) one_held After begun
    kept coming c.args.first.now c.args.second.now
    (stands disk.keeps disk.content disk.image disk.clock disk.left (λ d. g.met.D.Disk.content_is_image d) one_held After begun kept coming c.args.first.now c.args.second.now lives)
    state held
