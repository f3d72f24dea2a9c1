use Rattle.ic_keeping.proofs.LivesLemmas.{there, kept_form, found_is, found_as}
use Rattle.ic_keeping.proofs.laws.any_lives_leave_a_state_of_the_reduction.Goals as goal

pub returns-clause-held : goal.returns-clause-held
returns-clause-held g c = λ s begun kept coming lives.
    let disk = g.D.Disk in
    (there disk.keeps disk.content disk.image disk.clock disk.left (λ d. g.met.D.Disk.content_is_image d) c.one_state_is_held.ensures c.each_state_has_its_own_bytes.ensures
    s begun kept coming c.args.first.now c.args.second.now lives).holds

pub returns-clause-states : goal.returns-clause-states
returns-clause-states g c = λ s begun kept coming is_kept is lives.
    let disk = g.D.Disk in (
      kept_form disk.keeps disk.content disk.image disk.clock disk.left (λ d. g.met.D.Disk.content_is_image d) c.one_state_is_held.ensures c.each_state_has_its_own_bytes.ensures
          s begun kept coming c.args.first.now c.args.second.now lives is_kept is,
      (there disk.keeps disk.content disk.image disk.clock disk.left (λ d. g.met.D.Disk.content_is_image d) c.one_state_is_held.ensures c.each_state_has_its_own_bytes.ensures
          s begun kept coming c.args.first.now c.args.second.now lives).next,
    )

pub returns-clause-opened : goal.returns-clause-opened
returns-clause-opened g c = λ s begun found kept coming is_kept is found_kept lives held.
    let disk = g.D.Disk in (
      (found_is disk.keeps disk.content disk.image disk.clock disk.left (λ d. g.met.D.Disk.content_is_image d) c.one_state_is_held.ensures c.each_state_has_its_own_bytes.ensures
          s begun kept coming c.args.first.now c.args.second.now lives is_kept is found found_kept held).0,
      found_as disk.keeps disk.content disk.image disk.clock disk.left (λ d. g.met.D.Disk.content_is_image d) c.one_state_is_held.ensures c.each_state_has_its_own_bytes.ensures
          s begun kept coming c.args.first.now c.args.second.now lives is_kept is found found_kept held,
    )
