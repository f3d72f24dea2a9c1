use Rattle.std.proofs.Common.{◌≡◌, subst, Option, arith}
use Rattle.ic_frames.specs.declared.slot.Slot.TheVariants.{First, Second}
use Rattle.ic_frames.specs.declared.found.Head.{Head}
use Rattle.ic_frames.specs.Fields.{number}
use Rattle.ic_frames.specs.inner.Finding.{IsHeadOf}
use Rattle.ic_frames.proofs.LawLemmas.{shut_held, alike_held}
use Rattle.ic_frames.proofs.opening.newest_of.Goals as goal

pub returns-in-None-None-clause-chosen : goal.returns-in-None-None-clause-chosen
returns-in-None-None-clause-chosen c file first second = shut_held file (
  subst (λ (h : Option Head). IsHeadOf First h file) c.in-None-None.is-0 first,
  subst (λ (h : Option Head). IsHeadOf Second h file) c.in-None-None.is-1 second,
)

pub returns-in-Some-Some-clause-chosen : goal.returns-in-Some-Some-clause-chosen
returns-in-Some-Some-clause-chosen c file first second =
    let one = subst (λ (h : Option Head). IsHeadOf First h file) c.in-Some-Some.is-0 first in
    let two = subst (λ (h : Option Head). IsHeadOf Second h file) c.in-Some-Some.is-1 second in
    let same : number 0 file ≡ number 4194304 file = omega (arith, one.number_is, two.number_is, c.if-first-second.true) in
    alike_held file (record { first = one.opened; second = two.opened; same = same })
