use Rattle.std.proofs.Common.{◌∙◌, sym, subst, Option}
use Rattle.ic_kept.specs.declared.head.Head.{Head}
use Rattle.ic_kept.specs.inner.Finding.{IsHeadOf}
use Rattle.ic_kept.proofs.finding.choose.Goals as goal

pub returns-in-None-None-clause-chosen : goal.returns-in-None-None-clause-chosen
returns-in-None-None-clause-chosen c one other made made_too first second = (
  record { made = made; shut = subst (λ (h : Option Head). IsHeadOf h one) c.in-None-None.is-0 first },
  record { made = made_too; shut = subst (λ (h : Option Head). IsHeadOf h other) c.in-None-None.is-1 second },
)

pub returns-in-Some-Some-clause-chosen : goal.returns-in-Some-Some-clause-chosen
returns-in-Some-Some-clause-chosen c a b made made_too first second =
    let one = subst (λ (h : Option Head). IsHeadOf h a) c.in-Some-Some.is-0 first in
    let two = subst (λ (h : Option Head). IsHeadOf h b) c.in-Some-Some.is-1 second in
    record { made = (made, made_too); opened = (one.opened, two.opened); same = one.number_is ∙ c.if-first-second.true ∙ sym two.number_is }
