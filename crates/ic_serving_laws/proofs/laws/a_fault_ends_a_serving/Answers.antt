use Rattle.std.proofs.Common.{sym, subst, ◌∙◌}
use Rattle.ic_lines.specs.Serving.{IsServed}
use Rattle.ic_serving_laws.proofs.PartLemmas.{left_within, says_long, says_many}
use Rattle.ic_serving_laws.proofs.laws.a_fault_ends_a_serving.Goals as goal

pub returns-clause-within : goal.returns-clause-within
returns-clause-within c = λ fault most all front rest t u kept old new one is.
    let law = c.one_line_reading.ensures.total in (
      is.answered.answers,
      is.between,
      is.answered.served,
      is.answered.written,
      left_within law fault most is.between u rest one is.in_group,
      λ yes. left_within law fault most is.between kept rest one (is.keeps yes),
    )

pub returns-clause-read : goal.returns-clause-read
returns-clause-read c = λ most all front rest t u kept old new is. (
  is.answered.answers,
  subst (IsServed t front is.answered.answers) (sym is.in_group) is.answered.served,
  is.answered.written,
  λ yes. is.keeps yes ∙ sym is.in_group,
)

pub returns-clause-long_line : goal.returns-clause-long_line
returns-clause-long_line c = λ most all front rest t u kept old new is.
    let says = says_long is.between u front rest is.says in (
      says.0,
      says.1,
      is.answered.answers,
      says.2,
      says.3,
      says.4,
      subst (IsServed t front is.answered.answers) (sym is.in_group) is.answered.served,
      is.answered.written,
      λ yes. is.keeps yes ∙ sym is.in_group,
    )

pub returns-clause-too_many_lines : goal.returns-clause-too_many_lines
returns-clause-too_many_lines c = λ most all front rest t u kept old new is.
    let says = says_many is.between u front rest is.says in (
      says.0,
      says.1,
      is.answered.answers,
      says.2,
      says.3,
      subst (IsServed t front is.answered.answers) (sym is.in_group) is.answered.served,
      is.answered.written,
      λ yes. is.keeps yes ∙ sym is.in_group,
    )
