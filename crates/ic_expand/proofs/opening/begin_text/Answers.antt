use Rattle.std.proofs.Common.{sym, ◌∙◌}
use Rattle.std.proofs.lemmas.Bool.{false≢true}
use Rattle.ic_expand.proofs.Fronts.{front_tells, left_whole, takes_left}
use Rattle.ic_expand.proofs.opening.begin_text.Goals as goal

pub returns-then-not-is_rich-clause-plain : goal.returns-then-not-is_rich-clause-plain
returns-then-not-is_rich-clause-plain g c = λ text is none. (
  c.opened_with-opened.ensures.plain,
  left_whole text _ _ _ _ _ c.in_ok-front.ensures.front c.opened_with-opened.ensures.going c.opened_with-opened.ensures.whole is,
)

pub returns-then-not-is_rich-clause-rich : goal.returns-then-not-is_rich-clause-rich
returns-then-not-is_rich-clause-rich g c = λ text is rich.
    let tells = front_tells c.args.said text _ _ _ _ _ _ c.in_ok-front.ensures.front is c.deref.ensures.value c.is_rich_front-is_rich.ensures in
    absurd (false≢true (sym c.if-not-is_rich.true ∙ sym tells ∙ rich))

pub returns-clause-plain : goal.returns-clause-plain
returns-clause-plain g c = λ text is none.
    let tells = front_tells c.args.said text _ _ _ _ _ _ c.in_ok-front.ensures.front is c.deref.ensures.value c.is_rich_front-is_rich.ensures in
    absurd (false≢true (sym none ∙ tells ∙ c.if-not-is_rich.false))

pub returns-clause-rich : goal.returns-clause-rich
returns-clause-rich g c = λ text is rich.
    let left = left_whole text _ _ _ _ _ c.in_ok-front.ensures.front c.opened_with-opened.ensures.going c.opened_with-opened.ensures.whole is in (
      _,
      takes_left text _ _ _ left c.in_ok-text.ensures.text,
    )
