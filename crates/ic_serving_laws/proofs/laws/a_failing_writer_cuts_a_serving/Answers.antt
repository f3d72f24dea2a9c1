use Rattle.std.proofs.Common.{ℕ, List, ◌++◌, length, take, sym, ap, subst, ◌∙◌, arith, length-append}
use Rattle.std.proofs.Math.Seq.{take-append_seam}
use Rattle.ic_lines.specs.Serving.{IsServed}
use Rattle.ic_serving_laws.proofs.laws.a_failing_writer_cuts_a_serving.Goals as goal

pub returns-clause-sent : goal.returns-clause-sent
returns-clause-sent c = λ before after text more is.
    let sum = ap length is.parted ∙ length-append is.sent is.unsent in
    let front = ap (take (length is.sent)) is.parted ∙ take-append_seam is.sent is.unsent in
    (length is.sent, omega (arith, sum), is.written ∙ ap (λ sent. text ++ (before ++ sent)) (sym front))

pub returns-clause-answered : goal.returns-clause-answered
returns-clause-answered c = λ most front t u old new is.
    (is.whole, is.last, is.answers, is.more, is.between, is.parted, is.few, is.answered, is.done, is.written)

pub returns-clause-done : goal.returns-clause-done
returns-clause-done c = λ most front t u old new is. (
  is.answers ++ is.more,
  is.within,
  subst (λ (ls : List (List ℕ)). IsServed t ls (is.answers ++ is.more) u) (sym is.parted)
      (c.lines_are_served_in_one_way.ensures.joined t is.between u is.whole is.last is.answers is.more is.answered is.done),
)
