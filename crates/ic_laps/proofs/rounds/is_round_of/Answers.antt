use Rattle.std.proofs.Common.{sym, ◌∙◌}
use Rattle.ic_laps.proofs.Agreeing.{agreeing, agreed, answered}
use Rattle.ic_laps.proofs.rounds.is_round_of.Goals as goal

pub returns-clause-round : goal.returns-clause-round
returns-clause-round c = (
  λ e. agreeing c.args.made.now c.args.flight.now c.agrees.ensures.sound (sym c.agrees.ensures.agrees ∙ e),
  λ e. c.agrees.ensures.agrees ∙ agreed c.args.made.now c.args.flight.now e,
)

pub returns-clause-answer : goal.returns-clause-answer
returns-clause-answer c = λ e.
    answered c.args.made.now c.args.flight.now c.agrees.ensures.sound (agreeing c.args.made.now c.args.flight.now c.agrees.ensures.sound (sym c.agrees.ensures.agrees ∙ e))
