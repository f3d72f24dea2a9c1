use Rattle.std.proofs.Common.{arith}
use Rattle.ic_in_place.proofs.Turns.{fired_none}
use Rattle.ic_in_place.proofs.rounds.end_of_all.Goals as goal

pub returns-in-Some-clause-ran : goal.returns-in-Some-clause-ran
returns-in-Some-clause-ran c = (
  c.run_piece.ensures.ran,
  fired_none c.args.program.now c.args.machine.now c.run_piece.new.machine c.run_piece.ensures.ran (omega (arith, c.in-Some.ensures.ended.within)),
)

pub returns-in-None-clause-ran : goal.returns-in-None-clause-ran
returns-in-None-clause-ran c = (
  c.run_piece.ensures.ran,
  fired_none c.args.program.now c.args.machine.now c.run_piece.new.machine c.run_piece.ensures.ran (omega (arith, c.in-None.ensures.none.within)),
)

pub returns-in-Some-clause-before : goal.returns-in-Some-clause-before
returns-in-Some-clause-before c = (
  c.in-Some.ensures.before.1,
  λ is. omega (arith, c.in-Some.ensures.ended.limited is, c.run_piece.ensures.ran.counted),
)
