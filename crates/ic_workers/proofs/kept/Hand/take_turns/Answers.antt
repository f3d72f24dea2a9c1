use Rattle.ic_workers.proofs.Workings.{has_worked, may_begin, may_still, turn_none, turns_on}
use Rattle.ic_workers.proofs.kept.Hand.take_turns.Goals as goal

pub turns-init : goal.turns-init
turns-init c = turn_none c.args.program.now c.args.self.now (may_begin c.args.program.now c.args.self.now c.requires)

pub take_turn-requires-clause-may : goal.take_turn-requires-clause-may
take_turn-requires-clause-may c =
    may_still c.args.program.now c.args.self.now c.turns.self (may_begin c.args.program.now c.args.self.now c.requires) c.turns.invariant

pub turns-preserved : goal.turns-preserved
turns-preserved c =
    turns_on c.args.program.now c.args.self.now c.turns.self c.take_turn.new.self c.turns.invariant c.take_turn.ensures.turn

pub returns : goal.returns
returns c =
    has_worked c.args.program.now c.args.self.now c.take_turn.new.self c.requires
    (turns_on c.args.program.now c.args.self.now c.turns.self c.take_turn.new.self c.turns.invariant c.take_turn.ensures.turn)
