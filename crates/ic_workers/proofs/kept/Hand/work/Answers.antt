use Rattle.ic_workers.proofs.Workings.{ready_same, worked_same}
use Rattle.ic_workers.proofs.kept.Hand.work.Goals as goal

pub take_turns-requires : goal.take_turns-requires
take_turns-requires g c =
    ready_same c.args.program.now c.args.self.now c.forget.new.self c.forget.ensures.parts c.forget.ensures.same.0 c.forget.ensures.same.1 c.requires

pub returns : goal.returns
returns g c =
    worked_same c.args.program.now c.args.self.now c.forget.new.self c.take_turns.new.self c.tell.new.self
    c.forget.ensures.parts c.forget.ensures.same.0 c.take_turns.ensures c.tell.ensures.parts c.tell.ensures.same.1
