use Rattle.std.proofs.Common.{◌∷◌, []}
use Rattle.ic_machine.specs.declared.telling.Told.{Told}
use Rattle.ic_machine.specs.Moving.{IsTold}
use Rattle.ic_machine.proofs.machine.Machine.tell_one.Goals as goal

-- it is told
pub returns-in_ok-push-clause-told : goal.returns-in_ok-push-clause-told
returns-in_ok-push-clause-told c =
    let t : Told = record { cut = c.args.cut; size = c.in_ok-size.size } in
    let is : IsTold c.args.self.now c.args.borders.now t = record {
      name = c.in-Some.name;
      end = c.in-Some.ensures;
      word = c.in-Some-waiting.waiting;
      waiting = c.in-Some-waiting.ensures.found;
    } in
    (t ∷ [], c.in_ok-push.ensures.items, (is, tt))
