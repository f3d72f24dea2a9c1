use Rattle.std.proofs.Common.{refl}
use Rattle.ic_workers.proofs.Desks.{comes_same}
use Rattle.ic_workers.proofs.desk.Desk.meet_one.Goals as goal

-- Where nothing is handed on, parts stay.
pub returns-in_default-clause-come : goal.returns-in_default-clause-come
returns-in_default-clause-come c = comes_same c.args.self.now _ refl refl

pub returns-then-other-part-clause-come : goal.returns-then-other-part-clause-come
returns-then-other-part-clause-come c = comes_same c.args.self.now _ refl refl
