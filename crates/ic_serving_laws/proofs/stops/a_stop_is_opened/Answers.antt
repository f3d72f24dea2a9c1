use Rattle.std.proofs.Common.{◌≡◌, subst}
use Rattle.ic_slots.specs.Held.{the_table}
use Rattle.ic_serving.specs.Stopped.{MayStand}
use Rattle.ic_serving_laws.proofs.stops.a_stop_is_opened.Goals as goal

pub returns-clause-made : goal.returns-clause-made
returns-clause-made c = λ m n kept t ls file holds. holds.2.made

pub returns-clause-opened : goal.returns-clause-opened
returns-clause-opened c = λ m n kept t next ls file holds held.
    let one : the_table holds.0 ≡ the_table next = c.one_is_held.ensures file (the_table holds.0) (the_table next) holds.2.held held in
    let same : holds.0 ≡ next = cc in
    subst (MayStand (m ≡ n) kept t ls) same holds.1
