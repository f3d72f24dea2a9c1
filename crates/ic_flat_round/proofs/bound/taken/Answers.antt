use Rattle.std.proofs.Common.{refl}
use Rattle.std.proofs.lemmas.List.{nil_from_length}
use Rattle.ic_flat_round.proofs.BoundEntries.{none_in}
use Rattle.ic_flat_round.proofs.bound.taken.Goals as goal

pub returns-then-is_empty : goal.returns-then-is_empty
returns-then-is_empty c =
    let none = none_in c.args.others.now.entries c.args.name (nil_from_length c.args.others.now.entries (c.is_empty.ensures.0 c.if-is_empty.true)) in
    record { value = none.0; updates = none.1; entries = none.2; unchanged = refl }
