use Rattle.std.proofs.Common.{sym, ap}
use Rattle.std.specs.Prelude.{nat_eq, is_some}
use Rattle.std.specs.Map.{lookup}
use Rattle.std.proofs.lemmas.List.{nil_from_length}
use Rattle.ic_flat_round.proofs.bound.has.Goals as goal

pub returns-then-is_empty : goal.returns-then-is_empty
returns-then-is_empty c =
    sym (ap (λ l. is_some (lookup (nat_eq c.args.name) l)) (nil_from_length c.args.others.now.entries (c.is_empty.ensures.0 c.if-is_empty.true)))
