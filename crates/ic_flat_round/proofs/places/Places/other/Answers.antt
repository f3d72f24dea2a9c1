use Rattle.std.proofs.Common.{ℕ, sym, ap}
use Rattle.std.specs.Map.{lookup}
use Rattle.std.specs.Ordering.{nat_cmp, is_eq}
use Rattle.std.proofs.lemmas.List.{nil_from_length}
use Rattle.ic_flat_round.proofs.places.Places.other.Goals as goal

pub returns-then-is_empty : goal.returns-then-is_empty
returns-then-is_empty c =
    sym (ap (lookup (λ (k : ℕ). is_eq (nat_cmp c.args.name k))) (nil_from_length c.args.self.now.others.entries (c.is_empty.ensures.0 c.if-is_empty.true)))
