use Rattle.std.proofs.Common.{ℕ, ap}
use Rattle.std.specs.Map.{lookup}
use Rattle.std.specs.Ordering.{nat_cmp, is_eq}
use Rattle.std.specs.BTreeMap.{get}
use Rattle.ic_flat_round.specs.inner.Places.{found}
use Rattle.ic_flat_round.proofs.PlaceLemmas.{none_found}
use Rattle.ic_flat_round.proofs.places.Places.clear.Goals as goal

pub returns-in_ok-resize : goal.returns-in_ok-resize
unfolding found
returns-in_ok-resize c = λ y.
    none_found c.resize.new.self.items c.clear.new.self.items _ (get nat_cmp c.clear-2.new.self y) y c.clear.ensures.items
    (ap (lookup (λ (k : ℕ). is_eq (nat_cmp y k))) c.clear-2.ensures.empty)

pub returns-else-len-most : goal.returns-else-len-most
unfolding found
returns-else-len-most c = λ y.
    none_found c.args.self.now.slots.items c.clear.new.self.items _ (get nat_cmp c.clear-2.new.self y) y c.clear.ensures.items
    (ap (lookup (λ (k : ℕ). is_eq (nat_cmp y k))) c.clear-2.ensures.empty)
