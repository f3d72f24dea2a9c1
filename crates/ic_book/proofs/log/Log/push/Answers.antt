use Rattle.std.proofs.Common.{◌≡◌, ℕ, ◌+◌, ◌-◌, ◌^◌, min, arith}
use Rattle.ic_book.specs.Weight.{weight, weight_of}
use Rattle.ic_book.specs.lemmas.Weights.{weigh_one}
use Rattle.ic_book.proofs.log.Log.push.Goals as goal

counted : (log own held more total new : ℕ) → held ≡ min log (2 ^ 64 - 1) → more ≡ own → total ≡ min (held + more) (2 ^ 64 - 1) → new ≡ log + own → total ≡ min new (2 ^ 64 - 1)
counted log own held more total new is same sum grown = omega (arith, is, same, sum, grown)

pub invariant_of-self : goal.invariant_of-self
invariant_of-self c =
    let log = c.args.self.now in
    let items = c.push_reserved.new.self.items in
    record {
      weighed = counted (weight_of log.entries.items) (weight c.args.entry.event) log.weight c.weight-more.result c.saturating_add-total.result (weight_of items) log.weighed
          c.weight-more.ensures c.saturating_add-total.ensures (weigh_one log.entries.items items c.args.entry c.push_reserved.ensures.items);
    }
