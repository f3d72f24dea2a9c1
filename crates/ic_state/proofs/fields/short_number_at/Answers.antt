use Rattle.std.proofs.Common.{arith}
use Rattle.ic_state.proofs.NumberLemmas.{four_bytes-read}
use Rattle.ic_state.proofs.fields.short_number_at.Goals as goal

pub returns-clause-read : goal.returns-clause-read
returns-clause-read c =
    let back = c.split_at.ensures.back in
    let front = c.split_at.ensures.front in
    let value = c.from_be_bytes-number.ensures in
    let split = four_bytes-read c.args.bytes.now c.from_be_bytes-number.result c.if-bytes-lt4.false (λ i. omega (arith, c.type_inv.bytes i)) (rw (← front) (omega arith)) in
    rw back split
