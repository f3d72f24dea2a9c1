use Rattle.std.proofs.Common.{◌<◌, ◌-◌, ◌*◌, ◌+◌, length, sym, ◌∙◌, arith}
use Rattle.ic_term.proofs.Packing.{packed_back, stays_low, fits}
use Rattle.ic_term.proofs.key.packed.Goals as goal

pub overflow_mul-number : goal.overflow_mul-number
overflow_mul-number c =
    omega (arith, fits (length c.args.bytes.now) c.loop-i.i c.loop-i.number 0 c.requires c.loop-i-test.true c.loop-i.auto.i c.loop-i.invariant.1 (omega arith))

pub overflow_add-number : goal.overflow_add-number
overflow_add-number c =
    let byte : c.from.result < 256 = omega (arith, c.from.ensures, c.type_inv.bytes (c.loop-i.i - 1)) in
    omega (arith, fits (length c.args.bytes.now) c.loop-i.i c.loop-i.number c.from.result c.requires c.loop-i-test.true c.loop-i.auto.i c.loop-i.invariant.1 byte)

pub loop-i-preserved : goal.loop-i-preserved
loop-i-preserved c =
    let bytes = c.args.bytes.now in
    let byte : c.from.result < 256 = omega (arith, c.from.ensures, c.type_inv.bytes (c.loop-i.i - 1)) in (
      (λ i. c.loop-i.invariant.0 i * 256 + c.from.ensures i) ∙ sym (packed_back bytes c.loop-i.i c.loop-i-test.true c.loop-i.auto.i),
      stays_low (length bytes) c.loop-i.i c.loop-i.number c.from.result c.loop-i-test.true c.loop-i.auto.i c.loop-i.invariant.1 byte,
    )
