use Rattle.std.proofs.Common.{arith}
use Rattle.ic_state.specs.Numbers.{eight_bytes}
use Rattle.ic_state.proofs.ListLemmas.{put_more, put_all}
use Rattle.ic_state.proofs.fields.put_numbers.Goals as goal

pub loop-number-preserved : goal.loop-number-preserved
loop-number-preserved c = put_more eight_bytes c.args.numbers.now c.loop-number.number-index 0 c.args.out.now.items c.loop-number.out.items c.put_number.new.out.items
    c.loop-number-test.true c.loop-number.invariant c.in_ok-put_number.ensures

pub returns : goal.returns
returns c = put_all eight_bytes c.args.numbers.now c.loop-number.number-index c.args.out.now.items c.loop-number.out.items (omega (arith, c.loop-number-test.false)) c.loop-number.invariant
