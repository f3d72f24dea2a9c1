use Rattle.ic_check.proofs.Growth.{joined_begin, joined_end, joined_item}
use Rattle.ic_check.proofs.reach.join.Goals as goal

pub loop-symbol-init : goal.loop-symbol-init
loop-symbol-init c = record { joined = joined_begin c.args.seen.now.items c.args.symbols.now }

pub loop-symbol-preserved : goal.loop-symbol-preserved
loop-symbol-preserved c = record {
  joined = joined_item _ c.args.symbols.now c.loop-symbol.seen.items c.loop-symbol.symbol-index c.add.new.seen.items c.loop-symbol-test.true c.loop-symbol.invariant.joined c.in_ok-add.ensures;
}

pub returns : goal.returns
returns c = joined_end _ c.args.symbols.now c.loop-symbol.seen.items c.loop-symbol.symbol-index c.loop-symbol-test.false c.loop-symbol.invariant.joined
