use Rattle.std.proofs.Common.{arith}
use Rattle.ic_text.proofs.LimitLemmas.{rules-low}
use Rattle.ic_text.proofs.excess.too_many_rules.Goals as goal

pub overflow_mul-most : goal.overflow_mul-most
overflow_mul-most c = omega (arith, rules-low c.args.limits, c.rules-most.ensures)
