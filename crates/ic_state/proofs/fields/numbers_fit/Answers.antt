use Rattle.std.proofs.Common.{arith}
use Rattle.ic_state.proofs.ListLemmas.{all_fit}
use Rattle.ic_state.proofs.fields.numbers_fit.Goals as goal

pub returns : goal.returns
returns c = all_fit c.args.numbers.now (λ i. omega (arith, c.type_inv.numbers i))
