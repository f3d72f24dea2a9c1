use Rattle.ic_term.proofs.KeyLemmas.{empty}
use Rattle.ic_term.proofs.symbols.Symbols.new.Goals as goal

pub invariant_of-result : goal.invariant_of-result
invariant_of-result c = empty c.new-entries.result.items c.new-numbers.result c.new-entries.ensures.items c.new-numbers.ensures.empty
