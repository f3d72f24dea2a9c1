use Rattle.ic_machine.proofs.Ends.{paired_empty}
use Rattle.ic_machine.proofs.borders.Borders.new.Goals as goal

pub invariant_of-result : goal.invariant_of-result
invariant_of-result c = record {
  paired = paired_empty c.new.result c.new-2.result c.new.ensures.empty c.new-2.ensures.empty;
  unique = c.new.ensures.unique;
  step = c.requires;
}
