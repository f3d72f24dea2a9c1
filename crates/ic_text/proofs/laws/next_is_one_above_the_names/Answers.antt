use Rattle.ic_text.proofs.NextAbove.{next_of_reading, next_of_system}
use Rattle.ic_text.proofs.laws.next_is_one_above_the_names.Goals as goal

pub returns : goal.returns
returns c = record { config = next_of_reading; system = next_of_system }
