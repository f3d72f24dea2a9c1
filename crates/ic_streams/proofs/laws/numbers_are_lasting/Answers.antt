use Rattle.std.proofs.Common.{refl, arith, Contains}
use Rattle.ic_text.specs.declared.fault.TextFault.{TextFault}
use Rattle.ic_text.specs.declared.fault.TextFault.TheVariants.{Syntax}
use Rattle.ic_round.specs.declared.round_fault.RoundFault.{RoundFault}
use Rattle.ic_round.specs.declared.round_fault.RoundFault.TheVariants.{Overgrown}
use Rattle.ic_streams.specs.declared.fault.StreamFault.{StreamFault}
use Rattle.ic_streams.specs.declared.fault.StreamFault.TheVariants.{Read, Text, Round, Memory, Write}
use Rattle.ic_streams.specs.Faults.{all_stream_faults}
use Rattle.ic_streams.proofs.laws.numbers_are_lasting.Goals as goal

all : (fault : StreamFault) → (text : TextFault) × (round : RoundFault) × Contains (all_stream_faults text round) fault
all Read = (Syntax, Overgrown, (0, omega arith, refl))
all (Text text) = (text, Overgrown, (1, omega arith, refl))
all (Round round) = (Syntax, round, (2, omega arith, refl))
all Memory = (Syntax, Overgrown, (3, omega arith, refl))
all Write = (Syntax, Overgrown, (4, omega arith, refl))

pub returns-clause-all : goal.returns-clause-all
returns-clause-all c = all
