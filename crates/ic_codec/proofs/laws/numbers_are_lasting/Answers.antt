use Rattle.std.proofs.Common.{refl, arith}
use Rattle.std.specs.List.{Contains}
use Rattle.ic_codec.specs.declared.fault.CodecFault.{CodecFault}
use Rattle.ic_codec.specs.declared.fault.CodecFault.TheVariants.{NotATable, Memory}
use Rattle.ic_codec.specs.CodecFault.{all_codec_faults}
use Rattle.ic_codec.proofs.laws.numbers_are_lasting.Goals as goal

each : (fault : CodecFault) → Contains all_codec_faults fault
each NotATable = (0, omega arith, refl)
each Memory = (1, omega arith, refl)

pub returns : goal.returns
returns c = record { all = each; numbers = refl }
