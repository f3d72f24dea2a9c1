-- The numbers of the faults of reading a table.
use Rattle.std.specs.Prelude.{ℕ, List, [], ◌∷◌}
use Rattle.ic_codec.specs.declared.fault.CodecFault.{CodecFault}
use Rattle.ic_codec.specs.declared.fault.CodecFault.TheVariants.{NotATable, Memory}

-- the lasting number of a fault
abbrev pub codec_fault_number : CodecFault → ℕ
codec_fault_number NotATable = 1
codec_fault_number Memory = 2

-- all faults, in the order of their lasting numbers
abbrev pub all_codec_faults : List CodecFault
all_codec_faults = NotATable ∷ Memory ∷ []
