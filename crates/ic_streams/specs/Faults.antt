-- The fault of a stream: for that of its text or of its round.
use Rattle.std.specs.Prelude.{ℕ, List, [], ◌∷◌}
use Rattle.ic_text.specs.declared.fault.TextFault.{TextFault}
use Rattle.ic_text.specs.declared.fault.TextFault.TheVariants as text
use Rattle.ic_round.specs.declared.round_fault.RoundFault.{RoundFault}
use Rattle.ic_round.specs.declared.round_fault.RoundFault.TheVariants as round
use Rattle.ic_streams.specs.declared.fault.StreamFault.{StreamFault}
use Rattle.ic_streams.specs.declared.fault.StreamFault.TheVariants.{Read, Text, Round, Memory, Write}

-- the lasting numbers of the faults
abbrev pub stream_fault_number : StreamFault → ℕ
stream_fault_number Read = 1
stream_fault_number (Text fault) = 2
stream_fault_number (Round fault) = 3
stream_fault_number Memory = 4
stream_fault_number Write = 5

-- all faults, in the order of their lasting numbers
abbrev pub all_stream_faults : TextFault → RoundFault → List StreamFault
all_stream_faults text round = Read ∷ Text text ∷ Round round ∷ Memory ∷ Write ∷ []

-- a refused text, except that memory ran out, which is no fault of the text
abbrev pub fault_of_text : TextFault → StreamFault
fault_of_text text.Memory = Memory
fault_of_text fault = Text fault

-- a refused round, except that memory ran out, which is no fault of the round
abbrev pub fault_of_round : RoundFault → StreamFault
fault_of_round round.Memory = Memory
fault_of_round fault = Round fault
