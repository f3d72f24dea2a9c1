-- The lasting numbers of faults. This project's choice.
use Rattle.std.specs.Prelude.{ℕ, List, [], ◌∷◌}
use Rattle.ic_slots.specs.declared.fault.CreateFault.{CreateFault}
use Rattle.ic_slots.specs.declared.fault.CreateFault.TheVariants.{Device, Memory}

abbrev pub create_fault_number : CreateFault → ℕ
create_fault_number Device = 1
create_fault_number Memory = 2

-- all faults, in the order of their lasting numbers
abbrev pub all_create_faults : List CreateFault
all_create_faults = Device ∷ Memory ∷ []
