-- The lasting numbers of faults. This project's choice.
use Rattle.std.specs.Prelude.{ℕ, List, [], ◌∷◌}
use Rattle.ic_frames.specs.declared.faults.KeepFault.{KeepFault}
use Rattle.ic_frames.specs.declared.faults.KeepFault.TheVariants.{Broken, Worn}
use Rattle.ic_frames.specs.declared.faults.KeepFault.TheVariants.{Device as KeepDevice}
use Rattle.ic_frames.specs.declared.faults.OpenCause.{OpenCause}
use Rattle.ic_frames.specs.declared.faults.OpenCause.TheVariants.{NoSlot, TwoAlike, Damaged, Memory}
use Rattle.ic_frames.specs.declared.faults.OpenCause.TheVariants.{Device as OpenDevice}

abbrev pub keep_fault_number : KeepFault → ℕ
keep_fault_number Broken = 1
keep_fault_number Worn = 2
keep_fault_number KeepDevice = 3

abbrev pub open_cause_number : OpenCause → ℕ
open_cause_number OpenDevice = 1
open_cause_number NoSlot = 2
open_cause_number TwoAlike = 3
open_cause_number Damaged = 4
open_cause_number Memory = 5

-- all faults, in the order of their lasting numbers
abbrev pub all_keep_faults : List KeepFault
all_keep_faults = Broken ∷ Worn ∷ KeepDevice ∷ []

abbrev pub all_open_causes : List OpenCause
all_open_causes = OpenDevice ∷ NoSlot ∷ TwoAlike ∷ Damaged ∷ Memory ∷ []
