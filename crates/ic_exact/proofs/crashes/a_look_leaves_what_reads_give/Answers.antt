use Rattle.std.proofs.Common.{Bool, Result, Ok, Err, refl}
use Rattle.std.specs.Prelude.{IsErrOf}
use Rattle.ic_frames.specs.declared.faults.OpenCause.TheVariants as cause
use Rattle.ic_slots.specs.declared.fault.CreateFault.{CreateFault}
use Rattle.ic_slots.specs.declared.fault.CreateFault.TheVariants as fault
use Rattle.ic_slots.specs.Unused.{looking_of}
use Rattle.ic_exact.proofs.crashes.a_look_leaves_what_reads_give.Goals as goal

-- where the look didn't end with the device, nor does it as an opening
no_device : (result : Result Bool CreateFault) → ¬ IsErrOf result fault.Device → ¬ IsErrOf (looking_of result) cause.Device
no_device (Ok unused) other is = cc
no_device (Err fault.Device) other is = other refl
no_device (Err fault.Memory) other is = cc

pub returns : goal.returns
returns g c = λ result as_found keeps other. as_found.synced keeps (no_device result other)
