use Rattle.std.proofs.Common.{Contains, refl, arith}
use Rattle.ic_frames.specs.declared.faults.KeepFault.{KeepFault}
use Rattle.ic_frames.specs.declared.faults.KeepFault.TheVariants.{Broken, Worn}
use Rattle.ic_frames.specs.declared.faults.KeepFault.TheVariants.{Device as KeepDevice}
use Rattle.ic_frames.specs.declared.faults.OpenCause.{OpenCause}
use Rattle.ic_frames.specs.declared.faults.OpenCause.TheVariants.{NoSlot, TwoAlike, Damaged, Memory}
use Rattle.ic_frames.specs.declared.faults.OpenCause.TheVariants.{Device as OpenDevice}
use Rattle.ic_frames.specs.Numbers.{all_keep_faults, all_open_causes}
use Rattle.ic_frames.proofs.laws.numbers_are_lasting.Goals as goal

keep_all : (fault : KeepFault) → Contains all_keep_faults fault
keep_all Broken = (0, omega arith, refl)
keep_all Worn = (1, omega arith, refl)
keep_all KeepDevice = (2, omega arith, refl)

open_all : (cause : OpenCause) → Contains all_open_causes cause
open_all OpenDevice = (0, omega arith, refl)
open_all NoSlot = (1, omega arith, refl)
open_all TwoAlike = (2, omega arith, refl)
open_all Damaged = (3, omega arith, refl)
open_all Memory = (4, omega arith, refl)

pub returns-clause-keep_all : goal.returns-clause-keep_all
returns-clause-keep_all c = keep_all

pub returns-clause-open_all : goal.returns-clause-open_all
returns-clause-open_all c = open_all
