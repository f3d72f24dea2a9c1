use Rattle.std.proofs.Common.{◌≡◌, ◌≢◌, ℕ, Err, refl}
use Rattle.ic_frames.specs.Faults.{CountsOpen}
use Rattle.ic_frames.specs.declared.faults.OpenCause.{OpenCause}
use Rattle.ic_frames.specs.declared.faults.OpenCause.TheVariants.{Device, NoSlot, TwoAlike, Damaged, Memory}
use Rattle.ic_serving_laws.proofs.stops.a_refused_opening_counts_its_failure.Goals as goal

none_counted : (cause : OpenCause) (old new : ℕ) → cause ≢ Device → CountsOpen {T = Unit {0}} (Err cause) old new → new ≡ old
none_counted Device old new other counted = absurd (other refl)
none_counted NoSlot old new other counted = counted
none_counted TwoAlike old new other counted = counted
none_counted Damaged old new other counted = counted
none_counted Memory old new other counted = counted

pub returns-clause-device : goal.returns-clause-device
returns-clause-device g c refused = refused.counted

pub returns-clause-others : goal.returns-clause-others
returns-clause-others g c cause other refused =
    none_counted cause (g.D.Disk.failures c.args.old.now) (g.D.Disk.failures c.args.new.now) other refused.counted
