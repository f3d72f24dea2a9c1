use Rattle.std.proofs.Common.{◌≢◌, Result, Ok, Err, refl}
use Rattle.std.proofs.lemmas.Bool.{false_from_ne_true}
use Rattle.ic_frames.specs.declared.faults.KeepFault.{KeepFault}
use Rattle.ic_frames.specs.declared.faults.KeepFault.TheVariants.{Broken, Worn, Device}
use Rattle.ic_kept.proofs.laws.keeps_are_refused_so.Goals as goal

device_is_not_broken : ◌≢◌ {A = Result (Unit {0}) KeepFault} (Err Device) (Err Broken)
device_is_not_broken = λ same. cc

ok_is_not_broken : ◌≢◌ {A = Result (Unit {0}) KeepFault} (Ok tt) (Err Broken)
ok_is_not_broken = λ same. cc

broken_is_not_device : ◌≢◌ {A = Result (Unit {0}) KeepFault} (Err Broken) (Err Device)
broken_is_not_device = λ same. cc

worn_is_not_device : ◌≢◌ {A = Result (Unit {0}) KeepFault} (Err Worn) (Err Device)
worn_is_not_device = λ same. cc

pub returns-clause-broken : goal.returns-clause-broken
returns-clause-broken g c new fault = (fault.broken.0 refl, fault.refused refl broken_is_not_device)

pub returns-clause-worn : goal.returns-clause-worn
returns-clause-worn g c new fault =
    let is = fault.worn.0 refl in
    (is.0, is.1, fault.refused refl worn_is_not_device)

pub returns-clause-device : goal.returns-clause-device
returns-clause-device g c new fault = (false_from_ne_true c.args.keeper.now.broken (λ broken. device_is_not_broken (fault.broken.1 broken)), fault.breaks refl)

pub returns-clause-kept : goal.returns-clause-kept
returns-clause-kept g c new fault = (false_from_ne_true c.args.keeper.now.broken (λ broken. ok_is_not_broken (fault.broken.1 broken)), fault.ready)
