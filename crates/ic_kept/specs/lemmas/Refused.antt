-- Files that are refused for what stands in them hold no state.
use Rattle.std.proofs.Common.{◌≡◌, ◌⊎◌, inl, inr, ℕ, List, refl, arith}
use Rattle.ic_frames.specs.declared.faults.OpenCause.{OpenCause}
use Rattle.ic_frames.specs.declared.faults.OpenCause.TheVariants.{Device, NoSlot, TwoAlike, Damaged, Memory}
use Rattle.ic_kept.specs.Held.{Answers, Hold}

-- if they hold one, they are refused for a call or for memory
pub refused_hold_none : (cause : OpenCause) (first second state : List ℕ) → Answers cause first second → Hold state first second → (cause ≡ Device) ⊎ (cause ≡ Memory)
refused_hold_none Device first second state answers held = inl refl
refused_hold_none Memory first second state answers held = inr refl
refused_hold_none NoSlot first second state shut (n, inl is) = absurd (shut.0.shut is.newest.opened)
refused_hold_none NoSlot first second state shut (n, inr is) = absurd (shut.1.shut is.newest.opened)
refused_hold_none TwoAlike first second state alike (n, inl is) = absurd (omega (arith, alike.same, is.newest.after.number_is, is.older.older alike.opened.1))
refused_hold_none TwoAlike first second state alike (n, inr is) = absurd (omega (arith, alike.same, is.newest.after.number_is, is.older.older alike.opened.0))
refused_hold_none Damaged first second state damaged held = absurd (damaged.none state held)
