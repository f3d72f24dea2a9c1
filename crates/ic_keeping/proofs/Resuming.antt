-- What two files hold with which a reduction begins, and why they are refused.
use Rattle.std.proofs.Common.{inl, inr, ⊎_elim, List, ℕ, ap}
use Rattle.ic_frames.specs.declared.faults.OpenCause.{OpenCause}
use Rattle.ic_kept.specs.Held.{Answers, Hold}
use Rattle.ic_kept.specs.Sheet.{IsNewest, IsShut}
use Rattle.ic_kept.specs.lemmas.Refused.{refused_hold_none}
use Rattle.ic_keeping.specs.declared.fault.KeepingFault.TheVariants.{Open}
use Rattle.ic_keeping.specs.Life.{StopsAnOpening}

pub first_held : (state a b : List ℕ) → IsNewest 1 state a → IsShut b → Hold state a b
first_held state a b newest shut =
    (1, inl (record { newest = newest; older = record { made = shut.made; older = λ opened. absurd (shut.shut opened) } }))

-- files that hold a state aren't refused for what they hold
pub of_calls : (cause : OpenCause) (first second state : List ℕ) → Answers cause first second → Hold state first second → StopsAnOpening (Open cause)
of_calls cause first second state answers held = ⊎_elim
    (λ device. inl (ap Open device))
    (λ memory. inr (inl (ap Open memory)))
    (refused_hold_none cause first second state answers held)
