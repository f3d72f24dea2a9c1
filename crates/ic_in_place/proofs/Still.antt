-- Lemmas: whether a text stands still.
use Rattle.std.proofs.Common.{◌≡◌, ◌⊎◌, inl, inr, ℕ, ◌==◌, Bool, true, false, Option, None, Some, refl, ap}
use Rattle.std.specs.Cmp.{unsigned_Decides}
use Rattle.std.proofs.lemmas.Bool.{and_parts}
use Rattle.ic_in_place.specs.Rounds.{stands_still}
use Rattle.ic_in_place.specs.declared.running.End.{End}
use Rattle.ic_in_place.specs.declared.running.End.TheVariants.{Quiet, Steps, Nodes, Limit, Memory}

yes_or_no : (b : Bool) → (b ≡ true) ⊎ (b ≡ false)
yes_or_no true = inl refl
yes_or_no false = inr refl

pub still_or_not : (end : End) (n : ℕ) (steps : Option ℕ) → (stands_still end n steps ≡ true) ⊎ (stands_still end n steps ≡ false)
still_or_not end n steps = yes_or_no (stands_still end n steps)

-- no pair has fired then
pub still_none : (end : End) (n : ℕ) (steps : Option ℕ) → stands_still end n steps ≡ true → n ≡ 0
still_none Quiet n None is = absurd (cc is)
still_none Quiet n (Some k) is = (unsigned_Decides n 0).0 (and_parts (n == 0) (k == 0) is).0
still_none Steps n steps is = absurd (cc is)
still_none Nodes n steps is = (unsigned_Decides n 0).0 is
still_none Limit n steps is = (unsigned_Decides n 0).0 is
still_none Memory n steps is = (unsigned_Decides n 0).0 is

-- at a quiet end no step was possible
pub still_quiet : (n : ℕ) (steps : Option ℕ) → stands_still Quiet n steps ≡ true → (n ≡ 0) × (steps ≡ Some 0)
still_quiet n None is = absurd (cc is)
still_quiet n (Some k) is =
    let both = and_parts (n == 0) (k == 0) is in
    let zero_steps : k ≡ 0 = (unsigned_Decides k 0).0 both.1 in
    ((unsigned_Decides n 0).0 both.0, ap (λ (m : ℕ). Some m) zero_steps)

pub quiet_still : (n : ℕ) (steps : Option ℕ) → n ≡ 0 → steps ≡ Some 0 → stands_still Quiet n steps ≡ true
quiet_still n steps none zero_steps = λ i. stands_still Quiet (none i) (zero_steps i)

-- at a bound or a limit no pair had fired
pub none_still : (n : ℕ) → n ≡ 0 → (n == 0) ≡ true
none_still n none = (unsigned_Decides n 0).1 none
