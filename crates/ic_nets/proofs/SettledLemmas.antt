-- Settling is a chain of steps that put terms for names, after which there is none.
use Rattle.std.proofs.Common.{◌≡◌, ℕ, zero, suc, [], Option, None, Some, length, refl, ap, ◌∙◌}
use Rattle.ic_term.specs.Configuration.{Configuration}
use Rattle.ic_settle.specs.Settling.{Choice, first_choice, applied, settled_in, settled}
use Rattle.ic_settle.specs.NameSteps.{NameSteps}
use Rattle.ic_settle.specs.lemmas.Reached.{settled_in_steps as steps_on}

-- a chain goes on until all is settled
pub settles_on : (c d : Configuration) → NameSteps c d → NameSteps c (settled d)
settles_on c d steps = steps_on (length d.equations) c d steps

-- ---- nothing is left to do

-- ---- settling leaves `next`

abbrev with_next : ℕ → Configuration → Configuration
with_next next c = record c { next = next }

steps_next : (next n : ℕ) (c : Configuration) → settled_in n (with_next next c) ≡ with_next next (settled_in n c)
steps_next next zero c = refl
steps_next next (suc n) c = at (first_choice c.interface [] c.equations) refl (steps_next next n)
  where
    at : (found : Option Choice) → first_choice c.interface [] c.equations ≡ found → ((d : Configuration) → settled_in n (with_next next d) ≡ with_next next (settled_in n d))
        → settled_in (suc n) (with_next next c) ≡ with_next next (settled_in (suc n) c)
    at None e rest = rw e refl
    at (Some choice) e rest = rw e (rest (applied c choice))

pub settled_next : (next : ℕ) (c : Configuration) → settled c ≡ c → settled (with_next next c) ≡ with_next next c
settled_next next c still = steps_next next (length c.equations) c ∙ ap (with_next next) still
