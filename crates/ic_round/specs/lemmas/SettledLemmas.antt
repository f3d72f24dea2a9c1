-- Lemmas: a settled configuration is one, and stays over its symbols.
use Rattle.std.proofs.Common.{◌≡◌, ℕ, zero, suc, List, [], ◌∷◌, ◌++◌, true, Option, None, Some, refl, sym, ap, ◌∙◌, subst as transport}
use Rattle.ic_term.specs.Symbol.{Symbol, is_over}
use Rattle.ic_term.specs.Configuration.{Configuration, IsConfiguration}
use Rattle.ic_settle.specs.Settling.{Choice, first_choice, applied, settled_in, settled}
use Rattle.ic_settle.specs.NameSteps.{NameStep}
pub use Rattle.ic_settle.specs.lemmas.Reached.{choice_step}
use Rattle.ic_settle.specs.lemmas.StepLaws.{configuration_kept, over_kept}

-- ---- what such a step keeps

shape : (c d : Configuration) → (s : NameStep c d) → c ≡ record c { equations = s.before ++ s.equation ∷ s.after }
shape c d s = ap (λ es. record c { equations = es }) s.place

pub name_step-valid : (c d : Configuration) → NameStep c d → IsConfiguration c → IsConfiguration d
name_step-valid c d s valid =
    let P : Configuration → Type 0 = IsConfiguration in
    transport P (sym s.result)
    (configuration_kept c.interface s.before s.equation s.after c.next s.bound s.side s.outside (transport P (shape c d s) valid))

pub name_step-over : (ss : List Symbol) (c d : Configuration) → NameStep c d → is_over ss c ≡ true → is_over ss d ≡ true
name_step-over ss c d s over =
    ap (is_over ss) s.result
    ∙ over_kept ss c.interface s.before s.equation s.after c.next s.bound s.side (ap (is_over ss) (sym (shape c d s)) ∙ over)

-- ---- settling

settled_in-valid : (n : ℕ) (c : Configuration) → IsConfiguration c → IsConfiguration (settled_in n c)
settled_in-valid zero c valid = valid
settled_in-valid (suc n) c valid = at (first_choice c.interface [] c.equations) refl (λ d v. settled_in-valid n d v)
  where
    at : (found : Option Choice) → first_choice c.interface [] c.equations ≡ found
        → ((d : Configuration) → IsConfiguration d → IsConfiguration (settled_in n d)) → IsConfiguration (settled_in (suc n) c)
    at None e rest = rw e valid
    at (Some choice) e rest = rw e (rest (applied c choice) (name_step-valid c (applied c choice) (choice_step c choice e) valid))

settled_in-over : (ss : List Symbol) (n : ℕ) (c : Configuration) → is_over ss c ≡ true → is_over ss (settled_in n c) ≡ true
settled_in-over ss zero c over = over
settled_in-over ss (suc n) c over = at (first_choice c.interface [] c.equations) refl (λ d o. settled_in-over ss n d o)
  where
    at : (found : Option Choice) → first_choice c.interface [] c.equations ≡ found
        → ((d : Configuration) → is_over ss d ≡ true → is_over ss (settled_in n d) ≡ true) → is_over ss (settled_in (suc n) c) ≡ true
    at None e rest = rw e over
    at (Some choice) e rest = rw e (rest (applied c choice) (name_step-over ss c (applied c choice) (choice_step c choice e) over))

pub settled_is : (c : Configuration) → IsConfiguration c → IsConfiguration (settled c)
settled_is c valid = settled_in-valid _ c valid

pub settled_over : (ss : List Symbol) (c : Configuration) → is_over ss c ≡ true → is_over ss (settled c) ≡ true
settled_over ss c over = settled_in-over ss _ c over
