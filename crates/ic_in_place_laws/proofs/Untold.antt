-- Lemmas: where no name steps are told.
use Rattle.std.proofs.Common.{◌≡◌, ◌≢◌, List, ℕ, Option, None, refl}
use Rattle.ic_term.specs.Configuration.{Configuration}
use Rattle.ic_rules.specs.Rule.{Rule}
use Rattle.ic_in_place.specs.Counting.{TellsNameSteps}
use Rattle.ic_in_place.specs.declared.running.End.{End}
use Rattle.ic_in_place.specs.declared.running.End.TheVariants.{Quiet, Steps, Nodes, Limit, Memory}

-- at other ends than a quiet one none are
pub no_name_steps : (rs : List Rule) (d : Configuration) (interactions left : ℕ) (end : End) (told : Option ℕ) → end ≢ Quiet
    → TellsNameSteps rs d interactions left end told → told ≡ None
no_name_steps rs d interactions left Quiet told other tells = absurd (other refl)
no_name_steps rs d interactions left Steps told other tells = tells
no_name_steps rs d interactions left Nodes told other tells = tells
no_name_steps rs d interactions left Limit told other tells = tells
no_name_steps rs d interactions left Memory told other tells = tells
