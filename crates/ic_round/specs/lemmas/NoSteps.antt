-- What tells whether an equation is active, and what the test of quiet configurations tells.
use Rattle.std.proofs.Common.{◌≡◌, ℕ, Bool, List, Option, None, Some, is_some, is_none, not, sym, ap, ◌∙◌, subst}
use Rattle.std.specs.Prelude.{◌↔◌, IsTrue}
use Rattle.ic_term.specs.Tree.{Pair}
use Rattle.ic_term.specs.Configuration.{Configuration}
use Rattle.ic_rules.specs.Rule.{Rule}
use Rattle.ic_round.specs.Firing.{active_pair, oriented, rule_of_sides}
use Rattle.ic_round.specs.Quiet.{IsQuiet, is_quiet}
use Rattle.ic_round.specs.lemmas.ActiveRules.{active_by}
use Rattle.ic_round.specs.lemmas.QuietLemmas.{quiet_is_no_step}

-- an equation is active where its sides have a rule
pub inert_where : (rs : List Rule) (p : Pair) (found : Option (ℕ × Bool)) (b : Bool) → rule_of_sides rs p.left p.right ≡ found → is_some found ≡ b
    → is_none (active_pair rs p) ≡ not b
inert_where rs p None b e f = ap (λ o. is_none (oriented p.left p.right o)) e ∙ ap not f
inert_where rs p (Some r) b e f = ap is_none (active_by rs p r.0 r.1 e).1.0 ∙ ap not f

-- an answer that is the test's tells whether a step is possible
pub told_by_test : (rs : List Rule) (c : Configuration) (b : Bool) → b ≡ is_quiet rs c → IsTrue b ↔ IsQuiet rs c
told_by_test rs c b same = let P : Bool → Type 0 = λ d. IsTrue d ↔ IsQuiet rs c in subst P (sym same) (quiet_is_no_step rs c)
