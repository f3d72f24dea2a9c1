-- How many equations are active, told by the rules of their sides.
use Rattle.std.proofs.Common.{◌≡◌, ◌∙◌, ℕ, Bool, true, Option, Some, is_some, count_by, refl, ap}
use Rattle.ic_term.specs.Tree.{Tree, Pair}
use Rattle.ic_term.specs.Configuration.{Configuration}
use Rattle.ic_rules.specs.RuleSet.{Rules}
use Rattle.ic_round.specs.Firing.{oriented, rule_of_sides}
use Rattle.ic_by_rounds.specs.Tracing.{active_count}

oriented_some : (t u : Tree) (o : Option (ℕ × Bool)) → is_some o ≡ is_some (oriented t u o)
oriented_some t u (Some (i, true)) = refl
oriented_some t u _ = refl

-- how many equations have a rule
abbrev pub ruled : Rules → Configuration → ℕ
ruled rs c = count_by (λ (e : Pair). is_some (rule_of_sides rs.rules e.left e.right)) c.equations

-- the equations that have a rule are the active ones
pub active_told : (q rs : Rules) (c : Configuration) (n : ℕ) → q ≡ rs → n ≡ ruled q c → n ≡ active_count rs.rules c
active_told q rs c n same told =
    told ∙ ap (λ r. ruled r c) same ∙ (λ i. count_by (λ (p : Pair). oriented_some p.left p.right (rule_of_sides rs.rules p.left p.right) i) c.equations)
