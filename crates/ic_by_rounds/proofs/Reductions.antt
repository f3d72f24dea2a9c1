-- Lemmas: rounds of a quiet configuration, and stuck pairs.
use Rattle.std.proofs.Common.{◌≡◌, ℕ, zero, suc, List, [], ◌∷◌, Bool, true, false, Option, None, Some, is_none, cond, refl, ap, ◌∙◌, subst}
use Rattle.std.proofs.lemmas.Bool.{and_parts}
use Rattle.std.specs.Prelude.{◌↔◌}
use Rattle.std.specs.List.{AllByRecursion, find, list_all}
use Rattle.std.specs.Option.{option_map}
use Rattle.ic_term.specs.Tree.{Pair}
use Rattle.ic_term.specs.Symbol.{Symbol}
use Rattle.ic_term.specs.Configuration.{Configuration}
use Rattle.ic_rules.specs.Rule.{Rule}
use Rattle.ic_round.specs.Firing.{active_pair, oriented, rule_of_sides}
use Rattle.ic_round.specs.Quiet.{is_inert, is_settled, IsQuiet}
use Rattle.ic_round.specs.Rounds.{iterate, round}
use Rattle.ic_round.specs.lemmas.IdleLemmas.{quiet_stays}
use Rattle.ic_round.specs.lemmas.QuietLemmas.{is_quiet_where, none_of}
use Rattle.ic_streams.specs.Stuck.{is_of_agents, pair_text, stuck_text}

-- ---- rounds of a quiet configuration

pub quiet_stays_on : (rs : List Rule) (c : Configuration) (n : ℕ) → IsQuiet rs c → iterate rs n c ≡ c
quiet_stays_on rs c zero quiet = refl
quiet_stays_on rs c (suc n) quiet = ap (round rs) (quiet_stays_on rs c n quiet) ∙ quiet_stays rs c quiet

-- ---- stuck pairs

no_rule : (rs : List Rule) (p : Pair) → active_pair rs p ≡ None → rule_of_sides rs p.left p.right ≡ None
no_rule rs p e = by (rule_of_sides rs p.left p.right) e
  where
    by : (found : Option (ℕ × Bool)) → oriented p.left p.right found ≡ None → found ≡ None
    by None f = refl
    by (Some (i, true)) f = cc
    by (Some (i, false)) f = cc

unruled : (rs : List Rule) (es : List Pair) (p : Pair) → list_all (λ q. is_none (active_pair rs q)) es ≡ true → find is_of_agents es ≡ Some p → rule_of_sides rs p.left p.right ≡ None
unruled rs [] p inert e = cc
unruled rs (q ∷ es) p inert e =
    let both = and_parts (is_none (active_pair rs q)) (list_all (λ q. is_none (active_pair rs q)) es) inert in
    by (is_of_agents q) e both.0 (unruled rs es p both.1)
  where
    by : (b : Bool) → cond b (Some q) (find is_of_agents es) ≡ Some p → is_none (active_pair rs q) ≡ true
        → (find is_of_agents es ≡ Some p → rule_of_sides rs p.left p.right ≡ None) → rule_of_sides rs p.left p.right ≡ None
    by true f none rest =
        let same : q ≡ p = cc in
        let P : Pair → Type 0 = λ r. rule_of_sides rs r.left r.right ≡ None in
        subst P same (no_rule rs q (none_of (active_pair rs q) none))
    by false f none rest = rest f

pub stuck_unruled : (rs : List Rule) (c : Configuration) (p : Pair) → IsQuiet rs c → find is_of_agents c.equations ≡ Some p → rule_of_sides rs p.left p.right ≡ None
stuck_unruled rs c p quiet e = unruled rs c.equations p (and_parts (is_inert rs c) (is_settled c) (is_quiet_where rs c quiet)).0 e

none_found : (ss : List Symbol) (es : List Pair) → option_map (pair_text ss) (find is_of_agents es) ≡ None → AllByRecursion (λ p. is_of_agents p ≡ false) es
none_found ss [] e = tt
none_found ss (q ∷ es) e = by (is_of_agents q) refl e (none_found ss es)
  where
    by : (b : Bool) → is_of_agents q ≡ b → option_map (pair_text ss) (cond b (Some q) (find is_of_agents es)) ≡ None
        → (option_map (pair_text ss) (find is_of_agents es) ≡ None → AllByRecursion (λ p. is_of_agents p ≡ false) es) → AllByRecursion (λ p. is_of_agents p ≡ false) (q ∷ es)
    by true is f rest = cc
    by false is f rest = (is, rest f)

found_none : (ss : List Symbol) (es : List Pair) → AllByRecursion (λ p. is_of_agents p ≡ false) es → option_map (pair_text ss) (find is_of_agents es) ≡ None
found_none ss [] all = refl
found_none ss (q ∷ es) all = ap (λ b. option_map (pair_text ss) (cond b (Some q) (find is_of_agents es))) all.0 ∙ found_none ss es all.1

pub none_told : (ss : List Symbol) (c : Configuration) → (stuck_text ss c ≡ None) ↔ AllByRecursion (λ p. is_of_agents p ≡ false) c.equations
none_told ss c = (none_found ss c.equations, found_none ss c.equations)
