-- Lemmas, which a reader of the contracts doesn't need: an equation is active where the rules hold
-- one of its two symbols.
use Rattle.std.proofs.Common.{◌≡◌, ◌||◌, ℕ, List, Bool, true, false, Option, None, Some, is_some, refl, sym, ◌∙◌, inl, inr, subst}
use Rattle.std.specs.List.{list_any, position_from}
use Rattle.ic_term.specs.Tree.{Tree, name, agent, Trees}
use Rattle.ic_rules.specs.Rule.{Rule, stands_for}
use Rattle.ic_rules.specs.RuleSet.{rule_for, found_or, has_pair}
use Rattle.ic_rules.specs.lemmas.FindLaws.{any_of_two, rule_for-found}
use Rattle.ic_round.specs.Firing.{Active, oriented, active_pair}
use Rattle.ic_round.specs.Turning.{IsTurnedRight}

pub active_agents : (rs : List Rule) (a b : ℕ) (ts us : Trees)
    → is_some (active_pair rs (record { left = agent a ts; right = agent b us })) ≡ list_any (has_pair a b) rs
active_agents rs a b ts us =
    either (position_from (stands_for a b) 0 rs) (position_from (stands_for b a) 0 rs) ∙ sym (any_of_two (stands_for a b) (stands_for b a) 0 rs)
  where
    either : (m n : Option ℕ) → is_some (oriented (agent a ts) (agent b us) (found_or false m (found_or true n None))) ≡ (is_some m || is_some n)
    either (Some k) n = refl
    either None (Some k) = refl
    either None None = refl

pub active_right_name : (rs : List Rule) (t : Tree) (n : ℕ) → active_pair rs (record { left = t; right = name n }) ≡ None
active_right_name rs (name m) n = refl
active_right_name rs (agent a ts) n = refl

pub turned_right : (rs : List Rule) (a b : ℕ) (ts us : Trees) (found : Active) → active_pair rs (record { left = agent a ts; right = agent b us }) ≡ Some found
    → IsTurnedRight rs a b ts us found
turned_right rs a b ts us found = at (rule_for rs a b) refl
  where
    at : (o : Option (ℕ × Bool)) → rule_for rs a b ≡ o → oriented (agent a ts) (agent b us) o ≡ Some found → IsTurnedRight rs a b ts us found
    at None e f = cc
    at (Some (i, false)) e f =
        let same : record { rule = i; left = agent a ts; right = agent b us } ≡ found = cc in
        let P : Active → Type 0 = λ d. IsTurnedRight rs a b ts us d in
        subst P same (inl (refl, refl, rule_for-found rs a b i false e))
    at (Some (i, true)) e f =
        let same : record { rule = i; left = agent b us; right = agent a ts } ≡ found = cc in
        let P : Active → Type 0 = λ d. IsTurnedRight rs a b ts us d in
        subst P same (inr (refl, refl, rule_for-found rs a b i true e))
