-- The rule of an active equation over the symbols of a rule set.
use Rattle.std.proofs.Common.{◌≡◌, ℕ, zero, suc, List, [], ◌∷◌, Bool, true, Option, None, Some, slice_get, length, refl, sym, ap, ◌∙◌, subst}
use Rattle.std.proofs.lemmas.Option.{same_Some}
use Rattle.std.specs.List.{AllByRecursion, list_all}
use Rattle.ic_term.specs.Tree.{Tree, Pair}
use Rattle.ic_term.specs.Symbol.{Symbol, is_tree_over, is_pair_over}
use Rattle.ic_rules.specs.Rule.{Rule, IsRule}
use Rattle.ic_rules.specs.RuleSet.{first_unfit}
use Rattle.ic_round.specs.Firing.{Active, oriented, rule_of_sides, active_pair}
use Rattle.ic_round.specs.Works.{is_agent_of}
use Rattle.std.proofs.lemmas.Bool.{and_parts}
use Rattle.ic_round.specs.lemmas.ActiveRules.{oriented_rule, sides_fit}

-- A rule keeps what each rule keeps, and the sides of an active equation have its symbols and
-- arities.
pub record SuitsRule (a : Active) (r : Rule) : Type 0 where
  pub is_rule : IsRule r
  pub left : is_agent_of r.left (length r.left_args) a.left ≡ true
  pub right : is_agent_of r.right (length r.right_args) a.right ≡ true

-- an equation suits its rule, if it is active
abbrev pub HasSoundRule : List Rule → Pair → Type 0
HasSoundRule rs p = (a : Active) (r : Rule) → active_pair rs p ≡ Some a → slice_get rs a.rule ≡ Some r → SuitsRule a r

rule_at : (rs : List Rule) (i : ℕ) (r : Rule) → AllByRecursion IsRule rs → slice_get rs i ≡ Some r → IsRule r
rule_at [] i r each there = cc
rule_at (q ∷ rs) zero r each there = let P : Rule → Type 0 = IsRule in subst P (same_Some q r there) each.0
rule_at (q ∷ rs) (suc i) r each there = rule_at rs i r each.1 there

same_rule : (t u : Tree) (i : ℕ) (turned : Bool) (a : Active) → oriented t u (Some (i, turned)) ≡ Some a → a.rule ≡ i
same_rule t u i turned a e =
    let o = oriented_rule t u i turned in
    ap (λ (b : Active). b.rule) (sym (same_Some o.0 a (sym o.1.0 ∙ e))) ∙ o.1.1

pub sound_rule : (ss : List Symbol) (rs : List Rule) (p : Pair) → first_unfit ss rs ≡ None → AllByRecursion IsRule rs → is_pair_over ss p ≡ true → HasSoundRule rs p
sound_rule ss rs p none each over a r is there = at (rule_of_sides rs p.left p.right) refl is
  where
    at : (found : Option (ℕ × Bool)) → rule_of_sides rs p.left p.right ≡ found → oriented p.left p.right found ≡ Some a → SuitsRule a r
    at None e f = cc
    at (Some (i, turned)) e f =
        let sides = and_parts (is_tree_over ss p.left) (is_tree_over ss p.right) over in
        let found = ap (slice_get rs) (sym (same_rule p.left p.right i turned a f)) ∙ there in
        let fit = sides_fit ss rs p.left p.right i turned r none sides.0 sides.1 e found a f in
        record { is_rule = rule_at rs i r each found; left = fit.left; right = fit.right }

pub sound_rules : (ss : List Symbol) (rs : List Rule) (ps : List Pair) → first_unfit ss rs ≡ None → AllByRecursion IsRule rs → list_all (is_pair_over ss) ps ≡ true
    → AllByRecursion (HasSoundRule rs) ps
sound_rules ss rs [] none each over = tt
sound_rules ss rs (p ∷ ps) none each over =
    let both = and_parts (is_pair_over ss p) (list_all (is_pair_over ss) ps) over in
    (sound_rule ss rs p none each both.0, sound_rules ss rs ps none each both.1)
