-- Lemmas, which a reader of the contracts doesn't need: the tests of equality of rules and rule sets are
-- equality.
use Rattle.std.specs.Prelude.{◌≡◌, ◌==◌, true, refl}
use Rattle.std.specs.Bool.{Decides}
use Rattle.std.specs.Cmp.{IsEquivalence, decided, unsigned_Decides}
use Rattle.std.proofs.lemmas.Bool.{and_parts, and_from}
use Rattle.std.proofs.Common.{sym, ◌∙◌, ap}
use Rattle.std.specs.Cmp.Lexicographic.{pointwise, pointwise_decides}
use Rattle.ic_term.specs.Tree.{tree_eq}
use Rattle.ic_term.specs.lemmas.TreeLaws.{tree_eq-Decides}
use Rattle.ic_term.specs.Symbol.{symbols_eq}
use Rattle.ic_term.specs.lemmas.SymbolLaws.{symbols_eq-Decides}
use Rattle.ic_rules.specs.Rule.{Rule, rule_eq}
use Rattle.ic_rules.specs.RuleSet.{Rules, rules_eq}

rule_eq-true : (r s : Rule) → rule_eq r s ≡ true → r ≡ s
rule_eq-true r s e =
    let last = and_parts _ (r.names == s.names) e in
    let rights = and_parts _ (pointwise tree_eq r.right_args s.right_args) last.0 in
    let lefts = and_parts _ (pointwise tree_eq r.left_args s.left_args) rights.0 in
    let symbols = and_parts (r.left == s.left) (r.right == s.right) lefts.0 in
    let left = (unsigned_Decides r.left s.left).0 symbols.0 in
    let right = (unsigned_Decides r.right s.right).0 symbols.1 in
    let left_args = (pointwise_decides tree_eq-Decides r.left_args s.left_args).0 lefts.1 in
    let right_args = (pointwise_decides tree_eq-Decides r.right_args s.right_args).0 rights.1 in
    let names = (unsigned_Decides r.names s.names).0 last.1 in
    λ i. record { left = left i; right = right i; left_args = left_args i; right_args = right_args i; names = names i }

rule_eq-refl : (r : Rule) → rule_eq r r ≡ true
rule_eq-refl r =
    and_from _ _ (and_from _ _ (and_from _ _ (and_from _ _ ((unsigned_Decides r.left r.left).1 refl) ((unsigned_Decides r.right r.right).1 refl))
    ((pointwise_decides tree_eq-Decides r.left_args r.left_args).1 refl))
    ((pointwise_decides tree_eq-Decides r.right_args r.right_args).1 refl))
    ((unsigned_Decides r.names r.names).1 refl)

pub rule_eq-Decides : (r s : Rule) → Decides (rule_eq r s) (r ≡ s)
rule_eq-Decides r s = (rule_eq-true r s, λ e. ap (rule_eq r) (sym e) ∙ rule_eq-refl r)

pub rules_eq-Decides : (r s : Rules) → Decides (rules_eq r s) (r ≡ s)
rules_eq-Decides r s = (
  (λ e. let parts = and_parts (symbols_eq r.symbols s.symbols) (pointwise rule_eq r.rules s.rules) e in
      let symbols = (symbols_eq-Decides r.symbols s.symbols).0 parts.0 in
      let rules = (pointwise_decides rule_eq-Decides r.rules s.rules).0 parts.1 in
      λ i. record { symbols = symbols i; rules = rules i }),
  (λ e. ap (rules_eq r) (sym e) ∙ and_from _ _ ((symbols_eq-Decides r.symbols r.symbols).1 refl) ((pointwise_decides rule_eq-Decides r.rules r.rules).1 refl)),
)

pub rule_eq-equivalence : IsEquivalence rule_eq
rule_eq-equivalence = decided rule_eq rule_eq-Decides

pub rules_eq-equivalence : IsEquivalence rules_eq
rules_eq-equivalence = decided rules_eq rules_eq-Decides
