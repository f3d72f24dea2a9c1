-- Lemmas: what is reached and quiet, and every order.
use Rattle.std.proofs.Common.{◌≡◌, ℕ, List, [], ◌∷◌, ◌++◌, length, refl, sym, ◌∙◌, arith, sum_by, subst as transport}
use Rattle.std.specs.Prelude.{IsPermutation, IsTrue}
use Rattle.std.proofs.lemmas.List.Sorted.{sum_by-IsPermutation}
use Rattle.std.proofs.lemmas.List.Sums.{sum_by-cons}
use Rattle.ic_term.specs.Configuration.{Configuration}
use Rattle.ic_term.specs.Symbol.{is_over}
use Rattle.ic_rules.specs.Rule.{Rule}
use Rattle.ic_rules.specs.RuleSet.{Rules, IsRuleSet}
use Rattle.ic_settle.specs.NameSteps.{no_step}
use Rattle.ic_round.specs.Naming.{HasNames}
use Rattle.ic_round.specs.Quiet.{IsQuiet}
use Rattle.ic_confluence.specs.Kinds.{Kind, Chain}
use Rattle.ic_reaching.specs.OneNet.{OneNet, SameButNext}
use Rattle.ic_reaching.specs.Reaching.{Reaches, rules_fired}

-- what the laws say that this one builds on
pub record OrderLaws : Type 0 where
  pub itself : (rs : List Rule) (c : Configuration) → HasNames c → Reaches rs c c []
  pub net : (rs : List Rule) (c d e : Configuration) (fired : List ℕ) → Reaches rs c d fired → OneNet d e → Reaches rs c e fired
  pub names : (rs : List Rule) (c d : Configuration) (fired : List ℕ) → Reaches rs c d fired → HasNames d
  pub chain : (rs : Rules) (c d e : Configuration) (fired : List ℕ) (kinds : List Kind) → IsRuleSet rs → IsTrue (is_over rs.symbols c) → HasNames c
      → Reaches rs.rules c d fired → Chain rs.rules kinds d e → Reaches rs.rules c e (fired ++ rules_fired kinds)
  pub every_order : (rs : Rules) (c d e : Configuration) (fired : List ℕ) (kinds : List Kind) → IsRuleSet rs → IsTrue (is_over rs.symbols c) → HasNames c
      → Reaches rs.rules c d fired → IsQuiet rs.rules d → Chain rs.rules kinds c e → IsQuiet rs.rules e
      → SameButNext d e × IsPermutation fired (rules_fired kinds)

one_net : (c d : Configuration) → HasNames c → HasNames d → SameButNext c d → OneNet c d
one_net c d named named_too same = record {
  names = named;
  names_too = named_too;
  end = c;
  end_too = d;
  steps = no_step c;
  steps_too = no_step d;
  same = same;
}

same_length : {X : Type 0} (xs : List X) → sum_by (λ x. 1) xs ≡ length xs
same_length [] = refl
same_length (x ∷ xs) = omega (arith, sum_by-cons (λ x. 1) x xs, same_length xs)

as_many : (xs ys : List ℕ) → IsPermutation xs ys → length ys ≡ length xs
as_many xs ys moved = sym (same_length ys) ∙ sum_by-IsPermutation (λ x. 1) xs ys moved ∙ same_length xs

-- whichever order ends quiet, it ends in the net that was reached, with as many interactions
pub every_order_so : OrderLaws → (rs : Rules) (c answer e : Configuration) (fired : List ℕ) (kinds : List Kind) → IsRuleSet rs → IsTrue (is_over rs.symbols c) → HasNames c
    → Reaches rs.rules c answer fired → IsQuiet rs.rules answer → Chain rs.rules kinds c e → IsQuiet rs.rules e
    → OneNet answer e × (length (rules_fired kinds) ≡ length fired)
every_order_so laws rs c answer e fired kinds set over named reached quiet chain still =
    let same = laws.every_order rs c answer e fired kinds set over named reached quiet chain still in
    let ended = laws.chain rs c c e [] kinds set over named (laws.itself rs.rules c named) chain in (
      one_net answer e (laws.names rs.rules c answer fired reached) (laws.names rs.rules c e (rules_fired kinds) ended) same.0,
      as_many fired (rules_fired kinds) same.1,
    )

-- what is reached from what was reached is reached, by as many interactions as both
pub reached_through : OrderLaws → (rs : Rules) (c d e : Configuration) (fired more : List ℕ) → IsRuleSet rs → IsTrue (is_over rs.symbols c) → HasNames c
    → Reaches rs.rules c d fired → Reaches rs.rules d e more → Reaches rs.rules c e (fired ++ more)
reached_through laws rs c d e fired more set over named first second =
    laws.net rs.rules c second.end e (fired ++ more)
    (transport (λ l. Reaches rs.rules c second.end (fired ++ l)) second.interactions (laws.chain rs c d second.end fired second.kinds set over named first second.chain))
    second.net
