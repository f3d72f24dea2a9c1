-- Lemmas: rounds that go on from the net of other rounds.
use Rattle.std.proofs.Common.{◌≡◌, ℕ, ◌+◌, length, sym, arith, subst as transport}
use Rattle.std.specs.Prelude.{IsPermutation, IsTrue}
use Rattle.std.proofs.lemmas.List.Sorted.{length_permutation}
use Rattle.ic_term.specs.Configuration.{Configuration}
use Rattle.ic_term.specs.Symbol.{is_over}
use Rattle.ic_rules.specs.RuleSet.{IsRuleSet, Rules}
use Rattle.ic_round.specs.ActivePlaces.{active}
use Rattle.ic_round.specs.Naming.{HasNames}
use Rattle.ic_round.specs.Rounds.{iterate}
use Rattle.ic_generations.specs.Firings.{rules_of}
use Rattle.ic_confluence.specs.Sameness.{Same}
use Rattle.ic_reaching.specs.OneNet.{SameButNext, raised}
use Rattle.ic_in_place.specs.lemmas.RoundsOn.{raised_names, rounds_on, rules_active}

-- what laws say of rounds
pub record RoundLaws : Type 0 where
  pub over : (rs : Rules) (n : ℕ) (c : Configuration) → IsRuleSet rs → IsTrue (is_over rs.symbols c) → IsTrue (is_over rs.symbols (iterate rs.rules n c))
  pub names : (rs : Rules) (n : ℕ) (c : Configuration) → IsRuleSet rs → IsTrue (is_over rs.symbols c) → HasNames c → HasNames (iterate rs.rules n c)
  pub rounds : (rs : Rules) (n : ℕ) (c d : Configuration) → IsRuleSet rs → IsTrue (is_over rs.symbols c) → HasNames c → HasNames d → SameButNext c d
      → SameButNext (iterate rs.rules n c) (iterate rs.rules n d)
  pub rules : (rs : Rules) (c d : Configuration) → IsRuleSet rs → IsTrue (is_over rs.symbols c) → HasNames c → SameButNext c d
      → IsPermutation (rules_of rs.rules c.equations) (rules_of rs.rules d.equations)

-- a configuration of the same net keeps names where its fresh ones begin high enough
pub named_above : ((c d : Configuration) → Same c d → HasNames c → HasNames d) → (c d : Configuration) → HasNames c → (same : SameButNext c d)
    → HasNames (raised same.others d) × SameButNext c (raised same.others d)
named_above law c d named same = (
  law (raised same.more c) (raised same.others d) same.same (raised_names same.more c named),
  let next : (d.next + same.others) + 0 ≡ d.next + same.others = omega arith in
      record { more = same.more; others = 0; same = transport (λ (n : ℕ). Same (raised same.more c) (record d { next = n })) (sym next) same.same },
)

module _ (laws : RoundLaws) (rs : Rules) (n m : ℕ) (c d : Configuration) (set : IsRuleSet rs) (over : IsTrue (is_over rs.symbols c)) (named : HasNames c) where
  pub net_on : HasNames d → SameButNext (iterate rs.rules n c) d → SameButNext (iterate rs.rules (m + n) c) (iterate rs.rules m d)
  net_on named_too same =
      transport (λ (e : Configuration). SameButNext e (iterate rs.rules m d)) (sym (rounds_on rs.rules m n c))
      (laws.rounds rs m (iterate rs.rules n c) d set (laws.over rs n c set over) (laws.names rs n c set over named) named_too same)

  pub rules_on : HasNames d → SameButNext (iterate rs.rules n c) d → IsPermutation (rules_of rs.rules (iterate rs.rules (m + n) c).equations) (rules_of rs.rules (iterate rs.rules m d).equations)
  rules_on named_too same =
      laws.rules rs (iterate rs.rules (m + n) c) (iterate rs.rules m d) set (laws.over rs (m + n) c set over) (laws.names rs (m + n) c set over named) (net_on named_too same)

  pub pairs_on : HasNames d → SameButNext (iterate rs.rules n c) d → length (active rs.rules (iterate rs.rules m d)) ≡ length (active rs.rules (iterate rs.rules (m + n) c))
  pairs_on named_too same =
      let moved = length_permutation (rules_of rs.rules (iterate rs.rules (m + n) c).equations) (rules_of rs.rules (iterate rs.rules m d).equations) (rules_on named_too same) in
      let before = rules_active rs.rules 0 (iterate rs.rules (m + n) c).equations in
      let after = rules_active rs.rules 0 (iterate rs.rules m d).equations in
      omega (arith, moved, before, after)
