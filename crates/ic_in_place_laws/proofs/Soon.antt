-- Lemmas: rounds that end as enough interactions are made.
use Rattle.std.proofs.Common.{◌≡◌, ⊎_elim, inl, inr, ℕ, zero, suc, ◌+◌, ◌-◌, ◌<◌, ◌≤◌, ◌++◌, length, refl, sym, ap, ◌∙◌, arith, subst}
use Rattle.std.proofs.lemmas.Bool.{cases_lt}
use Rattle.std.proofs.lemmas.List.{length-append}
use Rattle.std.proofs.lemmas.List.Sorted.{length_permutation}
use Rattle.ic_rules.specs.System.{SystemParts}
use Rattle.ic_round.specs.ActivePlaces.{active}
use Rattle.ic_round.specs.Rounds.{iterate}
use Rattle.ic_generations.specs.Firings.{rules_of}
use Rattle.ic_in_place.specs.Counting.{rules_in}
use Rattle.ic_in_place.specs.Rounds.{IsBrokenOff, IsRoundedTo}
use Rattle.ic_in_place.specs.declared.reducing.Reduced.{Reduced}
use Rattle.ic_in_place.specs.declared.running.End.{End}
use Rattle.ic_in_place.specs.declared.running.End.TheVariants.{Quiet, Steps, Nodes, Limit, Memory}
use Rattle.ic_in_place.specs.lemmas.RoundsOn.{rules_active}

module _ (s : SystemParts) (most enough rounds : ℕ) (reduced : Reduced) (is : IsRoundedTo s most enough rounds reduced) (some : 1 ≤ enough) where
  -- how many interactions so many rounds make
  abbrev over : ℕ → ℕ
  over n = length (rules_in s.rules.rules n s.config)

  -- how many the round after them makes
  abbrev fires : ℕ → ℕ
  fires n = length (active s.rules.rules (iterate s.rules.rules n s.config))

  abbrev Soon : Type 0
  Soon = (n : ℕ) × (n ≤ rounds) × (over n < enough) × (reduced.interactions ≤ over n + fires n)

  many : reduced.interactions ≡ over rounds + length is.fired.since
  many = is.fired.all ∙ length-append (rules_in s.rules.rules rounds s.config) is.fired.since

  -- where another one was begun
  with_next : over rounds < enough → Soon
  with_next low =
      let next = rules_of s.rules.rules (iterate s.rules.rules rounds s.config).equations in
      let all = length_permutation (is.fired.since ++ is.fired.rest) next is.fired.part in
      let both = length-append is.fired.since is.fired.rest in
      let as_many = rules_active s.rules.rules 0 (iterate s.rules.rules rounds s.config).equations in
      let count = many in
      (rounds, omega arith, low, omega (arith, count, all, both, as_many))

  before : (r : ℕ) → rounds ≡ suc r → over r < enough
  before zero at = omega (arith, some)
  before (suc r) at = is.early (suc r) (omega arith) (omega (arith, at))

  -- where none was, after so many and one more
  without : (r : ℕ) → rounds ≡ suc r → length is.fired.since ≡ 0 → Soon
  without r at none =
      let last = rules_of s.rules.rules (iterate s.rules.rules r s.config).equations in
      let same : over rounds ≡ length (rules_in s.rules.rules r s.config ++ last) = ap over at in
      let both = length-append (rules_in s.rules.rules r s.config) last in
      let as_many = rules_active s.rules.rules 0 (iterate s.rules.rules r s.config).equations in
      let count = many in
      (r, omega (arith, at), before r at, omega (arith, count, none, same, both, as_many))

  broken : (e : End) → reduced.end ≡ e → (r : ℕ) → rounds ≡ suc r → IsBrokenOff e (reduced.interactions - over rounds) → Soon
  broken e at r more off =
      with_next (is.begun (omega (arith, more)) (subst (λ (x : End). IsBrokenOff x (reduced.interactions - over rounds)) (sym at) off))

  by_end : (e : End) → reduced.end ≡ e → (r : ℕ) → rounds ≡ suc r → Soon
  by_end Quiet at r more = without r more (ap (λ l. length l) (is.fired.whole (inl at)))
  by_end Steps at r more = without r more (ap (λ l. length l) (is.fired.whole (inr at)))
  by_end Nodes at r more = broken Nodes at r more tt
  by_end Limit at r more = broken Limit at r more tt
  by_end Memory at r more =
      let count = many in
      ⊎_elim (λ one. broken Memory at r more (omega (arith, count, one))) (λ none. without r more (omega (arith, none))) (cases_lt 0 (length is.fired.since))

  by_rounds : (r : ℕ) → rounds ≡ r → Soon
  by_rounds zero at = let none : over rounds ≡ 0 = ap over at in with_next (omega (arith, none, some))
  by_rounds (suc r) at = by_end reduced.end refl r at

  pub soon : Soon
  soon = by_rounds rounds refl
