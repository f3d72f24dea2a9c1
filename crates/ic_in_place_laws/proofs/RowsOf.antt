-- Lemmas: the rows that are told, where no circle is left and no number has more than 64 bits.
use Rattle.std.proofs.Common.{◌≡◌, ℕ, zero, suc, ◌+◌, ◌-◌, ◌*◌, ◌^◌, ◌%◌, ◌<◌, List, [], ◌∷◌, ◌++◌, length, refl, sym, arith}
use Rattle.ic_term.specs.Configuration.{Configuration, configuration_names, configuration_nodes}
use Rattle.ic_rules.specs.Rule.{Rule}
use Rattle.ic_round.specs.ActivePlaces.{active}
use Rattle.ic_round.specs.Rounds.{iterate}
use Rattle.ic_confluence.specs.Agents.{configuration_symbols}
use Rattle.ic_meaning.specs.Circles.{circles}
use Rattle.ic_by_rounds.specs.Tracing.{active_count, row_after, rows_of, told_row, told_rows}

small : (n m : ℕ) → m ≡ 0 → n < 2 ^ 64 → (n - 2 * m) % 2 ^ 64 ≡ n
small n m none fits = omega arith

none_off : (n m : ℕ) → m ≡ 0 → n - m ≡ n
none_off n m none = omega arith

module _ (counted : (rs : List Rule) (c : Configuration) → active_count rs c ≡ length (active rs c))
    (named : (c : Configuration) → length (configuration_names c) + length (configuration_symbols c) ≡ configuration_nodes c) where
  row_told : (rs : List Rule) (c : Configuration) (n : ℕ) → circles (iterate rs (suc n) c) ≡ 0 → configuration_nodes (iterate rs (suc n) c) < 2 ^ 64
      → told_row rs c n ≡ row_after rs c n
  row_told rs c n none fits =
      let d : Configuration = iterate rs (suc n) c in
      let pairs : length (active rs (iterate rs n c)) ≡ active_count rs (iterate rs n c) = sym (counted rs (iterate rs n c)) in
      let all = named d in
      let few : length (configuration_names d) < 2 ^ 64 = omega (arith, all, fits) in
      let nodes = small (configuration_nodes d) (circles d) none fits in
      let equations = none_off (length d.equations) (circles d) none in
      let names = small (length (configuration_names d)) (circles d) none few in
      λ i. record { round = n + 1; pairs = pairs i; nodes = nodes i; equations = equations i; names = names i }

  pub rows_told : (rs : List Rule) (c : Configuration) (n : ℕ) → ((k : ℕ) → k < n → circles (iterate rs (suc k) c) ≡ 0)
      → ((k : ℕ) → k < n → configuration_nodes (iterate rs (suc k) c) < 2 ^ 64) → told_rows rs c n ≡ rows_of rs c n
  rows_told rs c zero none fits = refl
  rows_told rs c (suc n) none fits =
      let before = rows_told rs c n (λ k low. none k (omega (arith, low))) (λ k low. fits k (omega (arith, low))) in
      let last = row_told rs c n (none n (omega arith)) (fits n (omega arith)) in
      λ i. before i ++ last i ∷ []
