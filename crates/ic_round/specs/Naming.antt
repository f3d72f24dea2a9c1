-- What a configuration keeps beside the limits.
use Rattle.std.specs.Prelude.{ℕ, ◌<◌, ◌≤◌}
use Rattle.std.specs.List.{AllByRecursion}
use Rattle.ic_term.specs.Configuration.{Configuration, configuration_names, occurrences}

-- Each name is below `next` and occurs at most twice.
pub record HasNames (c : Configuration) : Type 0 where
  pub below : AllByRecursion (λ n. n < c.next) (configuration_names c)
  pub twice : (n : ℕ) → occurrences n (configuration_names c) ≤ 2
