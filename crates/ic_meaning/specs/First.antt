-- Plans of configurations that link equations of two agents before all others.
use Rattle.std.specs.Prelude.{◌≡◌, ℕ, ◌≤◌, ◌||◌, ◌&&◌, List, Bool, true, false, length, take, drop, nat_lt, nat_le}
use Rattle.std.specs.List.{AllByRecursion}
use Rattle.ic_machine.specs.declared.plan.Link.{Link}
use Rattle.ic_machine.specs.Plan.{Planned}
use Rattle.ic_meaning.specs.Plans.{first_made}

-- whether a register holds an agent: one of so many without arguments, or one that is made, the first of which goes to a later one
abbrev pub holds_agent : (constants made register : ℕ) → Bool
holds_agent constants made register = nat_lt register constants || nat_le made register

-- whether a link makes two agents equal
abbrev pub joins_agents : (constants made : ℕ) → Link → Bool
joins_agents constants made l = holds_agent constants made l.left && holds_agent constants made l.right

-- So many links of a plan make two agents equal. They come first, and no other does that.
pub record LinksPairsFirst (arities : List ℕ) (given : ℕ) (p : Planned) (count : ℕ) : Type 0 where
  pub few : count ≤ length p.links
  pub pairs : AllByRecursion (λ l. joins_agents (length arities) (first_made arities given p) l ≡ true) (take count p.links)
  pub others : AllByRecursion (λ l. joins_agents (length arities) (first_made arities given p) l ≡ false) (drop count p.links)
