-- A round as works that can be done apart, and what is left of the configuration.
use Rattle.std.specs.Prelude.{List}
use Rattle.ic_term.specs.Configuration.{Configuration}
use Rattle.ic_rules.specs.Rule.{Rule}
use Rattle.ic_round.specs.Works.{PlainWork, works_from}
use Rattle.ic_round.specs.Gathering.{Gapped, gapped}

-- works, and a configuration with a gap for each
pub record PlainPlan : Type 0 where
  pub works : List PlainWork
  pub rest : Gapped

-- the works of a configuration, in the order of their places, and what is left of it
abbrev pub planned : List Rule → Configuration → PlainPlan
planned rs c = record { works = works_from rs 0 c.next c.equations; rest = gapped rs c }
