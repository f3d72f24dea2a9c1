-- When two configurations are one net, wherever terms stand: a term may be in the place of a name,
-- or be a piece of its own, in an equation of that name with it.
use Rattle.std.specs.Prelude.{ℕ, ◌+◌}
use Rattle.ic_term.specs.Configuration.{Configuration}
use Rattle.ic_settle.specs.NameSteps.{NameSteps}
use Rattle.ic_round.specs.Naming.{HasNames}
use Rattle.ic_confluence.specs.Sameness.{Same}

-- a configuration whose fresh names begin at a number that is so much higher
abbrev pub raised : ℕ → Configuration → Configuration
raised more c = record c { next = c.next + more }

-- Two configurations are the same net, wherever the fresh names of each begin.
pub record SameButNext (c d : Configuration) : Type 0 where
  pub more : ℕ
  pub others : ℕ
  pub same : Same (raised more c) (raised others d)

-- Two configurations are one net where putting terms for names leads from both to the same net,
-- wherever fresh names begin.
pub record OneNet (c d : Configuration) : Type 0 where
  pub names : HasNames c
  pub names_too : HasNames d
  pub end : Configuration
  pub end_too : Configuration
  pub steps : NameSteps c end
  pub steps_too : NameSteps d end_too
  pub same : SameButNext end end_too
