-- For private functions: terms that are agents.
use Rattle.ic_term.specs.Tree.{Tree, name, agent}

abbrev pub is_agent : Tree → Type 0
is_agent (name n) = ⊥
is_agent (agent s ts) = Unit {0}
