-- The rule of addition with its plan, worked out by hand.
use Rattle.std.specs.Prelude.{ℕ, List, [], ◌∷◌}
use Rattle.ic_term.specs.Tree.{name, agent, no_trees, more_trees}
use Rattle.ic_rules.specs.Rule.{Rule}
use Rattle.ic_machine.specs.Plan.{Planned}

-- the symbols S, of one argument, and Add, of two
abbrev pub addition_arities : List ℕ
addition_arities = 1 ∷ 2 ∷ []

-- `S(Add(y,r))><Add(y,S(r))`
abbrev pub addition_rule : Rule
addition_rule = record {
  left = 0;
  right = 1;
  left_args = agent 1 (more_trees (name 0) (more_trees (name 1) no_trees)) ∷ [];
  right_args = name 0 ∷ agent 0 (more_trees (name 1) no_trees) ∷ [];
  names = 2;
}

-- The arguments are in registers 2, 3 and 4, and the fresh name r in 5: `Add` of 3 and 5 is made, and `S` of 5, and linked
-- with 2 and 4.
abbrev pub addition_plan : Planned
addition_plan = record {
  names = 1;
  made = record { symbol = 1; operands = 3 ∷ 5 ∷ [] } ∷ record { symbol = 0; operands = 5 ∷ [] } ∷ [];
  links = record { left = 2; right = 6 } ∷ record { left = 4; right = 7 } ∷ [];
}
