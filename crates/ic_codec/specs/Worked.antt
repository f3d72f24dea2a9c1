-- A job by hand, and its bytes field by field: the worked example of the form.
use Rattle.std.specs.Prelude.{ℕ, List, [], ◌∷◌, ◌++◌, None, Some, codes}
use Rattle.ic_term.specs.Tree.{Tree, name, agent, no_trees, more_trees}
use Rattle.ic_term.specs.Symbol.{Symbol}
use Rattle.ic_rules.specs.Rule.{Rule}
use Rattle.ic_jobs.specs.declared.state.State.TheVariants.{Running, Done, Spent}
use Rattle.ic_jobs.specs.Job.{JobParts}

-- the symbols `Add` 0, `Z` 1 and `S` 2
abbrev pub sum_symbols : List Symbol
sum_symbols = record { text = codes "Add"; arity = 2 } ∷ record { text = codes "Z"; arity = 0 }
    ∷ record { text = codes "S"; arity = 1 } ∷ []

abbrev pub sum_of : Tree → Tree → Tree
sum_of t u = agent 0 (more_trees t (more_trees u no_trees))

abbrev pub nought : Tree
nought = agent 1 no_trees

abbrev pub next_of : Tree → Tree
next_of t = agent 2 (more_trees t no_trees)

-- `Add(x,x)><Z` and `Add(S(x),y)><S(Add(x,y))`
abbrev pub sum_rules : List Rule
sum_rules = record {
  left = 0;
  right = 1;
  left_args = name 0 ∷ name 0 ∷ [];
  right_args = [];
  names = 1;
} ∷ record {
  left = 0;
  right = 2;
  left_args = next_of (name 0) ∷ name 1 ∷ [];
  right_args = sum_of (name 0) (name 1) ∷ [];
  names = 2;
} ∷ []

-- the job `two` as it is submitted, with these rules and `<r|Add(r,S(Z))=S(Z)>`
abbrev pub one_plus_one : JobParts
one_plus_one = record {
  name = codes "two";
  rules = record { symbols = sum_symbols; rules = sum_rules };
  config = record {
    interface = name 17 ∷ [];
    equations = record {
      left = sum_of (name 17) (next_of nought);
      right = next_of nought;
    } ∷ [];
    next = 18;
  };
  rounds = 0;
  state = Running;
  budget = None;
}

-- the job after its two rounds: `<S(S(Z))|>`
abbrev pub one_plus_one_done : JobParts
one_plus_one_done = record one_plus_one {
  config = record { interface = next_of (next_of nought) ∷ []; equations = []; next = 21 };
  rounds = 2;
  state = Done;
}

-- the job as it is submitted with a budget of one round, after that round: `<S(s)|Z=Add(s,S(Z))>`
abbrev pub one_plus_one_spent : JobParts
one_plus_one_spent = record one_plus_one {
  config = record {
    interface = next_of (name 18) ∷ [];
    equations = record { left = nought; right = sum_of (name 18) (next_of nought) } ∷ [];
    next = 20;
  };
  rounds = 1;
  state = Spent;
  budget = Some 1;
}

-- a number below 256 in eight bytes, and a name of such a number
abbrev pub in_eight : ℕ → List ℕ
in_eight n = 0 ∷ 0 ∷ 0 ∷ 0 ∷ 0 ∷ 0 ∷ 0 ∷ n ∷ []

abbrev pub named : ℕ → List ℕ
named n = 0xff ∷ in_eight n

-- what all begin with: the head of the form, whose digit it is, one job, and its name
abbrev pub front_by_hand : ℕ → List ℕ
front_by_hand digit = 0x49 ∷ 0x43 ∷ 0x54 ∷ digit ∷ 1 ∷ 3 ∷ 0x74 ∷ 0x77 ∷ 0x6f ∷ []

-- what all have after `next`: three symbols, and two rules
abbrev pub system_by_hand : List ℕ
system_by_hand = (3 ∷ 3 ∷ 0x41 ∷ 0x64 ∷ 0x64 ∷ 2 ∷ 1 ∷ 0x5a ∷ 0 ∷ 1 ∷ 0x53 ∷ 1 ∷ [])
    ++ (0 ∷ 2 ∷ []) ++ (0 ∷ 1 ∷ []) ++ named 0 ++ named 0
    ++ (0 ∷ 2 ∷ 2 ∷ []) ++ named 0 ++ named 1 ++ (0 ∷ []) ++ named 0 ++ named 1

-- `next` 18, and what follows it as the job is submitted: one interface term, one equation
abbrev pub begun_by_hand : List ℕ
begun_by_hand = in_eight 18 ++ system_by_hand
    ++ (1 ∷ 0 ∷ 1 ∷ []) ++ named 17 ++ (0 ∷ []) ++ named 17 ++ (2 ∷ 1 ∷ []) ++ (2 ∷ 1 ∷ [])

-- `next` 21, and what follows it after two rounds: one interface term, no equation
abbrev pub ended_by_hand : List ℕ
ended_by_hand = in_eight 21 ++ system_by_hand ++ (1 ∷ 0 ∷ 0 ∷ []) ++ (2 ∷ 2 ∷ 1 ∷ [])

-- The 134 bytes: state 0, rounds 0, no budget.
abbrev pub submitted_by_hand : List ℕ
submitted_by_hand = front_by_hand 0x32 ++ (0 ∷ []) ++ in_eight 0 ++ in_eight 0 ++ begun_by_hand

-- The 114 bytes: state 2, rounds 2, no budget.
abbrev pub done_by_hand : List ℕ
done_by_hand = front_by_hand 0x32 ++ (2 ∷ []) ++ in_eight 2 ++ in_eight 0 ++ ended_by_hand

-- The 134 bytes: state 4, rounds 1, budget 1, `next` 20; one interface term, one equation.
abbrev pub spent_by_hand : List ℕ
spent_by_hand = front_by_hand 0x32 ++ (4 ∷ []) ++ in_eight 1 ++ in_eight 1 ++ in_eight 20
    ++ system_by_hand ++ (1 ∷ 0 ∷ 1 ∷ []) ++ (2 ∷ []) ++ named 18 ++ (1 ∷ [])
    ++ (0 ∷ []) ++ named 18 ++ (2 ∷ 1 ∷ [])

-- The 126 bytes of the old form: state 0, rounds 0.
abbrev pub old_submitted_by_hand : List ℕ
old_submitted_by_hand = front_by_hand 0x31 ++ (0 ∷ []) ++ in_eight 0 ++ begun_by_hand

-- The 106 bytes of the old form: state 2, rounds 2.
abbrev pub old_done_by_hand : List ℕ
old_done_by_hand = front_by_hand 0x31 ++ (2 ∷ []) ++ in_eight 2 ++ ended_by_hand
