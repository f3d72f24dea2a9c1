-- Pairs of agents that can fire, and those that can't.
use Rattle.std.specs.Prelude.{◌≡◌, ℕ, ◌+◌, ◌<◌, List, [], ◌∷◌, ◌++◌, Some, length, slice_get, IsPermutation}
use Rattle.std.specs.List.{AllByRecursion}
use Rattle.ic_machine.specs.declared.equation.Equation.{Equation}
use Rattle.ic_machine.specs.Plan.{Planned, Plans, number_of, plan_of, IsPlan, ArePlans}
use Rattle.ic_machine.specs.Net.{IsStuck}

-- both sides of an equation are agents, and their symbols have this plan
pub record HasPlan (p : Plans) (e : Equation) (plan : Planned) : Type 0 where
  pub left : ℕ
  pub right : ℕ
  pub left_tag : e.left.tag ≡ left + 1
  pub right_tag : e.right.tag ≡ right + 1
  pub left_known : left < length p.arities
  pub right_known : right < length p.arities
  pub is : plan_of p left right ≡ Some plan
  pub sound : ArePlans p

-- both sides of an equation are agents, and the plan of their symbols has this number
pub record HasNumber (p : Plans) (e : Equation) (i : ℕ) : Type 0 where
  pub left : ℕ
  pub right : ℕ
  pub left_tag : e.left.tag ≡ left + 1
  pub right_tag : e.right.tag ≡ right + 1
  pub left_known : left < length p.arities
  pub right_known : right < length p.arities
  pub number : number_of p left right ≡ Some i
  pub there : i < length p.plans
  pub sound : ArePlans p

-- both sides of an equation are agents of symbols with these arities, for which this is a plan
pub record CanFire (arities : List ℕ) (e : Equation) (plan : Planned) : Type 0 where
  pub left : ℕ
  pub right : ℕ
  pub left_tag : e.left.tag ≡ left + 1
  pub right_tag : e.right.tag ≡ right + 1
  pub left_args : ℕ
  pub right_args : ℕ
  pub left_arity : slice_get arities left ≡ Some left_args
  pub right_arity : slice_get arities right ≡ Some right_args
  pub is_plan : IsPlan arities (left_args + right_args) plan

-- Equations that can't fire are set aside, from the last pending one on.
pub record Passed (p : Plans) (pending aside pending' aside' : List Equation) : Type 0 where
  pub rest : List Equation
  pub more : List Equation
  pub before : pending ≡ pending' ++ rest
  pub after : aside' ≡ aside ++ more
  pub order : IsPermutation rest more
  pub stuck : AllByRecursion (IsStuck p) more

-- an equation is the first of others
pub record IsFirst (e : Equation) (es : List Equation) : Type 0 where
  pub rest : List Equation
  pub is : es ≡ e ∷ rest

-- an equation is the last of others
pub record IsLast (e : Equation) (es : List Equation) : Type 0 where
  pub front : List Equation
  pub is : es ≡ front ++ e ∷ []
