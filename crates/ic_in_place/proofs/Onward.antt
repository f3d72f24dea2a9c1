-- Lemmas: runs one after another.
use Rattle.std.proofs.Common.{◌≡◌, List, [], ◌∷◌, ◌++◌}
use Rattle.std.specs.List.{AllByRecursion}
use Rattle.ic_machine.specs.Net.{Net}
use Rattle.ic_machine.specs.Plan.{Plans}
use Rattle.ic_machine.specs.Runs.{Ran}
use Rattle.ic_machine.specs.lemmas.RunsOn.{ran_none, ran_none-fired, ran_on, ran_on-fired}

pub all_of_both : {X : Type 0} (P : X → Type 0) (xs ys : List X) → AllByRecursion P xs → AllByRecursion P ys → AllByRecursion P (xs ++ ys)
all_of_both P [] ys a b = b
all_of_both P (x ∷ xs) ys a b = (a.0, all_of_both P xs ys a.1 b)

pub ran_through : (p : Plans) (a b c : Net) → Ran p a b → Ran p b c → Ran p a c
ran_through p a b c one two = ran_on p a b c one two

pub ran_through-fired : (p : Plans) (a b c : Net) (one : Ran p a b) (two : Ran p b c)
    → (ran_through p a b c one two).fired ≡ one.fired ++ two.fired
unfolding ran_through
ran_through-fired p a b c one two = ran_on-fired p a b c one two

pub ran_nothing : (p : Plans) (a : Net) → Ran p a a
ran_nothing p a = ran_none p a

pub ran_nothing-fired : (p : Plans) (a : Net) → (ran_nothing p a).fired ≡ []
unfolding ran_nothing
ran_nothing-fired p a = ran_none-fired p a
