-- The size of a fired configuration, added up over the program's list of equations.
use Rattle.std.proofs.Common.{◌≡◌, ℕ, ◌+◌, ◌≤◌, List, [], ◌∷◌, map, length, drop, get_or, ◌<◌, subst, ap}
use Rattle.std.proofs.lemmas.List.{drop_all}
use Rattle.ic_term.specs.Tree.{Pair}
use Rattle.ic_term.specs.declared.term.Equation.{Equation}
use Rattle.ic_term.specs.Term.{pair}
use Rattle.ic_term.specs.Configuration.{Configuration}
use Rattle.ic_rules.specs.RuleSet.{Rules}
use Rattle.ic_round.specs.lemmas.SizeSoFar.{SizeSoFar}
use Rattle.ic_reference.proofs.ListLemmas.{drop_at}

-- the equations left from a place of the program's list
pub size-at : (rs : Rules) (c : Configuration) (count names : ℕ) (es : List Equation) (i : ℕ) (e : Equation) → i < length es → e ≡ get_or es i e
    → SizeSoFar rs c count names (map pair (drop i es)) → SizeSoFar rs c count names (pair e ∷ map pair (drop (i + 1) es))
size-at rs c count names es i e within here s =
    let P : List Pair → Type 0 = λ left. SizeSoFar rs c count names left in
    subst P (ap (map pair) (drop_at es i e within here)) s

pub size-end : (rs : Rules) (c : Configuration) (count names : ℕ) (es : List Equation) (i : ℕ) → length es ≤ i → SizeSoFar rs c count names (map pair (drop i es))
    → SizeSoFar rs c count names []
size-end rs c count names es i at_end s =
    let P : List Pair → Type 0 = λ left. SizeSoFar rs c count names left in
    subst P (ap (map pair) (drop_all i es at_end)) s
