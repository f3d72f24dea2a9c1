use Rattle.std.proofs.Common.{◌≡◌, ◌+◌, ℕ, Bool, true, false, cond, List, ◌∷◌, ap, ◌∙◌, arith}
use Rattle.std.proofs.lemmas.List.Sums.{sum_by-cons}
use Rattle.ic_term.specs.Tree.{Pair}
use Rattle.ic_check.specs.Warnings.{faces, facing}
use Rattle.ic_check.proofs.laws.what_stands_there_is_found.Goals as goal

counted : (a b : ℕ) (p : Pair) (es : List Pair) (x : Bool) → faces a b p ≡ x → facing a b (p ∷ es) ≡ cond x 1 0 + facing a b es
counted a b p es x is = sum_by-cons (λ e. cond (faces a b e) 1 0) p es ∙ ap (λ (y : Bool). cond y 1 0 + facing a b es) is

pub returns-clause-faced : goal.returns-clause-faced
returns-clause-faced c a b p es is = let all = counted a b p es true is in omega (arith, all)

pub returns-clause-other : goal.returns-clause-other
returns-clause-other c a b p es is = let all = counted a b p es false is in omega (arith, all)

pub returns-clause-taken : goal.returns-clause-taken
returns-clause-taken c rs i p a is by = (a, is, by)
