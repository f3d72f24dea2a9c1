-- For private functions: terms that stand on a stack, the last one on top.
use Rattle.std.specs.Prelude.{List, map, reverse}
use Rattle.std.specs.Borrow.{Bor}
use Rattle.ic_term.specs.declared.term.Term.{Term}
use Rattle.ic_term.specs.Tree.{Tree}
use Rattle.ic_term.specs.Term.{tree}

-- the terms of a stack as plain data, from the top on
abbrev pub upright : List Term → List Tree
upright ts = reverse (map tree ts)

-- the same of terms that are lent
abbrev pub coming : List (Bor Term) → List Tree
coming ts = reverse (map (λ t. tree t.now) ts)
