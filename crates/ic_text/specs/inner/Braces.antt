-- For private functions: where the rules of a system end.
use Rattle.std.specs.Prelude.{ℕ, ◌==◌, List, [], ◌∷◌, if◌then◌else◌}

-- the bytes before the first `}`, and those after it
abbrev pub split_at_brace : List ℕ → List ℕ × List ℕ
split_at_brace [] = ([], [])
split_at_brace (b ∷ bs) =
    if b == 125 then ([], bs) else let rest = split_at_brace bs in (b ∷ rest.0, rest.1)
