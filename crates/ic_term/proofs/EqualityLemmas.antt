-- Lists compared through a view of their items.
use Rattle.std.proofs.Common.{◌≡◌, List, [], ◌∷◌, Bool, ◌&&◌, map, refl, ap}
use Rattle.std.specs.Cmp.Lexicographic.{pointwise}

pub pointwise-map : {X Y : Type 0} (e : Y → Y → Bool) (f : X → Y) (xs ys : List X) → pointwise (λ x y. e (f x) (f y)) xs ys ≡ pointwise e (map f xs) (map f ys)
pointwise-map e f [] [] = refl
pointwise-map e f (x ∷ xs) (y ∷ ys) = ap (λ b. e (f x) (f y) && b) (pointwise-map e f xs ys)
pointwise-map e f _ _ = refl
