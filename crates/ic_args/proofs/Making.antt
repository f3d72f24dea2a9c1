-- What is made of a list, item by item.
use Rattle.std.proofs.Common.{◌≡◌, ◌+◌, ◌<◌, ◌∙◌, ℕ, List, [], ◌∷◌, ap, fold, length, map, take}
use Rattle.std.specs.List.{slice_index_or}
use Rattle.std.proofs.lemmas.List.{map-append, take_more}
use Rattle.std.proofs.lemmas.List.Sums.{fold-append}

pub one_more : {X A : Type 0} (f : X → A → X) (x : X) (items : List A) (i : ℕ) (d : A) → i < length items
    → fold f x (take (i + 1) items) ≡ f (fold f x (take i items)) (slice_index_or items i d)
one_more f x items i d below = ap (fold f x) (take_more items i d below) ∙ fold-append f x (take i items) (slice_index_or items i d ∷ [])

pub one_made : {X A B : Type 0} (f : X → B → X) (x : X) (g : A → B) (items : List A) (i : ℕ) (d : A) → i < length items
    → fold f x (map g (take (i + 1) items)) ≡ f (fold f x (map g (take i items))) (g (slice_index_or items i d))
one_made {A = A} f x g items i d below =
    ap (λ (xs : List A). fold f x (map g xs)) (take_more items i d below)
    ∙ ap (fold f x) (map-append g (take i items) (slice_index_or items i d ∷ []))
    ∙ fold-append f x (map g (take i items)) (g (slice_index_or items i d) ∷ [])
