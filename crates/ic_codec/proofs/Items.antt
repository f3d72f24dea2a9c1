-- Values one after the other: where each value's bytes tell it and where they end, so do the bytes of so many of them.
use Rattle.std.proofs.Common.{◌≡◌, ◌≢◌, ℕ, ◌+◌, ◌<◌, ◌≤◌, List, [], ◌∷◌, ◌++◌, length, refl, sym, ap, ◌∙◌, append_assoc, arith, sum_by}
use Rattle.std.specs.List.{flat_map, AllByRecursion}
use Rattle.std.proofs.lemmas.List.{length-append, append-nil}
use Rattle.std.proofs.lemmas.List.Sums.{sum_by-cons, sum_by_push}
use Rattle.ic_codec.specs.inner.Fronts.{BeginsWithOne, BeginsWithNoOne, BeginsWithMany, BeginsWithNoMany}

module _ {X : Type 0} where
  -- bytes that begin with those of two values begin with those of one
  abbrev pub Tells : (X → Type 0) → (X → List ℕ) → Type 0
  Tells V spell = (x y : X) (a b : List ℕ) → V x → V y → spell x ++ a ≡ spell y ++ b → (x ≡ y) × (a ≡ b)

  pub items_front : (V : X → Type 0) (spell : X → List ℕ) → Tells V spell → (xs ys : List X) (a b : List ℕ)
      → AllByRecursion V xs → AllByRecursion V ys → length xs ≡ length ys → flat_map spell xs ++ a ≡ flat_map spell ys ++ b → (xs ≡ ys) × (a ≡ b)
  items_front V spell tells [] [] a b vs ws count e = (refl, e)
  items_front V spell tells (x ∷ xs) (y ∷ ys) a b vs ws count e =
      let joined : spell x ++ (flat_map spell xs ++ a) ≡ spell y ++ (flat_map spell ys ++ b) =
      sym (append_assoc (spell x) (flat_map spell xs) a) ∙ e ∙ append_assoc (spell y) (flat_map spell ys) b in
      let first = tells x y (flat_map spell xs ++ a) (flat_map spell ys ++ b) vs.0 ws.0 joined in
      let rest = items_front V spell tells xs ys a b vs.1 ws.1 (omega arith) first.1 in
      ((λ i. first.0 i ∷ rest.0 i), rest.1)
  items_front V spell tells _ _ a b vs ws count e = absurd (omega arith)

  -- after fewer values stand a further one and those after it
  pub items_split : (V : X → Type 0) (spell : X → List ℕ) → Tells V spell → (xs ys : List X) (a b : List ℕ)
      → AllByRecursion V xs → AllByRecursion V ys → length xs < length ys → flat_map spell xs ++ a ≡ flat_map spell ys ++ b
      → (y : X) × ((zs : List X) × ((ys ≡ xs ++ y ∷ zs) × (a ≡ spell y ++ (flat_map spell zs ++ b))))
  items_split V spell tells [] [] a b vs ws fewer e = absurd (omega arith)
  items_split V spell tells [] (y ∷ ys) a b vs ws fewer e = (y, (ys, (refl, e ∙ append_assoc (spell y) (flat_map spell ys) b)))
  items_split V spell tells (x ∷ xs) [] a b vs ws fewer e = absurd (omega arith)
  items_split V spell tells (x ∷ xs) (y ∷ ys) a b vs ws fewer e =
      let joined : spell x ++ (flat_map spell xs ++ a) ≡ spell y ++ (flat_map spell ys ++ b) =
      sym (append_assoc (spell x) (flat_map spell xs) a) ∙ e ∙ append_assoc (spell y) (flat_map spell ys) b in
      let first = tells x y (flat_map spell xs ++ a) (flat_map spell ys ++ b) vs.0 ws.0 joined in
      let rest = items_split V spell tells xs ys a b vs.1 ws.1 (omega arith) first.1 in
      let turned = sym first.0 in
      (rest.0, (rest.1.0, ((λ i. turned i ∷ rest.1.1.0 i), rest.1.1.1)))

  pub flat_map-push : (spell : X → List ℕ) (xs : List X) (x : X) → flat_map spell (xs ++ x ∷ []) ≡ flat_map spell xs ++ spell x
  flat_map-push spell [] x = append-nil (spell x)
  flat_map-push spell (y ∷ ys) x =
      ap (λ (bs : List ℕ). spell y ++ bs) (flat_map-push spell ys x) ∙ sym (append_assoc (spell y) (flat_map spell ys) (spell x))

  pub all_push : (V : X → Type 0) (xs : List X) (x : X) → AllByRecursion V xs → V x → AllByRecursion V (xs ++ x ∷ [])
  all_push V [] x all here = (here, tt)
  all_push V (y ∷ ys) x all here = (all.0, all_push V ys x all.1 here)

  pub many_more : {V : X → Type 0} {spell : X → List ℕ} {size : X → ℕ} {count budget left left' : ℕ} {bytes rest rest' : List ℕ} {xs : List X} {x : X}
      → BeginsWithMany V spell size count budget bytes xs left rest → BeginsWithOne V spell size left rest x left' rest'
      → BeginsWithMany V spell size (count + 1) budget bytes (xs ++ x ∷ []) left' rest'
  many_more {V = V} {spell = spell} {size = size} {rest' = rest'} {xs = xs} {x = x} begins next = record {
    parts = begins.parts ∙ ap (λ (bs : List ℕ). flat_map spell xs ++ bs) next.parts
        ∙ sym (append_assoc (flat_map spell xs) (spell x) rest') ∙ ap (λ (bs : List ℕ). bs ++ rest') (sym (flat_map-push spell xs x));
    each = all_push V xs x begins.each next.valid;
    many = omega (arith, length-append xs (x ∷ []), begins.many);
    counted = omega (arith, begins.counted, next.counted, sum_by_push size xs x);
  }

  -- the same as the list of them is written
  pub many_more_as : {V : X → Type 0} {spell : X → List ℕ} {size : X → ℕ} {count budget left left' : ℕ} {bytes rest rest' : List ℕ} {xs : List X} {x : X} (ys : List X)
      → ys ≡ xs ++ x ∷ [] → BeginsWithMany V spell size count budget bytes xs left rest → BeginsWithOne V spell size left rest x left' rest'
      → BeginsWithMany V spell size (count + 1) budget bytes ys left' rest'
  many_more_as ys grown begins next = rw grown (many_more begins next)

  none_after : (V : X → Type 0) (spell : X → List ℕ) (size : X → ℕ) → Tells V spell → (xs ys : List X) (left : ℕ) (rest rest' : List ℕ)
      → AllByRecursion V xs → AllByRecursion V ys → length xs < length ys → sum_by size ys ≤ sum_by size xs + left
      → BeginsWithNoOne V spell size left rest → flat_map spell xs ++ rest ≢ flat_map spell ys ++ rest'
  none_after V spell size tells [] [] left rest rest' all also fewer within none e = omega arith
  none_after V spell size tells [] (y ∷ ys) left rest rest' all also fewer within none e =
      none y (flat_map spell ys ++ rest') also.0 (omega (arith, sum_by-cons size y ys)) (e ∙ append_assoc (spell y) (flat_map spell ys) rest')
  none_after V spell size tells (x ∷ xs) [] left rest rest' all also fewer within none e = omega arith
  none_after V spell size tells (x ∷ xs) (y ∷ ys) left rest rest' all also fewer within none e =
      let joined : spell x ++ (flat_map spell xs ++ rest) ≡ spell y ++ (flat_map spell ys ++ rest') =
      sym (append_assoc (spell x) (flat_map spell xs) rest) ∙ e ∙ append_assoc (spell y) (flat_map spell ys) rest' in
      let first = tells x y (flat_map spell xs ++ rest) (flat_map spell ys ++ rest') all.0 also.0 joined in
      none_after V spell size tells xs ys left rest rest' all.1 also.1 (omega arith)
      (omega (arith, ap size first.0, sum_by-cons size x xs, sum_by-cons size y ys)) none first.1

  pub none_many : {V : X → Type 0} {spell : X → List ℕ} {size : X → ℕ} {done budget left : ℕ} {bytes rest : List ℕ} {xs : List X} (count : ℕ)
      → Tells V spell → done < count → BeginsWithMany V spell size done budget bytes xs left rest → BeginsWithNoOne V spell size left rest
      → BeginsWithNoMany V spell size count budget bytes
  none_many {V = V} {spell = spell} {size = size} {left = left} {rest = rest} {xs = xs} count tells fewer begins none ys rest' all many within e =
      none_after V spell size tells xs ys left rest rest' begins.each all (omega (arith, begins.many)) (omega (arith, begins.counted)) none
      (sym begins.parts ∙ e)
