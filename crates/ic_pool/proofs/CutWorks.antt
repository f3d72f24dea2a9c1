-- Works cut into batches from their end, and the batches turned round.
use Rattle.std.proofs.Common.{◌≡◌, ◌≤◌, ◌<◌, ℕ, zero, suc, ◌+◌, ◌*◌, ◌/◌, List, [], ◌∷◌, ◌++◌, map, reverse, sym, ap, subst, ◌∙◌, arith, suc-mul, div-one, div-le_self, div-mul-le_self, le-div_iff_mul-le, append_assoc, one-mul}
use Rattle.std.proofs.lemmas.List.{reverse-append, append-nil, map-append}
use Rattle.std.proofs.lemmas.Grind.{flat_map-append}
use Rattle.std.specs.List.{AllByRecursion, flat_map}

-- ---- sizes

product : (a b : ℕ) → suc a + suc b ≤ suc a * suc b + 1
product zero b = let e = one-mul (suc b) in omega (arith, e)
product (suc a) b = let e = suc-mul (suc a) (suc b) in let before = product a b in omega (arith, e, before)

fits_in : (q left len : ℕ) → 0 < q → 0 < left → q * left ≤ len → q + left ≤ len + 1
fits_in zero left len some_q some_left within = absurd (omega arith)
fits_in (suc a) zero len some_q some_left within = absurd (omega arith)
fits_in (suc a) (suc b) len some_q some_left within = let e = product a b in omega (arith, e, within)

-- an equal part of what is left
pub record IsPart (len left : ℕ) : Type 0 where
  pub some : 0 < len / left
  pub within : len / left ≤ len
  pub enough : len / left + left ≤ len + 1
  pub last : left ≡ 1 → len / left ≡ len

pub part_of : (len left : ℕ) → 0 < left → left ≤ len → IsPart len left
part_of len left some few =
    let one_each : 1 * left ≤ len = let e = one-mul left in omega (arith, e, few) in
    let filled : 0 < len / left = let h = (le-div_iff_mul-le {k = left} {x = 1} {y = len} some).1 one_each in omega (arith, h) in
    record {
      some = filled;
      within = div-le_self len left;
      enough = fits_in (len / left) left len filled some (div-mul-le_self len left);
      last = λ e. ap (λ (k : ℕ). len / k) e ∙ div-one len;
    }

-- ---- lists

pub joined-snoc : {X Y : Type 0} (f : X → List Y) (rest tail : List Y) (bs : List X) (b : X) → f b ≡ tail
    → rest ++ flat_map f (reverse (bs ++ b ∷ [])) ≡ (rest ++ tail) ++ flat_map f (reverse bs)
joined-snoc f rest tail bs b e =
    ap (λ l. rest ++ flat_map f l) (reverse-append bs (b ∷ [])) ∙ ap (λ t. rest ++ (t ++ flat_map f (reverse bs))) e
    ∙ sym (append_assoc rest tail (flat_map f (reverse bs)))

pub All-append : {X : Type 0} (P : X → Type 0) (xs ys : List X) → AllByRecursion P xs → AllByRecursion P ys → AllByRecursion P (xs ++ ys)
All-append P [] ys first second = second
All-append P (x ∷ xs) ys first second = (first.0, All-append P xs ys first.1 second)

pub All-split : {X : Type 0} (P : X → Type 0) (xs ys : List X) → AllByRecursion P (xs ++ ys) → AllByRecursion P xs × AllByRecursion P ys
All-split P [] ys all = (tt, all)
All-split P (x ∷ xs) ys all = let rest = All-split P xs ys all.1 in ((all.0, rest.0), rest.1)

reverse-cons : {X : Type 0} (x : X) (xs : List X) → reverse (x ∷ xs) ≡ reverse xs ++ x ∷ []
reverse-cons x xs = reverse-append (x ∷ []) xs

pub All-reverse : {X : Type 0} (P : X → Type 0) (xs : List X) → AllByRecursion P xs → AllByRecursion P (reverse xs)
All-reverse P [] all = tt
All-reverse P (x ∷ xs) all =
    subst (AllByRecursion P) (sym (reverse-cons x xs)) (All-append P (reverse xs) (x ∷ []) (All-reverse P xs all.1) (all.0, tt))

-- the works of the last batch after those of the batches before it
map_joined-snoc : {X Y Z : Type 0} (f : X → List Y) (g : Y → Z) (bs : List X) (b : X)
    → map g (flat_map f (bs ++ b ∷ [])) ≡ map g (flat_map f bs) ++ map g (f b)
map_joined-snoc f g bs b =
    ap (map g) (flat_map-append f bs (b ∷ []) ∙ ap (λ l. flat_map f bs ++ l) (append-nil (f b))) ∙ map-append g (flat_map f bs) (f b)

pub All-snoc : {X Y Z : Type 0} (P : Z → Type 0) (f : X → List Y) (g : Y → Z) (whole bs : List X) (b : X) → whole ≡ bs ++ b ∷ []
    → AllByRecursion P (map g (flat_map f whole)) → AllByRecursion P (map g (flat_map f bs)) × AllByRecursion P (map g (f b))
All-snoc P f g whole bs b e all =
    All-split P (map g (flat_map f bs)) (map g (f b)) (subst (AllByRecursion P) (ap (λ l. map g (flat_map f l)) e ∙ map_joined-snoc f g bs b) all)
