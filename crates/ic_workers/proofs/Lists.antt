-- Lemmas: lists of which one element is set, as functions of their elements see it.
use Rattle.std.proofs.Common.{◌≡◌, ℕ, zero, suc, ◌<◌, List, [], ◌∷◌, ◌++◌, length, map, get_or, take, drop, refl, sym, ap, subst, arith, ◌∙◌, append_assoc, Result, Ok, Err}
use Rattle.std.specs.Prelude.{OnOk}
use Rattle.std.proofs.Math.ListN.{set}
use Rattle.std.proofs.Math.Seq.{take-append_seam}
use Rattle.std.proofs.lemmas.List.{append-nil, length-map}
use Rattle.std.proofs.lemmas.List.Concat.{flat_map-append}
use Rattle.std.specs.List.{flat_map, AllByRecursion}
use Rattle.std.specs.List.Sorted.{IsPermutation}
use Rattle.std.proofs.lemmas.List.Sorted.{IsPermutation-refl, IsPermutation-sym, IsPermutation-trans, IsPermutation-append_comm, IsPermutation-append_left, IsPermutation-append_right, All-permutation}
use Rattle.std.proofs.lemmas.List.Elements.{All-from_recursion, recursion_from_All}

pub all_of_both : {X : Type 0} (P : X → Type 0) (xs ys : List X) → AllByRecursion P xs → AllByRecursion P ys → AllByRecursion P (xs ++ ys)
all_of_both P [] ys a b = b
all_of_both P (x ∷ xs) ys a b = (a.0, all_of_both P xs ys a.1 b)

pub all_of_left : {X : Type 0} (P : X → Type 0) (xs ys : List X) → AllByRecursion P (xs ++ ys) → AllByRecursion P xs
all_of_left P [] ys a = tt
all_of_left P (x ∷ xs) ys a = (a.0, all_of_left P xs ys a.1)

pub all_of_right : {X : Type 0} (P : X → Type 0) (xs ys : List X) → AllByRecursion P (xs ++ ys) → AllByRecursion P ys
all_of_right P [] ys a = a
all_of_right P (x ∷ xs) ys a = all_of_right P xs ys a.1

pub all_of_permutation : {X : Type 0} (P : X → Type 0) (xs ys : List X) → IsPermutation xs ys → AllByRecursion P xs → AllByRecursion P ys
all_of_permutation P xs ys moved all = recursion_from_All P ys (All-permutation P xs ys moved (All-from_recursion P xs all))

-- what holds of all holds of the one at a place
pub all_at : {X Q : Type 0} (f : X → Q) (P : Q → Type 0) (xs : List X) (i : ℕ) (o : X) → i < length xs → o ≡ get_or xs i o
    → AllByRecursion P (map f xs) → P (f o)
all_at f P [] i o lt is all = absurd (omega (arith, lt))
all_at f P (x ∷ xs) zero o lt is all = subst (λ y. P (f y)) (sym is) all.0
all_at f P (x ∷ xs) (suc i) o lt is all = all_at f P xs i o (omega (arith, lt)) is all.1

-- and of all where one that is set has it
pub all_set : {X Q : Type 0} (f : X → Q) (P : Q → Type 0) (xs : List X) (i : ℕ) (n : X) → P (f n)
    → AllByRecursion P (map f xs) → AllByRecursion P (map f (set xs i n))
all_set f P [] i n one all = tt
all_set f P (x ∷ xs) zero n one all = (one, all.1)
all_set f P (x ∷ xs) (suc i) n one all = (all.0, all_set f P xs i n one all.1)

pub all_put : {X : Type 0} (P : X → Type 0) (xs : List X) (i : ℕ) (n : X) → P n → AllByRecursion P xs → AllByRecursion P (set xs i n)
all_put P [] i n one all = tt
all_put P (x ∷ xs) zero n one all = (one, all.1)
all_put P (x ∷ xs) (suc i) n one all = (all.0, all_put P xs i n one all.1)

pub all_mapped : {X Y : Type 0} (f : X → Y) (P : Y → Type 0) (xs : List X) → AllByRecursion (λ x. P (f x)) xs → AllByRecursion P (map f xs)
all_mapped f P [] all = tt
all_mapped f P (x ∷ xs) all = (all.0, all_mapped f P xs all.1)

-- one that looks the same changes nothing
pub same_set : {X Q : Type 0} (f : X → Q) (xs : List X) (i : ℕ) (o n : X) → i < length xs → o ≡ get_or xs i o → f n ≡ f o
    → map f (set xs i n) ≡ map f xs
same_set f [] i o n lt is same = absurd (omega (arith, lt))
same_set f (x ∷ xs) zero o n lt is same = ap (λ q. q ∷ map f xs) (same ∙ ap f is)
same_set f (x ∷ xs) (suc i) o n lt is same = ap (λ qs. f x ∷ qs) (same_set f xs i o n (omega (arith, lt)) is same)

-- what stands second goes to the front
pub to_front_of : {Q : Type 0} (us vs ws : List Q) → IsPermutation (us ++ (vs ++ ws)) (vs ++ (us ++ ws))
to_front_of us vs ws =
    subst (λ l. IsPermutation (us ++ (vs ++ ws)) l) (append_assoc vs us ws)
    (subst (λ l. IsPermutation l ((vs ++ us) ++ ws)) (append_assoc us vs ws)
    (IsPermutation-append_left ws (us ++ vs) (vs ++ us) (IsPermutation-append_comm us vs)))

-- two that change places: what one element gives goes out, and what another gives comes in
pub swapped : {X Q : Type 0} (f : X → List Q) (xs : List X) (i : ℕ) (o n : X) → i < length xs → o ≡ get_or xs i o
    → IsPermutation (f n ++ flat_map f xs) (f o ++ flat_map f (set xs i n))
swapped f [] i o n lt is = absurd (omega (arith, lt))
swapped f (x ∷ xs) zero o n lt is =
    subst (λ y. IsPermutation (f n ++ (f x ++ flat_map f xs)) (f y ++ (f n ++ flat_map f xs))) (sym is)
    (subst (λ l. IsPermutation (f n ++ (f x ++ flat_map f xs)) l) (append_assoc (f x) (f n) (flat_map f xs))
    (subst (λ l. IsPermutation l ((f x ++ f n) ++ flat_map f xs)) (append_assoc (f n) (f x) (flat_map f xs))
    (IsPermutation-append_left (flat_map f xs) (f n ++ f x) (f x ++ f n) (IsPermutation-append_comm (f n) (f x)))))
swapped f (x ∷ xs) (suc i) o n lt is =
    let after = swapped f xs i o n (omega (arith, lt)) is in
    IsPermutation-trans (f n ++ (f x ++ flat_map f xs)) (f x ++ (f n ++ flat_map f xs)) (f o ++ (f x ++ flat_map f (set xs i n)))
    (to_front_of (f n) (f x) (flat_map f xs))
    (IsPermutation-trans (f x ++ (f n ++ flat_map f xs)) (f x ++ (f o ++ flat_map f (set xs i n))) (f o ++ (f x ++ flat_map f (set xs i n)))
    (IsPermutation-append_right (f x) (f n ++ flat_map f xs) (f o ++ flat_map f (set xs i n)) after)
    (to_front_of (f x) (f o) (flat_map f (set xs i n))))

pub same_length : {X Q : Type 0} (f : X → Q) (xs ys : List X) → map f xs ≡ map f ys → length xs ≡ length ys
same_length f xs ys same = sym (length-map xs f) ∙ (ap length same ∙ length-map ys f)

-- one more at the end of the first of two
pub put_at_end : {Q : Type 0} (ps old new : List Q) (q : Q) → IsPermutation old (q ∷ new) → IsPermutation ((ps ++ q ∷ []) ++ new) (ps ++ old)
put_at_end ps old new q moved =
    subst (λ l. IsPermutation l (ps ++ old)) (sym (append_assoc ps (q ∷ []) new))
    (IsPermutation-append_right ps (q ∷ new) old (IsPermutation-sym old (q ∷ new) moved))

-- what all others give
abbrev pub others : {X Q : Type 0} → (X → List Q) → List X → ℕ → List Q
others f [] i = []
others f (x ∷ xs) zero = flat_map f xs
others f (x ∷ xs) (suc i) = f x ++ others f xs i

-- one is all that it gives, with what all others give
pub one_out : {X Q : Type 0} (f : X → List Q) (xs : List X) (i : ℕ) (o : X) → i < length xs → o ≡ get_or xs i o
    → IsPermutation (flat_map f xs) (f o ++ others f xs i)
one_out f [] i o lt is = absurd (omega (arith, lt))
one_out f (x ∷ xs) zero o lt is = subst (λ y. IsPermutation (f x ++ flat_map f xs) (f y ++ flat_map f xs)) (sym is) (IsPermutation-refl (f x ++ flat_map f xs))
one_out f (x ∷ xs) (suc i) o lt is =
    IsPermutation-trans (f x ++ flat_map f xs) (f x ++ (f o ++ others f xs i)) (f o ++ (f x ++ others f xs i))
    (IsPermutation-append_right (f x) (flat_map f xs) (f o ++ others f xs i) (one_out f xs i o (omega (arith, lt)) is))
    (to_front_of (f x) (f o) (others f xs i))

-- the same where another one is set in its place
pub one_in : {X Q : Type 0} (f : X → List Q) (xs : List X) (i : ℕ) (n : X) → i < length xs
    → IsPermutation (flat_map f (set xs i n)) (f n ++ others f xs i)
one_in f [] i n lt = absurd (omega (arith, lt))
one_in f (x ∷ xs) zero n lt = IsPermutation-refl (f n ++ flat_map f xs)
one_in f (x ∷ xs) (suc i) n lt =
    IsPermutation-trans (f x ++ flat_map f (set xs i n)) (f x ++ (f n ++ others f xs i)) (f n ++ (f x ++ others f xs i))
    (IsPermutation-append_right (f x) (flat_map f (set xs i n)) (f n ++ others f xs i) (one_in f xs i n (omega (arith, lt))))
    (to_front_of (f x) (f n) (others f xs i))

-- One that changes and others that change with it: all are the same as all were with these.
pub exchanged : {X Q : Type 0} (f : X → List Q) (xs : List X) (i : ℕ) (o n : X) (us vs all : List Q) → i < length xs → o ≡ get_or xs i o
    → IsPermutation (f n ++ vs) (f o ++ us) → IsPermutation (flat_map f xs ++ us) all → IsPermutation (flat_map f (set xs i n) ++ vs) all
exchanged f xs i o n us vs all lt is both before =
    let R = others f xs i in
    let first : IsPermutation (flat_map f (set xs i n) ++ vs) ((f n ++ R) ++ vs) =
    IsPermutation-append_left vs (flat_map f (set xs i n)) (f n ++ R) (one_in f xs i n lt) in
    let second : IsPermutation ((f n ++ R) ++ vs) (R ++ (f n ++ vs)) = around (f n) R vs in
    let third : IsPermutation (R ++ (f n ++ vs)) (R ++ (f o ++ us)) = IsPermutation-append_right R (f n ++ vs) (f o ++ us) both in
    let fourth : IsPermutation (R ++ (f o ++ us)) ((f o ++ R) ++ us) =
    IsPermutation-sym ((f o ++ R) ++ us) (R ++ (f o ++ us)) (around (f o) R us) in
    let fifth : IsPermutation ((f o ++ R) ++ us) (flat_map f xs ++ us) =
    IsPermutation-append_left us (f o ++ R) (flat_map f xs) (IsPermutation-sym (flat_map f xs) (f o ++ R) (one_out f xs i o lt is)) in
    IsPermutation-trans (flat_map f (set xs i n) ++ vs) ((f n ++ R) ++ vs) all first
    (IsPermutation-trans ((f n ++ R) ++ vs) (R ++ (f n ++ vs)) all second
    (IsPermutation-trans (R ++ (f n ++ vs)) (R ++ (f o ++ us)) all third
    (IsPermutation-trans (R ++ (f o ++ us)) ((f o ++ R) ++ us) all fourth
    (IsPermutation-trans ((f o ++ R) ++ us) (flat_map f xs ++ us) all fifth before))))
  where
    around : {Q : Type 0} (as_first rest last : List Q) → IsPermutation ((as_first ++ rest) ++ last) (rest ++ (as_first ++ last))
    around a r l = subst (λ z. IsPermutation z (r ++ (a ++ l))) (sym (append_assoc a r l)) (to_front_of a r l)

-- what all give, where one more stands at the end
pub flat_last : {X Q : Type 0} (f : X → List Q) (xs : List X) (x : X) → flat_map f (xs ++ x ∷ []) ≡ flat_map f xs ++ f x
flat_last f xs x = flat_map-append f xs (x ∷ []) ∙ ap (λ l. flat_map f xs ++ l) (append-nil (f x))

-- what lists give one after another
pub flat_of_map : {X Q : Type 0} (f : X → List Q) (xs : List X) → flat_map (λ ps. ps) (map f xs) ≡ flat_map f xs
flat_of_map f [] = refl
flat_of_map f (x ∷ xs) = ap (λ l. f x ++ l) (flat_of_map f xs)

pub same_flat : {X Q : Type 0} (f : X → List Q) (xs ys : List X) → map f xs ≡ map f ys → flat_map f xs ≡ flat_map f ys
same_flat f xs ys same = sym (flat_of_map f xs) ∙ (ap (flat_map (λ ps. ps)) same ∙ flat_of_map f ys)

-- what was set is there
pub set_there : {X : Type 0} (xs : List X) (i : ℕ) (n d : X) → i < length xs → get_or (set xs i n) i d ≡ n
set_there [] i n d lt = absurd (omega (arith, lt))
set_there (x ∷ xs) zero n d lt = refl
set_there (x ∷ xs) (suc i) n d lt = set_there xs i n d (omega (arith, lt))

-- what follows from what holds where a call went well
pub ok_then : {X E P Q : Type 0} (r : Result X E) → (P → Q) → OnOk r P → OnOk r Q
ok_then (Ok x) f p = f p
ok_then (Err e) f p = tt

pub ok_three : {X E A B C D : Type 0} (r : Result X E) → (A → B → C → D) → OnOk r A → OnOk r B → OnOk r C → OnOk r D
ok_three (Ok x) f a b c = f a b c
ok_three (Err e) f a b c = tt

-- what holds of all holds of each
pub one_of_all : {X : Type 0} (P : X → Type 0) (xs : List X) (i : ℕ) (d : X) → i < length xs → AllByRecursion P xs → P (get_or xs i d)
one_of_all P [] i d lt all = absurd (omega (arith, lt))
one_of_all P (x ∷ xs) zero d lt all = all.0
one_of_all P (x ∷ xs) (suc i) d lt all = one_of_all P xs i d (omega (arith, lt)) all.1

pub ok_any : {X E P : Type 0} (r : Result X E) → P → OnOk r P
ok_any (Ok x) p = p
ok_any (Err e) p = tt

-- what lists look like through a function where one is set, and where one is read
pub map_set : {X Y : Type 0} (f : X → Y) (xs : List X) (i : ℕ) (n : X) → map f (set xs i n) ≡ set (map f xs) i (f n)
map_set f [] i n = refl
map_set f (x ∷ xs) zero n = refl
map_set f (x ∷ xs) (suc i) n = ap (λ l. f x ∷ l) (map_set f xs i n)

pub get_map : {X Y : Type 0} (f : X → Y) (xs : List X) (i : ℕ) (o : X) (e : Y) → i < length xs → o ≡ get_or xs i o → get_or (map f xs) i e ≡ f o
get_map f [] i o e lt is = absurd (omega (arith, lt))
get_map f (x ∷ xs) zero o e lt is = ap f (sym is)
get_map f (x ∷ xs) (suc i) o e lt is = get_map f xs i o e (omega (arith, lt)) is

-- a list that is written over another one of its length
pub written : {X : Type 0} (n : ℕ) (xs ys : List X) → length ys ≡ n → take n (ys ++ drop (length ys) xs) ≡ ys
written n xs ys same =
    subst (λ (m : ℕ). take m (ys ++ drop (length ys) xs) ≡ ys) same (take-append_seam ys (drop (length ys) xs))
