-- Bytes that are appended part by part.
use Rattle.std.proofs.Common.{◌≡◌, ℕ, suc, ◌+◌, ◌-◌, ◌<◌, ◌≤◌, List, [], ◌∷◌, ◌++◌, length, map, get_or, take, drop, drop-cons, add-one, refl, sym, ap, subst, ◌∙◌, append_assoc, arith}
use Rattle.std.proofs.lemmas.Grind.{flat_map-append}
use Rattle.std.proofs.lemmas.List.{length-append, take-append-drop, drop-drop}
use Rattle.std.specs.Prelude.{Vec}
use Rattle.std.specs.List.{flat_map}
use Rattle.ic_term.specs.declared.term.Term.{Term}
use Rattle.ic_term.specs.Tree.{trees_of}
use Rattle.ic_term.specs.Term.{tree}
use Rattle.ic_codec.specs.Terms.{tree_bytes, trees_bytes}
use Rattle.ic_codec.specs.inner.Room.{AreBytes, Fits, Appended, GoesOn}

pub bytes_left : (xs ys : List ℕ) → AreBytes (xs ++ ys) → AreBytes xs
bytes_left [] ys all = tt
bytes_left (x ∷ xs) ys all = (all.0, bytes_left xs ys all.1)

pub bytes_right : (xs ys : List ℕ) → AreBytes (xs ++ ys) → AreBytes ys
bytes_right [] ys all = all
bytes_right (x ∷ xs) ys all = bytes_right xs ys all.1

pub bytes_both : (xs ys : List ℕ) → AreBytes xs → AreBytes ys → AreBytes (xs ++ ys)
bytes_both [] ys left right = right
bytes_both (x ∷ xs) ys left right = (left.0, bytes_both xs ys left.1 right)

-- ---- the elements of a list from a place on

-- the element at a place, and those after it
pub from_place : {X : Type 0} (xs : List X) (i : ℕ) (x : X) → i < length xs → x ≡ get_or xs i x → drop i xs ≡ x ∷ drop (i + 1) xs
from_place xs i x below is = rw add-one (drop-cons xs i x below ∙ ap (λ y. y ∷ drop (suc i) xs) (sym is))

pub bytes_from : {X : Type 0} (spell : X → List ℕ) (xs : List X) (i : ℕ) (x : X) → i < length xs → x ≡ get_or xs i x
    → flat_map spell (drop i xs) ≡ spell x ++ flat_map spell (drop (i + 1) xs)
bytes_from spell xs i x below is = ap (flat_map spell) (from_place xs i x below is)

pub viewed_bytes_from : {X Y : Type 0} (view : Y → X) (spell : X → List ℕ) (ys : List Y) (i : ℕ) (y : Y) → i < length ys → y ≡ get_or ys i y
    → flat_map spell (map view (drop i ys)) ≡ spell (view y) ++ flat_map spell (map view (drop (i + 1) ys))
viewed_bytes_from view spell ys i y below is = ap (λ l. flat_map spell (map view l)) (from_place ys i y below is)

pub arguments_from : (ts : List Term) (i : ℕ) (t : Term) → i < length ts → t ≡ get_or ts i t
    → trees_bytes (trees_of (map tree (drop i ts))) ≡ tree_bytes (tree t) ++ trees_bytes (trees_of (map tree (drop (i + 1) ts)))
arguments_from ts i t below is = ap (λ l. trees_bytes (trees_of (map tree l))) (from_place ts i t below is)

-- those from a place on: those up to a later one, and those from there on
pub bytes_in_two : {X : Type 0} (spell : X → List ℕ) (xs : List X) (i j : ℕ) → i ≤ j
    → flat_map spell (drop i xs) ≡ flat_map spell (take (j - i) (drop i xs)) ++ flat_map spell (drop j xs)
bytes_in_two {X = X} spell xs i j before =
    let there : i + (j - i) ≡ j = omega (arith, before) in
    ap (flat_map spell) (sym (take-append-drop (j - i) (drop i xs)))
    ∙ flat_map-append spell (take (j - i) (drop i xs)) (drop (j - i) (drop i xs))
    ∙ ap (λ (l : List X). flat_map spell (take (j - i) (drop i xs)) ++ flat_map spell l) (drop-drop (j - i) i xs ∙ ap (λ n. drop n xs) there)

module _ {Z : Type 0} where
  -- the first part of what fits fits
  pub first_fits : {out : Vec ℕ Z} (xs ys xs' : List ℕ) → xs' ≡ xs → Fits out (xs ++ ys) → Fits out xs'
  first_fits {out = out} xs ys xs' same fits = subst (λ (bs : List ℕ). Fits out bs) (sym same) (record {
    room = omega (arith, fits.room, length-append xs ys);
    each = bytes_left xs ys fits.each;
  })

  -- the rest fits after it
  pub rest_fits : {old new : Vec ℕ Z} (xs ys xs' : List ℕ) → xs' ≡ xs → Fits old (xs ++ ys) → Appended old new xs' → Fits new ys
  rest_fits xs ys xs' same fits put = record {
    room = omega (arith, fits.room, put.len, put.capacity, length-append xs ys, ap length same);
    each = bytes_right xs ys fits.each;
  }

  -- the first of what is left fits, and the rest is left after it
  pub left_fits : {start now : Vec ℕ Z} {bytes left : List ℕ} (xs ys : List ℕ) → left ≡ xs ++ ys → GoesOn start bytes now left → Fits now xs
  left_fits {now = now} xs ys e goes = first_fits xs ys xs refl (subst (λ (bs : List ℕ). Fits now bs) e goes.fits)

  pub goes_on : {start now new : Vec ℕ Z} {bytes left : List ℕ} (xs ys : List ℕ) → left ≡ xs ++ ys → GoesOn start bytes now left → Appended now new xs
      → GoesOn start bytes new ys
  goes_on {now = now} xs ys e goes put = record {
    items = ap (λ (bs : List ℕ). bs ++ ys) put.items ∙ append_assoc now.items xs ys ∙ ap (λ (bs : List ℕ). now.items ++ bs) (sym e) ∙ goes.items;
    len = omega (arith, goes.len, put.len, length-append xs ys, ap length e);
    capacity = put.capacity ∙ goes.capacity;
    fits = rest_fits xs ys xs refl (subst (λ (bs : List ℕ). Fits now bs) e goes.fits) put;
  }

  -- once a first part is appended, the second is left
  pub goes_after : {start now : Vec ℕ Z} (xs ys : List ℕ) → Fits start (xs ++ ys) → Appended start now xs → GoesOn start (xs ++ ys) now ys
  goes_after {start = start} xs ys fits put = record {
    items = ap (λ (bs : List ℕ). bs ++ ys) put.items ∙ append_assoc start.items xs ys;
    len = omega (arith, put.len, length-append xs ys);
    capacity = put.capacity;
    fits = rest_fits xs ys xs refl fits put;
  }

  -- what is appended after what was appended
  pub both_appended : {start now new : Vec ℕ Z} (xs ys : List ℕ) → Appended start now xs → Appended now new ys → Appended start new (xs ++ ys)
  both_appended {start} xs ys first last = record {
    items = last.items ∙ ap (λ (bs : List ℕ). bs ++ ys) first.items ∙ append_assoc start.items xs ys;
    len = omega (arith, last.len, first.len, length-append xs ys);
    capacity = last.capacity ∙ first.capacity;
  }

  -- what is left is appended
  pub left_appended : {start now new : Vec ℕ Z} {bytes left : List ℕ} → GoesOn start bytes now left → Appended now new left → Appended start new bytes
  left_appended goes put = record {
    items = put.items ∙ goes.items;
    len = put.len ∙ goes.len;
    capacity = put.capacity ∙ goes.capacity;
  }
