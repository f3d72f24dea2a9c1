-- Each symbol has its rule.
use Rattle.std.proofs.Common.{◌≡◌, ℕ, zero, suc, ◌<◌, ◌&&◌, not, cond, Bool, true, false, List, [], ◌∷◌, Contains, filter, length, map, slice_index_or, suc-le-suc, le_of_suc-le-suc, zero-lt-suc, ap, ◌∙◌, arith}
use Rattle.std.specs.List.{list_any}
use Rattle.ic_term.specs.Symbol.{Symbol, fits_limits}
use Rattle.ic_expand.specs.declared.spot.Kind.{Kind}
use Rattle.ic_expand.specs.Names.{is_among}
use Rattle.ic_expand.specs.Generic.{generic_rule, is_of, is_wanted}
use Rattle.ic_expand.specs.Expanding.{Sheet, rules_of}

module _ (f : Symbol → List ℕ) (x y : Symbol) (rest : List Symbol) where
  here : (passes : Bool) → passes ≡ true → y ≡ x → Contains (map f (cond passes (y ∷ rest) rest)) (f x)
  here true is same = (zero, zero-lt-suc _, ap f same)
  here false is same = cc (is)

  later : (passes : Bool) → Contains (map f rest) (f x) → Contains (map f (cond passes (y ∷ rest) rest)) (f x)
  later true (k, low, at) = (suc k, suc-le-suc low, at)
  later false among = among

has_rule : (p : Symbol → Bool) (f : Symbol → List ℕ) (xs : List Symbol) (k : ℕ) (x : Symbol) → k < length xs → slice_index_or xs k x ≡ x → p x ≡ true
    → Contains (map f (filter p xs)) (f x)
has_rule p f [] k x low at is = absurd (omega (arith, low))
has_rule p f (y ∷ ys) zero x low at is = here f x y (filter p ys) (p y) (ap p at ∙ is) at
has_rule p f (y ∷ ys) (suc k) x low at is = later f x y (filter p ys) (p y) (has_rule p f ys k x (le_of_suc-le-suc low) at is)

pub has_its_rule : (sheet : Sheet) (earlier : List (List ℕ)) (kind : Kind) (s : List ℕ) (t : Symbol) → Contains sheet.symbols t → fits_limits t.text t.arity ≡ true
    → list_any (is_of s t.text) sheet.pairs ≡ false → is_among s earlier ≡ false → is_among t.text earlier ≡ false → Contains (rules_of sheet earlier kind s) (generic_rule kind s t)
has_its_rule sheet earlier kind s t (k, low, at) fits none one other =
    has_rule (is_wanted sheet.pairs earlier s) (generic_rule kind s) sheet.symbols k t low at (λ i. fits i && not (none i) && not (one i) && not (other i))
