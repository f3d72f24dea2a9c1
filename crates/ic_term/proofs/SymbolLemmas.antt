-- Lists of symbols, and one more.
use Rattle.std.proofs.Common.{◌≡◌, ℕ, suc, ◌||◌, ◌&&◌, ◌+◌, ◌<◌, ◌≤◌, ◌==◌, Bool, true, false, not, List, [], ◌∷◌, ◌++◌, Option, None, Some, Result, Ok, Err, length, map, option_map, slice_get, refl, sym, ◌∙◌, ap, cond, arith, IsTrue, nat_lt, zero, drop, IfSome, add-one, length-append}
use Rattle.std.proofs.lemmas.Grind.{common_steps}
use Rattle.std.proofs.lemmas.List.{map-append}
use Rattle.std.proofs.lemmas.Map.Keys.{IsDistinct-push}
use Rattle.std.proofs.lemmas.Cmp.{nat_list_eq_equiv}
use Rattle.std.specs.List.{position, prefix_len, list_any, AllByRecursion, IsDistinct}
use Rattle.std.specs.Cmp.Lexicographic.{pointwise}
use Rattle.std.specs.Str.{bytes_eq}
use Rattle.ic_term.specs.Symbol.{Symbol, AreSymbols, texts, number_of_text, numbered, with_symbol, has_arity, fits_limits, is_symbol_text, Answers}
use Rattle.ic_term.specs.declared.symbols.Entry.{Entry}
use Rattle.ic_term.specs.declared.limits.TheConstants.{MAX_WIDE_SYMBOLS, MAX_SYMBOL_TEXT, MAX_ARITY}
use Rattle.ic_term.specs.declared.symbols.SymbolFault.TheVariants.{Limit, Arity, Memory}
use Rattle.ic_term.specs.declared.symbols.SymbolFault.{SymbolFault}

abbrev pub symbol_of : Entry → Symbol
symbol_of e = record { text = e.text.items; arity = e.arity }

-- A text that is there with another or the same arity.
pub numbered-found : (ss : List Symbol) (text : List ℕ) (arity known n : ℕ) → length text ≤ MAX_SYMBOL_TEXT → arity ≤ MAX_ARITY
    → number_of_text ss text ≡ Some n → option_map (λ s. s.arity) (slice_get ss n) ≡ Some known
    → numbered ss text arity ≡ cond (known == arity) (Ok n) (Err (Arity n))
numbered-found ss text arity known n short few found has =
    let fits : fits_limits text arity ≡ true = grind (arith, common_steps) in
    rw (fits, found) (has-known (slice_get ss n) has)
  where
    has-known : (o : Option Symbol) → option_map (λ s. s.arity) o ≡ Some known → cond (has_arity arity o) (Ok n) (Err (Arity n)) ≡ cond (known == arity) (Ok n) (Err (Arity n))
    has-known None h = cc
    has-known (Some s) h = let e : s.arity ≡ known = cc in rw e refl

pub numbered-new : (ss : List Symbol) (text : List ℕ) (arity : ℕ) → length text ≤ MAX_SYMBOL_TEXT → arity ≤ MAX_ARITY
    → number_of_text ss text ≡ None → numbered ss text arity ≡ cond (nat_lt (length ss) MAX_WIDE_SYMBOLS) (Ok (length ss)) (Err Limit)
numbered-new ss text arity short few none =
    let fits : fits_limits text arity ≡ true = grind (arith, common_steps) in
    rw (fits, none) refl

pub with_symbol-found : (ss : List Symbol) (text : List ℕ) (arity n : ℕ) → number_of_text ss text ≡ Some n → with_symbol ss text arity ≡ ss
with_symbol-found ss text arity n found = rw found refl

pub with_symbol-new : (ss : List Symbol) (text : List ℕ) (arity : ℕ) → number_of_text ss text ≡ None → with_symbol ss text arity ≡ ss ++ record { text = text; arity = arity } ∷ []
with_symbol-new ss text arity none = rw none refl

pub answers_same : (r s : Result ℕ SymbolFault) → r ≡ s → Answers r s
answers_same (Err Memory) s e = tt
answers_same _ s e = e

AllByRecursion-push : {X : Type 0} (P : X → Type 0) (xs : List X) (y : X) → AllByRecursion P xs → P y → AllByRecursion P (xs ++ y ∷ [])
AllByRecursion-push P [] y each here = (here, tt)
AllByRecursion-push P (x ∷ xs) y each here = (each.0, AllByRecursion-push P xs y each.1 here)

none_later : (n m : ℕ) → cond (nat_lt (1 + n) (suc m)) (Some (1 + n)) None ≡ None → cond (nat_lt n m) (Some n) None ≡ None
none_later n m e = grind (arith, common_steps)

passed : (b : Bool) (n m : ℕ) (a : Bool) → cond (nat_lt (cond (not b) (1 + n) 0) (suc m)) (Some (cond (not b) (1 + n) 0)) None ≡ None
    → (cond (nat_lt n m) (Some n) None ≡ None → a ≡ false) → (b || a) ≡ false
passed true n m a e rest = grind (arith, common_steps)
passed false n m a e rest = rest (none_later n m e)

-- A text that isn't there is new.
list_any-none : {X : Type 0} (p : X → Bool) (xs : List X) → position p xs ≡ None → list_any p xs ≡ false
list_any-none p [] h = refl
list_any-none p (x ∷ xs) h = passed (p x) (prefix_len (λ y. not (p y)) xs) (length xs) (list_any p xs) h (list_any-none p xs)

pub AreSymbols-push : (ss : List Symbol) (text : List ℕ) (arity : ℕ) → AreSymbols ss → length ss < MAX_WIDE_SYMBOLS → IsTrue (is_symbol_text text)
    → length text ≤ MAX_SYMBOL_TEXT → arity ≤ MAX_ARITY → number_of_text ss text ≡ None → AreSymbols (ss ++ record { text = text; arity = arity } ∷ [])
AreSymbols-push ss text arity old room is_text short few none = record {
  few = omega (arith, length-append ss (record { text = text; arity = arity } ∷ []), old.few);
  each = AllByRecursion-push _ ss (record { text = text; arity = arity }) old.each (is_text, (let fits : IsTrue (fits_limits text arity) = grind (arith, common_steps) in fits));
  distinct = rw (map-append (λ (s : Symbol). s.text) ss (record { text = text; arity = arity } ∷ [])) (IsDistinct-push nat_list_eq_equiv (texts ss) text old.distinct (list_any-none (bytes_eq text) (texts ss) none));
}

pub AreSymbols-none : AreSymbols []
unfolding IsDistinct
AreSymbols-none = record { few = omega arith; each = tt; distinct = tt }

-- the symbols of the entries once there is one more
pub symbols-push : (es fs gs : List Entry) (e : Entry) (text : List ℕ) → gs ≡ fs ++ e ∷ [] → fs ≡ es → e.text.items ≡ text
    → map symbol_of gs ≡ map symbol_of es ++ record { text = text; arity = e.arity } ∷ []
symbols-push es fs gs e text pushed same is =
    ap (map symbol_of) (pushed ∙ ap (λ l. l ++ e ∷ []) same) ∙ map-append symbol_of es (e ∷ [])
    ∙ ap (λ t. map symbol_of es ++ record { text = t; arity = e.arity } ∷ []) is

-- two lists from a place on: the test of the elements there, and of those after them
pub pointwise-drop : {X : Type 0} (e : X → X → Bool) (xs ys : List X) (i : ℕ) (r : Bool) → i < length xs → i < length ys
    → IfSome (slice_get xs i) (λ x. IfSome (slice_get ys i) (λ y. r ≡ e x y))
    → pointwise e (drop i xs) (drop i ys) ≡ (r && pointwise e (drop (i + 1) xs) (drop (i + 1) ys))
pointwise-drop e [] ys i r xs_long ys_long is = absurd (omega arith)
pointwise-drop e (x ∷ xs) [] i r xs_long ys_long is = absurd (omega arith)
pointwise-drop e (x ∷ xs) (y ∷ ys) zero r xs_long ys_long is = ap (λ b. b && pointwise e xs ys) (sym is)
pointwise-drop e (x ∷ xs) (y ∷ ys) (suc i) r xs_long ys_long is = rw (add-one (suc i)) (rw (add-one i) at (pointwise-drop e xs ys i r (omega arith) (omega arith) is))
