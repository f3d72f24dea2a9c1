-- Lists of symbols are exactly those that numbering makes.
use Rattle.std.proofs.Common.{◌≡◌, ℕ, ◌<◌, ◌≤◌, Bool, true, false, not, List, [], ◌∷◌, ◌++◌, Option, None, Some, Ok, Err, length, cond, IsTrue, nat_lt, refl, sym, subst, arith, length-append}
use Rattle.std.proofs.lemmas.Grind.{common_steps}
use Rattle.std.proofs.lemmas.List.{map-append}
use Rattle.std.specs.List.{position, prefix_len, AllByRecursion, IsDistinct}
use Rattle.std.specs.Str.{bytes_eq}
use Rattle.std.specs.Cmp.Lexicographic.{bytes_decides}
use Rattle.ic_term.specs.Symbol.{Symbol, AreSymbols, texts, number_of_text, number_found, numbered, with_symbol, fits_limits, is_symbol_text}
use Rattle.ic_term.specs.declared.limits.TheConstants.{MAX_WIDE_SYMBOLS, MAX_SYMBOL_TEXT, MAX_ARITY}
use Rattle.ic_term.specs.declared.symbols.SymbolFault.TheVariants.{Limit}
use Rattle.ic_term.proofs.SymbolLemmas.{AreSymbols-push, with_symbol-found, with_symbol-new}

-- a text that gets a number
pub AreSymbols-numbered : (ss : List Symbol) (text : List ℕ) (arity n : ℕ) → AreSymbols ss → IsTrue (is_symbol_text text) → numbered ss text arity ≡ Ok n → AreSymbols (with_symbol ss text arity)
AreSymbols-numbered ss text arity n are is_text ok = by (fits_limits text arity) (number_of_text ss text) refl refl ok
  where
    has_room : (b : Bool) → nat_lt (length ss) MAX_WIDE_SYMBOLS ≡ b → cond b (Ok (length ss)) (Err Limit) ≡ Ok n → length ss < MAX_WIDE_SYMBOLS
    has_room true e h = grind (arith, common_steps, e)
    has_room false e h = cc

    by : (fits : Bool) (found : Option ℕ) → fits_limits text arity ≡ fits → number_of_text ss text ≡ found → cond fits (number_found ss arity found) (Err Limit) ≡ Ok n → AreSymbols (with_symbol ss text arity)
    by false found fits is h = cc
    by true (Some m) fits is h = subst AreSymbols (sym (with_symbol-found ss text arity m is)) are
    by true None fits is h =
        let room = has_room (nat_lt (length ss) MAX_WIDE_SYMBOLS) refl h in
        let short : length text ≤ MAX_SYMBOL_TEXT = grind (arith, common_steps, fits) in
        let few : arity ≤ MAX_ARITY = grind (arith, common_steps, fits) in
        subst AreSymbols (sym (with_symbol-new ss text arity is)) (AreSymbols-push ss text arity are room is_text short few is)

split_all : {X : Type 0} (P : X → Type 0) (xs : List X) (y : X) → AllByRecursion P (xs ++ y ∷ []) → AllByRecursion P xs × P y
split_all P [] y all = (tt, all.0)
split_all P (x ∷ xs) y all = let rest = split_all P xs y all.1 in ((all.0, rest.0), rest.1)

-- distinct texts, the last of them apart from each before it
split_distinct : {K : Type 0} (e : K → K → Bool) (xs : List K) (y : K) → IsDistinct e (xs ++ y ∷ []) → IsDistinct e xs × AllByRecursion (λ x. e x y ≡ false) xs
unfolding IsDistinct
split_distinct e [] y d = (tt, tt)
split_distinct e (x ∷ xs) y d =
    let here = split_all (λ z. e x z ≡ false) xs y d.0 in
    let rest = split_distinct e xs y d.1 in
    ((here.0, rest.0), (here.1, rest.1))

turned : (a b : List ℕ) → bytes_eq a b ≡ false → bytes_eq b a ≡ false
turned a b apart = by (bytes_eq b a) refl
  where
    by : (t : Bool) → bytes_eq b a ≡ t → t ≡ false
    by true e = let same = sym ((bytes_decides b a).0 e) in let yes = (bytes_decides a b).1 same in cc
    by false e = refl

-- a text apart from each of a list has no place there
prefix_len-none : (text : List ℕ) (ts : List (List ℕ)) → AllByRecursion (λ t. bytes_eq t text ≡ false) ts → prefix_len (λ t. not (bytes_eq text t)) ts ≡ length ts
prefix_len-none text [] all = refl
prefix_len-none text (t ∷ ts) all = rw (turned t text all.0, prefix_len-none text ts all.1) (omega arith)

no_place : (text : List ℕ) (ts : List (List ℕ)) → AllByRecursion (λ t. bytes_eq t text ≡ false) ts → position (bytes_eq text) ts ≡ None
no_place text ts all = rw (prefix_len-none text ts all) (grind (arith, common_steps))

distinct_parts : (ss : List Symbol) (s : Symbol) → AreSymbols (ss ++ s ∷ []) → IsDistinct bytes_eq (texts ss) × AllByRecursion (λ t. bytes_eq t s.text ≡ false) (texts ss)
distinct_parts ss s are = split_distinct bytes_eq (texts ss) s.text (subst (IsDistinct bytes_eq) (map-append (λ (t : Symbol). t.text) ss (s ∷ [])) are.distinct)

pub AreSymbols-earlier : (ss : List Symbol) (s : Symbol) → AreSymbols (ss ++ s ∷ []) → AreSymbols ss
AreSymbols-earlier ss s are = record {
  few = omega (arith, length-append ss (s ∷ []), are.few);
  each = (split_all (λ t. IsTrue (is_symbol_text t.text) × IsTrue (fits_limits t.text t.arity)) ss s are.each).0;
  distinct = (distinct_parts ss s are).0;
}

is_new : (ss : List Symbol) (s : Symbol) → AreSymbols (ss ++ s ∷ []) → number_of_text ss s.text ≡ None
is_new ss s are = no_place s.text (texts ss) (distinct_parts ss s are).1

pub numbered-last : (ss : List Symbol) (s : Symbol) → AreSymbols (ss ++ s ∷ []) → numbered ss s.text s.arity ≡ Ok (length ss)
numbered-last ss s are =
    let fits : fits_limits s.text s.arity ≡ true = (split_all (λ t. IsTrue (is_symbol_text t.text) × IsTrue (fits_limits t.text t.arity)) ss s are.each).1.1 in
    let less : length ss < MAX_WIDE_SYMBOLS = omega (arith, length-append ss (s ∷ []), are.few) in
    let room : nat_lt (length ss) MAX_WIDE_SYMBOLS ≡ true = grind (arith, common_steps, less) in
    rw (fits, is_new ss s are, room) refl

pub with_symbol-last : (ss : List Symbol) (s : Symbol) → AreSymbols (ss ++ s ∷ []) → with_symbol ss s.text s.arity ≡ ss ++ s ∷ []
with_symbol-last ss s are = with_symbol-new ss s.text s.arity (is_new ss s are)

-- the last text of a list of symbols is a symbol's
pub is_symbol_text-last : (ss : List Symbol) (s : Symbol) → AreSymbols (ss ++ s ∷ []) → IsTrue (is_symbol_text s.text)
is_symbol_text-last ss s are =
    (split_all (λ (x : Symbol). IsTrue (is_symbol_text x.text) × IsTrue (fits_limits x.text x.arity)) ss s are.each).1.0
