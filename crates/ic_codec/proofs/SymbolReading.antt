-- Which symbols bytes begin with, and when they begin with none.
use Rattle.std.proofs.Common.{◌≡◌, ◌≢◌, ℕ, ◌<◌, List, [], ◌∷◌, ◌++◌, length, refl, sym, ap, subst, ◌∙◌, append_assoc, arith}
use Rattle.std.specs.List.{flat_map}
use Rattle.ic_term.specs.Symbol.{Symbol, AreSymbols}
use Rattle.ic_codec.specs.Texts.{text_bytes}
use Rattle.ic_codec.specs.Symbols.{symbol_bytes, symbols_bytes}
use Rattle.ic_codec.specs.inner.Forms.{HaveSymbolBytes}
use Rattle.ic_codec.specs.inner.Fronts.{BeginsWithNone}
use Rattle.ic_codec.proofs.Items.{items_split}
use Rattle.ic_codec.proofs.Unique.{AnySymbol, any_symbols, symbol_tells, text_front}

-- so many symbols
pub record AreSoManySymbols (count : ℕ) (ss : List Symbol) : Type 0 where
  pub symbols : AreSymbols ss
  pub many : length ss ≡ count

-- the first of symbols are symbols, where those without the last are
first_are : ((ss : List Symbol) (s : Symbol) → AreSymbols (ss ++ s ∷ []) → AreSymbols ss) → (ss zs : List Symbol) → AreSymbols (ss ++ zs) → AreSymbols ss
first_are earlier ss [] are = subst (λ (l : List Symbol). AreSymbols l) (nothing ss) are
  where
    nothing : (l : List Symbol) → l ++ [] ≡ l
    nothing [] = refl
    nothing (x ∷ xs) = ap (λ (ys : List Symbol). x ∷ ys) (nothing xs)
first_are earlier ss (z ∷ zs) are =
    earlier ss z (first_are earlier (ss ++ z ∷ []) zs (subst (λ (l : List Symbol). AreSymbols l) (sym (append_assoc ss (z ∷ []) zs)) are))

-- where no further symbol can be read, there are not so many
pub none_further : ((ss : List Symbol) (s : Symbol) → AreSymbols (ss ++ s ∷ []) → AreSymbols ss) → (ss : List Symbol) (count : ℕ) (bytes rest : List ℕ)
    → bytes ≡ flat_map symbol_bytes ss ++ rest → length ss < count
    → ((s : Symbol) (after : List ℕ) → AreSymbols (ss ++ s ∷ []) → rest ≢ symbol_bytes s ++ after)
    → BeginsWithNone (AreSoManySymbols count) (flat_map symbol_bytes) bytes
none_further earlier ss count bytes rest read fewer none ts after has e =
    let split = items_split AnySymbol symbol_bytes symbol_tells ss ts rest after (any_symbols ss) (any_symbols ts) (omega (arith, has.many)) (sym read ∙ e) in
    let parts = split.1.1.0 ∙ sym (append_assoc ss (split.0 ∷ []) split.1.0) in
    none split.0 (flat_map symbol_bytes split.1.0 ++ after)
    (first_are earlier (ss ++ split.0 ∷ []) split.1.0 (subst (λ (l : List Symbol). AreSymbols l) parts has.symbols)) split.1.1.1

pub symbols_none : (count : ℕ) (bytes rest : List ℕ) → bytes ≡ count ∷ rest → BeginsWithNone (AreSoManySymbols count) (flat_map symbol_bytes) rest
    → BeginsWithNone HaveSymbolBytes symbols_bytes bytes
symbols_none count bytes rest read none ss after have e =
    let same : count ∷ rest ≡ length ss ∷ (flat_map symbol_bytes ss ++ after) = sym read ∙ e in
    let counts : length ss ≡ count = cc in
    let tails : rest ≡ flat_map symbol_bytes ss ++ after = cc in
    none ss after (record { symbols = have.symbols; many = counts }) tails

-- symbols that are too many have no bytes
pub too_many_symbols : (count : ℕ) (bytes rest : List ℕ) → bytes ≡ count ∷ rest → 64 < count → BeginsWithNone HaveSymbolBytes symbols_bytes bytes
too_many_symbols count bytes rest read many ss after have e =
    let same : count ∷ rest ≡ length ss ∷ (flat_map symbol_bytes ss ++ after) = sym read ∙ e in
    let counts : length ss ≡ count = cc in
    omega (arith, many, have.few, counts)

-- ---- one symbol

symbol_text_first : (s : Symbol) (bytes after : List ℕ) → bytes ≡ symbol_bytes s ++ after → bytes ≡ text_bytes s.text ++ (s.arity ∷ after)
symbol_text_first s bytes after e = e ∙ append_assoc (text_bytes s.text) (s.arity ∷ []) after

pub none_next_symbol : (ss : List Symbol) (bytes text rest : List ℕ) (arity : ℕ) (left : List ℕ) → bytes ≡ text_bytes text ++ rest → rest ≡ arity ∷ left
    → (AreSymbols (ss ++ record { text = text; arity = arity } ∷ []) → ⊥)
    → (s : Symbol) (after : List ℕ) → AreSymbols (ss ++ s ∷ []) → bytes ≢ symbol_bytes s ++ after
none_next_symbol ss bytes text rest arity left read further not s after are e =
    let first = text_front text s.text rest (s.arity ∷ after) (sym read ∙ symbol_text_first s bytes after e) in
    let same : arity ∷ left ≡ s.arity ∷ after = sym further ∙ first.1 in
    let arities : s.arity ≡ arity = cc (same) in
    let texts = sym first.0 in
    not (subst (λ (t : Symbol). AreSymbols (ss ++ t ∷ [])) (λ i. record { text = texts i; arity = arities i }) are)
