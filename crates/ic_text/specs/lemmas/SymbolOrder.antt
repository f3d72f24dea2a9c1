-- Symbols stand in a table in the order in which their texts first occur.
use Rattle.std.proofs.Common.{◌≡◌, ℕ, ◌+◌, Bool, true, false, ◌||◌, cond, List, [], ◌∷◌, ◌++◌, Option, None, Some, is_some, length, refl, sym, ap, ◌∙◌, append_assoc, append-nil}
use Rattle.std.specs.List.{list_any, position, slice_get}
use Rattle.std.specs.Option.{option_map}
use Rattle.std.specs.Str.{bytes_eq}
use Rattle.std.proofs.lemmas.Slice.Eq.{bytes_eq-Decides}
use Rattle.std.proofs.Math.Bool.{or-false, or_assoc}
use Rattle.ic_term.specs.Symbol.{Symbol, texts, number_of_text, with_symbol}
use Rattle.ic_text.specs.Sense.{symbols_after}
use Rattle.ic_text.specs.lemmas.TableLemmas.{position-cons, slice_get-next}

-- whether one of the symbols has this text
abbrev pub has_text : List ℕ → List Symbol → Bool
has_text text ss = list_any (bytes_eq text) (texts ss)

pub any_text : (text : List ℕ) (ss : List Symbol) → has_text text ss ≡ list_any (λ (s : Symbol). bytes_eq text s.text) ss
any_text text [] = refl
any_text text (s ∷ ss) = ap (λ b. bytes_eq text s.text || b) (any_text text ss)

some-map : (o : Option ℕ) → is_some (option_map (λ k. 1 + k) o) ≡ is_some o
some-map None = refl
some-map (Some k) = refl

-- a text has a number exactly where a symbol has it
pub found : (ss : List Symbol) (text : List ℕ) → is_some (number_of_text ss text) ≡ has_text text ss
found [] text = refl
found (s ∷ ss) text = ap is_some (position-cons (bytes_eq text) s.text (texts ss)) ∙ by_test (bytes_eq text s.text) (found ss text)
  where
    by_test : (b : Bool) → is_some (number_of_text ss text) ≡ has_text text ss
        → is_some (cond b (Some 0) (option_map (λ k. 1 + k) (position (bytes_eq text) (texts ss)))) ≡ (b || has_text text ss)
    by_test true e = refl
    by_test false e = some-map (position (bytes_eq text) (texts ss)) ∙ e

any-append : (text : List ℕ) (ss ts : List Symbol) → has_text text (ss ++ ts) ≡ (has_text text ss || has_text text ts)
any-append text [] ts = refl
any-append text (s ∷ ss) ts = ap (λ b. bytes_eq text s.text || b) (any-append text ss ts) ∙ sym (or_assoc (bytes_eq text s.text) (has_text text ss) (has_text text ts))

-- a known text is known once more
known_again : (text : List ℕ) (seen : List Symbol) (s : Symbol) → has_text s.text seen ≡ true → has_text text seen ≡ (has_text text seen || bytes_eq text s.text)
known_again text seen s known = by_test (bytes_eq text s.text) refl
  where
    by_test : (b : Bool) → bytes_eq text s.text ≡ b → has_text text seen ≡ (has_text text seen || b)
    by_test true e =
        let same : text ≡ s.text = (bytes_eq-Decides text s.text).0 e in
        let there : has_text text seen ≡ true = ap (λ t. has_text t seen) same ∙ known in
        there ∙ sym (ap (λ b. b || true) there)
    by_test false e = sym (or-false (has_text text seen))

texts_with : (text : List ℕ) (seen : List Symbol) (s : Symbol) → has_text text (with_symbol seen s.text s.arity) ≡ (has_text text seen || bytes_eq text s.text)
texts_with text seen s = by_known (is_some (number_of_text seen s.text)) refl
  where
    by_known : (b : Bool) → is_some (number_of_text seen s.text) ≡ b → has_text text (cond b seen (seen ++ s ∷ [])) ≡ (has_text text seen || bytes_eq text s.text)
    by_known true e = known_again text seen s (sym (found seen s.text) ∙ e)
    by_known false e = any-append text seen (s ∷ []) ∙ ap (λ b. has_text text seen || b) (or-false (bytes_eq text s.text))

-- the texts of a table are those of its symbols
pub texts_after : (text : List ℕ) (ss seen : List Symbol) → has_text text (symbols_after seen ss) ≡ (has_text text seen || has_text text ss)
texts_after text [] seen = sym (or-false (has_text text seen))
texts_after text (s ∷ ss) seen =
    texts_after text ss (with_symbol seen s.text s.arity)
    ∙ ap (λ b. b || has_text text ss) (texts_with text seen s)
    ∙ or_assoc (has_text text seen) (bytes_eq text s.text) (has_text text ss)

pub symbols_after-append : (xs ys seen : List Symbol) → symbols_after seen (xs ++ ys) ≡ symbols_after (symbols_after seen xs) ys
symbols_after-append [] ys seen = refl
symbols_after-append (x ∷ xs) ys seen = symbols_after-append xs ys (with_symbol seen x.text x.arity)

-- a table only grows
grows_by_one : (seen : List Symbol) (s : Symbol) → (more : List Symbol) × (with_symbol seen s.text s.arity ≡ seen ++ more)
grows_by_one seen s = by_known (is_some (number_of_text seen s.text))
  where
    by_known : (b : Bool) → (more : List Symbol) × (cond b seen (seen ++ s ∷ []) ≡ seen ++ more)
    by_known true = ([], sym (append-nil seen))
    by_known false = (s ∷ [], refl)

pub grows : (ss seen : List Symbol) → (more : List Symbol) × (symbols_after seen ss ≡ seen ++ more)
grows [] seen = ([], sym (append-nil seen))
grows (s ∷ ss) seen =
    let first = grows_by_one seen s in
    let rest = grows ss (with_symbol seen s.text s.arity) in
    (first.0 ++ rest.0, rest.1 ∙ ap (λ t. t ++ rest.0) first.1 ∙ append_assoc seen first.0 rest.0)

pub known_is : (before : List Symbol) (s : Symbol) (b : Bool) → has_text s.text before ≡ b → is_some (number_of_text (symbols_after [] before) s.text) ≡ b
known_is before s b e = found (symbols_after [] before) s.text ∙ texts_after s.text before [] ∙ e

-- a symbol whose text none before has stands after the table of those before
pub added : (before after : List Symbol) (s : Symbol) → has_text s.text before ≡ false
    → (more : List Symbol) × (symbols_after [] (before ++ s ∷ after) ≡ symbols_after [] before ++ s ∷ more)
added before after s new =
    let table = symbols_after [] before in
    let one : with_symbol table s.text s.arity ≡ table ++ s ∷ [] = rw (known_is before s false new) refl in
    let rest = grows after (table ++ s ∷ []) in
    (rest.0, symbols_after-append before (s ∷ after) [] ∙ ap (λ t. symbols_after t after) one ∙ rest.1 ∙ append_assoc table (s ∷ []) rest.0)

-- a text that no symbol before has gets the next number
pub first_is_next : (before after : List Symbol) (s : Symbol) → has_text s.text before ≡ false
    → slice_get (symbols_after [] (before ++ s ∷ after)) (length (symbols_after [] before)) ≡ Some s
first_is_next before after s new =
    let table = symbols_after [] before in
    let whole = added before after s new in
    ap (λ t. slice_get t (length table)) whole.1 ∙ slice_get-next table s whole.0

-- one that a symbol before has adds nothing
pub later_is_known : (before : List Symbol) (s : Symbol) → has_text s.text before ≡ true → symbols_after [] (before ++ s ∷ []) ≡ symbols_after [] before
later_is_known before s known =
    let table = symbols_after [] before in
    let same : with_symbol table s.text s.arity ≡ table = rw (known_is before s true known) refl in
    symbols_after-append before (s ∷ []) [] ∙ same
