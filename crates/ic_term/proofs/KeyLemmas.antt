-- Texts are found by their keys: no two symbols' texts have one.
use Rattle.std.proofs.Common.{◌≡◌, ℕ, zero, suc, ◌+◌, ◌<◌, ◌==◌, ◌&&◌, ◌||◌, Bool, true, false, not, cond, List, [], ◌∷◌, ◌++◌, Option, None, Some, option_map, length, map, take, drop, nat_lt, refl, sym, ap, ◌∙◌, arith, IsTrue}
use Rattle.std.specs.List.{position, prefix_len, list_all, AllByRecursion}
use Rattle.std.specs.Str.{bytes_eq}
use Rattle.std.specs.Char.{is_ascii_uppercase, is_ascii_digit, is_ascii_alphanumeric}
use Rattle.std.specs.Cmp.Lexicographic.{bytes_decides}
use Rattle.std.specs.declared.cmp.Ordering.{Ordering}
use Rattle.std.specs.Ordering.{nat_cmp, ordering_then, is_eq}
use Rattle.std.specs.declared.cmp.Ordering.TheVariants.{Less, Equal, Greater}
use Rattle.std.specs.Map.{lookup}
use Rattle.std.proofs.lemmas.Bool.{and_parts, eqb-true, eq-eqb}
use Rattle.std.specs.BTreeMap.{BTreeMap, is_at, Updates}
use Rattle.std.proofs.lemmas.List.{take-append-drop, map-append, length-map}
use Rattle.std.proofs.lemmas.Bool.Decides.{nat_tests, same_from_decides}
use Rattle.std.proofs.lemmas.Grind.{common_steps}
use Rattle.ic_term.specs.Symbol.{Symbol, AreSymbols, is_symbol_text, number_of_text, texts}
use Rattle.ic_term.specs.inner.Keys.{packed, key_of, key_cmp, AreNumbers}
use Rattle.ic_term.specs.declared.symbols.Entry.{Entry}
use Rattle.ic_term.proofs.SymbolLemmas.{AreSymbols-none, symbol_of}

-- ---- packed bytes

abbrev IsDigit : ℕ → Type 0
IsDigit b = (0 < b) × (b < 256)

packed_same : (xs ys : List ℕ) → AllByRecursion IsDigit xs → AllByRecursion IsDigit ys → packed xs ≡ packed ys → xs ≡ ys
packed_same [] [] p q e = refl
packed_same [] (y ∷ ys) p q e = absurd (omega (arith, q.0.0, e))
packed_same (x ∷ xs) [] p q e = absurd (omega (arith, p.0.0, e))
packed_same (x ∷ xs) (y ∷ ys) p q e =
    let low : x ≡ y = omega (arith, p.0.1, q.0.1, e) in
    let high : packed xs ≡ packed ys = omega (arith, p.0.1, q.0.1, e) in
    (λ i. low i ∷ packed_same xs ys p.1 q.1 high i)

taken : (P : ℕ → Type 0) (n : ℕ) (xs : List ℕ) → AllByRecursion P xs → AllByRecursion P (take n xs)
taken P zero xs p = tt
taken P (suc n) [] p = tt
taken P (suc n) (x ∷ xs) p = (p.0, taken P n xs p.1)

dropped : (P : ℕ → Type 0) (n : ℕ) (xs : List ℕ) → AllByRecursion P xs → AllByRecursion P (drop n xs)
dropped P zero xs p = p
dropped P (suc n) [] p = tt
dropped P (suc n) (x ∷ xs) p = dropped P n xs p.1

key_same : (s t : List ℕ) → AllByRecursion IsDigit s → AllByRecursion IsDigit t → key_of s ≡ key_of t → s ≡ t
key_same s t p q e =
    let head = packed_same (take 16 s) (take 16 t) (taken IsDigit 16 s p) (taken IsDigit 16 t q) (ap (λ (k : ℕ × ℕ). k.0) e) in
    let tail = packed_same (drop 16 s) (drop 16 t) (dropped IsDigit 16 s p) (dropped IsDigit 16 t q) (ap (λ (k : ℕ × ℕ). k.1) e) in
    sym (take-append-drop 16 s) ∙ (λ i. head i ++ tail i) ∙ take-append-drop 16 t

-- ---- texts of symbols

letter : (b : ℕ) → IsTrue (is_ascii_alphanumeric b) → IsDigit b
letter b h = (grind (arith, common_steps), grind (arith, common_steps))

first_letter : (b : ℕ) → IsTrue (is_ascii_uppercase b || is_ascii_digit b) → IsDigit b
first_letter b h = (grind (arith, common_steps), grind (arith, common_steps))

both : (a b : Bool) → IsTrue (a && b) → IsTrue a × IsTrue b
both a b h = and_parts a b h

letters : (bs : List ℕ) → IsTrue (list_all is_ascii_alphanumeric bs) → AllByRecursion IsDigit bs
letters [] h = tt
letters (b ∷ bs) h =
    let parts = both (is_ascii_alphanumeric b) (list_all is_ascii_alphanumeric bs) h in
    (letter b parts.0, letters bs parts.1)

symbol_letters : (text : List ℕ) → IsTrue (is_symbol_text text) → AllByRecursion IsDigit text
symbol_letters [] h = tt
symbol_letters (b ∷ bs) h =
    let parts = both (is_ascii_uppercase b || is_ascii_digit b) (list_all is_ascii_alphanumeric bs) h in
    (first_letter b parts.0, letters bs parts.1)

-- ---- the order of keys

same_number : (m n : ℕ) → is_eq (nat_cmp m n) ≡ (m == n)
same_number m n = grind (arith, nat_tests)

then_eq : (o p : Ordering) → is_eq (ordering_then o p) ≡ (is_eq o && is_eq p)
then_eq Less p = refl
then_eq Equal p = refl
then_eq Greater p = refl

key_test : (x y : ℕ × ℕ) → is_at (key_cmp x) y ≡ ((x.0 == y.0) && (x.1 == y.1))
key_test x y = then_eq (nat_cmp x.0 y.0) (nat_cmp x.1 y.1) ∙ (λ i. same_number x.0 y.0 i && same_number x.1 y.1 i)

key_parts : (x y : ℕ × ℕ) → ((x.0 == y.0) && (x.1 == y.1)) ≡ true → x ≡ y
key_parts x y e =
    let parts = and_parts (x.0 == y.0) (x.1 == y.1) e in
    let head = eqb-true x.0 y.0 parts.0 in
    let tail = eqb-true x.1 y.1 parts.1 in
    (λ i. (head i, tail i))

key_itself : (x y : ℕ × ℕ) → x ≡ y → ((x.0 == y.0) && (x.1 == y.1)) ≡ true
key_itself x y e = (λ i. eq-eqb x.0 y.0 (ap (λ (k : ℕ × ℕ). k.0) e) i && eq-eqb x.1 y.1 (ap (λ (k : ℕ × ℕ). k.1) e) i)

-- the test of two keys is that of their texts
at_key : (s t : List ℕ) → IsTrue (is_symbol_text s) → IsTrue (is_symbol_text t) → is_at (key_cmp (key_of s)) (key_of t) ≡ bytes_eq t s
at_key s t p q = same_from_decides (is_at (key_cmp (key_of s)) (key_of t)) (bytes_eq t s) (
  (λ e. sym (key_same s t (symbol_letters s p) (symbol_letters t q) (key_parts (key_of s) (key_of t) (sym (key_test (key_of s) (key_of t)) ∙ e)))),
  (λ e. key_test (key_of s) (key_of t) ∙ key_itself (key_of s) (key_of t) (ap key_of (sym e))),
)
    (bytes_decides t s)

-- ---- places

position-cons : {X : Type 0} (p : X → Bool) (x : X) (xs : List X) → position p (x ∷ xs) ≡ cond (p x) (Some 0) (option_map suc (position p xs))
position-cons p x xs = by (p x) (prefix_len (λ y. not (p y)) xs) (length xs)
  where
    by : (b : Bool) (n m : ℕ) → cond (nat_lt (cond (not b) (1 + n) 0) (suc m)) (Some (cond (not b) (1 + n) 0)) None
        ≡ cond b (Some 0) (option_map suc (cond (nat_lt n m) (Some n) None))
    by true n m = grind (arith, common_steps)
    by false n m = grind (arith, common_steps)

abbrev or_last : Option ℕ → Bool → ℕ → Option ℕ
or_last None b n = cond b (Some n) None
or_last (Some m) b n = Some m

position-push : {X : Type 0} (p : X → Bool) (xs : List X) (y : X) → position p (xs ++ y ∷ []) ≡ or_last (position p xs) (p y) (length xs)
position-push p [] y = position-cons p y []
position-push p (x ∷ xs) y =
    position-cons p x (xs ++ y ∷ []) ∙ ap (λ o. cond (p x) (Some 0) (option_map suc o)) (position-push p xs y)
    ∙ by (p x) (position p xs) (p y) ∙ ap (λ o. or_last o (p y) (suc (length xs))) (sym (position-cons p x xs))
  where
    by : (a : Bool) (o : Option ℕ) (b : Bool) → cond a (Some 0) (option_map suc (or_last o b (length xs))) ≡ or_last (cond a (Some 0) (option_map suc o)) b (suc (length xs))
    by true o b = refl
    by false None true = refl
    by false None false = refl
    by false (Some n) b = refl

position-within : {X : Type 0} (p : X → Bool) (xs : List X) (n : ℕ) → position p xs ≡ Some n → n < length xs
position-within p xs n e = by (prefix_len (λ y. not (p y)) xs) (length xs) e
  where
    by : (k m : ℕ) → cond (nat_lt k m) (Some k) None ≡ Some n → n < m
    by k m e = grind (arith, common_steps)

-- ---- the map

abbrev pub Numbers : Type 0
Numbers = BTreeMap (ℕ × ℕ) ℕ

pub empty : (entries : List Entry) (numbers : Numbers) → entries ≡ [] → numbers.entries ≡ [] → AreSymbols (map symbol_of entries) × AreNumbers numbers (map symbol_of entries)
empty [] numbers is none = (AreSymbols-none, (λ text is_text short. ap (λ es. lookup (is_at (key_cmp (key_of text))) es) none))
empty (e ∷ es) numbers is none = cc

-- a symbol more
pub AreNumbers-push : (old new : Numbers) (ss : List Symbol) (text : List ℕ) (arity : ℕ) → IsTrue (is_symbol_text text) → number_of_text ss text ≡ None
    → Updates key_cmp old new (key_of text) (Some (length ss)) → AreNumbers old ss → AreNumbers new (ss ++ record { text = text; arity = arity } ∷ [])
AreNumbers-push old new ss text arity is_text absent updates are = λ t t_is short.
    let now : number_of_text (ss ++ record { text = text; arity = arity } ∷ []) t ≡ or_last (number_of_text ss t) (bytes_eq t text) (length ss) =
    ap (position (bytes_eq t)) (map-append (λ (s : Symbol). s.text) ss (record { text = text; arity = arity } ∷ []))
    ∙ position-push (bytes_eq t) (texts ss) text ∙ ap (or_last (number_of_text ss t) (bytes_eq t text)) (length-map ss (λ (s : Symbol). s.text)) in
    updates.0 (key_of t)
    ∙ (λ i. cond (at_key text t is_text t_is i) (Some (length ss)) (are t t_is short i))
    ∙ by t (bytes_eq t text) refl ∙ sym now
  where
    by : (t : List ℕ) (b : Bool) → bytes_eq t text ≡ b → cond b (Some (length ss)) (number_of_text ss t) ≡ or_last (number_of_text ss t) b (length ss)
    by t true e = ap (λ o. or_last o true (length ss)) (sym (ap (number_of_text ss) ((bytes_decides t text).0 e) ∙ absent))
    by t false e = left (number_of_text ss t)
      where
        left : (o : Option ℕ) → o ≡ or_last o false (length ss)
        left None = refl
        left (Some n) = refl

-- the number of a text is below the number of entries
pub number_within : (es : List Entry) (text : List ℕ) (n : ℕ) → number_of_text (map symbol_of es) text ≡ Some n → n < length es
number_within es text n found =
    let within = position-within (bytes_eq text) (texts (map symbol_of es)) n found in
    omega (arith, within, length-map (map symbol_of es) (λ (s : Symbol). s.text), length-map es symbol_of)
