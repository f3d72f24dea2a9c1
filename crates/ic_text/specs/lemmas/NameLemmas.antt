-- A name's text and its number.
use Rattle.std.proofs.Common.{◌≡◌, ℕ, zero, suc, ◌+◌, ◌-◌, ◌*◌, ◌/◌, ◌%◌, ◌<◌, ◌≤◌, Bool, true, false, not, ◌||◌, IsTrue, List, [], ◌∷◌, ◌++◌, length, get_or, map, refl, sym, ap, ◌∙◌, arith, append_assoc, append-nil, length-append, eqb}
use Rattle.std.specs.List.{list_all}
use Rattle.std.specs.Char.{is_ascii_digit, is_ascii_lowercase, is_ascii_uppercase}
use Rattle.std.specs.Int.Digits.{digits_of, number_from_digits, AllBelowBase}
use Rattle.std.proofs.lemmas.Int.Digits.{number_digits_of, all_below_base_digits_of, first_digits_of, digits_of_step, number_push}
use Rattle.std.proofs.lemmas.Bool.Decides.{nat_tests}
use Rattle.std.proofs.lemmas.Bool.{false≢true, and_parts}
use Rattle.ic_term.specs.Symbol.{is_symbol_text}
use Rattle.ic_text.specs.Name.{name_text, is_numeral, is_name, number_in, name_number}

-- digits without a leading zero
abbrev BeginsAbove : List ℕ → Type 0
BeginsAbove ds = 0 < length ds → 0 < get_or ds 0 0

begins_above-digits_of : (n : ℕ) → BeginsAbove (digits_of 10 n)
begins_above-digits_of zero some = absurd (omega arith)
begins_above-digits_of (suc n) some = first_digits_of 10 (suc n) (omega arith) (omega arith)

digit_glyph : (d : ℕ) → d < 10 → is_ascii_digit (48 + d) ≡ true
digit_glyph d low = grind (arith, nat_tests)

all_digits-map : (ds : List ℕ) → AllBelowBase 10 ds → list_all is_ascii_digit (map (λ d. 48 + d) ds) ≡ true
all_digits-map [] low = refl
all_digits-map (d ∷ ds) low = rw (digit_glyph d low.0) (all_digits-map ds low.1)

first_not_zero : (d : ℕ) → 0 < d → eqb (48 + d) 48 ≡ false
first_not_zero d above = grind (arith, nat_tests)

is_numeral-map : (ds : List ℕ) → BeginsAbove ds → AllBelowBase 10 ds → is_numeral (map (λ d. 48 + d) ds) ≡ true
is_numeral-map [] above low = refl
is_numeral-map (d ∷ ds) above low = rw (first_not_zero d (above (omega arith))) (all_digits-map (d ∷ ds) low)

letter_is_small : (n : ℕ) → is_ascii_lowercase (97 + n % 26) ≡ true
letter_is_small n = grind (arith, nat_tests)

-- the text of a name is a name
pub is_name-name_text : (n : ℕ) → is_name (name_text n) ≡ true
is_name-name_text n =
    rw (letter_is_small n) (is_numeral-map (digits_of 10 (n / 26)) (begins_above-digits_of (n / 26)) (all_below_base_digits_of 10 (n / 26) (omega arith)))

map_back : (ds : List ℕ) → map (λ d. d - 48) (map (λ d. 48 + d) ds) ≡ ds
map_back [] = refl
map_back (d ∷ ds) = let e : 48 + d - 48 ≡ d = omega arith in rw (e, map_back ds) refl

-- and its number is the name's
pub name_number-name_text : (n : ℕ) → name_number (name_text n) ≡ n
name_number-name_text n =
    let e : number_in (map (λ d. 48 + d) (digits_of 10 (n / 26))) ≡ n / 26 = ap (number_from_digits 10) (map_back (digits_of 10 (n / 26))) ∙ number_digits_of 10 (n / 26) (omega arith) in
    omega (arith, e)

-- a symbol is no name
not_both : (b : ℕ) → is_ascii_lowercase b ≡ true → (is_ascii_uppercase b || is_ascii_digit b) ≡ false
not_both b small = grind (arith, nat_tests)

pub isnt_name-symbol : (text : List ℕ) → IsTrue (is_symbol_text text) → is_name text ≡ false
isnt_name-symbol [] is = refl
isnt_name-symbol (b ∷ bs) is = by_letter (is_ascii_lowercase b) refl
  where
    by_letter : (small : Bool) → is_ascii_lowercase b ≡ small → is_name (b ∷ bs) ≡ false
    by_letter false e = rw e refl
    by_letter true e = absurd (false≢true (sym (rw (not_both b e) refl) ∙ is))

-- the last digit of a number in digits, and the number of those before it
last_digit : (n d : ℕ) → d < 10 → ((n * 10 + d) % 10 ≡ d) × ((n * 10 + d) / 10 ≡ n)
last_digit n d low = (omega arith, omega arith)

-- digits without a leading zero that end in d
ends_in : (ds : List ℕ) (d : ℕ) → d < 10 → digits_of 10 (number_from_digits 10 ds) ≡ ds → 0 < number_from_digits 10 ds * 10 + d
    → digits_of 10 (number_from_digits 10 (ds ++ d ∷ [])) ≡ ds ++ d ∷ []
ends_in ds d low so_far some =
    let parts = last_digit (number_from_digits 10 ds) d low in
    ap (digits_of 10) (number_push 10 ds d)
    ∙ digits_of_step 10 (number_from_digits 10 ds * 10 + d) (omega arith) some
    ∙ ap (λ n. digits_of 10 n ++ (number_from_digits 10 ds * 10 + d) % 10 ∷ []) parts.1
    ∙ ap (λ r. digits_of 10 (number_from_digits 10 ds) ++ r ∷ []) parts.0
    ∙ ap (λ x. x ++ d ∷ []) so_far

-- they write a number above 0
writes_some : (ds es : List ℕ) (d : ℕ) → digits_of 10 (number_from_digits 10 ds) ≡ ds → 0 < get_or (ds ++ d ∷ es) 0 0 → 0 < number_from_digits 10 ds * 10 + d
writes_some [] es d so_far above = let e : 0 < d = above in omega arith
writes_some (e ∷ ds) es d so_far above = by_number (number_from_digits 10 (e ∷ ds)) so_far
  where
    by_number : (n : ℕ) → digits_of 10 n ≡ e ∷ ds → 0 < n * 10 + d
    by_number zero same = cc
    by_number (suc n) same = omega arith

-- digits and further ones
digits_with : (ds es : List ℕ) → digits_of 10 (number_from_digits 10 ds) ≡ ds → AllBelowBase 10 es → BeginsAbove (ds ++ es)
    → digits_of 10 (number_from_digits 10 (ds ++ es)) ≡ ds ++ es
digits_with ds [] so_far low above = rw append-nil so_far
digits_with ds (e ∷ es) so_far low above =
    let more : digits_of 10 (number_from_digits 10 (ds ++ e ∷ [])) ≡ ds ++ e ∷ [] = ends_in ds e low.0 so_far (writes_some ds es e so_far (above (omega (arith, length-append ds (e ∷ es))))) in
    let split : (ds ++ e ∷ []) ++ es ≡ ds ++ e ∷ es = append_assoc ds (e ∷ []) es in
    rw split at (digits_with (ds ++ e ∷ []) es more low.1 (rw split above))

-- the digits of a number that digits without a leading zero write are these digits
digits_of-number : (ds : List ℕ) → BeginsAbove ds → AllBelowBase 10 ds → digits_of 10 (number_from_digits 10 ds) ≡ ds
digits_of-number ds above low = digits_with [] ds refl low above

value_of_digit : (d : ℕ) → is_ascii_digit d ≡ true → (d - 48 < 10) × (48 + (d - 48) ≡ d)
value_of_digit d is = (grind (arith, nat_tests), grind (arith, nat_tests))

values_low : (ds : List ℕ) → list_all is_ascii_digit ds ≡ true → AllBelowBase 10 (map (λ d. d - 48) ds)
values_low [] are = tt
values_low (d ∷ ds) are = let e = and_parts (is_ascii_digit d) _ are in ((value_of_digit d e.0).0, values_low ds e.1)

map_there : (ds : List ℕ) → list_all is_ascii_digit ds ≡ true → map (λ d. 48 + d) (map (λ d. d - 48) ds) ≡ ds
map_there [] are = refl
map_there (d ∷ ds) are = let e = and_parts (is_ascii_digit d) _ are in rw ((value_of_digit d e.0).1, map_there ds e.1) refl

first_above : (d : ℕ) → not (eqb d 48) ≡ true → is_ascii_digit d ≡ true → 0 < d - 48
first_above d other is = grind (arith, nat_tests)

-- digits without a leading zero are those of the number that they write
numeral_text : (ds : List ℕ) → is_numeral ds ≡ true → map (λ d. 48 + d) (digits_of 10 (number_in ds)) ≡ ds
numeral_text [] is = refl
numeral_text (d ∷ ds) is =
    let e = and_parts (not (eqb d 48)) _ is in
    let f = and_parts (is_ascii_digit d) _ e.1 in
    ap (map (λ x. 48 + x)) (digits_of-number (map (λ x. x - 48) (d ∷ ds)) (λ _. first_above d e.0 f.0) (values_low (d ∷ ds) e.1)) ∙ map_there (d ∷ ds) e.1

letter_back : (b v : ℕ) → is_ascii_lowercase b ≡ true → (97 + (26 * v + (b - 97)) % 26 ≡ b) × ((26 * v + (b - 97)) / 26 ≡ v)
letter_back b v is = let low : 97 ≤ b = grind (arith, nat_tests) in let high : b ≤ 122 = grind (arith, nat_tests) in (omega arith, omega arith)

-- a name is the text of its number
pub name_text-name_number : (text : List ℕ) → is_name text ≡ true → name_text (name_number text) ≡ text
name_text-name_number [] named = absurd (false≢true named)
name_text-name_number (b ∷ ds) named =
    let e = and_parts (is_ascii_lowercase b) _ named in
    let back = letter_back b (number_in ds) e.0 in
    ap (λ x. x ∷ map (λ d. 48 + d) (digits_of 10 (name_number (b ∷ ds) / 26))) back.0 ∙ ap (λ n. b ∷ map (λ d. 48 + d) (digits_of 10 n)) back.1 ∙ ap (λ x. b ∷ x) (numeral_text ds e.1)
