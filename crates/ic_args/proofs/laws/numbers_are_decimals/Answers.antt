use Rattle.std.proofs.Common.{◌≡◌, ◌∙◌, ℕ, List, [], ◌∷◌, Bool, true, false, cond, ◌==◌, drop, refl, sym, ap, subst, arith}
use Rattle.std.specs.Str.Parse.{IsNumeral, digits_value, without_leading_plus}
use Rattle.std.specs.Fmt.{decimal}
use Rattle.std.proofs.lemmas.Fmt.{decimal_is_IsNumeral}
use Rattle.std.proofs.lemmas.Bool.{eqb-true}
use Rattle.ic_args.specs.Words.{IsDecimal}
use Rattle.ic_args.proofs.laws.numbers_are_decimals.Goals as goal

-- a numeral begins with no plus
no_plus : (v : List ℕ) → IsNumeral 10 v → without_leading_plus v ≡ v
no_plus [] numeral = refl
no_plus (x ∷ xs) numeral = go (x == 43) refl
  where
    go : (b : Bool) → (x == 43) ≡ b → drop (cond b 1 0) (x ∷ xs) ≡ x ∷ xs
    go true is =
        let small = (subst (λ (y : ℕ). IsNumeral 10 (y ∷ xs)) (eqb-true x 43 is) numeral).1.0 in
        absurd (omega (arith, small))
    go false is = refl

-- what a text is, where its number stands after the plus
of_text : (text v : List ℕ) (n m : ℕ) → without_leading_plus text ≡ v → IsNumeral 10 v → digits_value 10 v ≡ n → IsDecimal text m → m ≡ n
of_text text v n m same numeral value is = is.1 ∙ ap (digits_value 10) same ∙ value

to_text : (text v : List ℕ) (n m : ℕ) → without_leading_plus text ≡ v → IsNumeral 10 v → digits_value 10 v ≡ n → m ≡ n → IsDecimal text m
to_text text v n m same numeral value is = (subst (IsNumeral 10) (sym same) numeral, is ∙ sym value ∙ ap (digits_value 10) (sym same))

pub returns-clause-digits : goal.returns-clause-digits
returns-clause-digits c = λ n m small.
    let is = decimal_is_IsNumeral n small in
    let same = no_plus (decimal n) is.0 in
    (of_text (decimal n) (decimal n) n m same is.0 is.1, to_text (decimal n) (decimal n) n m same is.0 is.1)

pub returns-clause-plus : goal.returns-clause-plus
returns-clause-plus c = λ n m small.
    let is = decimal_is_IsNumeral n small in
    (of_text (43 ∷ decimal n) (decimal n) n m refl is.0 is.1, to_text (43 ∷ decimal n) (decimal n) n m refl is.0 is.1)

pub returns-clause-minus : goal.returns-clause-minus
returns-clause-minus c = λ text m is. (let small = is.0.1.0 in omega (arith, small))

pub returns-clause-none : goal.returns-clause-none
returns-clause-none c = λ m is. (let some = is.0.0 in omega (arith, some))

pub returns-clause-one : goal.returns-clause-one
returns-clause-one c = λ text n m p q. p.1 ∙ sym q.1
