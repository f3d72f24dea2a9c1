-- The first byte of a name or a symbol tells which of them it is.
use Rattle.std.proofs.Common.{◌≡◌, ℕ, Bool, true, false, ◌||◌, IsTrue, List, ◌∷◌, refl, sym, ◌∙◌, arith}
use Rattle.std.specs.Char.{is_ascii_digit, is_ascii_lowercase, is_ascii_uppercase}
use Rattle.std.proofs.lemmas.Bool.Decides.{nat_tests}
use Rattle.std.proofs.lemmas.Bool.{false≢true}
use Rattle.ic_term.specs.Symbol.{is_symbol_text}
use Rattle.ic_text.specs.Name.{is_name}

not_both : (b : ℕ) → is_ascii_lowercase b ≡ true → (is_ascii_uppercase b || is_ascii_digit b) ≡ false
not_both b small = grind (arith, nat_tests)

pub first_tells : (b : ℕ) (bs : List ℕ) → IsTrue (is_name (b ∷ bs) || is_symbol_text (b ∷ bs)) → is_ascii_lowercase b ≡ is_name (b ∷ bs)
first_tells b bs is = by_letter (is_ascii_lowercase b) refl
  where
    by_letter : (small : Bool) → is_ascii_lowercase b ≡ small → small ≡ is_name (b ∷ bs)
    by_letter false e = rw e refl
    by_letter true e = by_name (is_name (b ∷ bs)) refl
      where
        by_name : (named : Bool) → is_name (b ∷ bs) ≡ named → true ≡ named
        by_name true n = refl
        by_name false n = absurd (false≢true (sym (rw (n, not_both b e) refl) ∙ is))
