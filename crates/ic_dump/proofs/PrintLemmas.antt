-- Writing rules one after the other, and the braces around them.
use Rattle.std.proofs.Common.{◌≡◌, ℕ, ◌+◌, ◌<◌, List, [], ◌∷◌, ◌++◌, length, get_or, drop, ap, subst, ◌∙◌, append_assoc}
use Rattle.std.specs.List.{AllByRecursion}
use Rattle.ic_text.specs.SystemSource.{RulePhrase, rules_words}
use Rattle.ic_text.specs.Text.{text_of}
use Rattle.ic_text.specs.lemmas.Separated.{next_of}

-- what is so of all that are left is so of the next, and of those after it
pub next_each : {A : Type 0} (P : A → Type 0) (n : ℕ) (xs : List A) (x : A) → n < length xs → x ≡ get_or xs n x
    → AllByRecursion P (drop n xs) → P x × AllByRecursion P (drop (n + 1) xs)
next_each P n xs x below is all =
    let both : AllByRecursion P (x ∷ drop (n + 1) xs) = subst (λ l. AllByRecursion P l) (next_of n xs x below is) all in
    (both.0, both.1)

-- the braces and what stands between them
pub in_braces : (old opened list new : List ℕ) (rs : List RulePhrase) → opened ≡ old ++ 123 ∷ [] → list ≡ opened ++ text_of (rules_words rs) → new ≡ list ++ 125 ∷ []
    → new ≡ old ++ 123 ∷ (text_of (rules_words rs) ++ 125 ∷ [])
in_braces old opened list new rs begun put ended =
    ended ∙ ap (λ l. l ++ 125 ∷ []) (put ∙ ap (λ l. l ++ text_of (rules_words rs)) begun)
    ∙ append_assoc (old ++ 123 ∷ []) (text_of (rules_words rs)) (125 ∷ [])
    ∙ append_assoc old (123 ∷ []) (text_of (rules_words rs) ++ 125 ∷ [])
