-- A text that is taken apart at its first word.
use Rattle.std.proofs.Common.{◌≡◌, ℕ, zero, suc, ◌+◌, ◌<◌, false, List, [], ◌∷◌, Option, None, Some, length, get_or, take, drop, refl, sym, ap, ◌∙◌, subst, arith, length-drop, ◌-◌}
use Rattle.std.proofs.lemmas.List.{drop_more, take_all}
use Rattle.ic_text.specs.lemmas.ReadOnce.{some-injective, none_is_some}
use Rattle.ic_text.specs.Token.{Token, word, mark, is_blank, is_word_byte, mark_of, word_of, before, tokens_at, followed, tokens_after, tokens}
use Rattle.ic_text.specs.lemmas.WordRuns.{tokens-apart}
use Rattle.ic_commands.specs.inner.Line.{HasNoWord, BeginsApart}

no_word : (b : ℕ) (bs : List ℕ) → is_word_byte b ≡ false → is_blank b ≡ false → HasNoWord (b ∷ bs) (tokens (b ∷ bs))
no_word b bs apart filled = subst (HasNoWord (b ∷ bs)) (sym (tokens-apart b bs apart))
    (elim (mark_of b) as (λ o. HasNoWord (b ∷ bs) (followed (tokens_at b o) (tokens bs))) [
      | Some m ↦ elim (tokens bs) as (λ o. HasNoWord (b ∷ bs) (before (mark m ∷ []) o)) [
        | None ↦ tt
        | Some ts ↦ tt
      ]
      | None ↦ rw filled tt
    ])

-- a text from a place on
from_here : (text : List ℕ) (place : ℕ) → place < length text → drop place text ≡ get_or text place 0 ∷ drop (place + 1) text
from_here text place inside = drop_more text place 0 inside

-- the first word ends in front of a byte that no word holds
pub word_ends : (text : List ℕ) (place : ℕ) → place < length text → is_word_byte (get_or text place 0) ≡ false
    → tokens_after (take place text) (drop place text) ≡ tokens text → tokens text ≡ before (word_of (take place text)) (tokens (drop place text))
word_ends text place inside apart so_far =
    let b = get_or text place 0 in
    let here = from_here text place inside in
    let step : tokens_after (take place text) (b ∷ drop (place + 1) text) ≡ before (word_of (take place text)) (followed (tokens_at b (mark_of b)) (tokens (drop (place + 1) text))) = rw apart refl in
    sym so_far ∙ ap (tokens_after (take place text)) here ∙ step
    ∙ ap (before (word_of (take place text))) (sym (tokens-apart b (drop (place + 1) text) apart))
    ∙ ap (λ r. before (word_of (take place text)) (tokens r)) (sym here)

-- an empty word is followed by none
pub no_word_here : (text : List ℕ) (place : ℕ) → place < length text → BeginsApart is_blank text → is_word_byte (get_or text place 0) ≡ false
    → take place text ≡ [] → HasNoWord (drop place text) (tokens (drop place text))
no_word_here [] place inside filled apart empty = absurd (omega arith)
no_word_here (b ∷ bs) zero inside filled apart empty = no_word b bs apart filled
no_word_here (b ∷ bs) (suc place) inside filled apart empty = cc

-- a slice to the end of a text
pub to_end : (text : List ℕ) (place : ℕ) → take (length text - place) (drop place text) ≡ drop place text
to_end text place = take_all (length text - place) (drop place text) (omega (arith, length-drop place text))

-- ---- the first word

-- the first word among tokens, or none
abbrev pub front_word : List Token → List ℕ
front_word [] = []
front_word (word w ∷ ts) = w
front_word (mark m ∷ ts) = []

unworded : (rest : List ℕ) (ts : List Token) → HasNoWord rest (Some ts) → front_word ts ≡ []
unworded rest (word w ∷ ts) apart = absurd apart
unworded rest _ apart = refl

-- it is the one that stands in front
pub front_is : (w rest : List ℕ) (o : Option (List Token)) (ts : List Token) → (w ≡ [] → HasNoWord rest o) → before (word_of w) o ≡ Some ts → front_word ts ≡ w
front_is w rest None ts apart e = absurd (none_is_some ts e)
front_is [] rest (Some us) ts apart e = ap front_word (sym (some-injective us ts e)) ∙ unworded rest us (apart refl)
front_is (b ∷ bs) rest (Some us) ts apart e = ap front_word (sym (some-injective (word (b ∷ bs) ∷ us) ts e))
