-- For private functions: texts of terms that are written word by word.
use Rattle.std.specs.Prelude.{◌≡◌, ℕ, zero, suc, ◌+◌, ◌≤◌, List, [], ◌∷◌, ◌++◌, Bool, true, false, length, take, drop, slice_get}
use Rattle.std.specs.List.{flat_map}
use Rattle.ic_term.specs.Symbol.{Symbol}
use Rattle.ic_flat.specs.declared.word.Word.{Word}
use Rattle.ic_flat.specs.declared.word.Word.TheVariants.{Name, Agent}
use Rattle.ic_text.specs.Name.{name_text}
use Rattle.ic_text.specs.Text.{text_or_none}

-- the text of a word by itself
abbrev pub word_text : List Symbol → Word → List ℕ
word_text table (Name n) = name_text n
word_text table (Agent s arity) = text_or_none (slice_get table s)

-- What is to be written after a term, given the texts of the terms that follow. Of the agents that are
-- open, the innermost first, each lacks so many arguments: a comma stands before each of them, and a
-- parenthesis after the last one.
abbrev pub closing : List ℕ → List (List ℕ) → List ℕ
closing [] texts = []
closing (n ∷ due) texts =
    flat_map (λ text. 44 ∷ text) (take n texts) ++ 41 ∷ closing due (drop n texts)

-- the same where a further term comes first, or nothing more comes
abbrev pub coming : Bool → List ℕ → List (List ℕ) → List ℕ
coming false due texts = []
coming true due [] = []
coming true due (text ∷ texts) = text ++ closing due texts

-- how many arguments that is
abbrev pub lacking : List ℕ → ℕ
lacking [] = 0
lacking (n ∷ due) = n + lacking due

-- how many terms that is
abbrev pub needed : Bool → List ℕ → ℕ
needed false due = 0
needed true due = 1 + lacking due

-- what is to be written after a word that takes so many arguments
abbrev pub after_word : ℕ → List ℕ → List (List ℕ) → List ℕ
after_word zero due texts = closing due texts
after_word (suc n) due texts = 40 ∷ coming true (n ∷ due) texts

-- What was to be written is begun, and goes on with what comes, whatever the texts of so many terms are.
pub record Begins (whole : List (List ℕ) → List ℕ) (count : ℕ) (old new : List ℕ) (more : Bool)
    (due : List ℕ) : Type 0 where
  pub text : (texts : List (List ℕ)) → count ≤ length texts
      → new ++ coming more due texts ≡ old ++ whole texts
  pub many : needed more due ≡ count
  pub ended : more ≡ false → due ≡ []

-- the comma before the element at a place of a list
abbrev pub comma_before : ℕ → List ℕ
comma_before zero = []
comma_before (suc place) = 44 ∷ []

-- the text of the first of a list, if there is one
abbrev pub first_text : {X : Type 0} → (X → List ℕ) → List X → List ℕ
first_text f [] = []
first_text f (x ∷ xs) = f x
