-- Which bytes are dropped from a text, which are marks, and which spoil it.
use Rattle.std.proofs.Common.{◌≡◌, ◌≢◌, ℕ, false, List, [], ◌∷◌, ◌++◌, Option, None, Some, ap, ◌∙◌, refl}
use Rattle.std.specs.Prelude.{codes}
use Rattle.std.specs.List.{AllByRecursion}
use Rattle.std.specs.Char.{is_ascii_alphanumeric}
use Rattle.std.proofs.lemmas.Bool.{ne_eqb}
use Rattle.ic_text.specs.declared.token.Mark.{Mark}
use Rattle.ic_text.specs.declared.token.Mark.TheVariants.{LeftBrace, RightBrace, Less, Greater, Bar, Equals, Comma, Semicolon, Open, Close}
use Rattle.ic_text.specs.Token.{Token, mark, is_blank, is_word_byte, mark_byte, mark_of, followed, tokens_at, tokens}
use Rattle.ic_text.specs.lemmas.WordRuns.{before-none, tokens-parted}

followed-none : (o : Option (List Token)) → followed o None ≡ None
followed-none None = refl
followed-none (Some ts) = refl

dropped : (a b : List ℕ) (c : ℕ) → is_word_byte c ≡ false → tokens_at c (mark_of c) ≡ Some []
    → tokens (a ++ c ∷ b) ≡ followed (tokens a) (tokens b)
dropped a b c apart blank =
    tokens-parted a b c apart
    ∙ ap (λ o. followed (tokens a) (followed o (tokens b))) blank
    ∙ ap (followed (tokens a)) (before-none (tokens b))

pub blanks_are_dropped : (a b : List ℕ)
    → AllByRecursion (λ c. tokens (a ++ c ∷ b) ≡ followed (tokens a) (tokens b)) (32 ∷ 9 ∷ 10 ∷ 13 ∷ [])
blanks_are_dropped a b = (dropped a b 32 refl refl, (dropped a b 9 refl refl, (dropped a b 10 refl refl, (dropped a b 13 refl refl, tt))))

pub marks_are_tokens : (a b : List ℕ) (m : Mark)
    → tokens (a ++ mark_byte m ∷ b) ≡ followed (tokens a) (followed (Some (mark m ∷ [])) (tokens b))
marks_are_tokens a b LeftBrace = tokens-parted a b 123 refl
marks_are_tokens a b RightBrace = tokens-parted a b 125 refl
marks_are_tokens a b Less = tokens-parted a b 60 refl
marks_are_tokens a b Greater = tokens-parted a b 62 refl
marks_are_tokens a b Bar = tokens-parted a b 124 refl
marks_are_tokens a b Equals = tokens-parted a b 61 refl
marks_are_tokens a b Comma = tokens-parted a b 44 refl
marks_are_tokens a b Semicolon = tokens-parted a b 59 refl
marks_are_tokens a b Open = tokens-parted a b 40 refl
marks_are_tokens a b Close = tokens-parted a b 41 refl

-- the bytes that are neither letters nor digits, and are taken all the same
abbrev pub signs : List ℕ
signs = 32 ∷ 9 ∷ 10 ∷ 13 ∷ codes "-{}<>|=,;()"

pub others_spoil : (a b : List ℕ) (c : ℕ) → is_ascii_alphanumeric c ≡ false → AllByRecursion (λ x. c ≢ x) signs
    → tokens (a ++ c ∷ b) ≡ None
others_spoil a b c other none =
    let blank = none.1.1.1.1 in
    let braces = blank.1 in
    let sides = braces.1.1 in
    let bars = sides.1.1 in
    let commas = bars.1.1 in
    let parentheses = commas.1.1 in
    let isnt_word : is_word_byte c ≡ false = rw (other, ne_eqb c 45 blank.0) refl in
    let isnt_blank : is_blank c ≡ false = rw (ne_eqb c 32 none.0, ne_eqb c 9 none.1.0, ne_eqb c 10 none.1.1.0, ne_eqb c 13 none.1.1.1.0) refl in
    let isnt_mark : mark_of c ≡ None =
    rw (ne_eqb c 123 braces.0, ne_eqb c 125 braces.1.0, ne_eqb c 60 sides.0, ne_eqb c 62 sides.1.0, ne_eqb c 124 bars.0, ne_eqb c 61 bars.1.0, ne_eqb c 44 commas.0, ne_eqb c 59 commas.1.0, ne_eqb c 40 parentheses.0, ne_eqb c 41 parentheses.1.0) refl in
    let spoils : tokens_at c (mark_of c) ≡ None = rw (isnt_mark, isnt_blank) refl in
    tokens-parted a b c isnt_word ∙ ap (λ o. followed (tokens a) (followed o (tokens b))) spoils ∙ followed-none (tokens a)
