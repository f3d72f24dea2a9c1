-- Tokens of a configuration that are written without blanks are read as they are.
use Rattle.std.proofs.Common.{◌≡◌, ℕ, ◌+◌, ◌/◌, ◌%◌, ◌<◌, true, ◌||◌, List, [], ◌∷◌, ◌++◌, Some, map, IsTrue, refl, sym, ap, ◌∙◌, subst, append_assoc, append-nil, arith}
use Rattle.std.specs.List.{list_all, AllByRecursion}
use Rattle.std.specs.Char.{is_ascii_alphanumeric, is_ascii_uppercase, is_ascii_digit}
use Rattle.std.specs.Int.Digits.{digits_of, AllBelowBase}
use Rattle.std.proofs.lemmas.Int.Digits.{all_below_base_digits_of}
use Rattle.std.proofs.lemmas.Bool.{and_parts, and_from, false≢true}
use Rattle.std.proofs.lemmas.Bool.Decides.{nat_tests}
use Rattle.ic_term.specs.Symbol.{is_symbol_text}
use Rattle.ic_text.specs.declared.token.Mark.{Mark}
use Rattle.ic_text.specs.declared.token.Mark.TheVariants.{RightBrace, Semicolon, LeftBrace, Less, Greater, Bar, Equals, Comma}
use Rattle.ic_text.specs.Token.{Token, word, mark, is_word_byte, mark_byte, word_of, before, followed, tokens_after, tokens}
use Rattle.ic_text.specs.Name.{name_text}
use Rattle.ic_text.specs.Source.{Source, leaf, node, Sources, no_sources, more_sources, Sides, Phrase, IsSource, AreSources, IsPhrase, words, argument_words, further_words, sides_words, separated, phrase_words}
use Rattle.ic_text.specs.Text.{text_of}
use Rattle.ic_text.specs.SystemSource.{RulePhrase, IsRulePhrase, agent_source, rule_words, rules_words}
use Rattle.ic_text.specs.lemmas.Separated.{each_after, text_of-append}
use Rattle.ic_text.specs.lemmas.WordRuns.{tokens-parted}

-- word bytes join the run before them
run_on : (w r run : List ℕ) → list_all is_word_byte w ≡ true → tokens_after run (w ++ r) ≡ tokens_after (run ++ w) r
run_on [] r run all = ap (λ l. tokens_after l r) (sym (append-nil run))
run_on (b ∷ w) r run all =
    let parts = and_parts (is_word_byte b) (list_all is_word_byte w) all in
    rw parts.0 (run_on w r (run ++ b ∷ []) parts.1) ∙ ap (λ l. tokens_after l r) (append_assoc run (b ∷ []) w)

-- a mark ends the run
mark_ends : (m : Mark) (r run : List ℕ) → tokens_after run (mark_byte m ∷ r) ≡ before (word_of run) (before (mark m ∷ []) (tokens_after [] r))
mark_ends LeftBrace r run = refl
mark_ends _ r run = refl

-- what may stand between marks
pub record IsWordText (w : List ℕ) : Type 0 where
  pub bytes : list_all is_word_byte w ≡ true
  pub one : word_of w ≡ word w ∷ []

-- no word comes next
abbrev pub IsMarked : List Token → Type 0
IsMarked [] = Unit {0}
IsMarked (word w ∷ ts) = ⊥
IsMarked (mark m ∷ ts) = Unit {0}

-- no two words stand side by side
abbrev pub AreApart : List Token → Type 0
AreApart [] = Unit {0}
AreApart (word w ∷ ts) = IsWordText w × IsMarked ts × AreApart ts
AreApart (mark m ∷ ts) = AreApart ts

pub tokens-text_of : (ts : List Token) → AreApart ts → tokens_after [] (text_of ts) ≡ Some ts
tokens-text_of [] apart = refl
tokens-text_of (mark m ∷ ts) apart = mark_ends m (text_of ts) [] ∙ ap (λ o. before [] (before (mark m ∷ []) o)) (tokens-text_of ts apart)
tokens-text_of (word w ∷ []) apart = run_on w [] [] apart.0.bytes ∙ ap Some apart.0.one
tokens-text_of (word w ∷ word v ∷ ts) apart = absurd apart.1
tokens-text_of (word w ∷ mark m ∷ ts) apart =
    run_on w (mark_byte m ∷ text_of ts) [] apart.0.bytes ∙ mark_ends m (text_of ts) w
    ∙ ap (λ o. before (word_of w) (before (mark m ∷ []) o)) (tokens-text_of ts apart.2)
    ∙ ap (λ l. Some (l ++ mark m ∷ ts)) apart.0.one

-- names and symbols are words
letter_is_word : (n : ℕ) → is_word_byte (97 + n % 26) ≡ true
letter_is_word n = grind (arith, nat_tests)

digit_is_word : (d : ℕ) → d < 10 → is_word_byte (48 + d) ≡ true
digit_is_word d low = grind (arith, nat_tests)

digits_are_word : (ds : List ℕ) → AllBelowBase 10 ds → list_all is_word_byte (map (λ d. 48 + d) ds) ≡ true
digits_are_word [] low = refl
digits_are_word (d ∷ ds) low = and_from _ _ (digit_is_word d low.0) (digits_are_word ds low.1)

pub name_is_word : (n : ℕ) → IsWordText (name_text n)
name_is_word n = record { bytes = and_from _ _ (letter_is_word n) (digits_are_word (digits_of 10 (n / 26)) (all_below_base_digits_of 10 (n / 26) (omega arith))); one = refl }

first_is_word : (b : ℕ) → (is_ascii_uppercase b || is_ascii_digit b) ≡ true → is_word_byte b ≡ true
first_is_word b is = grind (arith, nat_tests)

further_is_word : (b : ℕ) → is_ascii_alphanumeric b ≡ true → is_word_byte b ≡ true
further_is_word b is = rw is refl

further_are_word : (bs : List ℕ) → list_all is_ascii_alphanumeric bs ≡ true → list_all is_word_byte bs ≡ true
further_are_word [] are = refl
further_are_word (b ∷ bs) are = let parts = and_parts (is_ascii_alphanumeric b) _ are in and_from _ _ (further_is_word b parts.0) (further_are_word bs parts.1)

symbol_is_word : (text : List ℕ) → IsTrue (is_symbol_text text) → IsWordText text
symbol_is_word [] is = absurd (false≢true is)
symbol_is_word (b ∷ bs) is = let parts = and_parts (is_ascii_uppercase b || is_ascii_digit b) _ is in record { bytes = and_from _ _ (first_is_word b parts.0) (further_are_word bs parts.1); one = refl }

-- the tokens of a configuration stand apart
arguments_marked : (ts : Sources) (r : List Token) → IsMarked r → IsMarked (argument_words ts ++ r)
arguments_marked no_sources r marked = marked
arguments_marked (more_sources t ts) r marked = tt

further_marked : (ts : Sources) (r : List Token) → IsMarked (further_words ts ++ r)
further_marked no_sources r = tt
further_marked (more_sources t ts) r = tt

mutual
  apart-words : (t : Source) (r : List Token) → IsSource t → IsMarked r → AreApart r → AreApart (words t ++ r)
  apart-words (leaf n) r is marked apart = (name_is_word n, marked, apart)
  apart-words (node text ts) r is marked apart = (symbol_is_word text is.0, arguments_marked ts r marked, apart-arguments ts r is.1 marked apart)

  apart-arguments : (ts : Sources) (r : List Token) → AreSources ts → IsMarked r → AreApart r → AreApart (argument_words ts ++ r)
  apart-arguments no_sources r are marked apart = apart
  apart-arguments (more_sources t ts) r are marked apart =
      subst AreApart (sym (append_assoc (words t) (further_words ts) r)) (apart-words t (further_words ts ++ r) are.0 (further_marked ts r) (apart-further ts r are.1 apart))

  apart-further : (ts : Sources) (r : List Token) → AreSources ts → AreApart r → AreApart (further_words ts ++ r)
  apart-further no_sources r are apart = apart
  apart-further (more_sources t ts) r are apart =
      subst AreApart (sym (append_assoc (words t) (further_words ts) r)) (apart-words t (further_words ts ++ r) are.0 (further_marked ts r) (apart-further ts r are.1 apart))

-- lists of tokens that stand apart, with a mark between them
module _ {A : Type 0} (P : A → Type 0) (m : Mark) (f : A → List Token) (each : (x : A) (r : List Token) → P x → IsMarked r → AreApart r → AreApart (f x ++ r)) where
  after_marked : (xs : List A) (r : List Token) → IsMarked r → IsMarked (each_after m (map f xs) ++ r)
  after_marked [] r marked = marked
  after_marked (x ∷ xs) r marked = tt

  apart-after : (xs : List A) (r : List Token) → AllByRecursion P xs → IsMarked r → AreApart r → AreApart (each_after m (map f xs) ++ r)
  apart-after [] r are marked apart = apart
  apart-after (x ∷ xs) r are marked apart =
      subst AreApart (sym (append_assoc (f x) (each_after m (map f xs)) r)) (each x (each_after m (map f xs) ++ r) are.0 (after_marked xs r marked) (apart-after xs r are.1 marked apart))

  pub apart-separated : (xs : List A) (r : List Token) → AllByRecursion P xs → IsMarked r → AreApart r → AreApart (separated m (map f xs) ++ r)
  apart-separated [] r are marked apart = apart
  apart-separated (x ∷ xs) r are marked apart = apart-after (x ∷ xs) r are marked apart

apart-sides : (e : Sides) (r : List Token) → IsSource e.left × IsSource e.right → IsMarked r → AreApart r → AreApart (sides_words e ++ r)
apart-sides e r are marked apart =
    subst AreApart (sym (append_assoc (words e.left) (mark Equals ∷ words e.right) r)) (apart-words e.left (mark Equals ∷ (words e.right ++ r)) are.0 tt (apart-words e.right r are.1 marked apart))

pub apart-rule_words : (p : RulePhrase) (r : List Token) → IsRulePhrase p → IsMarked r → AreApart r → AreApart (rule_words p ++ r)
apart-rule_words p r is marked apart =
    let right = words (agent_source p.right) in
    subst AreApart (sym (append_assoc (words (agent_source p.left)) (mark Greater ∷ mark Less ∷ right) r))
    (apart-words (agent_source p.left) (mark Greater ∷ mark Less ∷ (right ++ r)) is.0 tt (apart-words (agent_source p.right) r is.1 marked apart))

apart-phrase_words : (p : Phrase) → IsPhrase p → AreApart (phrase_words p)
apart-phrase_words p is =
    let r = separated Comma (map sides_words p.equations) ++ mark Greater ∷ [] in
    let equations : AreApart r = apart-separated (λ (e : Sides). IsSource e.left × IsSource e.right) Comma sides_words apart-sides p.equations (mark Greater ∷ []) is.equations tt tt in
    apart-separated IsSource Comma words apart-words p.interface (mark Bar ∷ r) is.interface tt equations

pub tokens-phrase_words : (p : Phrase) → IsPhrase p → tokens (text_of (phrase_words p)) ≡ Some (phrase_words p)
tokens-phrase_words p is = tokens-text_of (phrase_words p) (apart-phrase_words p is)

-- rules in braces, a space and what is read after it
pub tokens-braces : (rs : List RulePhrase) (text : List ℕ) (ts : List Token) → AllByRecursion IsRulePhrase rs → tokens text ≡ Some ts
    → tokens ((123 ∷ (text_of (rules_words rs) ++ 125 ∷ [])) ++ 32 ∷ text) ≡ Some (mark LeftBrace ∷ (rules_words rs ++ mark RightBrace ∷ ts))
tokens-braces rs text ts are reads =
    let braces : List Token = mark LeftBrace ∷ (rules_words rs ++ mark RightBrace ∷ []) in
    let written : text_of braces ≡ 123 ∷ (text_of (rules_words rs) ++ 125 ∷ []) = ap (λ l. 123 ∷ l) (text_of-append (rules_words rs) (mark RightBrace ∷ [])) in
    let apart : AreApart braces = apart-separated IsRulePhrase Semicolon rule_words apart-rule_words rs (mark RightBrace ∷ []) are tt tt in
    ap (λ l. tokens (l ++ 32 ∷ text)) (sym written)
    ∙ tokens-parted (text_of braces) text 32 refl
    ∙ (λ i. followed (tokens-text_of braces apart i) (followed (Some []) (reads i)))
    ∙ ap (λ l. Some (mark LeftBrace ∷ l)) (append_assoc (rules_words rs) (mark RightBrace ∷ []) ts)
