-- What a line begins with, that its tokens are those of no other, and what is read of it.
use Rattle.std.proofs.Common.{◌≡◌, ◌≤◌, ℕ, Bool, true, false, cond, List, [], ◌∷◌, ◌++◌, Option, None, Some, Result, length, refl, sym, ap, ◌∙◌, arith}
use Rattle.std.specs.Prelude.{find}
use Rattle.std.specs.Cmp.Lexicographic.{bytes_decides}
use Rattle.std.specs.Str.{bytes_eq}
use Rattle.ic_text.specs.declared.limits.TheConstants.{MAX_TEXT}
use Rattle.ic_text.specs.declared.fault.TextFault.{TextFault}
use Rattle.ic_commands.specs.declared.line.Line.{Line}
use Rattle.ic_commands.specs.declared.line.Opening.{Opening}
use Rattle.ic_commands.specs.declared.line.Opening.TheVariants as opening
use Rattle.ic_commands.specs.declared.line.Verb.TheVariants.{Pause}
use Rattle.ic_text.specs.Token.{Token, word, mark, word_of, before, tokens}
use Rattle.ic_commands.specs.LineSource.{LinePhrase, nothing, submit, copy, about, list, run, IsLine, number_words, line_words}
use Rattle.ic_commands.specs.LineSense.{line_sense}
use Rattle.ic_commands.specs.LineText.{ReadsLine}
use Rattle.ic_commands.specs.inner.Line.{opening_text, openings, opening_of, IsLineOf}
use Rattle.ic_text.specs.SystemSource.{SystemPhrase, IsSystemPhrase, system_words}
use Rattle.ic_text.specs.lemmas.ReadOnce.{some-injective}

-- the words that open a line, each by its text
pub opening_of-text : (o : Opening) → opening_of (opening_text o) ≡ Some o
opening_of-text (opening.About Pause) = refl
opening_of-text _ = refl

pub word_of-opening : (o : Opening) → word_of (opening_text o) ≡ word (opening_text o) ∷ []
word_of-opening (opening.About Pause) = refl
word_of-opening _ = refl

find-passes : (p : Opening → Bool) (os : List Opening) (o : Opening) → find p os ≡ Some o → p o ≡ true
find-passes p [] o e = cc
find-passes p (x ∷ xs) o e = by_test (p x) refl e (find-passes p xs o)
  where
    by_test : (b : Bool) → p x ≡ b → cond b (Some x) (find p xs) ≡ Some o → (find p xs ≡ Some o → p o ≡ true) → p o ≡ true
    by_test true is e rest = let same : x ≡ o = cc in rw same at is
    by_test false isnt e rest = rest e

pub text-opening_of : (w : List ℕ) (o : Opening) → opening_of w ≡ Some o → w ≡ opening_text o
text-opening_of w o e = (bytes_decides w (opening_text o)).0 (find-passes (λ x. bytes_eq w (opening_text x)) openings o e)

-- what a line begins with
abbrev pub opening_in : List Token → Option Opening
opening_in [] = None
opening_in (mark m ∷ ts) = None
opening_in (word w ∷ ts) = opening_of w

abbrev pub opens : LinePhrase → Option Opening
opens nothing = None
opens (submit name most s) = Some opening.Submit
opens (copy old new) = Some opening.Copy
opens (about verb name) = Some (opening.About verb)
opens list = Some opening.List
opens (run digits) = Some opening.Run

pub opening_in-line : (p : LinePhrase) → opening_in (line_words p) ≡ opens p
opening_in-line (about verb name) = opening_of-text (opening.About verb)
opening_in-line _ = refl

-- the tokens after the first word
abbrev pub after_one : List Token → List Token
after_one [] = []
after_one (t ∷ ts) = ts

abbrev pub second_word : List Token → List ℕ
second_word (t ∷ word w ∷ ts) = w
second_word ts = []

-- the number's word that tokens begin with, and the tokens after it
abbrev pub number_first : List Token → Option (List ℕ)
number_first (word w ∷ ts) = Some w
number_first ts = None

abbrev pub after_number : List Token → List Token
after_number (word w ∷ ts) = ts
after_number ts = ts

pub number_first-of : (most : Option (List ℕ)) (s : SystemPhrase) → number_first (number_words most ++ system_words s) ≡ most
number_first-of None s = refl
number_first-of (Some digits) s = refl

pub after_number-of : (most : Option (List ℕ)) (s : SystemPhrase) → after_number (number_words most ++ system_words s) ≡ system_words s
after_number-of None s = refl
after_number-of (Some digits) s = refl

-- no other system has the tokens of the one that a line has
abbrev pub OneSystem : LinePhrase → Type 0
OneSystem nothing = Unit {0}
OneSystem (submit name most s) = (t : SystemPhrase) → IsSystemPhrase t → system_words s ≡ system_words t → s ≡ t
OneSystem (copy old new) = Unit {0}
OneSystem (about verb name) = Unit {0}
OneSystem list = Unit {0}
OneSystem (run digits) = Unit {0}

same_line : (p q : LinePhrase) → OneSystem p → IsLine q → opens p ≡ opens q → second_word (line_words p) ≡ second_word (line_words q)
    → after_one (after_one (line_words p)) ≡ after_one (after_one (line_words q)) → p ≡ q
same_line nothing nothing one is_q first second rest = refl
same_line nothing (about w m) one is_q first second rest = cc
same_line (submit n j s) (submit m k t) one is_q first second rest =
    let numbers = sym (number_first-of j s) ∙ ap number_first rest ∙ number_first-of k t in
    let system = one t is_q.2 (sym (after_number-of j s) ∙ ap after_number rest ∙ after_number-of k t) in
    λ i. submit (second i) (numbers i) (system i)
same_line (copy a b) (copy c d) one is_q first second rest =
    let last : Some b ≡ Some d = ap number_first rest in
    let same : b ≡ d = cc in
    λ i. copy (second i) (same i)
same_line (about v n) nothing one is_q first second rest = cc
same_line list list one is_q first second rest = refl
same_line (run n) (run m) one is_q first second rest = ap run second
same_line _ _ one is_q first second rest = cc

pub line_words-injective : (p q : LinePhrase) → OneSystem p → IsLine q → line_words p ≡ line_words q → p ≡ q
line_words-injective p q one is_q same =
    same_line p q one is_q (sym (opening_in-line p) ∙ ap opening_in same ∙ opening_in-line q) (ap second_word same) (ap (λ ts. after_one (after_one ts)) same)

-- the tokens of a line are read as what the line means
pub is_sense : (o : Option (List Token)) (p : LinePhrase) → OneSystem p → IsLine p → o ≡ Some (line_words p) → IsLineOf o (line_sense p)
is_sense o p one is e = record {
  spelled = λ q is_q e_q. ap line_sense (line_words-injective p q one is_q (some-injective _ _ (sym e ∙ e_q)));
  malformed = λ none. absurd (none p is e);
}

-- so is the text, where it isn't too long
pub reads_line : (text : List ℕ) (a : Result Line TextFault) → length text ≤ MAX_TEXT → IsLineOf (tokens text) a → ReadsLine text a
reads_line text a short is = record {
  long = λ long. absurd (omega arith);
  spelled = λ _ p spells. is.spelled p spells.phrase spells.tokens;
  malformed = λ _ none. is.malformed (λ p is_p e. none p (record { phrase = is_p; tokens = e }));
}

-- and what stands after the word that opens a line
pub is_sense_after : (o : Opening) (rest : List ℕ) (ts : List Token) (p : LinePhrase) → OneSystem p → IsLine p → tokens rest ≡ Some ts
    → line_words p ≡ word (opening_text o) ∷ ts → IsLineOf (before (word_of (opening_text o)) (tokens rest)) (line_sense p)
is_sense_after o rest ts p one is left same =
    is_sense _ p one is (ap (before (word_of (opening_text o))) left ∙ ap (λ ws. Some (ws ++ ts)) (word_of-opening o) ∙ ap Some (sym same))
