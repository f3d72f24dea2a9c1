-- A text spells at most one line, and whether it spells one can be told, where both hold of systems.
use Rattle.std.proofs.Common.{◌≡◌, ◌&&◌, ℕ, Bool, true, false, List, [], ◌∷◌, ◌++◌, Option, None, Some, refl, ap, ◌∙◌}
use Rattle.std.proofs.lemmas.Bool.{false≢true, and_parts}
use Rattle.ic_text.specs.Token.{Token, word, mark}
use Rattle.ic_text.specs.SystemSource.{SystemPhrase, IsSystemPhrase, system_words}
use Rattle.ic_text.specs.lemmas.ReadOnce.{IsTold}
use Rattle.ic_commands.specs.declared.line.Opening.{Opening}
use Rattle.ic_commands.specs.declared.line.Opening.TheVariants as opening
use Rattle.ic_commands.specs.declared.line.Verb.TheVariants.{Pause}
use Rattle.ic_commands.specs.LineSource.{LinePhrase, nothing, submit, copy, about, list, run, IsLine, is_number, number_words, line_words}
use Rattle.ic_rules.specs.JobName.{is_job_word}
use Rattle.ic_commands.specs.inner.Line.{opening_text, opening_of}
use Rattle.ic_commands.proofs.LineReading.{text-opening_of, OneSystem, line_words-injective}

module _ (told_systems : IsTold IsSystemPhrase system_words) where
  -- whether tokens stand after the name of a submit
  abbrev named_stands : List Token → Bool
  named_stands [] = told_systems.test []
  named_stands (mark m ∷ ts) = told_systems.test (mark m ∷ ts)
  named_stands (word digits ∷ ts) = is_number digits && told_systems.test ts

  -- whether tokens stand after the word that opens a line
  abbrev stands_after : Opening → List Token → Bool
  stands_after opening.Submit [] = false
  stands_after opening.Submit (mark m ∷ ts) = false
  stands_after opening.Submit (word name ∷ ts) = is_job_word name && named_stands ts
  stands_after opening.Copy [] = false
  stands_after opening.Copy (mark m ∷ ts) = false
  stands_after opening.Copy (word old ∷ []) = false
  stands_after opening.Copy (word old ∷ mark m ∷ ts) = false
  stands_after opening.Copy (word old ∷ word new ∷ []) = is_job_word old && is_job_word new
  stands_after opening.Copy (word old ∷ word new ∷ t ∷ ts) = false
  stands_after (opening.About verb) [] = false
  stands_after (opening.About verb) (mark m ∷ ts) = false
  stands_after (opening.About verb) (word name ∷ []) = is_job_word name
  stands_after (opening.About verb) (word name ∷ t ∷ ts) = false
  stands_after opening.List [] = true
  stands_after opening.List (t ∷ ts) = false
  stands_after opening.Run [] = false
  stands_after opening.Run (mark m ∷ ts) = false
  stands_after opening.Run (word digits ∷ []) = is_number digits
  stands_after opening.Run (word digits ∷ t ∷ ts) = false

  abbrev opened : Option Opening → List Token → Bool
  opened None ts = false
  opened (Some o) ts = stands_after o ts

  -- whether tokens are those of a line
  abbrev is_line : List Token → Bool
  is_line [] = true
  is_line (mark m ∷ ts) = false
  is_line (word w ∷ ts) = opened (opening_of w) ts

  -- some line has these tokens
  abbrev LineBy : List Token → Type 0
  LineBy ts = (p : LinePhrase) × IsLine p × (ts ≡ line_words p)

  -- some submit of this name has these tokens after the name
  abbrev NamedBy : List ℕ → List Token → Type 0
  NamedBy name ts = (most : Option (List ℕ)) × (s : SystemPhrase) × IsLine (submit name most s) × (ts ≡ number_words most ++ system_words s)

  found-named : (name : List ℕ) (ts : List Token) → is_job_word name ≡ true → named_stands ts ≡ true → NamedBy name ts
  found-named name [] named e = let s = told_systems.found [] e in (None, s.0, (named, tt, s.1), s.2)
  found-named name (mark m ∷ ts) named e = let s = told_systems.found (mark m ∷ ts) e in (None, s.0, (named, tt, s.1), s.2)
  found-named name (word digits ∷ ts) named e =
      let parts = and_parts (is_number digits) (told_systems.test ts) e in
      let s = told_systems.found ts parts.1 in
      (Some digits, s.0, (named, parts.0, s.1), ap (λ us. word digits ∷ us) s.2)

  found-after : (o : Opening) (ts : List Token) → stands_after o ts ≡ true → LineBy (word (opening_text o) ∷ ts)
  found-after opening.Submit (mark m ∷ ts) e = absurd (false≢true e)
  found-after opening.Submit (word name ∷ ts) e =
      let parts = and_parts (is_job_word name) (named_stands ts) e in
      let by = found-named name ts parts.0 parts.1 in
      (submit name by.0 by.1, by.2, ap (λ us. word (opening_text opening.Submit) ∷ word name ∷ us) by.3)
  found-after opening.Copy (word old ∷ word new ∷ []) e = (copy old new, and_parts (is_job_word old) (is_job_word new) e, refl)
  found-after (opening.About verb) (word name ∷ []) e = (about verb name, e, refl)
  found-after opening.List [] e = (list, tt, refl)
  found-after opening.Run (word digits ∷ []) e = (run digits, e, refl)
  found-after _ _ e = absurd (false≢true e)

  found-line : (ts : List Token) → is_line ts ≡ true → LineBy ts
  found-line [] e = (nothing, tt, refl)
  found-line (mark m ∷ ts) e = absurd (false≢true e)
  found-line (word w ∷ ts) e = by_opening (opening_of w) refl e
    where
      by_opening : (o : Option Opening) → opening_of w ≡ o → opened o ts ≡ true → LineBy (word w ∷ ts)
      by_opening None is e = absurd (false≢true e)
      by_opening (Some o) is e =
          let line = found-after o ts e in
          (line.0, line.1, ap (λ x. word x ∷ ts) (text-opening_of w o is) ∙ line.2)

  line_words-test : (p : LinePhrase) → IsLine p → is_line (line_words p) ≡ true
  line_words-test nothing is = refl
  line_words-test (submit name None s) is = rw is.0 (told_systems.only _ (s, is.2, refl))
  line_words-test (submit name (Some digits) s) is =
      let number : is_number digits ≡ true = is.1 in rw (is.0, number) (told_systems.only _ (s, is.2, refl))
  line_words-test (copy old new) is =
      let first : is_job_word old ≡ true = is.0 in let second : is_job_word new ≡ true = is.1 in λ i. first i && second i
  line_words-test (about Pause name) is = is
  line_words-test list is = refl
  line_words-test _ is = is

  only-line : (ts : List Token) → LineBy ts → is_line ts ≡ true
  only-line ts line = ap is_line line.2 ∙ line_words-test line.0 line.1

  one_system : (p : LinePhrase) → IsLine p → OneSystem p
  one_system (submit name most s) is = λ t is_t same. told_systems.injective s t is.2 is_t same
  one_system _ is = tt

  pub told_lines : IsTold IsLine line_words
  told_lines = record {
    test = is_line;
    found = found-line;
    only = only-line;
    injective = λ p q is_p is_q same. line_words-injective p q (one_system p is_p) is_q same;
  }
