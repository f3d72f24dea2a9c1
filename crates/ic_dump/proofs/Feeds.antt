-- No line of a job has a line feed.
use Rattle.std.proofs.Common.{◌≡◌, ℕ, ◌+◌, Bool, true, false, ◌||◌, cond, List, [], ◌∷◌, ◌++◌, Option, None, Some, map, IsTrue, refl, sym, ap, ◌∙◌, arith}
use Rattle.std.specs.Prelude.{◌==◌, not, codes, filter, IfSome, unwrap_or}
use Rattle.std.specs.List.{list_all}
use Rattle.std.specs.Char.{is_ascii_lowercase, is_ascii_digit}
use Rattle.std.specs.Cmp.{unsigned_Decides}
use Rattle.std.specs.Fmt.{decimal}
use Rattle.std.specs.Int.Digits.{digits_of}
use Rattle.std.proofs.lemmas.Bool.{and_parts, or_parts, or_from, false_from_ne_true, not_from_false, false≢true}
use Rattle.std.proofs.lemmas.Fmt.{decimal-digits_of}
use Rattle.std.proofs.lemmas.Grind.{flat_map-append}
use Rattle.std.proofs.lemmas.List.Folds.{list_any-append}
use Rattle.ic_rules.specs.JobName.{is_job_name, is_job_word}
use Rattle.ic_rules.specs.System.{SystemParts}
use Rattle.ic_jobs.specs.Budget.{IsBudget}
use Rattle.ic_jobs.specs.Job.{JobParts, IsJob}
use Rattle.ic_text.specs.Token.{Token, is_blank, mark_of, tokens_at, tokens, token_text}
use Rattle.ic_text.specs.Source.{phrase_words}
use Rattle.ic_text.specs.SystemSource.{rules_words, system_words}
use Rattle.ic_text.specs.SystemText.{SpellsSystem}
use Rattle.ic_text.specs.Text.{text_of, printed}
use Rattle.ic_commands.specs.LinePlain.{budget_text}
use Rattle.ic_lines.specs.Lines.{has_feed}
use Rattle.ic_dump.specs.Telling.{system_of, system_text, told_system, job_line}

-- ---- two texts, one after the other
unfed_both : (xs ys : List ℕ) → has_feed xs ≡ false → has_feed ys ≡ false → has_feed (xs ++ ys) ≡ false
unfed_both xs ys p q = list_any-append (λ b. b == 10) xs ys ∙ or_from (has_feed xs) (has_feed ys) p q

unfed_parts : (xs ys : List ℕ) → has_feed (xs ++ ys) ≡ false → (has_feed xs ≡ false) × (has_feed ys ≡ false)
unfed_parts xs ys e = or_parts (has_feed xs) (has_feed ys) (sym (list_any-append (λ b. b == 10) xs ys) ∙ e)

-- a byte that a test lets through is no line feed, where the test doesn't let that through
no_feed_by : (P : ℕ → Bool) → P 10 ≡ false → (b : ℕ) → P b ≡ true → (b == 10) ≡ false
no_feed_by P at b e = false_from_ne_true (b == 10) (λ same. false≢true (sym at ∙ ap P (sym ((unsigned_Decides b 10).0 same)) ∙ e))

-- ---- names of jobs and budgets
further_unfed : (bs : List ℕ) → list_all (λ c. is_ascii_lowercase c || is_ascii_digit c || c == 45) bs ≡ true → has_feed bs ≡ false
further_unfed [] are = refl
further_unfed (c ∷ bs) are =
    let parts = and_parts (is_ascii_lowercase c || is_ascii_digit c || c == 45) _ are in
    or_from (c == 10) (has_feed bs) (no_feed_by (λ x. is_ascii_lowercase x || is_ascii_digit x || x == 45) refl c parts.0) (further_unfed bs parts.1)

word_unfed : (w : List ℕ) → is_job_word w ≡ true → has_feed w ≡ false
word_unfed [] is = refl
word_unfed (b ∷ bs) is =
    let parts = and_parts (is_ascii_lowercase b) _ is in
    or_from (b == 10) (has_feed bs) (no_feed_by is_ascii_lowercase refl b parts.0) (further_unfed bs parts.1)

name_unfed : (w : List ℕ) → IsTrue (is_job_name w) → has_feed w ≡ false
name_unfed w is = word_unfed w (and_parts (is_job_word w) _ is).0

digits_unfed : (ds : List ℕ) → has_feed (map (λ d. 48 + d) ds) ≡ false
digits_unfed [] = refl
digits_unfed (d ∷ ds) =
    let here : ((48 + d) == 10) ≡ false = false_from_ne_true ((48 + d) == 10) (λ same. omega (arith, (unsigned_Decides (48 + d) 10).0 same)) in
    or_from ((48 + d) == 10) (has_feed (map (λ x. 48 + x) ds)) here (digits_unfed ds)

number_unfed : (n : ℕ) → IsBudget n → has_feed (decimal n) ≡ false
number_unfed n is = ap has_feed (decimal-digits_of n (omega (arith, is.some)) (omega (arith, is.few))) ∙ digits_unfed (digits_of 10 n)

budget_unfed : (most : Option ℕ) → IfSome most IsBudget → has_feed (budget_text most) ≡ false
budget_unfed None is = refl
budget_unfed (Some n) is = unfed_both (decimal n) (32 ∷ []) (number_unfed n is) refl

-- the token `}`
abbrev brace : List Token
brace = unwrap_or (tokens_at 125 (mark_of 125)) []

-- ---- what is left of a text without its blanks
filtered : (b : ℕ) (bs : List ℕ) (blank : Bool) → is_blank b ≡ blank → has_feed bs ≡ false → has_feed (cond (not blank) (b ∷ bs) bs) ≡ false
filtered b bs true is rest = rest
filtered b bs false is rest = or_from (b == 10) (has_feed bs) (no_feed_by (λ x. not (is_blank x)) refl b (not_from_false (is_blank b) is)) rest

all_filtered : (bs : List ℕ) → has_feed (filter (λ b. not (is_blank b)) bs) ≡ false
all_filtered [] = refl
all_filtered (b ∷ bs) = filtered b (filter (λ x. not (is_blank x)) bs) (is_blank b) refl (all_filtered bs)

module _ (keep : (text : List ℕ) (ts : List Token) → tokens text ≡ Some ts → text_of ts ≡ filter (λ b. not (is_blank b)) text) where
  system_unfed : (s : SystemParts) → SpellsSystem (system_text s) (system_of s) → has_feed (system_text s) ≡ false
  system_unfed s spelled =
      let rules = rules_words (system_of s).rules in
      let config = phrase_words (system_of s).config in
      let text = printed s.rules.symbols s.config in
      let whole : has_feed (text_of (system_words (system_of s))) ≡ false =
      ap has_feed (keep (system_text s) (system_words (system_of s)) spelled.tokens) ∙ all_filtered (system_text s) in
      let split : has_feed (text_of rules ++ 125 ∷ text) ≡ false = ap has_feed (sym (flat_map-append token_text rules (brace ++ config))) ∙ whole in
      let parts = unfed_parts (text_of rules) (125 ∷ text) split in
      unfed_both (123 ∷ (text_of rules ++ 125 ∷ [])) (32 ∷ text) (unfed_both (text_of rules) (125 ∷ []) parts.0 refl) parts.1

  pub line_unfed : (j : JobParts) → IsJob j → SpellsSystem (system_text (told_system j)) (system_of (told_system j)) → has_feed (job_line j) ≡ false
  line_unfed j is spelled =
      let system = system_text (told_system j) in
      unfed_both (codes "submit ") (j.name ++ 32 ∷ (budget_text j.budget ++ system)) refl
      (unfed_both j.name (32 ∷ (budget_text j.budget ++ system)) (name_unfed j.name is.name)
      (unfed_both (budget_text j.budget) system (budget_unfed j.budget is.budget) (system_unfed (told_system j) spelled)))
