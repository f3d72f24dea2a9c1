-- The line of a job submits it.
use Rattle.std.proofs.Common.{◌≡◌, ◌↔◌, ℕ, ◌≤◌, List, ◌∷◌, ◌++◌, None, Ok, false, length, refl, sym, ap, ◌∙◌, arith, length-append}
use Rattle.std.specs.Prelude.{codes}
use Rattle.ic_term.specs.Symbol.{Symbol}
use Rattle.ic_term.specs.Configuration.{Configuration, third_occurrence, occurrences}
use Rattle.ic_rules.specs.Rule.{Rule, numbered, is_lopsided}
use Rattle.ic_rules.specs.System.{SystemParts}
use Rattle.ic_rules.specs.Mirror.{IsOwnMirror}
use Rattle.ic_jobs.specs.Job.{JobParts, IsJob}
use Rattle.ic_text.specs.declared.limits.TheConstants.{MAX_NAME, MAX_TEXT}
use Rattle.ic_text.specs.Source.{IsPhrase}
use Rattle.ic_text.specs.SystemSource.{SystemPhrase}
use Rattle.ic_text.specs.SystemSense.{system_sense, system_parts}
use Rattle.ic_text.specs.SystemText.{SpellsSystem, ReadsSystem}
use Rattle.ic_text.specs.Text.{Spells, phrase_of, printed}
use Rattle.ic_commands.specs.declared.line.Line.{Line}
use Rattle.ic_commands.specs.declared.line.Line.TheVariants.{Command as Asks}
use Rattle.ic_commands.specs.LineText.{ReadsLine}
use Rattle.ic_commands.specs.LinePlain.{IsPlainly, budget_text}
use Rattle.ic_naming.specs.Naming.{told_name}
use Rattle.ic_dump.specs.Telling.{system_of, system_text, told_system, job_line, told}
use Rattle.ic_dump.specs.Submitting.{read_again, submit_of, Submits}
use Rattle.ic_text.specs.lemmas.WrittenTokens.{tokens-braces}
use Rattle.ic_dump.proofs.Sense.{IsWhole, is_system, has_sense, written_again}
use Rattle.ic_dump.proofs.Told.{told_renamed, told_whole}

module _ (spells : (table : List Symbol) (c : Configuration) → IsPhrase (phrase_of table c) → Spells (printed table c) (phrase_of table c)) where
  -- the text of a system spells it
  pub system_spelled : (s : SystemParts) → IsWhole s → SpellsSystem (system_text s) (system_of s)
  system_spelled s is =
      let phrase = is_system s is in
      record {
        phrase = phrase;
        tokens = tokens-braces (system_of s).rules (printed s.rules.symbols s.config) _ phrase.rules (spells s.rules.symbols s.config phrase.config).tokens;
      }

  module _ (one : (text : List ℕ) (s t : SystemPhrase) → SpellsSystem text s → SpellsSystem text t → s ≡ t)
      (third : (ns : List ℕ) → (third_occurrence ns ≡ None) ↔ ((n : ℕ) → occurrences n ns ≤ 2))
      (same : (r : Rule) → r.left ≡ r.right → (is_lopsided (numbered r) ≡ false) ↔ IsOwnMirror r) (two : (r : Rule) → (r.left ≡ r.right → ⊥) → is_lopsided (numbered r) ≡ false) where
    tokens-bracess : (s : SystemParts) → IsWhole s → length (system_text s) ≤ MAX_TEXT → ReadsSystem (system_text s) (Ok (system_parts (system_of s)))
    tokens-bracess s is short =
        let spelled = system_spelled s is in
        let sense = has_sense s is third same two in
        record {
          long = λ long. absurd (omega (arith, short, long));
          spelled = λ _ q other. sym sense ∙ ap system_sense (one (system_text s) (system_of s) q spelled other);
          malformed = λ _ none. absurd (none (system_of s) spelled);
        }

    module _ (plain : (line : Line) (text : List ℕ) → IsPlainly line text → ReadsLine text (Ok line)) where
      pub line_read : (j : JobParts) → IsJob j → length (job_line j) ≤ MAX_TEXT → ReadsLine (job_line j) (Ok (Asks (submit_of j)))
      line_read j is short =
          let s = told_system j in
          let fits : length (system_text s) ≤ MAX_TEXT =
          omega (
            arith,
            short,
            length-append (codes "submit ") (j.name ++ 32 ∷ (budget_text j.budget ++ system_text s)),
            length-append j.name (32 ∷ (budget_text j.budget ++ system_text s)),
            length-append (budget_text j.budget) (system_text s),
          ) in
          plain (Asks (submit_of j)) (job_line j) (record {
            system_text = system_text s;
            named = is.name;
            budget = is.budget;
            written = refl;
            short = short;
            reads = tokens-bracess s (told_whole j is) fits;
          })

      module _ (keeps : (ns : List ℕ) (n : ℕ) → occurrences n ns ≡ 1 → n ≤ MAX_NAME → told_name ns n ≡ n) where
        pub job_submitted : (j : JobParts) → IsJob j → length (job_line j) ≤ MAX_TEXT → Submits (job_line j) j
        job_submitted j is short =
            let names = told_renamed keeps j.config in
            record {
              system = read_again j;
              reads = line_read j is short;
              rename = names.rename;
              config = told j.config;
              renaming = names.is;
              alike = written_again (told_system j) (told_whole j is);
            }

-- the system that is read is written as the told one is
pub read_alike : (j : JobParts) → IsJob j → system_of (read_again j) ≡ system_of (told_system j)
read_alike j is = written_again (told_system j) (told_whole j is)
