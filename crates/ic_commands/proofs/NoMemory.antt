-- No line is read as want of memory.
use Rattle.std.proofs.Common.{◌≡◌, ℕ, ◌≤◌, Bool, true, false, cond, List, Option, None, Some, Result, Ok, Err, length, sym, ap, ◌∙◌, refl, ⊎_elim}
use Rattle.std.specs.Prelude.{nat_le}
use Rattle.std.proofs.lemmas.Bool.{false≢true, cases_lt}
use Rattle.std.specs.List.{list_all}
use Rattle.std.specs.Option.{option_map}
use Rattle.ic_term.specs.Configuration.{third_occurrence}
use Rattle.ic_rules.specs.RuleSet.{first_uncounted, first_repeated, first_lopsided}
use Rattle.ic_rules.specs.System.{SystemParts}
use Rattle.ic_rules.specs.declared.job_name.TheConstants.{MAX_JOB_NAME}
use Rattle.ic_text.specs.declared.limits.TheConstants.{MAX_TEXT}
use Rattle.ic_commands.specs.declared.limits.TheConstants.{MAX_RUN}
use Rattle.ic_commands.specs.declared.line.Line.{Line}
use Rattle.ic_text.specs.declared.fault.TextFault.{TextFault}
use Rattle.ic_text.specs.declared.fault.TextFault.TheVariants.{Syntax, Limit, Arity, NameCount, Name, Twice, Lopsided, Memory}
use Rattle.ic_text.specs.Name.{number_in}
use Rattle.ic_text.specs.Source.{phrase_names}
use Rattle.ic_text.specs.Sense.{has_its_arity}
use Rattle.ic_text.specs.SystemSource.{system_symbols}
use Rattle.ic_text.specs.SystemSense.{is_system_in_limits, system_table, rules_over, system_parts, unless_found, system_sense}
use Rattle.ic_commands.specs.LineSource.{LinePhrase, submit, copy, about, run}
use Rattle.ic_commands.specs.LineSense.{fits_budget, submitted, line_sense}
use Rattle.ic_commands.specs.LineText.{ReadsLine}

abbrev is_want : TextFault → Bool
is_want Syntax = false
is_want Limit = false
is_want Arity = false
is_want (NameCount i) = false
is_want (Name n) = false
is_want (Twice i) = false
is_want (Lopsided i) = false
is_want Memory = true

abbrev wants : {T : Type 0} → Result T TextFault → Bool
wants (Ok v) = false
wants (Err fault) = is_want fault

system_wants : (limits arities : Bool) (u t r l : Option ℕ) (parts : SystemParts)
    → wants (cond limits (cond arities (unless_found u NameCount (unless_found t Name (unless_found r Twice (unless_found l Lopsided (Ok parts))))) (Err Arity)) (Err Limit)) ≡ false
system_wants false arities u t r l parts = refl
system_wants true false u t r l parts = refl
system_wants true true (Some n) t r l parts = refl
system_wants true true None (Some n) r l parts = refl
system_wants true true None None (Some n) l parts = refl
system_wants true true None None None (Some n) parts = refl
system_wants true true None None None None parts = refl

submit_wants : (short fits : Bool) (name : List ℕ) (most : Option ℕ) (a : Result SystemParts TextFault) → wants a ≡ false
    → wants (cond short (cond fits (submitted name most a) (Err Limit)) (Err Limit)) ≡ false
submit_wants true true name most (Ok system) e = refl
submit_wants true true name most (Err fault) e = e
submit_wants true false name most a e = refl
submit_wants false fits name most a e = refl

unless_wants : (within : Bool) (line : Line) → wants {T = Line} (cond within (Ok line) (Err Limit)) ≡ false
unless_wants true line = refl
unless_wants false line = refl

copy_wants : (first second : Bool) (line : Line) → wants {T = Line} (cond first (cond second (Ok line) (Err Limit)) (Err Limit)) ≡ false
copy_wants true true line = refl
copy_wants true false line = refl
copy_wants false second line = refl

line_wants : (p : LinePhrase) → wants (line_sense p) ≡ false
line_wants (submit name most s) = submit_wants (nat_le (length name) MAX_JOB_NAME) (fits_budget most) name (option_map number_in most) (system_sense s)
    (system_wants (is_system_in_limits s) (list_all (has_its_arity (system_table s)) (system_symbols s)) (first_uncounted (rules_over s)) (third_occurrence (phrase_names s.config))
    (first_repeated (rules_over s)) (first_lopsided (rules_over s)) (system_parts s))
line_wants (copy old new) = copy_wants (nat_le (length old) MAX_JOB_NAME) (nat_le (length new) MAX_JOB_NAME) _
line_wants (about verb name) = unless_wants (nat_le (length name) MAX_JOB_NAME) _
line_wants (run digits) = unless_wants (nat_le (number_in digits) MAX_RUN) _
line_wants _ = refl

another : (a : Result Line TextFault) → Err Memory ≡ a → wants a ≡ false → ⊥
another a same apart = false≢true (sym apart ∙ ap wants (sym same))

pub no_memory : (text : List ℕ) → ¬ ReadsLine text (Err Memory)
no_memory text reads = ⊎_elim (λ long. another (Err Limit) (reads.long long) refl) by_phrase (cases_lt MAX_TEXT (length text))
  where
    by_phrase : length text ≤ MAX_TEXT → ⊥
    by_phrase short = another (Err Syntax) (reads.malformed short (λ p spells. another (line_sense p) (reads.spelled short p spells) (line_wants p))) refl
