-- Lines of scripts.
use Rattle.std.proofs.Common.{◌≡◌, ◌≤◌, ◌+◌, ℕ, Bool, true, false, cond, List, [], ◌∷◌, ◌++◌, None, Some, Result, Ok, Err, length, refl, sym, ap, ◌∙◌, arith}
use Rattle.std.specs.Prelude.{codes, nat_le}
use Rattle.std.specs.Str.{bytes_eq}
use Rattle.std.proofs.lemmas.Bool.{false≢true}
use Rattle.ic_jobs.specs.declared.command.Command.{Command}
use Rattle.ic_text.specs.declared.limits.TheConstants.{MAX_TEXT}
use Rattle.ic_commands.specs.declared.limits.TheConstants.{MAX_RUN}
use Rattle.ic_text.specs.declared.fault.TextFault.{TextFault}
use Rattle.ic_text.specs.declared.fault.TextFault.TheVariants.{Syntax, Limit, Memory}
use Rattle.ic_commands.specs.declared.line.Line.{Line}
use Rattle.ic_commands.specs.declared.line.Line.TheVariants.{Blank, Command as Asks, Run}
use Rattle.ic_commands.specs.declared.line.Verb.TheVariants.{Pause}
use Rattle.ic_text.specs.Name.{number_in}
use Rattle.ic_text.specs.Token.{word_of, before, tokens}
use Rattle.ic_commands.specs.LineSource.{LinePhrase, about, run, line_words}
use Rattle.ic_commands.specs.LineSense.{line_sense}
use Rattle.ic_commands.specs.LineText.{SpellsLine, ReadsLine}
use Rattle.ic_commands.specs.ScriptSense.{without_run, script_sense, ReadsScriptLine}
use Rattle.ic_commands.specs.inner.Line.{HasNoWord}
use Rattle.ic_commands.specs.inner.ScriptLine.{is_run}
use Rattle.ic_text.specs.lemmas.WordRuns.{tokens-parted, before-none}
use Rattle.ic_commands.proofs.WordSplits.{front_word, front_is}

opens_run : (p : LinePhrase) → bytes_eq (front_word (line_words p)) (codes "run") ≡ is_run p
opens_run (about Pause name) = refl
opens_run _ = refl

-- the first word tells whether a line is a run
pub tells_run : (text w rest : List ℕ) → tokens text ≡ before (word_of w) (tokens rest) → (w ≡ [] → HasNoWord rest (tokens rest))
    → (p : LinePhrase) → SpellsLine text p → is_run p ≡ bytes_eq w (codes "run")
tells_run text w rest split apart p spells =
    sym (opens_run p) ∙ ap (λ x. bytes_eq x (codes "run")) (front_is w rest (tokens rest) (line_words p) apart (sym split ∙ spells.tokens))

-- ---- readings

run_sense : (p : LinePhrase) → is_run p ≡ true → Err Syntax ≡ script_sense p
run_sense (run digits) e = refl
run_sense _ e = absurd (false≢true e)

other_sense : (p : LinePhrase) → is_run p ≡ false → without_run (line_sense p) ≡ script_sense p
other_sense (run digits) e = absurd (false≢true (sym e))
other_sense _ e = refl

pub reads_run : (text : List ℕ) → length text ≤ MAX_TEXT → ((p : LinePhrase) → SpellsLine text p → is_run p ≡ true) → ReadsScriptLine text (Err Syntax)
reads_run text short runs = record {
  long = λ long. absurd (omega arith);
  spelled = λ _ p spells. run_sense p (runs p spells);
  malformed = λ _ _. refl;
}

pub reads_other : (text : List ℕ) (a : Result Line TextFault) → (length text ≤ MAX_TEXT → (p : LinePhrase) → SpellsLine text p → is_run p ≡ false)
    → ReadsLine text a → ReadsScriptLine text (without_run a)
reads_other text a others reads = record {
  long = λ long. ap without_run (reads.long long);
  spelled = λ short p spells. ap without_run (reads.spelled short p spells) ∙ other_sense p (others short p spells);
  malformed = λ short none. ap without_run (reads.malformed short none);
}

-- ---- laws

not_run : (p : LinePhrase) → ((digits : List ℕ) → p ≡ run digits → ⊥) → is_run p ≡ false
not_run (run digits) none = absurd (none digits refl)
not_run _ none = refl

pub reads_unless_run : (text : List ℕ) (a : Result Line TextFault) → ((digits : List ℕ) → ¬ SpellsLine text (run digits)) → ReadsLine text a
    → ReadsScriptLine text (without_run a)
reads_unless_run text a none reads =
    reads_other text a (λ short p spells. not_run p (λ digits is. none digits (subst_line digits p is spells))) reads
  where
    subst_line : (digits : List ℕ) (p : LinePhrase) → p ≡ run digits → SpellsLine text p → SpellsLine text (run digits)
    subst_line digits p is spells = rw (← is) spells

-- what is read as so much is no run with another number
same_sense : (p : LinePhrase) (a : Result Line TextFault) → a ≡ line_sense p → ((k : ℕ) → a ≡ Ok (Run k) → ⊥) → (a ≡ Err Limit → ⊥) → without_run a ≡ script_sense p
same_sense (run digits) a e run_apart limit_apart = by_number (nat_le (number_in digits) MAX_RUN) e
  where
    by_number : (within : Bool) → a ≡ cond within (Ok (Run (number_in digits))) (Err Limit) → without_run a ≡ Err Syntax
    by_number true is = absurd (run_apart (number_in digits) is)
    by_number false is = absurd (limit_apart is)
same_sense _ a e run_apart limit_apart = ap without_run e

reads_same : (text : List ℕ) (a : Result Line TextFault) → ((k : ℕ) → a ≡ Ok (Run k) → ⊥) → (a ≡ Err Limit → ⊥) → ReadsLine text a → ReadsScriptLine text (without_run a)
reads_same text a run_apart limit_apart reads = record {
  long = λ long. ap without_run (reads.long long);
  spelled = λ short p spells. same_sense p a (reads.spelled short p spells) run_apart limit_apart;
  malformed = λ short none. ap without_run (reads.malformed short none);
}

pub reads_command : (text : List ℕ) (c : Command) → ReadsLine text (Ok (Asks c)) → ReadsScriptLine text (Ok (Some c))
reads_command text c reads = reads_same text (Ok (Asks c)) (λ k e. cc) (λ e. cc) reads

pub reads_blank : (text : List ℕ) → ReadsLine text (Ok Blank) → ReadsScriptLine text (Ok None)
reads_blank text reads = reads_same text (Ok Blank) (λ k e. cc) (λ e. cc) reads

run_or_same : (p : LinePhrase) (k : ℕ) → Ok (Run k) ≡ line_sense p → Err Syntax ≡ script_sense p
run_or_same (run digits) k e = refl
run_or_same _ k e = ap without_run e

pub reads_numbered : (text : List ℕ) (k : ℕ) → ReadsLine text (Ok (Run k)) → ReadsScriptLine text (Err Syntax)
reads_numbered text k reads = record {
  long = λ long. ap without_run (reads.long long);
  spelled = λ short p spells. run_or_same p k (reads.spelled short p spells);
  malformed = λ short none. refl;
}

run_apart : codes "run" ≡ [] → ⊥
run_apart e = cc

pub any_run : (rest : List ℕ) → length rest + 4 ≤ MAX_TEXT → ReadsScriptLine (codes "run " ++ rest) (Err Syntax)
any_run rest room =
    let split : tokens (codes "run" ++ 32 ∷ rest) ≡ before (word_of (codes "run")) (tokens rest) =
    tokens-parted (codes "run") rest 32 refl ∙ ap (before (word_of (codes "run"))) (before-none (tokens rest)) in
    reads_run (codes "run" ++ 32 ∷ rest) (omega (arith, room)) (tells_run (codes "run" ++ 32 ∷ rest) (codes "run") rest split (λ e. absurd (run_apart e)))

pub run_alone : ReadsScriptLine (codes "run") (Err Syntax)
run_alone = reads_run (codes "run") (omega arith) (tells_run (codes "run") (codes "run") [] refl (λ e. absurd (run_apart e)))

-- ---- no want of memory

pub memory_of : (a : Result Line TextFault) → Err Memory ≡ without_run a → Err Memory ≡ a
memory_of (Ok Blank) e = cc
memory_of _ e = cc

memory_sense : (p : LinePhrase) → Err Memory ≡ script_sense p → Err Memory ≡ line_sense p
memory_sense (run digits) e = cc
memory_sense p e = memory_of (line_sense p) e

pub memory_reads : (text : List ℕ) → ReadsScriptLine text (Err Memory) → ReadsLine text (Err Memory)
memory_reads text reads = record {
  long = λ long. (let e = reads.long long in cc);
  spelled = λ short p spells. memory_sense p (reads.spelled short p spells);
  malformed = λ short none. (let e = reads.malformed short none in cc);
}
