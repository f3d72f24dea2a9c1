-- The parts of a line after the word that opens it.
use Rattle.std.proofs.Common.{◌≡◌, ◌&&◌, ◌≤◌, ℕ, Bool, true, false, cond, List, [], ◌∷◌, ◌++◌, Option, None, Some, Result, Ok, Err, length, IsTrue, IfSome, refl, sym, ap, ◌∙◌, subst}
use Rattle.std.specs.Prelude.{nat_le, codes}
use Rattle.std.specs.Option.{option_map}
use Rattle.std.proofs.lemmas.Bool.{false≢true, and_parts, false_from_ne_true}
use Rattle.ic_rules.specs.JobName.{is_job_name, is_job_word}
use Rattle.ic_rules.specs.System.{SystemParts}
use Rattle.ic_rules.specs.declared.job_name.TheConstants.{MAX_JOB_NAME}
use Rattle.ic_text.specs.declared.limits.TheConstants.{MAX_TEXT}
use Rattle.ic_text.specs.declared.fault.TextFault.{TextFault}
use Rattle.ic_text.specs.declared.fault.TextFault.TheVariants.{Syntax, Limit}
use Rattle.ic_jobs.specs.declared.command.Command.TheVariants as command
use Rattle.ic_commands.specs.declared.line.Line.{Line}
use Rattle.ic_commands.specs.declared.line.Line.TheVariants.{Command as Asks}
use Rattle.ic_commands.specs.declared.line.Opening.{Opening}
use Rattle.ic_commands.specs.declared.line.Opening.TheVariants as opening
use Rattle.ic_text.specs.Name.{number_in}
use Rattle.ic_text.specs.Token.{Token, word, mark, word_of, before, tokens}
use Rattle.ic_text.specs.Reading.{IsSpelling}
use Rattle.ic_text.specs.SystemSource.{SystemPhrase, IsSystemPhrase, system_words}
use Rattle.ic_text.specs.SystemSense.{system_sense}
use Rattle.ic_text.specs.SystemText.{ReadsSystem}
use Rattle.ic_commands.specs.LineSource.{LinePhrase, submit, copy, is_number, IsLine, number_words, line_words}
use Rattle.ic_commands.specs.LineSense.{unless_long, fits_budget, unless_unfit, submitted, line_sense}
use Rattle.ic_commands.specs.LineText.{IsSubmitText}
use Rattle.ic_commands.specs.inner.Line.{HasNoWord, number_word, is_number_or_none, is_nothing, opening_text, opening_of, IsLineOf, IsSubmitLine, ReadsAfter}
use Rattle.ic_text.specs.lemmas.ReadOnce.{some-injective, none_is_some}
use Rattle.ic_commands.proofs.LineReading.{is_sense_after, text-opening_of, opening_in, opens, opening_in-line, after_one}
use Rattle.ic_text.specs.lemmas.WordRuns.{before-none}
use Rattle.ic_commands.proofs.WordSplits.{front_word, front_is}

-- a text of no tokens
pub nothing_is : (o : Option (List Token)) → is_nothing o ≡ true → o ≡ Some []
nothing_is (Some []) is = refl
nothing_is _ is = absurd (false≢true is)

-- a job's name is a word of its bytes that isn't too long
pub job_name-parts : (w : List ℕ) → is_job_name w ≡ (is_job_word w && nat_le (length w) MAX_JOB_NAME)
job_name-parts [] = refl
job_name-parts (b ∷ bs) = refl

pub short_name : (w : List ℕ) (a : Result Line TextFault) → IsTrue (is_job_name w) → unless_long w a ≡ a
short_name w a is =
    let short : nat_le (length w) MAX_JOB_NAME ≡ true = (and_parts (is_job_word w) (nat_le (length w) MAX_JOB_NAME) (sym (job_name-parts w) ∙ is)).1 in
    rw short refl

pub long_name : (w : List ℕ) (a : Result Line TextFault) → is_job_word w ≡ true → (IsTrue (is_job_name w) → ⊥) → unless_long w a ≡ Err Limit
long_name w a named isnt =
    let long : nat_le (length w) MAX_JOB_NAME ≡ false =
    ap (λ b. b && nat_le (length w) MAX_JOB_NAME) (sym named) ∙ sym (job_name-parts w) ∙ false_from_ne_true (is_job_name w) isnt in
    rw long refl

pub word_of-named : (w : List ℕ) → is_job_word w ≡ true → word_of w ≡ word w ∷ []
word_of-named [] named = absurd (false≢true named)
word_of-named (b ∷ bs) named = refl

-- ---- what stands after `submit`

-- the number that a word is has the tokens of the word
number_words-of : (digits : List ℕ) → number_words (number_word digits) ≡ word_of digits
number_words-of [] = refl
number_words-of (b ∷ bs) = refl

number_is : (digits : List ℕ) → is_number_or_none digits ≡ true → IfSome (number_word digits) (λ ds. IsTrue (is_number ds))
number_is [] is = tt
number_is (b ∷ bs) is = is

-- After the name of a submit stand a number or none, and a system.
record IsNamed (name : List ℕ) (o : Option (List Token)) (p : LinePhrase) : Type 0 where
  most : Option (List ℕ)
  system : SystemPhrase
  line : IsLine (submit name most system)
  tokens : o ≡ Some (number_words most ++ system_words system)
  same : p ≡ submit name most system

named_as : (w n : List ℕ) (ts : List Token) (most : Option (List ℕ)) (s : SystemPhrase) → IsLine (submit n most s) → n ≡ w
    → word_of w ++ ts ≡ word n ∷ (number_words most ++ system_words s) → IsNamed w (Some ts) (submit n most s)
named_as [] n ts most s is name rest = absurd (false≢true (sym (ap is_job_word name) ∙ is.0))
named_as (b ∷ bs) n ts most s is name rest = record {
  most = most;
  system = s;
  line = (sym (ap is_job_word name) ∙ is.0, is.1, is.2);
  tokens = ap (λ us. Some (after_one us)) rest;
  same = λ i. submit (name i) most s;
}

named_some : (w text : List ℕ) (ts : List Token) (p : LinePhrase) → (w ≡ [] → HasNoWord text (Some ts)) → IsLine p → word (codes "submit") ∷ (word_of w ++ ts) ≡ line_words p → IsNamed w (Some ts) p
named_some w text ts p apart is e = by_line p is (ap opening_in e ∙ opening_in-line p) (ap after_one e)
  where
    by_line : (p : LinePhrase) → IsLine p → Some opening.Submit ≡ opens p → word_of w ++ ts ≡ after_one (line_words p) → IsNamed w (Some ts) p
    by_line (submit n most s) is first rest = named_as w n ts most s is (front_is w text (Some ts) (word n ∷ (number_words most ++ system_words s)) apart (ap Some rest)) rest
    by_line _ is first rest = cc

named_in : (w text : List ℕ) (o : Option (List Token)) (p : LinePhrase) → (w ≡ [] → HasNoWord text o) → IsLine p
    → before (word_of (codes "submit")) (before (word_of w) o) ≡ Some (line_words p) → IsNamed w o p
named_in w text None p apart is e = absurd (none_is_some (line_words p) e)
named_in w text (Some ts) p apart is e = named_some w text ts p apart is (some-injective _ _ e)

-- After the name and the number of a submit stands a system.
record IsSubmit (name digits : List ℕ) (o : Option (List Token)) (p : LinePhrase) : Type 0 where
  system : SystemPhrase
  phrase : IsSystemPhrase system
  named : is_job_word name ≡ true
  numbered : is_number_or_none digits ≡ true
  tokens : o ≡ Some (system_words system)
  same : p ≡ submit name (number_word digits) system

after_word : (w v : List ℕ) (o : Option (List Token)) (us : List Token) → before (word w ∷ []) o ≡ Some (word v ∷ us) → o ≡ Some us
after_word w v None us e = absurd (none_is_some (word v ∷ us) e)
after_word w v (Some ts) us e = ap (λ xs. Some (after_one xs)) (some-injective (word w ∷ ts) (word v ∷ us) e)

numbered_by : (name digits : List ℕ) (o : Option (List Token)) (p : LinePhrase) (most : Option (List ℕ)) (s : SystemPhrase) → IsLine (submit name most s)
    → front_word (number_words most ++ system_words s) ≡ digits → before (word_of digits) o ≡ Some (number_words most ++ system_words s) → p ≡ submit name most s
    → IsSubmit name digits o p
numbered_by name [] o p None s line front e same = record {
  system = s;
  phrase = line.2;
  named = line.0;
  numbered = refl;
  tokens = sym (before-none o) ∙ e;
  same = same;
}
numbered_by name (b ∷ bs) o p None s line front e same = cc
numbered_by name digits o p (Some []) s line front e same = absurd (false≢true line.1)
numbered_by name [] o p (Some (c ∷ cs)) s line front e same = cc
numbered_by name (b ∷ bs) o p (Some (c ∷ cs)) s line front e same = record {
  system = s;
  phrase = line.2;
  named = line.0;
  numbered = ap is_number (sym front) ∙ line.1;
  tokens = after_word (b ∷ bs) (c ∷ cs) o (system_words s) e;
  same = same ∙ ap (λ ds. submit name (Some ds) s) front;
}

numbered_in : (name digits source : List ℕ) (o : Option (List Token)) (p : LinePhrase) → (digits ≡ [] → HasNoWord source o) → IsNamed name (before (word_of digits) o) p
    → IsSubmit name digits o p
numbered_in name digits source o p apart named =
    numbered_by name digits o p named.most named.system named.line
    (front_is digits source o (number_words named.most ++ system_words named.system) apart named.tokens) named.tokens named.same

-- a name and a number within the limits leave the answer, and others don't
abbrev pub are_within : List ℕ → List ℕ → Bool
are_within w digits = is_job_name w && fits_budget (number_word digits)

within_limits : (w digits : List ℕ) (a : Result Line TextFault) → are_within w digits ≡ true → unless_long w (unless_unfit (number_word digits) a) ≡ a
within_limits w digits a is =
    let parts = and_parts (is_job_name w) (fits_budget (number_word digits)) is in
    short_name w (unless_unfit (number_word digits) a) parts.0 ∙ ap (λ (b : Bool). cond b a (Err Limit)) parts.1

past_limits : (w digits : List ℕ) (a : Result Line TextFault) → is_job_word w ≡ true → (are_within w digits ≡ true → ⊥) → unless_long w (unless_unfit (number_word digits) a) ≡ Err Limit
past_limits w digits a named isnt = by_name (is_job_name w) refl
  where
    by_budget : (fits : Bool) → is_job_name w ≡ true → fits_budget (number_word digits) ≡ fits → unless_unfit (number_word digits) a ≡ Err Limit
    by_budget true short e = absurd (isnt (λ i. short i && e i))
    by_budget false short e = ap (λ (b : Bool). cond b a (Err Limit)) e

    by_name : (short : Bool) → is_job_name w ≡ short → unless_long w (unless_unfit (number_word digits) a) ≡ Err Limit
    by_name true e = short_name w (unless_unfit (number_word digits) a) e ∙ by_budget (fits_budget (number_word digits)) e refl
    by_name false e = long_name w (unless_unfit (number_word digits) a) named (λ is. false≢true (sym e ∙ is))

-- the tokens after `submit` are those of no line
abbrev pub NoLine : List ℕ → Type 0
NoLine rest = (p : LinePhrase) → IsLine p → before (word_of (opening_text opening.Submit)) (tokens rest) ≡ Some (line_words p) → ⊥

module _ (rest w text digits source : List ℕ) (split : tokens rest ≡ before (word_of w) (tokens text)) (first : w ≡ [] → HasNoWord text (tokens text))
    (parted : tokens text ≡ before (word_of digits) (tokens source)) (second : digits ≡ [] → HasNoWord source (tokens source)) where
  -- a line that begins so is the submit of a system that the source spells
  submit_of : (p : LinePhrase) → IsLine p → before (word_of (opening_text opening.Submit)) (tokens rest) ≡ Some (line_words p) → IsSubmit w digits (tokens source) p
  submit_of p is e =
      let named = named_in w text (tokens text) p first is (sym (ap (before (word_of (codes "submit"))) split) ∙ e) in
      numbered_in w digits source (tokens source) p second (subst (λ o. IsNamed w o p) parted named)

  -- no line begins with other words
  none_reads : NoLine rest → ReadsAfter opening.Submit rest (Err Syntax)
  none_reads none = record { spelled = λ p is e. absurd (none p is e); malformed = λ _. refl }

  pub unnamed : is_job_word w ≡ false → ReadsAfter opening.Submit rest (Err Syntax)
  unnamed isnt = none_reads (λ p is e. false≢true (sym isnt ∙ (submit_of p is e).named))

  pub unnumbered : is_number_or_none digits ≡ false → ReadsAfter opening.Submit rest (Err Syntax)
  unnumbered isnt = none_reads (λ p is e. false≢true (sym isnt ∙ (submit_of p is e).numbered))

  pub unsystematic : ((s : SystemPhrase) → IsSpelling IsSystemPhrase system_words source s → ⊥) → ReadsAfter opening.Submit rest (Err Syntax)
  unsystematic none = none_reads (λ p is e. (let found = submit_of p is e in none found.system (record { phrase = found.phrase; tokens = found.tokens })))

  module _ (named : is_job_word w ≡ true) (numbered : is_number_or_none digits ≡ true) where
    -- and each such system makes one
    line_is : (s : SystemPhrase) → IsSystemPhrase s → IsLine (submit w (number_word digits) s)
    line_is s is = (named, number_is digits numbered, is)

    number_after : (s : SystemPhrase) → IsSpelling IsSystemPhrase system_words source s → tokens rest ≡ Some (word w ∷ (number_words (number_word digits) ++ system_words s))
    number_after s spells =
        let words = sym (number_words-of digits) in let name = word_of-named w named in
        split ∙ ap (before (word_of w)) (parted ∙ ap (before (word_of digits)) spells.tokens) ∙ (λ i. Some (name i ++ (words i ++ system_words s)))

    pub submit_spelled : (s : SystemPhrase) → IsSpelling IsSystemPhrase system_words source s → are_within w digits ≡ true → IsSubmitLine (before (word_of (opening_text opening.Submit)) (tokens rest))
    submit_spelled s spells within = (w, number_word digits, s, line_is s spells.phrase, ap (before (word_of (codes "submit"))) (number_after s spells), within)

    no_system : NoLine rest → (s : SystemPhrase) → IsSpelling IsSystemPhrase system_words source s → ⊥
    no_system none s spells = none (submit w (number_word digits) s) (line_is s spells.phrase) (ap (before (word_of (codes "submit"))) (number_after s spells))

    submit_sense : (a : Result Line TextFault) → ((s : SystemPhrase) → IsSpelling IsSystemPhrase system_words source s → a ≡ line_sense (submit w (number_word digits) s))
        → (p : LinePhrase) → IsLine p → before (word_of (opening_text opening.Submit)) (tokens rest) ≡ Some (line_words p) → a ≡ line_sense p
    submit_sense a means p is e =
        let found = submit_of p is e in
        means found.system (record { phrase = found.phrase; tokens = found.tokens }) ∙ sym (ap line_sense found.same)

    -- a name or a number past its limit passes one in front of a system
    submit_past : (are_within w digits ≡ true → ⊥) → (NoLine rest → ⊥) → ReadsAfter opening.Submit rest (Err Limit)
    submit_past isnt some = record {
      spelled = submit_sense (Err Limit) (λ s spells. sym (past_limits w digits (submitted w (option_map number_in (number_word digits)) (system_sense s)) named isnt));
      malformed = λ none. absurd (some none);
    }

    pub submit_past_system : (s : SystemPhrase) → IsSpelling IsSystemPhrase system_words source s → (are_within w digits ≡ true → ⊥) → ReadsAfter opening.Submit rest (Err Limit)
    submit_past_system s spells isnt = submit_past isnt (λ none. no_system none s spells)

    pub submit_past_read : (a : Result SystemParts TextFault) → length source ≤ MAX_TEXT → (are_within w digits ≡ true → ⊥) → ReadsSystem source a → ¬ (a ≡ Err Syntax)
        → ReadsAfter opening.Submit rest (Err Limit)
    submit_past_read a short isnt reads apart = submit_past isnt (λ none. apart (reads.malformed short (no_system none)))

    -- a submit is read as its system is
    pub submit_read : (a : Result SystemParts TextFault) → length source ≤ MAX_TEXT → are_within w digits ≡ true → ReadsSystem source a
        → ReadsAfter opening.Submit rest (submitted w (option_map number_in (number_word digits)) a)
    submit_read a short is reads =
        let most = option_map number_in (number_word digits) in
        record {
          spelled = submit_sense (submitted w most a) (λ s spells.
              ap (submitted w most) (reads.spelled short s spells) ∙ sym (within_limits w digits (submitted w most (system_sense s)) is));
          malformed = λ none. ap (submitted w most) (reads.malformed short (no_system none));
        }

-- ---- what stands after `copy`

-- After `copy` stand two names.
record IsCopy (ts : List Token) : Type 0 where
  old : List ℕ
  new : List ℕ
  old_named : is_job_word old ≡ true
  new_named : is_job_word new ≡ true
  tokens : ts ≡ word old ∷ word new ∷ []

copy_by : (ts : List Token) (p : LinePhrase) → IsLine p → Some opening.Copy ≡ opens p → ts ≡ after_one (line_words p) → IsCopy ts
copy_by ts (copy a b) is first rest = record { old = a; new = b; old_named = is.0; new_named = is.1; tokens = rest }
copy_by ts _ is first rest = cc

copy_in : (o : Option (List Token)) (p : LinePhrase) → IsLine p → before (word_of (codes "copy")) o ≡ Some (line_words p) → (ts : List Token) × (o ≡ Some ts) × IsCopy ts
copy_in None p is e = absurd (none_is_some (line_words p) e)
copy_in (Some ts) p is e =
    let same : word (codes "copy") ∷ ts ≡ line_words p = some-injective _ _ e in
    (ts, refl, copy_by ts p is (ap opening_in same ∙ opening_in-line p) (ap after_one same))

-- other tokens are those of no copy
no_copy : (rest : List ℕ) → ((old new : List ℕ) → is_job_word old ≡ true → is_job_word new ≡ true → tokens rest ≡ Some (word old ∷ word new ∷ []) → ⊥)
    → ReadsAfter opening.Copy rest (Err Syntax)
no_copy rest none = record {
  spelled = λ p is e. (let found = copy_in (tokens rest) p is e in let c = found.2 in
      absurd (none c.old c.new c.old_named c.new_named (found.1 ∙ ap Some c.tokens)));
  malformed = λ _. refl;
}

-- the text after the first word of two has the second
second_alone : (w v u : List ℕ) (o : Option (List Token)) → v ≡ w → is_job_word v ≡ true → before (word_of w) o ≡ Some (word v ∷ word u ∷ []) → o ≡ Some (word u ∷ [])
second_alone [] v u o same named e = absurd (false≢true (sym (ap is_job_word same) ∙ named))
second_alone (b ∷ bs) v u o same named e = after_word (b ∷ bs) v o (word u ∷ []) e

module _ (rest w text : List ℕ) (split : tokens rest ≡ before (word_of w) (tokens text)) (front : w ≡ [] → HasNoWord text (tokens text)) where
  copy_parts : (old new : List ℕ) → is_job_word old ≡ true → tokens rest ≡ Some (word old ∷ word new ∷ []) → (old ≡ w) × (tokens text ≡ Some (word new ∷ []))
  copy_parts old new named e =
      let whole : before (word_of w) (tokens text) ≡ Some (word old ∷ word new ∷ []) = sym split ∙ e in
      let same : old ≡ w = front_is w text (tokens text) (word old ∷ word new ∷ []) front whole in
      (same, second_alone w old new (tokens text) same named whole)

  pub copy_unparted : ((u : List ℕ) → ¬ (tokens text ≡ Some (word u ∷ []))) → ReadsAfter opening.Copy rest (Err Syntax)
  copy_unparted none = no_copy rest (λ old new first second e. none new (copy_parts old new first e).1)

  pub copy_unnamed : (u : List ℕ) → tokens text ≡ Some (word u ∷ []) → (is_job_word w && is_job_word u) ≡ false → ReadsAfter opening.Copy rest (Err Syntax)
  copy_unnamed u one isnt = no_copy rest (λ old new first second e.
      (let parts = copy_parts old new first e in
      let same = some-injective (word new ∷ []) (word u ∷ []) (sym parts.1 ∙ one) in
      let a : is_job_word w ≡ true = ap is_job_word (sym parts.0) ∙ first in
      let b : is_job_word u ≡ true = ap is_job_word (sym (ap front_word same)) ∙ second in
      let both : (is_job_word w && is_job_word u) ≡ true = (λ i. a i && b i) in
      false≢true (sym isnt ∙ both)))

  -- two names are those of a copy
  pub copy_sense : (u : List ℕ) → tokens text ≡ Some (word u ∷ []) → is_job_word w ≡ true → is_job_word u ≡ true → ReadsAfter opening.Copy rest (line_sense (copy w u))
  copy_sense u one first second =
      let two : tokens rest ≡ Some (word w ∷ word u ∷ []) =
      split ∙ ap (before (word_of w)) one ∙ ap (λ ws. Some (ws ++ word u ∷ [])) (word_of-named w first) in
      is_sense_after opening.Copy rest (word w ∷ word u ∷ []) (copy w u) tt (first, second) two refl

pub copy_short : (v w : List ℕ) → IsTrue (is_job_name v) → IsTrue (is_job_name w) → line_sense (copy v w) ≡ Ok (Asks (command.CopyJob v w))
copy_short v w first second = short_name v (unless_long w (Ok (Asks (command.CopyJob v w)))) first ∙ short_name w (Ok (Asks (command.CopyJob v w))) second

pub copy_past : (v w : List ℕ) → is_job_word v ≡ true → is_job_word w ≡ true → ((is_job_name v && is_job_name w) ≡ true → ⊥) → line_sense (copy v w) ≡ Err Limit
copy_past v w first second isnt = by_first (is_job_name v) refl
  where
    by_first : (short : Bool) → is_job_name v ≡ short → line_sense (copy v w) ≡ Err Limit
    by_first true e =
        short_name v (unless_long w (Ok (Asks (command.CopyJob v w)))) e
        ∙ long_name w (Ok (Asks (command.CopyJob v w))) second (λ is. isnt (λ i. e i && is i))
    by_first false e = long_name v (unless_long w (Ok (Asks (command.CopyJob v w)))) first (λ is. false≢true (sym e ∙ is))

-- ---- a submit in front of a text that is read as a system

-- tokens begin with a word
abbrev begins_with_word : List Token → Bool
begins_with_word [] = false
begins_with_word (word w ∷ ts) = true
begins_with_word (mark m ∷ ts) = false

-- a text that is read as a system begins with no number
no_number : (text : List ℕ) (a : Result SystemParts TextFault) (digits : List ℕ) (s : SystemPhrase) → length text ≤ MAX_TEXT → ReadsSystem text a → ¬ (a ≡ Err Syntax)
    → tokens text ≡ Some (word digits ∷ system_words s) → ⊥
no_number text a digits s short reads apart e =
    apart (reads.malformed short (λ t spells. (let both = some-injective _ _ (sym e ∙ spells.tokens) in false≢true (sym (ap begins_with_word both)))))

module _ (rest w text : List ℕ) (split : tokens rest ≡ before (word_of w) (tokens text)) (named : is_job_word w ≡ true)
    (a : Result SystemParts TextFault) (short : length text ≤ MAX_TEXT) (reads : ReadsSystem text a) (apart : ¬ (a ≡ Err Syntax)) where
  -- a line that begins so is the submit of a system that the text spells
  record IsUnnumbered (p : LinePhrase) : Type 0 where
    system : SystemPhrase
    spells : IsSpelling IsSystemPhrase system_words text system
    same : p ≡ submit w None system

  unnumbered_by : (p : LinePhrase) (most : Option (List ℕ)) (s : SystemPhrase) → IsLine (submit w most s) → tokens text ≡ Some (number_words most ++ system_words s)
      → p ≡ submit w most s → IsUnnumbered p
  unnumbered_by p None s line e same = record { system = s; spells = record { phrase = line.2; tokens = e }; same = same }
  unnumbered_by p (Some digits) s line e same = absurd (no_number text a digits s short reads apart e)

  unnumbered_of : (p : LinePhrase) → IsLine p → before (word_of (opening_text opening.Submit)) (tokens rest) ≡ Some (line_words p) → IsUnnumbered p
  unnumbered_of p is e =
      let n = named_in w text (tokens text) p (λ none. absurd (false≢true (sym (ap is_job_word none) ∙ named))) is (sym (ap (before (word_of (codes "submit"))) split) ∙ e) in
      unnumbered_by p n.most n.system n.line n.tokens n.same

  some_line : NoLine rest → ⊥
  some_line none = apart (reads.malformed short (λ s spells.
      none (submit w None s) (named, tt, spells.phrase)
      (ap (before (word_of (codes "submit"))) (split ∙ ap (before (word_of w)) spells.tokens ∙ ap (λ ws. Some (ws ++ system_words s)) (word_of-named w named)))))

  pub submit_too_long : (IsTrue (is_job_name w) → ⊥) → ReadsAfter opening.Submit rest (Err Limit)
  submit_too_long isnt = record {
    spelled = λ p is e. (let found = unnumbered_of p is e in
        sym (long_name w (unless_unfit None (submitted w None (system_sense found.system))) named isnt) ∙ sym (ap line_sense found.same));
    malformed = λ none. absurd (some_line none);
  }

  pub submit_alone : IsTrue (is_job_name w) → ReadsAfter opening.Submit rest (submitted w None a)
  submit_alone is_name = record {
    spelled = λ p is e. (let found = unnumbered_of p is e in
        ap (submitted w None) (reads.spelled short found.system found.spells)
        ∙ sym (short_name w (unless_unfit None (submitted w None (system_sense found.system))) is_name) ∙ sym (ap line_sense found.same));
    malformed = λ none. absurd (some_line none);
  }

-- a line is read as what stands after its first word
pub line_after : (text w rest : List ℕ) (o : Opening) (a : Result Line TextFault) → tokens text ≡ before (word_of w) (tokens rest)
    → opening_of w ≡ Some o → ReadsAfter o rest a → IsLineOf (tokens text) a
line_after text w rest o a split opens reads =
    subst (λ x. IsLineOf x a) (sym (split ∙ ap (λ x. before (word_of x) (tokens rest)) (text-opening_of w o opens))) reads

-- and is the submit that stands after the word `submit`
pub submit_line : (text w rest : List ℕ) → tokens text ≡ before (word_of w) (tokens rest) → opening_of w ≡ Some opening.Submit
    → IsSubmitLine (before (word_of (opening_text opening.Submit)) (tokens rest)) → IsSubmitLine (tokens text)
submit_line text w rest split opens is =
    subst IsSubmitLine (sym (split ∙ ap (λ x. before (word_of x) (tokens rest)) (text-opening_of w opening.Submit opens))) is

pub submit_text : (text : List ℕ) → length text ≤ MAX_TEXT → IsSubmitLine (tokens text) → IsSubmitText text
submit_text text short is = (short, (is.0, is.1, is.2, record { phrase = is.3; tokens = is.4 }, is.5))
