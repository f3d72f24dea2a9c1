-- Laws of lines: numbers and their texts, and a submit with its system.
use Rattle.std.proofs.Common.{◌≡◌, ℕ, zero, suc, ◌+◌, ◌*◌, ◌<◌, ◌≤◌, ◌^◌, ◌&&◌, ◌||◌, ◌==◌, not, Bool, true, false, cond, inl, inr, ◌⊎◌, List, [], ◌∷◌, ◌++◌, Option, None, Some, Result, Ok, Err, length, IsTrue, refl, sym, ap, ◌∙◌, subst, arith, ⊎_elim, length-append}
use Rattle.std.specs.Prelude.{codes, nat_le, nat_lt}
use Rattle.std.specs.Option.{option_map}
use Rattle.std.specs.Str.{bytes_eq}
use Rattle.std.specs.Fmt.{decimal}
use Rattle.std.proofs.lemmas.Fmt.{decimal_digit, length-decimal-le}
use Rattle.std.specs.List.{list_all}
use Rattle.std.specs.Char.{is_ascii_lowercase, is_ascii_digit}
use Rattle.std.specs.Cmp.{unsigned_Decides}
use Rattle.std.specs.Cmp.Lexicographic.{bytes_decides}
use Rattle.std.proofs.lemmas.Bool.Decides.{nat_tests}
use Rattle.std.proofs.lemmas.Bool.{false≢true, and_parts, or_cases, or_right, lt-ltb, le-leb}
use Rattle.ic_rules.specs.JobName.{is_job_name, is_job_word}
use Rattle.ic_rules.specs.System.{SystemParts}
use Rattle.ic_rules.specs.declared.job_name.TheConstants.{MAX_JOB_NAME}
use Rattle.ic_text.specs.declared.limits.TheConstants.{MAX_TEXT}
use Rattle.ic_commands.specs.declared.limits.TheConstants.{MAX_RUN}
use Rattle.ic_text.specs.declared.fault.TextFault.{TextFault}
use Rattle.ic_text.specs.declared.fault.TextFault.TheVariants.{Syntax, Limit}
use Rattle.ic_text.specs.Name.{is_name, is_numeral, name_text, name_number, number_in}
use Rattle.ic_text.specs.Token.{word, is_blank, is_word_byte, word_of, before, followed, tokens}
use Rattle.ic_text.specs.SystemText.{ReadsSystem}
use Rattle.ic_jobs.specs.Budget.{IsBudget}
use Rattle.ic_jobs.specs.declared.limits.TheConstants.{MAX_BUDGET}
use Rattle.ic_jobs.specs.declared.command.Command.TheVariants as command
use Rattle.ic_commands.specs.declared.line.Line.{Line}
use Rattle.ic_commands.specs.declared.line.Line.TheVariants.{Blank, Command as Asks, Run}
use Rattle.ic_commands.specs.declared.line.Opening.TheVariants as opening
use Rattle.ic_commands.specs.declared.line.Verb.{Verb}
use Rattle.ic_commands.specs.declared.line.Verb.TheVariants.{Pause}
use Rattle.ic_commands.specs.LineSource.{nothing, copy, about, list, run, is_number, verb_text}
use Rattle.ic_commands.specs.LineSense.{submitted, asked, fits_budget, unless_long, line_sense}
use Rattle.ic_commands.specs.LineText.{ReadsLine}
use Rattle.ic_commands.specs.inner.Line.{HasNoWord, number_word, is_number_or_none, IsLineOf, ReadsAfter}
use Rattle.ic_text.specs.lemmas.NameLemmas.{is_name-name_text, name_number-name_text, name_text-name_number}
use Rattle.ic_text.specs.lemmas.NameTexts.{name_text-digits}
use Rattle.ic_text.specs.lemmas.WordRuns.{tokens-parted, tokens-run, before-none}
use Rattle.ic_commands.proofs.LineReading.{is_sense, is_sense_after, reads_line}
use Rattle.ic_commands.proofs.LineParts.{job_name-parts, copy_sense, copy_short, short_name, word_of-named, are_within, submit_read, submit_past_read, submit_alone, submit_too_long}

-- a number's text after the letter a is the text of a name
named : (n : ℕ) → 0 < n → n < 2 ^ 64 → name_text (26 * n + 0) ≡ 97 ∷ decimal n
named n some fits = name_text-digits n 0 some fits (omega arith)

numeral-decimal : (n : ℕ) → 0 < n → n < 2 ^ 64 → is_numeral (decimal n) ≡ true
numeral-decimal n some fits = sym (ap is_name (named n some fits)) ∙ is_name-name_text (26 * n + 0)

value-decimal : (n : ℕ) → 0 < n → n < 2 ^ 64 → number_in (decimal n) ≡ n
value-decimal n some fits =
    let e : 26 * number_in (decimal n) + 0 ≡ 26 * n + 0 = sym (ap name_number (named n some fits)) ∙ name_number-name_text (26 * n + 0) in
    omega (arith, e)

number-numeral : (w : List ℕ) → is_numeral w ≡ true → 0 < number_in w → is_number w ≡ true
number-numeral [] is some = absurd (omega arith)
number-numeral (d ∷ ds) is some = or_right (bytes_eq (d ∷ ds) (codes "0")) (is_numeral (d ∷ ds)) is

decimal-zero : decimal 0 ≡ 48 ∷ []
decimal-zero = decimal_digit 0 (omega arith)

pub number-decimal : (n : ℕ) → n < 2 ^ 64 → IsTrue (is_number (decimal n))
number-decimal zero fits = ap is_number decimal-zero
number-decimal (suc n) fits =
    let value = value-decimal (suc n) (omega arith) fits in
    number-numeral (decimal (suc n)) (numeral-decimal (suc n) (omega arith) fits) (omega (arith, value))

pub value-of-decimal : (n : ℕ) → n < 2 ^ 64 → number_in (decimal n) ≡ n
value-of-decimal zero fits = ap number_in decimal-zero
value-of-decimal (suc n) fits = value-decimal (suc n) (omega arith) fits

-- digits without a leading zero are the text of what they write
numeral-text : (w : List ℕ) → is_numeral w ≡ true → 0 < length w → number_in w < 2 ^ 64 → w ≡ decimal (number_in w)
numeral-text w is filled fits = by_number (number_in w) refl
  where
    whole : name_text (26 * number_in w + 0) ≡ 97 ∷ w
    whole = name_text-name_number (97 ∷ w) is

    by_number : (n : ℕ) → number_in w ≡ n → w ≡ decimal (number_in w)
    by_number zero e =
        let short : 97 ∷ [] ≡ 97 ∷ w = ap (λ n. name_text (26 * n + 0)) (sym e) ∙ whole in
        let none : 1 ≡ suc (length w) = ap length short in
        absurd (omega (arith, none))
    by_number (suc n) e =
        let same : 97 ∷ w ≡ 97 ∷ decimal (number_in w) = sym whole ∙ named (number_in w) (omega (arith, e)) fits in
        cc

pub number-text : (w : List ℕ) → IsTrue (is_number w) → number_in w < 2 ^ 64 → w ≡ decimal (number_in w)
number-text [] is fits = absurd (false≢true is)
number-text (d ∷ ds) is fits = ⊎_elim zero_text (λ e. numeral-text (d ∷ ds) e (omega arith) fits) (or_cases (bytes_eq (d ∷ ds) (codes "0")) (is_numeral (d ∷ ds)) is)
  where
    zero_text : bytes_eq (d ∷ ds) (codes "0") ≡ true → d ∷ ds ≡ decimal (number_in (d ∷ ds))
    zero_text e = let same : d ∷ ds ≡ 48 ∷ [] = (bytes_decides (d ∷ ds) (codes "0")).0 e in same ∙ sym decimal-zero ∙ ap (λ x. decimal (number_in x)) (sym same)

-- the bytes of a job's name are those of a word
letter_byte : (b : ℕ) → is_ascii_lowercase b ≡ true → is_word_byte b ≡ true
letter_byte b is = grind (arith, nat_tests)

name_byte : (c : ℕ) → (is_ascii_lowercase c || is_ascii_digit c || c == 45) ≡ true → is_word_byte c ≡ true
name_byte c is = grind (arith, nat_tests)

name_bytes : (bs : List ℕ) → list_all (λ c. is_ascii_lowercase c || is_ascii_digit c || c == 45) bs ≡ true → list_all is_word_byte bs ≡ true
name_bytes [] are = refl
name_bytes (b ∷ bs) are =
    let parts = and_parts (is_ascii_lowercase b || is_ascii_digit b || b == 45) (list_all (λ c. is_ascii_lowercase c || is_ascii_digit c || c == 45) bs) are in
    rw (name_byte b parts.0) (name_bytes bs parts.1)

tokens-name : (name : List ℕ) → is_job_word name ≡ true → tokens name ≡ Some (word_of name)
tokens-name [] is = absurd (false≢true is)
tokens-name (b ∷ bs) is =
    let parts = and_parts (is_ascii_lowercase b) (list_all (λ c. is_ascii_lowercase c || is_ascii_digit c || c == 45) bs) is in
    tokens-run b bs (rw (letter_byte b parts.0) (name_bytes bs parts.1))

-- a word in front of a space
after_space : (w rest : List ℕ) → tokens w ≡ Some (word_of w) → tokens (w ++ 32 ∷ rest) ≡ before (word_of w) (tokens rest)
after_space w rest alone =
    tokens-parted w rest 32 refl ∙ ap (λ o. followed o (followed (Some []) (tokens rest))) alone ∙ ap (before (word_of w)) (before-none (tokens rest))

-- a line whose words after `submit` are read so is
submit_reads : (name text : List ℕ) (a : Result Line TextFault) → length (codes "submit " ++ name ++ 32 ∷ text) ≤ MAX_TEXT
    → ReadsAfter opening.Submit (name ++ 32 ∷ text) a → ReadsLine (codes "submit " ++ name ++ 32 ∷ text) a
submit_reads name text a short reads =
    let rest = name ++ 32 ∷ text in
    let whole : tokens (codes "submit" ++ 32 ∷ rest) ≡ before (word_of (codes "submit")) (tokens rest) = after_space (codes "submit") rest refl in
    reads_line (codes "submit" ++ 32 ∷ rest) a short (subst (λ o. IsLineOf o a) (sym whole) reads)

pub submit_without : (name text : List ℕ) (a : Result SystemParts TextFault) → IsTrue (is_job_name name) → length (codes "submit " ++ name ++ 32 ∷ text) ≤ MAX_TEXT
    → ReadsSystem text a → ¬ (a ≡ Err Syntax) → ReadsLine (codes "submit " ++ name ++ 32 ∷ text) (submitted name None a)
submit_without name text a is short reads apart =
    let parts = and_parts (is_job_word name) _ (sym (job_name-parts name) ∙ is) in
    let split = after_space name text (tokens-name name parts.0) in
    let inside : length text ≤ MAX_TEXT = omega (arith, short, length-append name (32 ∷ text)) in
    submit_reads name text (submitted name None a) short (submit_alone (name ++ 32 ∷ text) name text split parts.0 a inside reads apart is)

pub submit_text : (name text : List ℕ) (a : Result SystemParts TextFault) → IsTrue (is_job_name name) → length text + 24 ≤ MAX_TEXT
    → ReadsSystem text a → ¬ (a ≡ Err Syntax) → ReadsLine (codes "submit " ++ name ++ 32 ∷ text) (submitted name None a)
submit_text name text a is room reads apart =
    let parts = and_parts (is_job_word name) _ (sym (job_name-parts name) ∙ is) in
    let few : length name ≤ MAX_JOB_NAME = grind (arith, nat_tests, parts.1) in
    let short : length (codes "submit" ++ 32 ∷ (name ++ 32 ∷ text)) ≤ MAX_TEXT = omega (arith, few, room, length-append name (32 ∷ text)) in
    submit_without name text a is short reads apart

-- a verb and a job's name
pub about_text : (verb : Verb) (name : List ℕ) → tokens (verb_text verb) ≡ Some (word_of (verb_text verb)) → length (verb_text verb) ≤ 6 → IsTrue (is_job_name name)
    → ReadsLine (verb_text verb ++ 32 ∷ name) (Ok (Asks (asked verb name)))
about_text verb name alone small is =
    let parts = and_parts (is_job_word name) _ (sym (job_name-parts name) ∙ is) in
    let whole = after_space (verb_text verb) name alone in
    let few : length name ≤ MAX_JOB_NAME = grind (arith, nat_tests, parts.1) in
    let short : length (verb_text verb ++ 32 ∷ name) ≤ MAX_TEXT = omega (arith, few, small, length-append (verb_text verb) (32 ∷ name)) in
    let read = is_sense_after (opening.About verb) name (word name ∷ []) (about verb name) tt parts.0 (tokens-name name parts.0 ∙ ap Some (word_of-named name parts.0)) refl in
    reads_line (verb_text verb ++ 32 ∷ name) (Ok (Asks (asked verb name))) short
    (subst (λ o. IsLineOf o (Ok (Asks (asked verb name)))) (sym whole)
    (subst (IsLineOf (before (word_of (verb_text verb)) (tokens name))) (short_name name (Ok (Asks (asked verb name))) is) read))

some_name : (w text : List ℕ) → is_job_word w ≡ true → w ≡ [] → HasNoWord text (tokens text)
some_name w text is none = absurd (false≢true (sym (ap is_job_word none) ∙ is))

-- a copy and two names
copy_reads : (old new : List ℕ) (a : Result Line TextFault) → is_job_word old ≡ true → is_job_word new ≡ true → length old + length new + 6 ≤ MAX_TEXT
    → line_sense (copy old new) ≡ a → ReadsLine (codes "copy " ++ old ++ 32 ∷ new) a
copy_reads old new a first second room means =
    let rest = old ++ 32 ∷ new in
    let split = after_space old new (tokens-name old first) in
    let one : tokens new ≡ Some (word new ∷ []) = tokens-name new second ∙ ap Some (word_of-named new second) in
    let whole : tokens (codes "copy" ++ 32 ∷ rest) ≡ before (word_of (codes "copy")) (tokens rest) = after_space (codes "copy") rest refl in
    let short : length (codes "copy" ++ 32 ∷ rest) ≤ MAX_TEXT = omega (arith, room, length-append old (32 ∷ new)) in
    reads_line (codes "copy" ++ 32 ∷ rest) a short
    (subst (λ o. IsLineOf o a) (sym whole) (subst (ReadsAfter opening.Copy rest) means (copy_sense rest old new split (some_name old new first) new one first second)))

pub copy_text : (old new : List ℕ) → IsTrue (is_job_name old) → IsTrue (is_job_name new) → ReadsLine (codes "copy " ++ old ++ 32 ∷ new) (Ok (Asks (command.CopyJob old new)))
copy_text old new first second =
    let old_parts = and_parts (is_job_word old) _ (sym (job_name-parts old) ∙ first) in
    let new_parts = and_parts (is_job_word new) _ (sym (job_name-parts new) ∙ second) in
    let old_few : length old ≤ MAX_JOB_NAME = grind (arith, nat_tests, old_parts.1) in
    let new_few : length new ≤ MAX_JOB_NAME = grind (arith, nat_tests, new_parts.1) in
    copy_reads old new _ old_parts.0 new_parts.0 (omega (arith, old_few, new_few)) (copy_short old new first second)

-- names that are too long
too_long : (name : List ℕ) → MAX_JOB_NAME < length name → nat_le (length name) MAX_JOB_NAME ≡ false
too_long name many = grind (arith, nat_tests)

verb_alone : (verb : Verb) → tokens (verb_text verb) ≡ Some (word_of (verb_text verb))
verb_alone Pause = refl
verb_alone _ = refl

verb_short : (verb : Verb) → length (verb_text verb) ≤ 6
verb_short Pause = omega arith
verb_short _ = omega arith

pub about_long : (verb : Verb) (name : List ℕ) → IsTrue (is_job_word name) → MAX_JOB_NAME < length name → length name + 7 ≤ MAX_TEXT
    → ReadsLine (verb_text verb ++ 32 ∷ name) (Err Limit)
about_long verb name named many room =
    let whole = after_space (verb_text verb) name (verb_alone verb) in
    let short : length (verb_text verb ++ 32 ∷ name) ≤ MAX_TEXT = omega (arith, verb_short verb, room, length-append (verb_text verb) (32 ∷ name)) in
    let read = is_sense_after (opening.About verb) name (word name ∷ []) (about verb name) tt named (tokens-name name named ∙ ap Some (word_of-named name named)) refl in
    let limit : unless_long name (Ok (Asks (asked verb name))) ≡ Err Limit = rw (too_long name many) refl in
    reads_line (verb_text verb ++ 32 ∷ name) (Err Limit) short
    (subst (λ o. IsLineOf o (Err Limit)) (sym whole) (subst (IsLineOf (before (word_of (verb_text verb)) (tokens name))) limit read))

pub submit_long_name : (name text : List ℕ) (a : Result SystemParts TextFault) → IsTrue (is_job_word name) → MAX_JOB_NAME < length name
    → length name + length text + 8 ≤ MAX_TEXT → ReadsSystem text a → ¬ (a ≡ Err Syntax) → ReadsLine (codes "submit " ++ name ++ 32 ∷ text) (Err Limit)
submit_long_name name text a named many room reads apart =
    let split = after_space name text (tokens-name name named) in
    let short : length (codes "submit" ++ 32 ∷ (name ++ 32 ∷ text)) ≤ MAX_TEXT = omega (arith, room, length-append name (32 ∷ text)) in
    let isnt : IsTrue (is_job_name name) → ⊥ =
    (λ is. false≢true (sym (too_long name many) ∙ (and_parts (is_job_word name) (nat_le (length name) MAX_JOB_NAME) (sym (job_name-parts name) ∙ is)).1)) in
    submit_reads name text (Err Limit) short (submit_too_long (name ++ 32 ∷ text) name text split named a (omega (arith, room)) reads apart isnt)

unless_either_long : (first second : Bool) (a : Result Line TextFault) → (first && second) ≡ false → cond first (cond second a (Err Limit)) (Err Limit) ≡ Err Limit
unless_either_long true true a e = cc
unless_either_long true false a e = refl
unless_either_long false second a e = refl

not_both : (a b : Bool) → (a ≡ false) ⊎ (b ≡ false) → (a && b) ≡ false
not_both true b either = elim either [
  | inl e ↦ absurd (false≢true (sym e))
  | inr e ↦ e
]
not_both false b either = refl

pub copy_long : (old new : List ℕ) → IsTrue (is_job_word old) → IsTrue (is_job_word new) → (MAX_JOB_NAME < length old) ⊎ (MAX_JOB_NAME < length new)
    → length old + length new + 6 ≤ MAX_TEXT → ReadsLine (codes "copy " ++ old ++ 32 ∷ new) (Err Limit)
copy_long old new first second many room =
    let either : (nat_le (length old) MAX_JOB_NAME ≡ false) ⊎ (nat_le (length new) MAX_JOB_NAME ≡ false) =
    ⊎_elim (λ m. inl (too_long old m)) (λ m. inr (too_long new m)) many in
    copy_reads old new (Err Limit) first second room
    (unless_either_long (nat_le (length old) MAX_JOB_NAME) (nat_le (length new) MAX_JOB_NAME) (Ok (Asks (command.CopyJob old new))) (not_both _ _ either))

-- the digits of a number are one word
digit_byte : (c : ℕ) → is_ascii_digit c ≡ true → is_word_byte c ≡ true
digit_byte c is = grind (arith, nat_tests)

digit_bytes : (ds : List ℕ) → list_all is_ascii_digit ds ≡ true → list_all is_word_byte ds ≡ true
digit_bytes [] are = refl
digit_bytes (d ∷ ds) are = let parts = and_parts (is_ascii_digit d) (list_all is_ascii_digit ds) are in rw (digit_byte d parts.0) (digit_bytes ds parts.1)

tokens-number : (w : List ℕ) → is_number w ≡ true → tokens w ≡ Some (word w ∷ [])
tokens-number [] is = absurd (false≢true is)
tokens-number (d ∷ ds) is = ⊎_elim zero_text digits (or_cases (bytes_eq (d ∷ ds) (codes "0")) (is_numeral (d ∷ ds)) is)
  where
    zero_text : bytes_eq (d ∷ ds) (codes "0") ≡ true → tokens (d ∷ ds) ≡ Some (word (d ∷ ds) ∷ [])
    zero_text e = let same : d ∷ ds ≡ 48 ∷ [] = (bytes_decides (d ∷ ds) (codes "0")).0 e in ap tokens same ∙ ap (λ x. Some (word x ∷ [])) (sym same)

    digits : is_numeral (d ∷ ds) ≡ true → tokens (d ∷ ds) ≡ Some (word (d ∷ ds) ∷ [])
    digits e = tokens-run d ds (digit_bytes (d ∷ ds) (and_parts (not (d == 48)) (list_all is_ascii_digit (d ∷ ds)) e).1)

-- ---- submits with a number

word_of-number : (w : List ℕ) → is_number w ≡ true → word_of w ≡ word w ∷ []
word_of-number [] is = absurd (false≢true is)
word_of-number (d ∷ ds) is = refl

number_word-of : (w : List ℕ) → is_number w ≡ true → number_word w ≡ Some w
number_word-of [] is = absurd (false≢true is)
number_word-of (d ∷ ds) is = refl

number_or_none : (w : List ℕ) → is_number w ≡ true → is_number_or_none w ≡ true
number_or_none [] is = absurd (false≢true is)
number_or_none (d ∷ ds) is = is

some_number : (w source : List ℕ) → is_number w ≡ true → w ≡ [] → HasNoWord source (tokens source)
some_number w source is none = absurd (false≢true (sym (ap is_number none) ∙ is))

after_digits : (digits text : List ℕ) → is_number digits ≡ true → tokens (digits ++ 32 ∷ text) ≡ before (word_of digits) (tokens text)
after_digits digits text is = after_space digits text (tokens-number digits is ∙ ap Some (sym (word_of-number digits is)))

budget_fits : (n : ℕ) → IsBudget n → fits_budget (Some (decimal n)) ≡ true
budget_fits n is =
    let most : n ≤ MAX_BUDGET = is.few in
    let small : n < 2 ^ 64 = omega (arith, most) in
    let value = value-of-decimal n small in
    let low : nat_lt 0 n ≡ true = lt-ltb 0 n (omega (arith, is.some)) in
    let high : nat_le n MAX_BUDGET ≡ true = le-leb n MAX_BUDGET most in
    ap (λ (m : ℕ). nat_lt 0 m && nat_le m MAX_BUDGET) value ∙ (λ i. low i && high i)

pub submit_with : (name text : List ℕ) (n : ℕ) (a : Result SystemParts TextFault) → IsTrue (is_job_name name) → IsBudget n
    → length (codes "submit " ++ name ++ 32 ∷ (decimal n ++ 32 ∷ text)) ≤ MAX_TEXT → ReadsSystem text a
    → ReadsLine (codes "submit " ++ name ++ 32 ∷ (decimal n ++ 32 ∷ text)) (submitted name (Some n) a)
submit_with name text n a is budget short reads =
    let parts = and_parts (is_job_word name) _ (sym (job_name-parts name) ∙ is) in
    let digits = decimal n in
    let most : n ≤ MAX_BUDGET = budget.few in
    let small : n < 2 ^ 64 = omega (arith, most) in
    let number = number-decimal n small in
    let after = digits ++ 32 ∷ text in
    let split = after_space name after (tokens-name name parts.0) in
    let inside : length text ≤ MAX_TEXT = omega (arith, short, length-append name (32 ∷ after), length-append digits (32 ∷ text)) in
    let named : is_job_name name ≡ true = is in let word = number_word-of digits number in
    let fits : are_within name digits ≡ true = (λ i. named i && fits_budget (word i)) ∙ budget_fits n budget in
    let value : option_map number_in (number_word digits) ≡ Some n =
    ap (option_map number_in) (number_word-of digits number) ∙ ap (λ (m : ℕ). Some m) (value-of-decimal n small) in
    submit_reads name after (submitted name (Some n) a) short
    (subst (λ (b : Option ℕ). ReadsAfter opening.Submit (name ++ 32 ∷ after) (submitted name b a)) value
    (submit_read (name ++ 32 ∷ after) name after digits text split (some_name name after parts.0) (after_digits digits text number) (some_number digits text number)
    parts.0 (number_or_none digits number) a inside fits reads))

pub submit_number : (name text : List ℕ) (n : ℕ) (a : Result SystemParts TextFault) → IsTrue (is_job_name name) → IsBudget n → length text + 35 ≤ MAX_TEXT → ReadsSystem text a
    → ReadsLine (codes "submit " ++ name ++ 32 ∷ (decimal n ++ 32 ∷ text)) (submitted name (Some n) a)
submit_number name text n a is budget room reads =
    let parts = and_parts (is_job_word name) _ (sym (job_name-parts name) ∙ is) in
    let few : length name ≤ MAX_JOB_NAME = grind (arith, nat_tests, parts.1) in
    let most : n ≤ MAX_BUDGET = budget.few in
    let small : n < 2 ^ 64 = omega (arith, most) in
    let digits : length (decimal n) ≤ 10 = length-decimal-le 10 n (omega (arith, most)) (omega arith) small in
    let short : length (codes "submit" ++ 32 ∷ (name ++ 32 ∷ (decimal n ++ 32 ∷ text))) ≤ MAX_TEXT =
    omega (arith, few, room, digits, length-append name (32 ∷ (decimal n ++ 32 ∷ text)), length-append (decimal n) (32 ∷ text)) in
    submit_with name text n a is budget short reads

pub submit_unfit : (name digits text : List ℕ) (a : Result SystemParts TextFault) → IsTrue (is_job_name name) → IsTrue (is_number digits) → fits_budget (Some digits) ≡ false
    → length digits + length text + 25 ≤ MAX_TEXT → ReadsSystem text a → ¬ (a ≡ Err Syntax)
    → ReadsLine (codes "submit " ++ name ++ 32 ∷ (digits ++ 32 ∷ text)) (Err Limit)
submit_unfit name digits text a is number unfit room reads apart =
    let parts = and_parts (is_job_word name) _ (sym (job_name-parts name) ∙ is) in
    let few : length name ≤ MAX_JOB_NAME = grind (arith, nat_tests, parts.1) in
    let after = digits ++ 32 ∷ text in
    let split = after_space name after (tokens-name name parts.0) in
    let short : length (codes "submit" ++ 32 ∷ (name ++ 32 ∷ after)) ≤ MAX_TEXT =
    omega (arith, few, room, length-append name (32 ∷ after), length-append digits (32 ∷ text)) in
    let isnt : are_within name digits ≡ true → ⊥ =
    (λ within. false≢true (sym (ap fits_budget (number_word-of digits number) ∙ unfit) ∙ (and_parts (is_job_name name) (fits_budget (number_word digits)) within).1)) in
    submit_reads name after (Err Limit) short
    (submit_past_read (name ++ 32 ∷ after) name after digits text split (some_name name after parts.0) (after_digits digits text number) (some_number digits text number)
    parts.0 (number_or_none digits number) a (omega (arith, room)) isnt reads apart)

pub run_text : (n : ℕ) → n ≤ MAX_RUN → ReadsLine (codes "run " ++ decimal n) (Ok (Run n))
run_text n within =
    let fits : n < 2 ^ 64 = omega arith in
    let is = number-decimal n fits in
    let low : nat_le n MAX_RUN ≡ true = grind (arith, nat_tests) in
    let means : line_sense (run (decimal n)) ≡ Ok (Run n) = rw (value-of-decimal n fits, low) refl in
    let read = is_sense_after opening.Run (decimal n) (word (decimal n) ∷ []) (run (decimal n)) tt is (tokens-number (decimal n) is) refl in
    let whole : tokens (codes "run" ++ 32 ∷ decimal n) ≡ before (word_of (codes "run")) (tokens (decimal n)) = after_space (codes "run") (decimal n) refl in
    reads_line (codes "run" ++ 32 ∷ decimal n) (Ok (Run n)) (omega (arith, length-decimal-le 4 n (omega arith) (omega arith) fits))
    (subst (λ o. IsLineOf o (Ok (Run n))) (sym whole) (subst (IsLineOf (before (word_of (codes "run")) (tokens (decimal n)))) means read))

pub run_long : (digits : List ℕ) → IsTrue (is_number digits) → MAX_RUN < number_in digits → length digits + 4 ≤ MAX_TEXT
    → ReadsLine (codes "run " ++ digits) (Err Limit)
run_long digits is many room =
    let high : nat_le (number_in digits) MAX_RUN ≡ false = grind (arith, nat_tests) in
    let means : line_sense (run digits) ≡ Err Limit = rw high refl in
    let read = is_sense_after opening.Run digits (word digits ∷ []) (run digits) tt is (tokens-number digits is) refl in
    let whole : tokens (codes "run" ++ 32 ∷ digits) ≡ before (word_of (codes "run")) (tokens digits) = after_space (codes "run") digits refl in
    reads_line (codes "run" ++ 32 ∷ digits) (Err Limit) (omega (arith, room))
    (subst (λ o. IsLineOf o (Err Limit)) (sym whole) (subst (IsLineOf (before (word_of (codes "run")) (tokens digits))) means read))

pub list_text : ReadsLine (codes "list") (Ok (Asks command.List))
list_text = reads_line (codes "list") (Ok (Asks command.List)) (omega arith) (is_sense (tokens (codes "list")) list tt tt refl)

-- blanks alone
at_blank : (P : ℕ → Type 0) → P 32 → P 9 → P 10 → P 13 → (b : ℕ) → is_blank b ≡ true → P b
at_blank P space tab feed back b is = ⊎_elim three (at 13 back) (or_cases (b == 32 || b == 9 || b == 10) (b == 13) is)
  where
    at : (k : ℕ) → P k → (b == k) ≡ true → P b
    at k here e = subst P (sym ((unsigned_Decides b k).0 e)) here

    two : (b == 32 || b == 9) ≡ true → P b
    two e = ⊎_elim (at 32 space) (at 9 tab) (or_cases (b == 32) (b == 9) e)

    three : (b == 32 || b == 9 || b == 10) ≡ true → P b
    three e = ⊎_elim two (at 10 feed) (or_cases (b == 32 || b == 9) (b == 10) e)

tokens-blank : (bs : List ℕ) (b : ℕ) → is_blank b ≡ true → tokens (b ∷ bs) ≡ tokens bs
tokens-blank bs b is =
    let same = before-none (before [] (tokens bs)) ∙ before-none (tokens bs) in
    at_blank (λ c. tokens (c ∷ bs) ≡ tokens bs) same same same same b is

tokens-blanks : (bs : List ℕ) → list_all is_blank bs ≡ true → tokens bs ≡ Some []
tokens-blanks [] are = refl
tokens-blanks (b ∷ bs) are = let parts = and_parts (is_blank b) (list_all is_blank bs) are in tokens-blank bs b parts.0 ∙ tokens-blanks bs parts.1

pub blank_text : (text : List ℕ) → length text ≤ MAX_TEXT → list_all is_blank text ≡ true → ReadsLine text (Ok Blank)
blank_text text short are = reads_line text (Ok Blank) short (is_sense (tokens text) nothing tt tt (tokens-blanks text are))
