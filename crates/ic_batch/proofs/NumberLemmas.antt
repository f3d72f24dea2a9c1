-- The number of the line whose command is refused.
use Rattle.std.proofs.Common.{◌≡◌, inl, inr, ℕ, ◌+◌, ◌-◌, ◌<◌, ◌≤◌, ◌==◌, ◌&&◌, ◌||◌, Bool, true, false, not, cond, List, [], ◌∷◌, ◌++◌, Option, None, Some, Ok, Err, length, drop, get_or, refl, sym, ap, ◌∙◌, subst, arith}
use Rattle.std.proofs.lemmas.Bool.{and_from, or_parts, eqb-true, cases_lt}
use Rattle.std.proofs.lemmas.List.Sums.{sum_by-cons}
use Rattle.std.specs.List.{count_by, list_all, onto_first, AllZip}
use Rattle.ic_text.specs.Token.{is_blank}
use Rattle.ic_text.specs.declared.fault.TextFault.TheVariants.{Limit}
use Rattle.ic_text.specs.declared.limits.TheConstants.{MAX_TEXT}
use Rattle.ic_jobs.specs.declared.command.Command.{Command}
use Rattle.ic_commands.specs.ScriptSense.{ReadsScriptLine}
use Rattle.ic_lines.specs.Lines.{lines}
use Rattle.ic_lines.specs.Script.{ScriptLine, commands, first_fault, unless_refused, ReadsScript}
use Rattle.ic_lines.specs.declared.script.ScriptFault.{ScriptFault}
use Rattle.ic_batch.specs.Faults.{has_text, IsLineAfter}

abbrev count_of : List (List ℕ) → ℕ
count_of ls = count_by has_text ls

counted : (l : List ℕ) (ls : List (List ℕ)) → count_of (l ∷ ls) ≡ cond (has_text l) 1 0 + count_of ls
counted l ls = sum_by-cons (λ x. cond (has_text x) 1 0) l ls

-- The line of this number is the first that isn't blank after so many that aren't, where the first of all has that number.
record IsAfter (ls : List (List ℕ)) (many first number : ℕ) : Type 0 where
  before : List (List ℕ)
  this : List ℕ
  after : List (List ℕ)
  parted : ls ≡ before ++ this ∷ after
  numbered : number ≡ first + length before
  counted : count_of before ≡ many
  some : has_text this ≡ true

-- the number that is answered for the bytes that are left, where the line that is begun may be counted already
abbrev pub number_from : List ℕ → (left : ℕ) → (is_begun : Bool) → (line : ℕ) → ℕ
number_from [] left is_begun line = line
number_from (b ∷ bs) left is_begun line = cond (b == 10) (number_from bs left false (line + 1))
    (cond (not is_begun && not (is_blank b)) (cond (left == 0) line (number_from bs (left - 1) true line))
    (number_from bs left is_begun line))

-- ---- one byte after the other

pub from_feed : (b : ℕ) (bs : List ℕ) (left line : ℕ) (is_begun : Bool) → (b == 10) ≡ true → number_from (b ∷ bs) left is_begun line ≡ number_from bs left false (line + 1)
from_feed b bs left line is_begun feed =
    let more = number_from bs (left - 1) true line in
    ap (λ x. cond x (number_from bs left false (line + 1)) (cond (not is_begun && not (is_blank b)) (cond (left == 0) line more) (number_from bs left is_begun line))) feed

module _ (b : ℕ) (bs : List ℕ) (left line : ℕ) (is_begun : Bool) (other : (b == 10) ≡ false) where
  abbrev more : ℕ
  more = number_from bs (left - 1) true line

  abbrev same : ℕ
  same = number_from bs left is_begun line

  from_other : number_from (b ∷ bs) left is_begun line ≡ cond (not is_begun && not (is_blank b)) (cond (left == 0) line more) same
  from_other = ap (λ x. cond x (number_from bs left false (line + 1)) (cond (not is_begun && not (is_blank b)) (cond (left == 0) line more) same)) other

  pub from_stop : (not is_begun && not (is_blank b)) ≡ true → (left == 0) ≡ true → number_from (b ∷ bs) left is_begun line ≡ line
  from_stop begins none = from_other ∙ ap (λ x. cond x (cond (left == 0) line more) same) begins ∙ ap (λ x. cond x line more) none

  pub from_more : (not is_begun && not (is_blank b)) ≡ true → (left == 0) ≡ false → number_from (b ∷ bs) left is_begun line ≡ number_from bs (left - 1) true line
  from_more begins some = from_other ∙ ap (λ x. cond x (cond (left == 0) line more) same) begins ∙ ap (λ x. cond x line more) some

  pub from_same : (not is_begun && not (is_blank b)) ≡ false → number_from (b ∷ bs) left is_begun line ≡ number_from bs left is_begun line
  from_same begins = from_other ∙ ap (λ x. cond x (cond (left == 0) line more) same) begins

-- ---- a byte more before the first line

onto_is : (b : ℕ) (ls : List (List ℕ)) → (l : List ℕ) × (onto_first b ls ≡ (b ∷ l) ∷ drop 1 ls)
onto_is b [] = ([], refl)
onto_is b (l ∷ ls) = (l, refl)

rest_onto : (b : ℕ) (ls : List (List ℕ)) → drop 1 (onto_first b ls) ≡ drop 1 ls
rest_onto b [] = refl
rest_onto b (l ∷ ls) = refl

blank_text : (b : ℕ) (l : List ℕ) → is_blank b ≡ true → has_text (b ∷ l) ≡ has_text l
blank_text b l blank = ap (λ x. not x || has_text l) blank

some_text : (b : ℕ) (l : List ℕ) → is_blank b ≡ false → has_text (b ∷ l) ≡ true
some_text b l blank = ap (λ x. not x || has_text l) blank

blank_count : (b : ℕ) (ls : List (List ℕ)) → is_blank b ≡ true → count_of (onto_first b ls) ≡ count_of ls
blank_count b [] blank = counted (b ∷ []) [] ∙ ap (λ x. cond x 1 0 + count_of []) (blank_text b [] blank)
blank_count b (l ∷ ls) blank =
    counted (b ∷ l) ls ∙ ap (λ x. cond x 1 0 + count_of ls) (blank_text b l blank) ∙ sym (counted l ls)

blank_onto : (b : ℕ) (ls : List (List ℕ)) (many first number : ℕ) → is_blank b ≡ true → IsAfter ls many first number → IsAfter (onto_first b ls) many first number
blank_onto b ls many first number blank is = at is.before is.parted is.numbered is.counted
  where
    at : (before : List (List ℕ)) → ls ≡ before ++ is.this ∷ is.after → number ≡ first + length before → count_of before ≡ many → IsAfter (onto_first b ls) many first number
    at [] parted numbered count = record {
      before = [];
      this = b ∷ is.this;
      after = is.after;
      parted = ap (onto_first b) parted;
      numbered = numbered;
      counted = count;
      some = blank_text b is.this blank ∙ is.some;
    }
    at (l ∷ before) parted numbered count = record {
      before = (b ∷ l) ∷ before;
      this = is.this;
      after = is.after;
      parted = ap (onto_first b) parted;
      numbered = numbered;
      counted = counted (b ∷ l) before ∙ ap (λ x. cond x 1 0 + count_of before) (blank_text b l blank) ∙ sym (counted l before) ∙ count;
      some = is.some;
    }

above_none : (n : ℕ) → (n == 0) ≡ false → 0 < n
above_none n some = elim (cases_lt 0 n) [
  | inl above ↦ above
  | inr none ↦ absurd (let zero : n ≡ 0 = omega (arith, none) in let same : (n == 0) ≡ true = ap (λ m. m == 0) zero in let both : false ≡ true = sym some ∙ same in cc)
]

-- a line that begins with this byte is counted
some_count : (b : ℕ) (ls : List (List ℕ)) → is_blank b ≡ false → count_of (onto_first b ls) ≡ 1 + count_of (drop 1 ls)
some_count b ls blank =
    let is = onto_is b ls in
    ap count_of is.1 ∙ counted (b ∷ is.0) (drop 1 ls) ∙ ap (λ x. cond x 1 0 + count_of (drop 1 ls)) (some_text b is.0 blank)

some_first : (b : ℕ) (ls : List (List ℕ)) (line : ℕ) → is_blank b ≡ false → IsAfter (onto_first b ls) 0 line line
some_first b ls line blank =
    let is = onto_is b ls in
    record {
      before = [];
      this = b ∷ is.0;
      after = drop 1 ls;
      parted = is.1;
      numbered = omega arith;
      counted = refl;
      some = some_text b is.0 blank;
    }

some_onto : (b : ℕ) (ls : List (List ℕ)) (many line number : ℕ) → is_blank b ≡ false → IsAfter (drop 1 ls) many (line + 1) number
    → IsAfter (onto_first b ls) (1 + many) line number
some_onto b ls many line number blank is =
    let first = onto_is b ls in
    record {
      before = (b ∷ first.0) ∷ is.before;
      this = is.this;
      after = is.after;
      parted = first.1 ∙ ap (λ l. (b ∷ first.0) ∷ l) is.parted;
      numbered = omega (arith, is.numbered);
      counted = counted (b ∷ first.0) is.before ∙ ap (λ x. cond x 1 0 + count_of is.before) (some_text b first.0 blank) ∙ ap (λ n. 1 + n) is.counted;
      some = is.some;
    }

feed_more : (ls : List (List ℕ)) (many line number : ℕ) → IsAfter ls many (line + 1) number → IsAfter ([] ∷ ls) many line number
feed_more ls many line number is = record {
  before = [] ∷ is.before;
  this = is.this;
  after = is.after;
  parted = ap (λ l. [] ∷ l) is.parted;
  numbered = omega (arith, is.numbered);
  counted = omega (arith, is.counted, counted [] is.before);
  some = is.some;
}

-- ---- the number of the bytes that are left

abbrev left_lines : Bool → List (List ℕ) → List (List ℕ)
left_lines false ls = ls
left_lines true ls = drop 1 ls

abbrev first_of : Bool → ℕ → ℕ
first_of false line = line
first_of true line = line + 1

-- what is said of the bytes after the first
abbrev Rest : List ℕ → Type 0
Rest bs = (left : ℕ) (is_begun : Bool) (line : ℕ) → left < count_of (left_lines is_begun (lines bs))
    → IsAfter (left_lines is_begun (lines bs)) left (first_of is_begun line) (number_from bs left is_begun line)

-- the line is counted already
by_feed : (b : ℕ) (bs : List ℕ) → Rest bs → (left line : ℕ) (feed : Bool) → left < count_of (drop 1 (cond feed ([] ∷ lines bs) (onto_first b (lines bs))))
    → IsAfter (drop 1 (cond feed ([] ∷ lines bs) (onto_first b (lines bs)))) left (line + 1)
    (cond feed (number_from bs left false (line + 1)) (number_from bs left true line))
by_feed b bs rest left line true more = rest left false (line + 1) more
by_feed b bs rest left line false more =
    let same = rest_onto b (lines bs) in
    subst (λ (ls : List (List ℕ)). IsAfter ls left (line + 1) (number_from bs left true line)) (sym same)
    (rest left true line (subst (λ (ls : List (List ℕ)). left < count_of ls) same more))

-- the byte isn't blank
by_left : (b : ℕ) (bs : List ℕ) → Rest bs → (left line : ℕ) → is_blank b ≡ false → (none : Bool) → (left == 0) ≡ none → left < count_of (onto_first b (lines bs))
    → IsAfter (onto_first b (lines bs)) left line (cond none line (number_from bs (left - 1) true line))
by_left b bs rest left line blank true none more =
    let is : left ≡ 0 = eqb-true left 0 none in
    subst (λ (n : ℕ). IsAfter (onto_first b (lines bs)) n line line) (sym is) (some_first b (lines bs) line blank)
by_left b bs rest left line blank false some more =
    let count = some_count b (lines bs) blank in
    let above : 0 < left = above_none left some in
    let next = rest (left - 1) true line (omega (arith, more, count, above)) in
    let whole : 1 + (left - 1) ≡ left = omega (arith, above) in
    subst (λ (n : ℕ). IsAfter (onto_first b (lines bs)) n line (number_from bs (left - 1) true line)) whole
    (some_onto b (lines bs) (left - 1) line (number_from bs (left - 1) true line) blank next)

by_blank : (b : ℕ) (bs : List ℕ) → Rest bs → (left line : ℕ) (blank : Bool) → is_blank b ≡ blank → left < count_of (onto_first b (lines bs))
    → IsAfter (onto_first b (lines bs)) left line
    (cond (not blank) (cond (left == 0) line (number_from bs (left - 1) true line)) (number_from bs left false line))
by_blank b bs rest left line true blank more =
    blank_onto b (lines bs) left line (number_from bs left false line) blank (rest left false line (omega (arith, more, blank_count b (lines bs) blank)))
by_blank b bs rest left line false blank more = by_left b bs rest left line blank (left == 0) refl more

by_first : (b : ℕ) (bs : List ℕ) → Rest bs → (left line : ℕ) (feed : Bool) → left < count_of (cond feed ([] ∷ lines bs) (onto_first b (lines bs)))
    → IsAfter (cond feed ([] ∷ lines bs) (onto_first b (lines bs))) left line
    (cond feed (number_from bs left false (line + 1))
    (cond (not (is_blank b)) (cond (left == 0) line (number_from bs (left - 1) true line)) (number_from bs left false line)))
by_first b bs rest left line true more =
    feed_more (lines bs) left line (number_from bs left false (line + 1)) (rest left false (line + 1) (omega (arith, more, counted [] (lines bs))))
by_first b bs rest left line false more = by_blank b bs rest left line (is_blank b) refl more

number_is : (bs : List ℕ) → Rest bs
number_is [] left false line more = absurd (omega (arith, more))
number_is [] left true line more = absurd (omega (arith, more))
number_is (b ∷ bs) left true line more = by_feed b bs (number_is bs) left line (b == 10) more
number_is (b ∷ bs) left false line more = by_first b bs (number_is bs) left line (b == 10) more

pub is_line_after : (text : List ℕ) (many number : ℕ) → number_from text many false 1 ≡ number → many < count_of (lines text) → IsLineAfter text many number
is_line_after text many number answered more =
    let is = number_is text many false 1 more in
    record {
      before = is.before;
      this = is.this;
      after = is.after;
      parted = is.parted;
      numbered = omega (arith, is.numbered, answered);
      counted = is.counted;
      some = is.some;
    }

-- ---- a line that isn't blank for each command

abbrev pub LineLaws : Type 0
LineLaws = ((line : List ℕ) → length line ≤ MAX_TEXT → list_all is_blank line ≡ true → ReadsScriptLine line (Ok None))
    × ((line : List ℕ) (a b : ScriptLine) → ReadsScriptLine line a → ReadsScriptLine line b → a ≡ b)

all_blank : (line : List ℕ) → has_text line ≡ false → list_all is_blank line ≡ true
all_blank [] none = refl
all_blank (b ∷ bs) none =
    let parts = or_parts (not (is_blank b)) (has_text bs) none in
    and_from (is_blank b) (list_all is_blank bs) (at (is_blank b) parts.0) (all_blank bs parts.1)
  where
    at : (x : Bool) → not x ≡ false → x ≡ true
    at true is = refl
    at false is = cc

asks_text : LineLaws → (line : List ℕ) (c : Command) → ReadsScriptLine line (Ok (Some c)) → has_text line ≡ true
asks_text laws line c reads = at (has_text line) refl
  where
    never : ◌≡◌ {A = ScriptLine} (Ok (Some c)) (Err Limit) → has_text line ≡ true
    never same = cc

    other : ◌≡◌ {A = ScriptLine} (Ok None) (Ok (Some c)) → has_text line ≡ true
    other same = cc

    at : (x : Bool) → has_text line ≡ x → has_text line ≡ true
    at true is = is
    at false is = elim (cases_lt MAX_TEXT (length line)) [
      | inl long ↦ never (reads.long long)
      | inr short ↦ other (laws.1 line (Ok None) (Ok (Some c)) (laws.0 line short (all_blank line is)) reads)
    ]

commands_counted : LineLaws → (ls : List (List ℕ)) (rs : List ScriptLine) → AllZip ReadsScriptLine ls rs → length (commands rs) ≤ count_of ls
commands_counted laws [] [] read = omega arith
commands_counted laws [] (r ∷ rs) read = absurd read
commands_counted laws (l ∷ ls) [] read = absurd read
commands_counted laws (l ∷ ls) (Err fault ∷ rs) read =
    let rest = commands_counted laws ls rs read.1 in omega (arith, rest, counted l ls)
commands_counted laws (l ∷ ls) (Ok None ∷ rs) read =
    let rest = commands_counted laws ls rs read.1 in omega (arith, rest, counted l ls)
commands_counted laws (l ∷ ls) (Ok (Some c) ∷ rs) read =
    let rest = commands_counted laws ls rs read.1 in
    let here = counted l ls ∙ ap (λ x. cond x 1 0 + count_of ls) (asks_text laws l c read.0) in
    omega (arith, rest, here)

answered_by : (o : Option ScriptFault) (found list : List Command) → Ok found ≡ unless_refused o list → found ≡ list
answered_by None found list e = let same : Ok found ≡ Ok list = e in cc
answered_by (Some f) found list e = cc

pub lines_enough : LineLaws → (text : List ℕ) (found : List Command) → ReadsScript text (Ok found) → length found ≤ count_of (lines text)
lines_enough laws text found reads =
    let same = ap length (answered_by (first_fault [] reads.readings) found (commands reads.readings) reads.answered) in
    let most = commands_counted laws (lines text) reads.readings reads.read in
    omega (arith, same, most)

-- ---- one line

one_front : (before other : List (List ℕ)) (l m : List ℕ) (rest more : List (List ℕ)) → before ++ l ∷ rest ≡ other ++ m ∷ more → count_of before ≡ count_of other
    → has_text l ≡ true → has_text m ≡ true → length before ≡ length other
one_front [] [] l m rest more same counts some also = refl
one_front [] (o ∷ os) l m rest more same counts some also =
    let head : l ≡ o = ap (λ ls. get_or ls 0 []) same in
    let here = counted o os ∙ ap (λ x. cond x 1 0 + count_of os) (sym (ap has_text head) ∙ some) in
    absurd (omega (arith, counts, here))
one_front (b ∷ bs) [] l m rest more same counts some also =
    let head : b ≡ m = ap (λ ls. get_or ls 0 []) same in
    let here = counted b bs ∙ ap (λ x. cond x 1 0 + count_of bs) (ap has_text head ∙ also) in
    absurd (omega (arith, counts, here))
one_front (b ∷ bs) (o ∷ os) l m rest more same counts some also =
    let head : b ≡ o = ap (λ ls. get_or ls 0 []) same in
    let tail : bs ++ l ∷ rest ≡ os ++ m ∷ more = ap (λ ls. drop 1 ls) same in
    let here = counted b bs ∙ ap (λ x. cond (has_text x) 1 0 + count_of bs) head in
    let long = one_front bs os l m rest more tail (omega (arith, counts, here, counted o os)) some also in
    omega (arith, long)

pub one_line : (text : List ℕ) (many one other : ℕ) → IsLineAfter text many one → IsLineAfter text many other → one ≡ other
one_line text many one other is also =
    let long = one_front is.before also.before is.this also.this is.after also.after (sym is.parted ∙ also.parted) (is.counted ∙ sym also.counted) is.some also.some in
    omega (arith, long, is.numbered, also.numbered)
