-- Scripts, line by line.
use Rattle.std.proofs.Common.{◌≡◌, ℕ, suc, ◌+◌, ◌-◌, ◌<◌, ◌≤◌, ◌==◌, false, List, [], ◌∷◌, ◌++◌, Option, None, Some, Ok, Err, length, take, drop, get_or, refl, sym, ap, ◌∙◌, subst, arith, append-nil, append_assoc, length-append}
use Rattle.std.specs.List.{AllZip, cons_option}
use Rattle.std.specs.Option.{option_map, option_or, option_to_list}
use Rattle.std.proofs.lemmas.Bool.{or_from}
use Rattle.std.proofs.lemmas.List.{take-append-drop, drop-drop, drop_more, drop_all, take_all, get_or-drop, length-drop}
use Rattle.std.proofs.lemmas.List.Elements.{filter_map-append}
use Rattle.std.proofs.lemmas.List.Folds.{list_any_more}
use Rattle.std.proofs.lemmas.Slice.Zip.{all_zipped_more}
use Rattle.ic_jobs.specs.declared.command.Command.{Command}
use Rattle.ic_text.specs.declared.fault.TextFault.{TextFault}
use Rattle.ic_commands.specs.ScriptSense.{ReadsScriptLine}
use Rattle.ic_lines.specs.declared.script.ScriptFault.{ScriptFault}
use Rattle.ic_lines.specs.Lines.{has_feed, lines}
use Rattle.ic_lines.specs.Script.{ScriptLine, command_of, commands, fault_after, numbered, first_fault, unless_refused, ReadsScript, IsWanting, WantsMemory}
use Rattle.ic_lines.specs.inner.Adding.{AddsLine, RefusesLine}
use Rattle.ic_lines.proofs.LineLemmas.{lines_first, lines_last}

or_assoc : (o p q : Option ScriptFault) → option_or (option_or o p) q ≡ option_or o (option_or p q)
or_assoc None p q = refl
or_assoc (Some f) p q = refl

-- the first refusal of lines and of those after them
pub first_fault-append : (seen rs ss : List ScriptLine) → first_fault seen (rs ++ ss) ≡ option_or (first_fault seen rs) (first_fault (seen ++ rs) ss)
first_fault-append seen [] ss = ap (λ x. first_fault x ss) (sym (append-nil seen))
first_fault-append seen (r ∷ rs) ss =
    let here = option_map (numbered seen) (fault_after (length (commands seen)) r) in
    let rest = first_fault (seen ++ r ∷ []) rs in
    ap (option_or here) (first_fault-append (seen ++ r ∷ []) rs ss ∙ ap (λ x. option_or rest (first_fault x ss)) (append_assoc seen (r ∷ []) rs))
    ∙ sym (or_assoc here rest (first_fault (seen ++ r ∷ rs) ss))

-- after lines without a refusal
pub fault_next : (rs : List ScriptLine) (r : ScriptLine) (ss : List ScriptLine) → first_fault [] rs ≡ None
    → first_fault [] (rs ++ r ∷ ss) ≡ option_or (option_map (numbered rs) (fault_after (length (commands rs)) r)) (first_fault (rs ++ r ∷ []) ss)
fault_next rs r ss none = first_fault-append [] rs (r ∷ ss) ∙ ap (λ o. option_or o (first_fault rs (r ∷ ss))) none

option_list : (o : Option Command) → cons_option o [] ≡ option_to_list o
option_list None = refl
option_list (Some c) = refl

pub commands-append : (rs ss : List ScriptLine) → commands (rs ++ ss) ≡ commands rs ++ commands ss
commands-append rs ss = filter_map-append command_of rs ss

commands_more : (rs : List ScriptLine) (r : ScriptLine) → commands (rs ++ r ∷ []) ≡ commands rs ++ option_to_list (command_of r)
commands_more rs r = commands-append rs (r ∷ []) ∙ ap (λ x. commands rs ++ x) (option_list (command_of r))

-- each line is read so
abbrev pub AreRead : List (List ℕ) → List ScriptLine → Type 0
AreRead ls rs = AllZip ReadsScriptLine ls rs

pub AreRead-append : (ls more : List (List ℕ)) (a b : List ScriptLine) → AreRead ls a → AreRead more b → AreRead (ls ++ more) (a ++ b)
AreRead-append [] more [] b read rest = rest
AreRead-append (l ∷ ls) more (r ∷ rs) b read rest = (read.0, AreRead-append ls more rs b read.1 rest)
AreRead-append _ more _ b read rest = absurd read

-- each line is read somehow
abbrev pub SomeWay : Type 0
SomeWay = (text : List ℕ) → (a : ScriptLine) × ReadsScriptLine text a

pub read_somehow : SomeWay → (ls : List (List ℕ)) → (rs : List ScriptLine) × AreRead ls rs
read_somehow law [] = ([], tt)
read_somehow law (l ∷ ls) = let first = law l in let rest = read_somehow law ls in (first.0 ∷ rest.0, (first.1, rest.1))

-- ---- the lines that were taken

-- Lines were taken and those left are to come: none was refused, these are the commands, and the next line has this number.
pub record IsTaken (text : List ℕ) (left : List (List ℕ)) (n : ℕ) (found : List Command) : Type 0 where
  pub taken : List (List ℕ)
  pub readings : List ScriptLine
  pub parted : lines text ≡ taken ++ left
  pub read : AreRead taken readings
  pub unrefused : first_fault [] readings ≡ None
  pub holds : found ≡ commands readings
  pub count : n ≡ length readings + 1

pub none_taken : (text : List ℕ) → IsTaken text (lines text) 1 []
none_taken text = record { taken = []; readings = []; parted = refl; read = tt; unrefused = refl; holds = refl; count = refl }

pub one_taken : (text line : List ℕ) (left : List (List ℕ)) (n : ℕ) (old new : List Command)
    → IsTaken text (line ∷ left) n old → AddsLine line old new → IsTaken text left (n + 1) new
one_taken text line left n old new t adds =
    let none : fault_after (length (commands t.readings)) adds.reading ≡ None = ap (λ x. fault_after (length x) adds.reading) (sym t.holds) ∙ adds.unrefused in
    record {
      taken = t.taken ++ line ∷ [];
      readings = t.readings ++ adds.reading ∷ [];
      parted = t.parted ∙ sym (append_assoc t.taken (line ∷ []) left);
      read = all_zipped_more ReadsScriptLine t.taken t.readings line adds.reading t.read adds.read;
      unrefused = fault_next t.readings adds.reading [] t.unrefused ∙ ap (λ o. option_or (option_map (numbered t.readings) o) None) none;
      holds = adds.added ∙ ap (λ x. x ++ option_to_list (command_of adds.reading)) t.holds ∙ sym (commands_more t.readings adds.reading);
      count = (let e = t.count in omega (arith, e, length-append t.readings (adds.reading ∷ [])));
    }

pub all_taken : (text : List ℕ) (n : ℕ) (found : List Command) → IsTaken text [] n found → ReadsScript text (Ok found)
all_taken text n found t = record {
  readings = t.readings;
  read = subst (λ ls. AreRead ls t.readings) (sym (t.parted ∙ append-nil t.taken)) t.read;
  answered = ap (λ x. Ok x) t.holds ∙ ap (λ o. unless_refused o (commands t.readings)) (sym t.unrefused);
}

pub one_refused : SomeWay → (text line : List ℕ) (left : List (List ℕ)) (n : ℕ) (found : List Command) (fault : TextFault)
    → IsTaken text (line ∷ left) n found → RefusesLine line found fault → ReadsScript text (Err (record { line = n; fault = fault }))
one_refused law text line left n found fault t refuses =
    let rest = read_somehow law left in
    let readings = t.readings ++ refuses.reading ∷ rest.0 in
    let why : fault_after (length (commands t.readings)) refuses.reading ≡ Some fault = ap (λ x. fault_after (length x) refuses.reading) (sym t.holds) ∙ refuses.refused in
    let first : first_fault [] readings ≡ Some (numbered t.readings fault) =
    fault_next t.readings refuses.reading rest.0 t.unrefused ∙ ap (λ o. option_or (option_map (numbered t.readings) o) (first_fault (t.readings ++ refuses.reading ∷ []) rest.0)) why in
    record {
      readings = readings;
      read = subst (λ ls. AreRead ls readings) (sym t.parted) (AreRead-append t.taken (line ∷ left) t.readings (refuses.reading ∷ rest.0) t.read (refuses.read, rest.1));
      answered = ap (λ (k : ℕ). Err (record { line = k; fault = fault })) t.count ∙ ap (λ o. unless_refused o (commands readings)) (sym first);
    }

-- ---- the bytes of a line

-- the bytes from one place up to another
abbrev pub between : List ℕ → ℕ → ℕ → List ℕ
between text start place = take (place - start) (drop start text)

module _ (text : List ℕ) (start place : ℕ) (begins : start ≤ place) (inside : place < length text) where
  here : drop (place - start) (drop start text) ≡ get_or text place 0 ∷ drop (place + 1) text
  here =
      let at : start + (place - start) ≡ place = omega (arith, begins) in
      drop-drop (place - start) start text ∙ ap (λ k. drop k text) at ∙ drop_more text place 0 inside

  -- a line feed ends the line
  pub line_here : get_or text place 0 ≡ 10 → has_feed (between text start place) ≡ false → lines (drop start text) ≡ between text start place ∷ lines (drop (place + 1) text)
  line_here feed unfed =
      ap lines (sym (take-append-drop (place - start) (drop start text)) ∙ ap (λ x. between text start place ++ x) (here ∙ ap (λ b. b ∷ drop (place + 1) text) feed))
      ∙ lines_first (between text start place) (drop (place + 1) text) unfed

  -- another byte is of the line
  pub unfed_more : (get_or text place 0 == 10) ≡ false → has_feed (between text start place) ≡ false → has_feed (between text start (place + 1)) ≡ false
  unfed_more other unfed =
      let at : start + (place - start) ≡ place = omega (arith, begins) in
      let k : place + 1 - start ≡ (place - start) + 1 = omega (arith, begins) in
      let byte : get_or (drop start text) (place - start) 0 ≡ get_or text place 0 = get_or-drop start text (place - start) 0 ∙ ap (λ i. get_or text i 0) at in
      let room : place - start < length (drop start text) = omega (arith, begins, inside, length-drop start text) in
      ap (λ i. has_feed (take i (drop start text))) k ∙ list_any_more (λ b. b == 10) (drop start text) (place - start) 0 room
      ∙ or_from (has_feed (between text start place)) (get_or (drop start text) (place - start) 0 == 10) unfed (ap (λ b. b == 10) byte ∙ other)

-- no byte is of a line that isn't begun
pub unfed_begin : (text : List ℕ) (place : ℕ) → has_feed (between text place place) ≡ false
unfed_begin text place = let none : place - place ≡ 0 = omega arith in ap (λ i. has_feed (take i (drop place text))) none

to_end : (text : List ℕ) (start : ℕ) → between text start (length text) ≡ drop start text
to_end text start = take_all (length text - start) (drop start text) (omega (arith, length-drop start text))

-- the last line, which no line feed ends
pub line_at_end : (text : List ℕ) (start : ℕ) → start < length text → has_feed (between text start (length text)) ≡ false
    → lines (drop start text) ≡ between text start (length text) ∷ []
line_at_end text start some unfed =
    let rest = drop_more text start 0 some in
    let unended : has_feed (get_or text start 0 ∷ drop (start + 1) text) ≡ false = sym (ap has_feed (to_end text start ∙ rest)) ∙ unfed in
    ap lines rest ∙ lines_last (get_or text start 0) (drop (start + 1) text) unended ∙ ap (λ l. l ∷ []) (sym (to_end text start ∙ rest))

pub no_line_at_end : (text : List ℕ) (start : ℕ) → length text ≤ start → lines (drop start text) ≡ []
no_line_at_end text start over = ap lines (drop_all start text over)

-- ---- the lines of a text, up to a place

-- the lines before a place were taken, and a line is begun
pub record IsAt (text : List ℕ) (start place n : ℕ) (found : List Command) : Type 0 where
  pub taken : IsTaken text (lines (drop start text)) n found
  pub unfed : has_feed (between text start place) ≡ false
  pub begins : start ≤ place
  pub few : n ≤ start + 1

pub at_begin : (text : List ℕ) → IsAt text 0 0 1 []
at_begin text = record { taken = none_taken text; unfed = refl; begins = omega arith; few = omega arith }

pub at_line : (text : List ℕ) (start place n : ℕ) (found : List Command) → IsAt text start place n found → place < length text → get_or text place 0 ≡ 10
    → IsTaken text (between text start place ∷ lines (drop (place + 1) text)) n found
at_line text start place n found at inside feed =
    subst (λ ls. IsTaken text ls n found) (line_here text start place at.begins inside feed at.unfed) at.taken

pub at_next_line : (text : List ℕ) (start place n : ℕ) (old new : List Command) → IsAt text start place n old → place < length text → get_or text place 0 ≡ 10
    → AddsLine (between text start place) old new → IsAt text (place + 1) (place + 1) (n + 1) new
at_next_line text start place n old new at inside feed adds = record {
  taken = one_taken text (between text start place) (lines (drop (place + 1) text)) n old new (at_line text start place n old at inside feed) adds;
  unfed = unfed_begin text (place + 1);
  begins = omega arith;
  few = (let f = at.few in let b = at.begins in omega (arith, f, b));
}

pub at_next_byte : (text : List ℕ) (start place n : ℕ) (found : List Command) → IsAt text start place n found → place < length text → (get_or text place 0 == 10) ≡ false
    → IsAt text start (place + 1) n found
at_next_byte text start place n found at inside other = record {
  taken = at.taken;
  unfed = unfed_more text start place at.begins inside other at.unfed;
  begins = (let b = at.begins in omega (arith, b));
  few = at.few;
}

-- the last line, where a line is begun at the end of the text, and no line where none is
pub at_end : (text : List ℕ) (start place n : ℕ) (found : List Command) → IsAt text start place n found → length text ≤ place → place ≤ length text → start < length text
    → IsTaken text (between text start (length text) ∷ []) n found
at_end text start place n found at over within some =
    let same : place ≡ length text = omega (arith, over, within) in
    let unfed = subst (λ p. has_feed (between text start p) ≡ false) same at.unfed in
    subst (λ ls. IsTaken text ls n found) (line_at_end text start some unfed) at.taken

pub at_none : (text : List ℕ) (start place n : ℕ) (found : List Command) → IsAt text start place n found → length text ≤ start → IsTaken text [] n found
at_none text start place n found at over = subst (λ ls. IsTaken text ls n found) (no_line_at_end text start over) at.taken

pub refused_at : SomeWay → (text line : List ℕ) (left : List (List ℕ)) (n : ℕ) (found : List Command) (f : ScriptFault)
    → IsTaken text (line ∷ left) n found → f.line ≡ n → RefusesLine line found f.fault → ReadsScript text (Err f)
refused_at law text line left n found f t number refuses =
    subst (λ (k : ℕ). ReadsScript text (Err (record { line = k; fault = f.fault }))) (sym number) (one_refused law text line left n found f.fault t refuses)

-- as many are read as there are
as_many : (ls : List (List ℕ)) (rs : List ScriptLine) → AreRead ls rs → length ls ≡ length rs
as_many [] [] read = refl
as_many (l ∷ ls) (r ∷ rs) read = ap (λ (k : ℕ). suc k) (as_many ls rs read.1)
as_many _ _ read = absurd read

pub wanting_at : (text line : List ℕ) (left : List (List ℕ)) (n : ℕ) (found : List Command) (f : ScriptFault)
    → IsTaken text (line ∷ left) n found → f.line ≡ n → WantsMemory (length found) line → IsWanting text f.line
wanting_at text line left n found f t number wants = record {
  before = t.taken;
  line = line;
  after = left;
  readings = t.readings;
  parted = t.parted;
  counted = number ∙ t.count ∙ ap (λ k. k + 1) (sym (as_many t.taken t.readings t.read));
  read = t.read;
  unrefused = t.unrefused;
  wants = subst (λ fs. WantsMemory (length fs) line) t.holds wants;
}
