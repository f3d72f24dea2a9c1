-- Laws of scripts.
use Rattle.std.proofs.Common.{◌≡◌, ℕ, suc, ◌+◌, ◌<◌, ◌≤◌, Bool, true, false, cond, List, [], ◌∷◌, ◌++◌, Option, None, Some, Result, Ok, Err, length, map, refl, sym, ap, ap₂, ◌∙◌, subst, arith, append-nil, append_assoc, length-append}
use Rattle.std.specs.Prelude.{nat_lt}
use Rattle.std.specs.List.{filter_map}
use Rattle.std.specs.Option.{option_map, option_or}
use Rattle.std.proofs.lemmas.Bool.{ltb-true}
use Rattle.std.proofs.lemmas.Bool.Decides.{nat_tests}
use Rattle.ic_jobs.specs.declared.command.Command.{Command}
use Rattle.ic_text.specs.declared.fault.TextFault.{TextFault}
use Rattle.ic_text.specs.declared.fault.TextFault.TheVariants.{Limit, Memory}
use Rattle.ic_commands.specs.ScriptSense.{ReadsScriptLine}
use Rattle.ic_lines.specs.declared.script.TheConstants.{MAX_SCRIPT}
use Rattle.ic_lines.specs.declared.script.ScriptFault.{ScriptFault}
use Rattle.ic_lines.specs.Lines.{ended, lines}
use Rattle.ic_lines.specs.Script.{ScriptLine, commands, fault_after, numbered, first_fault, unless_refused, AreAsked, ReadsScript}
use Rattle.ic_lines.proofs.LineLemmas.{lines_joined}
use Rattle.ic_lines.proofs.ScriptLemmas.{first_fault-append, commands-append, AreRead, AreRead-append, SomeWay, read_somehow, IsTaken, all_taken, one_refused}

-- ---- one reading

abbrev pub OneWay : Type 0
OneWay = (text : List ℕ) (a b : ScriptLine) → ReadsScriptLine text a → ReadsScriptLine text b → a ≡ b

read_once : OneWay → (ls : List (List ℕ)) (a b : List ScriptLine) → AreRead ls a → AreRead ls b → a ≡ b
read_once law [] [] [] p q = refl
read_once law [] (r ∷ rs) b p q = absurd p
read_once law (l ∷ ls) [] b p q = absurd p
read_once law (l ∷ ls) (r ∷ rs) (s ∷ ss) p q = ap₂ (λ x xs. x ∷ xs) (law l r s p.0 q.0) (read_once law ls rs ss p.1 q.1)
read_once law _ _ _ p q = absurd q

-- what readings make of a script
abbrev answer_of : List ScriptLine → Result (List Command) ScriptFault
answer_of rs = unless_refused (first_fault [] rs) (commands rs)

pub script_once : OneWay → (text : List ℕ) (a b : Result (List Command) ScriptFault) → ReadsScript text a → ReadsScript text b → a ≡ b
script_once law text a b p q = p.answered ∙ ap answer_of (read_once law (lines text) p.readings q.readings p.read q.read) ∙ sym q.answered

pub script_somehow : SomeWay → (text : List ℕ) → (a : Result (List Command) ScriptFault) × ReadsScript text a
script_somehow law text =
    let rs = read_somehow law (lines text) in
    (answer_of rs.0, record { readings = rs.0; read = rs.1; answered = refl })

-- ---- refusals

none_first : (o p : Option ScriptFault) → option_or o p ≡ None → (o ≡ None) × (p ≡ None)
none_first None p e = (refl, e)
none_first (Some f) p e = cc

is_none : (seen : List ScriptLine) (o : Option TextFault) → option_map (numbered seen) o ≡ None → o ≡ None
is_none seen None e = refl
is_none seen (Some f) e = cc

accepted : (o : Option ScriptFault) (found list : List Command) → Ok found ≡ unless_refused o list → (o ≡ None) × (found ≡ list)
accepted None found list e = (refl, (let same : Ok found ≡ Ok list = e in cc))
accepted (Some f) found list e = cc

refused_by : (o : Option ScriptFault) (list : List Command) (fault : ScriptFault) → Err fault ≡ unless_refused o list → o ≡ Some fault
refused_by None list fault e = cc
refused_by (Some f) list fault e = let same : Err fault ≡ Err f = e in cc

-- no refusal is want of memory
abbrev pub NoMemory : Type 0
NoMemory = (text : List ℕ) → ¬ ReadsScriptLine text (Err Memory)

abbrev fault_in : Option ScriptFault → TextFault
fault_in None = Limit
fault_in (Some f) = f.fault

never_memory : NoMemory → (ls : List (List ℕ)) (rs seen : List ScriptLine) (line : ℕ) → AreRead ls rs → first_fault seen rs ≡ Some (record { line = line; fault = Memory }) → ⊥
never_memory law ls [] seen line read e = cc
never_memory law [] (r ∷ rs) seen line read e = absurd read
never_memory law (l ∷ ls) (Err fault ∷ rs) seen line read e =
    let same : fault ≡ Memory = ap fault_in e in
    law l (subst (λ f. ReadsScriptLine l (Err f)) same read.0)
never_memory law (l ∷ ls) (Ok None ∷ rs) seen line read e = never_memory law ls rs (seen ++ Ok None ∷ []) line read.1 e
never_memory law (l ∷ ls) (Ok (Some c) ∷ rs) seen line read e =
    by_room (never_memory law ls rs (seen ++ Ok (Some c) ∷ []) line read.1) (nat_lt (length (commands seen)) MAX_SCRIPT) e
  where
    by_room : (first_fault (seen ++ Ok (Some c) ∷ []) rs ≡ Some (record { line = line; fault = Memory }) → ⊥) → (room : Bool) → option_or (option_map (numbered seen) (cond room None (Some Limit))) (first_fault (seen ++ Ok (Some c) ∷ []) rs) ≡ Some (record { line = line; fault = Memory }) → ⊥
    by_room after true is = after is
    by_room after false is = let same : Limit ≡ Memory = ap fault_in is in cc

pub script_no_memory : NoMemory → (text : List ℕ) (line : ℕ) → ¬ ReadsScript text (Err (record { line = line; fault = Memory }))
script_no_memory law text line reads =
    never_memory law (lines text) reads.readings [] line reads.read (refused_by (first_fault [] reads.readings) (commands reads.readings) (record { line = line; fault = Memory }) reads.answered)

-- ---- how many

has_room : (n : ℕ) → n < MAX_SCRIPT → nat_lt n MAX_SCRIPT ≡ true
has_room n less = grind (arith, nat_tests)

count_more : (seen : List ScriptLine) (r : ScriptLine) → length (commands (seen ++ r ∷ [])) ≡ length (commands seen) + length (commands (r ∷ []))
count_more seen r = ap length (commands-append seen (r ∷ [])) ∙ length-append (commands seen) (commands (r ∷ []))

few : (seen rs : List ScriptLine) → length (commands seen) ≤ MAX_SCRIPT → first_fault seen rs ≡ None → length (commands (seen ++ rs)) ≤ MAX_SCRIPT
few seen [] start e = let same = ap (λ x. length (commands x)) (append-nil seen) in omega (arith, start, same)
few seen (r ∷ rs) start e =
    let both = none_first (option_map (numbered seen) (fault_after (length (commands seen)) r)) (first_fault (seen ++ r ∷ []) rs) e in
    let next = few (seen ++ r ∷ []) rs (one_more r (is_none seen (fault_after (length (commands seen)) r) both.0)) both.1 in
    let same = ap (λ x. length (commands x)) (append_assoc seen (r ∷ []) rs) in
    omega (arith, next, same)
  where
    by_room : (c : Command) (room : Bool) → nat_lt (length (commands seen)) MAX_SCRIPT ≡ room → cond room None (Some Limit) ≡ None → length (commands seen) < MAX_SCRIPT
    by_room c true is e = ltb-true (length (commands seen)) MAX_SCRIPT is
    by_room c false is e = cc

    one_more : (r : ScriptLine) → fault_after (length (commands seen)) r ≡ None → length (commands (seen ++ r ∷ [])) ≤ MAX_SCRIPT
    one_more (Err fault) none = cc
    one_more (Ok None) none = let count = count_more seen (Ok None) in omega (arith, start, count)
    one_more (Ok (Some c)) none =
        let count = count_more seen (Ok (Some c)) in
        let room = by_room c (nat_lt (length (commands seen)) MAX_SCRIPT) refl none in
        omega (arith, room, count)

pub script_few : (text : List ℕ) (found : List Command) → ReadsScript text (Ok found) → length found ≤ MAX_SCRIPT
script_few text found reads =
    let is = accepted (first_fault [] reads.readings) found (commands reads.readings) reads.answered in
    let bound = few [] reads.readings (omega arith) is.0 in
    let same = ap length is.1 in
    omega (arith, bound, same)

-- ---- lines without a fault

abbrev oks : List (Option Command) → List ScriptLine
oks cs = map (λ c. Ok c) cs

commands-oks : (cs : List (Option Command)) → commands (oks cs) ≡ filter_map (λ c. c) cs
commands-oks [] = refl
commands-oks (None ∷ cs) = commands-oks cs
commands-oks (Some c ∷ cs) = ap (λ x. c ∷ x) (commands-oks cs)

oks_read : (ls : List (List ℕ)) (cs : List (Option Command)) → AreAsked ls cs → AreRead ls (oks cs)
oks_read [] [] asked = tt
oks_read (l ∷ ls) (c ∷ cs) asked = (asked.0, oks_read ls cs asked.1)
oks_read _ _ asked = absurd asked

oks_count : (ls : List (List ℕ)) (cs : List (Option Command)) → AreAsked ls cs → length ls ≡ length (oks cs)
oks_count [] [] asked = refl
oks_count (l ∷ ls) (c ∷ cs) asked = ap suc (oks_count ls cs asked.1)
oks_count _ _ asked = absurd asked

oks_unrefused : (seen : List ScriptLine) (cs : List (Option Command)) → length (commands seen) + length (filter_map (λ c. c) cs) ≤ MAX_SCRIPT → first_fault seen (oks cs) ≡ None
oks_unrefused seen [] room = refl
oks_unrefused seen (None ∷ cs) room =
    let count = count_more seen (Ok None) in
    oks_unrefused (seen ++ Ok None ∷ []) cs (omega (arith, room, count))
oks_unrefused seen (Some c ∷ cs) room =
    let count = count_more seen (Ok (Some c)) in
    let is : nat_lt (length (commands seen)) MAX_SCRIPT ≡ true = has_room (length (commands seen)) (omega (arith, room)) in
    rw is (oks_unrefused (seen ++ Ok (Some c) ∷ []) cs (omega (arith, room, count)))

asked_taken : (text : List ℕ) (before left : List (List ℕ)) (cs : List (Option Command)) → lines text ≡ before ++ left → AreAsked before cs
    → length (filter_map (λ c. c) cs) ≤ MAX_SCRIPT → IsTaken text left (length before + 1) (filter_map (λ c. c) cs)
asked_taken text before left cs parted asked room = record {
  taken = before;
  readings = oks cs;
  parted = parted;
  read = oks_read before cs asked;
  unrefused = oks_unrefused [] cs (omega (arith, room));
  holds = sym (commands-oks cs);
  count = ap (λ k. k + 1) (oks_count before cs asked);
}

pub script_asked : (text : List ℕ) (cs : List (Option Command)) → AreAsked (lines text) cs → length (filter_map (λ c. c) cs) ≤ MAX_SCRIPT
    → ReadsScript text (Ok (filter_map (λ c. c) cs))
script_asked text cs asked room = all_taken text (length (lines text) + 1) (filter_map (λ c. c) cs) (asked_taken text (lines text) [] cs (sym (append-nil (lines text))) asked room)

pub script_refused : SomeWay → (text line : List ℕ) (before after : List (List ℕ)) (cs : List (Option Command)) (fault : TextFault)
    → lines text ≡ before ++ line ∷ after → AreAsked before cs → length (filter_map (λ c. c) cs) ≤ MAX_SCRIPT → ReadsScriptLine line (Err fault)
    → ReadsScript text (Err (record { line = length before + 1; fault = fault }))
script_refused law text line before after cs fault parted asked room reads =
    one_refused law text line after (length before + 1) (filter_map (λ c. c) cs) fault (asked_taken text before (line ∷ after) cs parted asked room)
    (record { reading = Err fault; read = reads; refused = refl })

pub script_too_many : SomeWay → (text line : List ℕ) (before after : List (List ℕ)) (cs : List (Option Command)) (c : Command)
    → lines text ≡ before ++ line ∷ after → AreAsked before cs → length (filter_map (λ c. c) cs) ≡ MAX_SCRIPT → ReadsScriptLine line (Ok (Some c))
    → ReadsScript text (Err (record { line = length before + 1; fault = Limit }))
script_too_many law text line before after cs c parted asked full reads =
    one_refused law text line after (length before + 1) (filter_map (λ c. c) cs) Limit (asked_taken text before (line ∷ after) cs parted asked (omega (arith, full)))
    (record { reading = Ok (Some c); read = reads; refused = ap (λ n. fault_after n (Ok (Some c))) full })

-- ---- scripts after scripts

still_unrefused : (low seen rs : List ScriptLine) → first_fault low rs ≡ None → length (commands seen) + length (commands rs) ≤ MAX_SCRIPT → first_fault seen rs ≡ None
still_unrefused low seen [] e room = refl
still_unrefused low seen (Err fault ∷ rs) e room = cc
still_unrefused low seen (Ok None ∷ rs) e room =
    let count = count_more seen (Ok None) in
    still_unrefused (low ++ Ok None ∷ []) (seen ++ Ok None ∷ []) rs e (omega (arith, room, count))
still_unrefused low seen (Ok (Some c) ∷ rs) e room =
    let count = count_more seen (Ok (Some c)) in
    let both = none_first (option_map (numbered low) (fault_after (length (commands low)) (Ok (Some c)))) (first_fault (low ++ Ok (Some c) ∷ []) rs) e in
    let is : nat_lt (length (commands seen)) MAX_SCRIPT ≡ true = has_room (length (commands seen)) (omega (arith, room)) in
    rw is (still_unrefused (low ++ Ok (Some c) ∷ []) (seen ++ Ok (Some c) ∷ []) rs both.1 (omega (arith, room, count)))

pub script_joined : (text more : List ℕ) (a b : List Command) → ReadsScript (ended text) (Ok a) → ReadsScript more (Ok b) → length a + length b ≤ MAX_SCRIPT
    → ReadsScript (ended text ++ more) (Ok (a ++ b))
script_joined text more a b p q room =
    let first = accepted (first_fault [] p.readings) a (commands p.readings) p.answered in
    let second = accepted (first_fault [] q.readings) b (commands q.readings) q.answered in
    let count_a = ap length first.1 in
    let count_b = ap length second.1 in
    let rest : first_fault p.readings q.readings ≡ None = still_unrefused [] p.readings q.readings second.0 (omega (arith, room, count_a, count_b)) in
    let none : first_fault [] (p.readings ++ q.readings) ≡ None =
    first_fault-append [] p.readings q.readings ∙ ap (λ o. option_or o (first_fault p.readings q.readings)) first.0 ∙ rest in
    let found : a ++ b ≡ commands (p.readings ++ q.readings) = ap₂ (λ x y. x ++ y) first.1 second.1 ∙ sym (commands-append p.readings q.readings) in
    record {
      readings = p.readings ++ q.readings;
      read = subst (λ ls. AreRead ls (p.readings ++ q.readings)) (sym (lines_joined text more)) (AreRead-append (lines (ended text)) (lines more) p.readings q.readings p.read q.read);
      answered = ap (λ x. Ok x) found ∙ ap (λ o. unless_refused o (commands (p.readings ++ q.readings))) (sym none);
    }

pub script_stopped : SomeWay → (text more : List ℕ) (fault : ScriptFault) → ReadsScript (ended text) (Err fault) → ReadsScript (ended text ++ more) (Err fault)
script_stopped law text more fault p =
    let first = refused_by (first_fault [] p.readings) (commands p.readings) fault p.answered in
    let rest = read_somehow law (lines more) in
    let found : first_fault [] (p.readings ++ rest.0) ≡ Some fault =
    first_fault-append [] p.readings rest.0 ∙ ap (λ o. option_or o (first_fault p.readings rest.0)) first in
    record {
      readings = p.readings ++ rest.0;
      read = subst (λ ls. AreRead ls (p.readings ++ rest.0)) (sym (lines_joined text more)) (AreRead-append (lines (ended text)) (lines more) p.readings rest.0 p.read rest.1);
      answered = ap (λ o. unless_refused o (commands (p.readings ++ rest.0))) (sym found);
    }

pub script_blank : (line : List ℕ) → lines (ended line) ≡ line ∷ lines [] → ReadsScriptLine line (Ok None) → ReadsScript (ended line) (Ok [])
script_blank line one reads = script_asked (ended line) (None ∷ []) (subst (λ ls. AreAsked ls (None ∷ [])) (sym one) (reads, tt)) (omega arith)
