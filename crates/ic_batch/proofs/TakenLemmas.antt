-- The lines of jobs, as one server takes them.
use Rattle.std.proofs.Common.{◌≡◌, ℕ, ◌<◌, ◌≤◌, List, [], ◌∷◌, ◌++◌, Bool, false, ◌||◌, Option, None, Some, Result, Ok, Err, length, map, refl, sym, ap, subst, ◌∙◌, append_assoc, length-append, append-nil, arith}
use Rattle.std.specs.Prelude.{is_some}
use Rattle.std.specs.List.{AllByRecursion, AllZip, IsDistinct, flat_map, list_any}
use Rattle.std.specs.Option.{option_map, option_or}
use Rattle.std.specs.Str.{bytes_eq}
use Rattle.std.proofs.lemmas.List.{length-map, map-append}
use Rattle.std.proofs.lemmas.List.Concat.{flat_map-cons}
use Rattle.std.proofs.lemmas.Map.Keys.{IsDistinct-head, IsDistinct-tail}
use Rattle.ic_text.specs.declared.fault.TextFault.{TextFault}
use Rattle.ic_jobs.specs.declared.command.Command.{Command}
use Rattle.ic_jobs.specs.declared.limits.TheConstants.{MAX_JOBS}
use Rattle.ic_jobs.specs.declared.reply.Reply.TheVariants.{Accepted}
use Rattle.ic_jobs.specs.Events.{Outcome}
use Rattle.ic_jobs.specs.Job.{JobParts}
use Rattle.ic_jobs.specs.Table.{job_named}
use Rattle.ic_commands.specs.declared.line.Line.{Line}
use Rattle.ic_commands.specs.declared.line.Line.TheVariants.{Blank, Command as Asks, Run}
use Rattle.ic_commands.specs.LineSense.{line_sense}
use Rattle.ic_commands.specs.LineSource.{LinePhrase, run}
use Rattle.ic_commands.specs.LineText.{ReadsLine}
use Rattle.ic_commands.specs.ReplyText.{reply_text}
use Rattle.ic_commands.specs.ScriptSense.{ReadsScriptLine, script_sense, without_run}
use Rattle.ic_lines.specs.Answers.{Reading, after, after_line, answer, out}
use Rattle.ic_lines.specs.Lines.{ended, lines}
use Rattle.ic_lines.specs.Script.{ScriptLine, commands, fault_after, first_fault, numbered, unless_refused}
use Rattle.ic_lines.specs.declared.script.ScriptFault.{ScriptFault}
use Rattle.ic_lines.specs.Serving.{AreRead, IsServed}
use Rattle.ic_batch.specs.declared.jobs.NewJob.{NewJob}
use Rattle.ic_batch.specs.Jobs.{begun_by, names, submit_of, AreJobsOf}
use Rattle.ic_batch.specs.Served.{accepted}
use Rattle.ic_batch.specs.Way.{missing}
use Rattle.ic_batch.proofs.NewLemmas.{put}
use Rattle.ic_batch.specs.Faults.{HasNoRoom}
use Rattle.ic_batch.proofs.ReadLemmas.{named_begun}
use Rattle.ic_batch.proofs.RunLemmas.{none_missing}

-- ---- a line of a script is a line

-- what a line of a script is read as, as a line
abbrev as_line : Option Command → Result Line TextFault
as_line None = Ok Blank
as_line (Some c) = Ok (Asks c)

without_run_is : (r : Result Line TextFault) (a : Option Command) → without_run r ≡ Ok a → as_line a ≡ r
without_run_is (Ok Blank) a is = (let e : a ≡ None = cc in ap as_line e)
without_run_is (Ok (Asks c)) a is = (let e : a ≡ Some c = cc in ap as_line e)
without_run_is (Ok (Run k)) a is = cc
without_run_is (Err fault) a is = cc

sense_is : (p : LinePhrase) (a : Option Command) → Ok a ≡ script_sense p → as_line a ≡ line_sense p
sense_is (run digits) a is = cc
sense_is p a is = without_run_is (line_sense p) a (sym is)

line_read : (line : List ℕ) (a : Option Command) → ReadsScriptLine line (Ok a) → ReadsLine line (as_line a)
line_read line a read = record {
  long = λ many. (let no : ⊥ = (let e = read.long many in cc) in absurd no);
  spelled = λ few p spells. sense_is p a (read.spelled few p spells);
  malformed = λ few none. (let no : ⊥ = (let e = read.malformed few none in cc) in absurd no);
}

-- ---- the lines of a script

abbrev as_reading : ScriptLine → Reading
as_reading (Ok a) = as_line a
as_reading (Err fault) = Err fault

or_none : {X : Type 0} (a b : Option X) → option_or a b ≡ None → (a ≡ None) × (b ≡ None)
or_none None b is = (refl, is)
or_none (Some x) b is = (cc, cc)

no_fault : (before : List ScriptLine) (fault : TextFault) → option_map (numbered before) (Some fault) ≡ None → ⊥
no_fault before fault is = cc

lines_read : (before : List ScriptLine) (ls : List (List ℕ)) (rs : List ScriptLine) → AllZip ReadsScriptLine ls rs → first_fault before rs ≡ None → AreRead ls (map as_reading rs)
lines_read before [] [] read none = tt
lines_read before [] (r ∷ rs) read none = absurd read
lines_read before (line ∷ ls) [] read none = absurd read
lines_read before (line ∷ ls) (Ok a ∷ rs) read none =
    let parts = or_none (option_map (numbered before) (fault_after (length (commands before)) (Ok a))) (first_fault (before ++ Ok a ∷ []) rs) none in
    (line_read line a read.0, lines_read (before ++ Ok a ∷ []) ls rs read.1 parts.1)
lines_read before (line ∷ ls) (Err fault ∷ rs) read none =
    let parts = or_none (option_map (numbered before) (Some fault)) (first_fault (before ++ Err fault ∷ []) rs) none in
    absurd (no_fault before fault parts.0)

abbrev asks : Command → Reading
asks c = Ok (Asks c)

-- blanks do nothing
out_is : (t : List JobParts) (before : List ScriptLine) (rs : List ScriptLine) → first_fault before rs ≡ None
    → (out t (map as_reading rs) ≡ out t (map asks (commands rs))) × (after t (map as_reading rs) ≡ after t (map asks (commands rs)))
out_is t before [] none = (refl, refl)
out_is t before (Ok None ∷ rs) none =
    let parts = or_none (option_map (numbered before) (fault_after (length (commands before)) (Ok None))) (first_fault (before ++ Ok None ∷ []) rs) none in
    out_is t (before ++ Ok None ∷ []) rs parts.1
out_is t before (Ok (Some c) ∷ rs) none =
    let parts = or_none (option_map (numbered before) (fault_after (length (commands before)) (Ok (Some c)))) (first_fault (before ++ Ok (Some c) ∷ []) rs) none in
    let rest = out_is (after_line t (Ok (Asks c))) (before ++ Ok (Some c) ∷ []) rs parts.1 in
    (ap (λ (l : List ℕ). answer t (Ok (Asks c)) ++ l) rest.0, rest.1)
out_is t before (Err fault ∷ rs) none =
    let parts = or_none (option_map (numbered before) (Some fault)) (first_fault (before ++ Err fault ∷ []) rs) none in
    absurd (no_fault before fault parts.0)

-- ---- submits of jobs

none_named : (x : NewJob) (before : List NewJob) (rest : List NewJob) → IsDistinct bytes_eq (names (before ++ x ∷ rest)) → list_any (λ job. bytes_eq job.name x.name) before ≡ false
none_named x [] rest distinct = refl
none_named x (k ∷ before) rest distinct =
    let apart : bytes_eq k.name x.name ≡ false = named_apart k.name before rest (IsDistinct-head bytes_eq k.name (names (before ++ x ∷ rest)) distinct) in
    ap (λ (b : Bool). b || list_any (λ job. bytes_eq job.name x.name) before) apart ∙ none_named x before rest (IsDistinct-tail bytes_eq k.name (names (before ++ x ∷ rest)) distinct)
  where
    named_apart : (n : List ℕ) (before rest : List NewJob) → AllByRecursion (λ y. bytes_eq n y ≡ false) (names (before ++ x ∷ rest)) → bytes_eq n x.name ≡ false
    named_apart n [] rest all = all.0
    named_apart n (y ∷ ys) rest all = named_apart n ys rest all.1

no_job : (o : Option JobParts) → is_some o ≡ false → o ≡ None
no_job None is = refl
no_job (Some j) is = cc

all_accepted : (before rest : List NewJob) → IsDistinct bytes_eq (names (before ++ rest)) → length (before ++ rest) ≤ MAX_JOBS
    → (out (map begun_by before) (map asks (map submit_of rest)) ≡ flat_map accepted rest) × (after (map begun_by before) (map asks (map submit_of rest)) ≡ map begun_by (before ++ rest))
all_accepted before [] distinct few = (refl, ap (map begun_by) (sym (append-nil before)))
all_accepted before (new ∷ rest) distinct few =
    let next : before ++ new ∷ rest ≡ (before ++ new ∷ []) ++ rest = sym (append_assoc before (new ∷ []) rest) in
    let t = map begun_by before in
    let none : job_named new.name t ≡ None = no_job (job_named new.name t) (named_begun new.name before ∙ none_named new before rest distinct) in
    let room : length t < MAX_JOBS = (let sizes = length-append before (new ∷ rest) in let size = length-map before begun_by in omega (arith, few, sizes, size)) in
    let is = put t new none room in
    let more : t ++ begun_by new ∷ [] ≡ map begun_by (before ++ new ∷ []) = sym (map-append begun_by before (new ∷ [])) in
    let rests = all_accepted (before ++ new ∷ []) rest (subst (λ (l : List NewJob). IsDistinct bytes_eq (names l)) next distinct) (subst (λ (l : List NewJob). length l ≤ MAX_JOBS) next few) in (
      ap (λ (o : Outcome). ended (reply_text o.reply) ++ out o.table (map asks (map submit_of rest))) is
          ∙ ap (λ (u : List JobParts). ended (reply_text Accepted) ++ out u (map asks (map submit_of rest))) more
          ∙ ap (λ (l : List ℕ). ended (reply_text Accepted) ++ l) rests.0 ∙ sym (flat_map-cons accepted new rest),
      ap (λ (o : Outcome). after o.table (map asks (map submit_of rest))) is ∙ ap (λ (u : List JobParts). after u (map asks (map submit_of rest))) more
          ∙ rests.1 ∙ ap (map begun_by) (sym next),
    )

unrefused : (o : Option ScriptFault) (found wanted : List Command) → Ok wanted ≡ unless_refused o found → (o ≡ None) × (found ≡ wanted)
unrefused None found wanted is = (refl, cc)
unrefused (Some fault) found wanted is = (cc, cc)

pub lines_are_taken : (text : List ℕ) (jobs : List NewJob) → AreJobsOf text jobs → IsServed [] (lines text) (flat_map accepted jobs) (map begun_by jobs)
lines_are_taken text jobs are =
    let rs = are.read.readings in
    let good = unrefused (first_fault [] rs) (commands rs) (map submit_of jobs) are.read.answered in
    let done = out_is [] [] rs good.0 in
    let all = all_accepted [] jobs are.distinct are.few in
    record {
      readings = map as_reading rs;
      read = lines_read [] (lines text) rs are.read.read good.0;
      answered = sym (done.0 ∙ ap (λ (l : List Command). out [] (map asks l)) good.1 ∙ all.0);
      leaves = sym (done.1 ∙ ap (λ (l : List Command). after [] (map asks l)) good.1 ∙ all.1);
    }

pub room_for_all : (jobs : List NewJob) → length jobs ≤ MAX_JOBS → ¬ HasNoRoom jobs []
room_for_all jobs few more = (let size : length (missing [] jobs) ≡ length jobs = ap length (none_missing jobs) in omega (arith, few, more, size))
