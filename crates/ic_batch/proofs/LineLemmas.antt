-- Lines of jobs, none of which is refused.
use Rattle.std.proofs.Common.{◌≡◌, inl, inr, ℕ, ◌+◌, ◌<◌, List, [], ◌∷◌, ◌++◌, Bool, false, Result, Ok, Err, length, map, refl, sym, ap, subst, ◌∙◌, length-append, arith}
use Rattle.std.specs.Prelude.{not}
use Rattle.std.specs.List.{AllByRecursion, IsDistinct, list_any}
use Rattle.std.specs.Str.{bytes_eq}
use Rattle.std.proofs.lemmas.List.{length-map}
use Rattle.std.proofs.lemmas.Map.Keys.{IsDistinct-head, IsDistinct-tail}
use Rattle.ic_jobs.specs.declared.command.Command.{Command}
use Rattle.ic_jobs.specs.declared.command.Command.TheVariants.{Submit}
use Rattle.ic_jobs.specs.declared.limits.TheConstants.{MAX_JOBS}
use Rattle.ic_jobs.specs.declared.reply.Reply.TheVariants.{Accepted, Refused as refused_by}
use Rattle.ic_jobs.specs.Events.{Outcome}
use Rattle.ic_jobs.specs.Table.{job_named}
use Rattle.ic_lines.specs.Script.{ReadsScript}
use Rattle.ic_lines.specs.declared.script.ScriptFault.{ScriptFault}
use Rattle.ic_batch.specs.declared.fault.JobsCause.{JobsCause}
use Rattle.ic_batch.specs.declared.fault.JobsCause.TheVariants.{Refused, Text}
use Rattle.ic_batch.specs.declared.fault.JobsFault.TheVariants.{Line}
use Rattle.ic_batch.specs.declared.jobs.NewJob.{NewJob}
use Rattle.ic_batch.specs.Faults.{IsRefused, IsUnread, SaysOfLines}
use Rattle.ic_batch.specs.Jobs.{begun_by, names, submit_of, AreJobsOf}
use Rattle.ic_batch.proofs.NewLemmas.{put}
use Rattle.ic_batch.proofs.LoopLemmas.{none_is}
use Rattle.ic_batch.proofs.ReadLemmas.{named_begun}

-- the name of the job that a command submits
abbrev name_of : Command → List ℕ
name_of (Submit name system budget) = name
name_of _ = []

same_names : (jobs : List NewJob) → map name_of (map submit_of jobs) ≡ names jobs
same_names [] = refl
same_names (x ∷ xs) = ap (λ (ns : List (List ℕ)). x.name ∷ ns) (same_names xs)

names_after : (js : List NewJob) (command : Command) (after : List Command)
    → map name_of (map submit_of js ++ command ∷ after) ≡ names js ++ name_of command ∷ map name_of after
names_after [] command after = refl
names_after (x ∷ xs) command after = ap (λ (ns : List (List ℕ)). x.name ∷ ns) (names_after xs command after)

-- the command after those of some jobs submits a job, too
submits : (jobs js : List NewJob) (command : Command) (after : List Command) → map submit_of jobs ≡ map submit_of js ++ command ∷ after
    → (new : NewJob) × (command ≡ submit_of new)
submits [] [] command after is = cc
submits [] (k ∷ js) command after is = cc
submits (x ∷ jobs) [] command after is = (x, cc)
submits (x ∷ jobs) (k ∷ js) command after is = (let rest : map submit_of jobs ≡ map submit_of js ++ command ∷ after = cc in submits jobs js command after rest)

-- no job before it has its name
apart : (n name : List ℕ) (ns more : List (List ℕ)) → AllByRecursion (λ y. bytes_eq n y ≡ false) (ns ++ name ∷ more) → bytes_eq n name ≡ false
apart n name [] more all = all.0
apart n name (y ∷ ns) more all = apart n name ns more all.1

none_named : (name : List ℕ) (js : List NewJob) (more : List (List ℕ)) → IsDistinct bytes_eq (names js ++ name ∷ more)
    → list_any (λ job. bytes_eq job.name name) js ≡ false
none_named name [] more distinct = refl
none_named name (k ∷ js) more distinct =
    let other = apart k.name name (names js) more (IsDistinct-head bytes_eq k.name (names js ++ name ∷ more) distinct) in
    rw other (none_named name js more (IsDistinct-tail bytes_eq k.name (names js ++ name ∷ more) distinct))

not_refused : (js : List NewJob) (new : NewJob) (is : JobsCause) → list_any (λ job. bytes_eq job.name new.name) js ≡ false → length js < MAX_JOBS
    → ¬ IsRefused js (submit_of new) is
not_refused js new (Text fault) none room refused = (let never = refused.1 in cc)
not_refused js new (Refused why) none room refused =
    let t = map begun_by js in
    let free = none_is (job_named new.name t) (ap (λ (b : Bool). not b) (named_begun new.name js ∙ none)) in
    let size = length-map js begun_by in
    let taken = put t new free (omega (arith, room, size)) in
    let answer : refused_by why ≡ Accepted = sym refused.1 ∙ ap (λ (o : Outcome). o.reply) taken in
    cc

-- a script is read in one way
abbrev pub OneScript : Type 0
OneScript = (text : List ℕ) (a b : Result (List Command) ScriptFault) → ReadsScript text a → ReadsScript text b → a ≡ b

same_commands : (a b : List Command) → ◌≡◌ {A = Result (List Command) ScriptFault} (Ok a) (Ok b) → a ≡ b
same_commands a b is = cc

pub jobs_are_read : OneScript → (text : List ℕ) (jobs : List NewJob) (line : ℕ) (is : JobsCause) → AreJobsOf text jobs → ¬ SaysOfLines text (Line line is)
jobs_are_read one text jobs line is are (inl unread) = read is unread
  where
    read : (is : JobsCause) → ¬ IsUnread text line is
    read (Text fault) unread =
        (let same = one text (Ok (map submit_of jobs)) (Err (record { line = line; fault = fault })) are.read unread in cc)
    read (Refused why) unread = unread
jobs_are_read one text jobs line is are (inr stops) =
    let js = stops.jobs in
    let all = map submit_of js ++ stops.command ∷ stops.after in
    let same = same_commands (map submit_of jobs) all (one text (Ok (map submit_of jobs)) (Ok all) are.read stops.read) in
    let new = submits jobs js stops.command stops.after same in
    let named : names jobs ≡ names js ++ name_of stops.command ∷ map name_of stops.after =
    sym (same_names jobs) ∙ ap (map name_of) same ∙ names_after js stops.command stops.after in
    let distinct = subst (λ (ns : List (List ℕ)). IsDistinct bytes_eq ns) named are.distinct in
    let none = none_named (name_of stops.command) js (map name_of stops.after) distinct in
    let size = ap length same ∙ length-append (map submit_of js) (stops.command ∷ stops.after) in
    let first = length-map jobs submit_of in
    let second = length-map js submit_of in
    let few = are.few in
    not_refused js new.0 is (subst (λ (c : Command). list_any (λ job. bytes_eq job.name (name_of c)) js ≡ false) new.1 none)
    (omega (arith, size, first, second, few))
    (subst (λ (c : Command). IsRefused js c is) new.1 stops.refused)
