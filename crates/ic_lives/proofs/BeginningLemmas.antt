-- Jobs as accepted submits and copies begin them.
use Rattle.std.proofs.Common.{◌≡◌, ℕ, List, [], ◌∷◌, ◌++◌, Bool, true, false, cond, Option, None, Some, is_some, nat_lt, length, refl, sym, ap, subst, ◌∙◌}
use Rattle.std.specs.List.{find}
use Rattle.std.specs.Option.{option_or}
use Rattle.std.specs.Str.{bytes_eq}
use Rattle.std.specs.Cmp.Lexicographic.{bytes_decides}
use Rattle.std.proofs.lemmas.List.Folds.{find-append}
use Rattle.ic_rules.specs.System.{SystemParts}
use Rattle.ic_jobs.specs.declared.limits.TheConstants.{MAX_JOBS}
use Rattle.ic_jobs.specs.declared.command.Command.{Command}
use Rattle.ic_jobs.specs.declared.command.Command.TheVariants.{Submit, CopyJob}
use Rattle.ic_jobs.specs.declared.reply.Reply.{Reply}
use Rattle.ic_jobs.specs.declared.reply.Reply.TheVariants.{Accepted, Refused}
use Rattle.ic_jobs.specs.declared.reply.Refusal.TheVariants.{Taken, Full}
use Rattle.ic_jobs.specs.declared.event.Event.TheVariants.{Command as by_command}
use Rattle.ic_jobs.specs.declared.event.Entry.{Entry}
use Rattle.ic_jobs.specs.Job.{JobParts, begun, system_of}
use Rattle.ic_jobs.specs.Table.{is_named, job_named}
use Rattle.ic_jobs.specs.Events.{Outcome, outcome, refused, unless_missing, copied, after_command}
use Rattle.ic_jobs.specs.History.{table_after, reply_to, replay, IsLegal}

-- what a submit of a job leaves, by whether its name is taken and the table has room
abbrev begins_by : List JobParts → JobParts → Bool → Bool → Outcome
begins_by t job taken room = cond taken (refused t Taken) (cond room (outcome (t ++ job ∷ []) Accepted) (refused t Full))

-- a job that is there is found before any that goes last
found_before : (name : List ℕ) (t : List JobParts) (job : JobParts) (o : Option JobParts) → job_named name t ≡ o → is_some o ≡ true → job_named name (t ++ job ∷ []) ≡ o
found_before name t job None there some = cc
found_before name t job (Some j) there some = find-append (is_named name) t (job ∷ []) ∙ ap (λ (o : Option JobParts). option_or o (find (is_named name) (job ∷ []))) there

-- ---- a copy leaves the copied job

begins_stays : (name : List ℕ) (t : List JobParts) (job j : JobParts) (taken room : Bool) → job_named name t ≡ Some j → job_named name (begins_by t job taken room).table ≡ Some j
begins_stays name t job j true room there = there
begins_stays name t job j false true there = found_before name t job (Some j) there refl
begins_stays name t job j false false there = there

copied_at : (t : List JobParts) (old new : List ℕ) (o : Option JobParts) → job_named old t ≡ o → job_named old (unless_missing t (copied t new) o).table ≡ o
copied_at t old new None there = there
copied_at t old new (Some j) there = begins_stays old t (begun new (system_of j) None) j (is_some (job_named new t)) (nat_lt (length t) MAX_JOBS) there

pub copied_stays : (t : List JobParts) (old new : List ℕ) → job_named old (table_after t (by_command (CopyJob old new))) ≡ job_named old t
copied_stays t old new = copied_at t old new (job_named old t) refl

-- ---- an accepted job goes last, and is found

begins_last : (t : List JobParts) (job : JobParts) (taken room : Bool) → (begins_by t job taken room).reply ≡ Accepted → (begins_by t job taken room).table ≡ t ++ job ∷ []
begins_last t job true room told = cc
begins_last t job false true told = refl
begins_last t job false false told = cc

pub submitted_last : (t : List JobParts) (name : List ℕ) (s : SystemParts) (budget : Option ℕ) → (after_command t (Submit name s budget)).reply ≡ Accepted
    → (after_command t (Submit name s budget)).table ≡ t ++ begun name s budget ∷ []
submitted_last t name s budget = begins_last t (begun name s budget) (is_some (job_named name t)) (nat_lt (length t) MAX_JOBS)

begins_found : (t : List JobParts) (job : JobParts) (o : Option JobParts) (room : Bool) → job_named job.name t ≡ o → (begins_by t job (is_some o) room).reply ≡ Accepted
    → job_named job.name (begins_by t job (is_some o) room).table ≡ Some job
begins_found t job (Some j) room none told = cc
begins_found t job None false none told = cc
begins_found t job None true none told =
    let own : bytes_eq job.name job.name ≡ true = (bytes_decides job.name job.name).1 refl in
    find-append (is_named job.name) t (job ∷ [])
    ∙ ap (λ (o : Option JobParts). option_or o (find (is_named job.name) (job ∷ []))) none
    ∙ ap (λ (b : Bool). cond b (Some job) None) own

submitted_found : (t : List JobParts) (name : List ℕ) (s : SystemParts) (budget : Option ℕ) → (after_command t (Submit name s budget)).reply ≡ Accepted
    → job_named name (after_command t (Submit name s budget)).table ≡ Some (begun name s budget)
submitted_found t name s budget = begins_found t (begun name s budget) (job_named name t) (nat_lt (length t) MAX_JOBS) refl

-- a copied job, and the one that is begun with what it has
abbrev IsCopied : List JobParts → List ℕ → List ℕ → List JobParts → Type 0
IsCopied t old new after = (j : JobParts) × (job_named old t ≡ Some j) × (job_named new after ≡ Some (begun new (system_of j) None))

copied_found : (t : List JobParts) (old new : List ℕ) (o : Option JobParts) → job_named old t ≡ o → (unless_missing t (copied t new) o).reply ≡ Accepted
    → IsCopied t old new (unless_missing t (copied t new) o).table
copied_found t old new None there told = cc
copied_found t old new (Some j) there told =
    (j, there, begins_found t (begun new (system_of j) None) (job_named new t) (nat_lt (length t) MAX_JOBS) refl told)

-- ---- after a history

replay_more : (t : List JobParts) (h : List Entry) (e : Entry) → replay t (h ++ e ∷ []) ≡ table_after (replay t h) e.event
replay_more t [] e = refl
replay_more t (x ∷ xs) e = replay_more (table_after t x.event) xs e

legal_more : (t : List JobParts) (h : List Entry) (e : Entry) → IsLegal t (h ++ e ∷ []) → IsLegal (replay t h) (e ∷ [])
legal_more t [] e legal = legal
legal_more t (x ∷ xs) e legal = legal_more (table_after t x.event) xs e legal.1

-- the reply of the last entry, where it is a command
replied : (t : List JobParts) (e : Entry) (c : Command) (r : Reply) → e.event ≡ by_command c → e.reply ≡ r → IsLegal t (e ∷ []) → (after_command t c).reply ≡ r
replied t e c r event reply legal =
    let one : Some (after_command t c).reply ≡ Some r = ap (reply_to t) (sym event) ∙ legal.0 ∙ ap (λ (a : Reply). Some a) reply in cc

-- the table after it
left : (t : List JobParts) (h : List Entry) (e : Entry) (c : Command) → e.event ≡ by_command c → replay t (h ++ e ∷ []) ≡ (after_command (replay t h) c).table
left t h e c event = replay_more t h e ∙ ap (table_after (replay t h)) event

pub submitted_there : (start : List JobParts) (front : List Entry) (e : Entry) (name : List ℕ) (s : SystemParts) (budget : Option ℕ)
    → e.event ≡ by_command (Submit name s budget) → e.reply ≡ Accepted → IsLegal start (front ++ e ∷ [])
    → job_named name (replay start (front ++ e ∷ [])) ≡ Some (begun name s budget)
submitted_there start front e name s budget event reply legal =
    let t = replay start front in
    ap (job_named name) (left start front e (Submit name s budget) event)
    ∙ submitted_found t name s budget (replied t e (Submit name s budget) Accepted event reply (legal_more start front e legal))

pub copied_there : (start : List JobParts) (front : List Entry) (e : Entry) (old new : List ℕ)
    → e.event ≡ by_command (CopyJob old new) → e.reply ≡ Accepted → IsLegal start (front ++ e ∷ [])
    → IsCopied (replay start front) old new (replay start (front ++ e ∷ []))
copied_there start front e old new event reply legal =
    let t = replay start front in
    let told = replied t e (CopyJob old new) Accepted event reply (legal_more start front e legal) in
    subst (IsCopied t old new) (sym (left start front e (CopyJob old new) event)) (copied_found t old new (job_named old t) refl told)
