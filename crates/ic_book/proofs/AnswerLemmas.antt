-- Which replies to commands leave the table as it is.
use Rattle.std.proofs.Common.{◌≡◌, ℕ, List, [], ◌∷◌, ◌++◌, Bool, true, false, Option, None, Some, refl, subst, length, is_some, nat_lt, if◌then◌else◌}
use Rattle.ic_rules.specs.System.{SystemParts}
use Rattle.ic_jobs.specs.declared.limits.TheConstants.{MAX_JOBS}
use Rattle.ic_jobs.specs.declared.state.State.TheVariants as state
use Rattle.ic_jobs.specs.declared.command.Command.{Command}
use Rattle.ic_jobs.specs.declared.command.Command.TheVariants.{Submit, CopyJob, Pause, Resume, Cancel, Fetch, List as list_jobs}
use Rattle.ic_jobs.specs.declared.event.Event.TheVariants.{Command as by_command}
use Rattle.ic_jobs.specs.declared.reply.Reply.{Reply}
use Rattle.ic_jobs.specs.declared.reply.Reply.TheVariants.{Accepted, Okay, Shown, Listed, Refused}
use Rattle.ic_jobs.specs.declared.reply.Refusal.{Refusal}
use Rattle.ic_jobs.specs.declared.reply.Refusal.TheVariants.{Taken, Full, NoJob, NotRunning, NotPaused}
use Rattle.ic_jobs.specs.Job.{JobParts, begun, system_of, in_state}
use Rattle.ic_jobs.specs.State.{is_running, is_paused}
use Rattle.ic_jobs.specs.Table.{job_named, with_changed, without}
use Rattle.ic_jobs.specs.Memory.{tells_jobs}
use Rattle.ic_jobs.specs.Events.{Outcome, apply, outcome, refused, submitted, copied, after_command, unless_missing, paused, resumed}
use Rattle.ic_jobs.specs.Shown.{shown}
use Rattle.ic_book.specs.Entries.{leaves_table}

-- an outcome whose reply says so leaves the table
abbrev Told : List JobParts → Outcome → Type 0
Told t o = leaves_table o.reply ≡ true → o.table ≡ t

told_if : (t : List JobParts) (b : Bool) (x y : Outcome) → Told t x → Told t y → Told t (if b then x else y)
told_if t true x y first second = first
told_if t false x y first second = second

told_change : (t new : List JobParts) → Told t (outcome new Okay)
told_change t new told = let never : false ≡ true = told in cc

told_submit : (t new : List JobParts) → Told t (outcome new Accepted)
told_submit t new told = let never : false ≡ true = told in cc

told_refusal : (t : List JobParts) (r : Refusal) → Told t (refused t r)
told_refusal t r told = refl

told_unless : (t : List JobParts) (what : JobParts → Outcome) (j : Option JobParts) → ((k : JobParts) → Told t (what k)) → Told t (unless_missing t what j)
told_unless t what None each = told_refusal t NoJob
told_unless t what (Some k) each = each k

told_submitted : (t : List JobParts) (name : List ℕ) (system : SystemParts) (budget : Option ℕ) → Told t (submitted t name system budget)
told_submitted t name system budget =
    told_if t (is_some (job_named name t)) (refused t Taken) (if nat_lt (length t) MAX_JOBS then outcome (t ++ begun name system budget ∷ []) Accepted else refused t Full)
    (told_refusal t Taken)
    (told_if t (nat_lt (length t) MAX_JOBS) (outcome (t ++ begun name system budget ∷ []) Accepted) (refused t Full) (told_submit t (t ++ begun name system budget ∷ [])) (told_refusal t Full))

told_command : (t : List JobParts) (c : Command) → Told t (after_command t c)
told_command t (Submit name system budget) = told_submitted t name system budget
told_command t (CopyJob old new) = told_unless t (copied t new) (job_named old t) (λ j. told_submitted t new (system_of j) None)
told_command t (Pause name) = told_unless t (paused t name) (job_named name t)
    (λ j. told_if t (is_running j.state) (outcome (with_changed name (in_state state.Paused) t) Okay) (refused t NotRunning)
    (told_change t (with_changed name (in_state state.Paused) t)) (told_refusal t NotRunning))
told_command t (Resume name) = told_unless t (resumed t name) (job_named name t)
    (λ j. told_if t (is_paused j.state) (outcome (with_changed name (in_state state.Running) t) Okay) (refused t NotPaused)
    (told_change t (with_changed name (in_state state.Running) t)) (told_refusal t NotPaused))
told_command t (Cancel name) = told_unless t (λ j. outcome (without name t) Okay) (job_named name t) (λ j. told_change t (without name t))
told_command t (Fetch name) = told_unless t (λ j. outcome t (Shown (shown j))) (job_named name t) (λ j told. refl)
told_command t list_jobs = λ told. refl

-- so the table stays
pub told_stays : (t new : List JobParts) (c : Command) (r : Reply) → apply t (by_command c) ≡ Some (outcome new r) → leaves_table r ≡ true → new ≡ t
told_stays t new c r event = let same : after_command t c ≡ outcome new r = cc in subst (Told t) same (told_command t c)

jobs_told : (r : Reply) → tells_jobs r ≡ true → leaves_table r ≡ true
jobs_told (Shown job) told = refl
jobs_told (Listed jobs) told = refl
jobs_told (Refused refusal) told = refl
jobs_told _ told = told

-- also where the copy of a reply takes memory
pub shown_stays : (t new : List JobParts) (c : Command) (r : Reply) → apply t (by_command c) ≡ Some (outcome new r) → tells_jobs r ≡ true → new ≡ t
shown_stays t new c r event told = told_stays t new c r event (jobs_told r told)
