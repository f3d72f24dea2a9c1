-- Events leave tables, and the jobs of names that they don't mention.
use Rattle.std.proofs.Common.{◌≡◌, ℕ, ◌<◌, List, [], ◌∷◌, ◌++◌, Bool, true, false, cond, Option, None, Some, is_some, nat_lt, length, IsTrue, IfSome, ◌||◌, refl, sym, ap, subst, ◌∙◌}
use Rattle.std.proofs.lemmas.Bool.{ltb-true}
use Rattle.std.specs.Option.{option_map_or, option_or}
use Rattle.std.specs.Str.{bytes_eq}
use Rattle.ic_rules.specs.JobName.{is_job_name}
use Rattle.ic_rules.specs.System.{SystemParts}
use Rattle.ic_jobs.specs.declared.limits.TheConstants.{MAX_JOBS}
use Rattle.ic_jobs.specs.declared.state.State.{State}
use Rattle.ic_jobs.specs.declared.state.State.TheVariants as state
use Rattle.ic_jobs.specs.declared.command.Command.{Command}
use Rattle.ic_jobs.specs.declared.command.Command.TheVariants.{Submit, CopyJob, Pause, Resume, Cancel, Fetch, List as list_jobs}
use Rattle.ic_jobs.specs.declared.reply.Reply.TheVariants.{Accepted, Okay, Refused, Moved, Halted}
use Rattle.ic_jobs.specs.declared.reply.Refusal.TheVariants.{Taken, Full, NotRunning, NotPaused}
use Rattle.ic_jobs.specs.declared.event.Event.{Event}
use Rattle.ic_jobs.specs.declared.event.Event.TheVariants.{Command as by_command, Round}
use Rattle.ic_jobs.specs.State.{is_running, is_paused}
use Rattle.ic_jobs.specs.inner.States.{is_finished}
use Rattle.ic_jobs.specs.Job.{JobParts, IsJob, begun, system_of, can_move, moved, in_state}
use Rattle.ic_jobs.specs.Table.{IsTable, job_named, with_changed, without}
use Rattle.ic_jobs.specs.Events.{Outcome, outcome, copied, unless_missing, paused, resumed, after_command, after_round, where_running, apply}
use Rattle.ic_jobs.specs.History.{table_after}
use Rattle.ic_jobs.specs.Commands.{IsEvent, IsCommand}
use Rattle.ic_jobs.specs.Names.{mentions}
use Rattle.ic_jobs.proofs.JobLemmas.{IsJob-in_state, IsJob-moved, IsJob-begun, IsJob-branched}
use Rattle.ic_jobs.proofs.TableLemmas.{All-split, StandsAlone, named_stands, changed_alone, without_alone, IsTable-with, IsTable-without, IsTable-push}
use Rattle.ic_jobs.proofs.TableLookups.{job_named-changed_other, job_named-without_other, job_named-append}

-- ---- tables stay tables

job_there : (name : List ℕ) (t : List JobParts) (i : ℕ) (j : JobParts) (s : StandsAlone name t i j) → IsTable t → IsJob j
job_there name t i j s is =
    (All-split IsJob s.before (j ∷ s.after) (subst (λ (l : List JobParts). IsTable l) s.parts is).each).1.0

pub IsTable-in_state : (name : List ℕ) (t : List JobParts) (i : ℕ) (j : JobParts) (s : StandsAlone name t i j) (to : State) → IsTable t
    → is_finished j.state ≡ false → is_finished to ≡ false → IsTable (with_changed name (in_state to) t)
IsTable-in_state name t i j s to is old new =
    subst (λ (l : List JobParts). IsTable l) (sym (changed_alone name (in_state to) t i j s))
    (IsTable-with name t i j (in_state to j) s is refl (IsJob-in_state to j (job_there name t i j s is) old new))

pub IsTable-moved : (name : List ℕ) (t : List JobParts) (i : ℕ) (j : JobParts) (s : StandsAlone name t i j) → IsTable t
    → is_finished j.state ≡ false → can_move j ≡ true → IsTable (with_changed name moved t)
IsTable-moved name t i j s is unended can =
    subst (λ (l : List JobParts). IsTable l) (sym (changed_alone name moved t i j s))
    (IsTable-with name t i j (moved j) s is refl (IsJob-moved j (job_there name t i j s is) unended can))

pub IsTable-cancelled : (name : List ℕ) (t : List JobParts) (i : ℕ) (j : JobParts) (s : StandsAlone name t i j) → IsTable t → IsTable (without name t)
IsTable-cancelled name t i j s is =
    subst (λ (l : List JobParts). IsTable l) (sym (without_alone name t i j s)) (IsTable-without name t i j s is)

pub running_open : (s : State) → is_running s ≡ true → is_finished s ≡ false
running_open state.Done e = cc
running_open state.Spent e = cc
running_open _ e = refl

pub paused_open : (s : State) → is_paused s ≡ true → is_finished s ≡ false
paused_open state.Done e = cc
paused_open state.Spent e = cc
paused_open _ e = refl

room_left : (n : ℕ) → nat_lt n MAX_JOBS ≡ true → n < MAX_JOBS
room_left n e = ltb-true n MAX_JOBS e

none_there : (o : Option JobParts) → is_some o ≡ false → o ≡ None
none_there None e = refl
none_there (Some j) e = cc

submit_keeps : (name : List ℕ) (s : SystemParts) (most : Option ℕ) (t : List JobParts) (taken room : Bool) → is_some (job_named name t) ≡ taken → nat_lt (length t) MAX_JOBS ≡ room
    → IsTable t → IsJob (begun name s most)
    → IsTable (cond taken (outcome t (Refused Taken)) (cond room (outcome (t ++ begun name s most ∷ []) Accepted) (outcome t (Refused Full)))).table
submit_keeps name s most t true room there left is job = is
submit_keeps name s most t false true there left is job = IsTable-push t (begun name s most) is job (room_left (length t) left) (none_there (job_named name t) there)
submit_keeps name s most t false false there left is job = is

copy_keeps : (old new : List ℕ) (t : List JobParts) (o : Option JobParts) → job_named old t ≡ o → IsTable t → IsTrue (is_job_name new)
    → IsTable (unless_missing t (copied t new) o).table
copy_keeps old new t None there is named = is
copy_keeps old new t (Some j) there is named =
    let s = named_stands old t j is.distinct there in
    submit_keeps new (system_of j) None t (is_some (job_named new t)) (nat_lt (length t) MAX_JOBS) refl refl is (IsJob-branched new j named (job_there old t s.0 j s.1 is))

pause_keeps : (name : List ℕ) (t : List JobParts) (o : Option JobParts) → job_named name t ≡ o → IsTable t → IsTable (unless_missing t (paused t name) o).table
pause_keeps name t None there is = is
pause_keeps name t (Some j) there is = at (is_running j.state) refl
  where
    at : (b : Bool) → is_running j.state ≡ b → IsTable (cond b (outcome (with_changed name (in_state state.Paused) t) Okay) (outcome t (Refused NotRunning))).table
    at true e = let s = named_stands name t j is.distinct there in IsTable-in_state name t s.0 j s.1 state.Paused is (running_open j.state e) refl
    at false e = is

resume_keeps : (name : List ℕ) (t : List JobParts) (o : Option JobParts) → job_named name t ≡ o → IsTable t → IsTable (unless_missing t (resumed t name) o).table
resume_keeps name t None there is = is
resume_keeps name t (Some j) there is = at (is_paused j.state) refl
  where
    at : (b : Bool) → is_paused j.state ≡ b → IsTable (cond b (outcome (with_changed name (in_state state.Running) t) Okay) (outcome t (Refused NotPaused))).table
    at true e = let s = named_stands name t j is.distinct there in IsTable-in_state name t s.0 j s.1 state.Running is (paused_open j.state e) refl
    at false e = is

cancel_keeps : (name : List ℕ) (t : List JobParts) (o : Option JobParts) → job_named name t ≡ o → IsTable t → IsTable (unless_missing t (λ j. outcome (without name t) Okay) o).table
cancel_keeps name t None there is = is
cancel_keeps name t (Some j) there is = let s = named_stands name t j is.distinct there in IsTable-cancelled name t s.0 j s.1 is

fetch_keeps : (t : List JobParts) (what : JobParts → Outcome) (o : Option JobParts) → ((j : JobParts) → (what j).table ≡ t) → IsTable t → IsTable (unless_missing t what o).table
fetch_keeps t what None same is = is
fetch_keeps t what (Some j) same is = subst (λ (l : List JobParts). IsTable l) (sym (same j)) is

pub command_keeps : (t : List JobParts) (c : Command) → IsTable t → IsCommand c → IsTable (after_command t c).table
command_keeps t (Submit name s most) is ok =
    submit_keeps name s most t (is_some (job_named name t)) (nat_lt (length t) MAX_JOBS) refl refl is (IsJob-begun name s most ok.name ok.symbols ok.rules ok.served ok.config ok.over ok.budget)
command_keeps t (CopyJob old new) is ok = copy_keeps old new t (job_named old t) refl is ok
command_keeps t (Pause name) is ok = pause_keeps name t (job_named name t) refl is
command_keeps t (Resume name) is ok = resume_keeps name t (job_named name t) refl is
command_keeps t (Cancel name) is ok = cancel_keeps name t (job_named name t) refl is
command_keeps t (Fetch name) is ok = fetch_keeps t _ (job_named name t) (λ j. refl) is
command_keeps t list_jobs is ok = is

round_keeps : (name : List ℕ) (t : List JobParts) (o : Option JobParts) → job_named name t ≡ o → IsTable t
    → IfSome (where_running (after_round t name) o) (λ p. IsTable p.table)
round_keeps name t None there is = tt
round_keeps name t (Some j) there is = at (is_running j.state) (can_move j) refl refl
  where
    at : (running can : Bool) → is_running j.state ≡ running → can_move j ≡ can
        → IfSome (cond running (Some (cond can (outcome (with_changed name moved t) Moved) (outcome (with_changed name (in_state state.Halted) t) Halted))) None) (λ p. IsTable p.table)
    at true true e f = let s = named_stands name t j is.distinct there in IsTable-moved name t s.0 j s.1 is (running_open j.state e) f
    at true false e f = let s = named_stands name t j is.distinct there in IsTable-in_state name t s.0 j s.1 state.Halted is (running_open j.state e) refl
    at false can e f = tt

pub event_keeps : (t : List JobParts) (e : Event) → IsTable t → IsEvent e → IfSome (apply t e) (λ p. IsTable p.table)
event_keeps t (by_command c) is ok = command_keeps t c is ok
event_keeps t (Round name) is ok = round_keeps name t (job_named name t) refl is

-- ---- other names keep their jobs

last_option : (o : Option JobParts) → option_or o None ≡ o
last_option None = refl
last_option (Some j) = refl

pushed_other : (other : List ℕ) (t : List JobParts) (j : JobParts) → bytes_eq other j.name ≡ false → job_named other (t ++ j ∷ []) ≡ job_named other t
pushed_other other t j apart =
    job_named-append other t j ∙ ap (λ (b : Bool). option_or (job_named other t) (cond b (Some j) None)) apart ∙ last_option (job_named other t)

submit_others : (name other : List ℕ) (s : SystemParts) (most : Option ℕ) (t : List JobParts) (taken room : Bool) → bytes_eq other name ≡ false
    → job_named other (cond taken (outcome t (Refused Taken)) (cond room (outcome (t ++ begun name s most ∷ []) Accepted) (outcome t (Refused Full)))).table ≡ job_named other t
submit_others name other s most t true room apart = refl
submit_others name other s most t false true apart = pushed_other other t (begun name s most) apart
submit_others name other s most t false false apart = refl

missing_others : (other : List ℕ) (t : List JobParts) (what : JobParts → Outcome) (o : Option JobParts) → ((j : JobParts) → job_named other (what j).table ≡ job_named other t)
    → job_named other (unless_missing t what o).table ≡ job_named other t
missing_others other t what None same = refl
missing_others other t what (Some j) same = same j

where_others : (other : List ℕ) (t : List JobParts) (a b : Outcome) (c : Bool) → job_named other a.table ≡ job_named other t → job_named other b.table ≡ job_named other t
    → job_named other (cond c a b).table ≡ job_named other t
where_others other t a b true first second = first
where_others other t a b false first second = second

running_others : (other : List ℕ) (t : List JobParts) (what : JobParts → Outcome) (o : Option JobParts) → ((j : JobParts) → job_named other (what j).table ≡ job_named other t)
    → job_named other (option_map_or (λ p. p.table) (where_running what o) t) ≡ job_named other t
running_others other t what None same = refl
running_others other t what (Some j) same = at (is_running j.state)
  where
    at : (b : Bool) → job_named other (option_map_or (λ p. p.table) (cond b (Some (what j)) None) t) ≡ job_named other t
    at true = same j
    at false = refl

pub second_apart : (a b : Bool) → (a || b) ≡ false → b ≡ false
second_apart true b e = cc
second_apart false b e = e

pub others_stay : (t : List JobParts) (e : Event) (other : List ℕ) → mentions other e ≡ false → job_named other (table_after t e) ≡ job_named other t
others_stay t (by_command (Submit name s most)) other apart = submit_others name other s most t (is_some (job_named name t)) (nat_lt (length t) MAX_JOBS) apart
others_stay t (by_command (CopyJob old new)) other apart =
    missing_others other t (copied t new) (job_named old t)
    (λ j. submit_others new other (system_of j) None t (is_some (job_named new t)) (nat_lt (length t) MAX_JOBS) (second_apart (bytes_eq other old) (bytes_eq other new) apart))
others_stay t (by_command (Pause name)) other apart =
    missing_others other t (paused t name) (job_named name t)
    (λ j. where_others other t _ _ (is_running j.state) (job_named-changed_other name other (in_state state.Paused) t apart (λ k. refl)) refl)
others_stay t (by_command (Resume name)) other apart =
    missing_others other t (resumed t name) (job_named name t)
    (λ j. where_others other t _ _ (is_paused j.state) (job_named-changed_other name other (in_state state.Running) t apart (λ k. refl)) refl)
others_stay t (by_command (Cancel name)) other apart =
    missing_others other t _ (job_named name t) (λ j. job_named-without_other name other t apart)
others_stay t (by_command (Fetch name)) other apart = missing_others other t _ (job_named name t) (λ j. refl)
others_stay t (by_command list_jobs) other apart = refl
others_stay t (Round name) other apart =
    running_others other t (after_round t name) (job_named name t)
    (λ j. where_others other t _ _ (can_move j) (job_named-changed_other name other moved t apart (λ k. refl))
    (job_named-changed_other name other (in_state state.Halted) t apart (λ k. refl)))
