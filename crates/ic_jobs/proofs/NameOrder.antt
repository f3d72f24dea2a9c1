-- The names of a table after an event, in their order.
use Rattle.std.proofs.Common.{◌≡◌, ℕ, List, [], ◌∷◌, ◌++◌, Bool, true, false, cond, not, Option, None, Some, is_some, nat_lt, length, refl, sym, ap, subst, ◌∙◌}
use Rattle.ic_rules.specs.System.{SystemParts}
use Rattle.ic_jobs.specs.declared.limits.TheConstants.{MAX_JOBS}
use Rattle.ic_jobs.specs.declared.state.State.TheVariants as state
use Rattle.ic_jobs.specs.declared.command.Command.{Command}
use Rattle.ic_jobs.specs.declared.command.Command.TheVariants.{Submit, CopyJob, Pause, Resume, Cancel, Fetch, List as list_jobs}
use Rattle.ic_jobs.specs.declared.reply.Reply.TheVariants.{Accepted, Okay, Shown, Refused, Moved, Halted}
use Rattle.ic_jobs.specs.declared.reply.Refusal.{Refusal}
use Rattle.ic_jobs.specs.declared.reply.Refusal.TheVariants.{Taken, Full, NotRunning, NotPaused}
use Rattle.ic_jobs.specs.declared.event.Event.{Event}
use Rattle.ic_jobs.specs.declared.event.Event.TheVariants.{Command as by_command, Round}
use Rattle.ic_jobs.specs.State.{is_running, is_paused}
use Rattle.ic_jobs.specs.Job.{JobParts, begun, system_of, can_move, moved, in_state}
use Rattle.ic_jobs.specs.Table.{job_names, is_named, job_named, with_changed, without}
use Rattle.ic_jobs.specs.Shown.{shown}
use Rattle.ic_jobs.specs.Events.{Outcome, outcome, refused, copied, unless_missing, paused, resumed, after_command, after_round, where_running, apply}
use Rattle.ic_jobs.specs.Names.{but, names_after}
use Rattle.ic_jobs.proofs.TableLookups.{KeepsName}
use Rattle.ic_jobs.proofs.TableLemmas.{names-append}

named_so : (change : JobParts → JobParts) (j : JobParts) (b : Bool) → KeepsName change → (cond b (change j) j).name ≡ j.name
named_so change j true keeps = keeps j
named_so change j false keeps = refl

names_changed : (n : List ℕ) (change : JobParts → JobParts) (t : List JobParts) → KeepsName change → job_names (with_changed n change t) ≡ job_names t
names_changed n change [] keeps = refl
names_changed n change (j ∷ js) keeps = λ i. named_so change j (is_named n j) keeps i ∷ names_changed n change js keeps i

left_at : (n : List ℕ) (j : JobParts) (rest : List JobParts) (names : List (List ℕ)) (b : Bool) → job_names rest ≡ names
    → job_names (cond b (j ∷ rest) rest) ≡ cond b (j.name ∷ names) names
left_at n j rest names true e = ap (λ (ns : List (List ℕ)). j.name ∷ ns) e
left_at n j rest names false e = e

names_without : (n : List ℕ) (t : List JobParts) → job_names (without n t) ≡ but n (job_names t)
names_without n [] = refl
names_without n (j ∷ js) = left_at n j (without n js) (but n (job_names js)) (not (is_named n j)) (names_without n js)

-- ---- the names after an event

abbrev NamesSo : List JobParts → Event → Outcome → Type 0
NamesSo t e o = job_names o.table ≡ names_after (job_names t) e o.reply

submit_names : (t : List JobParts) (n : List ℕ) (s : SystemParts) (most : Option ℕ) (taken room : Bool)
    → NamesSo t (by_command (Submit n s most)) (cond taken (refused t Taken) (cond room (outcome (t ++ begun n s most ∷ []) Accepted) (refused t Full)))
submit_names t n s most true room = refl
submit_names t n s most false true = names-append t (begun n s most ∷ [])
submit_names t n s most false false = refl

copy_names : (t : List JobParts) (old n : List ℕ) (o : Option JobParts) → NamesSo t (by_command (CopyJob old n)) (unless_missing t (copied t n) o)
copy_names t old n None = refl
copy_names t old n (Some j) = submit_names t n (system_of j) None (is_some (job_named n t)) (nat_lt (length t) MAX_JOBS)

pause_names : (t : List JobParts) (n : List ℕ) (o : Option JobParts) → NamesSo t (by_command (Pause n)) (unless_missing t (paused t n) o)
pause_names t n None = refl
pause_names t n (Some j) = at (is_running j.state)
  where
    at : (b : Bool) → NamesSo t (by_command (Pause n)) (cond b (outcome (with_changed n (in_state state.Paused) t) Okay) (refused t NotRunning))
    at true = names_changed n (in_state state.Paused) t (λ k. refl)
    at false = refl

resume_names : (t : List JobParts) (n : List ℕ) (o : Option JobParts) → NamesSo t (by_command (Resume n)) (unless_missing t (resumed t n) o)
resume_names t n None = refl
resume_names t n (Some j) = at (is_paused j.state)
  where
    at : (b : Bool) → NamesSo t (by_command (Resume n)) (cond b (outcome (with_changed n (in_state state.Running) t) Okay) (refused t NotPaused))
    at true = names_changed n (in_state state.Running) t (λ k. refl)
    at false = refl

cancel_names : (t : List JobParts) (n : List ℕ) (o : Option JobParts) → NamesSo t (by_command (Cancel n)) (unless_missing t (λ j. outcome (without n t) Okay) o)
cancel_names t n None = refl
cancel_names t n (Some j) = names_without n t

fetch_names : (t : List JobParts) (n : List ℕ) (o : Option JobParts) → NamesSo t (by_command (Fetch n)) (unless_missing t (λ j. outcome t (Shown (shown j))) o)
fetch_names t n None = refl
fetch_names t n (Some j) = refl

command_names : (t : List JobParts) (c : Command) → NamesSo t (by_command c) (after_command t c)
command_names t (Submit n s most) = submit_names t n s most (is_some (job_named n t)) (nat_lt (length t) MAX_JOBS)
command_names t (CopyJob old n) = copy_names t old n (job_named old t)
command_names t (Pause n) = pause_names t n (job_named n t)
command_names t (Resume n) = resume_names t n (job_named n t)
command_names t (Cancel n) = cancel_names t n (job_named n t)
command_names t (Fetch n) = fetch_names t n (job_named n t)
command_names t list_jobs = refl

round_names : (t : List JobParts) (n : List ℕ) (p : Outcome) (o : Option JobParts) → where_running (after_round t n) o ≡ Some p → NamesSo t (Round n) p
round_names t n p None is = cc
round_names t n p (Some j) is = at (is_running j.state) (can_move j) is
  where
    at : (running can : Bool)
        → cond running (Some (cond can (outcome (with_changed n moved t) Moved) (outcome (with_changed n (in_state state.Halted) t) Halted))) None ≡ Some p
        → NamesSo t (Round n) p
    at true true e =
        let same : outcome (with_changed n moved t) Moved ≡ p = cc in
        ap (λ (o : Outcome). job_names o.table) (sym same) ∙ names_changed n moved t (λ k. refl)
    at true false e =
        let same : outcome (with_changed n (in_state state.Halted) t) Halted ≡ p = cc in
        ap (λ (o : Outcome). job_names o.table) (sym same) ∙ names_changed n (in_state state.Halted) t (λ k. refl)
    at false can e = cc

pub event_names_so : (t : List JobParts) (e : Event) (o : Outcome) → apply t e ≡ Some o → NamesSo t e o
event_names_so t (by_command c) o is =
    let same : after_command t c ≡ o = cc in subst (λ (p : Outcome). NamesSo t (by_command c) p) same (command_names t c)
event_names_so t (Round n) o is = round_names t n o (job_named n t) is

-- ---- what is refused changes nothing

abbrev Stays : List JobParts → Refusal → Outcome → Type 0
Stays t r o = o.reply ≡ Refused r → o.table ≡ t

submit_stays : (t : List JobParts) (n : List ℕ) (s : SystemParts) (most : Option ℕ) (r : Refusal) (taken room : Bool)
    → Stays t r (cond taken (refused t Taken) (cond room (outcome (t ++ begun n s most ∷ []) Accepted) (refused t Full)))
submit_stays t n s most r true room e = refl
submit_stays t n s most r false true e = cc
submit_stays t n s most r false false e = refl

changed_stays : (t u : List JobParts) (q r : Refusal) (b : Bool) → Stays t r (cond b (outcome u Okay) (refused t q))
changed_stays t u q r true e = cc
changed_stays t u q r false e = refl

missing_stays : (t : List JobParts) (r : Refusal) (what : JobParts → Outcome) (o : Option JobParts) → ((j : JobParts) → Stays t r (what j))
    → Stays t r (unless_missing t what o)
missing_stays t r what None stays e = refl
missing_stays t r what (Some j) stays e = stays j e

command_stays : (t : List JobParts) (c : Command) (r : Refusal) → Stays t r (after_command t c)
command_stays t (Submit n s most) r = submit_stays t n s most r (is_some (job_named n t)) (nat_lt (length t) MAX_JOBS)
command_stays t (CopyJob old n) r =
    missing_stays t r (copied t n) (job_named old t) (λ j. submit_stays t n (system_of j) None r (is_some (job_named n t)) (nat_lt (length t) MAX_JOBS))
command_stays t (Pause n) r = missing_stays t r (paused t n) (job_named n t) (λ j. changed_stays t _ NotRunning r (is_running j.state))
command_stays t (Resume n) r = missing_stays t r (resumed t n) (job_named n t) (λ j. changed_stays t _ NotPaused r (is_paused j.state))
command_stays t (Cancel n) r = missing_stays t r (λ j. outcome (without n t) Okay) (job_named n t) (λ j e. cc)
command_stays t (Fetch n) r = missing_stays t r (λ j. outcome t (Shown (shown j))) (job_named n t) (λ j e. refl)
command_stays t list_jobs r = λ e. refl

round_stays : (t : List JobParts) (n : List ℕ) (r : Refusal) (p : Outcome) (o : Option JobParts) → where_running (after_round t n) o ≡ Some p → Stays t r p
round_stays t n r p None is = cc
round_stays t n r p (Some j) is = at (is_running j.state) (can_move j) is
  where
    at : (running can : Bool)
        → cond running (Some (cond can (outcome (with_changed n moved t) Moved) (outcome (with_changed n (in_state state.Halted) t) Halted))) None ≡ Some p
        → Stays t r p
    at true true e replied =
        let same : outcome (with_changed n moved t) Moved ≡ p = cc in
        let answered : Moved ≡ Refused r = ap (λ (o : Outcome). o.reply) same ∙ replied in cc
    at true false e replied =
        let same : outcome (with_changed n (in_state state.Halted) t) Halted ≡ p = cc in
        let answered : Halted ≡ Refused r = ap (λ (o : Outcome). o.reply) same ∙ replied in cc
    at false can e replied = cc

pub refused_stays : (t : List JobParts) (e : Event) (o : Outcome) (r : Refusal) → apply t e ≡ Some o → o.reply ≡ Refused r → o.table ≡ t
refused_stays t (by_command c) o r is =
    let same : after_command t c ≡ o = cc in subst (λ (p : Outcome). Stays t r p) same (command_stays t c r)
refused_stays t (Round n) o r is = round_stays t n r o (job_named n t) is

-- ---- an accepted copy goes last

last_by : (t : List JobParts) (new : List ℕ) (j : JobParts) (taken room : Bool)
    → let o = cond taken (refused t Taken) (cond room (outcome (t ++ begun new (system_of j) None ∷ []) Accepted) (refused t Full)) in
    o.reply ≡ Accepted → o.table ≡ t ++ begun new (system_of j) None ∷ []
last_by t new j true room e = cc
last_by t new j false true e = refl
last_by t new j false false e = cc

pub copied_last : (t : List JobParts) (old new : List ℕ) (j : JobParts) → job_named old t ≡ Some j → (after_command t (CopyJob old new)).reply ≡ Accepted
    → (after_command t (CopyJob old new)).table ≡ t ++ begun new (system_of j) None ∷ []
copied_last t old new j there e =
    let same : after_command t (CopyJob old new) ≡ copied t new j = ap (unless_missing t (copied t new)) there in
    ap (λ (o : Outcome). o.table) same
    ∙ last_by t new j (is_some (job_named new t)) (nat_lt (length t) MAX_JOBS) (sym (ap (λ (o : Outcome). o.reply) same) ∙ e)
