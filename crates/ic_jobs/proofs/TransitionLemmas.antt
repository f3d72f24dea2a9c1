-- What events make of the state of a job.
use Rattle.std.proofs.Common.{◌≡◌, ℕ, ◌+◌, List, [], ◌∷◌, ◌++◌, map, Bool, true, false, cond, Option, None, Some, is_some, nat_lt, length, refl, sym, ap, ◌∙◌}
use Rattle.std.specs.Option.{option_map, option_or}
use Rattle.std.specs.Str.{bytes_eq}
use Rattle.std.specs.Cmp.Lexicographic.{bytes_decides}
use Rattle.ic_term.specs.Configuration.{Configuration}
use Rattle.ic_rules.specs.RuleSet.{Rules}
use Rattle.ic_rules.specs.System.{SystemParts}
use Rattle.ic_round.specs.Rounds.{round}
use Rattle.ic_round.specs.Quiet.{IsQuiet, is_quiet}
use Rattle.ic_round.specs.lemmas.QuietLemmas.{no_step, is_quiet_where}
use Rattle.ic_jobs.specs.declared.limits.TheConstants.{MAX_JOBS}
use Rattle.ic_jobs.specs.declared.state.State.{State}
use Rattle.ic_jobs.specs.declared.state.State.TheVariants as state
use Rattle.ic_jobs.specs.declared.command.Command.{Command}
use Rattle.ic_jobs.specs.declared.command.Command.TheVariants.{Submit, CopyJob, Pause, Resume, Cancel, Fetch, List as list_jobs}
use Rattle.ic_jobs.specs.declared.reply.Reply.{Reply}
use Rattle.ic_jobs.specs.declared.reply.Reply.TheVariants.{Accepted, Okay, Shown, Refused, Moved, Halted}
use Rattle.ic_jobs.specs.declared.reply.Refusal.TheVariants.{Taken, Full, NoJob, NotRunning, NotPaused}
use Rattle.ic_jobs.specs.declared.event.Event.{Event}
use Rattle.ic_jobs.specs.declared.event.Event.TheVariants.{Command as by_command, Round}
use Rattle.ic_jobs.specs.State.{is_running, is_paused}
use Rattle.ic_jobs.specs.Budget.{is_used_up}
use Rattle.ic_jobs.specs.Job.{JobParts, begun, system_of, open_state, state_after, can_move, moved, in_state}
use Rattle.ic_jobs.specs.Table.{job_named, with_changed, without}
use Rattle.ic_jobs.specs.Shown.{shown}
use Rattle.ic_jobs.specs.Events.{Outcome, outcome, refused, copied, unless_missing, paused, resumed, after_command, after_round, where_running, apply}
use Rattle.ic_jobs.specs.Names.{command_names}
use Rattle.ic_jobs.specs.Transitions.{state_of, Leads, Row, row, submit_row, copy_row, pause_row, resume_row, cancel_row, fetch_reply, round_row_in, round_row, LeadsBy, LeadsWhere, leaves_one, leaves_two, CommandLeadsBy, CommandLeads, EventLeads}
use Rattle.ic_jobs.proofs.JobLemmas.{is_budget, used_up_where}
use Rattle.ic_jobs.proofs.TableLookups.{KeepsName, job_named-changed, job_named-without, job_named-append}

abbrev state_in : Option JobParts → Option State
state_in o = option_map (λ j. j.state) o

-- a job that is there, in this state
record Found (o : Option JobParts) (s : State) : Type 0 where
  job : JobParts
  there : o ≡ Some job
  is : job.state ≡ s

found_with : (o : Option JobParts) (s : State) → state_in o ≡ Some s → Found o s
found_with None s e = cc
found_with (Some j) s e = record { job = j; there = refl; is = let same : j.state ≡ s = cc in same }

none_with : (o : Option JobParts) → state_in o ≡ None → o ≡ None
none_with None e = refl
none_with (Some j) e = cc

leads : (t : List JobParts) (e : Event) (o : Outcome) (r : Reply) (n : List ℕ) (s : Option State)
    → apply t e ≡ Some o → o.reply ≡ r → state_of n o.table ≡ s → Leads t e r n s
leads t e o r n s defined replied left = record { outcome = o; defined = defined; replied = replied; left = left }

-- a command that leaves this leads there
commanded : (t : List JobParts) (c : Command) (u : List JobParts) (r : Reply) (n : List ℕ) (s : Option State)
    → after_command t c ≡ outcome u r → state_of n u ≡ s → Leads t (by_command c) r n s
commanded t c u r n s is left = leads t (by_command c) (outcome u r) r n s (ap (λ (o : Outcome). Some o) is) refl left

changed_state : (n : List ℕ) (change : JobParts → JobParts) (t : List JobParts) (j : JobParts) → KeepsName change → job_named n t ≡ Some j
    → state_of n (with_changed n change t) ≡ Some (change j).state
changed_state n change t j keeps there = ap state_in (job_named-changed n change t keeps ∙ ap (option_map change) there)

-- ---- submits

submits : (t : List JobParts) (n : List ℕ) (s : SystemParts) (most : Option ℕ) (taken room : Bool) → is_some (job_named n t) ≡ taken → nat_lt (length t) MAX_JOBS ≡ room
    → after_command t (Submit n s most) ≡ cond taken (refused t Taken) (cond room (outcome (t ++ begun n s most ∷ []) Accepted) (refused t Full))
submits t n s most taken room there left i =
    cond (there i) (refused t Taken) (cond (left i) (outcome (t ++ begun n s most ∷ []) Accepted) (refused t Full))

begun_last : (t : List JobParts) (n : List ℕ) (s : SystemParts) (most : Option ℕ) → job_named n t ≡ None → job_named n (t ++ begun n s most ∷ []) ≡ Some (begun n s most)
begun_last t n s most none =
    let same : bytes_eq n n ≡ true = (bytes_decides n n).1 refl in
    job_named-append n t (begun n s most) ∙ (λ i. option_or (none i) (cond (same i) (Some (begun n s most)) None))

submit_leads : (t : List JobParts) (n : List ℕ) (s : SystemParts) (most : Option ℕ) → state_of n t ≡ None → nat_lt (length t) MAX_JOBS ≡ true
    → Leads t (by_command (Submit n s most)) Accepted n (Some (open_state s.rules s.config))
submit_leads t n s most e few =
    let none = none_with (job_named n t) e in
    commanded t (Submit n s most) (t ++ begun n s most ∷ []) Accepted n _
    (submits t n s most false true (ap is_some none) few) (ap state_in (begun_last t n s most none))

taken_leads : (t : List JobParts) (n : List ℕ) (s : SystemParts) (most : Option ℕ) (was : State) → state_of n t ≡ Some was
    → Leads t (by_command (Submit n s most)) (Refused Taken) n (Some was)
taken_leads t n s most was e =
    let f = found_with (job_named n t) was e in
    commanded t (Submit n s most) t (Refused Taken) n (Some was) (submits t n s most true (nat_lt (length t) MAX_JOBS) (ap is_some f.there) refl) e

full_leads : (t : List JobParts) (n : List ℕ) (s : SystemParts) (most : Option ℕ) → state_of n t ≡ None → nat_lt (length t) MAX_JOBS ≡ false
    → Leads t (by_command (Submit n s most)) (Refused Full) n None
full_leads t n s most e many =
    let none = none_with (job_named n t) e in
    commanded t (Submit n s most) t (Refused Full) n None (submits t n s most false false (ap is_some none) many) e

-- ---- pause and resume

pause_leads : (t : List JobParts) (n : List ℕ) → state_of n t ≡ Some state.Running → Leads t (by_command (Pause n)) Okay n (Some state.Paused)
pause_leads t n e =
    let f = found_with (job_named n t) state.Running e in
    let u : List JobParts = with_changed n (in_state state.Paused) t in
    commanded t (Pause n) u Okay n (Some state.Paused)
    (ap (unless_missing t (paused t n)) f.there ∙ ap (λ (s : State). cond (is_running s) (outcome u Okay) (refused t NotRunning)) f.is)
    (changed_state n (in_state state.Paused) t f.job (λ k. refl) f.there)

no_pause_leads : (t : List JobParts) (n : List ℕ) (was : State) → state_of n t ≡ Some was → is_running was ≡ false
    → Leads t (by_command (Pause n)) (Refused NotRunning) n (Some was)
no_pause_leads t n was e apart =
    let f = found_with (job_named n t) was e in
    let u : List JobParts = with_changed n (in_state state.Paused) t in
    commanded t (Pause n) t (Refused NotRunning) n (Some was)
    (ap (unless_missing t (paused t n)) f.there
    ∙ ap (λ (b : Bool). cond b (outcome u Okay) (refused t NotRunning)) (ap is_running f.is ∙ apart)) e

resume_leads : (t : List JobParts) (n : List ℕ) → state_of n t ≡ Some state.Paused → Leads t (by_command (Resume n)) Okay n (Some state.Running)
resume_leads t n e =
    let f = found_with (job_named n t) state.Paused e in
    let u : List JobParts = with_changed n (in_state state.Running) t in
    commanded t (Resume n) u Okay n (Some state.Running)
    (ap (unless_missing t (resumed t n)) f.there ∙ ap (λ (s : State). cond (is_paused s) (outcome u Okay) (refused t NotPaused)) f.is)
    (changed_state n (in_state state.Running) t f.job (λ k. refl) f.there)

no_resume_leads : (t : List JobParts) (n : List ℕ) (was : State) → state_of n t ≡ Some was → is_paused was ≡ false
    → Leads t (by_command (Resume n)) (Refused NotPaused) n (Some was)
no_resume_leads t n was e apart =
    let f = found_with (job_named n t) was e in
    let u : List JobParts = with_changed n (in_state state.Running) t in
    commanded t (Resume n) t (Refused NotPaused) n (Some was)
    (ap (unless_missing t (resumed t n)) f.there
    ∙ ap (λ (b : Bool). cond b (outcome u Okay) (refused t NotPaused)) (ap is_paused f.is ∙ apart)) e

-- ---- cancel, and names of no job

cancel_leads : (t : List JobParts) (n : List ℕ) (was : State) → state_of n t ≡ Some was → Leads t (by_command (Cancel n)) Okay n None
cancel_leads t n was e =
    let f = found_with (job_named n t) was e in
    commanded t (Cancel n) (without n t) Okay n None (ap (unless_missing t (λ j. outcome (without n t) Okay)) f.there) (ap state_in (job_named-without n t))

missing : (t : List JobParts) (n : List ℕ) (c : Command) (what : JobParts → Outcome) → after_command t c ≡ unless_missing t what (job_named n t)
    → state_of n t ≡ None → Leads t (by_command c) (Refused NoJob) n None
missing t n c what is e =
    commanded t c t (Refused NoJob) n None (is ∙ ap (unless_missing t what) (none_with (job_named n t) e)) e

none_to_pause : (t : List JobParts) (n : List ℕ) → state_of n t ≡ None → Leads t (by_command (Pause n)) (Refused NoJob) n None
none_to_pause t n e = missing t n (Pause n) (paused t n) refl e

none_to_resume : (t : List JobParts) (n : List ℕ) → state_of n t ≡ None → Leads t (by_command (Resume n)) (Refused NoJob) n None
none_to_resume t n e = missing t n (Resume n) (resumed t n) refl e

none_to_cancel : (t : List JobParts) (n : List ℕ) → state_of n t ≡ None → Leads t (by_command (Cancel n)) (Refused NoJob) n None
none_to_cancel t n e = missing t n (Cancel n) (λ j. outcome (without n t) Okay) refl e

-- ---- rounds

rounds : (t : List JobParts) (n : List ℕ) (j : JobParts) (can : Bool) → job_named n t ≡ Some j → j.state ≡ state.Running → can_move j ≡ can
    → apply t (Round n) ≡ Some (cond can (outcome (with_changed n moved t) Moved) (outcome (with_changed n (in_state state.Halted) t) Halted))
rounds t n j can there running able =
    ap (where_running (after_round t n)) there
    ∙ ap (λ (s : State). cond (is_running s) (Some (after_round t n j)) None) running
    ∙ ap (λ (b : Bool). Some (cond b (outcome (with_changed n moved t) Moved) (outcome (with_changed n (in_state state.Halted) t) Halted))) able

round_leads : (t : List JobParts) (n : List ℕ) (j : JobParts) → job_named n t ≡ Some j → j.state ≡ state.Running → can_move j ≡ true
    → Leads t (Round n) Moved n (Some (state_after j.rules (round j.rules.rules j.config) (j.rounds + 1) j.budget))
round_leads t n j there running able =
    leads t (Round n) (outcome (with_changed n moved t) Moved) Moved n _ (rounds t n j true there running able) refl
    (changed_state n moved t j (λ k. refl) there)

halt_leads : (t : List JobParts) (n : List ℕ) (j : JobParts) → job_named n t ≡ Some j → j.state ≡ state.Running → can_move j ≡ false
    → Leads t (Round n) Halted n (Some state.Halted)
halt_leads t n j there running able =
    leads t (Round n) (outcome (with_changed n (in_state state.Halted) t) Halted) Halted n _ (rounds t n j false there running able) refl
    (changed_state n (in_state state.Halted) t j (λ k. refl) there)

-- a job that doesn't run makes no round
idle : (t : List JobParts) (n : List ℕ) (j : JobParts) (s : State) → job_named n t ≡ Some j → j.state ≡ s → is_running s ≡ false → apply t (Round n) ≡ None
idle t n j s there is apart =
    ap (where_running (after_round t n)) there
    ∙ ap (λ (b : Bool). cond b (Some (after_round t n j)) None) (ap is_running is ∙ apart)

-- ---- the tables, row by row

submit_rows : (t : List JobParts) (n : List ℕ) (s : SystemParts) (most : Option ℕ) (was : Option State) (room : Bool) → state_of n t ≡ was → nat_lt (length t) MAX_JOBS ≡ room
    → LeadsBy t (by_command (Submit n s most)) n (submit_row (open_state s.rules s.config) was room)
submit_rows t n s most (Some was) room e left = taken_leads t n s most was e
submit_rows t n s most None true e left = submit_leads t n s most e left
submit_rows t n s most None false e left = full_leads t n s most e left

pause_rows : (t : List JobParts) (n : List ℕ) (was : Option State) → state_of n t ≡ was → LeadsBy t (by_command (Pause n)) n (pause_row was)
pause_rows t n None e = none_to_pause t n e
pause_rows t n (Some state.Running) e = pause_leads t n e
pause_rows t n (Some state.Paused) e = no_pause_leads t n state.Paused e refl
pause_rows t n (Some state.Done) e = no_pause_leads t n state.Done e refl
pause_rows t n (Some state.Halted) e = no_pause_leads t n state.Halted e refl
pause_rows t n (Some state.Spent) e = no_pause_leads t n state.Spent e refl

resume_rows : (t : List JobParts) (n : List ℕ) (was : Option State) → state_of n t ≡ was → LeadsBy t (by_command (Resume n)) n (resume_row was)
resume_rows t n None e = none_to_resume t n e
resume_rows t n (Some state.Running) e = no_resume_leads t n state.Running e refl
resume_rows t n (Some state.Paused) e = resume_leads t n e
resume_rows t n (Some state.Done) e = no_resume_leads t n state.Done e refl
resume_rows t n (Some state.Halted) e = no_resume_leads t n state.Halted e refl
resume_rows t n (Some state.Spent) e = no_resume_leads t n state.Spent e refl

cancel_rows : (t : List JobParts) (n : List ℕ) (was : Option State) → state_of n t ≡ was → LeadsBy t (by_command (Cancel n)) n (cancel_row was)
cancel_rows t n None e = none_to_cancel t n e
cancel_rows t n (Some was) e = cancel_leads t n was e

fetches : (t : List JobParts) (o : Option JobParts) → unless_missing t (λ j. outcome t (Shown (shown j))) o ≡ outcome t (fetch_reply o)
fetches t None = refl
fetches t (Some j) = refl

-- a command that names one job goes by that job's row
of_one : (t : List JobParts) (c : Command) (n : List ℕ) (w : Row) → command_names c ≡ n ∷ [] → LeadsBy t (by_command c) n w → CommandLeadsBy t c (leaves_one w)
of_one t c n w names l =
    record {
      outcome = l.outcome;
      defined = l.defined;
      replied = l.replied;
      left = ap (map (λ (name : List ℕ). state_of name l.outcome.table)) names ∙ ap (λ (s : Option State). s ∷ []) l.left;
    }

-- ---- copies

appended_stays : (old n : List ℕ) (t : List JobParts) (j : JobParts) (s : SystemParts) (taken room : Bool) → job_named old t ≡ Some j
    → job_named old (cond taken (refused t Taken) (cond room (outcome (t ++ begun n s None ∷ []) Accepted) (refused t Full))).table ≡ job_named old t
appended_stays old n t j s true room there = refl
appended_stays old n t j s false true there =
    job_named-append old t (begun n s None) ∙ ap (λ (o : Option JobParts). option_or o (cond (bytes_eq old n) (Some (begun n s None)) None)) there ∙ sym there
appended_stays old n t j s false false there = refl

-- a copy goes as a submit of what the copied job has, which stays as it is
copied_leads : (t : List JobParts) (old new : List ℕ) (j : JobParts) (w : Row) → job_named old t ≡ Some j
    → LeadsBy t (by_command (Submit new (system_of j) None)) new w → CommandLeadsBy t (CopyJob old new) (leaves_two (state_of old t) w)
copied_leads t old new j w there l =
    let made : Some (copied t new j) ≡ Some l.outcome = l.defined in
    let same : copied t new j ≡ l.outcome = cc in
    let stays : job_named old (copied t new j).table ≡ job_named old t =
    appended_stays old new t j (system_of j) (is_some (job_named new t)) (nat_lt (length t) MAX_JOBS) there in
    let kept : state_of old l.outcome.table ≡ state_of old t = ap (λ (o : Outcome). state_of old o.table) (sym same) ∙ ap state_in stays in
    let left = l.left in
    record {
      outcome = l.outcome;
      defined = ap (λ (o : Outcome). Some o) (ap (unless_missing t (copied t new)) there ∙ same);
      replied = l.replied;
      left = λ i. kept i ∷ left i ∷ [];
    }

copy_rows : (t : List JobParts) (old new : List ℕ) (o : Option JobParts) → job_named old t ≡ o
    → CommandLeadsBy t (CopyJob old new) (leaves_two (state_of old t) (copy_row o (state_of new t) (nat_lt (length t) MAX_JOBS)))
copy_rows t old new None there = record {
  outcome = refused t NoJob;
  defined = ap (λ (o : Option JobParts). Some (unless_missing t (copied t new) o)) there;
  replied = refl;
  left = refl;
}
copy_rows t old new (Some j) there =
    copied_leads t old new j _ there (submit_rows t new (system_of j) None (state_of new t) (nat_lt (length t) MAX_JOBS) refl refl)

command_leads : (t : List JobParts) (c : Command) → CommandLeads t c
command_leads t (Submit n s most) = of_one t (Submit n s most) n _ refl (submit_rows t n s most (state_of n t) (nat_lt (length t) MAX_JOBS) refl refl)
command_leads t (CopyJob old new) = copy_rows t old new (job_named old t) refl
command_leads t (Pause n) = of_one t (Pause n) n _ refl (pause_rows t n (state_of n t) refl)
command_leads t (Resume n) = of_one t (Resume n) n _ refl (resume_rows t n (state_of n t) refl)
command_leads t (Cancel n) = of_one t (Cancel n) n _ refl (cancel_rows t n (state_of n t) refl)
command_leads t (Fetch n) = ap (λ (o : Outcome). Some o) (fetches t (job_named n t))
command_leads t list_jobs = refl

running_rows : (t : List JobParts) (n : List ℕ) (j : JobParts) (can : Bool) → job_named n t ≡ Some j → j.state ≡ state.Running → can_move j ≡ can
    → LeadsWhere t (Round n) n (cond can (Some (row Moved (Some (state_after j.rules (round j.rules.rules j.config) (j.rounds + 1) j.budget)))) (Some (row Halted (Some state.Halted))))
running_rows t n j true there running able = round_leads t n j there running able
running_rows t n j false there running able = halt_leads t n j there running able

round_rows_in : (t : List JobParts) (n : List ℕ) (j : JobParts) (s : State) → job_named n t ≡ Some j → j.state ≡ s → LeadsWhere t (Round n) n (round_row_in s j)
round_rows_in t n j state.Running there is = running_rows t n j (can_move j) there is refl
round_rows_in t n j s there is = idle t n j s there is refl

round_rows : (t : List JobParts) (n : List ℕ) (o : Option JobParts) → job_named n t ≡ o → LeadsWhere t (Round n) n (round_row o)
round_rows t n None e = ap (where_running (after_round t n)) e
round_rows t n (Some j) e = round_rows_in t n j j.state e refl

pub event_leads : (t : List JobParts) (e : Event) → EventLeads t e
event_leads t (by_command c) = command_leads t c
event_leads t (Round n) = round_rows t n (job_named n t) refl

-- ---- the state in which a job begins, and that after a round

false_unless_true : (b : Bool) → ¬ (b ≡ true) → b ≡ false
false_unless_true true apart = absurd (apart refl)
false_unless_true false apart = refl

pub open_where_quiet : (rules : Rules) (c : Configuration) → IsQuiet rules.rules c → open_state rules c ≡ state.Done
open_where_quiet rules c quiet = ap (λ (b : Bool). cond b state.Done state.Running) (is_quiet_where rules.rules c quiet)

pub open_where_not : (rules : Rules) (c : Configuration) → ¬ IsQuiet rules.rules c → open_state rules c ≡ state.Running
open_where_not rules c apart =
    ap (λ (b : Bool). cond b state.Done state.Running) (false_unless_true (is_quiet rules.rules c) (λ e. apart (no_step rules.rules c e)))

pub done_after : (rules : Rules) (c : Configuration) (rounds : ℕ) (budget : Option ℕ) → IsQuiet rules.rules c → state_after rules c rounds budget ≡ state.Done
done_after rules c rounds budget quiet =
    ap (λ (b : Bool). cond b state.Done (cond (is_used_up budget rounds) state.Spent state.Running)) (is_quiet_where rules.rules c quiet)

after_not : (rules : Rules) (c : Configuration) (rounds : ℕ) (budget : Option ℕ) → ¬ IsQuiet rules.rules c
    → state_after rules c rounds budget ≡ cond (is_used_up budget rounds) state.Spent state.Running
after_not rules c rounds budget apart =
    ap (λ (b : Bool). cond b state.Done (cond (is_used_up budget rounds) state.Spent state.Running))
    (false_unless_true (is_quiet rules.rules c) (λ e. apart (no_step rules.rules c e)))

pub spent_after : (rules : Rules) (c : Configuration) (rounds : ℕ) (budget : Option ℕ) → ¬ IsQuiet rules.rules c → budget ≡ Some rounds
    → state_after rules c rounds budget ≡ state.Spent
spent_after rules c rounds budget apart used =
    after_not rules c rounds budget apart ∙ ap (λ (b : Bool). cond b state.Spent state.Running) (used_up_where budget rounds used)

pub running_after : (rules : Rules) (c : Configuration) (rounds : ℕ) (budget : Option ℕ) → ¬ IsQuiet rules.rules c → ¬ (budget ≡ Some rounds)
    → state_after rules c rounds budget ≡ state.Running
running_after rules c rounds budget apart left =
    after_not rules c rounds budget apart
    ∙ ap (λ (b : Bool). cond b state.Spent state.Running) (false_unless_true (is_used_up budget rounds) (λ e. left (is_budget budget rounds e)))
