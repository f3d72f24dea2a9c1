-- Jobs that one server runs together: they are on the ways of a batch.
use Rattle.std.proofs.Common.{◌≡◌, ℕ, zero, suc, ◌+◌, ◌<◌, ◌≤◌, List, [], ◌∷◌, ◌++◌, Bool, true, false, ◌&&◌, Option, None, Some, map, refl, sym, ap, subst, ◌∙◌, arith}
use Rattle.std.specs.Prelude.{if◌then◌else◌, nat_lt}
use Rattle.std.specs.List.{AllByRecursion, AllZip, IsDistinct}
use Rattle.std.specs.Option.{option_map_or}
use Rattle.std.specs.Str.{bytes_eq}
use Rattle.std.proofs.lemmas.Bool.{lt-ltb}
use Rattle.std.proofs.lemmas.List.Concat.{flat_map-cons}
use Rattle.ic_flights.specs.Flight.{FlightParts}
use Rattle.ic_jobs.specs.declared.event.Event.TheVariants.{Round}
use Rattle.ic_jobs.specs.declared.reply.Reply.TheVariants.{Shown}
use Rattle.ic_jobs.specs.declared.state.State.TheVariants.{Halted}
use Rattle.ic_jobs.specs.State.{is_running}
use Rattle.ic_jobs.specs.Job.{JobParts, can_move, moved, in_state}
use Rattle.ic_jobs.specs.Table.{is_named, job_named, job_names, with_changed}
use Rattle.ic_jobs.specs.Events.{Outcome, after_round, outcome, unless_missing, where_running}
use Rattle.ic_jobs.specs.History.{table_after}
use Rattle.ic_jobs.specs.Landing.{due}
use Rattle.ic_jobs.specs.Shown.{shown}
use Rattle.ic_lines.specs.Answers.{after as after_lines, after_line, out}
use Rattle.ic_lines.specs.Turns.{after_events, round_and, turns}
use Rattle.ic_batch.specs.declared.jobs.NewJob.{NewJob}
use Rattle.ic_batch.specs.Jobs.{begun_by, names}
use Rattle.ic_batch.specs.Served.{fetches, run_together, runs_jobs}
use Rattle.ic_batch.specs.Way.{all_of, after_event, after, fetched, fetched_all, goes_on, gone_on, missing, ComesTo, HaveEnded, IsTextOf}
use Rattle.ic_batch.proofs.BatchLemmas.{under_all}
use Rattle.ic_batch.proofs.JobLemmas.{change, keeps_name, one_named, round_changes}
use Rattle.ic_batch.proofs.KeepLemmas.{keeps_on_way, text_at_end}
use Rattle.ic_batch.proofs.LawLemmas.{none_there}
use Rattle.ic_batch.proofs.WayLemmas.{end_ways, ways_changed}

-- a job that runs, after so many events
abbrev ran : ℕ → JobParts → JobParts
ran zero j = j
ran (suc n) j = if is_running (ran n j).state then after_event (ran n j) else ran n j

abbrev IsRan : JobParts → JobParts → Type 0
IsRan from j = (n : ℕ) × (j ≡ ran n from)

ran_more : (from j : JobParts) → is_running j.state ≡ true → IsRan from j → IsRan from (after_event j)
ran_more from j runs way =
    let event : (if is_running j.state then after_event j else j) ≡ after_event j = ap (λ (b : Bool). if b then after_event j else j) runs in
    (suc way.0, sym event ∙ ap (λ (k : JobParts). if is_running k.state then after_event k else k) way.1)

-- ---- of tables

-- jobs that ran, of which no two have one name
record HaveRun (from t : List JobParts) : Type 0 where
  ways : AllZip IsRan from t
  distinct : IsDistinct bytes_eq (job_names t)

if_name : (f : JobParts → JobParts) → ((k : JobParts) → (f k).name ≡ k.name) → (y : JobParts) (b : Bool) → (if b then f y else y).name ≡ y.name
if_name f keeps y true = keeps y
if_name f keeps y false = refl

same_names : (f : JobParts → JobParts) → ((k : JobParts) → (f k).name ≡ k.name) → (name : List ℕ) (t : List JobParts) → job_names (with_changed name f t) ≡ job_names t
same_names f keeps name [] = refl
same_names f keeps name (y ∷ ys) =
    ap (λ (n : List ℕ). n ∷ job_names (with_changed name f ys)) (if_name f keeps y (is_named name y)) ∙ ap (λ (l : List (List ℕ)). y.name ∷ l) (same_names f keeps name ys)

round_run : (from t : List JobParts) (name : List ℕ) → HaveRun from t → HaveRun from (table_after t (Round name))
round_run from t name run = go (job_named name t) refl
  where
    stay : table_after t (Round name) ≡ t → HaveRun from (table_after t (Round name))
    stay same = subst (HaveRun from) (sym same) run

    step : (j : JobParts) → job_named name t ≡ Some j → (b : Bool) → is_running j.state ≡ b → HaveRun from (table_after t (Round name))
    step j there true runs = subst (HaveRun from) (sym (round_changes t name j there runs)) (record {
      ways = ways_changed IsRan (λ k. is_running k.state) ran_more name j runs from t (one_named name t j run.distinct there) run.ways;
      distinct = subst (λ (l : List (List ℕ)). IsDistinct bytes_eq l) (sym (same_names (change j) (keeps_name (can_move j)) name t)) run.distinct;
    })
    step j there false runs = stay (ap (λ (o : Option JobParts). option_map_or (λ (p : Outcome). p.table) (where_running (after_round t name) o) t) there
        ∙ ap (λ (b : Bool). option_map_or (λ (p : Outcome). p.table) (if b then Some (after_round t name j) else None) t) runs)

    go : (o : Option JobParts) → job_named name t ≡ o → HaveRun from (table_after t (Round name))
    go None there = stay (ap (λ (o : Option JobParts). option_map_or (λ (p : Outcome). p.table) (where_running (after_round t name) o) t) there)
    go (Some j) there = step j there (is_running j.state) refl

turns_run : (k place : ℕ) (from t : List JobParts) → HaveRun from t → HaveRun from (after_events t (turns k place t))
turns_run zero place from t run = run
turns_run (suc k) place from t run = go (λ (at : ℕ) (u : List JobParts) (so_far : HaveRun from u). turns_run k at from u so_far) (due t place)
  where
    go : ((at : ℕ) (u : List JobParts) → HaveRun from u → HaveRun from (after_events u (turns k at u))) → (o : Option FlightParts)
        → HaveRun from (after_events t (option_map_or (round_and (turns k) t) o []))
    go rest None = run
    go rest (Some f) = rest (f.place + 1) (table_after t (Round f.name)) (round_run from t f.name run)

runs_run : (runs : List ℕ) (from t : List JobParts) → HaveRun from t → HaveRun from (after_lines t (map runs_jobs runs))
runs_run [] from t run = run
runs_run (k ∷ runs) from t run = runs_run runs from (after_line t (runs_jobs k)) (turns_run k 0 from t run)

none_ran : (t : List JobParts) → AllZip IsRan t t
none_ran [] = tt
none_ran (j ∷ js) = ((0, refl), none_ran js)

names_begun : (jobs : List NewJob) → job_names (map begun_by jobs) ≡ names jobs
names_begun [] = refl
names_begun (new ∷ jobs) = ap (λ (l : List (List ℕ)). new.name ∷ l) (names_begun jobs)

-- ---- ways of a batch, where rounds are left

event_more : (j : JobParts) (b : Bool) → j.rounds ≤ (if b then moved j else in_state Halted j).rounds
event_more j true = omega arith
event_more j false = omega arith

step_more : (j : JobParts) (b : Bool) → j.rounds ≤ (if b then after_event j else j).rounds
step_more j true = event_more j (can_move j)
step_more j false = omega arith

and_true : (a : Bool) → a && true ≡ a
and_true true = refl
and_true false = refl

ran_is : (most : ℕ) (from : JobParts) (n : ℕ) → (ran n from).rounds < most → ran n from ≡ after most n from
ran_is most from zero fewer = refl
ran_is most from (suc n) fewer =
    let r = ran n from in
    let more = step_more r (is_running r.state) in
    let so_far : r.rounds < most = omega (arith, more, fewer) in
    let goes : goes_on most r ≡ is_running r.state = ap (λ (b : Bool). is_running r.state && b) (lt-ltb r.rounds most so_far) ∙ and_true (is_running r.state) in
    ap (λ (b : Bool). if b then after_event r else r) (sym goes) ∙ ap (gone_on most) (ran_is most from n so_far)

-- each has stopped, and may make more rounds
abbrev HaveStopped : ℕ → List JobParts → Type 0
HaveStopped most t = AllByRecursion (λ j. (is_running j.state ≡ false) × (j.rounds < most)) t

all_end : (most : ℕ) (from t : List JobParts) → AllZip IsRan from t → HaveStopped most t → AllZip (ComesTo most) from t
all_end most [] [] ways stopped = tt
all_end most (x ∷ xs) (y ∷ ys) ways stopped = (
  record {
    on_way = (ways.0.0, ways.0.1 ∙ ran_is most x ways.0.0 (subst (λ (k : JobParts). k.rounds < most) ways.0.1 stopped.0.1));
    ends = ap (λ (b : Bool). b && nat_lt y.rounds most) stopped.0.0;
  },
  all_end most xs ys ways.1 stopped.1,
)
all_end most xs ys ways stopped = absurd ways

-- ---- what the fetches are answered

pub none_missing : (jobs : List NewJob) → missing [] jobs ≡ jobs
none_missing [] = refl
none_missing (new ∷ jobs) = ap (λ (l : List NewJob). new ∷ l) (none_missing jobs)

fetch_stays : (t : List JobParts) (o : Option JobParts) → (unless_missing t (λ (k : JobParts). outcome t (Shown (shown k))) o).table ≡ t
fetch_stays t None = refl
fetch_stays t (Some j) = refl

answers_are : (t : List JobParts) (jobs : List NewJob) → out t (map fetches jobs) ≡ fetched_all jobs t
answers_are t [] = refl
answers_are t (new ∷ jobs) =
    ap (λ (u : List JobParts). fetched t new ++ out u (map fetches jobs)) (fetch_stays t (job_named new.name t))
    ∙ ap (λ (l : List ℕ). fetched t new ++ l) (answers_are t jobs) ∙ sym (flat_map-cons (fetched t) new jobs)

pub together : (most : ℕ) (jobs : List NewJob) (runs : List ℕ) → IsDistinct bytes_eq (names jobs)
    → AllByRecursion (λ j. (is_running j.state ≡ false) × (j.rounds < most)) (run_together jobs runs) → IsTextOf most jobs (out (run_together jobs runs) (map fetches jobs))
together most jobs runs distinct stopped =
    let t = run_together jobs runs in
    let all : all_of jobs [] ≡ map begun_by jobs = ap (map begun_by) (none_missing jobs) in
    let run = runs_run runs (map begun_by jobs) (map begun_by jobs) (record {
      ways = none_ran (map begun_by jobs);
      distinct = subst (λ (l : List (List ℕ)). IsDistinct bytes_eq l) (sym (names_begun jobs)) distinct;
    }) in
    let ends = all_end most (map begun_by jobs) t run.ways stopped in
    let ended : HaveEnded most jobs [] t = subst (λ (from : List JobParts). AllZip (ComesTo most) from t) (sym all) ends in
    let under = under_all most jobs [] (map begun_by jobs) t (sym all) (end_ways most (map begun_by jobs) t ends) in
    subst (IsTextOf most jobs) (sym (answers_are t jobs)) (text_at_end most jobs [] t ended (keeps_on_way most jobs [] t under distinct (none_there most jobs)))
