-- The job at the place of a name: how it is found, changed and taken out.
use Rattle.std.proofs.Common.{◌≡◌, ℕ, suc, zero, ◌+◌, ◌<◌, List, [], ◌∷◌, ◌++◌, Bool, true, false, cond, Option, None, Some, is_some, length, refl, sym, ap, subst, ◌∙◌, arith, set, get_or, slice_get, nat_lt, ◌==◌, ◌&&◌, ◌||◌, not, ◌≤◌}
use Rattle.std.proofs.lemmas.Bool.{lt-ltb, le-ltb, ltb-true, eqb-true, and_parts, and_from}
use Rattle.std.specs.List.{position_from, remove, IsDistinct}
use Rattle.std.specs.Cmp.{unsigned_Decides}
use Rattle.std.specs.Option.{option_map, option_and_then}
use Rattle.ic_term.specs.Configuration.{Configuration, configuration_eq}
use Rattle.ic_term.specs.lemmas.ConfigurationEq.{configuration_eq-Decides}
use Rattle.ic_rules.specs.RuleSet.{Rules, rules_eq}
use Rattle.ic_rules.specs.lemmas.RuleLaws.{rules_eq-Decides}
use Rattle.ic_rules.specs.System.{SystemParts}
use Rattle.ic_round.specs.Quiet.{is_quiet}
use Rattle.ic_round.specs.Rounds.{fits, round}
use Rattle.ic_flights.specs.Flight.{FlightParts, is_blocked}
use Rattle.ic_flights.specs.Played.{PlayedParts, IsPlayed}
use Rattle.ic_flights.specs.declared.limits.TheConstants.{MAX_ROUNDS}
use Rattle.ic_jobs.specs.declared.limits.TheConstants.{MAX_JOBS}
use Rattle.ic_jobs.specs.declared.state.State.{State}
use Rattle.ic_jobs.specs.declared.state.State.TheVariants as state
use Rattle.ic_jobs.specs.declared.command.Command.TheVariants.{CopyJob, Pause, Resume, Cancel, Fetch}
use Rattle.ic_jobs.specs.declared.reply.Reply.TheVariants.{Accepted, Okay, Shown, Moved, Halted}
use Rattle.ic_jobs.specs.declared.reply.Refusal.{Refusal}
use Rattle.ic_jobs.specs.declared.reply.Refusal.TheVariants.{Taken, Full, NoJob, NotRunning, NotPaused}
use Rattle.ic_jobs.specs.declared.event.Event.TheVariants.{Round}
use Rattle.ic_jobs.specs.Events.{Outcome, outcome, refused, submitted, copied, unless_missing, paused, resumed, after_command, after_round, where_running, apply}
use Rattle.ic_jobs.specs.Landing.{flight_of, flight_at, due_place, due, Agrees, agrees, Awaits, RunsNamed}
use Rattle.ic_jobs.specs.Shown.{ShownParts, shown}
use Rattle.ic_jobs.proofs.TableLemmas.{IsTable-push}
use Rattle.ic_jobs.specs.State.{is_running, is_paused}
use Rattle.ic_jobs.specs.inner.Beginnings.{refusal_to_begin}
use Rattle.ic_jobs.specs.inner.States.{is_finished}
use Rattle.ic_jobs.specs.Job.{JobParts, IsJob, begun, system_of, can_move, moved, in_state}
use Rattle.ic_jobs.specs.Table.{IsTable, is_named, job_named, with_changed, without}
use Rattle.ic_jobs.proofs.TableLemmas.{StandsAlone, place_stands, found_alone, changed_alone, without_alone}
use Rattle.ic_jobs.proofs.EventLemmas.{IsTable-in_state, IsTable-moved, IsTable-cancelled}

get_middle : (xs : List JobParts) (j : JobParts) (ys : List JobParts) (d : JobParts) → get_or (xs ++ j ∷ ys) (length xs) d ≡ j
get_middle [] j ys d = refl
get_middle (x ∷ xs) j ys d = get_middle xs j ys d

set_middle : (xs : List JobParts) (j k : JobParts) (ys : List JobParts) → set (xs ++ j ∷ ys) (length xs) k ≡ xs ++ k ∷ ys
set_middle [] j k ys = refl
set_middle (x ∷ xs) j k ys = ap (λ (l : List JobParts). x ∷ l) (set_middle xs j k ys)

remove_middle : (xs : List JobParts) (j : JobParts) (ys : List JobParts) → remove (xs ++ j ∷ ys) (length xs) ≡ xs ++ ys
remove_middle [] j ys = refl
remove_middle (x ∷ xs) j ys = ap (λ (l : List JobParts). x ∷ l) (remove_middle xs j ys)

at_middle : (name : List ℕ) (t : List JobParts) (i : ℕ) (j d : JobParts) (s : StandsAlone name t i j) → get_or t i d ≡ j
at_middle name t i j d s = (λ k. get_or (s.parts k) (sym s.counted k) d) ∙ get_middle s.before j s.after d

-- the place of a name, and what stands there
pub record FoundAt (name : List ℕ) (t : List JobParts) (i : ℕ) (d : JobParts) : Type 0 where
  pub job : JobParts
  pub alone : StandsAlone name t i job
  pub is : get_or t i d ≡ job
  pub there : job_named name t ≡ Some job
  pub changed : (change : JobParts → JobParts) → with_changed name change t ≡ set t i (change job)
  pub removed : without name t ≡ remove t i

found_by : (name : List ℕ) (t : List JobParts) (i : ℕ) (j d : JobParts) → StandsAlone name t i j → FoundAt name t i d
found_by name t i j d s = record {
  job = j;
  alone = s;
  is = at_middle name t i j d s;
  there = found_alone name t i j s;
  changed = λ change. changed_alone name change t i j s ∙ sym ((λ k. set (s.parts k) (sym s.counted k) (change j)) ∙ set_middle s.before j (change j) s.after);
  removed = without_alone name t i j s ∙ sym ((λ k. remove (s.parts k) (sym s.counted k)) ∙ remove_middle s.before j s.after);
}

pub found_at : (name : List ℕ) (t : List JobParts) (i : ℕ) (d : JobParts) → IsTable t → position_from (is_named name) 0 t ≡ Some i → FoundAt name t i d
found_at name t i d is e = let s = place_stands name t i is.distinct e in found_by name t i s.job d s.stands

missing_from : (name : List ℕ) (t : List JobParts) (k : ℕ) → is_some (position_from (is_named name) k t) ≡ is_some (job_named name t)
missing_from name [] k = refl
missing_from name (j ∷ js) k = missing_at j (is_named name j) k (position_from (is_named name) (k + 1) js) (job_named name js) (missing_from name js (k + 1))
  where
    missing_at : (i : JobParts) (b : Bool) (n : ℕ) (place : Option ℕ) (found : Option JobParts) → is_some place ≡ is_some found
        → is_some (cond b (Some n) place) ≡ is_some (cond b (Some i) found)
    missing_at i true n place found e = refl
    missing_at i false n place found e = e

-- a name has a place exactly where it has a job
pub place_there : (name : List ℕ) (t : List JobParts) → is_some (position_from (is_named name) 0 t) ≡ is_some (job_named name t)
place_there name t = missing_from name t 0

none_is : (o : Option JobParts) → is_some o ≡ false → o ≡ None
none_is None e = refl
none_is (Some j) e = cc

pub no_place : (name : List ℕ) (t : List JobParts) → position_from (is_named name) 0 t ≡ None → job_named name t ≡ None
no_place name t e = none_is (job_named name t) (sym (place_there name t) ∙ ap (λ (o : Option ℕ). is_some o) e)

pub IsTable-put_state : (name : List ℕ) (t : List JobParts) (i : ℕ) (d : JobParts) (f : FoundAt name t i d) (to : State) → IsTable t
    → is_finished f.job.state ≡ false → is_finished to ≡ false → IsTable (set t i (in_state to f.job))
IsTable-put_state name t i d f to is old new =
    subst (λ (l : List JobParts). IsTable l) (f.changed (in_state to)) (IsTable-in_state name t i f.job f.alone to is old new)

pub IsTable-advanced : (name : List ℕ) (t : List JobParts) (i : ℕ) (d : JobParts) (f : FoundAt name t i d) → IsTable t
    → is_finished f.job.state ≡ false → can_move f.job ≡ true → IsTable (set t i (moved f.job))
IsTable-advanced name t i d f is unended can =
    subst (λ (l : List JobParts). IsTable l) (f.changed moved) (IsTable-moved name t i f.job f.alone is unended can)

pub IsTable-removed : (name : List ℕ) (t : List JobParts) (i : ℕ) (d : JobParts) (f : FoundAt name t i d) → IsTable t → IsTable (remove t i)
IsTable-removed name t i d f is =
    subst (λ (l : List JobParts). IsTable l) f.removed (IsTable-cancelled name t i f.job f.alone is)

-- ---- what the commands leave

pub missing_here : (t : List JobParts) (what : JobParts → Outcome) (o : Option JobParts) → o ≡ None → refused t NoJob ≡ unless_missing t what o
missing_here t what o e = ap (unless_missing t what) (sym e)

-- what stands at a place is the job that was found there
pub job_is : (name : List ℕ) (t : List JobParts) (i : ℕ) (d : JobParts) (f : FoundAt name t i d) → d ≡ get_or t i d → d ≡ f.job
job_is name t i d f e = e ∙ f.is

pub same_job : (a b : JobParts) (o : Option JobParts) → o ≡ Some a → o ≡ Some b → a ≡ b
same_job a b o e f = let h : Some a ≡ Some b = sym e ∙ f in cc

-- the place of a name in an equal list
pub found_in : {t u : List JobParts} {name : List ℕ} {i : ℕ} → u ≡ t → IsTable t → Some i ≡ position_from (is_named name) 0 u → (d : JobParts) → FoundAt name t i d
found_in {t = t} {u = u} {name = name} {i = i} tables is place d =
    found_at name t i d is (ap (λ (l : List JobParts). position_from (is_named name) 0 l) (sym tables) ∙ sym place)

-- The job of a name, at its place, and what was read there.
pub record ReadAt (name : List ℕ) (t : List JobParts) (i : ℕ) (d : JobParts) : Type 0 where
  pub found : FoundAt name t i d
  pub same : d ≡ found.job

pub read_at : {t u : List JobParts} {name : List ℕ} {i : ℕ} {d : JobParts} → u ≡ t → IsTable t → Some i ≡ position_from (is_named name) 0 u → d ≡ get_or t i d
    → ReadAt name t i d
read_at {t = t} {u = u} {name = name} {i = i} {d = d} tables is place read =
    let f = found_in tables is place d in record { found = f; same = job_is name t i d f read }

-- what was read twice is one job
pub read_twice : {t : List JobParts} {name : List ℕ} {i : ℕ} {d e : JobParts} → ReadAt name t i d → ReadAt name t i e → d ≡ e
read_twice {t = t} {name = name} a b =
    a.same ∙ same_job a.found.job b.found.job (job_named name t) a.found.there b.found.there ∙ sym b.same

-- a name that has no place, in an equal list, has no job
pub nothing_at : {t u : List JobParts} (name : List ℕ) → u ≡ t → None ≡ position_from (is_named name) 0 u → job_named name t ≡ None
nothing_at {t = t} {u = u} name tables none =
    no_place name t (ap (λ (l : List JobParts). position_from (is_named name) 0 l) (sym tables) ∙ sym none)

told : (t : List JobParts) (what : JobParts → Outcome) (o : Option JobParts) (j : JobParts) → o ≡ Some j → unless_missing t what o ≡ what j
told t what o j e = ap (unless_missing t what) e

pub pause_refused : (name : List ℕ) (t : List JobParts) (i : ℕ) (d : JobParts) (f : FoundAt name t i d) → d ≡ f.job → is_running d.state ≡ false
    → refused t NotRunning ≡ after_command t (Pause name)
pause_refused name t i d f same apart =
    let here : is_running f.job.state ≡ false = ap (λ (j : JobParts). is_running j.state) (sym same) ∙ apart in
    sym (told t (paused t name) (job_named name t) f.job f.there
    ∙ ap (λ (b : Bool). cond b (outcome (with_changed name (in_state state.Paused) t) Okay) (refused t NotRunning)) here)

pub pause_done : (name : List ℕ) (t u : List JobParts) (i : ℕ) (d : JobParts) (f : FoundAt name t i d) → d ≡ f.job → is_running d.state ≡ true
    → u ≡ set t i (in_state state.Paused f.job) → outcome u Okay ≡ after_command t (Pause name)
pause_done name t u i d f same holds e =
    let here : is_running f.job.state ≡ true = ap (λ (j : JobParts). is_running j.state) (sym same) ∙ holds in
    ap (λ (l : List JobParts). outcome l Okay) (e ∙ sym (f.changed (in_state state.Paused)))
    ∙ sym (told t (paused t name) (job_named name t) f.job f.there
    ∙ ap (λ (b : Bool). cond b (outcome (with_changed name (in_state state.Paused) t) Okay) (refused t NotRunning)) here)

pub resume_refused : (name : List ℕ) (t : List JobParts) (i : ℕ) (d : JobParts) (f : FoundAt name t i d) → d ≡ f.job → is_paused d.state ≡ false
    → refused t NotPaused ≡ after_command t (Resume name)
resume_refused name t i d f same apart =
    let here : is_paused f.job.state ≡ false = ap (λ (j : JobParts). is_paused j.state) (sym same) ∙ apart in
    sym (told t (resumed t name) (job_named name t) f.job f.there
    ∙ ap (λ (b : Bool). cond b (outcome (with_changed name (in_state state.Running) t) Okay) (refused t NotPaused)) here)

pub resume_done : (name : List ℕ) (t u : List JobParts) (i : ℕ) (d : JobParts) (f : FoundAt name t i d) → d ≡ f.job → is_paused d.state ≡ true
    → u ≡ set t i (in_state state.Running f.job) → outcome u Okay ≡ after_command t (Resume name)
resume_done name t u i d f same holds e =
    let here : is_paused f.job.state ≡ true = ap (λ (j : JobParts). is_paused j.state) (sym same) ∙ holds in
    ap (λ (l : List JobParts). outcome l Okay) (e ∙ sym (f.changed (in_state state.Running)))
    ∙ sym (told t (resumed t name) (job_named name t) f.job f.there
    ∙ ap (λ (b : Bool). cond b (outcome (with_changed name (in_state state.Running) t) Okay) (refused t NotPaused)) here)

pub cancel_done : (name : List ℕ) (t u : List JobParts) (i : ℕ) (d : JobParts) (f : FoundAt name t i d) → u ≡ remove t i
    → outcome u Okay ≡ after_command t (Cancel name)
cancel_done name t u i d f e =
    ap (λ (l : List JobParts). outcome l Okay) (e ∙ sym f.removed)
    ∙ sym (told t (λ j. outcome (without name t) Okay) (job_named name t) f.job f.there)

pub fetch_done : (name : List ℕ) (t : List JobParts) (i : ℕ) (d : JobParts) (s : ShownParts) (f : FoundAt name t i d) → d ≡ f.job → s ≡ shown d
    → outcome t (Shown s) ≡ after_command t (Fetch name)
fetch_done name t i d s f same e =
    ap (λ (r : ShownParts). outcome t (Shown r)) (e ∙ ap shown same)
    ∙ sym (told t (λ j. outcome t (Shown (shown j))) (job_named name t) f.job f.there)

free_name : (name : List ℕ) (t : List JobParts) (b : Bool) → is_some (position_from (is_named name) 0 t) ≡ b → is_some (job_named name t) ≡ b
free_name name t b e = sym (place_there name t) ∙ e

-- ---- jobs that begin

refusal_at : (name : List ℕ) (t : List JobParts) (taken room : Bool) → is_some (position_from (is_named name) 0 t) ≡ taken → nat_lt (length t) MAX_JOBS ≡ room
    → refusal_to_begin name t ≡ cond taken (Some Taken) (cond room None (Some Full))
refusal_at name t taken room e r =
    let there = free_name name t taken e in
    λ i. cond (there i) (Some Taken) (cond (r i) None (Some Full))

pub refuses_taken : (name : List ℕ) (t : List JobParts) → is_some (position_from (is_named name) 0 t) ≡ true → Some Taken ≡ refusal_to_begin name t
refuses_taken name t e = sym (refusal_at name t true (nat_lt (length t) MAX_JOBS) e refl)

pub refuses_full : (name : List ℕ) (t : List JobParts) → is_some (position_from (is_named name) 0 t) ≡ false → MAX_JOBS ≤ length t → Some Full ≡ refusal_to_begin name t
refuses_full name t e h = sym (refusal_at name t false false e (le-ltb (length t) MAX_JOBS h))

pub refuses_none : (name : List ℕ) (t : List JobParts) → is_some (position_from (is_named name) 0 t) ≡ false → length t < MAX_JOBS → None ≡ refusal_to_begin name t
refuses_none name t e h = sym (refusal_at name t false true e (lt-ltb (length t) MAX_JOBS h))

abbrev refusal_by : Bool → Bool → Option Refusal
refusal_by taken room = cond taken (Some Taken) (cond room None (Some Full))

abbrev begin_by : List ℕ → SystemParts → Option ℕ → List JobParts → Bool → Bool → Outcome
begin_by name s most t taken room =
    cond taken (refused t Taken) (cond room (outcome (t ++ begun name s most ∷ []) Accepted) (refused t Full))

refused_by : (name : List ℕ) (s : SystemParts) (most : Option ℕ) (t : List JobParts) (r : Refusal) (taken room : Bool) → refusal_by taken room ≡ Some r
    → refused t r ≡ begin_by name s most t taken room
refused_by name s most t r true room e = let same : Taken ≡ r = cc in ap (λ (q : Refusal). refused t q) (sym same)
refused_by name s most t r false true e = cc
refused_by name s most t r false false e = let same : Full ≡ r = cc in ap (λ (q : Refusal). refused t q) (sym same)

-- a job that can't begin is refused
pub begin_refused : (name : List ℕ) (s : SystemParts) (most : Option ℕ) (t : List JobParts) (r : Refusal) → refusal_to_begin name t ≡ Some r
    → refused t r ≡ submitted t name s most
begin_refused name s most t r e = refused_by name s most t r (is_some (job_named name t)) (nat_lt (length t) MAX_JOBS) e

done_by : (name : List ℕ) (s : SystemParts) (most : Option ℕ) (t : List JobParts) (taken room : Bool) → refusal_by taken room ≡ None
    → outcome (t ++ begun name s most ∷ []) Accepted ≡ begin_by name s most t taken room
done_by name s most t true room e = cc
done_by name s most t false true e = refl
done_by name s most t false false e = cc

-- one that can goes last
pub begin_done : (name : List ℕ) (s : SystemParts) (most : Option ℕ) (t u : List JobParts) → refusal_to_begin name t ≡ None → u ≡ t ++ begun name s most ∷ []
    → outcome u Accepted ≡ submitted t name s most
begin_done name s most t u e is =
    ap (λ (l : List JobParts). outcome l Accepted) is ∙ done_by name s most t (is_some (job_named name t)) (nat_lt (length t) MAX_JOBS) e

room_by : (name : List ℕ) (t : List JobParts) (taken room : Bool) → is_some (job_named name t) ≡ taken → nat_lt (length t) MAX_JOBS ≡ room → refusal_by taken room ≡ None
    → (job_named name t ≡ None) × (length t < MAX_JOBS)
room_by name t true room there left e = cc
room_by name t false true there left e = (none_is (job_named name t) there, ltb-true (length t) MAX_JOBS left)
room_by name t false false there left e = cc

pub IsTable-begun : (name : List ℕ) (s : SystemParts) (most : Option ℕ) (t u : List JobParts) → IsTable t → IsJob (begun name s most) → refusal_to_begin name t ≡ None
    → u ≡ t ++ begun name s most ∷ [] → IsTable u
IsTable-begun name s most t u is job e to =
    let room = room_by name t (is_some (job_named name t)) (nat_lt (length t) MAX_JOBS) refl refl e in
    subst (λ (l : List JobParts). IsTable l) (sym to) (IsTable-push t (begun name s most) is job room.1 room.0)

-- a copy of a job that is there begins as a submit of what it has
pub copies_here : (old new : List ℕ) (t : List JobParts) (i : ℕ) (d : JobParts) (f : FoundAt old t i d) → d ≡ f.job
    → submitted t new (system_of d) None ≡ after_command t (CopyJob old new)
copies_here old new t i d f same =
    ap (λ (j : JobParts). copied t new j) same ∙ sym (told t (copied t new) (job_named old t) f.job f.there)

-- and is refused as one
pub copy_refused : (old new : List ℕ) (t : List JobParts) (i : ℕ) (r : Refusal) → IsTable t → position_from (is_named old) 0 t ≡ Some i → refusal_to_begin new t ≡ Some r
    → refused t r ≡ after_command t (CopyJob old new)
copy_refused old new t i r is place e =
    let s = place_stands old t i is.distinct place in
    begin_refused new (system_of s.job) None t r e ∙ sym (told t (copied t new) (job_named old t) s.job (found_alone old t i s.job s.stands))

pub IsTable-none : (t : List JobParts) → t ≡ [] → IsTable t
unfolding IsDistinct
IsTable-none t e = subst (λ (l : List JobParts). IsTable l) (sym e) (record { few = omega arith; each = tt; distinct = tt })

-- ---- rounds

get_within : (t : List JobParts) (i : ℕ) (d : JobParts) → i < length t → slice_get t i ≡ Some (get_or t i d)
get_within [] i d h = absurd (omega arith)
get_within (x ∷ xs) zero d h = refl
get_within (x ∷ xs) (suc i) d h = get_within xs i d (omega arith)

pub due_here : (t : List JobParts) (after i : ℕ) (d : JobParts) (f : FlightParts) → due_place t after ≡ Some i → i < length t → d ≡ get_or t i d → f ≡ flight_of i d
    → Some f ≡ due t after
due_here t after i d f place within is made =
    ap (λ (g : FlightParts). Some g) made
    ∙ sym (ap (option_and_then (flight_at t)) place ∙ ap (option_map (flight_of i)) (get_within t i d within ∙ ap (λ (j : JobParts). Some j) (sym is)))

pub agrees-true : (j : JobParts) (rules : Rules) (config : Configuration) (rounds : ℕ) → agrees j rules config rounds ≡ true → Agrees j rules config rounds
agrees-true j rules config rounds e =
    let last = and_parts _ (rules_eq j.rules rules) e in
    let first = and_parts (j.rounds == rounds) (configuration_eq j.config config) last.0 in
    record {
      same_rules = (rules_eq-Decides j.rules rules).0 last.1;
      same_config = (configuration_eq-Decides j.config config).0 first.1;
      same_rounds = (unsigned_Decides j.rounds rounds).0 first.0;
    }

pub agrees-made : (j : JobParts) (rules : Rules) (config : Configuration) (rounds : ℕ) → Agrees j rules config rounds → agrees j rules config rounds ≡ true
agrees-made j rules config rounds h =
    and_from _ _ (and_from _ _ ((unsigned_Decides j.rounds rounds).1 h.same_rounds) ((configuration_eq-Decides j.config config).1 h.same_config))
    ((rules_eq-Decides j.rules rules).1 h.same_rules)

running_is : (s : State) → is_running s ≡ true → s ≡ state.Running
running_is state.Running e = refl
running_is _ e = cc

-- a job that was found and looked at is awaited exactly where it runs and agrees
pub awaited_here : (name : List ℕ) (t : List JobParts) (i : ℕ) (d : JobParts) (f : FoundAt name t i d) (rules : Rules) (config : Configuration) (rounds : ℕ) → d ≡ f.job
    → is_running d.state ≡ true → agrees d rules config rounds ≡ true → Awaits t name rules config rounds
awaited_here name t i d f rules config rounds same runs agree = record {
  job = d;
  there = f.there ∙ ap (λ (j : JobParts). Some j) (sym same);
  running = running_is d.state runs;
  agrees = agrees-true d rules config rounds agree;
}

pub awaited_job : (name : List ℕ) (t : List JobParts) (i : ℕ) (d : JobParts) (f : FoundAt name t i d) (rules : Rules) (config : Configuration) (rounds : ℕ) → d ≡ f.job
    → Awaits t name rules config rounds → (is_running d.state ≡ true) × (agrees d rules config rounds ≡ true)
awaited_job name t i d f rules config rounds same a =
    let is : a.job ≡ d = same_job a.job d (job_named name t) a.there (f.there ∙ ap (λ (j : JobParts). Some j) (sym same)) in (
      ap (λ (j : JobParts). is_running j.state) (sym is) ∙ ap is_running a.running,
      ap (λ (j : JobParts). agrees j rules config rounds) (sym is) ∙ agrees-made a.job rules config rounds a.agrees,
    )

pub not_awaited : (name : List ℕ) (t : List JobParts) (rules : Rules) (config : Configuration) (rounds : ℕ) → job_named name t ≡ None → Awaits t name rules config rounds → ⊥
not_awaited name t rules config rounds e a = let h : None ≡ Some a.job = sym e ∙ a.there in cc

fewer_rounds : (n : ℕ) → n < MAX_ROUNDS → nat_lt n MAX_ROUNDS ≡ true
fewer_rounds n h = lt-ltb n MAX_ROUNDS h

-- the awaited job can move, where its round was made
pub can_land : (p : PlayedParts) (j : JobParts) → IsPlayed p → Agrees j p.rules p.before p.rounds → can_move j ≡ true
can_land p j is same =
    let rules = same.same_rules in let config = same.same_config in let rounds = same.same_rounds in
    let agreed : can_move j ≡ (fits p.rules.rules p.before && nat_lt p.rounds MAX_ROUNDS) =
    λ i. fits (rules i).rules (config i) && nat_lt (rounds i) MAX_ROUNDS in
    agreed ∙ and_from _ _ is.fitting (fewer_rounds p.rounds is.counted)

never : (b : Bool) (n : ℕ) → (not b || n == MAX_ROUNDS) ≡ true → (b && nat_lt n MAX_ROUNDS) ≡ false
never false n e = refl
never true n e =
    let same = eqb-true n MAX_ROUNDS e in
    le-ltb n MAX_ROUNDS (omega arith)

-- it can't, where its flight is blocked
pub cannot_land : (g : FlightParts) (j : JobParts) → is_blocked g ≡ true → Agrees j g.rules g.config g.rounds → can_move j ≡ false
cannot_land g j blocked same =
    let rules = same.same_rules in let config = same.same_config in let rounds = same.same_rounds in
    let agreed : can_move j ≡ (fits g.rules.rules g.config && nat_lt g.rounds MAX_ROUNDS) =
    λ i. fits (rules i).rules (config i) && nat_lt (rounds i) MAX_ROUNDS in
    agreed ∙ never (fits g.rules.rules g.config) g.rounds blocked

pub awaited_is : (name : List ℕ) (t : List JobParts) (i : ℕ) (d : JobParts) (f : FoundAt name t i d) (rules : Rules) (config : Configuration) (rounds : ℕ)
    → Awaits t name rules config rounds → (is_running f.job.state ≡ true) × Agrees f.job rules config rounds
awaited_is name t i d f rules config rounds a =
    let is : a.job ≡ f.job = same_job a.job f.job (job_named name t) a.there f.there in (
      ap (λ (j : JobParts). is_running j.state) (sym is) ∙ ap is_running a.running,
      subst (λ (j : JobParts). Agrees j rules config rounds) is a.agrees,
    )

running_round : (name : List ℕ) (t : List JobParts) (i : ℕ) (d : JobParts) (f : FoundAt name t i d) (can : Bool) → is_running f.job.state ≡ true → can_move f.job ≡ can
    → apply t (Round name) ≡ Some (cond can (outcome (with_changed name moved t) Moved) (outcome (with_changed name (in_state state.Halted) t) Halted))
running_round name t i d f can runs e =
    ap (where_running (after_round t name)) f.there
    ∙ ap (λ (b : Bool). cond b (Some (after_round t name f.job)) None) runs
    ∙ ap (λ (b : Bool). Some (cond b (outcome (with_changed name moved t) Moved) (outcome (with_changed name (in_state state.Halted) t) Halted))) e

pub landed : (name : List ℕ) (t u : List JobParts) (i : ℕ) (d : JobParts) (f : FoundAt name t i d) → is_running f.job.state ≡ true → can_move f.job ≡ true
    → u ≡ set t i (moved f.job) → apply t (Round name) ≡ Some (outcome u Moved)
landed name t u i d f runs can e =
    running_round name t i d f true runs can ∙ ap (λ (l : List JobParts). Some (outcome l Moved)) (f.changed moved ∙ sym e)

pub halted_here : (name : List ℕ) (t u : List JobParts) (i : ℕ) (d : JobParts) (f : FoundAt name t i d) → is_running f.job.state ≡ true → can_move f.job ≡ false
    → u ≡ set t i (in_state state.Halted f.job) → apply t (Round name) ≡ Some (outcome u Halted)
halted_here name t u i d f runs cannot e =
    running_round name t i d f false runs cannot ∙ ap (λ (l : List JobParts). Some (outcome l Halted)) (f.changed (in_state state.Halted) ∙ sym e)

-- the same of equal tables, names, rules, configurations and rounds
pub along : {t u : List JobParts} {n m : List ℕ} {r q : Rules} {a b : Configuration} {k l : ℕ} → t ≡ u → n ≡ m → r ≡ q → a ≡ b → k ≡ l
    → Awaits t n r a k → Awaits u m q b l
along tables names rules configs rounds h =
    subst (λ (p : List JobParts × List ℕ × Rules × Configuration × ℕ). Awaits p.0 p.1 p.2 p.3 p.4)
    (λ i. (tables i, names i, rules i, configs i, rounds i)) h

-- the round that was made is the awaited job's
pub round_kept : (p : PlayedParts) (j : JobParts) → IsPlayed p → Agrees j p.rules p.before p.rounds → p.after ≡ round j.rules.rules j.config
round_kept p j is same =
    let rules = same.same_rules in let config = same.same_config in
    is.made ∙ sym (λ i. round (rules i).rules (config i))

-- and is quiet after it where it was seen to be
pub quiet_kept : (p : PlayedParts) (j d : JobParts) (after : Configuration) → Agrees j p.rules p.before p.rounds → d ≡ j → after ≡ p.after
    → is_quiet p.rules.rules p.after ≡ is_quiet d.rules.rules after
quiet_kept p j d after agrees same is =
    let rules = agrees.same_rules in
    (λ i. is_quiet (sym rules i).rules p.after) ∙ (λ i. is_quiet (sym same i).rules.rules (sym is i))

-- The awaited job, at its place, and what was read there.
pub record AwaitedAt (name : List ℕ) (t : List JobParts) (i : ℕ) (d : JobParts) (rules : Rules) (config : Configuration) (rounds : ℕ) : Type 0 where
  pub found : FoundAt name t i d
  pub same : d ≡ found.job
  pub runs : is_running found.job.state ≡ true
  pub agrees : Agrees found.job rules config rounds

pub awaited_at : {t u : List JobParts} {n m : List ℕ} {r q : Rules} {a b : Configuration} {k l : ℕ} {i : ℕ} {d : JobParts} → t ≡ u → n ≡ m → r ≡ q → a ≡ b → k ≡ l
    → IsTable u → position_from (is_named n) 0 t ≡ Some i → Awaits t n r a k → d ≡ get_or u i d → AwaitedAt m u i d q b l
awaited_at {t = t} {u = u} {n = n} {m = m} {q = q} {b = b} {l = l} {i = i} {d = d} tables names rules configs rounds is place awaits read =
    let here : position_from (is_named m) 0 u ≡ Some i = sym (λ j. position_from (is_named (names j)) 0 (tables j)) ∙ place in
    let f = found_at m u i d is here in
    let job = awaited_is m u i d f q b l (along tables names rules configs rounds awaits) in
    record { found = f; same = job_is m u i d f read; runs = job.0; agrees = job.1 }

-- the same of a table that awaits the round, where the place of the name was found
pub awaited_there : {t u v : List JobParts} {n m : List ℕ} {q : Rules} {b : Configuration} {l : ℕ} {i : ℕ} {d : JobParts} → t ≡ u → u ≡ v → n ≡ m
    → IsTable u → Some i ≡ position_from (is_named n) 0 t → Awaits v m q b l → d ≡ get_or u i d → AwaitedAt m u i d q b l
awaited_there tables view names is place awaits read =
    awaited_at tables names refl refl refl is (sym place) (along (sym (tables ∙ view)) (sym names) refl refl refl awaits) read

-- it is found
pub awaited_nowhere : {t v : List JobParts} {n m : List ℕ} {q : Rules} {b : Configuration} {l : ℕ} → t ≡ v → n ≡ m
    → None ≡ position_from (is_named n) 0 t → Awaits v m q b l → ⊥
awaited_nowhere {t = t} {v = v} {m = m} {q = q} {b = b} {l = l} tables names none awaits =
    not_awaited m v q b l (nothing_at m tables (none ∙ ap (λ (x : List ℕ). position_from (is_named x) 0 t) names)) awaits

-- The running job of a name, at its place, and what was read there.
pub record RunningAt (name : List ℕ) (t : List JobParts) (i : ℕ) (d : JobParts) : Type 0 where
  pub found : FoundAt name t i d
  pub same : d ≡ found.job
  pub runs : is_running found.job.state ≡ true

-- where a job of this name runs in an equal table, and the place of the name was found
pub running_there : {t u v : List JobParts} {name : List ℕ} {i : ℕ} {d : JobParts} → t ≡ u → u ≡ v → IsTable u → Some i ≡ position_from (is_named name) 0 t
    → RunsNamed v name → d ≡ get_or u i d → RunningAt name u i d
running_there {u = u} {name = name} tables view is place runs read =
    let r = read_at tables is place read in
    let one : runs.job ≡ r.found.job = same_job runs.job r.found.job (job_named name u) (ap (job_named name) view ∙ runs.there) r.found.there in
    record { found = r.found; same = r.same; runs = ap (λ (j : JobParts). is_running j.state) (sym one) ∙ ap is_running runs.running }
