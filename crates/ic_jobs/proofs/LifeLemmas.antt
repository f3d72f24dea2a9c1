-- The life of a name, entry by entry.
use Rattle.std.proofs.Common.{add-zero, append-nil, ◌≡◌, ℕ, ◌+◌, List, [], ◌∷◌, ◌++◌, Bool, true, false, cond, Option, None, Some, is_some, nat_lt, length, refl, sym, ap, subst, ◌∙◌, append_assoc, add-one, ◌||◌}
use Rattle.std.specs.Prelude.{count_by}
use Rattle.std.specs.List.{list_any}
use Rattle.std.proofs.lemmas.List.Folds.{list_any-append}
use Rattle.std.proofs.lemmas.List.Sums.{sum_by-append}
use Rattle.std.specs.Option.{option_map_or}
use Rattle.ic_jobs.specs.Shown.{shown}
use Rattle.std.specs.Option.{option_map, option_or, option_and_then}
use Rattle.std.specs.Str.{bytes_eq}
use Rattle.std.specs.Cmp.Lexicographic.{bytes_decides}
use Rattle.ic_rules.specs.System.{SystemParts}
use Rattle.ic_round.specs.Rounds.{round}
use Rattle.ic_jobs.specs.declared.limits.TheConstants.{MAX_JOBS}
use Rattle.ic_jobs.specs.declared.state.State.{State}
use Rattle.ic_jobs.specs.declared.state.State.TheVariants as state
use Rattle.ic_jobs.specs.declared.command.Command.{Command}
use Rattle.ic_jobs.specs.declared.command.Command.TheVariants.{Submit, CopyJob, Pause, Resume, Cancel, Fetch, List as list_jobs}
use Rattle.ic_jobs.specs.declared.reply.Reply.{Reply}
use Rattle.ic_jobs.specs.declared.reply.Reply.TheVariants.{Accepted, Okay, Shown, Refused, Moved, Halted}
use Rattle.ic_jobs.specs.declared.reply.Refusal.TheVariants.{Taken, Full, NotRunning, NotPaused}
use Rattle.ic_jobs.specs.declared.event.Event.{Event}
use Rattle.ic_jobs.specs.declared.event.Event.TheVariants.{Command as by_command, Round}
use Rattle.ic_jobs.specs.declared.event.Entry.{Entry}
use Rattle.ic_jobs.specs.State.{is_running, is_paused}
use Rattle.ic_jobs.specs.Job.{JobParts, begun, system_of, can_move, moved, in_state}
use Rattle.ic_jobs.specs.Table.{job_named, with_changed, without}
use Rattle.ic_jobs.specs.Events.{copied, unless_missing, paused, resumed, after_command, after_round, where_running, outcome}
use Rattle.ic_jobs.specs.History.{table_after, reply_to, replay, IsLegal}
use Rattle.ic_jobs.specs.Replies.{is_accepted, is_okay, is_moved}
use Rattle.ic_jobs.specs.Names.{mentions}
use Rattle.ic_jobs.specs.Life.{Life, Beginning, event_begins, event_ends, event_moves, begins, ends, moves, last_beginning, life_since, life, IsAsLived}
use Rattle.ic_jobs.proofs.EventLemmas.{second_apart}
use Rattle.ic_jobs.proofs.HistoryLemmas.{replay-append}
use Rattle.ic_jobs.proofs.TableLookups.{job_named-changed, job_named-changed_other, job_named-without, job_named-without_other, job_named-append}

-- a life that begins with a system
abbrev fresh : SystemParts → Life
fresh s = record { rules = s.rules; first = s.config; rounds = 0 }

-- a life with one round more
abbrev longer : Life → Life
longer l = record l { rounds = l.rounds + 1 }

-- a life after one more entry, where it doesn't begin
abbrev going_on : Bool → Bool → Option Life → Option Life
going_on true moving l = None
going_on false true l = option_map longer l
going_on false false l = l

-- a life after one more entry
abbrev next_life : Option SystemParts → Bool → Bool → Option Life → Option Life
next_life (Some s) ending moving l = Some (fresh s)
next_life None ending moving l = going_on ending moving l

abbrev began_with : List Entry → SystemParts → Beginning
began_with es s = record { system = s; since = es }

abbrev with_more : Entry → Beginning → Beginning
with_more e b = record { system = b.system; since = b.since ++ e ∷ [] }

later_beginning : (xs : List Entry) (e : Entry) (new : Option SystemParts) (found : Option Beginning) (here : Option SystemParts)
    → option_or (option_or (option_map (began_with []) new) (option_map (with_more e) found)) (option_map (began_with (xs ++ e ∷ [])) here)
    ≡ option_or (option_map (began_with []) new) (option_map (with_more e) (option_or found (option_map (began_with xs) here)))
later_beginning xs e (Some s) found here = refl
later_beginning xs e None (Some b) here = refl
later_beginning xs e None None (Some s) = refl
later_beginning xs e None None None = refl

only_beginning : (e : Entry) (new : Option SystemParts) → option_or None (option_map (began_with []) new) ≡ option_or (option_map (began_with []) new) None
only_beginning e (Some s) = refl
only_beginning e None = refl

last_beginning-push : (name : List ℕ) (t : List JobParts) (h : List Entry) (e : Entry)
    → last_beginning name t (h ++ e ∷ [])
    ≡ option_or (option_map (began_with []) (begins name (replay t h) e.event e.reply)) (option_map (with_more e) (last_beginning name t h))
last_beginning-push name t [] e = only_beginning e (begins name t e.event e.reply)
last_beginning-push name t (x ∷ xs) e =
    let u : List JobParts = table_after t x.event in
    ap (λ (b : Option Beginning). option_or b (option_map (began_with (xs ++ e ∷ [])) (begins name t x.event x.reply))) (last_beginning-push name u xs e)
    ∙ later_beginning xs e (begins name (replay u xs) e.event e.reply) (last_beginning name u xs) (begins name t x.event x.reply)

gone : (ending moving : Bool) → None ≡ going_on ending moving None
gone true moving = refl
gone false true = refl
gone false false = refl

abbrev with_rounds : SystemParts → ℕ → Life
with_rounds s n = record { rules = s.rules; first = s.config; rounds = n }

since_more : (s : SystemParts) (ended ending moving : Bool) (n : ℕ)
    → cond (ended || (ending || false)) None (Some (with_rounds s (n + (0 + cond moving 1 0)))) ≡ going_on ending moving (cond ended None (Some (with_rounds s n)))
since_more s true ending moving n = gone ending moving
since_more s false true moving n = refl
since_more s false false true n = refl
since_more s false false false n = ap (λ (m : ℕ). Some (with_rounds s m)) (add-zero n)

abbrev is_ending : List ℕ → Entry → Bool
is_ending name e = ends name e.event e.reply

abbrev is_moving : List ℕ → Entry → Bool
is_moving name e = moves name e.event e.reply

life_since-more : (name : List ℕ) (e : Entry) (b : Beginning) → life_since name (with_more e b) ≡ going_on (is_ending name e) (is_moving name e) (life_since name b)
life_since-more name e b =
    (λ i. cond (list_any-append (is_ending name) b.since (e ∷ []) i) None (Some (with_rounds b.system (sum_by-append (λ x. cond (is_moving name x) 1 0) b.since (e ∷ []) i))))
    ∙ since_more b.system (list_any (is_ending name) b.since) (is_ending name e) (is_moving name e) (count_by (is_moving name) b.since)

life_told : (name : List ℕ) (e : Entry) (new : Option SystemParts) (found : Option Beginning)
    → option_and_then (life_since name) (option_or (option_map (began_with []) new) (option_map (with_more e) found))
    ≡ next_life new (is_ending name e) (is_moving name e) (option_and_then (life_since name) found)
life_told name e (Some s) found = refl
life_told name e None (Some b) = life_since-more name e b
life_told name e None None = gone (is_ending name e) (is_moving name e)

-- the life of a name after one more entry
life-push : (name : List ℕ) (h : List Entry) (e : Entry)
    → life name (h ++ e ∷ []) ≡ next_life (begins name (replay [] h) e.event e.reply) (is_ending name e) (is_moving name e) (life name h)
life-push name h e =
    ap (option_and_then (life_since name)) (last_beginning-push name [] h e)
    ∙ life_told name e (begins name (replay [] h) e.event e.reply) (last_beginning name [] h)

-- the life of a name after an event that came to a table, and its reply
abbrev life_after : List ℕ → List JobParts → Event → Reply → Option Life → Option Life
life_after name t e r l = next_life (begins name t e r) (ends name e r) (moves name e r) l

along : (l : Option Life) (a b : Option JobParts) → a ≡ b → IsAsLived b l → IsAsLived a l
along l a b e h = subst (λ (o : Option JobParts). IsAsLived o l) (sym e) h

names_equal : (a b : List ℕ) → bytes_eq a b ≡ true → a ≡ b
names_equal a b = (bytes_decides a b).0

kept_life : (s : State) (o : Option JobParts) (l : Option Life) → IsAsLived o l → IsAsLived (option_map (in_state s) o) l
kept_life s None l h = h
kept_life s (Some j) None h = h
kept_life s (Some j) (Some l) h = record { rules = h.rules; rounds = h.rounds; config = h.config }

other_state : (name n : List ℕ) (s : State) (t : List JobParts) (l : Option Life) (b : Bool) → bytes_eq name n ≡ b
    → IsAsLived (job_named name t) l → IsAsLived (job_named name (with_changed n (in_state s) t)) l
other_state name n s t l true same h =
    let e = sym (names_equal name n same) in
    along _ _ _ (ap (λ (m : List ℕ). job_named name (with_changed m (in_state s) t)) e ∙ job_named-changed name (in_state s) t (λ j. refl)) (kept_life s _ l h)
other_state name n s t l false apart h = along _ _ _ (job_named-changed_other n name (in_state s) t apart (λ j. refl)) h

one_more_round : (j : JobParts) (l : Option Life) → IsAsLived (Some j) l → IsAsLived (Some (moved j)) (option_map longer l)
one_more_round j None h = h
one_more_round j (Some l) h =
    let rules = h.rules in let rounds = h.rounds in let config = h.config in
    record {
      rules = rules;
      rounds = ap (λ (n : ℕ). n + 1) rounds;
      config = rw (add-one l.rounds) (λ i. round (rules i).rules (config i));
    }

moved_on : (name n : List ℕ) (t : List JobParts) (j : JobParts) (l : Option Life) (b : Bool) → bytes_eq name n ≡ b → job_named n t ≡ Some j
    → IsAsLived (job_named name t) l → IsAsLived (job_named name (with_changed n moved t)) (going_on false b l)
moved_on name n t j l true same there h =
    let e = sym (names_equal name n same) in
    let here = ap (λ (m : List ℕ). job_named m t) (sym e) ∙ there in
    along _ _ _ (ap (λ (m : List ℕ). job_named name (with_changed m moved t)) e ∙ job_named-changed name moved t (λ k. refl) ∙ ap (option_map moved) here)
    (one_more_round j l (subst (λ (o : Option JobParts). IsAsLived o l) here h))
moved_on name n t j l false apart there h = along _ _ _ (job_named-changed_other n name moved t apart (λ k. refl)) h

-- a job and a reply that go on with a life, where an event came to a table
abbrev Follows : List ℕ → List JobParts → Event → Option Life → Option JobParts → Reply → Type 0
Follows name t e l job r = IsAsLived job (life_after name t e r l)

last_option : (o : Option JobParts) → option_or o None ≡ o
last_option None = refl
last_option (Some j) = refl

none_there : (o : Option JobParts) → is_some o ≡ false → o ≡ None
none_there None e = refl
none_there (Some j) e = cc

accepted : (name n : List ℕ) (s : SystemParts) (most : Option ℕ) (t : List JobParts) (l : Option Life) (b : Bool) → bytes_eq name n ≡ b → is_some (job_named n t) ≡ false
    → IsAsLived (job_named name t) l → IsAsLived (job_named name (t ++ begun n s most ∷ [])) (next_life (cond b (Some s) None) false false l)
accepted name n s most t l true same absent h =
    let none = none_there (job_named name t) (ap (λ (m : List ℕ). is_some (job_named m t)) (names_equal name n same) ∙ absent) in
    along _ _ _ (job_named-append name t (begun n s most) ∙ (λ i. option_or (none i) (cond (same i) (Some (begun n s most)) None))) (record { rules = refl; rounds = refl; config = refl })
accepted name n s most t l false apart absent h =
    along _ _ _ (job_named-append name t (begun n s most) ∙ ap (λ (b : Bool). option_or (job_named name t) (cond b (Some (begun n s most)) None)) apart ∙ last_option (job_named name t)) h

submit_follows : (name n : List ℕ) (s : SystemParts) (most : Option ℕ) (t : List JobParts) (l : Option Life) (taken room : Bool) → is_some (job_named n t) ≡ taken
    → IsAsLived (job_named name t) l
    → let o = cond taken (outcome t (Refused Taken)) (cond room (outcome (t ++ begun n s most ∷ []) Accepted) (outcome t (Refused Full))) in
    Follows name t (by_command (Submit n s most)) l (job_named name o.table) o.reply
submit_follows name n s most t l true room is h = h
submit_follows name n s most t l false true is h = accepted name n s most t l (bytes_eq name n) refl is h
submit_follows name n s most t l false false is h = h

-- what a copy begins with is what the copied job has
copied_with : (name old n : List ℕ) (t : List JobParts) (j : JobParts) (l : Option Life) (job : Option JobParts) → job_named old t ≡ Some j
    → IsAsLived job (next_life (cond (bytes_eq name n) (Some (system_of j)) None) false false l) → Follows name t (by_command (CopyJob old n)) l job Accepted
copied_with name old n t j l job there h =
    subst (λ (o : Option JobParts). IsAsLived job (next_life (cond (bytes_eq name n) (option_map system_of o) None) false false l)) (sym there) h

copy_at : (name old n : List ℕ) (t : List JobParts) (j : JobParts) (l : Option Life) (taken room : Bool) → job_named old t ≡ Some j → is_some (job_named n t) ≡ taken
    → IsAsLived (job_named name t) l
    → let o = cond taken (outcome t (Refused Taken)) (cond room (outcome (t ++ begun n (system_of j) None ∷ []) Accepted) (outcome t (Refused Full))) in
    Follows name t (by_command (CopyJob old n)) l (job_named name o.table) o.reply
copy_at name old n t j l true room there is h = h
copy_at name old n t j l false true there is h =
    copied_with name old n t j l _ there (accepted name n (system_of j) None t l (bytes_eq name n) refl is h)
copy_at name old n t j l false false there is h = h

copy_follows : (name old n : List ℕ) (t : List JobParts) (l : Option Life) (o : Option JobParts) → job_named old t ≡ o → IsAsLived (job_named name t) l
    → let p = unless_missing t (copied t n) o in Follows name t (by_command (CopyJob old n)) l (job_named name p.table) p.reply
copy_follows name old n t l None there h = h
copy_follows name old n t l (Some j) there h =
    copy_at name old n t j l (is_some (job_named n t)) (nat_lt (length t) MAX_JOBS) there refl h

pause_follows : (name n : List ℕ) (t : List JobParts) (l : Option Life) (o : Option JobParts) → IsAsLived (job_named name t) l
    → let p = unless_missing t (paused t n) o in Follows name t (by_command (Pause n)) l (job_named name p.table) p.reply
pause_follows name n t l None h = h
pause_follows name n t l (Some j) h = elim (is_running j.state)
    as (λ b. let p = cond b (outcome (with_changed n (in_state state.Paused) t) Okay) (outcome t (Refused NotRunning)) in
    Follows name t (by_command (Pause n)) l (job_named name p.table) p.reply)
    [ true ↦ other_state name n state.Paused t l (bytes_eq name n) refl h | false ↦ h ]

resume_follows : (name n : List ℕ) (t : List JobParts) (l : Option Life) (o : Option JobParts) → IsAsLived (job_named name t) l
    → let p = unless_missing t (resumed t n) o in Follows name t (by_command (Resume n)) l (job_named name p.table) p.reply
resume_follows name n t l None h = h
resume_follows name n t l (Some j) h = elim (is_paused j.state)
    as (λ b. let p = cond b (outcome (with_changed n (in_state state.Running) t) Okay) (outcome t (Refused NotPaused)) in
    Follows name t (by_command (Resume n)) l (job_named name p.table) p.reply)
    [ true ↦ other_state name n state.Running t l (bytes_eq name n) refl h | false ↦ h ]

cancelled : (name n : List ℕ) (t : List JobParts) (l : Option Life) (b : Bool) → bytes_eq name n ≡ b
    → IsAsLived (job_named name t) l → IsAsLived (job_named name (without n t)) (going_on b false l)
cancelled name n t l true same h =
    along _ _ _ (ap (λ (m : List ℕ). job_named name (without m t)) (sym (names_equal name n same)) ∙ job_named-without name t) tt
cancelled name n t l false apart h = along _ _ _ (job_named-without_other n name t apart) h

cancel_follows : (name n : List ℕ) (t : List JobParts) (l : Option Life) (o : Option JobParts) → IsAsLived (job_named name t) l
    → let p = unless_missing t (λ j. outcome (without n t) Okay) o in Follows name t (by_command (Cancel n)) l (job_named name p.table) p.reply
cancel_follows name n t l None h = h
cancel_follows name n t l (Some j) h = cancelled name n t l (bytes_eq name n) refl h

fetch_follows : (name n : List ℕ) (t : List JobParts) (l : Option Life) (o : Option JobParts) → IsAsLived (job_named name t) l
    → let p = unless_missing t (λ j. outcome t (Shown (shown j))) o in Follows name t (by_command (Fetch n)) l (job_named name p.table) p.reply
fetch_follows name n t l None h = h
fetch_follows name n t l (Some j) h = h

command_follows : (name : List ℕ) (t : List JobParts) (c : Command) (l : Option Life) → IsAsLived (job_named name t) l
    → Follows name t (by_command c) l (job_named name (after_command t c).table) (after_command t c).reply
command_follows name t (Submit n s most) l h = submit_follows name n s most t l (is_some (job_named n t)) (nat_lt (length t) MAX_JOBS) refl h
command_follows name t (CopyJob old n) l h = copy_follows name old n t l (job_named old t) refl h
command_follows name t (Pause n) l h = pause_follows name n t l (job_named n t) h
command_follows name t (Resume n) l h = resume_follows name n t l (job_named n t) h
command_follows name t (Cancel n) l h = cancel_follows name n t l (job_named n t) h
command_follows name t (Fetch n) l h = fetch_follows name n t l (job_named n t) h
command_follows name t list_jobs l h = h

round_at : (name n : List ℕ) (t : List JobParts) (j : JobParts) (r : Reply) (l : Option Life) (running can : Bool) → job_named n t ≡ Some j → IsAsLived (job_named name t) l
    → let o = cond running (Some (cond can (outcome (with_changed n moved t) Moved) (outcome (with_changed n (in_state state.Halted) t) Halted))) None in
    option_map (λ p. p.reply) o ≡ Some r → Follows name t (Round n) l (job_named name (option_map_or (λ p. p.table) o t)) r
round_at name n t j r l true true there h e =
    let is : Moved ≡ r = cc in
    subst (λ (s : Reply). Follows name t (Round n) l (job_named name (with_changed n moved t)) s) is (moved_on name n t j l (bytes_eq name n) refl there h)
round_at name n t j r l true false there h e =
    let is : Halted ≡ r = cc in
    subst (λ (s : Reply). Follows name t (Round n) l (job_named name (with_changed n (in_state state.Halted) t)) s) is (other_state name n state.Halted t l (bytes_eq name n) refl h)
round_at name n t j r l false can there h e = cc

round_follows : (name n : List ℕ) (t : List JobParts) (r : Reply) (l : Option Life) (found : Option JobParts) → job_named n t ≡ found → IsAsLived (job_named name t) l
    → let o = where_running (after_round t n) found in
    option_map (λ p. p.reply) o ≡ Some r → Follows name t (Round n) l (job_named name (option_map_or (λ p. p.table) o t)) r
round_follows name n t r l None there h e = cc
round_follows name n t r l (Some j) there h e = round_at name n t j r l (is_running j.state) (can_move j) there h e

event_follows : (name : List ℕ) (t : List JobParts) (e : Event) (r : Reply) (l : Option Life) → IsAsLived (job_named name t) l → reply_to t e ≡ Some r
    → Follows name t e l (job_named name (table_after t e)) r
event_follows name t (by_command c) r l h is =
    let same : (after_command t c).reply ≡ r = cc in
    subst (λ (s : Reply). Follows name t (by_command c) l (job_named name (after_command t c).table) s) same (command_follows name t c l h)
event_follows name t (Round n) r l h is = round_follows name n t r l (job_named n t) refl h is

-- the table after one entry more
replay-push : (h : List Entry) (e : Entry) (t : List JobParts) → replay [] h ≡ t → replay [] (h ++ e ∷ []) ≡ table_after t e.event
replay-push h e t is = replay-append [] h (e ∷ []) ∙ ap (λ (u : List JobParts). table_after u e.event) is

-- what holds after a history holds after any that goes on from it
lived_on : (name : List ℕ) (h es : List Entry) (t : List JobParts) → replay [] h ≡ t → IsAsLived (job_named name t) (life name h) → IsLegal t es
    → IsAsLived (job_named name (replay t es)) (life name (h ++ es))
lived_on name h [] t is lived legal = subst (λ (k : List Entry). IsAsLived (job_named name t) (life name k)) (sym (append-nil h)) lived
lived_on name h (e ∷ es) t is lived legal =
    let after = event_follows name t e.event e.reply (life name h) lived legal.0 in
    let next = life-push name h e ∙ ap (λ (u : List JobParts). life_after name u e.event e.reply (life name h)) is in
    let pushed = subst (λ (l : Option Life). IsAsLived (job_named name (table_after t e.event)) l) (sym next) after in
    subst (λ (k : List Entry). IsAsLived (job_named name (replay t (e ∷ es))) (life name k)) (append_assoc h (e ∷ []) es)
    (lived_on name (h ++ e ∷ []) es (table_after t e.event) (replay-push h e t is) pushed legal.1)

pub lived : (name : List ℕ) (h : List Entry) → IsLegal [] h → IsAsLived (job_named name (replay [] h)) (life name h)
lived name h legal = lived_on name [] h [] refl tt legal

-- ---- lives, entry by entry

pub life_submitted : (name : List ℕ) (h : List Entry) (e : Entry) (s : SystemParts) (budget : Option ℕ) → e.event ≡ by_command (Submit name s budget) → e.reply ≡ Accepted
    → life name (h ++ e ∷ []) ≡ Some (fresh s)
life_submitted name h e s budget event reply =
    let t : List JobParts = replay [] h in
    let same : bytes_eq name name ≡ true = (bytes_decides name name).1 refl in
    life-push name h e ∙ (λ i. life_after name t (event i) (reply i) (life name h))
    ∙ ap (λ (b : Bool). next_life (cond b (Some s) None) false false (life name h)) same

pub life_copied : (old name : List ℕ) (h : List Entry) (e : Entry) (j : JobParts) → e.event ≡ by_command (CopyJob old name) → e.reply ≡ Accepted → job_named old (replay [] h) ≡ Some j
    → life name (h ++ e ∷ []) ≡ Some (fresh (system_of j))
life_copied old name h e j event reply there =
    let t : List JobParts = replay [] h in
    let same : bytes_eq name name ≡ true = (bytes_decides name name).1 refl in
    life-push name h e ∙ (λ i. life_after name t (event i) (reply i) (life name h))
    ∙ (λ i. next_life (cond (same i) (option_map system_of (there i)) None) false false (life name h))

pub life_moved : (name : List ℕ) (h : List Entry) (e : Entry) (l : Life) → e.event ≡ Round name → e.reply ≡ Moved → life name h ≡ Some l
    → life name (h ++ e ∷ []) ≡ Some (longer l)
life_moved name h e l event reply was =
    let t : List JobParts = replay [] h in
    let same : bytes_eq name name ≡ true = (bytes_decides name name).1 refl in
    life-push name h e ∙ (λ i. life_after name t (event i) (reply i) (life name h))
    ∙ (λ i. next_life None false (same i) (was i))

pub life_ended : (name : List ℕ) (h : List Entry) (e : Entry) → e.event ≡ by_command (Cancel name) → e.reply ≡ Okay → life name (h ++ e ∷ []) ≡ None
life_ended name h e event reply =
    let t : List JobParts = replay [] h in
    let same : bytes_eq name name ≡ true = (bytes_decides name name).1 refl in
    life-push name h e ∙ (λ i. life_after name t (event i) (reply i) (life name h))
    ∙ ap (λ (b : Bool). next_life None b false (life name h)) same

-- an event that doesn't mention a name neither begins, ends nor moves its job
record Spares (name : List ℕ) (t : List JobParts) (e : Event) (r : Reply) : Type 0 where
  unbegun : begins name t e r ≡ None
  unended : ends name e r ≡ false
  unmoved : moves name e r ≡ false

none_either : (b : Bool) (o : Option SystemParts) → o ≡ None → cond b o None ≡ None
none_either true o e = e
none_either false o e = refl

false_either : (b c : Bool) → c ≡ false → cond b c false ≡ false
false_either true c e = e
false_either false c e = refl

unbegun_by : (name : List ℕ) (t : List JobParts) (e : Event) → mentions name e ≡ false → event_begins name t e ≡ None
unbegun_by name t (by_command (Submit n s most)) apart = ap (λ (b : Bool). cond b (Some s) None) apart
unbegun_by name t (by_command (CopyJob old n)) apart =
    ap (λ (b : Bool). cond b (option_map system_of (job_named old t)) None) (second_apart (bytes_eq name old) (bytes_eq name n) apart)
unbegun_by name t _ apart = refl

unended_by : (name : List ℕ) (e : Event) → mentions name e ≡ false → event_ends name e ≡ false
unended_by name (by_command (Cancel n)) apart = apart
unended_by name _ apart = refl

unmoved_by : (name : List ℕ) (e : Event) → mentions name e ≡ false → event_moves name e ≡ false
unmoved_by name (by_command c) apart = refl
unmoved_by name (Round n) apart = apart

spares : (name : List ℕ) (t : List JobParts) (e : Event) (r : Reply) → mentions name e ≡ false → Spares name t e r
spares name t e r apart = record {
  unbegun = none_either (is_accepted r) (event_begins name t e) (unbegun_by name t e apart);
  unended = false_either (is_okay r) (event_ends name e) (unended_by name e apart);
  unmoved = false_either (is_moved r) (event_moves name e) (unmoved_by name e apart);
}

pub life_unmentioned : (name : List ℕ) (h : List Entry) (e : Entry) → mentions name e.event ≡ false → life name (h ++ e ∷ []) ≡ life name h
life_unmentioned name h e apart =
    let s = spares name (replay [] h) e.event e.reply apart in
    let first = s.unbegun in let second = s.unended in let third = s.unmoved in
    life-push name h e ∙ (λ i. next_life (first i) (second i) (third i) (life name h))
