-- Entries that leave the life of a name.
use Rattle.std.proofs.Common.{add-zero, ◌≡◌, ℕ, ◌+◌, List, [], ◌∷◌, ◌++◌, Bool, true, false, cond, Option, None, Some, refl, ap, ◌∙◌, ◌||◌}
use Rattle.std.specs.Prelude.{count_by}
use Rattle.std.specs.List.{list_any}
use Rattle.std.specs.Option.{option_map, option_or, option_and_then}
use Rattle.std.specs.Str.{bytes_eq}
use Rattle.std.proofs.lemmas.List.Folds.{list_any-append}
use Rattle.std.proofs.lemmas.List.Sums.{sum_by-append}
use Rattle.ic_rules.specs.System.{SystemParts}
use Rattle.ic_jobs.specs.declared.command.Command.TheVariants.{CopyJob, Pause, Resume}
use Rattle.ic_jobs.specs.declared.reply.Reply.{Reply}
use Rattle.ic_jobs.specs.declared.reply.Reply.TheVariants.{Shown, Refused, Halted}
use Rattle.ic_jobs.specs.declared.reply.Refusal.{Refusal}
use Rattle.ic_jobs.specs.declared.event.Event.{Event}
use Rattle.ic_jobs.specs.declared.event.Event.TheVariants.{Command as by_command}
use Rattle.ic_jobs.specs.declared.event.Entry.{Entry}
use Rattle.ic_jobs.specs.Job.{JobParts, system_of}
use Rattle.ic_jobs.specs.Table.{job_named}
use Rattle.ic_jobs.specs.Shown.{ShownParts}
use Rattle.ic_jobs.specs.History.{table_after, replay}
use Rattle.ic_jobs.specs.Replies.{is_accepted, is_okay, is_moved}
use Rattle.ic_jobs.specs.Life.{Life, Beginning, event_begins, event_ends, event_moves, begins, ends, moves, last_beginning, life_since, life}

-- an entry that came to a table neither begins, ends nor moves the job of a name
record Spares (name : List ℕ) (t : List JobParts) (e : Entry) : Type 0 where
  unbegun : begins name t e.event e.reply ≡ None
  unended : ends name e.event e.reply ≡ false
  unmoved : moves name e.event e.reply ≡ false

abbrev with_more : Entry → Beginning → Beginning
with_more e b = record { system = b.system; since = b.since ++ e ∷ [] }

abbrev began_with : List Entry → SystemParts → Beginning
began_with es s = record { system = s; since = es }

later : (xs : List Entry) (e : Entry) (found : Option Beginning) (here : Option SystemParts)
    → option_or (option_map (with_more e) found) (option_map (began_with (xs ++ e ∷ [])) here)
    ≡ option_map (with_more e) (option_or found (option_map (began_with xs) here))
later xs e (Some b) here = refl
later xs e None (Some s) = refl
later xs e None None = refl

-- the last beginning is the same, with one entry more since
last_beginning-spared : (name : List ℕ) (t : List JobParts) (h : List Entry) (e : Entry) → begins name (replay t h) e.event e.reply ≡ None
    → last_beginning name t (h ++ e ∷ []) ≡ option_map (with_more e) (last_beginning name t h)
last_beginning-spared name t [] e none = ap (λ (o : Option SystemParts). option_or None (option_map (began_with []) o)) none
last_beginning-spared name t (x ∷ xs) e none =
    ap (λ (b : Option Beginning). option_or b (option_map (began_with (xs ++ e ∷ [])) (begins name t x.event x.reply)))
    (last_beginning-spared name (table_after t x.event) xs e none)
    ∙ later xs e (last_beginning name (table_after t x.event) xs) (begins name t x.event x.reply)

abbrev with_rounds : SystemParts → ℕ → Life
with_rounds s n = record { rules = s.rules; first = s.config; rounds = n }

since_spared : (s : SystemParts) (ended ending moving : Bool) (n : ℕ) → ending ≡ false → moving ≡ false
    → cond (ended || (ending || false)) None (Some (with_rounds s (n + (0 + cond moving 1 0)))) ≡ cond ended None (Some (with_rounds s n))
since_spared s true ending moving n unended unmoved = refl
since_spared s false true moving n unended unmoved = cc
since_spared s false false true n unended unmoved = cc
since_spared s false false false n unended unmoved = ap (λ (m : ℕ). Some (with_rounds s m)) (add-zero n)

abbrev is_ending : List ℕ → Entry → Bool
is_ending name e = ends name e.event e.reply

abbrev is_moving : List ℕ → Entry → Bool
is_moving name e = moves name e.event e.reply

life_since-spared : (name : List ℕ) (e : Entry) (b : Beginning) → is_ending name e ≡ false → is_moving name e ≡ false
    → life_since name (with_more e b) ≡ life_since name b
life_since-spared name e b unended unmoved =
    (λ i. cond (list_any-append (is_ending name) b.since (e ∷ []) i) None (Some (with_rounds b.system (sum_by-append (λ x. cond (is_moving name x) 1 0) b.since (e ∷ []) i))))
    ∙ since_spared b.system (list_any (is_ending name) b.since) (is_ending name e) (is_moving name e) (count_by (is_moving name) b.since) unended unmoved

told_spared : (name : List ℕ) (e : Entry) (found : Option Beginning) → is_ending name e ≡ false → is_moving name e ≡ false
    → option_and_then (life_since name) (option_map (with_more e) found) ≡ option_and_then (life_since name) found
told_spared name e None unended unmoved = refl
told_spared name e (Some b) unended unmoved = life_since-spared name e b unended unmoved

spared : (name : List ℕ) (h : List Entry) (e : Entry) → Spares name (replay [] h) e → life name (h ++ e ∷ []) ≡ life name h
spared name h e is =
    ap (option_and_then (life_since name)) (last_beginning-spared name [] h e is.unbegun) ∙ told_spared name e (last_beginning name [] h) is.unended is.unmoved

none_either : (b : Bool) (o : Option SystemParts) → o ≡ None → cond b o None ≡ None
none_either true o is = is
none_either false o is = refl

false_either : (b c : Bool) → c ≡ false → cond b c false ≡ false
false_either true c is = is
false_either false c is = refl

-- by its event
spared_by_event : (name : List ℕ) (h : List Entry) (e : Entry) (event : Event) → e.event ≡ event
    → event_begins name (replay [] h) event ≡ None → event_ends name event ≡ false → event_moves name event ≡ false
    → life name (h ++ e ∷ []) ≡ life name h
spared_by_event name h e event same unbegun unended unmoved = spared name h e (record {
  unbegun = none_either (is_accepted e.reply) (event_begins name (replay [] h) e.event) (ap (event_begins name (replay [] h)) same ∙ unbegun);
  unended = false_either (is_okay e.reply) (event_ends name e.event) (ap (event_ends name) same ∙ unended);
  unmoved = false_either (is_moved e.reply) (event_moves name e.event) (ap (event_moves name) same ∙ unmoved);
})

-- by its reply
spared_by_reply : (name : List ℕ) (h : List Entry) (e : Entry) (reply : Reply) → e.reply ≡ reply
    → is_accepted reply ≡ false → is_okay reply ≡ false → is_moved reply ≡ false
    → life name (h ++ e ∷ []) ≡ life name h
spared_by_reply name h e reply same unbegun unended unmoved = spared name h e (record {
  unbegun = ap (λ (b : Bool). cond b (event_begins name (replay [] h) e.event) None) (ap is_accepted same ∙ unbegun);
  unended = ap (λ (b : Bool). cond b (event_ends name e.event) false) (ap is_okay same ∙ unended);
  unmoved = ap (λ (b : Bool). cond b (event_moves name e.event) false) (ap is_moved same ∙ unmoved);
})

pub life_copied_from : (name new : List ℕ) (h : List Entry) (e : Entry) → e.event ≡ by_command (CopyJob name new) → bytes_eq name new ≡ false
    → life name (h ++ e ∷ []) ≡ life name h
life_copied_from name new h e same apart =
    spared_by_event name h e (by_command (CopyJob name new)) same (ap (λ (b : Bool). cond b (option_map system_of (job_named name (replay [] h))) None) apart) refl refl

pub life_paused : (name : List ℕ) (h : List Entry) (e : Entry) → e.event ≡ by_command (Pause name) → life name (h ++ e ∷ []) ≡ life name h
life_paused name h e same = spared_by_event name h e (by_command (Pause name)) same refl refl refl

pub life_resumed : (name : List ℕ) (h : List Entry) (e : Entry) → e.event ≡ by_command (Resume name) → life name (h ++ e ∷ []) ≡ life name h
life_resumed name h e same = spared_by_event name h e (by_command (Resume name)) same refl refl refl

pub life_refused : (name : List ℕ) (h : List Entry) (e : Entry) (r : Refusal) → e.reply ≡ Refused r → life name (h ++ e ∷ []) ≡ life name h
life_refused name h e r same = spared_by_reply name h e (Refused r) same refl refl refl

pub life_shown : (name : List ℕ) (h : List Entry) (e : Entry) (s : ShownParts) → e.reply ≡ Shown s → life name (h ++ e ∷ []) ≡ life name h
life_shown name h e s same = spared_by_reply name h e (Shown s) same refl refl refl

pub life_halted : (name : List ℕ) (h : List Entry) (e : Entry) → e.reply ≡ Halted → life name (h ++ e ∷ []) ≡ life name h
life_halted name h e same = spared_by_reply name h e Halted same refl refl refl
