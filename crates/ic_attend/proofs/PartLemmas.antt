-- Parts of a history.
use Rattle.std.proofs.Common.{◌≡◌, ◌≢◌, ℕ, ◌+◌, ◌-◌, ◌<◌, ◌≤◌, ◌==◌, not, suc, subst, List, [], ◌∷◌, ◌++◌, Bool, true, false, Option, None, Some, length, take, drop, refl, sym, ap, ◌∙◌, if◌then◌else◌}
use Rattle.std.specs.Prelude.{IfSome, slice_index_or}
use Rattle.std.specs.Cmp.{unsigned_Decides}
use Rattle.std.specs.List.{All, cons_option, AllZip}
use Rattle.std.specs.Option.{unwrap_or}
use Rattle.std.proofs.lemmas.List.{append-nil, take_more, take-append-drop, take-take}
use Rattle.std.proofs.lemmas.List.Elements.{All-push, filter_map-append}
use Rattle.std.proofs.lemmas.Bool.{not-true}
use Rattle.ic_jobs.specs.declared.command.Command.{Command}
use Rattle.ic_jobs.specs.declared.event.Event.{Event}
use Rattle.ic_jobs.specs.declared.event.Event.TheVariants.{Command as by_command, Round}
use Rattle.ic_jobs.specs.declared.event.Entry.{Entry}
use Rattle.ic_jobs.specs.declared.reply.Reply.{Reply}
use Rattle.ic_book.specs.Entries.{is_round, command_entry}
use Rattle.ic_attend.specs.declared.attended.ClientRun.{ClientRun}
use Rattle.ic_attend.specs.Parts.{answered, answer_to, part}
use Rattle.ic_attend.specs.declared.client.Speech.{Speech}
use Rattle.ic_attend.specs.declared.attended.RunnerEnd.{RunnerEnd}
use Rattle.ic_attend.specs.declared.attended.RunnerEnd.TheVariants.{Idle}
use Rattle.ic_attend.specs.Clients.{KeepsTo}
use Rattle.ic_attend.specs.Ends.{EndMayBe}
use Rattle.ic_attend.specs.inner.Speech.{Speaks}
use Rattle.ic_round.specs.lemmas.FreshNames.{apart_false}

pub part-snoc : (who : ℕ) (es : List Entry) (e : Entry) → part who (es ++ e ∷ []) ≡ part who es ++ cons_option (answer_to who e) []
part-snoc who es e = filter_map-append (answer_to who) es (e ∷ [])

pub part_more : (who : ℕ) (es : List Entry) (i : ℕ) (d : Entry) → i < length es
    → part who (take (i + 1) es) ≡ part who (take i es) ++ cons_option (answer_to who (slice_index_or es i d)) []
part_more who es i d below =
    ap (part who) (take_more es i d below) ∙ part-snoc who (take i es) (slice_index_or es i d)

pub answered-round : (event : Event) (reply : Reply) → is_round event ≡ true → answered event reply ≡ None
answered-round (by_command command) reply is = absurd (let no : false ≡ true = is in cc)
answered-round (Round name) reply is = refl

none_both : (b : Bool) (o : Option (Command × Reply)) → o ≡ None → (if b then o else None) ≡ None
none_both true o none = none
none_both false o none = refl

pub answer_to-round : (who : ℕ) (e : Entry) → is_round e.event ≡ true → answer_to who e ≡ None
answer_to-round who e is = none_both (e.who == who) (answered e.event e.reply) (answered-round e.event e.reply is)

pub answer_to-other : (who : ℕ) (e : Entry) → (e.who == who) ≡ false → answer_to who e ≡ None
answer_to-other who e other = rw other refl

pub answer_to-own : (who : ℕ) (e : Entry) (command : Command) (reply : Reply) → (e.who == who) ≡ true
    → e.event ≡ by_command command → e.reply ≡ reply → answer_to who e ≡ Some (command, reply)
answer_to-own who e command reply own event told = rw (own, event, told) refl

-- ---- laws

pub part-append : (who : ℕ) (h k : List Entry) → part who (h ++ k) ≡ part who h ++ part who k
part-append who h k = filter_map-append (answer_to who) h k

pub part-own : (who : ℕ) (h : List Entry) (c : Command) (r : Reply)
    → part who (h ++ command_entry who c r ∷ []) ≡ part who h ++ (c, r) ∷ []
part-own who h c r =
    part-snoc who h (command_entry who c r)
    ∙ ap (λ (o : Option (Command × Reply)). part who h ++ cons_option o [])
    (answer_to-own who (command_entry who c r) c r ((unsigned_Decides who who).1 refl) refl refl)

pub part-none : (who : ℕ) (h : List Entry) (e : Entry) → answer_to who e ≡ None → part who (h ++ e ∷ []) ≡ part who h
part-none who h e none =
    part-snoc who h e ∙ ap (λ (o : Option (Command × Reply)). part who h ++ cons_option o []) none ∙ append-nil (part who h)

-- what an answer says of its entry
pub record IsAnswer (who : ℕ) (e : Entry) (c : Command) (r : Reply) : Type 0 where
  pub own : e.who ≡ who
  pub event : e.event ≡ by_command c
  pub reply : e.reply ≡ r

abbrev answer_or : Command × Reply → Option (Command × Reply) → Command × Reply
answer_or a None = a
answer_or a (Some b) = b

answered-is : (event : Event) (reply : Reply) (c : Command) (r : Reply) → answered event reply ≡ Some (c, r) → (event ≡ by_command c) × (reply ≡ r)
answered-is (by_command command) reply c r is = let pair : (command, reply) ≡ (c, r) = ap (answer_or (command, reply)) is in (ap by_command (ap (λ (p : Command × Reply). p.0) pair), ap (λ (p : Command × Reply). p.1) pair)
answered-is (Round name) reply c r is = absurd (let no : None ≡ Some (c, r) = is in cc)

answer_cases : (b : Bool) (event : Event) (reply : Reply) (c : Command) (r : Reply)
    → (if b then answered event reply else None) ≡ Some (c, r) → (b ≡ true) × (event ≡ by_command c) × (reply ≡ r)
answer_cases true event reply c r is = let parts = answered-is event reply c r is in (refl, parts.0, parts.1)
answer_cases false event reply c r is = absurd (let no : None ≡ Some (c, r) = is in cc)

pub answer_is : (who : ℕ) (e : Entry) (c : Command) (r : Reply) → answer_to who e ≡ Some (c, r) → IsAnswer who e c r
answer_is who e c r is =
    let parts = answer_cases (e.who == who) e.event e.reply c r is in
    record { own = (unsigned_Decides e.who who).0 parts.0; event = parts.1; reply = parts.2 }

pub entry_is : (who : ℕ) (e : Entry) (c : Command) (r : Reply) → IsAnswer who e c r → e ≡ command_entry who c r
entry_is who e c r is = λ i. record { who = is.own i; event = is.event i; reply = is.reply i }

pub record HasPlace (who : ℕ) (h : List Entry) (before after : List (Command × Reply)) (c : Command) (r : Reply) : Type 0 where
  pub front : List Entry
  pub back : List Entry
  pub split : h ≡ front ++ command_entry who c r ∷ back
  pub earlier : part who front ≡ before
  pub later : part who back ≡ after

-- the first item, or another where there is none; and what stands after it
abbrev first_or : {X : Type 0} → X → List X → X
first_or d [] = d
first_or d (x ∷ xs) = x

abbrev rest_of : {X : Type 0} → List X → List X
rest_of [] = []
rest_of (x ∷ xs) = xs

place_at : (who : ℕ) (e : Entry) (es : List Entry) (before after : List (Command × Reply)) (c : Command) (r : Reply)
    → ((bs : List (Command × Reply)) → part who es ≡ bs ++ (c, r) ∷ after → HasPlace who es bs after c r)
    → (o : Option (Command × Reply)) → answer_to who e ≡ o → cons_option o (part who es) ≡ before ++ (c, r) ∷ after
    → HasPlace who (e ∷ es) before after c r
place_at who e es before after c r place None none is =
    let rest = place before is in
    record {
      front = e ∷ rest.front;
      back = rest.back;
      split = ap (λ (l : List Entry). e ∷ l) rest.split;
      earlier = ap (λ (o : Option (Command × Reply)). cons_option o (part who rest.front)) none ∙ rest.earlier;
      later = rest.later;
    }
place_at who e es [] after c r place (Some a) some is =
    let heads : a ≡ (c, r) = ap (first_or a) is in
    let here = entry_is who e c r (answer_is who e c r (some ∙ ap Some heads)) in
    record {
      front = [];
      back = es;
      split = ap (λ (x : Entry). x ∷ es) here;
      earlier = refl;
      later = ap rest_of is;
    }
place_at who e es (b ∷ before) after c r place (Some a) some is =
    let heads : a ≡ b = ap (first_or a) is in
    let rest = place before (ap rest_of is) in
    record {
      front = e ∷ rest.front;
      back = rest.back;
      split = ap (λ (l : List Entry). e ∷ l) rest.split;
      earlier = ap (λ (o : Option (Command × Reply)). cons_option o (part who rest.front)) (some ∙ ap Some heads) ∙ ap (λ (l : List (Command × Reply)). b ∷ l) rest.earlier;
      later = rest.later;
    }

nil_is_not : {X : Type 0} (xs ys : List X) (y : X) → [] ≡ xs ++ y ∷ ys → ⊥
nil_is_not [] ys y is = cc
nil_is_not (x ∷ xs) ys y is = cc

pub place_of : (who : ℕ) (h : List Entry) (before after : List (Command × Reply)) (c : Command) (r : Reply)
    → part who h ≡ before ++ (c, r) ∷ after → HasPlace who h before after c r
place_of who [] before after c r is = absurd (nil_is_not before after (c, r) is)
place_of who (e ∷ es) before after c r is =
    place_at who e es before after c r (λ bs. place_of who es bs after c r) (answer_to who e) refl is

-- ---- two clients

pub not_another : (who other : ℕ) (e : Entry) (a : Command × Reply) → answer_to who e ≡ Some a → other ≢ who → answer_to other e ≡ None
not_another who other e a some apart =
    let own : e.who ≡ who = (answer_is who e a.0 a.1 some).own in
    answer_to-other other e (apart_false e.who other (λ same. apart (sym same ∙ own)))

-- ---- stops

pub parts_go_on : (who : ℕ) (log : List Entry) (kept stop : ℕ) → kept ≤ stop
    → (rest : List (Command × Reply)) × (part who (take stop log) ≡ part who (take kept log) ++ rest)
parts_go_on who log kept stop within =
    let front : take kept (take stop log) ≡ take kept log = take-take kept stop log within in (
      part who (drop kept (take stop log)),
      ap (part who) (sym (take-append-drop kept (take stop log)))
          ∙ part-append who (take kept (take stop log)) (drop kept (take stop log))
          ∙ ap (λ (h : List Entry). part who h ++ part who (drop kept (take stop log))) front,
    )

-- ---- what is compared

-- an answer more, and its entry
pub one_more_own : (who : ℕ) (es : List Entry) (answers : List (Command × Reply)) (i given : ℕ) (e : Entry) (a : Command × Reply)
    → i < length es → e ≡ slice_index_or es i e → e.who ≡ who → given < length answers → a ≡ slice_index_or answers given a
    → e.event ≡ by_command a.0 → e.reply ≡ a.1 → take given answers ≡ part who (take i es)
    → take (given + 1) answers ≡ part who (take (i + 1) es)
one_more_own who es answers i given e a below item own within answer event reply so =
    let told : answer_to who e ≡ Some (a.0, a.1) = answer_to-own who e a.0 a.1 ((unsigned_Decides e.who who).1 own) event reply in
    take_more answers given a within
    ∙ ap (λ (x : Command × Reply). take given answers ++ x ∷ []) (sym answer)
    ∙ ap (λ (l : List (Command × Reply)). l ++ a ∷ []) so
    ∙ ap (λ (o : Option (Command × Reply)). part who (take i es) ++ cons_option o []) (sym told)
    ∙ ap (λ (x : Entry). part who (take i es) ++ cons_option (answer_to who x) []) item
    ∙ sym (part_more who es i e below)

-- an entry more that is none of the client's
pub one_more_other : (who : ℕ) (es : List Entry) (answers : List (Command × Reply)) (i given : ℕ) (e : Entry)
    → i < length es → e ≡ slice_index_or es i e → answer_to who e ≡ None → take given answers ≡ part who (take i es)
    → take given answers ≡ part who (take (i + 1) es)
one_more_other who es answers i given e below item none so =
    so ∙ sym (append-nil (part who (take i es)))
    ∙ ap (λ (o : Option (Command × Reply)). part who (take i es) ++ cons_option o []) (sym none)
    ∙ ap (λ (x : Entry). part who (take i es) ++ cons_option (answer_to who x) []) item
    ∙ sym (part_more who es i e below)

-- scripts and runs, one more of each
pub runs_more : (R : List Command → ClientRun → Type 0) (scripts : List (List Command)) (runs : List ClientRun) (script : List Command) (run : ClientRun)
    → AllZip R scripts runs → R script run → AllZip R (scripts ++ script ∷ []) (runs ++ run ∷ [])
runs_more R [] [] script run all one = (one, tt)
runs_more R (s ∷ ss) (r ∷ rs) script run all one = (all.0, runs_more R ss rs script run all.1 one)
runs_more R _ _ script run all one = absurd all

pub runs_counted : (scripts : List (List Command)) (runs : List ClientRun) → AllZip KeepsTo scripts runs → length runs ≡ length scripts
runs_counted [] [] all = refl
runs_counted (s ∷ ss) (r ∷ rs) all = ap suc (runs_counted ss rs all.1)
runs_counted _ _ all = absurd all

-- a client that wasn't told to stop keeps to its script
pub keeps_to : (a b : List Command) (speech : Speech) → a ≡ b → Speaks a speech → not speech.stopped ≡ true → KeepsTo b speech.run
keeps_to a b speech same speaks on =
    let s = subst (λ (l : List Command). Speaks l speech) same speaks in
    record { follows = s.follows; finished = s.finished (not-true speech.stopped on) }

-- a runner whose thread wasn't started is idle
may_be_or_idle : (turns workers : ℕ) (end : Option RunnerEnd) → IfSome end (EndMayBe turns workers) → EndMayBe turns workers (unwrap_or end Idle)
may_be_or_idle turns workers None may = tt
may_be_or_idle turns workers (Some end) may = may

pub ends_more : (turns workers : ℕ) (old new : List RunnerEnd) (end : Option RunnerEnd) → new ≡ old ++ unwrap_or end Idle ∷ [] → All (EndMayBe turns workers) old → IfSome end (EndMayBe turns workers)
    → All (EndMayBe turns workers) new
ends_more turns workers old new end grown all may =
    subst (λ (ends : List RunnerEnd). All (EndMayBe turns workers) ends) (sym grown) (All-push (EndMayBe turns workers) old (unwrap_or end Idle) all (may_be_or_idle turns workers end may))
