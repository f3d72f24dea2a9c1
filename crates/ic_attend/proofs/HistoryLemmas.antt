-- What one history says of each client's answers.
use Rattle.std.proofs.Common.{◌≡◌, ◌∙◌, ℕ, ◌+◌, ◌<◌, List, [], ◌∷◌, ◌++◌, Bool, true, false, Option, None, Some, length, drop, map, zero, suc, refl, sym, ap, subst, arith, append_assoc, inl, inr, if◌then◌else◌}
use Rattle.std.specs.Prelude.{◌⊎◌, ◌==◌, ◌↔◌, IfSome, IsSomeAnd, is_some, nat_lt, slice_get}
use Rattle.std.specs.Cmp.{unsigned_Decides}
use Rattle.std.specs.List.{cons_option, find, All, AllByRecursion, AllZip}
use Rattle.std.specs.Option.{option_or}
use Rattle.std.specs.Str.{bytes_eq}
use Rattle.std.proofs.Math.Seq.{get_or-append_seam}
use Rattle.std.proofs.lemmas.List.{append-nil, length-append, map-append, take-append-drop}
use Rattle.std.proofs.lemmas.List.Folds.{find-append}
use Rattle.std.proofs.lemmas.Option.{slice_get_cases}
use Rattle.std.proofs.lemmas.Slice.Eq.{bytes_eq-Decides}
use Rattle.ic_disk.specs.declared.disk.Disk.{Ghosts}
use Rattle.ic_rules.specs.System.{SystemParts}
use Rattle.ic_jobs.specs.declared.command.Command.{Command}
use Rattle.ic_jobs.specs.declared.command.Command.TheVariants.{Submit}
use Rattle.ic_jobs.specs.declared.event.Entry.{Entry}
use Rattle.ic_jobs.specs.declared.event.Event.{Event}
use Rattle.ic_jobs.specs.declared.event.Event.TheVariants.{Command as by_command}
use Rattle.ic_jobs.specs.declared.limits.TheConstants.{MAX_JOBS}
use Rattle.ic_jobs.specs.declared.reply.Reply.{Reply}
use Rattle.ic_jobs.specs.declared.reply.Reply.TheVariants.{Accepted, Refused}
use Rattle.ic_jobs.specs.declared.reply.Refusal.TheVariants.{Taken, Full}
use Rattle.ic_jobs.specs.Events.{after_command, outcome}
use Rattle.ic_jobs.specs.History.{replay, table_after}
use Rattle.ic_jobs.specs.Job.{JobParts, begun}
use Rattle.ic_jobs.specs.Names.{mentions}
use Rattle.ic_jobs.specs.Table.{is_named, job_named}
use Rattle.ic_book.specs.declared.fault.BookFault.{BookFault}
use Rattle.ic_book.specs.declared.fault.BookFault.TheVariants.{Device}
use Rattle.ic_book.specs.Book.{log_of, kept_of}
use Rattle.ic_book.specs.Entries.{AreRounds, is_round, command_entry}
use Rattle.ic_attend.specs.declared.attended.Attended.{Attended}
use Rattle.ic_attend.specs.declared.attended.ClientRun.{ClientRun}
use Rattle.ic_attend.specs.Clients.{asked, EndsUnanswered, Follows, KeepsTo}
use Rattle.ic_attend.specs.OneHistory.{IsOneHistory, kept_log, unkept_log}
use Rattle.ic_attend.specs.Parts.{AreOfClients, answer_to, commands_in, part}
use Rattle.ic_attend.proofs.Exact.{same_last}
use Rattle.ic_attend.proofs.PartLemmas.{entry_is, answer_to-other, answer_to-own, answer_to-round, part-snoc, part-append, runs_counted}

-- what holds of all elements holds of the one between two parts
pub all_at : {X : Type 0} (P : X → Type 0) (front back : List X) (e : X) → All P (front ++ e ∷ back) → P e
all_at P front back e all =
    let count : length (front ++ e ∷ back) ≡ length front + length (e ∷ back) = length-append front (e ∷ back) in
    subst P (get_or-append_seam front e back e) (all (length front) e (omega (arith, count)))

-- what stands at a place of the one list has its partner at that of the other
pub zip_at : {A B : Type 0} (R : A → B → Type 0) (xs : List A) (ys : List B) (k : ℕ) (x : A) → AllZip R xs ys → slice_get xs k ≡ Some x
    → (y : B) × (slice_get ys k ≡ Some y) × R x y
zip_at R [] ys k x all is = absurd (let bad : None ≡ Some x = is in cc)
zip_at R (z ∷ xs) [] k x all is = absurd all
zip_at R (z ∷ xs) (y ∷ ys) zero x all is = let same : z ≡ x = cc in (y, refl, subst (λ a. R a y) same all.0)
zip_at R (z ∷ xs) (y ∷ ys) (suc k) x all is = zip_at R xs ys k x all.1 is

-- rounds are no client's
pub rounds_no_part : (who : ℕ) (es : List Entry) → AreRounds es → part who es ≡ []
rounds_no_part who [] rounds = refl
rounds_no_part who (e ∷ es) rounds =
    ap (λ (o : Option (Command × Reply)). cons_option o (part who es)) (answer_to-round who e rounds.0) ∙ rounds_no_part who es rounds.1

-- the refused command is the next of the script, and it is the event
pub next_of : (before script : List Command) {E : Command → Type 0} (o : Option Command) → IfSome o (λ c. (rest : List Command) × (script ≡ before ++ c ∷ rest)) → IsSomeAnd o E
    → (c : Command) × E c × (rest : List Command) × (script ≡ before ++ c ∷ rest)
next_of before script None next some = absurd some
next_of before script (Some c) next some = (c, some, next.0, next.1)

-- a client that was refused a command was refused the next one
next_refused : (before script : List Command) (o : Option Command) → is_some o ≡ true → IfSome o (λ c. (rest : List Command) × (script ≡ before ++ c ∷ rest))
    → (c : Command) × (rest : List Command) × (o ≡ Some c) × (script ≡ before ++ c ∷ rest)
next_refused before script None there next = absurd (let no : false ≡ true = there in cc)
next_refused before script (Some c) there next = (c, next.0, refl, next.1)

refused_is : (E : Command → Type 0) (o : Option Command) → IsSomeAnd o E → (c : Command) × (o ≡ Some c) × E c
refused_is E None some = absurd some
refused_is E (Some c) some = (c, refl, some)

-- all commands, where none stand after those that are kept, or one
goes_on_alike : (script kept unkept all rest : List Command) → all ≡ kept ++ unkept → unkept ≡ [] → script ≡ kept ++ rest → script ≡ all ++ rest
goes_on_alike script kept unkept all rest parts empty is =
    is ∙ ap (λ (l : List Command). l ++ rest) (sym (parts ∙ ap (λ (l : List Command). kept ++ l) empty ∙ append-nil kept))

goes_on_after : (script kept unkept all rest : List Command) (command : Command) → all ≡ kept ++ unkept → unkept ≡ command ∷ [] → script ≡ kept ++ command ∷ rest → script ≡ all ++ rest
goes_on_after script kept unkept all rest command parts one is =
    is ∙ sym (append_assoc kept (command ∷ []) rest) ∙ ap (λ (l : List Command). l ++ rest) (sym (parts ∙ ap (λ (l : List Command). kept ++ l) one))

-- a list is shorter than what goes on after it
goes_on : (xs rest : List Command) (c : Command) → xs ≡ xs ++ c ∷ rest → ⊥
goes_on xs rest c is = let count : length xs ≡ length xs + length (c ∷ rest) = ap length is ∙ length-append xs (c ∷ rest) in absurd (omega (arith, count))

-- A last, unanswered command is another client's, or this client's own.
pub last_part : (who : ℕ) (runs : List ClientRun) (es : List Entry) (ends : EndsUnanswered runs es)
    → (part who es ≡ []) ⊎ ((slice_get runs who ≡ Some ends.client)
    × ((c : Command) → ends.last.event ≡ by_command c → commands_in who es ≡ c ∷ []))
last_part who runs es ends = at (ends.last.who == who) refl
  where
    whole : part who es ≡ cons_option (answer_to who ends.last) []
    whole = ap (part who) ends.entries ∙ part-snoc who ends.front ends.last
        ∙ ap (λ (l : List (Command × Reply)). l ++ cons_option (answer_to who ends.last) []) (rounds_no_part who ends.front ends.rounds)

    at : (b : Bool) → (ends.last.who == who) ≡ b → (part who es ≡ []) ⊎ ((slice_get runs who ≡ Some ends.client)
        × ((c : Command) → ends.last.event ≡ by_command c → commands_in who es ≡ c ∷ []))
    at false is = inl (whole ∙ ap (λ (o : Option (Command × Reply)). cons_option o []) (answer_to-other who ends.last is))
    at true is =
        let own : ends.last.who ≡ who = (unsigned_Decides ends.last.who who).0 is in
        inr (
          ap (slice_get runs) (sym own) ∙ ends.sender,
          λ c event. ap (map (λ (p : Command × Reply). p.0))
              (whole ∙ ap (λ (o : Option (Command × Reply)). cons_option o []) (answer_to-own who ends.last c ends.last.reply is event refl)),
        )

module _ {D : Type 0} {ghosts : Ghosts D} (a : Attended D ghosts) where
  log_parts : kept_log a ++ unkept_log a ≡ log_of a.book
  log_parts = take-append-drop (kept_of a.book) (log_of a.book)

  -- where the kept entries are cut, the whole log is
  pub cut : (front back : List Entry) (e : Entry) → kept_log a ≡ front ++ e ∷ back → log_of a.book ≡ front ++ e ∷ (back ++ unkept_log a)
  cut front back e split = sym log_parts ∙ ap (λ (l : List Entry). l ++ unkept_log a) split ∙ append_assoc front (e ∷ back) (unkept_log a)

  -- a kept command was answered its client
  pub kept_answer : (scripts : List (List Command)) (runners turns who : ℕ) (front back : List Entry) (c : Command) (r : Reply)
      → IsOneHistory scripts runners turns a → kept_log a ≡ front ++ command_entry who c r ∷ back
      → (run : ClientRun) × (slice_get a.answers.items who ≡ Some run) × (run.answers.items ≡ part who front ++ (c, r) ∷ part who back)
  kept_answer scripts runners turns who front back c r history split =
      let e = command_entry who c r in
      let of : AreOfClients (length scripts) (front ++ e ∷ (back ++ unkept_log a)) = subst (AreOfClients (length scripts)) (cut front back e split) history.clients in
      let here : is_round e.event ≡ false → e.who < length scripts = all_at (λ (x : Entry). is_round x.event ≡ false → x.who < length scripts) front (back ++ unkept_log a) e of in
      let small : who < length scripts = here refl in
      let count : length a.answers.items ≡ length scripts = runs_counted scripts a.answers.items history.scripts_kept in
      let told : answer_to who e ≡ Some (c, r) = answer_to-own who e c r ((unsigned_Decides who who).1 refl) refl refl in
      let parted : part who (kept_log a) ≡ part who front ++ (c, r) ∷ part who back =
      ap (part who) split ∙ part-append who front (e ∷ back) ∙ ap (λ (o : Option (Command × Reply)). part who front ++ cons_option o (part who back)) told in
      elim (slice_get_cases a.answers.items who).1 [
        | inl h ↦ (h.0, h.2, history.answers who h.0 h.2 ∙ parted)
        | inr h ↦ absurd (omega (arith, h.0, small, count))
      ]

  -- a client's kept commands begin its script
  pub kept_script : (scripts : List (List Command)) (runners turns who : ℕ) (script : List Command) → IsOneHistory scripts runners turns a → slice_get scripts who ≡ Some script
      → (run : ClientRun) × (slice_get a.answers.items who ≡ Some run)
      × ((rest : List Command) × (script ≡ commands_in who (kept_log a) ++ rest))
      × (run.end ≡ None → commands_in who (kept_log a) ≡ script)
  kept_script scripts runners turns who script history is =
      let found = zip_at KeepsTo scripts a.answers.items who script history.scripts_kept is in
      let run = found.0 in
      let same : asked run ≡ commands_in who (kept_log a) = ap (map (λ (p : Command × Reply). p.0)) (history.answers who run found.1) in
      let n = length (asked run) in
      let whole : script ≡ asked run ++ drop n script = sym (take-append-drop n script) ∙ ap (λ (l : List Command). l ++ drop n script) (sym found.2.follows.first) in (
        run,
        found.1,
        (drop n script, whole ∙ ap (λ (l : List Command). l ++ drop n script) same),
        λ well. sym same ∙ found.2.finished well,
      )

  -- a client that has an end was refused the command after those that are kept
  pub refused_next : (scripts : List (List Command)) (runners turns who : ℕ) (script : List Command) (run : ClientRun) (fault : BookFault)
      → IsOneHistory scripts runners turns a → slice_get scripts who ≡ Some script → slice_get a.answers.items who ≡ Some run → run.end ≡ Some fault
      → (c : Command) × (rest : List Command) × (run.refused ≡ Some c) × (script ≡ commands_in who (kept_log a) ++ c ∷ rest)
  refused_next scripts runners turns who script run fault history is at end =
      let found = zip_at KeepsTo scripts a.answers.items who script history.scripts_kept is in
      let one : Some found.0 ≡ Some run = sym found.1 ∙ at in
      let same : found.0 ≡ run = cc in
      let follows : Follows script run = subst (Follows script) same found.2.follows in
      let asked_so : asked run ≡ commands_in who (kept_log a) = ap (map (λ (p : Command × Reply). p.0)) (history.answers who run at) in
      let next = subst (λ (l : List Command). IfSome run.refused (λ c. (rest : List Command) × (script ≡ l ++ c ∷ rest))) asked_so follows.next in
      next_refused (commands_in who (kept_log a)) script run.refused (sym follows.ended ∙ ap is_some end) next

  -- and all of it exactly where the client has no end
  pub script_kept : (scripts : List (List Command)) (runners turns who : ℕ) (script : List Command) → IsOneHistory scripts runners turns a → slice_get scripts who ≡ Some script
      → (run : ClientRun) × (slice_get a.answers.items who ≡ Some run)
      × ((rest : List Command) × (script ≡ commands_in who (kept_log a) ++ rest))
      × (run.end ≡ None ↔ commands_in who (kept_log a) ≡ script)
  script_kept scripts runners turns who script history is =
      let kept = kept_script scripts runners turns who script history is in
      (kept.0, kept.1, kept.2, (kept.3, λ whole. no_end kept.0 kept.1 kept.0.end refl whole))
    where
      no_end : (run : ClientRun) → slice_get a.answers.items who ≡ Some run → (o : Option BookFault) → run.end ≡ o → commands_in who (kept_log a) ≡ script → run.end ≡ None
      no_end run at None end whole = end
      no_end run at (Some fault) end whole =
          let next = refused_next scripts runners turns who script run fault history is at end in
          absurd (goes_on (commands_in who (kept_log a)) next.1 next.0 (whole ∙ next.3))

  -- all commands of a client begin its script
  pub given_script : (scripts : List (List Command)) (runners turns who : ℕ) (script : List Command) → IsOneHistory scripts runners turns a → slice_get scripts who ≡ Some script
      → (rest : List Command) × (script ≡ commands_in who (log_of a.book) ++ rest)
  given_script scripts runners turns who script history is =
      let found = zip_at KeepsTo scripts a.answers.items who script history.scripts_kept is in
      let kept = kept_script scripts runners turns who script history is in
      let parts : commands_in who (log_of a.book) ≡ commands_in who (kept_log a) ++ commands_in who (unkept_log a) =
      ap (commands_in who) (sym log_parts) ∙ ap (map (λ (p : Command × Reply). p.0)) (part-append who (kept_log a) (unkept_log a))
      ∙ map-append (λ (p : Command × Reply). p.0) (part who (kept_log a)) (part who (unkept_log a)) in
      let none : commands_in who (unkept_log a) ≡ [] → (rest : List Command) × (script ≡ commands_in who (log_of a.book) ++ rest) = λ empty. (
        kept.2.0,
        goes_on_alike script (commands_in who (kept_log a)) (commands_in who (unkept_log a)) (commands_in who (log_of a.book)) kept.2.0 parts empty kept.2.1,
      ) in
      elim history.after [
        | inl rounds ↦ none (ap (map (λ (p : Command × Reply). p.0)) (rounds_no_part who (unkept_log a) rounds))
        | inr ends ↦ elim (last_part who a.answers.items (unkept_log a) ends) [
          | inl other ↦ none (ap (map (λ (p : Command × Reply). p.0)) other)
          | inr own ↦
              let one : Some found.0 ≡ Some ends.client = sym found.1 ∙ own.0 in
              let same : found.0 ≡ ends.client = cc in
              let asked_so : asked found.0 ≡ commands_in who (kept_log a) = ap (map (λ (p : Command × Reply). p.0)) (history.answers who found.0 found.1) in
              let next = next_of (commands_in who (kept_log a)) script ends.client.refused
              (subst (λ (l : List Command). IfSome ends.client.refused (λ c. (rest : List Command) × (script ≡ l ++ c ∷ rest))) asked_so
              (subst (λ (r : ClientRun). IfSome r.refused (λ c. (rest : List Command) × (script ≡ asked found.0 ++ c ∷ rest))) same found.2.follows.next)) ends.refused in
              let mine : commands_in who (unkept_log a) ≡ next.0 ∷ [] = own.1 next.0 next.1 in (
                next.2,
                goes_on_after script (commands_in who (kept_log a)) (commands_in who (unkept_log a)) (commands_in who (log_of a.book)) next.2 next.0 parts mine next.3,
              )
        ]
      ]

  -- one client alone is told that the disk has failed
  pub failed_alone : (scripts : List (List Command)) (runners turns who other : ℕ) (run twin : ClientRun) → IsOneHistory scripts runners turns a
      → slice_get a.answers.items who ≡ Some run → run.end ≡ Some Device → slice_get a.answers.items other ≡ Some twin → twin.end ≡ Some Device → who ≡ other
  failed_alone scripts runners turns who other run twin history at failed at_twin too =
      let mine = history.failed who run at failed in
      let its = history.failed other twin at_twin too in
      let same : mine.last ≡ its.last = same_last mine.front its.front mine.last its.last (sym mine.entries ∙ its.entries) in
      sym mine.sender ∙ ap (λ (e : Entry). e.who) same ∙ its.sender

  -- its command stands last
  pub failed_last : (scripts : List (List Command)) (runners turns who : ℕ) (run : ClientRun) → IsOneHistory scripts runners turns a
      → slice_get a.answers.items who ≡ Some run → run.end ≡ Some Device
      → (front : List Entry) × (c : Command) × (r : Reply) × (run.refused ≡ Some c) × (log_of a.book ≡ front ++ command_entry who c r ∷ [])
  failed_last scripts runners turns who run history at failed =
      let mine = history.failed who run at failed in
      let told = refused_is (λ c. mine.last.event ≡ by_command c) run.refused mine.refused in
      let here : mine.last ≡ command_entry who told.0 mine.last.reply = entry_is who mine.last told.0 mine.last.reply (record { own = mine.sender; event = told.2; reply = refl }) in (
        kept_log a ++ mine.front,
        told.0,
        mine.last.reply,
        told.1,
        sym log_parts ∙ ap (λ (l : List Entry). kept_log a ++ l) mine.entries ∙ sym (append_assoc (kept_log a) mine.front (mine.last ∷ []))
            ∙ ap (λ (e : Entry). (kept_log a ++ mine.front) ++ e ∷ []) here,
      )

-- ---- what a client reads back

-- entries that aren't about a job leave it
pub stays : ((t : List JobParts) (e : Event) (name : List ℕ) → mentions name e ≡ false → job_named name (table_after t e) ≡ job_named name t)
    → (t : List JobParts) (name : List ℕ) (es : List Entry) → AllByRecursion (λ (e : Entry). mentions name e.event ≡ false) es
    → job_named name (replay t es) ≡ job_named name t
stays others t name [] none = refl
stays others t name (e ∷ es) none = stays others (table_after t e.event) name es none.1 ∙ others t e.event name none.0

-- an accepted submit leaves its job as it begins
pub accepted_begins : (t : List JobParts) (name : List ℕ) (system : SystemParts) (budget : Option ℕ) → (after_command t (Submit name system budget)).reply ≡ Accepted
    → job_named name (after_command t (Submit name system budget)).table ≡ Some (begun name system budget)
accepted_begins t name system budget is = at (job_named name t) (nat_lt (length t) MAX_JOBS) refl is
  where
    at : (o : Option JobParts) (room : Bool) → job_named name t ≡ o
        → (if is_some o then outcome t (Refused Taken) else (if room then outcome (t ++ begun name system budget ∷ []) Accepted else outcome t (Refused Full))).reply ≡ Accepted
        → job_named name (if is_some o then outcome t (Refused Taken) else (if room then outcome (t ++ begun name system budget ∷ []) Accepted else outcome t (Refused Full))).table ≡ Some (begun name system budget)
    at (Some j) room none told = absurd (let bad : Refused Taken ≡ Accepted = told in cc)
    at None false none told = absurd (let bad : Refused Full ≡ Accepted = told in cc)
    at None true none told =
        let own : bytes_eq name name ≡ true = (bytes_eq-Decides name name).1 refl in
        find-append (is_named name) t (begun name system budget ∷ [])
        ∙ ap (λ (o : Option JobParts). option_or o (find (is_named name) (begun name system budget ∷ []))) none
        ∙ ap (λ (b : Bool). if b then Some (begun name system budget) else None) own
