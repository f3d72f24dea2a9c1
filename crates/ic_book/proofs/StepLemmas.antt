-- Calls of a book as steps of a server.
use Rattle.std.proofs.Common.{◌≡◌, ◌≢◌, ◌∙◌, inl, inr, Bool, true, false, IsErr, IsErrOf, ℕ, List, [], ◌∷◌, ◌++◌, Result, Ok, Err, length, refl, sym, ap, subst}
use Rattle.std.proofs.lemmas.List.{append-nil}
use Rattle.std.proofs.lemmas.Bool.{both_ways}
use Rattle.ic_disk.specs.declared.disk.Disk.{Ghosts}
use Rattle.ic_disk.specs.Time.{LeftSince}
use Rattle.ic_jobs.specs.declared.command.Command.{Command}
use Rattle.ic_jobs.specs.declared.event.Entry.{Entry}
use Rattle.ic_jobs.specs.declared.landed.Landed.{Landed}
use Rattle.ic_jobs.specs.declared.landed.Landed.TheVariants.{Moved, Stale}
use Rattle.ic_jobs.specs.declared.reply.Reply.{Reply}
use Rattle.ic_jobs.specs.declared.reply.Reply.TheVariants as replied
use Rattle.ic_book.specs.declared.book.Book.{Book}
use Rattle.ic_book.specs.declared.fault.BookFault.{BookFault}
use Rattle.ic_book.specs.declared.fault.BookFault.TheVariants.{Broken, LogFull, Device}
use Rattle.ic_book.specs.Book.{start_of, log_of, table_of, kept_of, keeper_of, is_broken}
use Rattle.ic_book.specs.Calls.{MakesOwnRound}
use Rattle.ic_book.specs.Crashes.{LeavesKeptOrAll}
use Rattle.ic_book.specs.Entries.{AddsCommand, command_entry, round_entry}
use Rattle.ic_book.specs.inner.Entering.{EntersRound}
use Rattle.ic_book.specs.Moves.{keeps, stays, as_landed, round_move, keep_move}
use Rattle.ic_book.specs.Server.{up, IsCall, Step, StepsByCommand, StepsByTake}
use Rattle.ic_book.proofs.BookLemmas.{unchanged}

err-not-ok : (reply : Reply) → ¬ IsErr {T = Reply} {E = BookFault} (Ok reply)
err-not-ok reply err = let never : false ≡ true = err in cc

device-not-ok : (reply : Reply) → ¬ IsErrOf {T = Reply} {E = BookFault} (Ok reply) Device
device-not-ok reply device = cc

module _ {D : Type 0} {ghosts : Ghosts D} where
  -- a crash leaves what is said of the log with what comes
  crash_with : (old new : Book D ghosts) (log more : List Entry) → log ≡ log_of old ++ more → LeavesKeptOrAll log old new → LeavesKeptOrAll (log_of old ++ more) old new
  crash_with old new log more is crash = subst (λ (es : List Entry). LeavesKeptOrAll es old new) is crash

  -- nothing comes to the history
  pub stays_on : (old new : Book D ghosts) → start_of new ≡ start_of old → log_of new ≡ log_of old → table_of new ≡ table_of old → kept_of new ≡ kept_of old
      → LeavesKeptOrAll (log_of old) old new → (is_broken old ≡ true → is_broken new ≡ true) → IsCall stays old new
  stays_on old new start log table kept crash broken = record {
    page = (record { start = start; log = log; table = table }, kept);
    broken = broken;
    crash = crash_with old new (log_of old) [] (sym (append-nil (log_of old))) crash;
  }

  -- all is kept, on the same page
  pub keeps_page : (old new : Book D ghosts) → start_of new ≡ start_of old → log_of new ≡ log_of old → table_of new ≡ table_of old
      → kept_of new ≡ length (log_of new) → LeavesKeptOrAll (log_of old) old new → is_broken old ≡ false → is_broken new ≡ false → IsCall keeps old new
  keeps_page old new start log table all crash was whole = record {
    page = (inl (record { start = start; log = log; table = table }), all, whole);
    broken = λ broke. absurd (both_ways (is_broken old) was broke);
    crash = crash_with old new (log_of old) [] (sym (append-nil (log_of old))) crash;
  }

  -- all is kept, and a new page begins
  pub turns_page : (old new : Book D ghosts) → start_of new ≡ table_of old → log_of new ≡ [] → table_of new ≡ table_of old
      → kept_of new ≡ 0 → LeavesKeptOrAll (log_of old) old new → is_broken old ≡ false → is_broken new ≡ false → IsCall keeps old new
  turns_page old new start log table kept crash was whole = record {
    page = (inr (record { start = start; log = log; table = table }), kept ∙ sym (ap length log), whole);
    broken = λ broke. absurd (both_ways (is_broken old) was broke);
    crash = crash_with old new (log_of old) [] (sym (append-nil (log_of old))) crash;
  }

  -- a keep is refused
  pub keep_refused : {T E : Type 0} (result : Result T E) (fault : E) (old new : Book D ghosts) → result ≡ Err fault → IsCall stays old new → Step (keep_move result) (up old) (up new)
  keep_refused {T} {E} result fault old new is done = subst (λ (r : Result T E). Step (keep_move r) (up old) (up new)) (sym is) done

  -- nothing is done at all
  pub idles : ((disk : D) (file : List ℕ) → LeftSince (ghosts.left disk) (ghosts.clock disk) file → ghosts.image disk file) → (book : Book D ghosts) → IsCall stays book book
  idles law book = stays_on book book refl refl refl refl (unchanged law book) (λ is. is)

  -- ---- a round

  -- it is refused
  pub round_refused : {E : Type 0} (name : List ℕ) (reply : Reply) (result : Result Landed E) (fault : E) (old new : Book D ghosts) → result ≡ Err fault → IsCall stays old new
      → Step (round_move name reply result) (up old) (up new)
  round_refused {E} name reply result fault old new is done = subst (λ (r : Result Landed E). Step (round_move name reply r) (up old) (up new)) (sym is) done

  -- a refusal brings nothing
  pub round_unmade : {E : Type 0} {expected : Type 0} (name : List ℕ) (reply : Reply) (fault : E) (old new : Book D ghosts) → start_of new ≡ start_of old → kept_of new ≡ kept_of old
      → EntersRound (round_entry name reply) expected (Err fault) (log_of old) (log_of new) (table_of old) (table_of new) → LeavesKeptOrAll (log_of new) old new → (is_broken old ≡ true → is_broken new ≡ true) → IsCall stays old new
  round_unmade name reply fault old new start kept is crash =
      stays_on old new start (is.same_log tt) (is.same_table tt) kept (subst (λ (es : List Entry). LeavesKeptOrAll es old new) (is.same_log tt) crash)

  -- it lands, or is stale
  pub round_made : {E : Type 0} {expected : Type 0} (F : Type 0) (name : List ℕ) (reply : Reply) (landed : Landed) (old new : Book D ghosts) → start_of new ≡ start_of old → kept_of new ≡ kept_of old
      → EntersRound {E = E} (round_entry name reply) expected (Ok landed) (log_of old) (log_of new) (table_of old) (table_of new) → LeavesKeptOrAll (log_of new) old new
      → (is_broken old ≡ true → is_broken new ≡ true) → Step (round_move {E = F} name reply (Ok landed)) (up old) (up new)
  round_made F name reply Moved old new start kept is crash broken =
      let adds = is.moved refl in
      record {
        page = (record { start = start; adds = adds }, kept);
        broken = broken;
        crash = crash_with old new (log_of new) (round_entry name reply ∷ []) adds.entry crash;
      }
  round_made F name reply Stale old new start kept is crash broken =
      stays_on old new start (is.same_log tt) (is.same_table tt) kept (subst (λ (es : List Entry). LeavesKeptOrAll es old new) (is.same_log tt) crash) broken

  -- it is made in its job's own lists, or it isn't
  pub own_made : {E : Type 0} {expected : Type 0} (F : Type 0) (name : List ℕ) (made : Bool) (old new : Book D ghosts) → start_of new ≡ start_of old → kept_of new ≡ kept_of old
      → EntersRound {E = E} (round_entry name replied.Moved) expected (as_landed {E = E} (Ok made)) (log_of old) (log_of new) (table_of old) (table_of new) → LeavesKeptOrAll (log_of new) old new
      → (is_broken old ≡ true → is_broken new ≡ true) → Step (round_move {E = F} name replied.Moved (as_landed {E = F} (Ok made))) (up old) (up new)
  own_made F name true old new start kept is crash broken = round_made F name replied.Moved Moved old new start kept is crash broken
  own_made F name false old new start kept is crash broken = round_made F name replied.Moved Stale old new start kept is crash broken

  pub own_round : {E : Type 0} {expected : Type 0} (name : List ℕ) (made : Bool) (old new : Book D ghosts) → start_of new ≡ start_of old → kept_of new ≡ kept_of old → keeper_of new ≡ keeper_of old
      → EntersRound {E = E} (round_entry name replied.Moved) expected (as_landed {E = E} (Ok made)) (log_of old) (log_of new) (table_of old) (table_of new) → MakesOwnRound name (Ok made) old new
  own_round name true old new start kept keeper is = record { made = λ _. is.moved refl; unmade = λ never. cc; start = start; kept = kept; keeper = keeper }
  own_round name false old new start kept keeper is = record {
    made = λ never. cc;
    unmade = λ _. record { same_start = start; same_log = is.same_log tt; same_table = is.same_table tt; same_kept = kept; same_keeper = keeper };
    start = start;
    kept = kept;
    keeper = keeper;
  }

  -- ---- a command

  module _ (who : ℕ) (command : Command) (old new : Book D ghosts) where
    refused_so : (fault : BookFault) → ¬ (fault ≡ Device) → IsCall stays old new → StepsByCommand who command (Err fault) old new
    refused_so fault other done = record {
      answered = tt;
      failed = λ device. absurd (other (let same : fault ≡ Device = cc in same));
      refused = λ _ _. done;
    }

    -- it is refused
    pub command_refused : (result : Result Reply BookFault) (fault : BookFault) → result ≡ Err fault → ¬ (fault ≡ Device) → IsCall stays old new → StepsByCommand who command result old new
    command_refused result fault is other done = subst (λ (r : Result Reply BookFault). StepsByCommand who command r old new) (sym is) (refused_so fault other done)

    module _ (reply : Reply) (crash : LeavesKeptOrAll (log_of new) old new) (start : start_of new ≡ start_of old)
        (adds : AddsCommand who command reply (log_of old) (log_of new) (table_of old) (table_of new)) where
      with_entry : LeavesKeptOrAll (log_of old ++ command_entry who command reply ∷ []) old new
      with_entry = crash_with old new (log_of new) (command_entry who command reply ∷ []) adds.entry crash

      failed_so : (fault : BookFault) → fault ≡ Device → kept_of new ≡ kept_of old → is_broken old ≡ false → is_broken new ≡ true → StepsByCommand who command (Err fault) old new
      failed_so fault device kept was broke = record {
        answered = tt;
        failed = λ _. (reply, record { page = (record { start = start; adds = adds }, kept, was, broke); broken = λ _. broke; crash = with_entry });
        refused = λ _ other. absurd (other (ap (λ (f : BookFault). Err f) device));
      }

      -- the disk fails at it
      pub command_failed : (result : Result Reply BookFault) (fault : BookFault) → result ≡ Err fault → fault ≡ Device → kept_of new ≡ kept_of old → is_broken old ≡ false → is_broken new ≡ true
          → StepsByCommand who command result old new
      command_failed result fault is device kept was broke =
          subst (λ (r : Result Reply BookFault). StepsByCommand who command r old new) (sym is) (failed_so fault device kept was broke)

      -- it is answered
      pub command_answered : kept_of new ≡ length (log_of new) → is_broken old ≡ false → is_broken new ≡ false → StepsByCommand who command (Ok reply) old new
      command_answered kept was whole = record {
        answered = record {
          page = (record { start = start; adds = adds }, kept, whole);
          broken = λ broke. absurd (both_ways (is_broken old) was broke);
          crash = with_entry;
        };
        failed = λ device. absurd (device-not-ok reply device);
        refused = λ err. absurd (err-not-ok reply err);
      }

      -- it is taken, and not kept yet
      pub command_taken : kept_of new ≡ kept_of old → is_broken old ≡ false → is_broken new ≡ false → StepsByTake who command (Ok reply) old new
      command_taken kept was whole = record {
        taken = inl (record {
          page = (record { start = start; adds = adds }, kept, whole);
          broken = λ broke. absurd (both_ways (is_broken old) was broke);
          crash = with_entry;
        });
        refused = λ err. absurd (err-not-ok reply err);
      }

      -- it is answered as it stands
      pub command_idle : kept_of new ≡ length (log_of new) → is_broken old ≡ false → is_broken new ≡ false → StepsByTake who command (Ok reply) old new
      command_idle kept was whole = record {
        taken = inr (command_answered kept was whole).answered;
        refused = λ err. absurd (err-not-ok reply err);
      }

    -- it isn't taken
    pub take_refused : (result : Result Reply BookFault) (fault : BookFault) → result ≡ Err fault → IsCall stays old new → StepsByTake who command result old new
    take_refused result fault is done = subst (λ (r : Result Reply BookFault). StepsByTake who command r old new) (sym is) (record { taken = tt; refused = λ _. done })

-- the book is broken, or its log is full
pub full_or_broken : (fault : BookFault) → (fault ≢ Broken → fault ≡ LogFull) → ¬ (fault ≡ Device)
full_or_broken Device told device = let never : Device ≡ LogFull = told (λ same. cc) in cc
full_or_broken fault told device = let never : fault ≡ Device = device in cc
