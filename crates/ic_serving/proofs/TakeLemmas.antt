-- A command that is taken over a book.
use Rattle.std.proofs.Common.{◌≡◌, ◌⊎◌, inl, inr, ℕ, ◌+◌, ◌≤◌, List, [], ◌∷◌, Option, Some, Ok, length, refl, sym, ap, ◌∙◌, arith}
use Rattle.std.specs.Option.{option_map_or}
use Rattle.ic_disk.specs.declared.disk.Disk.{Ghosts}
use Rattle.ic_jobs.specs.declared.command.Command.{Command}
use Rattle.ic_jobs.specs.declared.event.Event.TheVariants.{Command as by_command}
use Rattle.ic_jobs.specs.declared.reply.Reply.{Reply}
use Rattle.ic_jobs.specs.Events.{Outcome, after_command, outcome}
use Rattle.ic_jobs.specs.History.{replay, table_after}
use Rattle.ic_jobs.specs.Job.{JobParts}
use Rattle.ic_commands.specs.ReplyText.{reply_text}
use Rattle.ic_commands.specs.declared.line.Line.TheVariants.{Command as Asks}
use Rattle.ic_lines.specs.Answers.{answer, after_line}
use Rattle.ic_lines.specs.Lines.{ended}
use Rattle.ic_book.specs.declared.book.Book.{Book}
use Rattle.ic_book.specs.Book.{start_of, log_of, table_of, kept_of}
use Rattle.ic_book.specs.Entries.{command_entry}
use Rattle.ic_book.specs.Moves.{Move, answers, takes}
use Rattle.ic_book.specs.Server.{GoesOn, IsCall, Step, up}
use Rattle.ic_book.specs.ByCalls.{IsByCalls}
use Rattle.ic_serving.specs.Answered.{EndsWith, IsTaken}
use Rattle.ic_serving.specs.Booked.{last_kept, unkept_of, Begins, StaysPut}
use Rattle.ic_serving.specs.lemmas.Reaching.{kept_all}
use Rattle.ic_serving.specs.lemmas.Unkept.{none_unkept, one_unkept}
use Rattle.ic_serving.proofs.LineLemmas.{after_event, begun_kept, begun_one, kept_after}
use Rattle.ic_serving.proofs.PageLemmas.{command_goes, one_room, within_all}
use Rattle.ic_serving.proofs.TurnLemmas.{ends_then}

module _ {D : Type 0} {ghosts : Ghosts D} where
  -- it isn't kept yet, or nothing was to be kept
  abbrev pub Taken : Command → Reply → (old new : Book D ghosts) → Type 0
  Taken command reply old new = Step (takes 0 command reply) (up old) (up new) ⊎ Step (answers 0 command reply) (up old) (up new)

  one_call : (move : Move) (old new : Book D ghosts) → IsCall move old new → EndsWith move old new
  one_call move old new does = record {
    done = record {
      moves = move ∷ [];
      calls = (old, refl, does);
      stopped = λ is found at. record { earlier = []; move = move; later = []; parted = refl; before = old; after = new; calls = refl; under_way = does; stop = at };
    };
    earlier = [];
    last = refl;
  }

  module _ (command : Command) (reply : Reply) where
    pub taken_goes : (old new : Book D ghosts) → Taken command reply old new → GoesOn (command_entry 0 command reply) old new
    taken_goes old new (inl is) = is.page.0
    taken_goes old new (inr is) = is.page.0

    pub taken_by : (old new : Book D ghosts) → Taken command reply old new → IsByCalls old new
    taken_by old new (inl is) = (one_call (takes 0 command reply) old new is).done
    taken_by old new (inr is) = (one_call (answers 0 command reply) old new is).done

    pub taken_unkept : (old new : Book D ghosts) → Taken command reply old new → unkept_of new ≤ unkept_of old + 1
    taken_unkept old new (inl is) = one_unkept (log_of old) (log_of new) (command_entry 0 command reply) (kept_of old) (kept_of new) is.page.0.adds.entry is.page.1
    taken_unkept old new (inr is) = let none = none_unkept new is.page.1 in omega (arith, none)

    -- what it is answered, and the table that it leaves
    pub taken_answer : (old mid new : Book D ghosts) (bytes : List ℕ) → table_of mid ≡ table_of old → bytes ≡ ended (reply_text reply) → Taken command reply mid new
        → bytes ≡ answer (table_of old) (Ok (Asks command))
    taken_answer old mid new bytes table text is =
        let event : Some (after_command (table_of mid) command) ≡ Some (outcome (table_of new) reply) = (taken_goes mid new is).adds.event in
        let same : (after_command (table_of mid) command).reply ≡ reply = ap (λ (o : Option Outcome). option_map_or (λ (x : Outcome). x.reply) o reply) event in
        text ∙ ap (λ (r : Reply). ended (reply_text r)) (sym same) ∙ ap (λ (t : List JobParts). ended (reply_text (after_command t command).reply)) table

    pub taken_table : (old mid new : Book D ghosts) → table_of mid ≡ table_of old → Taken command reply mid new
        → table_of new ≡ after_line (table_of old) (Ok (Asks command))
    taken_table old mid new table is =
        after_event (table_of mid) (table_of new) (by_command command) reply (taken_goes mid new is).adds.event ∙ ap (λ (t : List JobParts). table_after t (by_command command)) table

    pub is_taken : (old mid new : Book D ghosts) (bytes : List ℕ) → IsByCalls old mid → table_of mid ≡ table_of old → bytes ≡ ended (reply_text reply) → Taken command reply mid new
        → IsTaken command bytes old new
    is_taken old mid new bytes first table text (inl is) =
        let e = ends_then (takes 0 command reply) old mid new first (one_call (takes 0 command reply) mid new is) in
        record {
          reply = reply;
          text = text;
          done = e.done;
          earlier = e.earlier;
          last = inl e.last;
          answer = taken_answer old mid new bytes table text (inl is);
          table = taken_table old mid new table (inl is);
        }
    is_taken old mid new bytes first table text (inr is) =
        let e = ends_then (answers 0 command reply) old mid new first (one_call (answers 0 command reply) mid new is) in
        record {
          reply = reply;
          text = text;
          done = e.done;
          earlier = e.earlier;
          last = inr e.last;
          answer = taken_answer old mid new bytes table text (inr is);
          table = taken_table old mid new table (inr is);
        }

    -- its event has come, and what was kept before is kept, or all is
    pub taken_begins : {limit : ℕ} (old mid new : Book D ghosts) → StaysPut limit old mid → kept_of mid ≤ length (log_of mid) → replay (start_of new) (log_of new) ≡ table_of new
        → Taken command reply mid new → Begins limit (by_command command ∷ []) old new
    taken_begins old mid new s within replayed (inl is) =
        let added = is.page.0.adds in
        let moved = after_event (table_of mid) (table_of new) (by_command command) reply added.event in
        let same : last_kept new ≡ last_kept mid = kept_after (start_of mid) (start_of new) (log_of mid) (log_of new) (command_entry 0 command reply) (kept_of mid) (kept_of new)
        is.page.0.start added.entry is.page.1 within in
        let b = begun_one (table_of old) (last_kept old) (by_command command) (table_of new) (last_kept new)
        (moved ∙ ap (λ y. table_after y (by_command command)) s.table) (rw same s.kept) in
        record {
          table = b.0;
          kept = b.1;
          page = λ room. within_all (by_command command ∷ []) old new (command_goes command reply old mid new (s.page (one_room old command room)) is.page.0.start added.entry);
        }
    taken_begins old mid new s within replayed (inr is) =
        let added = is.page.0.adds in
        let moved = after_event (table_of mid) (table_of new) (by_command command) reply added.event in
        let all = kept_all (start_of new) (table_of new) (log_of new) (kept_of new) replayed is.page.1 in
        let b = begun_kept (table_of old) (last_kept old) (by_command command) (table_of new) (last_kept new)
        (moved ∙ ap (λ y. table_after y (by_command command)) s.table) all in
        record {
          table = b.0;
          kept = b.1;
          page = λ room. within_all (by_command command ∷ []) old new (command_goes command reply old mid new (s.page (one_room old command room)) is.page.0.start added.entry);
        }
