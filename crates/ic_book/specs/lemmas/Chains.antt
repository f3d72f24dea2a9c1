-- Lemmas: calls of a book, one after the other, as moves of a server.
use Rattle.std.proofs.Common.{◌≡◌, ⊎_elim, Result, ℕ, ◌<◌, ◌≤◌, List, [], ◌∷◌, ◌++◌, refl, sym, ap, subst, ◌∙◌, append_assoc, arith}
use Rattle.std.proofs.lemmas.Bool.{cases_lt}
use Rattle.ic_disk.specs.declared.disk.Disk.{Ghosts}
use Rattle.ic_jobs.specs.declared.command.Command.{Command}
use Rattle.ic_jobs.specs.declared.landed.Landed.{Landed}
use Rattle.ic_jobs.specs.declared.reply.Reply.{Reply}
use Rattle.ic_book.specs.declared.book.Book.{Book}
use Rattle.ic_book.specs.declared.fault.BookFault.{BookFault}
use Rattle.ic_book.specs.Book.{disk_of}
use Rattle.ic_book.specs.Moves.{Move, answers, fails, takes, stays, stops, round_move, keep_move}
use Rattle.ic_book.specs.Server.{up, IsCall, Step}
use Rattle.ic_book.specs.ByCalls.{IsOnMadeDisk, Calls, IsByCalls, IsStoppedWithin}

module _ {D : Type 0} {ghosts : Ghosts D} where
  -- ---- one call after the other

  pub calls_join : (later earlier : List Move) (first mid last : Book D ghosts) → Calls earlier first mid → Calls later mid last → Calls (later ++ earlier) first last
  calls_join [] earlier first mid last front back = subst (λ (b : Book D ghosts). Calls earlier first b) (sym back) front
  calls_join (move ∷ later) earlier first mid last front back = (back.0, calls_join later earlier first mid back.0 front back.1, back.2)

  -- what calls leave as it was: on a made disk, what a crash might have left before the first
  pub record AreAfter (first last : Book D ghosts) : Type 0 where
    pub made : IsOnMadeDisk last
    pub later : ghosts.clock (disk_of first) ≤ ghosts.clock (disk_of last)
    pub before : (t : ℕ) (file : List ℕ) → t < ghosts.clock (disk_of first) → ghosts.left (disk_of last) t file → ghosts.left (disk_of first) t file

  pub calls_after : (moves : List Move) (first last : Book D ghosts) → Calls moves first last → IsOnMadeDisk first → AreAfter first last
  calls_after [] first last calls is = subst (λ (b : Book D ghosts). AreAfter first b) (sym calls) (record { made = is; later = omega arith; before = λ t file past left. left })
  calls_after (move ∷ moves) first last calls is =
      let so_far = calls_after moves first calls.0 calls.1 is in
      let crash = calls.2.crash in
      let run = crash.any_moment so_far.made.0 so_far.made.1 in
      record {
        made = (crash.keeps ∙ so_far.made.0, crash.made so_far.made.0 so_far.made.1);
        later = omega (arith, so_far.later, run.later);
        before = λ t file past left. so_far.before t file past (run.before t file (omega (arith, past, so_far.later)) left);
      }

  stopped_earlier : (later earlier : List Move) (first : Book D ghosts) (found : D) → IsStoppedWithin earlier first found → IsStoppedWithin (later ++ earlier) first found
  stopped_earlier later earlier first found is = record {
    earlier = is.earlier;
    move = is.move;
    later = later ++ is.later;
    parted = ap (λ (ms : List Move). later ++ ms) is.parted ∙ sym (append_assoc later is.later (is.move ∷ is.earlier));
    before = is.before;
    after = is.after;
    calls = is.calls;
    under_way = is.under_way;
    stop = is.stop;
  }

  pub stopped_later : (later earlier : List Move) (first mid : Book D ghosts) (found : D) → Calls earlier first mid → IsStoppedWithin later mid found → IsStoppedWithin (later ++ earlier) first found
  stopped_later later earlier first mid found calls is = record {
    earlier = is.earlier ++ earlier;
    move = is.move;
    later = is.later;
    parted = ap (λ (ms : List Move). ms ++ earlier) is.parted ∙ append_assoc is.later (is.move ∷ is.earlier) earlier;
    before = is.before;
    after = is.after;
    calls = calls_join is.earlier earlier first mid is.before calls is.calls;
    under_way = is.under_way;
    stop = is.stop;
  }

  pub by_calls_then : (old mid new : Book D ghosts) → IsByCalls old mid → IsByCalls mid new → IsByCalls old new
  by_calls_then old mid new first second = record {
    moves = second.moves ++ first.moves;
    calls = calls_join second.moves first.moves old mid new first.calls second.calls;
    stopped = λ is found at.
        let front = calls_after first.moves old mid first.calls is in
        let back = calls_after second.moves mid new second.calls front.made in
        ⊎_elim
        (λ past. stopped_earlier second.moves first.moves old found
        (first.stopped is found (record { keeps = at.keeps; moment = at.moment; since = at.since; left = λ file image. back.before at.moment file past (at.left file image) })))
        (λ now. stopped_later second.moves first.moves old mid found first.calls
        (second.stopped front.made found (record { keeps = at.keeps; moment = at.moment; since = now; left = at.left })))
        (cases_lt at.moment (ghosts.clock (disk_of mid)));
  }

  pub then_moves : (old mid new : Book D ghosts) (first : IsByCalls old mid) (second : IsByCalls mid new) → (by_calls_then old mid new first second).moves ≡ second.moves ++ first.moves
  unfolding by_calls_then
  then_moves old mid new first second = refl

  -- ---- one call

  one_call : (move : Move) (old new : Book D ghosts) → IsCall move old new → IsByCalls old new
  one_call move old new does = record {
    moves = move ∷ [];
    calls = (old, refl, does);
    stopped = λ is found at. record { earlier = []; move = move; later = []; parted = refl; before = old; after = new; calls = refl; under_way = does; stop = at };
  }

  does_of : (move : Move) (old new : Book D ghosts) → Step move (up old) (up new) → IsCall move old new
  does_of (stops (stops move)) old new is = absurd is
  does_of _ old new is = is

  -- nothing is done
  pub by_nothing : (book : Book D ghosts) → IsCall stays book book → IsByCalls book book
  by_nothing book does = one_call stays book book does

  -- a call is refused
  pub by_refusal : (old new : Book D ghosts) → IsCall stays old new → IsByCalls old new
  by_refusal old new does = one_call stays old new does

  -- a keep, or a new page
  pub by_keep : {T : Type 0} (result : Result T BookFault) (old new : Book D ghosts) → Step (keep_move result) (up old) (up new) → IsByCalls old new
  by_keep result old new step = one_call (keep_move result) old new (does_of (keep_move result) old new step)

  pub keep_moves : {T : Type 0} (result : Result T BookFault) (old new : Book D ghosts) (step : Step (keep_move result) (up old) (up new))
      → (by_keep result old new step).moves ≡ keep_move result ∷ []
  unfolding by_keep one_call
  keep_moves result old new step = refl

  -- a round or a halt
  pub by_round : {E : Type 0} (name : List ℕ) (reply : Reply) (result : Result Landed E) (old new : Book D ghosts)
      → Step (round_move name reply result) (up old) (up new) → IsByCalls old new
  by_round name reply result old new step = one_call (round_move name reply result) old new (does_of (round_move name reply result) old new step)

  -- ---- a command

  module _ (who : ℕ) (command : Command) (reply : Reply) (old new : Book D ghosts) where
    pub by_answer : IsCall (answers who command reply) old new → IsByCalls old new
    by_answer does = one_call (answers who command reply) old new does

    pub answer_moves : (does : IsCall (answers who command reply) old new) → (by_answer does).moves ≡ answers who command reply ∷ []
    unfolding by_answer one_call
    answer_moves does = refl

    pub by_take : IsCall (takes who command reply) old new → IsByCalls old new
    by_take does = one_call (takes who command reply) old new does

    pub by_failure : IsCall (fails who command reply) old new → IsByCalls old new
    by_failure does = one_call (fails who command reply) old new does
