-- What a server has after calls over its book, ended or stopped in their midst.
use Rattle.std.proofs.Common.{◌≡◌, ◌⊎◌, Bool, true, false, Option, Result, ℕ, ◌≤◌, List, [], ◌∷◌, ◌++◌, length, refl, sym, ap, subst, ◌∙◌, append_assoc, arith}
use Rattle.ic_disk.specs.declared.disk.Disk.{Ghosts}
use Rattle.ic_disk.specs.Time.{LeftSince}
use Rattle.ic_slots.specs.Held.{HoldsTable, the_table}
use Rattle.ic_jobs.specs.declared.command.Command.{Command}
use Rattle.ic_jobs.specs.declared.reply.Reply.{Reply}
use Rattle.ic_jobs.specs.declared.event.Entry.{Entry}
use Rattle.ic_jobs.specs.Job.{JobParts}
use Rattle.ic_jobs.specs.History.{replay}
use Rattle.ic_frames.specs.declared.faults.OpenCause.{OpenCause}
use Rattle.ic_frames.specs.declared.faults.OpenCause.TheVariants.{Device, Memory}
use Rattle.ic_book.specs.declared.book.Book.{Book}
use Rattle.ic_book.specs.Book.{table_of, log_of, kept_of, disk_of, is_broken}
use Rattle.ic_book.specs.Moves.{Move, opens, refuses, answers, fails, takes, rounds, keeps, stays, closes, stops}
use Rattle.ic_book.specs.Server.{Server, down, up, IsCall, Opens, Refuses, IsFound, Step, Runs, Reaches}
use Rattle.ic_serving.specs.declared.fault.ServeFault.{ServeFault}
use Rattle.ic_serving.specs.Booked.{IsAllKept, last_kept}
use Rattle.ic_serving.specs.Serving.{IsServing}
use Rattle.ic_serving.specs.Answered.{AreAnsweredAtOnce, AreTaken, by_group, by_line}
use Rattle.ic_serving.specs.InTurn.{AreAnsweredInTurn, AreServedInTurn, calls_for, moves_at_once, moves_in_turn, moves_taken}
use Rattle.ic_serving.specs.Stopped.{MayStand}
use Rattle.ic_book.specs.Entries.{command_entry, round_entry}
use Rattle.ic_book.specs.lemmas.Chains.{by_calls_then, then_moves}
use Rattle.ic_book.specs.lemmas.Facts.{history_of}
use Rattle.ic_book.specs.ByCalls.{Calls, IsByCalls, IsOnMadeDisk}
use Rattle.ic_lives.specs.Headline.{IsTableAfter}
use Rattle.ic_lives.specs.Histories.{IsHistoryOf}
use Rattle.ic_serving_laws.specs.Served.{IsCutShort}
use Rattle.ic_lives.specs.lemmas.JobLemmas.{Lives}
use Rattle.ic_lives.specs.lemmas.AmongLemmas.{file_stands}
use Rattle.ic_lives.specs.lemmas.RunLemmas.{Replays, Joins, HoldsOne, IsUp, reached, prefix_after, refused_so, table_after, table_in}

module _ {D : Type 0} {ghosts : Ghosts D} where
  -- ---- calls are moves

  step_of : (move : Move) (old new : Book D ghosts) → IsCall move old new → Step move (up old) (up new)
  step_of opens old new is = is
  step_of (refuses cause) old new is = is
  step_of (answers who command reply) old new is = is
  step_of (fails who command reply) old new is = is
  step_of (takes who command reply) old new is = is
  step_of (rounds name reply) old new is = is
  step_of keeps old new is = is
  step_of stays old new is = is
  step_of closes old new is = is
  step_of (stops (stops move)) old new is = absurd is.page
  step_of (stops move) old new is = is

  pub calls_run : (moves : List Move) (first last : Book D ghosts) → Calls moves first last → Runs {ghosts = ghosts} moves (up first) (up last)
  calls_run [] first last is = ap (λ (b : Book D ghosts). up b) is
  calls_run (move ∷ moves) first last is = (up is.0, calls_run moves first is.0 is.1, step_of move is.0 last is.2)

  pub runs_join : (later earlier : List Move) (first mid last : Server ghosts) → Runs earlier first mid → Runs later mid last → Runs (later ++ earlier) first last
  runs_join [] earlier first mid last front back = subst (λ (s : Server ghosts). Runs earlier first s) (sym back) front
  runs_join (move ∷ later) earlier first mid last front back = (back.0, runs_join later earlier first mid back.0 front back.1, back.2)

  pub reaches_more : (moves : List Move) (old new : Book D ghosts) (done : IsByCalls old new) → Reaches moves (up old) → Reaches (done.moves ++ moves) (up new)
  reaches_more moves old new done run = record {
    disk = run.disk;
    keeps = run.keeps;
    created = run.created;
    runs = runs_join done.moves moves (down run.disk) (up old) (up new) run.runs (calls_run done.moves old new done.calls);
  }

  -- ---- lines that were answered at once

  taken_calls : (cs : List Command) (bytes : List ℕ) (first last : Book D ghosts) (taken : AreTaken cs bytes first last)
      → (done : IsByCalls first last) × (done.moves ≡ moves_taken cs bytes first last taken)
  taken_calls [] bytes first last taken = (taken.2, refl)
  taken_calls (c ∷ cs) bytes first last taken =
      let own = taken.4.done in
      let rest = taken_calls cs taken.2 taken.0 last taken.5 in
      (by_calls_then first taken.0 last own rest.0, then_moves first taken.0 last own rest.0 ∙ ap (λ (ms : List Move). ms ++ own.moves) rest.1)

  pub at_once_calls : (limit : ℕ) (ls : List (List ℕ)) (bytes : List ℕ) (old new : Book D ghosts) (is : AreAnsweredAtOnce limit ls bytes old new)
      → (done : IsByCalls old new) × (done.moves ≡ moves_at_once limit ls bytes old new is)
  at_once_calls limit ls bytes old new (by_line line one is) = (calls_for is.reading bytes old new is.done, refl)
  at_once_calls limit ls bytes old new (by_group g) =
      let keep = g.kept.done in
      let front = taken_calls g.commands bytes old g.between g.taken in
      (by_calls_then old g.between new front.0 keep, then_moves old g.between new front.0 keep ∙ ap (λ (ms : List Move). keep.moves ++ ms) front.1)

  -- groups that were answered in turn, and what is done after some of them
  pub reaches_turns : (limit : ℕ) (moves : List Move) (groups : List (List (List ℕ))) (first last : Book D ghosts) (turns : AreAnsweredInTurn limit groups first last) → Reaches moves (up first)
      → Reaches (moves_in_turn limit groups first last turns ++ moves) (up last)
  reaches_turns limit moves [] first last turns run = subst (λ (b : Book D ghosts). Reaches moves (up b)) (sym turns) run
  reaches_turns limit moves (group ∷ groups) first last turns run =
      let done = at_once_calls limit group turns.1 first turns.0 turns.2 in
      let own = moves_at_once limit group turns.1 first turns.0 turns.2 in
      let later = moves_in_turn limit groups turns.0 last turns.3 in
      subst (λ ms. Reaches ms (up last)) (ap (λ (ms : List Move). later ++ (ms ++ moves)) done.1 ∙ sym (append_assoc later own moves))
      (reaches_turns limit (done.0.moves ++ moves) groups turns.0 last turns.3 (reaches_more moves first turns.0 done.0 run))

  -- and by themselves
  pub turns_run : (limit : ℕ) (groups : List (List (List ℕ))) (first last : Book D ghosts) (turns : AreAnsweredInTurn limit groups first last)
      → Runs {ghosts = ghosts} (moves_in_turn limit groups first last turns) (up first) (up last)
  turns_run limit [] first last turns = ap (λ (b : Book D ghosts). up b) turns
  turns_run limit (group ∷ groups) first last turns =
      let done = at_once_calls limit group turns.1 first turns.0 turns.2 in
      let later = moves_in_turn limit groups turns.0 last turns.3 in
      subst (λ (ms : List Move). Runs {ghosts = ghosts} (later ++ ms) (up first) (up last)) done.1
      (runs_join later done.0.moves (up first) (up turns.0) (up last) (calls_run done.0.moves first turns.0 done.0.calls) (turns_run limit groups turns.0 last turns.3))

  pub turns_split : (limit : ℕ) (front more : List (List (List ℕ))) (first last : Book D ghosts) → AreAnsweredInTurn limit (front ++ more) first last
      → (mid : Book D ghosts) × AreAnsweredInTurn limit front first mid × AreAnsweredInTurn limit more mid last
  turns_split limit [] more first last turns = (first, refl, turns)
  turns_split limit (group ∷ front) more first last turns =
      let rest = turns_split limit front more turns.0 last turns.3 in (rest.0, (turns.0, turns.1, turns.2, rest.1), rest.2)

  pub turns_calls : (limit : ℕ) (groups : List (List (List ℕ))) (mid last new : Book D ghosts) → AreAnsweredInTurn limit groups mid last → IsByCalls last new → IsByCalls mid new
  turns_calls limit [] mid last new turns done = subst (λ (b : Book D ghosts). IsByCalls b new) turns done
  turns_calls limit (group ∷ groups) mid last new turns done =
      by_calls_then mid turns.0 new (at_once_calls limit group turns.1 mid turns.0 turns.2).0 (turns_calls limit groups turns.0 last new turns.3 done)

  -- a stop in the midst of one
  stop_step : (move : Move) (before after : Book D ghosts) (found : D) → IsCall move before after → IsFound ghosts (disk_of before) (disk_of after) found
      → Step (stops move) (up before) (down found)
  stop_step opens before after found is here = (up after, is, here)
  stop_step (refuses cause) before after found is here = (up after, is, here)
  stop_step (answers who command reply) before after found is here = (up after, is, here)
  stop_step (fails who command reply) before after found is here = (up after, is, here)
  stop_step (takes who command reply) before after found is here = (up after, is, here)
  stop_step (rounds name reply) before after found is here = (up after, is, here)
  stop_step keeps before after found is here = (up after, is, here)
  stop_step stays before after found is here = (up after, is, here)
  stop_step closes before after found is here = (up after, is, here)
  stop_step (stops move) before after found is here = absurd is.page

  -- one more step
  pub reaches_step : (move : Move) (moves : List Move) (before after : Server ghosts) → Reaches moves before → Step move before after → Reaches (move ∷ moves) after
  reaches_step move moves before after run step = record { disk = run.disk; keeps = run.keeps; created = run.created; runs = (before, run.runs, step) }

  -- ---- stops in their midst

  module _ (replays : Replays) (joins : Joins) (one : HoldsOne) (content_is_image : (disk : D) → ghosts.image disk (ghosts.content disk))
      (image_is_left : (disk : D) (t : ℕ) (file : List ℕ) → t ≤ ghosts.clock disk → ghosts.image disk file → LeftSince (ghosts.left disk) t file)
      (left_is_image : (disk : D) (file : List ℕ) → LeftSince (ghosts.left disk) (ghosts.clock disk) file → ghosts.image disk file) where
    pub made_by : (moves : List Move) (old : Book D ghosts) → Reaches moves (up old) → IsOnMadeDisk old
    made_by moves old run =
        let there = reached replays joins one content_is_image image_is_left left_is_image moves (up old) run in
        let is : IsUp there.0 old = there.2 in (is.keeps, is.made)

    pub stopped_so : (moves : List Move) (old new : Book D ghosts) (done : IsByCalls old new) (found : D) → Reaches moves (up old) → IsFound ghosts (disk_of old) (disk_of new) found
        → (cut : List Move) × IsCutShort done.moves cut × Reaches {ghosts = ghosts} (cut ++ moves) (down found)
    stopped_so moves old new done found run here =
        let at = done.stopped (made_by moves old run) found here in (
          stops at.move ∷ at.earlier,
          record { earlier = at.earlier; move = at.move; later = at.later; parted = at.parted; stopped = refl },
          record {
            disk = run.disk;
            keeps = run.keeps;
            created = run.created;
            runs = (
              up at.before,
              runs_join at.earlier moves (down run.disk) (up old) (up at.before) run.runs (calls_run at.earlier old at.before at.calls),
              stop_step at.move at.before at.after found at.under_way at.stop,
            );
          },
        )

    pub opened_so : Lives → (moves : List Move) (old new : Book D ghosts) (done : IsByCalls old new) (found : D) (book : Book D ghosts) → Reaches moves (up old)
        → IsFound ghosts (disk_of old) (disk_of new) found → Opens found book
        → (cut : List Move) × IsCutShort done.moves cut × Reaches (opens ∷ cut ++ moves) (up book) × IsTableAfter (opens ∷ cut ++ moves) (table_of book)
    opened_so lives moves old new done found book run here call =
        let at = stopped_so moves old new done found run here in
        let next = reaches_step opens (at.0 ++ moves) (down found) (up book) at.2 call in
        (at.0, at.1, next, table_after replays joins one content_is_image image_is_left left_is_image lives (opens ∷ at.0 ++ moves) book next)

    pub refused_then : (moves : List Move) (old new : Book D ghosts) (done : IsByCalls old new) (found after : D) (cause : OpenCause) → Reaches moves (up old)
        → IsFound ghosts (disk_of old) (disk_of new) found → Refuses ghosts cause found after
        → (cut : List Move) × IsCutShort done.moves cut × Reaches {ghosts = ghosts} (refuses cause ∷ cut ++ moves) (down after) × ((cause ≡ Device) ⊎ (cause ≡ Memory))
    refused_then moves old new done found after cause run here call =
        let at = stopped_so moves old new done found run here in
        let next = reaches_step (refuses cause) (at.0 ++ moves) (down found) (down after) at.2 call in
        (at.0, at.1, next, refused_so replays joins one content_is_image image_is_left left_is_image (at.0 ++ moves) cause after next)

    -- in the words of the lines
    pub lines_stopped : (limit : ℕ) {T : Type 0} (most : ℕ) (result : Result T ServeFault) (moves : List Move) (old new : Book D ghosts) (ls : List (List ℕ)) (before after : Option (List ℕ))
        (serving : IsServing limit most result ls old new before after) (found : D) → Reaches moves (up old) → IsFound ghosts (disk_of old) (disk_of new) found
        → (cut : List Move) × IsCutShort serving.crash.done.moves cut × Reaches {ghosts = ghosts} (cut ++ moves) (down found)
        × ((file : List ℕ) → ghosts.image found file → (t : List JobParts) × HoldsTable t file × MayStand (IsAllKept old) (last_kept old) (table_of old) ls t
        × (history : List Entry) × IsHistoryOf (cut ++ moves) history × (t ≡ replay [] history))
    lines_stopped limit most result moves old new ls before after serving found run here =
        let so = stopped_so moves old new serving.crash.done found run here in (
          so.0,
          so.1,
          so.2,
          λ file image.
              let held = (serving.crash.any_moment (made_by moves old run)).each file (here.moment, here.since, here.left file image) in
              let told = file_stands joins (so.0 ++ moves) file (prefix_after replays joins one content_is_image image_is_left left_is_image (so.0 ++ moves) found file so.2 image) in
              let same : held.0 ≡ replay [] told.0 = ap table_in (one file (the_table held.0) (the_table (replay [] told.0)) held.2.held told.2.held) in
              (held.0, held.2, held.1, told.0, told.1, same),
        )

    -- after any number of answered groups
    pub turns_stopped : (limit : ℕ) (moves : List Move) (old new : Book D ghosts) (found : D)
        (most : ℕ) (all : List (List ℕ)) (served : AreServedInTurn limit most all old new) (front more : List (List (List ℕ))) → served.groups ≡ front ++ more → Reaches moves (up old)
        → (mid : Book D ghosts) × (turns : AreAnsweredInTurn limit front old mid) × (others : AreAnsweredInTurn limit more mid served.between) × (later : IsByCalls mid new)
        × Reaches (moves_in_turn limit front old mid turns ++ moves) (up mid)
        × (IsFound ghosts (disk_of mid) (disk_of new) found → (cut : List Move) × IsCutShort later.moves cut
        × Reaches {ghosts = ghosts} (cut ++ (moves_in_turn limit front old mid turns ++ moves)) (down found))
    turns_stopped limit moves old new found most all served front more parted run =
        let split = turns_split limit front more old served.between (subst (λ (xs : List (List (List ℕ))). AreAnsweredInTurn limit xs old served.between) parted served.answered) in
        let later = turns_calls limit more split.0 served.between new split.2 served.after in
        let there = reaches_turns limit moves front old split.0 split.1 run in
        (split.0, split.1, split.2, later, there, λ here. stopped_so (moves_in_turn limit front old split.0 split.1 ++ moves) split.0 new later found there here)

-- ---- a command at which the disk failed

not_both : (b : Bool) → b ≡ true → b ≡ false → ⊥
not_both b one other = let never : true ≡ false = sym one ∙ other in cc

-- it has broken the book, and its entry stands on the page and isn't kept
pub record StandsUnkept {D : Type 0} {ghosts : Ghosts D} (entry : Entry) (book : Book D ghosts) : Type 0 where
  pub broken : is_broken book ≡ true
  pub front : List Entry
  pub after : List Entry
  pub log : log_of book ≡ front ++ entry ∷ after
  pub unkept : kept_of book ≤ length front

module _ {D : Type 0} {ghosts : Ghosts D} where
  -- so it stays
  unkept_on : (entry : Entry) (move : Move) (old new : Book D ghosts) → IsCall move old new → StandsUnkept entry old → StandsUnkept entry new
  unkept_on entry (answers who command reply) old new does is = absurd (not_both (is_broken new) (does.broken is.broken) does.page.2)
  unkept_on entry (fails who command reply) old new does is = absurd (not_both (is_broken old) is.broken does.page.2)
  unkept_on entry (takes who command reply) old new does is = absurd (not_both (is_broken new) (does.broken is.broken) does.page.2)
  unkept_on entry (rounds name reply) old new does is =
      let one = round_entry name reply ∷ [] in
      record {
        broken = does.broken is.broken;
        front = is.front;
        after = is.after ++ one;
        log = does.page.0.adds.entry ∙ ap (λ (es : List Entry). es ++ one) is.log ∙ append_assoc is.front (entry ∷ is.after) one;
        unkept = omega (arith, is.unkept, does.page.1);
      }
  unkept_on entry keeps old new does is = absurd (not_both (is_broken new) (does.broken is.broken) does.page.2)
  unkept_on entry stays old new does is = record {
    broken = does.broken is.broken;
    front = is.front;
    after = is.after;
    log = does.page.0.log ∙ is.log;
    unkept = omega (arith, is.unkept, does.page.1);
  }
  unkept_on entry opens old new does is = absurd does.page
  unkept_on entry (refuses cause) old new does is = absurd does.page
  unkept_on entry closes old new does is = absurd does.page
  unkept_on entry (stops move) old new does is = absurd does.page

  module _ (who : ℕ) (command : Command) (reply : Reply) where
    failed : (old new : Book D ghosts) → IsCall (fails who command reply) old new → StandsUnkept (command_entry who command reply) new
    failed old new does = record {
      broken = does.page.3;
      front = log_of old;
      after = [];
      log = does.page.0.adds.entry;
      unkept = omega (arith, (history_of old).within, does.page.1);
    }

    unkept_after : (later earlier : List Move) (old new : Book D ghosts) → Calls (later ++ fails who command reply ∷ earlier) old new → StandsUnkept (command_entry who command reply) new
    unkept_after [] earlier old new calls = failed calls.0 new calls.2
    unkept_after (move ∷ later) earlier old new calls = unkept_on (command_entry who command reply) move calls.0 new calls.2 (unkept_after later earlier old calls.0 calls.1)

    pub failed_by : (moves later earlier : List Move) (old new : Book D ghosts) → Calls moves old new → moves ≡ later ++ fails who command reply ∷ earlier
        → StandsUnkept (command_entry who command reply) new
    failed_by moves later earlier old new calls same = unkept_after later earlier old new (subst (λ (ms : List Move). Calls {ghosts = ghosts} ms old new) same calls)

  -- after it the disk fails at no other
  once_after : (later between earlier : List Move) (who other : ℕ) (command second : Command) (reply answer : Reply) (old new : Book D ghosts)
      → ¬ Calls (later ++ fails who command reply ∷ (between ++ fails other second answer ∷ earlier)) old new
  once_after [] between earlier who other command second reply answer old new calls =
      not_both (is_broken calls.0) (unkept_after other second answer between earlier old calls.0 calls.1).broken calls.2.page.2
  once_after (move ∷ later) between earlier who other command second reply answer old new calls =
      once_after later between earlier who other command second reply answer old calls.0 calls.1

  pub once_by : (moves later between earlier : List Move) (who other : ℕ) (command second : Command) (reply answer : Reply) (old new : Book D ghosts)
      → Calls moves old new → ¬ (moves ≡ later ++ fails who command reply ∷ (between ++ fails other second answer ∷ earlier))
  once_by moves later between earlier who other command second reply answer old new calls same =
      once_after later between earlier who other command second reply answer old new (subst (λ (ms : List Move). Calls {ghosts = ghosts} ms old new) same calls)
