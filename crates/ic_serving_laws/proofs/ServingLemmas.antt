-- Servings and other moves, one after the other, and what they have answered.
use Rattle.std.proofs.Common.{◌≡◌, ◌⊎◌, inl, inr, append-nil, append_assoc, ℕ, ◌≤◌, List, [], ◌∷◌, ◌++◌, Option, Result, Ok, Err, refl, sym, subst}
use Rattle.std.specs.Prelude.{IsTrue}
use Rattle.ic_disk.specs.declared.disk.Disk.{Ghosts}
use Rattle.ic_disk.specs.Images.{Within}
use Rattle.ic_disk.specs.Time.{LeftSince}
use Rattle.ic_slots.specs.Held.{HoldsTable}
use Rattle.ic_jobs.specs.declared.event.Entry.{Entry}
use Rattle.ic_jobs.specs.History.{replay}
use Rattle.ic_commands.specs.declared.line.Line.TheVariants.{Blank, Command, Run}
use Rattle.ic_lines.specs.Answers.{Reading}
use Rattle.ic_book.specs.declared.book.Book.{Book}
use Rattle.ic_book.specs.Book.{table_of}
use Rattle.ic_book.specs.ByCalls.{Calls, IsByCalls}
use Rattle.ic_book.specs.Entries.{command_entry}
use Rattle.ic_book.specs.Moves.{Move, opens, refuses, answers, fails, takes, rounds, keeps, stays, closes, stops}
use Rattle.ic_book.specs.Server.{IsCall, Server, down, up, Reaches}
use Rattle.ic_serving.specs.declared.fault.ServeFault.{ServeFault}
use Rattle.ic_jobs.specs.declared.command.Command.{Command as Asked}
use Rattle.ic_jobs.specs.declared.reply.Reply.{Reply}
use Rattle.ic_serving.specs.Answered.{AreAnsweredAtOnce, AreTaken, IsDoneFor, IsGroupAnswered, by_group, by_line}
use Rattle.ic_serving.specs.InTurn.{AreAnsweredInTurn, calls_for, moves_at_once, moves_in_turn, moves_taken, reply_for, replies_at_once, replies_in_turn, replies_taken}
use Rattle.ic_serving.specs.Serving.{IsServing}
use Rattle.ic_lives.specs.Histories.{answered, taken, StandAmong, IsHistoryOf}
use Rattle.ic_serving_laws.specs.Servings.{Serving, Part, ended, stopped, other, ArePartsOf, AreMovesOf, line_moves, line_replies, answered_by}
use Rattle.ic_lives.specs.lemmas.JobLemmas.{Lives}
use Rattle.ic_lives.specs.lemmas.AmongLemmas.{answered_join, among_self, among_after, among_join, among_longer, among_trans, file_stands, table_stands}
use Rattle.ic_lives.specs.lemmas.RunLemmas.{Replays, Joins, HoldsOne, prefix_after, table_after}
use Rattle.ic_serving_laws.proofs.ServedLemmas.{reaches_more, reaches_turns, runs_join, stopped_so, turns_calls, turns_split}

-- ---- what moves have answered

-- what stands among what each of them has answered
among_moves : (es more : List Entry) (later earlier : List Move) → StandAmong es (answered earlier) → StandAmong more (answered later) → StandAmong (es ++ more) (answered (later ++ earlier))
among_moves es more later earlier first second = among_trans (es ++ more) (answered earlier ++ answered later) (answered (later ++ earlier))
    (among_join es more (answered earlier) (answered later) first second) (answered_join earlier later)

-- also with moves after them
among_earlier : (es : List Entry) (later earlier : List Move) → StandAmong es (answered earlier) → StandAmong es (answered (later ++ earlier))
among_earlier es later earlier first = among_trans es (answered earlier ++ answered later) (answered (later ++ earlier)) (among_longer es (answered earlier) (answered later) first) (answered_join earlier later)

-- what moves have answered, and what they have taken and not kept since
abbrev pub told : List Move → List Entry
told moves = answered moves ++ taken moves

told_one : (es a t : List Entry) (e : Entry) → StandAmong es (a ++ t) → StandAmong es (a ++ (t ++ e ∷ []))
told_one es a t e among = subst (StandAmong es) (append_assoc a t (e ∷ [])) (among_longer es (a ++ t) (e ∷ []) among)

told_last : (es a t : List Entry) (e : Entry) → StandAmong es (a ++ t) → StandAmong (es ++ e ∷ []) (a ++ (t ++ e ∷ []))
told_last es a t e among = subst (StandAmong (es ++ e ∷ [])) (append_assoc a t (e ∷ [])) (among_join es (e ∷ []) (a ++ t) (e ∷ []) among (among_self (e ∷ [])))

module _ {D : Type 0} {ghosts : Ghosts D} where
  -- ---- what lines have answered

  reply_among : (reading : Reading) (bytes : List ℕ) (old new : Book D ghosts) (done : IsDoneFor reading bytes old new)
      → StandAmong (reply_for reading bytes old new done) (answered (calls_for reading bytes old new done).moves)
  reply_among (Ok Blank) bytes old new done = tt
  reply_among (Ok (Command command)) bytes old new done =
      let e = command_entry 0 command done.reply in
      subst (λ (ms : List Move). StandAmong (e ∷ []) (answered ms)) (sym done.made.last)
      (among_trans (e ∷ []) (taken done.made.earlier ++ e ∷ []) (answered (answers 0 command done.reply ∷ done.made.earlier)) (among_after (taken done.made.earlier) (e ∷ []))
      (among_after (answered done.made.earlier) (taken done.made.earlier ++ e ∷ [])))
  reply_among (Ok (Run count)) bytes old new done = tt
  reply_among (Err fault) bytes old new done = tt

  -- one call more takes nothing of it away
  told_step : (move : Move) (moves : List Move) (es : List Entry) (old new : Book D ghosts) → IsCall move old new → StandAmong es (told moves) → StandAmong es (told (move ∷ moves))
  told_step (answers who command reply) moves es old new is among =
      let e = command_entry who command reply in
      subst (StandAmong es) (sym (append-nil (answered moves ++ (taken moves ++ e ∷ [])))) (told_one es (answered moves) (taken moves) e among)
  told_step (takes who command reply) moves es old new is among = told_one es (answered moves) (taken moves) (command_entry who command reply) among
  told_step keeps moves es old new is among = subst (StandAmong es) (sym (append-nil (answered moves ++ taken moves))) among
  told_step (fails who command reply) moves es old new is among = among
  told_step (rounds name reply) moves es old new is among = among
  told_step stays moves es old new is among = among
  told_step opens moves es old new is among = absurd is.page
  told_step (refuses cause) moves es old new is among = absurd is.page
  told_step closes moves es old new is among = absurd is.page
  told_step (stops move) moves es old new is among = absurd is.page

  pub told_more : (later moves : List Move) (es : List Entry) (old new : Book D ghosts) → Calls {ghosts = ghosts} later old new → StandAmong es (told moves) → StandAmong es (told (later ++ moves))
  told_more [] moves es old new calls among = among
  told_more (move ∷ later) moves es old new calls among = told_step move (later ++ moves) es calls.0 new calls.2 (told_more later moves es old calls.0 calls.1 among)

  told_taken : (command : Asked) (reply : Reply) (own earlier moves : List Move) (es : List Entry) (old new : Book D ghosts) → Calls {ghosts = ghosts} own old new
      → (own ≡ takes 0 command reply ∷ earlier) ⊎ (own ≡ answers 0 command reply ∷ earlier) → StandAmong es (told moves)
      → StandAmong (es ++ command_entry 0 command reply ∷ []) (told (own ++ moves))
  told_taken command reply own earlier moves es old new calls (inl same) among =
      let e = command_entry 0 command reply in
      let run : Calls {ghosts = ghosts} (takes 0 command reply ∷ earlier) old new = subst (λ (ms : List Move). Calls {ghosts = ghosts} ms old new) same calls in
      subst (λ (ms : List Move). StandAmong (es ++ e ∷ []) (told (ms ++ moves))) (sym same)
      (told_last es (answered (earlier ++ moves)) (taken (earlier ++ moves)) e (told_more earlier moves es old run.0 run.1 among))
  told_taken command reply own earlier moves es old new calls (inr same) among =
      let e = command_entry 0 command reply in
      let run : Calls {ghosts = ghosts} (answers 0 command reply ∷ earlier) old new = subst (λ (ms : List Move). Calls {ghosts = ghosts} ms old new) same calls in
      let all = earlier ++ moves in
      subst (λ (ms : List Move). StandAmong (es ++ e ∷ []) (told (ms ++ moves))) (sym same)
      (subst (StandAmong (es ++ e ∷ [])) (sym (append-nil (answered all ++ (taken all ++ e ∷ []))))
      (told_last es (answered all) (taken all) e (told_more earlier moves es old run.0 run.1 among)))

  taken_among : (cs : List Asked) (bytes : List ℕ) (first last : Book D ghosts) (is : AreTaken cs bytes first last) (moves : List Move) (es : List Entry) → StandAmong es (told moves)
      → StandAmong (es ++ replies_taken cs bytes first last is) (told (moves_taken cs bytes first last is ++ moves))
  taken_among [] bytes first last is moves es among =
      subst (λ (xs : List Entry). StandAmong xs (told (is.2.moves ++ moves))) (sym (append-nil es)) (told_more is.2.moves moves es first last is.2.calls among)
  taken_among (c ∷ cs) bytes first last is moves es among =
      let t = is.4 in
      let e = command_entry 0 c t.reply in
      let own = t.done.moves in
      let later = moves_taken cs is.2 is.0 last is.5 in
      let more = replies_taken cs is.2 is.0 last is.5 in
      let one = told_taken c t.reply own t.earlier moves es first is.0 t.done.calls t.last among in
      let all = taken_among cs is.2 is.0 last is.5 (own ++ moves) (es ++ e ∷ []) one in
      subst (λ (xs : List Entry). StandAmong xs (told ((later ++ own) ++ moves))) (append_assoc es (e ∷ []) more)
      (subst (λ (ms : List Move). StandAmong ((es ++ e ∷ []) ++ more) (told ms)) (sym (append_assoc later own moves)) all)

  -- before the keep of a group its commands were taken
  pub group_taken : (limit : ℕ) (ls : List (List ℕ)) (bytes : List ℕ) (old new : Book D ghosts) (g : IsGroupAnswered limit ls bytes old new)
      → StandAmong (replies_at_once limit ls bytes old new (by_group g)) (told (g.kept.earlier ++ moves_taken g.commands bytes old g.between g.taken))
  group_taken limit ls bytes old new g =
      let own = moves_taken g.commands bytes old g.between g.taken in
      let run : Calls {ghosts = ghosts} (keeps ∷ g.kept.earlier) g.between new = subst (λ (ms : List Move). Calls {ghosts = ghosts} ms g.between new) g.kept.last g.kept.done.calls in
      let first : StandAmong (replies_at_once limit ls bytes old new (by_group g)) (told own) =
      subst (λ (ms : List Move). StandAmong (replies_at_once limit ls bytes old new (by_group g)) (told ms)) (append-nil own)
      (taken_among g.commands bytes old g.between g.taken [] [] tt) in
      told_more g.kept.earlier own (replies_at_once limit ls bytes old new (by_group g)) g.between run.0 run.1 first

  at_once_among : (limit : ℕ) (ls : List (List ℕ)) (bytes : List ℕ) (old new : Book D ghosts) (is : AreAnsweredAtOnce limit ls bytes old new)
      → StandAmong (replies_at_once limit ls bytes old new is) (answered (moves_at_once limit ls bytes old new is))
  at_once_among limit ls bytes old new (by_line line one is) = reply_among is.reading bytes old new is.done
  at_once_among limit ls bytes old new (by_group g) =
      let own = moves_taken g.commands bytes old g.between g.taken in
      subst (λ (ms : List Move). StandAmong (replies_at_once limit ls bytes old new (by_group g)) (answered (ms ++ own))) (sym g.kept.last) (group_taken limit ls bytes old new g)

  replies_among : (limit : ℕ) (groups : List (List (List ℕ))) (first last : Book D ghosts) (turns : AreAnsweredInTurn limit groups first last)
      → StandAmong (replies_in_turn limit groups first last turns) (answered (moves_in_turn limit groups first last turns))
  replies_among limit [] first last turns = tt
  replies_among limit (group ∷ groups) first last turns =
      among_moves (replies_at_once limit group turns.1 first turns.0 turns.2) (replies_in_turn limit groups turns.0 last turns.3)
      (moves_in_turn limit groups turns.0 last turns.3) (moves_at_once limit group turns.1 first turns.0 turns.2)
      (at_once_among limit group turns.1 first turns.0 turns.2) (replies_among limit groups turns.0 last turns.3)

  -- ---- of parts

  -- with the first lines of a serving, and moves after them
  serving_among : (s : Serving ghosts) (es : List Entry) (later earlier moves : List Move) → StandAmong es (answered earlier) → moves ≡ later ++ (line_moves s ++ earlier)
      → StandAmong (es ++ line_replies s) (answered moves)
  serving_among s es later earlier moves first same =
      let replies = line_replies s in
      subst (λ (ms : List Move). StandAmong (es ++ replies) (answered ms)) (sym same)
      (among_earlier (es ++ replies) later (line_moves s ++ earlier)
      (among_moves es replies (line_moves s) earlier first (replies_among s.limit s.front s.old s.answering s.first_lines)))

  parts_among : (parts : List (Part ghosts)) (moves : List Move) → AreMovesOf parts moves → StandAmong (answered_by parts) (answered moves)
  parts_among [] moves are = tt
  parts_among (ended s ∷ parts) moves are = serving_among s (answered_by parts) are.2.moves are.0 moves (parts_among parts are.0 are.1) are.3
  parts_among (stopped s found ∷ parts) moves are = serving_among s (answered_by parts) are.3 are.0 moves (parts_among parts are.0 are.1) are.5
  parts_among (other more server ∷ parts) moves are =
      subst (λ (ms : List Move). StandAmong (answered_by parts ++ answered more) (answered ms)) (sym are.2)
      (among_moves (answered_by parts) (answered more) more are.0 (parts_among parts are.0 are.1) (among_self (answered more)))

  -- ---- a call is a serving

  pub call_serves : (limit : ℕ) (old new : Book D ghosts) (most : ℕ) (result : Result (Unit {0}) ServeFault) (ls : List (List ℕ)) (before after : Option (List ℕ))
      (serves : IsServing limit most result ls old new before after) (front more : List (List (List ℕ))) → serves.turns.groups ≡ front ++ more
      → (serving : Serving ghosts) × (serving.old ≡ old) × (serving.new ≡ new) × (serving.ls ≡ ls) × (serving.result ≡ result) × (serving.front ≡ front)
  call_serves limit old new most result ls before after serves front more parted =
      let between = serves.turns.between in
      let split = turns_split limit front more old between (subst (λ (xs : List (List (List ℕ))). AreAnsweredInTurn limit xs old between) parted serves.turns.answered) in (
        record {
          old = old;
          new = new;
          limit = limit;
          most = most;
          result = result;
          ls = ls;
          before = before;
          after = after;
          serves = serves;
          front = front;
          more = more;
          parted = parted;
          answering = split.0;
          first_lines = split.1;
          other_lines = split.2;
        },
        refl,
        refl,
        refl,
        refl,
        refl,
      )

  -- ---- parts are a run

  module _ (replays : Replays) (joins : Joins) (one : HoldsOne) (content_is_image : (disk : D) → ghosts.image disk (ghosts.content disk))
      (image_is_left : (disk : D) (t : ℕ) (file : List ℕ) → t ≤ ghosts.clock disk → ghosts.image disk file → LeftSince (ghosts.left disk) t file)
      (left_is_image : (disk : D) (file : List ℕ) → LeftSince (ghosts.left disk) (ghosts.clock disk) file → ghosts.image disk file) where
    later_calls : (s : Serving ghosts) → IsByCalls s.answering s.new
    later_calls s = turns_calls s.limit s.more s.answering s.serves.turns.between s.new s.other_lines s.serves.turns.after

    after_lines : (s : Serving ghosts) (moves : List Move) → Reaches moves (up s.old) → Reaches (line_moves s ++ moves) (up s.answering)
    after_lines s moves run = reaches_turns s.limit moves s.front s.old s.answering s.first_lines run

    pub parts_run : (parts : List (Part ghosts)) (first : D) (last : Server ghosts) → IsTrue (ghosts.keeps first) → Within (ghosts.image first) (HoldsTable [])
        → ArePartsOf parts (down first) last → (moves : List Move) × AreMovesOf parts moves × Reaches moves last
    parts_run [] first last model created are = ([], refl, record { disk = first; keeps = model; created = created; runs = are })
    parts_run (ended s ∷ parts) first last model created are =
        let so_far = parts_run parts first (up s.old) model created are.0 in
        let later = later_calls s in
        let moves = later.moves ++ (line_moves s ++ so_far.0) in
        let there = reaches_more (line_moves s ++ so_far.0) s.answering s.new later (after_lines s so_far.0 so_far.2) in
        (moves, (so_far.0, so_far.1, later, refl), subst (λ (server : Server ghosts). Reaches moves server) (sym are.1) there)
    parts_run (stopped s found ∷ parts) first last model created are =
        let so_far = parts_run parts first (up s.old) model created are.0 in
        let later = later_calls s in
        let at = stopped_so replays joins one content_is_image image_is_left left_is_image (line_moves s ++ so_far.0) s.answering s.new later found (after_lines s so_far.0 so_far.2) are.1 in
        let moves = at.0 ++ (line_moves s ++ so_far.0) in
        (moves, (so_far.0, so_far.1, later, at.0, at.1, refl), subst (λ (server : Server ghosts). Reaches moves server) (sym are.2) at.2)
    parts_run (other more server ∷ parts) first last model created are =
        let so_far = parts_run parts first are.0 model created are.1 in
        let run = so_far.2 in
        let there : Reaches (more ++ so_far.0) server = record {
          disk = run.disk;
          keeps = run.keeps;
          created = run.created;
          runs = runs_join more so_far.0 (down run.disk) are.0 server run.runs are.2;
        } in
        (more ++ so_far.0, (so_far.0, so_far.1, refl), subst (λ (s : Server ghosts). Reaches (more ++ so_far.0) s) (sym are.3) there)

    pub parts_open : Lives → (parts : List (Part ghosts)) (first : D) (book : Book D ghosts) → IsTrue (ghosts.keeps first) → Within (ghosts.image first) (HoldsTable [])
        → ArePartsOf parts (down first) (up book) → (moves : List Move) × AreMovesOf parts moves
        × (history : List Entry) × IsHistoryOf moves history × StandAmong (answered_by parts) history × (table_of book ≡ replay [] history)
    parts_open lives parts first book model created are =
        let run = parts_run parts first (up book) model created are in
        let told = table_stands run.0 (table_of book) (table_after replays joins one content_is_image image_is_left left_is_image lives run.0 book run.2) in
        (run.0, run.1, told.0, told.1, among_trans (answered_by parts) (answered run.0) told.0 (parts_among parts run.0 run.1) told.1.answers, told.2)

    pub parts_stopped : (parts : List (Part ghosts)) (first last : D) (file : List ℕ) → IsTrue (ghosts.keeps first) → Within (ghosts.image first) (HoldsTable [])
        → ArePartsOf parts (down first) (down last) → ghosts.image last file → (moves : List Move) × AreMovesOf parts moves
        × (history : List Entry) × IsHistoryOf moves history × StandAmong (answered_by parts) history × HoldsTable (replay [] history) file
    parts_stopped parts first last file model created are there =
        let run = parts_run parts first (down last) model created are in
        let told = file_stands joins run.0 file (prefix_after replays joins one content_is_image image_is_left left_is_image run.0 last file run.2 there) in
        (run.0, run.1, told.0, told.1, among_trans (answered_by parts) (answered run.0) told.0 (parts_among parts run.0 run.1) told.1.answers, told.2)
