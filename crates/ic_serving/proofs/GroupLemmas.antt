-- Commands that are taken one after the other, and kept at once.
use Rattle.std.proofs.Common.{◌≡◌, ◌⊎◌, inl, inr, ℕ, ◌+◌, ◌-◌, ◌≤◌, List, [], ◌∷◌, ◌++◌, Bool, true, false, Option, None, Some, Result, Ok, Err, length, map, refl, sym, ap, ap₂, subst, ◌∙◌, arith, append-nil, append_assoc, length-append}
use Rattle.std.specs.Prelude.{IsTrue, is_ok}
use Rattle.std.specs.Result.{IsErrAnd}
use Rattle.std.specs.List.{AllByRecursion}
use Rattle.std.specs.Io.KnownBytes.{prepend_known}
use Rattle.std.proofs.lemmas.List.{map-append}
use Rattle.std.proofs.lemmas.List.Sums.{fold-append}
use Rattle.ic_disk.specs.declared.disk.Disk.{Ghosts}
use Rattle.ic_disk.specs.Images.{Within}
use Rattle.ic_disk.specs.Time.{LeavesOnly, LeftSince}
use Rattle.ic_frames.specs.Fields.{IsMade}
use Rattle.ic_text.specs.declared.limits.TheConstants.{MAX_TEXT}
use Rattle.ic_jobs.specs.Job.{JobParts}
use Rattle.ic_jobs.specs.declared.command.Command.{Command}
use Rattle.ic_jobs.specs.declared.reply.Reply.{Reply}
use Rattle.ic_jobs.specs.declared.event.Event.{Event}
use Rattle.ic_jobs.specs.declared.event.Event.TheVariants.{Command as by_command}
use Rattle.ic_jobs.specs.History.{table_after, replay}
use Rattle.ic_commands.specs.LineText.{ReadsLine}
use Rattle.ic_commands.specs.declared.line.Line.TheVariants.{Command as Asks}
use Rattle.ic_lines.specs.Answers.{Reading, answer, after_line}
use Rattle.ic_lines.specs.Lines.{lines}
use Rattle.ic_lines.specs.Taking.{BufferParts, IsFed, TakesLine, to_come}
use Rattle.ic_lines.specs.Turns.{after_events}
use Rattle.ic_book.specs.declared.book.Book.{Book}
use Rattle.ic_book.specs.Book.{start_of, log_of, table_of, kept_of, disk_of, keeper_of, IsUnchanged}
use Rattle.ic_book.specs.ByCalls.{IsByCalls}
use Rattle.ic_book.specs.Entries.{command_entry}
use Rattle.ic_book.specs.Left.{HoldsKeptOrAll}
use Rattle.ic_book.specs.Moves.{Move, answers, takes}
use Rattle.ic_book.specs.Weight.{weigh, weight_of}
use Rattle.ic_book.specs.lemmas.Weights.{weigh_both}
use Rattle.ic_book.specs.lemmas.Chains.{by_calls_then, then_moves}
use Rattle.ic_serving.specs.Answered.{AreTaken, AskFor, IsTaken}
use Rattle.ic_serving.specs.Booked.{last_kept, unkept_of, Begins, StaysPut}
use Rattle.ic_serving.specs.Grown.{GoesOn, HasRoom, IsSamePage}
use Rattle.ic_serving.specs.Moments.{IsKeptOrNow, Leaves}
use Rattle.ic_serving.specs.Parts.{IsKeptWithin}
use Rattle.ic_serving.specs.inner.Group.{ArePassed, HaveCome, TakesLines, TakesReady, asked}
use Rattle.ic_serving.specs.lemmas.Leaving.{leaves_more, leaves_nothing, leaves_then}
use Rattle.ic_serving.proofs.PageLemmas.{goes_none, goes_same, goes_then, room_both, room_then, weighs_after, within_all}
use Rattle.ic_serving.proofs.RunLemmas.{kept_longer, kept_same}
use Rattle.ic_serving.proofs.StopLemmas.{kept_or_all, leaves_command, leaves_still}
use Rattle.ic_serving.proofs.TakeLemmas.{Taken, taken_begins, taken_by, taken_goes, taken_table}

-- ---- lines that were ready

pub takes_lines : (ls more : List (List ℕ)) (a b c : Option (List ℕ)) → TakesLines ls a b → TakesLines more b c → TakesLines (ls ++ more) a c
takes_lines ls more None b c p q = tt
takes_lines ls more (Some x) None c p q = absurd p
takes_lines ls more (Some x) (Some y) None p q = absurd q
takes_lines ls more (Some x) (Some y) (Some z) p q = p ∙ ap (λ xs. ls ++ xs) q ∙ sym (append_assoc ls more (lines z))

takes_none : (a : Option (List ℕ)) → TakesLines [] a a
takes_none None = tt
takes_none (Some x) = refl

takes_one : (line : List ℕ) (a b : Option (List ℕ)) → TakesLine line a b → TakesLines (line ∷ []) a b
takes_one line None b p = tt
takes_one line (Some x) None p = absurd p
takes_one line (Some x) (Some y) p = p

short_then : (a b : List (List ℕ)) → AllByRecursion (λ line. length line ≤ MAX_TEXT) a → AllByRecursion (λ line. length line ≤ MAX_TEXT) b
    → AllByRecursion (λ line. length line ≤ MAX_TEXT) (a ++ b)
short_then [] b p q = q
short_then (l ∷ ls) b p q = (p.0, short_then ls b p.1 q)

pub passed_none : (b : BufferParts) → ArePassed [] b b
passed_none b = record { passed = λ text. takes_none (to_come b text); short = tt }

pub passed_one : (line : List ℕ) (a b : BufferParts) → ((text : Option (List ℕ)) → TakesLine line (to_come a text) (to_come b text)) → length line ≤ MAX_TEXT → ArePassed (line ∷ []) a b
passed_one line a b taking short = record { passed = λ text. takes_one line (to_come a text) (to_come b text) (taking text); short = (short, tt) }

pub passed_then : (ls more : List (List ℕ)) (a b c : BufferParts) → ArePassed ls a b → ArePassed more b c → ArePassed (ls ++ more) a c
passed_then ls more a b c p q = record {
  passed = λ text. takes_lines ls more (to_come a text) (to_come b text) (to_come c text) (p.passed text) (q.passed text);
  short = short_then ls more p.short q.short;
}

pub asks_then : (ls more : List (List ℕ)) (cs ds : List Command) → AskFor ls cs → AskFor more ds → AskFor (ls ++ more) (cs ++ ds)
asks_then [] more [] ds a b = b
asks_then [] more (c ∷ cs) ds a b = absurd a
asks_then (l ∷ ls) more [] ds a b = absurd a
asks_then (l ∷ ls) more (c ∷ cs) ds a b = (a.0, asks_then ls more cs ds a.1 b)

-- ---- events that have come

kept_then : (t kept : List JobParts) (es more : List Event) (u w v : List JobParts) → u ≡ after_events t es → IsKeptWithin t kept es w → IsKeptWithin u w more v
    → IsKeptWithin t kept (es ++ more) v
kept_then t kept es more u w v is within (inl same) = subst (IsKeptWithin t kept (es ++ more)) (sym same) (kept_longer t kept es more w within)
kept_then t kept es more u w v is within (inr part) = inr (record {
  front = es ++ part.front;
  rest = part.rest;
  parted = ap (λ (xs : List Event). es ++ xs) part.parted ∙ sym (append_assoc es part.front part.rest);
  leaves = part.leaves ∙ ap (λ (y : List JobParts). after_events y part.front) is ∙ sym (fold-append table_after t es part.front);
})

module _ {D : Type 0} {ghosts : Ghosts D} where
  pub come_none : {limit : ℕ} (book : Book D ghosts)
      → ((file : List ℕ) → LeftSince (ghosts.left (disk_of book)) (ghosts.clock (disk_of book)) file → ghosts.image (disk_of book) file)
      → (IsTrue (ghosts.keeps (disk_of book)) → Within (ghosts.image (disk_of book)) IsMade → Within (ghosts.image (disk_of book)) (HoldsKeptOrAll (start_of book) (log_of book) (kept_of book)))
      → replay (start_of book) (log_of book) ≡ table_of book → IsByCalls book book → HaveCome limit [] book book
  come_none book images either replayed done = record {
    table = refl;
    kept = inl refl;
    page = λ room. goes_none book;
    crash = leaves_nothing book (IsKeptWithin (table_of book) (last_kept book) []) images either replayed done
        (inl refl) (inr (record { front = []; rest = []; parted = refl; leaves = refl }));
  }

  pub come_same : {limit : ℕ} (es : List Event) (old mid new : Book D ghosts) → HaveCome limit es old mid → IsUnchanged mid new → IsByCalls mid new → HaveCome limit es old new
  come_same es old mid new c u done =
      let same : last_kept new ≡ last_kept mid = kept_same (start_of mid) (start_of new) (log_of mid) (log_of new) (kept_of mid) (kept_of new) u.same_start u.same_log u.same_kept in
      record {
        table = u.same_table ∙ c.table;
        kept = subst (IsKeptWithin (table_of old) (last_kept old) es) (sym same) c.kept;
        page = λ room. goes_same es old mid new (c.page room) (record { start = u.same_start; log = u.same_log });
        crash = leaves_still old mid new (IsKeptWithin (table_of old) (last_kept old) es) c.crash u.same_keeper done;
      }

  pub come_then : {limit : ℕ} (es more : List Event) (old mid new : Book D ghosts) → HaveCome limit es old mid → HaveCome limit more mid new → HaveCome limit (es ++ more) old new
  come_then {limit} es more old mid new a b = record {
    table = b.table ∙ ap (λ (y : List JobParts). after_events y more) a.table ∙ sym (fold-append table_after (table_of old) es more);
    kept = kept_then (table_of old) (last_kept old) es more (table_of mid) (last_kept mid) (last_kept new) a.table a.kept b.kept;
    page = λ room.
        let both = weigh_both es more in
        let first : HasRoom limit es old = room_both (weight_of (log_of old)) (weigh (es ++ more)) (weigh es) (weigh more) room both in
        let goes = a.page first in
        let second : HasRoom limit more mid =
        room_then (weight_of (log_of old)) (weigh (es ++ more)) (weigh es) (weigh more) (weight_of (log_of mid)) room both (weighs_after es old mid goes) in
        goes_then es more old mid new goes (b.page second);
    crash = leaves_then old mid new (IsKeptWithin (table_of old) (last_kept old) (es ++ more)) (IsKeptWithin (table_of mid) (last_kept mid) more)
        (leaves_more old mid (IsKeptWithin (table_of old) (last_kept old) es) (IsKeptWithin (table_of old) (last_kept old) (es ++ more)) a.crash
        (λ u within. kept_longer (table_of old) (last_kept old) es more u within))
        b.crash (λ u within. kept_then (table_of old) (last_kept old) es more (table_of mid) (last_kept mid) u a.table a.kept within);
  }

  -- they are begun
  pub come_begins : {limit : ℕ} (es : List Event) (old new : Book D ghosts) → HaveCome limit es old new → Begins limit es old new
  come_begins es old new c = record {
    table = record { front = es; rest = []; parted = sym (append-nil es); leaves = c.table };
    kept = c.kept;
    page = λ room. within_all es old new (c.page room);
  }

  -- a keep comes after them, or is refused
  pub come_kept : {limit : ℕ} (es : List Event) (old mid new : Book D ghosts) → HaveCome limit es old mid → table_of new ≡ table_of mid
      → (last_kept new ≡ last_kept mid) ⊎ (last_kept new ≡ table_of mid) → IsSamePage mid new → Leaves mid new (IsKeptOrNow mid) → HaveCome limit es old new
  come_kept es old mid new c table kept same step = record {
    table = table ∙ c.table;
    kept = kept_or_all (table_of old) (last_kept old) es (table_of mid) (last_kept mid) (last_kept new) c.table c.kept kept;
    page = λ room. goes_same es old mid new (c.page room) same;
    crash = leaves_then old mid new (IsKeptWithin (table_of old) (last_kept old) es) (IsKeptOrNow mid) c.crash step
        (λ u either. kept_or_all (table_of old) (last_kept old) es (table_of mid) (last_kept mid) u c.table c.kept either);
  }

  -- a command is taken
  pub come_taken : {limit : ℕ} (command : Command) (reply : Reply) (book new : Book D ghosts)
      → ((file : List ℕ) → LeftSince (ghosts.left (disk_of book)) (ghosts.clock (disk_of book)) file → ghosts.image (disk_of book) file)
      → (IsTrue (ghosts.keeps (disk_of book)) → Within (ghosts.image (disk_of book)) IsMade → Within (ghosts.image (disk_of book)) (HoldsKeptOrAll (start_of book) (log_of book) (kept_of book)))
      → replay (start_of book) (log_of book) ≡ table_of book → IsByCalls book book → kept_of book ≤ length (log_of book)
      → replay (start_of new) (log_of new) ≡ table_of new → Taken command reply book new
      → ghosts.keeps (disk_of new) ≡ ghosts.keeps (disk_of book) → (IsTrue (ghosts.keeps (disk_of book)) → Within (ghosts.image (disk_of book)) IsMade → Within (ghosts.image (disk_of new)) IsMade)
      → (IsTrue (ghosts.keeps (disk_of book)) → Within (ghosts.image (disk_of book)) IsMade
      → LeavesOnly ghosts.clock ghosts.left (disk_of book) (disk_of new) (HoldsKeptOrAll (start_of book) (log_of new) (kept_of book)))
      → HaveCome limit (by_command command ∷ []) book new
  come_taken {limit} command reply book new images either replayed done within replayed_new is keeps made run =
      let put : StaysPut limit book book = record { table = refl; kept = inl refl; page = λ room. record { start = refl; log = refl } } in
      let idle = leaves_nothing book (IsKeptOrNow book) images either replayed done (inl refl) (inr refl) in
      let goes = taken_goes command reply book new is in
      record {
        table = taken_table command reply book book new refl is;
        kept = (taken_begins command reply book book new put within replayed_new is).kept;
        page = λ room. record { entries = command_entry 0 command reply ∷ []; start = goes.start; log = goes.adds.entry; events = refl; senders = (refl, tt) };
        crash = leaves_command book book new command reply idle put replayed within goes.adds keeps made run (taken_by command reply book new is);
      }

  -- ---- commands that are taken in turn

  -- after calls that leave the table
  pub taken_after : (cs : List Command) (bytes : List ℕ) (first mid last : Book D ghosts) → table_of mid ≡ table_of first → IsByCalls first mid → AreTaken cs bytes mid last
      → AreTaken cs bytes first last
  taken_after [] bytes first mid last same done x = (x.0, x.1 ∙ same, by_calls_then first mid last done x.2)
  taken_after (c ∷ cs) bytes first mid last same done x =
      let t = x.4 in (
        x.0,
        x.1,
        x.2,
        x.3,
        record {
          reply = t.reply;
          text = t.text;
          done = by_calls_then first mid x.0 done t.done;
          earlier = t.earlier ++ done.moves;
          last = last_after (takes 0 c t.reply) (answers 0 c t.reply) t.earlier first mid x.0 done t.done t.last;
          answer = t.answer ∙ ap (λ (y : List JobParts). answer y (Ok (Asks c))) same;
          table = t.table ∙ ap (λ (y : List JobParts). after_line y (Ok (Asks c))) same;
        },
        x.5,
      )
    where
      last_after : (a b : Move) (earlier : List Move) (old between new : Book D ghosts) (before : IsByCalls old between) (is : IsByCalls between new)
          → (is.moves ≡ a ∷ earlier) ⊎ (is.moves ≡ b ∷ earlier)
          → ((by_calls_then old between new before is).moves ≡ a ∷ (earlier ++ before.moves)) ⊎ ((by_calls_then old between new before is).moves ≡ b ∷ (earlier ++ before.moves))
      last_after a b earlier old between new before is (inl same) = inl (then_moves old between new before is ∙ ap (λ (ms : List Move). ms ++ before.moves) same)
      last_after a b earlier old between new before is (inr same) = inr (then_moves old between new before is ∙ ap (λ (ms : List Move). ms ++ before.moves) same)

  pub taken_then : (cs ds : List Command) (a b : List ℕ) (first mid last : Book D ghosts) → AreTaken cs a first mid → AreTaken ds b mid last → AreTaken (cs ++ ds) (a ++ b) first last
  taken_then [] ds a b first mid last x y =
      subst (λ (bytes : List ℕ). AreTaken ds bytes first last) (sym (ap (λ (xs : List ℕ). xs ++ b) x.0)) (taken_after ds b first mid last x.1 x.2 y)
  taken_then (c ∷ cs) ds a b first mid last x y = (
    x.0,
    x.1,
    x.2 ++ b,
    ap (λ (xs : List ℕ). xs ++ b) x.3 ∙ append_assoc x.1 x.2 b,
    x.4,
    taken_then cs ds x.2 b x.0 mid last x.5 y,
  )

  pub taken_one : (c : Command) (bytes : List ℕ) (old new : Book D ghosts) → IsTaken c bytes old new → IsByCalls new new → AreTaken (c ∷ []) bytes old new
  taken_one c bytes old new is idle = (new, bytes, [], sym (append-nil bytes), is, (refl, refl, idle))

  -- ---- of lines that were ready

  pub ready_none : {limit : ℕ} (well : Bool) (buffer : BufferParts) (said : List ℕ) (count : ℕ) (old new : Book D ghosts) → HaveCome limit [] old new → keeper_of new ≡ keeper_of old
      → unkept_of new ≤ unkept_of old → TakesReady limit 0 well buffer buffer said said count count old new
  ready_none well buffer said count old new come keeper unkept = record {
    commands = [];
    ls = [];
    asks = tt;
    took = passed_none buffer;
    few = omega arith;
    come = come;
    keeper = keeper;
    unkept = omega (arith, unkept);
    counted = λ is. omega arith;
    taken = λ is. ([], sym (append-nil said), (refl, come.table, come.crash.done));
  }

  pub ready_more : {limit : ℕ} (m n : ℕ) (b w : Bool) (before after : BufferParts) (x y : List ℕ) (k l : ℕ) (old new : Book D ghosts) → TakesReady limit m b before after x y k l old new
      → m ≤ n → (w ≡ true → b ≡ true) → TakesReady limit n w before after x y k l old new
  ready_more m n b w before after x y k l old new r more well = record {
    commands = r.commands;
    ls = r.ls;
    asks = r.asks;
    took = r.took;
    few = (let few = r.few in omega (arith, few, more));
    come = r.come;
    keeper = r.keeper;
    unkept = r.unkept;
    counted = λ is. r.counted (well is);
    taken = λ is. r.taken (well is);
  }

  pub ready_then : {limit : ℕ} (m n : ℕ) (w : Bool) (a b c : BufferParts) (x y z : List ℕ) (k l n' : ℕ) (old mid new : Book D ghosts) → TakesReady limit m true a b x y k l old mid
      → TakesReady limit n w b c y z l n' mid new → TakesReady limit (m + n) w a c x z k n' old new
  ready_then {limit} m n w a b c x y z k l n' old mid new r s = record {
    commands = r.commands ++ s.commands;
    ls = r.ls ++ s.ls;
    asks = asks_then r.ls s.ls r.commands s.commands r.asks s.asks;
    took = passed_then r.ls s.ls a b c r.took s.took;
    few = (let p = r.few in let q = s.few in omega (arith, p, q, length-append r.ls s.ls));
    come = subst (λ (es : List Event). HaveCome limit es old new) (sym (map-append by_command r.commands s.commands))
        (come_then (asked r.commands) (asked s.commands) old mid new r.come s.come);
    keeper = s.keeper ∙ r.keeper;
    unkept = (let p = r.unkept in let q = s.unkept in omega (arith, p, q, length-append r.ls s.ls));
    counted = λ is. (let p = r.counted refl in let q = s.counted is in omega (arith, p, q, length-append r.ls s.ls));
    taken = λ is.
        let p = r.taken refl in
        let q = s.taken is in (
          p.0 ++ q.0,
          q.1 ∙ ap (λ (xs : List ℕ). xs ++ q.0) p.1 ∙ append_assoc x p.0 q.0,
          taken_then r.commands s.commands p.0 q.0 old mid new p.2 q.2,
        );
  }

  -- one that is taken
  pub ready_one : {limit : ℕ} (well : Bool) (command : Command) (line : List ℕ) (before after : BufferParts) (said said_then : List ℕ) (count count_then : ℕ) (old new : Book D ghosts)
      → ReadsLine line (Ok (Asks command)) → ((text : Option (List ℕ)) → TakesLine line (to_come before text) (to_come after text)) → length line ≤ MAX_TEXT
      → HaveCome limit (by_command command ∷ []) old new → keeper_of new ≡ keeper_of old → unkept_of new ≤ unkept_of old + 1
      → (well ≡ true → (count_then ≡ count + 1) × ((own : List ℕ) × (said_then ≡ said ++ own) × IsTaken command own old new)) → IsByCalls new new
      → TakesReady limit 1 well before after said said_then count count_then old new
  ready_one well command line before after said said_then count count_then old new reads taking short come keeper unkept done idle = record {
    commands = command ∷ [];
    ls = line ∷ [];
    asks = (reads, tt);
    took = passed_one line before after taking short;
    few = omega arith;
    come = come;
    keeper = keeper;
    unkept = omega (arith, unkept);
    counted = λ is. (let n = (done is).0 in omega (arith, n));
    taken = λ is. (let own = (done is).1 in (own.0, own.1, taken_one command own.0 old new own.2 idle));
  }

pub err_not_ok : {T E : Type 0} (r : Result T E) (P : E → Type 0) → IsErrAnd r P → is_ok r ≡ true → ⊥
err_not_ok (Ok v) P is ok = absurd is
err_not_ok (Err e) P is ok = let bad : false ≡ true = ok in cc
