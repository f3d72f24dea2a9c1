-- What a book's calls leave, over the book as one value.
use Rattle.std.proofs.Common.{◌≡◌, ◌∙◌, true, false, ℕ, ◌+◌, ◌<◌, ◌≤◌, Bool, List, Result, take, length, refl, sym, ap, subst, arith}
use Rattle.std.proofs.lemmas.List.{take_all}
use Rattle.std.specs.Prelude.{IsTrue}
use Rattle.ic_disk.specs.declared.disk.Disk.{Ghosts}
use Rattle.ic_disk.specs.Images.{Within}
use Rattle.ic_disk.specs.Time.{LeavesOnly, LeftSince}
use Rattle.ic_jobs.specs.declared.command.Command.{Command}
use Rattle.ic_jobs.specs.declared.event.Entry.{Entry}
use Rattle.ic_jobs.specs.declared.landed.Landed.{Landed}
use Rattle.ic_jobs.specs.declared.reply.Reply.{Reply}
use Rattle.ic_jobs.specs.Job.{JobParts}
use Rattle.ic_jobs.specs.Table.{IsTable}
use Rattle.ic_jobs.specs.History.{replay}
use Rattle.ic_frames.specs.Fields.{IsMade}
use Rattle.ic_slots.specs.Held.{HoldsTable, HoldsEitherTable, IsHeld, the_table}
use Rattle.ic_slots.specs.declared.keeper.Keeper.{Keeper}
use Rattle.ic_slots.specs.Keeper as keeper_parts
use Rattle.ic_book.specs.declared.book.Book.{Book}
use Rattle.ic_book.specs.declared.limits.TheConstants.{MAX_ENTRIES}
use Rattle.ic_book.specs.Book.{start_of, log_of, table_of, kept_of, keeper_of, disk_of, is_broken}
use Rattle.ic_book.specs.Entries.{AddsCommand, command_entry, round_entry}
use Rattle.ic_book.specs.Kept.{IsHistory, IsOnDisk}
use Rattle.ic_book.specs.Crashes.{LeavesKeptOrAll}
use Rattle.ic_book.specs.Left.{table_kept, HoldsKeptOrAll}
use Rattle.ic_book.specs.inner.Entering.{EntersRound}
use Rattle.ic_book.proofs.HistoryLemmas
use Rattle.ic_book.proofs.DiskLemmas

-- the table that a book has kept
abbrev pub last_kept : {D : Type 0} {ghosts : Ghosts D} → Book D ghosts → List JobParts
last_kept book = table_kept (start_of book) (log_of book) (kept_of book)

module _ {D : Type 0} {ghosts : Ghosts D} where
  -- on a made disk that keeps the model each image has P
  abbrev pub EachOnMade : (book : Book D ghosts) → (List ℕ → Type 0) → Type 0
  EachOnMade book P = IsTrue (ghosts.keeps (disk_of book)) → Within (ghosts.image (disk_of book)) IsMade → Within (ghosts.image (disk_of book)) P

  pub either_of : (book : Book D ghosts) → EachOnMade book (HoldsKeptOrAll (start_of book) (log_of book) (kept_of book))
  either_of book keeps made = DiskLemmas.either_now (ghosts.content (disk_of book)) (ghosts.image (disk_of book)) (start_of book) (log_of book) (kept_of book) (is_broken book)
      (book.on_disk keeps) book.history.sound made

  -- ---- no call to the disk

  pub still : ((disk : D) (file : List ℕ) → LeftSince (ghosts.left disk) (ghosts.clock disk) file → ghosts.image disk file) → (log : List Entry) (old new : Book D ghosts) → keeper_of new ≡ keeper_of old
      → EachOnMade old (HoldsKeptOrAll (start_of old) log (kept_of old)) → LeavesKeptOrAll log old new
  still law log old new same here =
      let disk : disk_of new ≡ disk_of old = ap (λ (k : Keeper D ghosts). keeper_parts.disk_of k) same in
      record {
        keeps = ap ghosts.keeps disk;
        made = λ _ all. subst (λ (d : D). Within (ghosts.image d) IsMade) (sym disk) all;
        any_moment = λ keeps made. subst (λ (d : D). LeavesOnly ghosts.clock ghosts.left (disk_of old) d (HoldsKeptOrAll (start_of old) log (kept_of old))) (sym disk)
            (DiskLemmas.no_call ghosts.clock ghosts.left ghosts.image (disk_of old) (HoldsKeptOrAll (start_of old) log (kept_of old)) (law (disk_of old)) (here keeps made));
      }

  -- nothing has changed
  pub unchanged : ((disk : D) (file : List ℕ) → LeftSince (ghosts.left disk) (ghosts.clock disk) file → ghosts.image disk file) → (book : Book D ghosts) → LeavesKeptOrAll (log_of book) book book
  unchanged law book = still law (log_of book) book book refl (either_of book)

  -- nothing has come to the log
  pub nothing_came : ((disk : D) (file : List ℕ) → LeftSince (ghosts.left disk) (ghosts.clock disk) file → ghosts.image disk file) → (old new : Book D ghosts) → keeper_of new ≡ keeper_of old
      → log_of new ≡ log_of old → LeavesKeptOrAll (log_of new) old new
  nothing_came law old new same log =
      still law (log_of new) old new same (subst (λ (es : List Entry). EachOnMade old (HoldsKeptOrAll (start_of old) es (kept_of old))) (sym log) (either_of old))

  -- the table that is kept stays the same
  on_disk_still : (book : Book D ghosts) (log : List Entry) (n : ℕ) → is_broken book ≡ false → table_kept (start_of book) log n ≡ last_kept book
      → IsTrue (ghosts.keeps (disk_of book)) → IsOnDisk (ghosts.content (disk_of book)) (ghosts.image (disk_of book)) (start_of book) log n (is_broken book)
  on_disk_still book log n ready same keeps = DiskLemmas.same_kept (ghosts.content (disk_of book)) (ghosts.image (disk_of book)) (start_of book) (log_of book) (kept_of book) (is_broken book)
      (book.on_disk keeps) ready (start_of book) log n same

  -- where all is kept the table that is kept is the table now
  all_is_kept : (book : Book D ghosts) → kept_of book ≡ length (log_of book) → last_kept book ≡ table_of book
  all_is_kept book all =
      ap (λ (n : ℕ). replay (start_of book) (take n (log_of book))) all ∙ ap (λ (es : List Entry). replay (start_of book) es) (take_all (length (log_of book)) (log_of book) (omega arith)) ∙ book.history.replayed

  -- reads give it
  pub held_all : (book : Book D ghosts) → is_broken book ≡ false → kept_of book ≡ length (log_of book) → IsTrue (ghosts.keeps (disk_of book))
      → IsHeld (the_table (table_of book)) (ghosts.content (disk_of book))
  held_all book ready all keeps = subst (λ (t : List JobParts). IsHeld (the_table t) (ghosts.content (disk_of book))) (all_is_kept book all) ((book.on_disk keeps).held ready)

  -- and it begins a new history
  pub begun_on_disk : (book : Book D ghosts) (start : List JobParts) (log : List Entry) → is_broken book ≡ false → kept_of book ≡ length (log_of book) → start ≡ table_of book
      → IsTrue (ghosts.keeps (disk_of book)) → IsOnDisk (ghosts.content (disk_of book)) (ghosts.image (disk_of book)) start log 0 (is_broken book)
  begun_on_disk book start log ready all is keeps =
      DiskLemmas.same_kept (ghosts.content (disk_of book)) (ghosts.image (disk_of book)) (start_of book) (log_of book) (kept_of book) (is_broken book) (book.on_disk keeps) ready start log 0
      (is ∙ sym (all_is_kept book all))

  -- ---- a round that comes: one entry more, or nothing

  -- what a book has then
  pub record Comes (book : Book D ghosts) (log : List Entry) (table : List JobParts) : Type 0 where
    pub history : IsHistory (start_of book) log table (kept_of book) (is_broken book)
    pub on_disk : IsTrue (ghosts.keeps (disk_of book)) → IsOnDisk (ghosts.content (disk_of book)) (ghosts.image (disk_of book)) (start_of book) log (kept_of book) (is_broken book)
    pub crash : EachOnMade book (HoldsKeptOrAll (start_of book) log (kept_of book))

  pub round_comes : {E : Type 0} {expected : Type 0} (book : Book D ghosts) (name : List ℕ) (reply : Reply) (result : Result Landed E) (log : List Entry) (table : List JobParts)
      → (is_broken book ≡ false) × (length (log_of book) < MAX_ENTRIES) → EntersRound (round_entry name reply) expected result (log_of book) log (table_of book) table → Comes book log table
  round_comes book name reply result log table may is =
      let e = round_entry name reply in
      let what = HistoryLemmas.entered result e (log_of book) log (table_of book) table is.moved is.same_log is.same_table in
      let same = HistoryLemmas.table_kept_entered (start_of book) (log_of book) log (table_of book) table (kept_of book) (is_broken book) e book.history may.0 may.1 (λ _. refl) what in
      record {
        history = HistoryLemmas.round_entered (start_of book) (log_of book) log (table_of book) table (kept_of book) (is_broken book) e book.history may.0 may.1 (λ _. refl) what;
        on_disk = on_disk_still book log (kept_of book) may.0 same;
        crash = λ keeps made. DiskLemmas.kept_alone (ghosts.content (disk_of book)) (ghosts.image (disk_of book)) (start_of book) (log_of book) (kept_of book) (is_broken book)
            (book.on_disk keeps) may.0 made log same;
      }

  -- ---- a keep, of what stands in the log or of a command too

  -- this log and this table are to be kept in place of what the book has kept
  pub record Stands (book : Book D ghosts) (log : List Entry) (table : List JobParts) : Type 0 where
    pub same : table_kept (start_of book) log (kept_of book) ≡ last_kept book
    pub all : replay (start_of book) log ≡ table
    pub whole : (n : ℕ) → n ≡ length log → table_kept (start_of book) log n ≡ table
    pub left : (now : Bool) → IsHistory (start_of book) log table (kept_of book) now
    pub kept : (now : Bool) (n : ℕ) → n ≡ length log → IsTable table → IsHistory (start_of book) log table n now

  pub stands_here : (book : Book D ghosts) → Stands book (log_of book) (table_of book)
  stands_here book = record {
    same = refl;
    all = book.history.replayed;
    whole = λ n count. ap (table_kept (start_of book) (log_of book)) count ∙ HistoryLemmas.table_all (start_of book) (log_of book) (table_of book) (kept_of book) (is_broken book) book.history;
    left = HistoryLemmas.broke_now (start_of book) (log_of book) (table_of book) (kept_of book) (is_broken book) book.history;
    kept = λ now n count sound. subst (λ (k : ℕ). IsHistory (start_of book) (log_of book) (table_of book) k now) (sym count)
        (HistoryLemmas.all_kept (start_of book) (log_of book) (table_of book) (kept_of book) (is_broken book) book.history now sound);
  }

  module _ (book : Book D ghosts) (who : ℕ) (command : Command) (reply : Reply) (log : List Entry) (table : List JobParts)
      (may : (is_broken book ≡ false) × (length (log_of book) < MAX_ENTRIES)) (adds : AddsCommand who command reply (log_of book) log (table_of book) table) where
    pub stands_added : Stands book log table
    stands_added =
        let e = command_entry who command reply in
        let sent = HistoryLemmas.command_sent who command reply in
        record {
          same = HistoryLemmas.table_kept_after (start_of book) (log_of book) log (table_of book) table (kept_of book) (is_broken book) e book.history may.0 adds may.1 sent;
          all = HistoryLemmas.replayed_after (start_of book) (log_of book) log (table_of book) table (kept_of book) (is_broken book) e book.history may.0 adds may.1 sent;
          whole = HistoryLemmas.table_all_after (start_of book) (log_of book) log (table_of book) table (kept_of book) (is_broken book) e book.history may.0 adds may.1 sent;
          left = HistoryLemmas.unkept_after (start_of book) (log_of book) log (table_of book) table (kept_of book) (is_broken book) e book.history may.0 adds may.1 sent;
          kept = HistoryLemmas.all_kept_after (start_of book) (log_of book) log (table_of book) table (kept_of book) (is_broken book) e book.history may.0 adds may.1 sent;
        }

    -- until it is kept the disk has what was kept
    pub unkept_on_disk : IsTrue (ghosts.keeps (disk_of book)) → IsOnDisk (ghosts.content (disk_of book)) (ghosts.image (disk_of book)) (start_of book) log (kept_of book) (is_broken book)
    unkept_on_disk = on_disk_still book log (kept_of book) may.0 stands_added.same

    -- and a crash leaves it
    pub still_added : EachOnMade book (HoldsKeptOrAll (start_of book) log (kept_of book))
    still_added keeps made = DiskLemmas.kept_alone (ghosts.content (disk_of book)) (ghosts.image (disk_of book)) (start_of book) (log_of book) (kept_of book) (is_broken book)
        (book.on_disk keeps) may.0 made log stands_added.same

    pub one_longer : length log ≡ length (log_of book) + 1
    one_longer = HistoryLemmas.length_after (start_of book) (log_of book) log (table_of book) table (kept_of book) (is_broken book) (command_entry who command reply) book.history may.0 adds may.1
        (HistoryLemmas.command_sent who command reply)

    -- it leaves the table, and all was kept
    module _ (n : ℕ) (count : n ≡ length log) (stays : table ≡ table_of book) (all : kept_of book ≡ length (log_of book)) where
      pub idle_history : IsHistory (start_of book) log table n (is_broken book)
      idle_history = HistoryLemmas.idle_after (start_of book) (log_of book) log (table_of book) table (kept_of book) (is_broken book) (command_entry who command reply) book.history may.0 adds may.1
          (HistoryLemmas.command_sent who command reply) n count stays all

      pub idle_on_disk : IsTrue (ghosts.keeps (disk_of book)) → IsOnDisk (ghosts.content (disk_of book)) (ghosts.image (disk_of book)) (start_of book) log n (is_broken book)
      idle_on_disk = on_disk_still book log n may.0
          (HistoryLemmas.same_table_after (start_of book) (log_of book) log (table_of book) table (kept_of book) (is_broken book) (command_entry who command reply) book.history may.0 adds may.1
          (HistoryLemmas.command_sent who command reply) n count stays all)

  module _ (book : Book D ghosts) (log : List Entry) (table : List JobParts) (stands : Stands book log table) (keeper : Keeper D ghosts)
      (keeps : ghosts.keeps (keeper_parts.disk_of keeper) ≡ ghosts.keeps (disk_of book)) where
    -- a call to the disk has failed
    pub failed_on_disk : is_broken book ≡ false → keeper_parts.is_broken keeper ≡ true
        → ((t : List JobParts) → IsTrue (ghosts.keeps (disk_of book)) → Within (ghosts.image (disk_of book)) (IsHeld (the_table t))
        → Within (ghosts.image (keeper_parts.disk_of keeper)) IsMade → Within (ghosts.image (keeper_parts.disk_of keeper)) (HoldsEitherTable t table))
        → IsTrue (ghosts.keeps (keeper_parts.disk_of keeper))
        → IsOnDisk (ghosts.content (keeper_parts.disk_of keeper)) (ghosts.image (keeper_parts.disk_of keeper)) (start_of book) log (kept_of book) (keeper_parts.is_broken keeper)
    failed_on_disk ready broke run keeps_new =
        let is : IsTrue (ghosts.keeps (disk_of book)) = sym keeps ∙ keeps_new in
        DiskLemmas.keep_failed (ghosts.content (keeper_parts.disk_of keeper)) (ghosts.image (keeper_parts.disk_of keeper)) (start_of book) log (kept_of book) (keeper_parts.is_broken keeper) broke
        (λ all. DiskLemmas.keep_holds (ghosts.image (disk_of book)) (ghosts.image (keeper_parts.disk_of keeper)) (start_of book) (log_of book) log (kept_of book) table stands.same stands.all
        ((book.on_disk is).holds ready) (λ t held. run t is held all))

    -- all is kept
    pub kept_on_disk : (n : ℕ) → n ≡ length log
        → (IsTrue (ghosts.keeps (disk_of book)) → IsHeld (the_table table) (ghosts.content (keeper_parts.disk_of keeper)))
        → (IsTrue (ghosts.keeps (disk_of book)) → Within (ghosts.image (keeper_parts.disk_of keeper)) (HoldsTable table))
        → IsTrue (ghosts.keeps (keeper_parts.disk_of keeper))
        → IsOnDisk (ghosts.content (keeper_parts.disk_of keeper)) (ghosts.image (keeper_parts.disk_of keeper)) (start_of book) log n (keeper_parts.is_broken keeper)
    kept_on_disk n count held holds keeps_new =
        let is : IsTrue (ghosts.keeps (disk_of book)) = sym keeps ∙ keeps_new in
        DiskLemmas.kept_now (ghosts.content (keeper_parts.disk_of keeper)) (ghosts.image (keeper_parts.disk_of keeper)) (start_of book) log n (keeper_parts.is_broken keeper) table
        (stands.whole n count) (held is) (holds is)

  -- what a crash leaves of it
  pub written : (log : List Entry) (old new : Book D ghosts) (table : List JobParts) → Stands old log table → is_broken old ≡ false
      → ((disk : D) (t : ℕ) (file : List ℕ) → t ≤ ghosts.clock disk → ghosts.image disk file → LeftSince (ghosts.left disk) t file)
      → ghosts.keeps (disk_of new) ≡ ghosts.keeps (disk_of old)
      → ((t : List JobParts) → IsTrue (ghosts.keeps (disk_of old)) → Within (ghosts.image (disk_of old)) (HoldsTable t)
      → LeavesOnly ghosts.clock ghosts.left (disk_of old) (disk_of new) (HoldsEitherTable t table))
      → LeavesKeptOrAll log old new
  written log old new table stands ready law keeps run = record {
    keeps = keeps;
    made = λ is made. DiskLemmas.made_after ghosts.clock ghosts.left ghosts.image (disk_of old) (disk_of new) (start_of old) log (kept_of old)
        (λ file later there. law (disk_of new) (ghosts.clock (disk_of old)) file later there) (moment is made);
    any_moment = moment;
  }
    where
      moment : IsTrue (ghosts.keeps (disk_of old)) → Within (ghosts.image (disk_of old)) IsMade
          → LeavesOnly ghosts.clock ghosts.left (disk_of old) (disk_of new) (HoldsKeptOrAll (start_of old) log (kept_of old))
      moment is made = DiskLemmas.keep_leaves ghosts.clock ghosts.left (disk_of old) (disk_of new) (ghosts.image (disk_of old)) (start_of old) (log_of old) log (kept_of old) table stands.same stands.all
          (DiskLemmas.holds_now (ghosts.content (disk_of old)) (ghosts.image (disk_of old)) (start_of old) (log_of old) (kept_of old) (is_broken old) (old.on_disk is) ready made)
          (λ t holds. run t is holds)
