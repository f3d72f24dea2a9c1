-- What stands after each list of moves: of an open book, and of a disk that will be found.
use Rattle.std.proofs.Common.{◌≡◌, ◌⊎◌, inl, inr, ⊎_elim, suc, ℕ, ◌+◌, ◌≤◌, List, [], ◌∷◌, ◌++◌, length, take, drop, refl, sym, ap, subst, ◌∙◌, arith, append_assoc}
use Rattle.std.specs.Prelude.{◌↔◌, IsTrue}
use Rattle.std.proofs.lemmas.List.{take-append-drop, take_all, length-take-le, length-append, append-nil}
use Rattle.ic_disk.specs.declared.disk.Disk.{Ghosts}
use Rattle.ic_disk.specs.Images.{Within}
use Rattle.ic_disk.specs.Time.{LeftSince}
use Rattle.ic_jobs.specs.declared.event.Entry.{Entry}
use Rattle.ic_jobs.specs.Job.{JobParts}
use Rattle.ic_jobs.specs.History.{replay, IsLegal}
use Rattle.ic_frames.specs.declared.faults.OpenCause.{OpenCause}
use Rattle.ic_frames.specs.declared.faults.OpenCause.TheVariants.{Device, NoSlot, TwoAlike, Damaged, Memory}
use Rattle.ic_frames.specs.Fields.{IsMade}
use Rattle.ic_slots.specs.Held.{Held, HoldsTable, IsHeld, the_table, no_slot, two_alike, damaged}
use Rattle.ic_slots.specs.Opening.{Says}
use Rattle.ic_book.specs.declared.book.Book.{Book}
use Rattle.ic_book.specs.Book.{start_of, log_of, table_of, kept_of, disk_of}
use Rattle.ic_book.specs.Crashes.{LeavesKeptOrAll}
use Rattle.ic_book.specs.Left.{HoldsKeptOrAll}
use Rattle.ic_book.specs.Entries.{command_entry, round_entry}
use Rattle.ic_book.specs.Moves.{Move, opens, refuses, answers, fails, takes, rounds, keeps, stays, closes, stops, brings}
use Rattle.ic_book.specs.Server.{Server, down, up, disk_in, GoesOn, StaysOnPage, TurnsPage, MakesOfPage, IsCall, Opens, Refuses, Closes, IsFound, Step, Runs, Reaches}
use Rattle.ic_book.specs.lemmas.Facts.{history_of}
use Rattle.ic_lives.specs.Past.{Past, nothing, Next, Leads, IsPast}
use Rattle.ic_lives.specs.Headline.{TellsTable, TellsFile, IsTableAfter, HoldsPrefixAfter}
use Rattle.ic_lives.specs.Looks.{Tells, AreTold}
use Rattle.ic_lives.specs.lemmas.JobLemmas.{Lives, are_iterates}

-- ---- what is known of histories and of files

abbrev pub Replays : Type 0
Replays = (t : List JobParts) (h k : List Entry) → replay t (h ++ k) ≡ replay (replay t h) k

abbrev pub Joins : Type 0
Joins = (t : List JobParts) (h k : List Entry) → IsLegal t (h ++ k) ↔ (IsLegal t h × IsLegal (replay t h) k)

abbrev pub HoldsOne : Type 0
HoldsOne = (file : List ℕ) (one other : Held) → IsHeld one file → IsHeld other file → one ≡ other

pub legal_front : Joins → (h : List Entry) (n : ℕ) → IsLegal [] h → IsLegal [] (take n h)
legal_front joins h n legal =
    let parts = (joins [] (take n h) (drop n h)).0 (subst (λ (l : List Entry). IsLegal [] l) (sym (take-append-drop n h)) legal) in parts.0

-- ---- a file that holds the table after a prefix

pub record HoldsPrefix (entries : List Entry) (lasting : ℕ) (file : List ℕ) : Type 0 where
  pub prefix : ℕ
  pub enough : lasting ≤ prefix
  pub within : prefix ≤ length entries
  pub holds : HoldsTable (replay [] (take prefix entries)) file

take_past : (front log : List Entry) (k : ℕ) → take (length front + k) (front ++ log) ≡ front ++ take k log
take_past [] log k =
    let none : length {A = Entry} [] + k ≡ k = omega arith in ap (λ (n : ℕ). take n log) none
take_past (e ∷ front) log k =
    let longer : length (e ∷ front) + k ≡ suc (length front + k) = omega arith in
    ap (λ (n : ℕ). take n (e ∷ front ++ log)) longer ∙ ap (λ (l : List Entry). e ∷ l) (take_past front log k)

-- of a page: the table after its first k entries is that after all in front of it and these
page_prefix : Replays → (front log entries : List Entry) (start : List JobParts) (lasting kept k : ℕ) (file : List ℕ)
    → start ≡ replay [] front → entries ≡ front ++ log → lasting ≤ length front + kept → kept ≤ k → k ≤ length log → HoldsTable (replay start (take k log)) file
    → HoldsPrefix entries lasting file
page_prefix replays front log entries start lasting kept k file opened all enough below within holds =
    let long : length entries ≡ length front + length log = ap length all ∙ length-append front log in
    let same : replay start (take k log) ≡ replay [] (take (length front + k) entries) =
    ap (λ (t : List JobParts). replay t (take k log)) opened ∙ sym (replays [] front (take k log))
    ∙ ap (replay []) (sym (take_past front log k) ∙ ap (take (length front + k)) (sym all)) in
    record {
      prefix = length front + k;
      enough = omega (arith, enough, below);
      within = omega (arith, long, within);
      holds = subst (λ (t : List JobParts). HoldsTable t file) same holds;
    }

kept_or_all : Replays → (front log entries : List Entry) (start : List JobParts) (lasting kept : ℕ) (file : List ℕ)
    → start ≡ replay [] front → entries ≡ front ++ log → lasting ≤ length front + kept → kept ≤ length log → HoldsKeptOrAll start log kept file
    → HoldsPrefix entries lasting file
kept_or_all replays front log entries start lasting kept file opened all enough within = ⊎_elim
    (λ first. page_prefix replays front log entries start lasting kept kept file opened all enough (omega arith) within first)
    (λ whole. page_prefix replays front log entries start lasting kept (length log) file opened all enough within (omega arith)
    (subst (λ (es : List Entry). HoldsTable (replay start es) file) (sym (take_all (length log) log (omega arith))) whole))

pub tells_file : (past : Past) (file : List ℕ) → IsLegal [] past.entries → HoldsPrefix past.entries past.lasting file → TellsFile past file
tells_file past file legal here = record { legal = legal; prefix = here.prefix; lasting = here.enough; within = here.within; holds = here.holds }

none_brought : (entries : List Entry) (lasting : ℕ) (file : List ℕ) → HoldsPrefix entries lasting file → HoldsPrefix (entries ++ []) lasting file
none_brought entries lasting file = subst (λ (es : List Entry). HoldsPrefix es lasting file) (sym (append-nil entries))

legal_none : (entries : List Entry) → IsLegal [] entries → IsLegal [] (entries ++ [])
legal_none entries = subst (λ (es : List Entry). IsLegal [] es) (sym (append-nil entries))

-- ---- of a disk

-- of a disk that will be found: each image holds the table after a prefix
pub record IsDown {D : Type 0} (ghosts : Ghosts D) (past : Past) (disk : D) : Type 0 where
  pub legal : IsLegal [] past.entries
  pub keeps : IsTrue (ghosts.keeps disk)
  pub each : (file : List ℕ) → ghosts.image disk file → HoldsPrefix past.entries past.lasting file

-- what a crash leaves in the midst of a move, from one disk to another
record IsMid {D : Type 0} (ghosts : Ghosts D) (move : Move) (past : Past) (before after : D) : Type 0 where
  legal : IsLegal [] (past.entries ++ brings move)
  each : (file : List ℕ) → LeftSince (ghosts.left after) (ghosts.clock before) file → HoldsPrefix (past.entries ++ brings move) past.lasting file

-- a move that may be stopped
abbrev MayBeStopped : Move → Type 0
MayBeStopped opens = Unit {0}
MayBeStopped (refuses cause) = Unit {0}
MayBeStopped (answers who command reply) = Unit {0}
MayBeStopped (fails who command reply) = Unit {0}
MayBeStopped (takes who command reply) = Unit {0}
MayBeStopped (rounds name reply) = Unit {0}
MayBeStopped keeps = Unit {0}
MayBeStopped stays = Unit {0}
MayBeStopped closes = Unit {0}
MayBeStopped (stops move) = ⊥

-- what a refusal says can't be so of a table
pub refuses_no_table : HoldsOne → (cause : OpenCause) (t : List JobParts) (file : List ℕ) → IsHeld (the_table t) file → Says cause file → (cause ≡ Device) ⊎ (cause ≡ Memory)
refuses_no_table one NoSlot t file held says = let never : the_table t ≡ no_slot = one file (the_table t) no_slot held says in cc
refuses_no_table one TwoAlike t file held says = let never : the_table t ≡ two_alike = one file (the_table t) two_alike held says in cc
refuses_no_table one Damaged t file held says = let never : the_table t ≡ damaged = one file (the_table t) damaged held says in cc
refuses_no_table one Device t file held says = inl refl
refuses_no_table one Memory t file held says = inr refl

abbrev pub table_in : Held → List JobParts
table_in (the_table t) = t
table_in no_slot = []
table_in two_alike = []
table_in damaged = []

module _ {D : Type 0} {ghosts : Ghosts D} where
  -- ---- what stands

  -- of an open book: its page goes on after a history, and what lasts is kept
  pub record IsUp (past : Past) (book : Book D ghosts) : Type 0 where
    pub front : List Entry
    pub legal : IsLegal [] front
    pub opened : start_of book ≡ replay [] front
    pub entries : past.entries ≡ front ++ log_of book
    pub enough : past.lasting ≤ length front + kept_of book
    pub keeps : IsTrue (ghosts.keeps (disk_of book))
    pub made : Within (ghosts.image (disk_of book)) IsMade

  abbrev pub Stands : Past → Server ghosts → Type 0
  Stands past (down disk) = IsDown ghosts past disk
  Stands past (up book) = IsUp past book

  -- a move leads from one past to another, which stands
  abbrev pub GoesTo : Move → Past → Server ghosts → Type 0
  GoesTo move past server = (new : Past) × Next move past new × Stands new server

  begun : (disk : D) → IsTrue (ghosts.keeps disk) → Within (ghosts.image disk) (HoldsTable []) → IsDown ghosts nothing disk
  begun disk model created = record {
    legal = tt;
    keeps = model;
    each = λ file there. record { prefix = 0; enough = omega arith; within = omega arith; holds = created file there };
  }

  -- ---- what a page has

  within_page : (book : Book D ghosts) → kept_of book ≤ length (log_of book)
  within_page book = (history_of book).within

  long_page : (past : Past) (book : Book D ghosts) (is : IsUp past book) → length past.entries ≡ length is.front + length (log_of book)
  long_page past book is = ap length is.entries ∙ length-append is.front (log_of book)

  module _ (joins : Joins) where
    -- the history with the page is legal
    legal_page : (past : Past) (book : Book D ghosts) (is : IsUp past book) → IsLegal [] past.entries
    legal_page past book is = subst (λ (es : List Entry). IsLegal [] es) (sym is.entries)
        ((joins [] is.front (log_of book)).1 (is.legal, subst (λ (t : List JobParts). IsLegal t (log_of book)) is.opened (history_of book).legal))

    -- also with what a call brings
    legal_brought : (past : Past) (old new : Book D ghosts) (is : IsUp past old) (more : List Entry) → start_of new ≡ start_of old → log_of new ≡ log_of old ++ more
        → IsLegal [] (past.entries ++ more)
    legal_brought past old new is more start log =
        let here : IsLegal (replay [] is.front) (log_of old ++ more) =
        subst (λ (es : List Entry). IsLegal (replay [] is.front) es) log
        (subst (λ (t : List JobParts). IsLegal t (log_of new)) (start ∙ is.opened) (history_of new).legal) in
        let all : past.entries ++ more ≡ is.front ++ (log_of old ++ more) =
        ap (λ (es : List Entry). es ++ more) is.entries ∙ append_assoc is.front (log_of old) more in
        subst (λ (es : List Entry). IsLegal [] es) (sym all) ((joins [] is.front (log_of old ++ more)).1 (is.legal, here))

    legal_same : (past : Past) (old : Book D ghosts) (is : IsUp past old) → IsLegal [] (past.entries ++ [])
    legal_same past old is = subst (λ (es : List Entry). IsLegal [] es) (sym (append-nil past.entries)) (legal_page past old is)

    pub legal_moved : (move : Move) (past : Past) (old new : Book D ghosts) (is : IsUp past old) → MakesOfPage move old new → IsLegal [] (past.entries ++ brings move)
    legal_moved (answers who command reply) past old new is page = legal_brought past old new is (command_entry who command reply ∷ []) page.0.start page.0.adds.entry
    legal_moved (fails who command reply) past old new is page = legal_brought past old new is (command_entry who command reply ∷ []) page.0.start page.0.adds.entry
    legal_moved (takes who command reply) past old new is page = legal_brought past old new is (command_entry who command reply ∷ []) page.0.start page.0.adds.entry
    legal_moved (rounds name reply) past old new is page = legal_brought past old new is (round_entry name reply ∷ []) page.0.start page.0.adds.entry
    legal_moved keeps past old new is page = legal_same past old is
    legal_moved stays past old new is page = legal_same past old is
    legal_moved opens past old new is page = absurd page
    legal_moved (refuses cause) past old new is page = absurd page
    legal_moved closes past old new is page = absurd page
    legal_moved (stops move) past old new is page = absurd page

  -- ---- calls of an open book

  -- an entry comes, and so many entries last
  grows : (move : Move) (past : Past) (old new : Book D ghosts) (is : IsUp past old) (e : Entry) (lasting : ℕ) → GoesOn e old new → LeavesKeptOrAll (log_of old ++ brings move) old new
      → Next move past (record { entries = past.entries ++ e ∷ []; lasting = lasting }) → lasting ≤ length is.front + kept_of new → GoesTo move past (up new)
  grows move past old new is e lasting goes crash next enough = (
    record { entries = past.entries ++ e ∷ []; lasting = lasting },
    next,
    record {
      front = is.front;
      legal = is.legal;
      opened = goes.start ∙ is.opened;
      entries = ap (λ (es : List Entry). es ++ e ∷ []) is.entries ∙ append_assoc is.front (log_of old) (e ∷ []) ∙ ap (λ (es : List Entry). is.front ++ es) (sym goes.adds.entry);
      enough = enough;
      keeps = crash.keeps ∙ is.keeps;
      made = crash.made is.keeps is.made;
    },
  )

  one_more : (past : Past) (old new : Book D ghosts) (is : IsUp past old) (e : Entry) → GoesOn e old new
      → length (past.entries ++ e ∷ []) ≡ length is.front + length (log_of new)
  one_more past old new is e goes =
      ap length (ap (λ (es : List Entry). es ++ e ∷ []) is.entries ∙ append_assoc is.front (log_of old) (e ∷ []) ∙ ap (λ (es : List Entry). is.front ++ es) (sym goes.adds.entry))
      ∙ length-append is.front (log_of new)

  -- the page stays, and so many entries last
  same_page : (past : Past) (lasting : ℕ) (old new : Book D ghosts) (is : IsUp past old) → LeavesKeptOrAll (log_of old ++ []) old new → StaysOnPage old new
      → lasting ≤ length is.front + kept_of new → IsUp (record { entries = past.entries; lasting = lasting }) new
  same_page past lasting old new is crash same enough = record {
    front = is.front;
    legal = is.legal;
    opened = same.start ∙ is.opened;
    entries = is.entries ∙ ap (λ (es : List Entry). is.front ++ es) (sym same.log);
    enough = enough;
    keeps = crash.keeps ∙ is.keeps;
    made = crash.made is.keeps is.made;
  }

  -- a new page is begun, and all entries last
  next_page : Replays → Joins → (past : Past) (old new : Book D ghosts) → IsUp past old → LeavesKeptOrAll (log_of old ++ []) old new → TurnsPage old new
      → IsUp (record { entries = past.entries; lasting = length past.entries }) new
  next_page replays joins past old new is crash turned = record {
    front = past.entries;
    legal = legal_page joins past old is;
    opened = turned.start ∙ sym (history_of old).replayed ∙ ap (λ (t : List JobParts). replay t (log_of old)) is.opened
        ∙ sym (replays [] is.front (log_of old)) ∙ ap (replay []) (sym is.entries);
    entries = sym (append-nil past.entries) ∙ ap (λ (es : List Entry). past.entries ++ es) (sym turned.log);
    enough = omega arith;
    keeps = crash.keeps ∙ is.keeps;
    made = crash.made is.keeps is.made;
  }

  stays_on : (past : Past) (old new : Book D ghosts) → IsUp past old → LeavesKeptOrAll (log_of old ++ []) old new → StaysOnPage old new → kept_of new ≡ kept_of old → GoesTo stays past (up new)
  stays_on past old new is crash same kept = (past, refl, same_page past past.lasting old new is crash same (omega (arith, is.enough, kept)))

  keeps_all : Replays → Joins → (past : Past) (old new : Book D ghosts) → IsUp past old → IsCall keeps old new → GoesTo keeps past (up new)
  keeps_all replays joins past old new is call = (
    record { entries = past.entries; lasting = length past.entries },
    (refl, refl),
    ⊎_elim
        (λ (same : StaysOnPage old new). same_page past (length past.entries) old new is call.crash same
        (let same_log = ap length same.log in let long = long_page past old is in omega (arith, call.page.1, same_log, long)))
        (next_page replays joins past old new is call.crash)
        call.page.0,
  )

  does : Replays → Joins → (move : Move) (past : Past) (old new : Book D ghosts) → IsUp past old → IsCall move old new → GoesTo move past (up new)
  does replays joins (answers who command reply) past old new is call =
      let e = command_entry who command reply in
      let long = one_more past old new is e call.page.0 in
      grows (answers who command reply) past old new is e (length (past.entries ++ e ∷ [])) call.page.0 call.crash (refl, refl) (omega (arith, long, call.page.1))
  does replays joins (fails who command reply) past old new is call =
      grows (fails who command reply) past old new is (command_entry who command reply) past.lasting call.page.0 call.crash (refl, refl) (omega (arith, is.enough, call.page.1))
  does replays joins (takes who command reply) past old new is call =
      grows (takes who command reply) past old new is (command_entry who command reply) past.lasting call.page.0 call.crash (refl, refl) (omega (arith, is.enough, call.page.1))
  does replays joins (rounds name reply) past old new is call =
      grows (rounds name reply) past old new is (round_entry name reply) past.lasting call.page.0 call.crash (refl, refl) (omega (arith, is.enough, call.page.1))
  does replays joins keeps past old new is call = keeps_all replays joins past old new is call
  does replays joins stays past old new is call = stays_on past old new is call.crash call.page.0 call.page.1
  does replays joins opens past old new is call = absurd call.page
  does replays joins (refuses cause) past old new is call = absurd call.page
  does replays joins closes past old new is call = absurd call.page
  does replays joins (stops move) past old new is call = absurd call.page

  -- ---- openings and closings

  module _ (replays : Replays) (joins : Joins) (one : HoldsOne) (content_is_image : (disk : D) → ghosts.image disk (ghosts.content disk))
      (image_is_left : (disk : D) (t : ℕ) (file : List ℕ) → t ≤ ghosts.clock disk → ghosts.image disk file → LeftSince (ghosts.left disk) t file)
      (left_is_image : (disk : D) (file : List ℕ) → LeftSince (ghosts.left disk) (ghosts.clock disk) file → ghosts.image disk file) where
    -- a book is opened that begins with what this file holds
    pub found_book : (past : Past) (disk : D) (book : Book D ghosts) → IsLegal [] past.entries → IsTrue (ghosts.keeps disk) → HoldsPrefix past.entries past.lasting (ghosts.content disk) → Opens disk book
        → GoesTo opens past (up book)
    found_book past disk book legal model here call =
        let found = take here.prefix past.entries in
        let long : length found ≡ here.prefix = length-take-le here.prefix past.entries here.within in
        let only = call.leaves.synced model (λ failed. cc) in (
          record { entries = found; lasting = length found },
          record { found = here.prefix; entries = refl; within = here.within; spares = here.enough; lasting = refl },
          record {
            front = found;
            legal = legal_front joins past.entries here.prefix legal;
            opened = ap table_in (one (ghosts.content disk) (the_table (start_of book)) (the_table (replay [] found)) (call.held model) here.holds.held);
            entries = sym (append-nil found) ∙ ap (λ (es : List Entry). found ++ es) (sym call.log);
            enough = omega arith;
            keeps = call.leaves.keeps ∙ model;
            made = λ file there. subst IsMade (sym (only.no_other file there)) here.holds.made;
          },
        )

    opened : (past : Past) (disk : D) (book : Book D ghosts) → IsDown ghosts past disk → Opens disk book → GoesTo opens past (up book)
    opened past disk book is call = found_book past disk book is.legal is.keeps (is.each (ghosts.content disk) (content_is_image disk)) call

    refused : (cause : OpenCause) (past : Past) (disk after : D) → IsDown ghosts past disk → Refuses ghosts cause disk after → GoesTo (refuses cause) past (down after)
    refused cause past disk after is call =
        let run = call.leaves.any_moment is.keeps in (
          past,
          refl,
          record {
            legal = is.legal;
            keeps = call.leaves.keeps ∙ is.keeps;
            each = λ file there. is.each file (run.each file (image_is_left after (ghosts.clock disk) file run.later there));
          },
        )

    -- each image of a disk that is handed out
    handed : (past : Past) (book : Book D ghosts) (disk : D) (is : IsUp past book) → Closes book disk → (file : List ℕ) → ghosts.image disk file
        → HoldsPrefix past.entries past.lasting file
    handed past book disk is call file there =
        let model : IsTrue (ghosts.keeps disk) = ap ghosts.keeps call.same ∙ is.keeps in
        let made : Within (ghosts.image disk) IsMade = subst (λ (d : D). Within (ghosts.image d) IsMade) (sym call.same) is.made in
        kept_or_all replays is.front (log_of book) past.entries (start_of book) past.lasting (kept_of book) file is.opened is.entries is.enough (within_page book)
        (call.images model made file there)

    closed : (past : Past) (book : Book D ghosts) (disk : D) → IsUp past book → Closes book disk → GoesTo closes past (down disk)
    closed past book disk is call = (
      past,
      refl,
      record {
        legal = legal_page joins past book is;
        keeps = ap ghosts.keeps call.same ∙ is.keeps;
        each = handed past book disk is call;
      },
    )

    lies : (past : Past) (disk after : D) → IsDown ghosts past disk → after ≡ disk → GoesTo stays past (down after)
    lies past disk after is same = (past, refl, subst (λ (d : D). IsDown ghosts past d) (sym same) is)

    -- ---- stops

    -- in the midst of a call of an open book
    pub left_within : (move : Move) (past : Past) (old new : Book D ghosts) → IsUp past old → IsCall move old new → (file : List ℕ)
        → HoldsKeptOrAll (start_of old) (log_of old ++ brings move) (kept_of old) file → HoldsPrefix (past.entries ++ brings move) past.lasting file
    left_within move past old new is call file holds =
        let log = log_of old ++ brings move in
        let long : length log ≡ length (log_of old) + length (brings move) = length-append (log_of old) (brings move) in
        let all : past.entries ++ brings move ≡ is.front ++ log = ap (λ (es : List Entry). es ++ brings move) is.entries ∙ append_assoc is.front (log_of old) (brings move) in
        kept_or_all replays is.front log (past.entries ++ brings move) (start_of old) past.lasting (kept_of old) file is.opened all is.enough (omega (arith, long, within_page old)) holds

    mid_call : (move : Move) (past : Past) (old new : Book D ghosts) → IsUp past old → IsCall move old new → IsMid ghosts move past (disk_of old) (disk_of new)
    mid_call move past old new is call = record {
      legal = legal_moved joins move past old new is call.page;
      each = λ file there. left_within move past old new is call file ((call.crash.any_moment is.keeps is.made).each file there);
    }

    mid : (move : Move) (past : Past) (before after : Server ghosts) → MayBeStopped move → Stands past before → Step move before after → IsMid ghosts move past (disk_in before) (disk_in after)
    mid (stops move) past before after may is call = absurd may
    mid opens past (down disk) (up book) may is call = record {
      legal = legal_none past.entries is.legal;
      each = λ file there. none_brought past.entries past.lasting file (is.each file ((call.leaves.any_moment is.keeps).each file there));
    }
    mid (refuses cause) past (down disk) (down after) may is call = record {
      legal = legal_none past.entries is.legal;
      each = λ file there. none_brought past.entries past.lasting file (is.each file ((call.leaves.any_moment is.keeps).each file there));
    }
    mid closes past (up book) (down disk) may is call = record {
      legal = legal_none past.entries (legal_page joins past book is);
      each = λ file there. none_brought past.entries past.lasting file (handed past book disk is call file
          (left_is_image disk file (subst (λ (t : ℕ). LeftSince (ghosts.left disk) t file) (ap ghosts.clock (sym call.same)) there)));
    }
    mid stays past (down disk) (down after) may is call = record {
      legal = legal_none past.entries is.legal;
      each = λ file there. none_brought past.entries past.lasting file (is.each file (left_is_image disk file (subst (λ (d : D). LeftSince (ghosts.left d) (ghosts.clock disk) file) call there)));
    }
    mid move past (up old) (up new) may is call = mid_call move past old new is call
    mid move past before after may is call = absurd call

    stopped : (move : Move) (past : Past) (before after : Server ghosts) (found : D) → MayBeStopped move → Stands past before → Step move before after
        → IsFound ghosts (disk_in before) (disk_in after) found → GoesTo (stops move) past (down found)
    stopped move past before after found may is call here =
        let m = mid move past before after may is call in (
          record { entries = past.entries ++ brings move; lasting = past.lasting },
          (refl, refl),
          record { legal = m.legal; keeps = here.keeps; each = λ file there. m.each file (here.moment, here.since, here.left file there) },
        )

    -- ---- runs

    pub step : (move : Move) (past : Past) (before after : Server ghosts) → Stands past before → Step move before after → GoesTo move past after
    step opens past (down disk) (up book) is call = opened past disk book is call
    step (refuses cause) past (down disk) (down after) is call = refused cause past disk after is call
    step closes past (up book) (down disk) is call = closed past book disk is call
    step stays past (down disk) (down after) is call = lies past disk after is call
    step (stops (stops move)) past before after is call = absurd call
    step (stops move) past (down disk) (down found) is call = stopped move past (down disk) call.0 found tt is call.1 call.2
    step (stops move) past (up book) (down found) is call = stopped move past (up book) call.0 found tt is call.1 call.2
    step move past (up old) (up new) is call = does replays joins move past old new is call
    step move past before after is call = absurd call

    -- some moves lead from a past that stands to another
    pub goes_on : (moves : List Move) (past : Past) (first last : Server ghosts) → Stands past first → Runs moves first last → (new : Past) × Leads moves past new × Stands new last
    goes_on [] past first last is runs = (past, refl, subst (λ (s : Server ghosts). Stands past s) (sym runs) is)
    goes_on (move ∷ moves) past first last is runs =
        let so_far = goes_on moves past first runs.0 is runs.1 in
        let there = step move so_far.0 runs.0 last so_far.2 runs.2 in
        (there.0, (so_far.0, so_far.1, there.1), there.2)

    pub reached : (moves : List Move) (server : Server ghosts) → Reaches moves server → (past : Past) × IsPast moves past × Stands past server
    reached moves server run = goes_on moves nothing (down run.disk) server (begun run.disk run.keeps run.created) run.runs

    -- ---- what is told

    module _ (lives : Lives) where
      pub tells_table : (past : Past) (book : Book D ghosts) → IsUp past book → TellsTable past (table_of book)
      tells_table past book is =
          let legal = legal_page joins past book is in
          let long = long_page past book is in
          let all : table_of book ≡ replay [] past.entries =
          sym (history_of book).replayed ∙ ap (λ (t : List JobParts). replay t (log_of book)) is.opened ∙ sym (replays [] is.front (log_of book)) ∙ ap (replay []) (sym is.entries) in
          record {
            legal = legal;
            lasting = omega (arith, is.enough, long, within_page book);
            replayed = all;
            jobs = are_iterates lives past.entries (table_of book) legal all;
          }

      tells : (past : Past) (server : Server ghosts) → Stands past server → Tells past server
      tells past (up book) is = tells_table past book is
      tells past (down disk) is = λ file there. tells_file past file is.legal (is.each file there)

      pub table_after : (moves : List Move) (book : Book D ghosts) → Reaches moves (up book) → IsTableAfter moves (table_of book)
      table_after moves book run =
          let there = reached moves (up book) run in
          record { past = there.0; comes = there.1; tells = tells_table there.0 book there.2 }

      -- a later look goes on from an earlier one
      pub two_looks : (earlier later : List Move) (mid last : Server ghosts) → Reaches earlier mid → Runs later mid last
          → (then now : Past) × IsPast earlier then × Tells then mid × Leads later then now × Tells now last
      two_looks earlier later mid last run more =
          let there = reached earlier mid run in
          let here = goes_on later there.0 mid last there.2 more in
          (there.0, here.0, there.1, tells there.0 mid there.2, here.1, tells here.0 last here.2)

      told : (moves : List Move) (disk : D) (server : Server ghosts) → IsTrue (ghosts.keeps disk) → Within (ghosts.image disk) (HoldsTable []) → (runs : Runs moves (down disk) server)
          → (past : Past) × AreTold moves (down disk) server runs past × Stands past server
      told [] disk server model created runs =
          let is : Stands nothing server = subst (λ (s : Server ghosts). Stands nothing s) (sym runs) (begun disk model created) in
          (nothing, (refl, tells nothing server is), is)
      told (move ∷ moves) disk server model created runs =
          let so_far = told moves disk runs.0 model created runs.1 in
          let there = step move so_far.0 runs.0 server so_far.2 runs.2 in
          (there.0, (so_far.0, so_far.1, there.1, tells there.0 server there.2), there.2)

      pub all_told : (moves : List Move) (server : Server ghosts) (run : Reaches moves server) → (past : Past) × AreTold moves (down run.disk) server run.runs past
      all_told moves server run = let all = told moves run.disk server run.keeps run.created run.runs in (all.0, all.1)

    pub prefix_after : (moves : List Move) (found : D) (file : List ℕ) → Reaches {ghosts = ghosts} moves (down found) → ghosts.image found file → HoldsPrefixAfter moves file
    prefix_after moves found file run there =
        let all = reached moves (down found) run in
        let is : IsDown ghosts all.0 found = all.2 in
        record { past = all.0; comes = all.1; tells = tells_file all.0 file is.legal (is.each file there) }

    at_refusal : (cause : OpenCause) (past : Past) (before : Server ghosts) (found : D) → Stands past before → Step (refuses cause) before (down found) → (cause ≡ Device) ⊎ (cause ≡ Memory)
    at_refusal cause past (down disk) found is call =
        let here = is.each (ghosts.content disk) (content_is_image disk) in
        refuses_no_table one cause (replay [] (take here.prefix past.entries)) (ghosts.content disk) here.holds.held (call.says is.keeps)
    at_refusal cause past (up book) found is call = absurd call

    pub refused_so : (moves : List Move) (cause : OpenCause) (found : D) → Reaches {ghosts = ghosts} (refuses cause ∷ moves) (down found) → (cause ≡ Device) ⊎ (cause ≡ Memory)
    refused_so moves cause found run =
        let there = goes_on moves nothing (down run.disk) run.runs.0 (begun run.disk run.keeps run.created) run.runs.1 in
        at_refusal cause there.0 run.runs.0 found there.2 run.runs.2
