-- What a line adds to the history of a book.
use Rattle.std.specs.Prelude.{◌≡◌, ◌+◌, ◌*◌, ◌/◌, ◌<◌, ◌≤◌, ℕ, List, ◌++◌, length, map}
use Rattle.std.specs.List.{AllByRecursion}
use Rattle.ic_disk.specs.declared.disk.Disk.{Ghosts}
use Rattle.ic_jobs.specs.declared.event.Event.{Event}
use Rattle.ic_jobs.specs.declared.event.Entry.{Entry}
use Rattle.ic_book.specs.declared.book.Book.{Book}
use Rattle.ic_book.specs.Book.{start_of, log_of, table_of, disk_of}
use Rattle.ic_book.specs.Weight.{weigh, weight_of}
use Rattle.ic_serving.specs.declared.limits.TheConstants.{PAGE_WEIGHT}

-- the page is the same: it begins with the same table, and has the same entries
pub record IsSamePage {D : Type 0} {ghosts : Ghosts D} (old new : Book D ghosts) : Type 0 where
  pub start : start_of new ≡ start_of old
  pub log : log_of new ≡ log_of old

-- The page goes on: it begins with the same table, and its entries are followed by those of these
-- events, which are sent by 0.
pub record GoesOn {D : Type 0} {ghosts : Ghosts D} (es : List Event) (old new : Book D ghosts) : Type 0 where
  pub entries : List Entry
  pub start : start_of new ≡ start_of old
  pub log : log_of new ≡ log_of old ++ entries
  pub events : map (λ (e : Entry). e.event) entries ≡ es
  pub senders : AllByRecursion (λ (e : Entry). e.who ≡ 0) entries

-- A new page begins with the table that there was. Its entries are those of these events alone, which
-- are sent by 0.
pub record BeginsPage {D : Type 0} {ghosts : Ghosts D} (es : List Event) (old new : Book D ghosts) : Type 0 where
  pub start : start_of new ≡ table_of old
  pub events : map (λ (e : Entry). e.event) (log_of new) ≡ es
  pub senders : AllByRecursion (λ (e : Entry). e.who ≡ 0) (log_of new)

-- it goes on by a front of these events
pub record GoesOnWithin {D : Type 0} {ghosts : Ghosts D} (es : List Event) (old new : Book D ghosts) : Type 0 where
  pub front : List Event
  pub rest : List Event
  pub parted : es ≡ front ++ rest
  pub goes : GoesOn front old new

-- what the entries of a page may weigh before a new one begins
abbrev pub IsLimit : ℕ → Type 0
IsLimit limit = (1 ≤ limit) × (limit ≤ PAGE_WEIGHT)

-- the page has room for an event: it ends once its entries weigh so much
abbrev pub HasSpare : {D : Type 0} {ghosts : Ghosts D} → (limit : ℕ) → Book D ghosts → Type 0
HasSpare limit book = weight_of (log_of book) < limit

-- it has room for these events, and for one more
abbrev pub HasRoom : {D : Type 0} {ghosts : Ghosts D} → (limit : ℕ) → List Event → Book D ghosts → Type 0
HasRoom limit es book = weight_of (log_of book) + weigh es < limit

-- Where the page has such room, at most six calls to the disk are made for each `every` of these
-- events, and six at their end.
abbrev pub CallsFew : {D : Type 0} {ghosts : Ghosts D} → (limit : ℕ) → List Event → (every : ℕ)
    → (old new : Book D ghosts) → Type 0
CallsFew {D} {ghosts} limit es every old new = HasRoom limit es old
    → ghosts.clock (disk_of new) ≤ ghosts.clock (disk_of old) + 6 * (length es / every + 1)
