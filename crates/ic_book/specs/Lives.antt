-- The lives of a server: each from an opening of its disk to the stop that ended it.
use Rattle.std.specs.Prelude.{◌≡◌, ◌≤◌, ℕ, List, [], ◌∷◌, length, take}
use Rattle.std.specs.List.{flat_map}
use Rattle.ic_jobs.specs.declared.event.Entry.{Entry}
use Rattle.ic_jobs.specs.Job.{JobParts}
use Rattle.ic_jobs.specs.History.{replay, IsLegal}

-- One life: the table that it opened with, its log, how many entries were kept when a command was
-- last answered, and how many the stop left on the disk.
pub record Page : Type 0 where
  pub start : List JobParts
  pub log : List Entry
  pub kept : ℕ
  pub stop : ℕ

-- The log is legal, and the stop left a prefix of it that has all that was kept.
pub record IsPage (p : Page) : Type 0 where
  pub legal : IsLegal p.start p.log
  pub kept : p.kept ≤ p.stop
  pub stop : p.stop ≤ length p.log

-- the entries that the stop left
abbrev pub left_by : Page → List Entry
left_by p = take p.stop p.log

-- Lives one after the other: the first opens with this table, each later one with the table that
-- the stop before it left.
abbrev pub AreLives : List JobParts → List Page → Type 0
AreLives t [] = Unit {0}
AreLives t (p ∷ ps) = (p.start ≡ t) × IsPage p × AreLives (replay p.start (left_by p)) ps

-- the history of these lives: what their stops left, joined in order
abbrev pub lived : List Page → List Entry
lived ps = flat_map left_by ps
