-- What the fields of the disk in memory stand for. Inner: private fields and functions cite it.
use Rattle.std.specs.Prelude.{◌≡◌, ℕ, ◌≤◌, List, length, map, take, drop}
use Rattle.ic_disk.specs.inner.Noted.{call_of, first_of}
use Rattle.ic_disk.specs.Model.{write, begun}
use Rattle.ic_disk.specs.History.{History, replay, state}
use Rattle.ic_disk.specs.declared.mem.MemDisk.TheInside.{Inside}

-- the history that the fields stand for
abbrev pub history : Inside → History
history a = record {
  first = first_of a.first a.content.items;
  calls = map call_of a.calls.items;
  failures = a.failures;
}

-- These are the history's content, the length that was synced, and the number of calls up to the
-- last sync.
pub record Keeps (h : History) (content : List ℕ) (synced_len synced_calls : ℕ) : Type 0 where
  pub content_is : content ≡ (state h).content
  pub synced_len_is : synced_len ≡ length (state h).synced
  pub within : synced_calls ≤ length h.calls
  pub synced_is : (replay (take synced_calls h.calls) (begun h.first)).content ≡ (state h).synced
  pub pending_is : drop synced_calls h.calls ≡ map write (state h).pending

-- the fields agree with the history
abbrev pub IsKept : Inside → Type 0
IsKept a = Keeps (history a) a.content.items a.synced_len a.synced_calls
