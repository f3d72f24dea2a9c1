-- For private functions: what two slots that were seen so hold.
use Rattle.std.specs.Prelude.{ℕ, List, ◌==◌, nat_lt, Option, None, Some, if◌then◌else◌}
use Rattle.ic_jobs.specs.Job.{JobParts}
use Rattle.ic_slots.specs.Held.{Held, the_table, no_slot, two_alike, damaged}
use Rattle.ic_inspect.specs.declared.choosing.Newest.{Newest}
use Rattle.ic_inspect.specs.declared.choosing.Newest.TheVariants.{NoSlot, TwoAlike, First, Second}
use Rattle.ic_inspect.specs.declared.seen.Body.{Body}
use Rattle.ic_inspect.specs.declared.seen.Body.TheVariants.{TooLong, CutShort, NoTable, Holds}
use Rattle.ic_inspect.specs.declared.seen.Seen.{Seen}

-- the number of a slot, where it is open
abbrev pub open_number : Option Seen → Option ℕ
open_number None = None
open_number (Some seen) = if seen.opened then Some seen.number else None

-- of two open slots the one with the greater number
abbrev pub newer : ℕ → ℕ → Newest
newer first second =
    if first == second then TwoAlike else (if nat_lt second first then First else Second)

-- the newest open slot, or why there is none
abbrev pub newest_by : Option ℕ → Option ℕ → Newest
newest_by None None = NoSlot
newest_by (Some first) None = First
newest_by None (Some second) = Second
newest_by (Some first) (Some second) = newer first second

abbrev pub newest_of : Option Seen → Option Seen → Newest
newest_of first second = newest_by (open_number first) (open_number second)

-- what a body holds, where its slot is the newest
abbrev pub held_by_body : Body → Held
held_by_body (Holds t) = the_table t
held_by_body TooLong = damaged
held_by_body CutShort = damaged
held_by_body NoTable = damaged

-- what a slot holds, where it is the newest
abbrev pub held_by_slot : Option Seen → Held
held_by_slot None = damaged
held_by_slot (Some seen) = held_by_body seen.body

-- what is held, where this slot is the newest
abbrev pub held_by : Newest → Option Seen → Option Seen → Held
held_by NoSlot first second = no_slot
held_by TwoAlike first second = two_alike
held_by First first second = held_by_slot first
held_by Second first second = held_by_slot second

-- what is held: the table of the newest open slot, or why there is none
abbrev pub held_of : Option Seen → Option Seen → Held
held_of first second = held_by (newest_of first second) first second

-- the table that is held, if one is
abbrev pub table_of : Held → Option (List JobParts)
table_of (the_table t) = Some t
table_of no_slot = None
table_of two_alike = None
table_of damaged = None
