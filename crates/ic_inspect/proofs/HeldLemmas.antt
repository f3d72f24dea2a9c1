-- What is seen of the two slots says what the file holds.
use Rattle.std.proofs.Common.{◌≡◌, ◌≢◌, ◌↔◌, inl, ℕ, ◌+◌, ◌<◌, ◌≤◌, ◌==◌, Bool, true, false, cond, List, Option, None, Some, length, refl, sym, subst, ◌∙◌, arith}
use Rattle.std.specs.Prelude.{nat_lt, slice_index}
use Rattle.std.proofs.lemmas.Bool.{eqb-true, eqb-false, ltb-true, ltb-false, false_from_ne_true, false≢true}
use Rattle.ic_jobs.specs.Job.{JobParts}
use Rattle.ic_jobs.specs.Table.{IsTable}
use Rattle.ic_codec.specs.Tables.{IsFormOf}
use Rattle.ic_frames.specs.declared.frame.TheConstants.{HEAD, MAX_BODY}
use Rattle.ic_frames.specs.declared.slot.Slot.{Slot}
use Rattle.ic_frames.specs.declared.slot.Slot.TheVariants as slot
use Rattle.ic_frames.specs.Fields.{number, size, body, is_open, is_whole}
use Rattle.ic_frames.specs.Held.{body_held, IsNewest, IsShut, HasTwoAlike}
use Rattle.ic_frames.specs.Held.{damaged as damaged_slot}
use Rattle.ic_frames.specs.Places.{place}
use Rattle.ic_slots.specs.Held.{Held, IsHeld, the_table, no_slot, two_alike, damaged}
use Rattle.ic_inspect.specs.declared.choosing.Newest.{Newest}
use Rattle.ic_inspect.specs.declared.choosing.Newest.TheVariants.{NoSlot, TwoAlike, First, Second}
use Rattle.ic_inspect.specs.declared.seen.Body.{Body}
use Rattle.ic_inspect.specs.declared.seen.Body.TheVariants.{TooLong, CutShort, NoTable, Holds}
use Rattle.ic_inspect.specs.declared.seen.Seen.{Seen}
use Rattle.ic_inspect.specs.Seeing.{IsBodySeen, IsNewestOf, IsSlotSeen, IsSeen, IsTableOf}
use Rattle.ic_inspect.specs.inner.Held.{open_number, newest_by, newest_of, held_by_body, held_by_slot, held_by, held_of, table_of}

-- a slot is open with this number, or it isn't open
abbrev OpenAs : Slot → Option ℕ → List ℕ → Type 0
OpenAs s None file = is_open (place s) file ≡ false
OpenAs s (Some n) file = (is_open (place s) file ≡ true) × (number (place s) file ≡ n)

newer_as : (a b : ℕ) (file : List ℕ) (same less : Bool) → (a == b) ≡ same → nat_lt b a ≡ less → OpenAs slot.First (Some a) file → OpenAs slot.Second (Some b) file
    → IsNewestOf (cond same TwoAlike (cond less First Second)) file
newer_as a b file true less e f p q = record { first = p.0; second = q.0; same = p.1 ∙ eqb-true a b e ∙ sym q.1 }
newer_as a b file false true e f p q = record { opened = p.0; newer = λ _. omega (arith, ltb-true b a f, p.1, q.1) }
newer_as a b file false false e f p q =
    let few : a ≤ b = ltb-false b a f in
    let apart : a ≢ b = eqb-false a b e in
    record { opened = q.0; newer = λ _. omega (arith, few, apart, p.1, q.1) }

newest_as : (a b : Option ℕ) (file : List ℕ) → OpenAs slot.First a file → OpenAs slot.Second b file → IsNewestOf (newest_by a b) file
newest_as None None file p q = (p, q)
newest_as (Some a) None file p q = record { opened = p.0; newer = λ is. absurd (false≢true (sym q ∙ is)) }
newest_as None (Some b) file p q = record { opened = q.0; newer = λ is. absurd (false≢true (sym p ∙ is)) }
newest_as (Some a) (Some b) file p q = newer_as a b file (a == b) (nat_lt b a) refl refl p q

open_by : (s : Slot) (seen : Seen) (file : List ℕ) (b : Bool) → seen.opened ≡ b → IsSlotSeen (place s) seen file → OpenAs s (cond b (Some seen.number) None) file
open_by s seen file true e is = (sym is.opened ∙ e, sym is.number_is)
open_by s seen file false e is = sym is.opened ∙ e

module _ (opened : (at : ℕ) (file : List ℕ) → (is_open at file ≡ true) ↔ ((at + HEAD ≤ length file) × (slice_index file at ≡ 1)))
    (whole : (at : ℕ) (file : List ℕ) → (is_whole at file ≡ true) ↔ ((size at file ≤ MAX_BODY) × (at + HEAD + size at file ≤ length file))) where
  open_as : (s : Slot) (seen : Option Seen) (file : List ℕ) → IsSeen s seen file → OpenAs s (open_number seen) file
  open_as s None file short = false_from_ne_true (is_open (place s) file) (λ is. omega (arith, short, ((opened (place s) file).0 is).0))
  open_as s (Some seen) file is = open_by s seen file seen.opened refl is

  pub newest_seen : (file : List ℕ) (first second : Option Seen) → IsSeen slot.First first file → IsSeen slot.Second second file → IsNewestOf (newest_of first second) file
  newest_seen file first second p q = newest_as (open_number first) (open_number second) file (open_as slot.First first file p) (open_as slot.Second second file q)

  too_long : (at : ℕ) (file : List ℕ) → MAX_BODY < size at file → is_whole at file ≡ false
  too_long at file long = false_from_ne_true (is_whole at file) (λ is. omega (arith, long, ((whole at file).0 is).0))

  cut_short : (at : ℕ) (file : List ℕ) → length file < at + HEAD + size at file → is_whole at file ≡ false
  cut_short at file short = false_from_ne_true (is_whole at file) (λ is. omega (arith, short, ((whole at file).0 is).1))

  module _ (shut : (file : List ℕ) → IsShut file → IsHeld no_slot file) (alike : (file : List ℕ) → HasTwoAlike file → IsHeld two_alike file)
      (spoiled : (s : Slot) (file : List ℕ) → IsNewest s file → is_whole (place s) file ≡ false → body_held file ≡ damaged_slot)
      (held : (s : Slot) (file : List ℕ) (t : List JobParts) → IsNewest s file → is_whole (place s) file ≡ true → IsTable t → IsFormOf t (body (place s) file) → IsHeld (the_table t) file)
      (none : (s : Slot) (file : List ℕ) → IsNewest s file → ((t : List JobParts) → IsTable t → ¬ IsFormOf t (body (place s) file)) → IsHeld damaged file) where
    body_as : (s : Slot) (b : Body) (file : List ℕ) → IsNewest s file → IsBodySeen (place s) b file → IsHeld (held_by_body b) file
    body_as s TooLong file newest long = inl (spoiled s file newest (too_long (place s) file long))
    body_as s CutShort file newest short = inl (spoiled s file newest (cut_short (place s) file short.1))
    body_as s NoTable file newest seen = none s file newest seen.1
    body_as s (Holds t) file newest seen = held s file t newest seen.0 seen.1 seen.2

    slot_as : (s : Slot) (seen : Option Seen) (file : List ℕ) → IsNewest s file → IsSeen s seen file → IsHeld (held_by_slot seen) file
    slot_as s None file newest short = absurd (omega (arith, short, ((opened (place s) file).0 newest.opened).0))
    slot_as s (Some seen) file newest is = body_as s seen.body file newest is.body_is

    held_as : (n : Newest) (first second : Option Seen) (file : List ℕ) → IsNewestOf n file → IsSeen slot.First first file → IsSeen slot.Second second file → IsHeld (held_by n first second) file
    held_as NoSlot first second file is p q = shut file is
    held_as TwoAlike first second file is p q = alike file is
    held_as First first second file is p q = slot_as slot.First first file is p
    held_as Second first second file is p q = slot_as slot.Second second file is q

    pub seen_held : (file : List ℕ) (first second : Option Seen) → IsSeen slot.First first file → IsSeen slot.Second second file → IsHeld (held_of first second) file
    seen_held file first second p q =
        held_as (newest_of first second) first second file (newest_seen file first second p q) p q

-- ---- the table that is told is held, and where none is told, none is
abbrev IsTableTold : Held → Type 0
IsTableTold (the_table t) = Unit {0}
IsTableTold no_slot = ⊥
IsTableTold two_alike = ⊥
IsTableTold damaged = ⊥

no_table : (held : Held) (t : List JobParts) → held ≡ the_table t → (IsTableTold held → ⊥) → ⊥
no_table held t is none = none (subst IsTableTold (sym is) tt)

pub told_table : ((file : List ℕ) (one other : Held) → IsHeld one file → IsHeld other file → one ≡ other) → (held : Held) (file : List ℕ) → IsHeld held file → IsTableOf (table_of held) file
told_table only (the_table t) file is = is
told_table only no_slot file is = λ t there. no_table no_slot t (only file no_slot (the_table t) is there) (λ no. no)
told_table only two_alike file is = λ t there. no_table two_alike t (only file two_alike (the_table t) is there) (λ no. no)
told_table only damaged file is = λ t there. no_table damaged t (only file damaged (the_table t) is there) (λ no. no)
