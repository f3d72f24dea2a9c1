-- For private functions: the parts that a desk and hands have.
use Rattle.std.specs.Prelude.{◌≡◌, ◌≢◌, ◌⊎◌, ℕ, ◌+◌, ◌%◌, ◌==◌, ◌^◌, ◌<◌, ◌≤◌, List, [], ◌∷◌, Option, None, Some, map, length, take, drop, get_or, set, count_by, sum_by}
use Rattle.std.specs.List.{flat_map, AllByRecursion}
use Rattle.ic_arena.specs.declared.word.TheConstants.{GIVEN}
use Rattle.ic_arena.specs.declared.word.Word.{Word}
use Rattle.ic_machine.specs.declared.moving.Parcel.{Parcel}
use Rattle.ic_machine.specs.Moving.{side_of, spells_cut, times, worth, AreBordered, AreSpelled, Ends, KeepWorth, Packs, Ships, Unpacks}
use Rattle.ic_machine.specs.Net.{IsStuck, Net}
use Rattle.ic_machine.specs.Plan.{Plans, ArePlans}
use Rattle.ic_workers.specs.Parts.{Part}
use Rattle.ic_workers.specs.inner.HandsOn.{Come, HaveWorked}
use Rattle.ic_workers.specs.declared.kept.Kept.{Kept}
use Rattle.ic_workers.specs.declared.kept.Hand.{Hand}
use Rattle.ic_workers.specs.declared.desk.Desk.{Desk}

abbrev pub part_of : Kept → Part
part_of k = record { number = k.number; net = k.machine; borders = k.borders }

-- the part that has all of a machine
abbrev pub whole : Net → Part
whole m = record {
  number = 0;
  net = m;
  borders = record { ends = []; ended = []; next = 0; step = 512 };
}

-- a slot of a desk has a part, or a hand has it
abbrev pub slot : Option Kept → List Part
slot None = []
slot (Some k) = part_of k ∷ []

abbrev pub slots_at : Desk → List (List Part)
slots_at d = map slot d.parts.items

abbrev pub parts_at : Desk → List Part
parts_at d = flat_map slot d.parts.items

abbrev pub parts_in : Hand → List Part
parts_in h = map part_of h.parts.items

abbrev pub parts_in_all : List Hand → List Part
parts_in_all hs = flat_map parts_in hs

abbrev pub interactions_of : List Part → ℕ
interactions_of qs = sum_by (λ q. q.net.interactions) qs

-- no fault has stopped its machine, and pairs are pending
abbrev pub HasWork : Kept → Type 0
HasWork k = (k.fault ≡ None) × (k.machine.pending ≢ [])

-- What each part keeps: its machine is for these plans, what it set aside is stuck, and its ends of cuts are named elsewhere,
-- too. The first part alone may have an interface.
pub record IsKept (p : Plans) (q : Part) : Type 0 where
  pub arities : q.net.arities ≡ p.arities
  pub plans : length q.net.counts ≡ length p.plans
  pub bordered : AreBordered q.net q.borders
  pub interface : (q.number ≡ 0) ⊎ (q.net.interface ≡ [])
  pub aside : AllByRecursion (IsStuck p) q.net.aside

-- plans by which machines can run
pub record AreFit (p : Plans) : Type 0 where
  pub sound : ArePlans p
  pub symbols : length p.arities < GIVEN

-- A hand has made nothing yet, and there is a number for what it may make.
pub record IsReady (p : Plans) (h : Hand) : Type 0 where
  pub fit : AreFit p
  pub kept : AllByRecursion (IsKept p) (parts_in h)
  pub few : interactions_of (parts_in h) + h.budget < 2 ^ 64
  pub none : h.made ≡ 0

-- A hand may take a turn: it has made no more than it may, and there is a number for all that it may make.
pub record MayTurn (p : Plans) (h : Hand) : Type 0 where
  pub fit : AreFit p
  pub kept : AllByRecursion (IsKept p) (parts_in h)
  pub few : interactions_of (parts_in h) + h.budget < 2 ^ 64 + h.made
  pub within : h.made ≤ h.budget

-- The parts in a hand have run in turn, within what it may make. What they made is counted.
pub record TakesTurn (p : Plans) (old new : Hand) : Type 0 where
  pub worked : HaveWorked p (parts_in old) (parts_in new)
  pub kept : AllByRecursion (IsKept p) (parts_in new)
  pub made : interactions_of (parts_in new) + old.made ≡ interactions_of (parts_in old) + new.made
  pub least : old.made ≤ new.made
  pub within : new.made ≤ new.budget
  pub same : new.budget ≡ old.budget

-- The parts in a hand have run, within what it might make.
pub record HandWorked (p : Plans) (old new : Hand) : Type 0 where
  pub worked : HaveWorked p (parts_in old) (parts_in new)
  pub kept : AllByRecursion (IsKept p) (parts_in new)
  pub made : interactions_of (parts_in new) ≡ interactions_of (parts_in old) + new.made
  pub within : new.made ≤ old.budget

-- each hand that was there has worked
abbrev pub HandsWorked : Plans → List Hand → List Hand → Type 0
HandsWorked p [] [] = Unit {0}
HandsWorked p [] (h ∷ hs) = ⊥
HandsWorked p (g ∷ gs) [] = ⊥
HandsWorked p (g ∷ gs) (h ∷ hs) = HandWorked p g h × HandsWorked p gs hs

-- a hand that may make so many interactions has made none
pub record IsIdle (budget : ℕ) (h : Hand) : Type 0 where
  pub may : h.budget ≡ budget
  pub none : h.made ≡ 0

-- no two parts have one number
abbrev pub AreApart : List Part → Type 0
AreApart qs = (k : ℕ) → count_by (λ q. q.number == k) qs ≤ 1

-- there is a slot for the number of each part
abbrev pub AreWithin : ℕ → List Part → Type 0
AreWithin slots qs = AllByRecursion (λ q. q.number < slots) qs

-- a part in a slot has the number of the slot
abbrev pub AreAt : ℕ → List (List Part) → Type 0
AreAt k [] = Unit {0}
AreAt k (qs ∷ slots) = AllByRecursion (λ q. q.number ≡ k) qs × AreAt (k + 1) slots

-- What a desk keeps while words are on their way between two parts. Each slot has a part with its number. No number is that of
-- two cuts, and those of parts that are still to be added are that of none. All parts together have made as many interactions
-- as are counted.
pub record KeepsDesk (p : Plans) (words : List Word) (d : Desk) : Type 0 where
  pub fit : AreFit p
  pub each : AllByRecursion (IsKept p) (parts_at d)
  pub slots : AreAt 0 (slots_at d)
  pub full : length (parts_at d) ≡ length d.parts.items
  pub few : length d.parts.items ≤ 512
  pub two : (c : ℕ) → sum_by (λ q. worth c q.borders) (parts_at d) + spells_cut c words ≤ 2
  pub unused : (c : ℕ) → length d.parts.items ≤ c % 512
      → sum_by (λ q. worth c q.borders) (parts_at d) + spells_cut c words ≡ 0
  pub counted : interactions_of (parts_at d) ≡ d.made

-- what a desk keeps while nothing is on its way
abbrev pub IsDesk : Plans → Desk → Type 0
IsDesk p d = KeepsDesk p [] d

-- The parts of a desk came to where those of another one are, which keeps what a desk keeps.
abbrev pub Comes : Desk → Desk → Type 0
Comes d e = (p : Plans) → IsDesk p d → Come p (parts_at d) (parts_at e) × IsDesk p e

-- A parcel is on its way to a part of a desk.
pub record AwaitsParcel (p : Plans) (parcel : Parcel) (d : Desk) : Type 0 where
  pub desk : KeepsDesk p parcel.words.items d
  pub spelled : AreSpelled p.arities parcel.words.items

-- The part in this slot changed so, and all others stayed.
pub record Changes (number : ℕ) (P : Part → Part → Type 0) (old new : List (List Part)) : Type 0 where
  pub part : Part
  pub after : Part
  pub there : number < length old
  pub before : get_or old number [] ≡ part ∷ []
  pub now : new ≡ set old number (after ∷ [])
  pub how : P part after
  pub same : after.number ≡ part.number

-- no two ends of cuts have one number
abbrev pub AreOnce : Ends → Type 0
AreOnce b = (x : ℕ) → times x (map (λ e. e.cut) b.ends) ≤ 1

-- A part has taken in what these words carry.
pub record TakesIn (words : List Word) (old new : Part) : Type 0 where
  pub unpacks : Unpacks words old.net new.net old.borders new.borders
  pub worth : KeepWorth old.borders new.borders words []
  pub once : AreOnce new.borders

-- The part in this slot has what words carry, and all others stayed.
abbrev pub Receives : ℕ → List Word → (old new : List (List Part)) → Type 0
Receives number words old new = Changes number (TakesIn words) old new

-- A part has handed out some of its pending pairs, the oldest, as these words.
pub record GivesOut (arities : List ℕ) (words : List Word) (old new : Part) : Type 0 where
  pub pairs : ℕ
  pub packs : Packs arities (take pairs old.net.pending) (side_of old.net old.borders)
      (side_of new.net new.borders) [] words
  pub pending : new.net.pending ≡ drop pairs old.net.pending
  pub same : new.net ≡ record old.net { pending = new.net.pending; places = new.net.places }
  pub worth : KeepWorth old.borders new.borders [] words
  pub once : AreOnce new.borders

-- A part has handed out what waits for a cut, as these words.
pub record ShipsOut (arities : List ℕ) (cut : ℕ) (words : List Word) (old new : Part) : Type 0 where
  pub ships : Ships arities cut (side_of old.net old.borders) (side_of new.net new.borders) [] words
  pub same : new.net ≡ record old.net { places = new.net.places }
  pub worth : KeepWorth old.borders new.borders [] words
  pub once : AreOnce new.borders

-- The first part has what some others had. These parts are still to be gathered.
pub record AreLeft (p : Plans) (all : List Part) (made : ℕ) (first : Part) (others : List Part) : Type 0 where
  pub come : Come p all (first ∷ others)
  pub kept : AllByRecursion (IsKept p) (first ∷ others)
  pub is_first : first.number ≡ 0
  pub later : AllByRecursion (λ q. q.number ≢ 0) others
  pub two : (c : ℕ) → sum_by (λ q. worth c q.borders) (first ∷ others) ≤ 2
  pub counted : interactions_of (first ∷ others) ≡ made
