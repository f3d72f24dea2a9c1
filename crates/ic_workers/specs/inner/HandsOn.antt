-- For private functions: what parts hand on among them, which is no step.
use Rattle.std.specs.Prelude.{◌≡◌, ◌⊎◌, ℕ, ◌<◌, List, [], ◌∷◌, length, sum_by, slice_index_or, IsPermutation}
use Rattle.std.specs.List.{AllByRecursion}
use Rattle.ic_term.specs.Configuration.{Configuration}
use Rattle.ic_round.specs.Naming.{HasNames}
use Rattle.ic_reaching.specs.OneNet.{OneNet}
use Rattle.ic_machine.specs.Moving.{worth}
use Rattle.ic_machine.specs.Net.{Net, pieces}
use Rattle.ic_machine.specs.Plan.{Plans}
use Rattle.ic_machine.specs.Rooms.{ROOMS}
use Rattle.ic_machine.specs.Runs.{Ran}
use Rattle.ic_meaning.specs.Words.{Numbers, AreNumbers}
use Rattle.ic_meaning.specs.Nets.{net_of, AreNetPieces}
use Rattle.ic_in_place.specs.Holding.{AreGiven}
use Rattle.ic_workers.specs.Parts.{Part, all_interface, all_pieces, room_of, ArePlaced}

-- The parts count together what they counted: interactions, and how often each plan fired. Each counts for as many plans as all
-- did.
pub record CountAlike (old new : List Part) : Type 0 where
  pub interactions : sum_by (λ q. q.net.interactions) new ≡ sum_by (λ q. q.net.interactions) old
  pub counts : (i : ℕ) → sum_by (λ q. slice_index_or q.net.counts i 0) new
      ≡ sum_by (λ q. slice_index_or q.net.counts i 0) old
  pub plans : (m : ℕ) → AllByRecursion (λ q. length q.net.counts ≡ m) old
      → AllByRecursion (λ q. length q.net.counts ≡ m) new

-- Parts handed on equations, or what waits for a cut. What all parts stand for is one net before and after: where they are
-- placed as parts are, and the names that occur once are those that were given, whichever configuration it is.
pub record HandsOn (arities : List ℕ) (old new : List Part) : Type 0 where
  pub alike : CountAlike old new
  pub interface : all_interface arities new ≡ all_interface arities old
  pub net : (cuts : List ℕ) → ArePlaced arities cuts old → (n : Numbers) → AreNumbers n
      → n.arities ≡ arities
      → AreNetPieces arities (all_interface arities old) (all_pieces arities cuts old)
      → HasNames (net_of n (all_interface arities old) (all_pieces arities cuts old))
      → ((c : Configuration)
      → OneNet (net_of n (all_interface arities old) (all_pieces arities cuts old)) c → AreGiven n.given c)
      → (more : List ℕ) × ArePlaced arities more new
      × AreNetPieces arities (all_interface arities new) (all_pieces arities more new)
      × OneNet (net_of n (all_interface arities old) (all_pieces arities cuts old))
      (net_of n (all_interface arities new) (all_pieces arities more new))

-- A part has run by itself: its number and its ends of cuts stay.
pub record HasWorked (p : Plans) (old new : Part) : Type 0 where
  pub number : new.number ≡ old.number
  pub borders : new.borders ≡ old.borders
  pub ran : Ran p old.net new.net

-- Parts have run, each by itself, in this order.
abbrev pub HaveWorked : Plans → List Part → List Part → Type 0
HaveWorked p [] [] = Unit {0}
HaveWorked p [] (r ∷ rs) = ⊥
HaveWorked p (q ∷ qs) [] = ⊥
HaveWorked p (q ∷ qs) (r ∷ rs) = HasWorked p q r × HaveWorked p qs rs

-- A part of nothing.
pub record IsBare (q : Part) : Type 0 where
  pub pieces : pieces q.net ≡ []
  pub interface : q.net.interface ≡ []
  pub ends : q.borders.ends ≡ []
  pub interactions : q.net.interactions ≡ 0
  pub counts : (i : ℕ) → slice_index_or q.net.counts i 0 ≡ 0

-- What a part may do that no other one has the number of: it has room, and its numbers for cuts no part has.
pub record IsNew (arities : List ℕ) (q : Part) (qs : List Part) : Type 0 where
  pub room : room_of q < ROOMS
  pub other : AllByRecursion (λ r. ¬ (q.number ≡ r.number)) qs
  pub arities_are : q.net.arities ≡ arities
  pub numbers : (c : ℕ) → (worth c q.borders ≡ 0)
      ⊎ ((worth c q.borders ≡ 2) × (sum_by (λ r. worth c r.borders) qs ≡ 0))

-- Parts came here: some have run by themselves, some handed on what they had, and new ones of nothing were there, in any
-- order.
pub data Come (p : Plans) : List Part → List Part → Type 0 where
  stayed : (qs rs : List Part) → IsPermutation qs rs → Come p qs rs
  ordered : (qs rs ss : List Part) → Come p qs rs → IsPermutation rs ss → Come p qs ss
  worked : (qs rs ss : List Part) → Come p qs rs → HaveWorked p rs ss → Come p qs ss
  handed : (qs rs ss : List Part) → Come p qs rs → HandsOn p.arities rs ss → Come p qs ss
  added : (q : Part) (qs rs : List Part) → Come p qs rs → IsBare q → IsNew p.arities q rs
      → length q.net.counts ≡ length p.plans → Come p qs (q ∷ rs)

-- All that one part has went to another one, whatever parts there are beside. The counts went with it.
abbrev pub Gathers : List ℕ → (from old new : Part) → Type 0
Gathers arities from old new = (qs : List Part) → HandsOn arities (old ∷ from ∷ qs) (new ∷ qs)

-- A machine has all that parts had, and no end of a cut.
pub record IsAllOf (p : Plans) (qs : List Part) (m : Net) : Type 0 where
  pub part : Part
  pub is : part.net ≡ m
  pub come : Come p qs (part ∷ [])
