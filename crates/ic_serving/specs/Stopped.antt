-- What a crash in the midst of a serving leaves.
use Rattle.std.specs.Prelude.{◌≡◌, ◌⊎◌, ℕ, List, ◌++◌}
use Rattle.ic_jobs.specs.Job.{JobParts}
use Rattle.ic_slots.specs.Held.{HoldsTable}
use Rattle.ic_lines.specs.Serving.{IsServed}
use Rattle.ic_serving.specs.Parts.{IsInFirst}
use Rattle.ic_serving.specs.Served.{MayBeServed}

-- a made file that holds one of these tables
abbrev pub HoldsOne : (List JobParts → Type 0) → List ℕ → Type 0
HoldsOne tables file = (t : List JobParts) × tables t × HoldsTable t file

-- This table was reached: the one after a front of the lines, and after a front of the events of
-- the next line.
pub record IsReached (t : List JobParts) (ls : List (List ℕ)) (u : List JobParts) : Type 0 where
  pub front : List (List ℕ)
  pub rest : List (List ℕ)
  pub answers : List ℕ
  pub between : List JobParts
  pub parted : ls ≡ front ++ rest
  pub within : MayBeServed front
  pub served : IsServed t front answers between
  pub in_line : IsInFirst between rest u

-- this table was reached, or where not all was kept before the lines, it is the one that was
abbrev pub MayStand : (all_kept : Type 0) (kept t : List JobParts) (ls : List (List ℕ))
    (u : List JobParts) → Type 0
MayStand all_kept kept t ls u = IsReached t ls u ⊎ ((¬ all_kept) × (u ≡ kept))
