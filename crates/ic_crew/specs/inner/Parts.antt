-- For private functions. Works with their sizes, and parts that works are dealt to.
use Rattle.std.specs.Prelude.{◌≡◌, ℕ, ◌+◌, ◌==◌, List, Bool, ◌&&◌, ◌||◌, map, min, nat_lt, slice_index, slice_set}
use Rattle.ic_rules.specs.Rule.{Rule}
use Rattle.ic_round.specs.Works.{PlainWork}
use Rattle.ic_round.specs.WorkViews.{work_of}
use Rattle.ic_crew.specs.Sizes.{work_size}
use Rattle.ic_crew.specs.Dealing.{IsLeast, with_work}
use Rattle.ic_crew.specs.WorkLists.{works_of}
use Rattle.ic_crew.specs.declared.weighing.Weighed.{Weighed}
use Rattle.ic_crew.specs.declared.parts.Parts.{Parts}
use Rattle.ic_crew.specs.declared.sizes.TheConstants.{MAX_SIZE}

-- the work, without its size
abbrev pub plain_work : Weighed → PlainWork
plain_work w = work_of w.work

-- The size is the work's.
abbrev pub IsWeighed : List Rule → Weighed → Type 0
IsWeighed rs w = w.size ≡ work_size rs (work_of w.work)

-- the first of two works with their sizes is dealt before the second
abbrev pub is_heavier : Weighed → Weighed → Bool
is_heavier v w =
    nat_lt w.size v.size || (w.size == v.size && nat_lt v.work.place w.work.place)

-- the works of each part
abbrev pub lists_of : Parts → List (List PlainWork)
lists_of parts = map works_of parts.works.items

-- The first of the least parts has a work more, and its size.
pub record TakesWork (size : ℕ) (w : PlainWork) (before after : Parts) : Type 0 where
  pub place : ℕ
  pub least : IsLeast before.sizes.items place
  pub sizes : after.sizes.items
      ≡ slice_set before.sizes.items place (min (slice_index before.sizes.items place + size) MAX_SIZE)
  pub works : lists_of after ≡ with_work place w (lists_of before)
