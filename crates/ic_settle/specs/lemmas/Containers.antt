-- Where the occurrences of a name are while equations are removed. Each equation is a container, and
-- so is the interface; the number of a removed equation is linked to the container that took what it
-- held. What settling is doesn't rest on this.
use Rattle.std.specs.Prelude.{◌≡◌, ℕ, suc, ◌<◌, ◌≤◌, ◌==◌, List, [], ◌∷◌, Option, None, Some, length, slice_index, MatchOption, if◌then◌else◌, ◌⊎◌}
use Rattle.std.specs.List.{flat_map}
use Rattle.std.specs.Option.{option_map}
use Rattle.ic_term.specs.Tree.{Tree, name, agent, Pair, names, pair_names}
use Rattle.ic_settle.specs.declared.applicability.Side.{Side}
use Rattle.ic_settle.specs.declared.applicability.Applicable.{Applicable}
use Rattle.ic_settle.specs.declared.applicability.Outlet.{Outlet}
use Rattle.ic_settle.specs.declared.applicability.Side.TheVariants.{Left, Right}

-- ---- links between containers

-- a container without a link is linked to itself; a link goes to a later container, or to one
-- without a link
pub record IsLinked (links : List ℕ) : Type 0 where
  pub within : (e : ℕ) → e < length links → slice_index links e < length links
  pub ahead : (e : ℕ) → e < length links
      → (slice_index links (slice_index links e) ≡ slice_index links e) ⊎ (e < slice_index links e)

-- where the links from each container end
pub record IsRoot (links : List ℕ) (root : ℕ → ℕ) : Type 0 where
  pub within : (e : ℕ) → e < length links → root e < length links
  pub ends : (e : ℕ) → e < length links → slice_index links (root e) ≡ root e
  pub own : (e : ℕ) → e < length links → slice_index links e ≡ e → root e ≡ e
  pub along : (e : ℕ) → e < length links → root (slice_index links e) ≡ root e

-- the containers from a place on have no link
abbrev pub AreUnlinkedFrom : ℕ → List ℕ → Type 0
AreUnlinkedFrom place links = (e : ℕ) → place ≤ e → e < length links → slice_index links e ≡ e

-- a link set: what ended at a container ends at the other one
abbrev pub redirected : ℕ → ℕ → (ℕ → ℕ) → ℕ → ℕ
redirected place target root e = if root e == place then target else root e

-- ---- the containers in which each name occurs

-- the first and the last container of a name, once it is met in one more
abbrev pub noted : ℕ → Option (ℕ × ℕ) → Option (ℕ × ℕ)
noted place None = Some (place, place)
noted place (Some p) = Some (p.0, place)

-- those of a name, once the names of a container are met
abbrev pub noted_in : ℕ → ℕ → List ℕ → Option (ℕ × ℕ) → Option (ℕ × ℕ)
noted_in y place [] found = found
noted_in y place (n ∷ ns) found = noted_in y place ns (if n == y then noted place found else found)

-- those of a name, once equations, numbered from a place on, are met
abbrev pub noted_equations : ℕ → ℕ → List Pair → Option (ℕ × ℕ) → Option (ℕ × ℕ)
noted_equations y place [] found = found
noted_equations y place (p ∷ ps) found =
    noted_equations y (suc place) ps (noted_in y place (pair_names p) found)

-- those of a name, once the equations and the interface, numbered after them, are met
abbrev pub noted_from : ℕ → ℕ → List Pair → List Tree → Option (ℕ × ℕ) → Option (ℕ × ℕ)
noted_from y place [] ts found = noted_in y place (flat_map names ts) found
noted_from y place (p ∷ ps) ts found =
    noted_from y (suc place) ps ts (noted_in y place (pair_names p) found)

-- what is noted are containers
abbrev pub AreKnown : List ℕ → (ℕ → Option (ℕ × ℕ)) → Type 0
AreKnown links look = (y : ℕ) (p : ℕ × ℕ) → look y ≡ Some p
    → (p.0 < length links) × (p.1 < length links)

-- ---- the choice of a side

-- the container, other than this one, in which a name occurs
abbrev pub elsewhere : (ℕ → ℕ) → ℕ → Option (ℕ × ℕ) → Option ℕ
elsewhere root place None = None
elsewhere root place (Some p) =
    if root p.0 == place
    then (if root p.1 == place then None else Some (root p.1))
    else Some (root p.0)

-- a side that is a name which occurs in another container
abbrev pub outlet_at : (ℕ → Option ℕ) → Side → Tree → Option Outlet
outlet_at other side (name x) =
    option_map (λ target. record { name = x; side = side; target = target }) (other x)
outlet_at other side (agent s ts) = None

abbrev pub first_outlet : Option Outlet → Option Outlet → Option Outlet
first_outlet (Some o) _ = Some o
first_outlet None o = o

-- the first such side of an equation
abbrev pub outlet : (ℕ → Option ℕ) → Tree → Tree → Option Outlet
outlet other left right = first_outlet (outlet_at other Left left) (outlet_at other Right right)

-- the target of an outlet is another container, without a link
abbrev pub IsOutlet : List ℕ → ℕ → Outlet → Type 0
IsOutlet links place o =
    (o.target < length links) × ((slice_index links o.target ≡ o.target) × (o.target ≡ place → ⊥))

abbrev pub applicable_of : Outlet → Applicable
applicable_of o = record { name = o.name; side = o.side }

-- the applicable side of an equation, and where the links end then
abbrev pub IsChosen :
    (ℕ → ℕ) → ℕ → (ℕ → Option (ℕ × ℕ)) → Pair → List ℕ → Option Applicable → Type 0
IsChosen root place look p links found =
    MatchOption (outlet (λ y. elsewhere root place (look y)) p.left p.right)
    ((found ≡ None) × IsRoot links root)
    (λ o. (found ≡ Some (applicable_of o)) × IsRoot links (redirected place o.target root))
