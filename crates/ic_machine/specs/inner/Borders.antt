-- How the ends of cuts are kept and found.
use Rattle.std.specs.Prelude.{◌≡◌, ℕ, ◌==◌, ◌≤◌, Option, Some, map}
use Rattle.std.specs.HashMap.{HashMap, get, IsUnique}
use Rattle.std.specs.declared.hash.FoldHasher.{FoldHasher}
use Rattle.std.specs.declared.hash.BuildHasherDefault.{BuildHasherDefault}
use Rattle.ic_machine.specs.declared.borders.Border.{Border}
use Rattle.ic_machine.specs.declared.borders.Borders.TheInside.{Inside}
use Rattle.ic_machine.specs.Moving.{CutEnd, Ends}

-- a map from numbers of cuts to borders
abbrev pub ByCut : Type 0
ByCut = HashMap ℕ Border (BuildHasherDefault FoldHasher)

-- a map from names to numbers of cuts
abbrev pub ByName : Type 0
ByName = HashMap ℕ ℕ (BuildHasherDefault FoldHasher)

-- the border of this cut
abbrev pub border_at : ByCut → ℕ → Option Border
border_at m c = get (λ a b. a == b) m c

-- the cut of this name
abbrev pub cut_at : ByName → ℕ → Option ℕ
cut_at m n = get (λ a b. a == b) m n

-- The cut of each border is found by its name, and no other cut is found.
pub record ArePaired (borders : ℕ → Option Border) (cuts : ℕ → Option ℕ) : Type 0 where
  pub named : (c : ℕ) (b : Border) → borders c ≡ Some b → cuts b.name ≡ Some c
  pub bordered : (n c : ℕ) → cuts n ≡ Some c → (b : Border) × (borders c ≡ Some b) × (b.name ≡ n)

abbrev pub end_of : ℕ × Border → CutEnd
end_of e = record { cut = e.0; name = e.1.name }

abbrev pub ends_of : Inside → Ends
ends_of b = record {
  ends = map end_of b.by_cut.entries;
  ended = b.ended.items;
  next = b.next;
  step = b.step;
}

pub record AreListed (b : Inside) : Type 0 where
  pub paired : ArePaired (border_at b.by_cut) (cut_at b.by_name)
  pub unique : IsUnique (λ a b. a == b) b.by_cut
  pub step : 1 ≤ b.step
