-- For private functions: the registers that names are read from.
use Rattle.std.specs.Prelude.{◌≡◌, ◌⊎◌, ℕ, ◌+◌, ◌<◌, ◌≤◌, List, [], ◌∷◌, Some, length, slice_get, unwrap_or, if◌then◌else◌}
use Rattle.ic_names.specs.declared.table.NameTable.{NameTable}
pub use Rattle.ic_names.specs.Table.{found}
use Rattle.ic_term.specs.Tree.{name}
use Rattle.ic_rules.specs.Rule.{Rule}
use Rattle.ic_machine.specs.Plan.{Planned, IsPlan}
use Rattle.ic_machine.specs.declared.plan.Link.{Link}
use Rattle.ic_meaning.specs.Plans.{Argument, is_read, rule_arguments, StandsFor}

-- the registers of names
abbrev pub Registers : Type 0
Registers = NameTable

-- the register of a name, which is 0 for a name that has none
abbrev pub register_of : Registers → ℕ → ℕ
register_of registers x = unwrap_or (found registers x) 0

-- Each name of the map has that of an argument that is this name, or one of so many registers from one on, and no two
-- names have the same. A name that is an argument by itself has none of the latter.
pub record AreRegisters (arguments : List Argument) (start fresh : ℕ) (registers : Registers) : Type 0 where
  pub read : (x r : ℕ) → found registers x ≡ Some r
      → ((start ≤ r) × (r < start + fresh))
      ⊎ ((i : ℕ) × (slice_get arguments i ≡ Some (record { register = r; term = name x })))
  pub apart : (x y r : ℕ) → found registers x ≡ Some r → found registers y ≡ Some r → x ≡ y
  pub own : (i s x : ℕ) → slice_get arguments i ≡ Some (record { register = s; term = name x })
      → (r : ℕ) × (found registers x ≡ Some r) × ¬ ((start ≤ r) × (r < start + fresh))

-- each of so many fresh registers is that of one of so many names
abbrev pub AreFreshNames : (names start fresh : ℕ) → Registers → Type 0
AreFreshNames names start fresh registers = (k : ℕ) → k < fresh
    → (x : ℕ) × (x < names) × (found registers x ≡ Some (start + k))

-- arguments linked with the registers of their terms, except for a name that is read from its own register
abbrev pub links_of : (ℕ → ℕ) → List Argument → List ℕ → List Link
links_of registers [] operands = []
links_of registers (a ∷ arguments) [] = []
links_of registers (a ∷ arguments) (o ∷ operands) =
    if is_read registers a then links_of registers arguments operands
    else record { left = a.register; right = o } ∷ links_of registers arguments operands

-- A plan for the arguments of a rule, which stands for it.
pub record IsPlanFor (arities : List ℕ) (r : Rule) (p : Planned) : Type 0 where
  pub plan : IsPlan arities (length (rule_arguments r)) p
  pub stands : StandsFor arities r p
