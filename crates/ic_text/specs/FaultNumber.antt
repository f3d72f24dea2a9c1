-- The numbers of refusals.
use Rattle.std.specs.Prelude.{ℕ, List, [], ◌∷◌}
use Rattle.ic_text.specs.declared.fault.TextFault.{TextFault}
use Rattle.ic_text.specs.declared.fault.TextFault.TheVariants.{Syntax, Limit, Arity, NameCount, Name, Twice, Lopsided, Memory}

-- the lasting number of a refusal
abbrev pub fault_number : TextFault → ℕ
fault_number Syntax = 1
fault_number Limit = 2
fault_number Arity = 3
fault_number (NameCount i) = 4
fault_number (Name n) = 5
fault_number (Twice i) = 6
fault_number (Lopsided i) = 7
fault_number Memory = 8

-- all refusals in the order of their lasting numbers, of the rule with this index, or of this name
abbrev pub all_faults : ℕ → ℕ → List TextFault
all_faults rule n =
    Syntax ∷ Limit ∷ Arity ∷ NameCount rule ∷ Name n ∷ Twice rule ∷ Lopsided rule ∷ Memory ∷ []
