-- Lines that are looked at one after the other, and texts that have a fault or none.
use Rattle.std.proofs.Common.{◌≡◌, ℕ, ◌||◌, Bool, true, false, List, [], ◌∷◌, Result, Ok, Err, inl, inr, refl, sym, subst}
use Rattle.std.proofs.Math.Bool.{or-false}
use Rattle.std.specs.List.{AllByRecursion}
use Rattle.ic_lines.specs.Lines.{lines}
use Rattle.ic_text.specs.declared.fault.TextFault.{TextFault}
use Rattle.ic_check.specs.Faults.{HasFault, HasFaulty, OneHasFault}

-- what is so of what is left is so of the whole
abbrev pub GoesOn : (One : List ℕ → Bool → Type 0) (text rest : List ℕ) → Bool → Type 0
GoesOn One text rest faulty = (later : Bool) → HasFaulty One (lines rest) later → HasFaulty One (lines text) (faulty || later)

or_assoc : (a b d : Bool) → ((a || b) || d) ≡ (a || (b || d))
or_assoc true b d = refl
or_assoc false b d = refl

module _ (One : List ℕ → Bool → Type 0) where
  first : (line : List ℕ) (ls : List (List ℕ)) (here later : Bool) → One line here → HasFaulty One ls later → HasFaulty One (line ∷ ls) (here || later)
  first line ls true later one rest = inl one
  first line ls false true one rest = inr rest
  first line ls false false one rest = (one, rest)

  pub line_more : (text rest line after : List ℕ) (faulty here : Bool) → lines rest ≡ line ∷ lines after → One line here
      → GoesOn One text rest faulty → GoesOn One text after (faulty || here)
  line_more text rest line after faulty here split one goes later is =
      let whole : HasFaulty One (lines rest) (here || later) =
      subst (λ (ls : List (List ℕ)). HasFaulty One ls (here || later)) (sym split) (first line (lines after) here later one is) in
      subst (λ (b : Bool). HasFaulty One (lines text) b) (sym (or_assoc faulty here later)) (goes (here || later) whole)

  pub lines_end : (text rest : List ℕ) (faulty : Bool) → rest ≡ [] → GoesOn One text rest faulty → HasFaulty One (lines text) faulty
  lines_end text rest faulty none goes =
      let there = goes false (subst (λ (l : List ℕ). HasFaulty One (lines l) false) (sym none) tt) in
      subst (λ (b : Bool). HasFaulty One (lines text) b) (or-false faulty) there

  -- ---- what has a fault isn't without one

  module _ (only : (line : List ℕ) (a b : Bool) → One line a → One line b → a ≡ b) where
    apart : (ls : List (List ℕ)) → OneHasFault One ls → AllByRecursion (λ line. One line false) ls → ⊥
    apart [] has none = has
    apart (line ∷ ls) (inl here) none = let bad = only line true false here none.0 in cc
    apart (line ∷ ls) (inr later) none = apart ls later none.1

    pub one_of_each : (ls : List (List ℕ)) (a b : Bool) → HasFaulty One ls a → HasFaulty One ls b → a ≡ b
    one_of_each ls true true x y = refl
    one_of_each ls false false x y = refl
    one_of_each ls true false x y = absurd (apart ls x y)
    one_of_each ls false true x y = absurd (apart ls y x)

  pub each_or_one : ((line : List ℕ) → (b : Bool) × One line b) → (ls : List (List ℕ)) → (b : Bool) × HasFaulty One ls b
  each_or_one total [] = (false, tt)
  each_or_one total (line ∷ ls) =
      let here = total line in
      let later = each_or_one total ls in
      (here.0 || later.0, first line ls here.0 later.0 here.1 later.1)

pub one_fault : {V : Type 0} (Reads : Result V TextFault → Type 0) → ((a b : Result V TextFault) → Reads a → Reads b → a ≡ b) → (a b : Bool) → HasFault Reads a → HasFault Reads b → a ≡ b
one_fault Reads only true true x y = refl
one_fault Reads only false false x y = refl
one_fault Reads only true false x y = let bad = only (Err x.0) (Ok y.0) x.1 y.1 in cc
one_fault Reads only false true x y = let bad = only (Ok x.0) (Err y.0) x.1 y.1 in cc

pub fault_or_none : {V : Type 0} (Reads : Result V TextFault → Type 0) → ((a : Result V TextFault) × Reads a) → (b : Bool) × HasFault Reads b
fault_or_none Reads (Ok value, is) = (false, (value, is))
fault_or_none Reads (Err fault, is) = (true, (fault, is))
