-- How a text spells a phrase of some kind, and what it is read as.
use Rattle.std.specs.Prelude.{◌≡◌, ℕ, ◌<◌, ◌≤◌, List, Some, Result, Err, length}
use Rattle.ic_text.specs.declared.limits.Limits.{Limits}
use Rattle.ic_text.specs.declared.limits.Limits.TheVariants.{Served}
use Rattle.ic_text.specs.declared.fault.TextFault.{TextFault}
use Rattle.ic_text.specs.declared.fault.TextFault.TheVariants.{Syntax, Limit}
use Rattle.ic_text.specs.Limits.{most_bytes}
use Rattle.ic_text.specs.Token.{Token, tokens}

-- a text spells what is written there: its tokens are those of the phrase
pub record IsSpelling {P : Type 0} (IsOne : P → Type 0) (words : P → List Token) (text : List ℕ)
    (p : P) : Type 0 where
  pub phrase : IsOne p
  pub tokens : tokens text ≡ Some (words p)

-- What a text is read as: a limit where the text is too long, else the sense of what it spells,
-- else no phrase (this project's choice).
pub record IsReadingWithin (limits : Limits) {P V : Type 0} (SpellsOne : List ℕ → P → Type 0)
    (sense : P → Result V TextFault) (text : List ℕ) (answer : Result V TextFault) : Type 0 where
  pub long : most_bytes limits < length text → answer ≡ Err Limit
  pub spelled : length text ≤ most_bytes limits → (p : P) → SpellsOne text p → answer ≡ sense p
  pub malformed : length text ≤ most_bytes limits → ((p : P) → SpellsOne text p → ⊥)
      → answer ≡ Err Syntax

-- the same with the limits of what is served
abbrev pub IsReading : {P V : Type 0} → (List ℕ → P → Type 0) → (P → Result V TextFault) → List ℕ
    → Result V TextFault → Type 0
IsReading SpellsOne sense text answer = IsReadingWithin Served SpellsOne sense text answer
