-- For private functions: why a text with forms isn't expanded, and what is read at its front.
use Rattle.std.specs.Prelude.{◌≡◌, ◌⊎◌, ◌≤◌, ℕ, List, Bool, true, false, Option, length}
use Rattle.std.specs.Io.KnownBytes.{Consumes, IsAtEnd}
use Rattle.ic_text.specs.declared.fault.TextFault.TheVariants.{Syntax, Limit}
use Rattle.ic_expand.specs.declared.texts.Unexpanded.{Unexpanded}
use Rattle.ic_expand.specs.declared.texts.Unexpanded.TheVariants.{Refused, Memory}

-- one with forms is refused, or memory ran out
abbrev pub IsOfForms : Unexpanded → Type 0
IsOfForms (Refused refusal) = (refusal.fault ≡ Syntax) ⊎ (refusal.fault ≡ Limit)
IsOfForms Memory = Unit {0}

-- these bytes are taken: all that there are, or as many as tell whether a text is marked
abbrev pub TakesFront : (front : List ℕ) → (is_whole : Bool) → Option (List ℕ) → Option (List ℕ) → Type 0
TakesFront front is_whole old new = Consumes old new front
    × (is_whole ≡ true → IsAtEnd new) × (is_whole ≡ false → 6 ≤ length front)
