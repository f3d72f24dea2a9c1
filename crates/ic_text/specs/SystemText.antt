-- What a text of a system is read as.
use Rattle.std.specs.Prelude.{ℕ, ◌≤◌, List, Result, length}
use Rattle.ic_rules.specs.System.{SystemParts}
use Rattle.ic_text.specs.declared.fault.TextFault.{TextFault}
use Rattle.ic_text.specs.declared.limits.Limits.{Limits}
use Rattle.ic_text.specs.declared.limits.Limits.TheVariants.{Served}
use Rattle.ic_text.specs.Limits.{most_bytes}
use Rattle.ic_text.specs.SystemSource.{SystemPhrase, IsSystemPhrase, system_words}
use Rattle.ic_text.specs.SystemSense.{system_sense_within}
use Rattle.ic_text.specs.Reading.{IsSpelling, IsReadingWithin}

-- a text spells a system
abbrev pub SpellsSystem : List ℕ → SystemPhrase → Type 0
SpellsSystem text s = IsSpelling IsSystemPhrase system_words text s

-- a text that isn't too long spells some system
abbrev pub IsSystemTextWithin : Limits → List ℕ → Type 0
IsSystemTextWithin limits text =
    (length text ≤ most_bytes limits) × ((s : SystemPhrase) × SpellsSystem text s)

-- what a text of a system is read as
abbrev pub ReadsSystemWithin : Limits → List ℕ → Result SystemParts TextFault → Type 0
ReadsSystemWithin limits text answer =
    IsReadingWithin limits SpellsSystem (system_sense_within limits) text answer

-- the same with the limits of what is served
abbrev pub IsSystemText : List ℕ → Type 0
IsSystemText text = IsSystemTextWithin Served text

abbrev pub ReadsSystem : List ℕ → Result SystemParts TextFault → Type 0
ReadsSystem text answer = ReadsSystemWithin Served text answer
