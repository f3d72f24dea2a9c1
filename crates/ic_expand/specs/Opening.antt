-- What a word reads of the text that a reader gives (this project's choice).
use Rattle.std.specs.Prelude.{◌≡◌, ℕ, List, Bool, true, false, Option, Some, Ok}
use Rattle.std.specs.Io.Chain.{chain_remaining}
use Rattle.std.specs.Io.Cursor.{cursor_remaining}
use Rattle.ic_expand.specs.Streams.{Expands, TakesWhole}
use Rattle.ic_expand.specs.declared.opening.Begun.{Begun}
use Rattle.ic_expand.specs.declared.opening.Begun.TheVariants as begun
use Rattle.ic_expand.specs.declared.opening.Opened.{Opened}
use Rattle.ic_expand.specs.declared.opening.Opened.TheVariants.{Going, Whole, Rich}

-- the bytes that are left to a word, where those of its reader are known
abbrev pub left_of : {R : Type 0} → (R → Option (List ℕ)) → Opened R → Option (List ℕ)
left_of rest (Going text) = chain_remaining (cursor_remaining (λ bytes. Some bytes.items)) rest text
left_of rest (Whole text) = cursor_remaining (λ bytes. Some bytes.items) text
left_of rest (Rich text wording) = cursor_remaining (λ bytes. Some bytes.items) text

-- whether what is read is what a rich text is expanded to
abbrev pub is_expanded : {R : Type 0} → Opened R → Bool
is_expanded (Going text) = false
is_expanded (Whole text) = false
is_expanded (Rich text wording) = true

-- a text that isn't rich is read as it is
abbrev pub BeginsPlain : {R : Type 0} → (R → Option (List ℕ)) → List ℕ → Begun R → Type 0
BeginsPlain rest text (begun.Plain opened) = (is_expanded opened ≡ false) × (left_of rest opened ≡ Some text)
BeginsPlain rest text (begun.Rich whole) = ⊥

-- of a rich text all is read, or one byte more than one may have
abbrev pub BeginsRich : {R : Type 0} → List ℕ → Begun R → Type 0
BeginsRich text (begun.Plain opened) = ⊥
BeginsRich text (begun.Rich whole) = (rest : Option (List ℕ)) × TakesWhole whole.items (Some text) rest

-- of a rich text is read what it is expanded to
abbrev pub ReadsRich : {R : Type 0} → (R → Option (List ℕ)) → List ℕ → Opened R → Type 0
ReadsRich rest text opened = (is_expanded opened ≡ true)
    × (out : List ℕ) × (left_of rest opened ≡ Some out) × Expands text (Ok out)
