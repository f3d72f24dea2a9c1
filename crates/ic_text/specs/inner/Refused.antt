-- For private functions: a refusal without where it is found, and one word more that is numbered.
use Rattle.std.specs.Prelude.{◌≡◌, ◌⊎◌, [], ◌∷◌, ◌++◌, Result, Ok, Err, is_some, true}
use Rattle.ic_term.specs.Symbol.{Symbol}
use Rattle.ic_term.specs.declared.symbols.SymbolFault.{SymbolFault}
use Rattle.ic_term.specs.declared.symbols.SymbolFault.TheVariants.{Limit as OverLimit, Arity as OtherArity}
use Rattle.ic_text.specs.declared.fault.TextFault.{TextFault}
use Rattle.ic_text.specs.declared.fault.TextFault.TheVariants.{Limit, Memory}
use Rattle.ic_text.specs.declared.misread.Misread.{Misread}
use Rattle.ic_flat.specs.declared.word.Word.{Word}
use Rattle.ic_text.specs.declared.number.Numbering.{Numbering}
use Rattle.ic_text.specs.declared.refusal.Refusal.{Refusal}
use Rattle.ic_text.specs.inner.Numbered.{table_with}

-- a result without the word of its refusal
abbrev pub bare : {A : Type 0} → Result A Refusal → Result A TextFault
bare (Ok v) = Ok v
bare (Err refusal) = Err refusal.fault

-- the same of a refusal with its place
abbrev pub faulted : {A : Type 0} → Result A Misread → Result A TextFault
faulted (Ok v) = Ok v
faulted (Err misread) = Err misread.fault

-- the words numbered so far with one more word, by what was found of it
abbrev pub Takes : Symbol → Result Word SymbolFault → Numbering → Numbering → Type 0
Takes w (Ok word) old new = (new.symbols ≡ table_with old.symbols w)
    × (new.words.items ≡ old.words.items ++ word ∷ []) × (new.clash ≡ old.clash)
Takes w (Err (OtherArity n)) old new = (new.symbols ≡ old.symbols)
    × (new.words.items ≡ old.words.items) × (is_some new.clash ≡ true)
Takes w (Err e) old new = ⊥

-- a growth was refused, or this word passes a limit
abbrev pub Stops : Result Word SymbolFault → TextFault → Type 0
Stops found fault = (fault ≡ Memory) ⊎ ((found ≡ Err OverLimit) × (fault ≡ Limit))
