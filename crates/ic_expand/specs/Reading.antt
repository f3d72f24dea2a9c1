-- What a text says of its symbols and rules.
use Rattle.std.specs.Prelude.{ℕ, ◌+◌, ◌-◌, ◌==◌, List, [], ◌∷◌, ◌++◌, Bool, false, ◌&&◌, ◌||◌, not, length, nat_lt, if◌then◌else◌}
use Rattle.std.specs.List.{concat, fold, list_any, take_while}
use Rattle.std.specs.Str.{bytes_eq}
use Rattle.ic_text.specs.Token.{is_blank}
use Rattle.ic_term.specs.Symbol.{Symbol, is_symbol_text}
use Rattle.ic_term.specs.declared.limits.TheConstants.{MAX_WIDE_SYMBOLS}
use Rattle.ic_expand.specs.declared.spot.Spot.{Spot}
use Rattle.ic_expand.specs.declared.spot.Spot.TheVariants.{Elsewhere, Opening, Asked}
use Rattle.ic_expand.specs.Generic.{arity_of}
use Rattle.ic_expand.specs.Pieces.{joins}
use Rattle.ic_expand.specs.Spots.{after}

-- the commas before the `)` that closes, where so many others are open
abbrev pub commas : (depth : ℕ) → List ℕ → ℕ
commas depth [] = 0
commas depth (b ∷ bs) = if b == 40 then commas (depth + 1) bs
    else (if b == 41 then (if depth == 0 then 0 else commas (depth - 1) bs)
    else (if b == 44 && depth == 0 then 1 + commas depth bs else commas depth bs))

-- the number of arguments with which a text goes on after a symbol
abbrev pub arguments : List ℕ → ℕ
arguments [] = 0
arguments (b ∷ bs) = if is_blank b then arguments bs
    else (if b == 40 then 1 + commas 0 bs else 0)

-- whether a piece is a symbol in a term: after `copy` and `erase` it is none
abbrev pub is_use : Spot → List ℕ → Bool
is_use (Asked kind) p = false
is_use spot p = is_symbol_text p

-- the symbols of terms, each with its number of arguments, as often as they stand
abbrev pub uses : Spot → List (List ℕ) → List Symbol
uses spot [] = []
uses spot (p ∷ ps) = if is_use spot p
    then record { text = p; arity = arguments (concat ps) } ∷ uses (after spot p) ps
    else uses (after spot p) ps

-- whether a text is that of one of these symbols
abbrev pub is_known : List ℕ → List Symbol → Bool
is_known text ss = list_any (λ s. bytes_eq text s.text) ss

-- a symbol is noted where it stands first, as long as there are few
abbrev pub noted : List Symbol → Symbol → List Symbol
noted ss s = if is_known s.text ss || not (nat_lt (length ss) MAX_WIDE_SYMBOLS) then ss
    else ss ++ s ∷ []

-- the symbols of terms by first occurrence, each with its number of arguments there
abbrev pub used_symbols : List (List ℕ) → List Symbol
used_symbols ps = fold noted [] (uses Elsewhere ps)

-- the symbol that `copy` or `erase` names, with as many arguments as it has to have
abbrev pub asked_by : Spot → List ℕ → List Symbol
asked_by (Asked kind) p = if is_symbol_text p then record { text = p; arity = arity_of kind } ∷ [] else []
asked_by spot p = []

abbrev pub asked : Spot → List (List ℕ) → List Symbol
asked spot [] = []
asked spot (p ∷ ps) = asked_by spot p ++ asked (after spot p) ps

-- the symbols of a text: those of terms, and then those that only `copy` and `erase` name
abbrev pub symbols_of : List (List ℕ) → List Symbol
symbols_of ps = fold noted (used_symbols ps) (asked Elsewhere ps)

-- what stands in a text after the first such byte
abbrev pub beyond : ℕ → List ℕ → List ℕ
beyond m [] = []
beyond m (b ∷ bs) = if b == m then bs else beyond m bs

-- the word with which a text begins after its blanks
abbrev pub leading_word : List ℕ → List ℕ
leading_word [] = []
leading_word (b ∷ bs) = if is_blank b then leading_word bs else take_while joins (b ∷ bs)

-- the second symbol of a rule, which stands after `><`
abbrev pub partner : List ℕ → List ℕ
partner rest = leading_word (beyond 60 (beyond 62 rest))

-- whether a piece is the first symbol of a rule
abbrev pub is_head : Spot → List ℕ → Bool
is_head Opening p = is_symbol_text p
is_head spot p = false

-- the two symbols of each rule that is given, from this place on, and in all
abbrev pub heads : Spot → List (List ℕ) → List (List ℕ × List ℕ)
heads spot [] = []
heads spot (p ∷ ps) = if is_head spot p then (p, partner (concat ps)) ∷ heads (after spot p) ps
    else heads (after spot p) ps

abbrev pub pairs_of : List (List ℕ) → List (List ℕ × List ℕ)
pairs_of ps = heads Elsewhere ps
