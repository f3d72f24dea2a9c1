-- The text of the calculus that a text stands for, or why there is none.
use Rattle.std.specs.Prelude.{ℕ, ◌+◌, ◌==◌, List, [], ◌∷◌, ◌++◌, Bool, true, false, ◌||◌, Option, None, Some, Result, Ok, Err, filter, length, map, nat_le, if◌then◌else◌}
use Rattle.std.specs.Str.{bytes_eq}
use Rattle.ic_text.specs.Token.{is_blank}
use Rattle.ic_term.specs.Symbol.{Symbol, is_symbol_text}
use Rattle.ic_expand.specs.declared.fault.Reason.{Reason}
use Rattle.ic_expand.specs.declared.fault.Reason.TheVariants.{TextBytes, NoText, NotSymbol, NoSymbol, NoCopier, NoEraser, Again, NoRules, NoEnd}
use Rattle.ic_expand.specs.declared.fault.ExpandFault.{ExpandFault}
use Rattle.ic_expand.specs.declared.fault.ExpandFault.TheVariants.{Refused}
use Rattle.ic_expand.specs.declared.limits.TheConstants.{MAX_RICH_TEXT}
use Rattle.ic_expand.specs.declared.names.Spelling.TheVariants.{Short, Long}
use Rattle.ic_expand.specs.declared.spot.Kind.{Kind}
use Rattle.ic_expand.specs.declared.spot.Kind.TheVariants.{Copier, Eraser}
use Rattle.ic_expand.specs.declared.spot.Spot.{Spot}
use Rattle.ic_expand.specs.declared.spot.Spot.TheVariants.{Elsewhere, Opening, Asked, Given}
use Rattle.ic_expand.specs.Begins.{blanks_before, is_begun}
use Rattle.ic_expand.specs.Comments.{uncommented}
use Rattle.ic_expand.specs.Pieces.{first_byte, pieces}
use Rattle.ic_expand.specs.Spots.{after, after_first}
use Rattle.ic_expand.specs.Reading.{pairs_of, symbols_of}
use Rattle.ic_expand.specs.Names.{is_among, names_of, spare_of, told_word, with_word}
use Rattle.ic_expand.specs.Generic.{arity_of, generic_rule, in_row, is_wanted}

-- what a text says of its symbols, of the rules that it gives, and of its names
pub record Sheet : Type 0 where
  pub symbols : List Symbol
  pub pairs : List (List ℕ × List ℕ)
  pub longs : List (List ℕ)
  pub spare : List ℕ

abbrev pub sheet_of : List (List ℕ) → Sheet
sheet_of ps = record {
  symbols = symbols_of ps;
  pairs = pairs_of ps;
  longs = names_of Long ps;
  spare = spare_of (names_of Short ps) (names_of Long ps);
}

-- the symbols with which a copier or an eraser gets a rule
abbrev pub wanted : Sheet → (earlier : List (List ℕ)) → List ℕ → List Symbol
wanted sheet earlier s = filter (is_wanted sheet.pairs earlier s) sheet.symbols

-- the rules for which `copy` or `erase` and this symbol stand
abbrev pub rules_of : Sheet → (earlier : List (List ℕ)) → Kind → List ℕ → List (List ℕ)
rules_of sheet earlier kind s = map (generic_rule kind s) (wanted sheet earlier s)

-- whether a copier or an eraser has as many arguments as a symbol has
abbrev pub is_for : Kind → Option ℕ → Bool
is_for kind None = false
is_for kind (Some n) = n == arity_of kind

-- `copy` and `erase` aren't written
abbrev pub kept_word : Spot → List ℕ → List ℕ
kept_word (Asked kind) p = []
kept_word spot p = p

-- what a piece is written as
abbrev pub piece_text : Sheet → (earlier : List (List ℕ)) → Spot → List ℕ → List ℕ
piece_text sheet earlier Opening p = kept_word (after_first p) p
piece_text sheet earlier (Asked kind) p = if is_blank (first_byte p) then p
    else in_row true (rules_of sheet earlier kind p)
piece_text sheet earlier spot p = told_word sheet.longs sheet.spare p

-- how many arguments a text has with this symbol where that stands first, if it stands in a term
abbrev pub arity_in : List Symbol → List ℕ → Option ℕ
arity_in [] s = None
arity_in (t ∷ ts) s = if bytes_eq s t.text then Some t.arity else arity_in ts s

-- what is amiss with a piece that no term has
abbrev pub unknown : List ℕ → Reason
unknown p = if is_symbol_text p then NoSymbol else NotSymbol

-- what is amiss with a piece that isn't the symbol that is looked for, by how many arguments it has in a term
abbrev pub lack_of : Kind → List ℕ → Option ℕ → Reason
lack_of kind p None = unknown p
lack_of Copier p (Some n) = NoCopier n
lack_of Eraser p (Some n) = NoEraser n

-- why there are no rules, if there are none: an earlier line is of the same symbol, or none is left
abbrev pub unless_some : (again : Bool) → List Symbol → Option Reason
unless_some again [] = Some (if again then Again else NoRules)
unless_some again (t ∷ ts) = None

-- a generic rule ends with `;` or `}`
abbrev pub is_end : ℕ → Bool
is_end b = b == 59 || b == 125

-- why a piece is refused that is no blank, if it is
abbrev pub refused_at : Sheet → (earlier : List (List ℕ)) → Spot → List ℕ → Option Reason
refused_at sheet earlier (Asked kind) p = if is_for kind (arity_in sheet.symbols p)
    then unless_some (is_among p earlier) (wanted sheet earlier p)
    else Some (lack_of kind p (arity_in sheet.symbols p))
refused_at sheet earlier Given p = if is_end (first_byte p) then None else Some NoEnd
refused_at sheet earlier spot p = None

abbrev pub refusal : Sheet → (earlier : List (List ℕ)) → Spot → List ℕ → Option Reason
refusal sheet earlier spot p = if is_blank (first_byte p) then None
    else refused_at sheet earlier spot p

-- the copiers and erasers with the one that stands here
abbrev pub with_generic : List (List ℕ) → Spot → List ℕ → List (List ℕ)
with_generic earlier (Asked kind) p = if is_blank (first_byte p) then earlier else with_word earlier p
with_generic earlier spot p = earlier

-- a text before what follows, unless that is refused
abbrev pub before_text : List ℕ → Result (List ℕ) ExpandFault → Result (List ℕ) ExpandFault
before_text text (Ok rest) = Ok (text ++ rest)
before_text text (Err fault) = Err fault

-- a piece before what follows, unless it is refused
abbrev pub unless_refused : Option Reason → (at : ℕ) → List ℕ → Result (List ℕ) ExpandFault
    → Result (List ℕ) ExpandFault
unless_refused (Some reason) at text rest = Err (Refused reason at)
unless_refused None at text rest = before_text text rest

-- what pieces are written as, from this place on
abbrev pub written : Sheet → (earlier : List (List ℕ)) → Spot → (at : ℕ) → List (List ℕ)
    → Result (List ℕ) ExpandFault
written sheet earlier spot at [] = Ok []
written sheet earlier spot at (p ∷ ps) =
    unless_refused (refusal sheet earlier spot p) at (piece_text sheet earlier spot p)
    (written sheet (with_generic earlier spot p) (after spot p) (at + length p) ps)

-- what the pieces of a text are written as
abbrev pub written_pieces : List (List ℕ) → Result (List ℕ) ExpandFault
written_pieces ps = written (sheet_of ps) [] Elsewhere 0 ps

-- the same of a text without comments, unless it begins otherwise than texts do
abbrev pub body_expanded : List ℕ → Result (List ℕ) ExpandFault
body_expanded body = if is_begun body then written_pieces (pieces body)
    else Err (Refused NoText (blanks_before body))

-- The text of the calculus for which a text stands, or the first refusal. Its place is one of the text
-- without its comments.
abbrev pub expanded : List ℕ → Result (List ℕ) ExpandFault
expanded text = if nat_le (length text) MAX_RICH_TEXT then body_expanded (uncommented text)
    else Err (Refused TextBytes MAX_RICH_TEXT)
