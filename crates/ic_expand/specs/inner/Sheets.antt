-- What the values of private functions stand for.
use Rattle.std.specs.Prelude.{◌≡◌, ℕ, List, Bool, false, ◌&&◌, ◌||◌, not, Option, None, Some, map}
use Rattle.std.specs.List.{position}
use Rattle.std.specs.Str.{bytes_eq}
use Rattle.std.specs.BTreeSet.{BTreeSet, contains}
use Rattle.ic_term.specs.Symbol.{Symbol, fits_limits, texts}
use Rattle.ic_expand.specs.declared.reading.Use.{Use}
use Rattle.ic_expand.specs.declared.writing.Sheet.{Sheet as Found}
use Rattle.ic_expand.specs.Pieces.{pieces}
use Rattle.ic_expand.specs.Names.{is_among}
use Rattle.ic_expand.specs.Expanding.{Sheet, sheet_of}
use Rattle.ic_expand.specs.inner.Given.{AreGiven, place_cmp}

abbrev pub symbol_in : Use → Symbol
symbol_in u = record { text = u.text.items; arity = u.arity }

-- what the text of a sheet says
abbrev pub sheet_in : Found → Sheet
sheet_in s = sheet_of (pieces s.text.now)

-- a sheet holds what its text says
pub record IsSheet (s : Found) : Type 0 where
  pub symbols : map symbol_in s.symbols.items ≡ (sheet_in s).symbols
  pub known : s.known ≡ texts (sheet_in s).symbols
  pub given : AreGiven s.given s.known (sheet_in s).pairs
  pub longs : s.longs ≡ (sheet_in s).longs
  pub spare : s.spare.items ≡ (sheet_in s).spare

-- whether a rule of the symbols at these places is given, whichever stands first
abbrev pub gives : BTreeSet (ℕ × ℕ) → ℕ → Option ℕ → Bool
gives given i None = false
gives given i (Some j) = contains place_cmp given (i, j) || contains place_cmp given (j, i)

-- whether a rule of the symbol at this place with a symbol is to be written, where none is written for it yet
abbrev pub is_missing : Found → (earlier : List (List ℕ)) → ℕ → Symbol → Bool
is_missing s earlier i t = fits_limits t.text t.arity && not (is_among t.text earlier)
    && not (gives s.given i (position (bytes_eq t.text) s.known))
