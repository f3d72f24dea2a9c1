use Rattle.std.specs.Prelude.{◌≡◌, ℕ, ◌≤◌, ◌==◌, List, [], ◌∷◌, ◌++◌, Bool, true, false, ◌&&◌, ◌||◌, Option, None, Some, Result, Ok, Err, length, map, nat_le, nat_lt, if◌then◌else◌, is_some, slice_get, IsTrue}
use Rattle.std.specs.List.{list_all, position, AllByRecursion, IsDistinct}
use Rattle.std.specs.Str.{bytes_eq}
use Rattle.std.specs.Cmp.Lexicographic.{pointwise}
use Rattle.std.specs.Char.{is_ascii_uppercase, is_ascii_digit, is_ascii_alphanumeric}
use Rattle.std.specs.Option.{option_map}
use Rattle.ic_term.specs.Tree.{Tree, name, agent, Trees, no_trees, more_trees, Pair, list_of}
use Rattle.ic_term.specs.Configuration.{Configuration}
use Rattle.ic_term.specs.declared.limits.TheConstants.{MAX_WIDE_SYMBOLS, MAX_SYMBOL_TEXT, MAX_ARITY}
use Rattle.ic_term.specs.declared.symbols.SymbolFault.{SymbolFault}
use Rattle.ic_term.specs.declared.symbols.SymbolFault.TheVariants.{Limit, Arity, Memory}

-- An agent symbol: its text and its arity (Lafont 1990). Its number is its place in a list of symbols.
pub record Symbol : Type 0 where
  pub text : List ℕ
  pub arity : ℕ

-- A symbol's text begins with A..Z or 0..9 and goes on with A..Z, a..z and 0..9 (this project's choice).
abbrev pub is_symbol_text : List ℕ → Bool
is_symbol_text [] = false
is_symbol_text (b ∷ bs) = (is_ascii_uppercase b || is_ascii_digit b)
    && list_all is_ascii_alphanumeric bs

-- a symbol's text and arity are within the limits (this project's choice)
abbrev pub fits_limits : List ℕ → ℕ → Bool
fits_limits text arity = nat_le (length text) MAX_SYMBOL_TEXT && nat_le arity MAX_ARITY

abbrev pub texts : List Symbol → List (List ℕ)
texts ss = map (λ s. s.text) ss

-- What each list of symbols keeps: the limits, and that no two have one text.
pub record AreSymbols (ss : List Symbol) : Type 0 where
  pub few : length ss ≤ MAX_WIDE_SYMBOLS
  pub each : AllByRecursion
      (λ s. IsTrue (is_symbol_text s.text) × IsTrue (fits_limits s.text s.arity)) ss
  pub distinct : IsDistinct bytes_eq (texts ss)

-- the number of the symbol with this text
abbrev pub number_of_text : List Symbol → List ℕ → Option ℕ
number_of_text ss text = position (bytes_eq text) (texts ss)

-- the text of the symbol with this number
abbrev pub symbol_text : List Symbol → ℕ → Option (List ℕ)
symbol_text ss n = option_map (λ s. s.text) (slice_get ss n)

-- the arity of the symbol with this number
abbrev pub symbol_arity : List Symbol → ℕ → Option ℕ
symbol_arity ss n = option_map (λ s. s.arity) (slice_get ss n)

-- whether a symbol was found, with this arity
abbrev pub has_arity : ℕ → Option Symbol → Bool
has_arity arity None = false
has_arity arity (Some s) = s.arity == arity

-- the number of a symbol that was looked up: the old one, or the next one, or the refusal
abbrev pub number_found : List Symbol → ℕ → Option ℕ → Result ℕ SymbolFault
number_found ss arity None = if nat_lt (length ss) MAX_WIDE_SYMBOLS then Ok (length ss) else Err Limit
number_found ss arity (Some n) = if has_arity arity (slice_get ss n) then Ok n else Err (Arity n)

-- the number of a text with this arity among the symbols, or the first refusal in the order of `SymbolFault`
abbrev pub numbered : List Symbol → List ℕ → ℕ → Result ℕ SymbolFault
numbered ss text arity = if fits_limits text arity
    then number_found ss arity (number_of_text ss text) else Err Limit

-- the symbols once a text has its number: a new one goes last
abbrev pub with_symbol : List Symbol → List ℕ → ℕ → List Symbol
with_symbol ss text arity = if is_some (number_of_text ss text) then ss
    else ss ++ record { text = text; arity = arity } ∷ []

-- A result is this answer, or `Memory`.
abbrev pub Answers : Result ℕ SymbolFault → Result ℕ SymbolFault → Type 0
Answers (Ok n) answer = Ok n ≡ answer
Answers (Err Limit) answer = Err Limit ≡ answer
Answers (Err (Arity n)) answer = Err (Arity n) ≡ answer
Answers (Err Memory) answer = Unit {0}

-- each agent's symbol is known and has as many arguments as its arity
abbrev mutual
  pub is_tree_over : List Symbol → Tree → Bool
  is_tree_over ss (name n) = true
  is_tree_over ss (agent s ts) = has_arity (length (list_of ts)) (slice_get ss s)
      && are_trees_over ss ts

  pub are_trees_over : List Symbol → Trees → Bool
  are_trees_over ss no_trees = true
  are_trees_over ss (more_trees t ts) = is_tree_over ss t && are_trees_over ss ts

abbrev pub is_pair_over : List Symbol → Pair → Bool
is_pair_over ss p = is_tree_over ss p.left && is_tree_over ss p.right

-- each agent of a configuration has a known symbol and as many arguments as its arity
abbrev pub is_over : List Symbol → Configuration → Bool
is_over ss c = list_all (is_tree_over ss) c.interface && list_all (is_pair_over ss) c.equations

-- whether two symbols are the same
abbrev pub symbol_eq : Symbol → Symbol → Bool
symbol_eq s t = bytes_eq s.text t.text && s.arity == t.arity

-- whether two lists of symbols are the same
abbrev pub symbols_eq : List Symbol → List Symbol → Bool
symbols_eq = pointwise symbol_eq
