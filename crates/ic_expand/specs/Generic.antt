-- The rules for which `copy` and `erase` stand (Lafont 1997: the combinators delta and epsilon).
use Rattle.std.specs.Prelude.{ℕ, ◌+◌, ◌==◌, List, [], ◌∷◌, ◌++◌, Bool, false, ◌&&◌, ◌||◌, not, codes, map, replicate, if◌then◌else◌}
use Rattle.std.specs.List.{list_any, range_with_len}
use Rattle.std.specs.Str.{bytes_eq}
use Rattle.ic_text.specs.Name.{name_text}
use Rattle.ic_term.specs.Symbol.{Symbol, fits_limits}
use Rattle.ic_expand.specs.declared.spot.Kind.{Kind}
use Rattle.ic_expand.specs.declared.spot.Kind.TheVariants.{Copier, Eraser}
use Rattle.ic_expand.specs.Names.{is_among}

-- arguments in parentheses, if there are some: `(` stands before the first and `,` before each other
abbrev pub listed : (sign : ℕ) → List (List ℕ) → List ℕ
listed sign [] = if sign == 40 then [] else 41 ∷ []
listed sign (t ∷ ts) = sign ∷ (t ++ listed 44 ts)

-- an agent of this symbol with these arguments
abbrev pub agent_text : List ℕ → List (List ℕ) → List ℕ
agent_text s ts = s ++ listed 40 ts

-- n names, from this number on
abbrev pub names_from : (first n : ℕ) → List (List ℕ)
names_from first n = map name_text (range_with_len first n)

-- the two sides of a rule
abbrev pub rule_text : List ℕ → List ℕ → List ℕ
rule_text left right = left ++ codes "><" ++ right

-- `s(a,a1)`, `s(b,b1)` and so on: s with the names of one place
abbrev pub copies : List ℕ → (n : ℕ) → List (List ℕ)
copies s n = map (λ k. agent_text s (name_text k ∷ name_text (k + 26) ∷ [])) (range_with_len 0 n)

-- `s(T(a,..),T(a1,..))><T(s(a,a1),..)`: s copies T
abbrev pub copied : List ℕ → Symbol → List ℕ
copied s t = rule_text
    (agent_text s (agent_text t.text (names_from 0 t.arity) ∷ agent_text t.text (names_from 26 t.arity) ∷ []))
    (agent_text t.text (copies s t.arity))

-- `s(a,b)><s(a,b)`: two copiers of one kind go away, and join what they hold
abbrev pub annihilated : List ℕ → List ℕ
annihilated s = rule_text (agent_text s (names_from 0 2)) (agent_text s (names_from 0 2))

-- `s><T(s,..)`: s erases T
abbrev pub erased : List ℕ → Symbol → List ℕ
erased s t = rule_text s (agent_text t.text (replicate t.arity s))

-- the rule of a copier or an eraser with a symbol
abbrev pub generic_rule : Kind → List ℕ → Symbol → List ℕ
generic_rule Copier s t = if bytes_eq s t.text then annihilated s else copied s t
generic_rule Eraser s t = erased s t

-- how many arguments a copier has, and an eraser
abbrev pub arity_of : Kind → ℕ
arity_of Copier = 2
arity_of Eraser = 0

-- whether a rule is of these two symbols
abbrev pub is_of : List ℕ → List ℕ → List ℕ × List ℕ → Bool
is_of s t pair = (bytes_eq s pair.0 && bytes_eq t pair.1) || (bytes_eq s pair.1 && bytes_eq t pair.0)

-- Whether a rule of s with a symbol is to be written: none is given, and none is written for a copier
-- or an eraser before it.
abbrev pub is_wanted : (pairs : List (List ℕ × List ℕ)) → (earlier : List (List ℕ)) → List ℕ → Symbol → Bool
is_wanted pairs earlier s t = fits_limits t.text t.arity && not (list_any (is_of s t.text) pairs)
    && not (is_among s earlier) && not (is_among t.text earlier)

-- rules with `;` between them
abbrev pub in_row : (first : Bool) → List (List ℕ) → List ℕ
in_row first [] = []
in_row first (r ∷ rs) = (if first then r else 59 ∷ r) ++ in_row false rs
