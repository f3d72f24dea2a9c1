-- What the parser meets in the words, by a table.
use Rattle.std.proofs.Common.{◌≡◌, ◌∙◌, List, true, Option, None, Some, option_map, ap, ap₂, sym, refl}
use Rattle.clap.specs.Words.{App, HasMatchesOf, Row, Text, is_simple, subcommand_name_of, subcommand_of, subcommand_rows_of}
use Rattle.clap.specs.declared.parser.matches.ArgMatches.{ArgMatches}

option_map_twice : {X Y Z : Type 0} (f : Y → Z) (g : X → Y) (o : Option X) → option_map f (option_map g o) ≡ option_map (λ x. f (g x)) o
option_map_twice f g None = refl
option_map_twice f g (Some x) = refl

-- the name of what was met
met_name : (m : ArgMatches) → option_map (λ (p : Text × List Row). p.0) (subcommand_rows_of m) ≡ subcommand_name_of m
met_name m = option_map_twice _ _ _

both : (met : Option (Text × List Row)) (name : Text) (rows : List Row) → option_map (λ (p : Text × List Row). p.0) met ≡ Some name
    → option_map (λ (p : Text × List Row). p.1) met ≡ Some rows → met ≡ Some (name, rows)
both None name rows is are = cc
both (Some p) name rows is are =
    let first : p.0 ≡ name = cc in
    let second : p.1 ≡ rows = cc in
    ap₂ (λ (n : Text) (r : List Row). Some (n, r)) first second

-- what is met is what the words say by the command line
pub met_of : (app line : App) (words : List Text) (m : ArgMatches) (name : Text) (rows : List Row) → app ≡ line → is_simple line ≡ true → HasMatchesOf app words m
    → subcommand_name_of m ≡ Some name → option_map (λ (p : Text × List Row). p.1) (subcommand_rows_of m) ≡ Some rows → subcommand_of line words ≡ Some (name, rows)
met_of app line words m name rows is simple matches named are =
    ap (λ (a : App). subcommand_of a words) (sym is) ∙ sym (matches (ap is_simple is ∙ simple)).1 ∙ both (subcommand_rows_of m) name rows (met_name m ∙ named) are
