-- For private functions: the texts of the parts of a configuration.
use Rattle.std.specs.Prelude.{ℕ, List, map}
use Rattle.ic_term.specs.Tree.{Tree, Pair}
use Rattle.ic_term.specs.Symbol.{Symbol}
use Rattle.ic_text.specs.declared.token.Mark.TheVariants.{Comma}
use Rattle.ic_text.specs.Source.{words, sides_words, separated}
use Rattle.ic_text.specs.Text.{source_of, sides_of, text_of}

-- the text of terms with commas between them
abbrev pub terms_text : List Symbol → List Tree → List ℕ
terms_text table ts = text_of (separated Comma (map words (map (source_of table) ts)))

-- the text of an equation, and of equations with commas between them
abbrev pub equation_text : List Symbol → Pair → List ℕ
equation_text table e = text_of (sides_words (sides_of table e))

abbrev pub equations_text : List Symbol → List Pair → List ℕ
equations_text table es = text_of (separated Comma (map sides_words (map (sides_of table) es)))
