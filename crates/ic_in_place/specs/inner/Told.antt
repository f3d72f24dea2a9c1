-- The first equation of two agents, and its text by the words that its sides begin with.
use Rattle.std.specs.Prelude.{ℕ, List, ◌++◌, Option, None, Some, codes, slice_get}
use Rattle.std.specs.List.{find}
use Rattle.std.specs.Option.{option_map}
use Rattle.ic_term.specs.Tree.{Pair}
use Rattle.ic_term.specs.Symbol.{Symbol}
use Rattle.ic_flat.specs.declared.word.Word.{Word}
use Rattle.ic_flat.specs.declared.word.Word.TheVariants.{Name, Agent}
use Rattle.ic_term.specs.Configuration.{Configuration}
use Rattle.ic_text.specs.Text.{text_or_none}
use Rattle.ic_streams.specs.Stuck.{is_of_agents, pair_text, stuck_text}
use Rattle.ic_in_place.specs.declared.running.End.{End}
use Rattle.ic_in_place.specs.declared.running.End.TheVariants as end

-- the text of the first of these equations that is one of two agents
abbrev pub first_told : List Symbol → List Pair → Option (List ℕ)
first_told symbols es = option_map (pair_text symbols) (find is_of_agents es)

-- the text of an equation whose sides begin with these words
abbrev pub words_told : List Symbol → Word → Word → Option (List ℕ)
words_told symbols (Name m) w = None
words_told symbols (Agent s a) (Name n) = None
words_told symbols (Agent s a) (Agent r b) =
    Some (text_or_none (slice_get symbols s) ++ codes "><" ++ text_or_none (slice_get symbols r))

-- the text of the first equation of two agents of a configuration, where the end is quiet
abbrev pub words_stuck : End → List Symbol → Configuration → Option (List ℕ)
words_stuck end.Quiet symbols c = stuck_text symbols c
words_stuck end.Steps symbols c = None
words_stuck end.Nodes symbols c = None
words_stuck end.Limit symbols c = None
words_stuck end.Memory symbols c = None
