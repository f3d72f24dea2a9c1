-- Equations of two agents that no rule takes apart, and how their symbols are told.
use Rattle.std.specs.Prelude.{ℕ, List, [], ◌++◌, Bool, true, false, ◌&&◌, Option, codes, slice_get}
use Rattle.std.specs.List.{find}
use Rattle.std.specs.Option.{option_map}
use Rattle.ic_term.specs.Tree.{Tree, name, agent, Pair}
use Rattle.ic_term.specs.Symbol.{Symbol}
use Rattle.ic_term.specs.Configuration.{Configuration}
use Rattle.ic_text.specs.Text.{text_or_none}

abbrev pub is_agent : Tree → Bool
is_agent (name n) = false
is_agent (agent s ts) = true

-- an equation of two agents
abbrev pub is_of_agents : Pair → Bool
is_of_agents p = is_agent p.left && is_agent p.right

-- the text of an agent's symbol
abbrev pub symbol_of : List Symbol → Tree → List ℕ
symbol_of symbols (name n) = []
symbol_of symbols (agent s ts) = text_or_none (slice_get symbols s)

-- the text `A><B` of the symbols of an equation of two agents, as a rule of them would begin
abbrev pub pair_text : List Symbol → Pair → List ℕ
pair_text symbols p = symbol_of symbols p.left ++ codes "><" ++ symbol_of symbols p.right

-- the text of the first equation of two agents. Where no step is possible no rule has its symbols,
-- so that it is stuck.
abbrev pub stuck_text : List Symbol → Configuration → Option (List ℕ)
stuck_text symbols c = option_map (pair_text symbols) (find is_of_agents c.equations)
