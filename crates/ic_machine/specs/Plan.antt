-- What a rule makes of two agents, ready to be made.
use Rattle.std.specs.Prelude.{◌≡◌, ℕ, ◌+◌, ◌&&◌, ◌<◌, ◌≤◌, List, [], ◌∷◌, ◌++◌, Option, None, Some, length, map, slice_get, count_by, ◌==◌, if◌then◌else◌, nat_lt, IfSome}
use Rattle.std.specs.List.{flat_map, position_from, range_with_len, AllByRecursion}
use Rattle.std.specs.Option.{option_map_or}
use Rattle.ic_arena.specs.declared.word.Word.{Word}
use Rattle.ic_arena.specs.Word.{agent_word}
use Rattle.ic_arena.specs.Piece.{Piece, equated, idle, agent_of}
use Rattle.ic_arena.specs.Tables.{register}
use Rattle.ic_machine.specs.declared.plan.Link.{Link}
use Rattle.ic_machine.specs.declared.plan.Make.{Make}
use Rattle.ic_machine.specs.declared.plan.Plan.{Plan}

-- an agent that is made: its symbol, and the register of each argument
pub record Made : Type 0 where
  pub symbol : ℕ
  pub operands : List ℕ

-- What a rule makes: so many fresh names, agents in this order, and equations. Each word that is used is in a register:
-- first the agents without arguments, by symbol, then the arguments of the rule's left agent and of its right one, then
-- the fresh names, and then the agents that have been made.
pub record Planned : Type 0 where
  pub names : ℕ
  pub made : List Made
  pub links : List Link

-- a plan of the program as plain data
abbrev pub made_of : Make → Made
made_of m = record { symbol = m.symbol; operands = m.operands.items }

abbrev pub planned : Plan → Planned
planned p = record { names = p.names; made = map made_of p.makes.items; links = p.links.items }

-- the agents without arguments, of so many symbols
abbrev pub constants : ℕ → List Word
constants n = map (λ s. agent_word s 0) (range_with_len 0 n)

-- an agent that was planned, at a place
abbrev pub made_at : List Word → Made → Word → Piece
made_at rs m w = agent_of w (map (register rs) m.operands)

-- the agents that were planned, each at its place
abbrev pub made_each : List Word → List Made → List Word → List Piece
made_each rs [] ws = []
made_each rs (m ∷ ms) [] = []
made_each rs (m ∷ ms) (w ∷ ws) = made_at rs m w ∷ made_each rs ms ws

abbrev pub linked : List Word → Link → Piece
linked rs l = equated (register rs l.left) (register rs l.right)

-- what a plan makes, with these fresh names and these places of its agents
abbrev pub pieces_made : Planned → List Word → List Word → List Word → List Piece
pieces_made p rs names made =
    map idle names ++ (made_each rs p.made made ++ map (linked rs) p.links)

abbrev pub link_operands : Link → List ℕ
link_operands l = l.left ∷ l.right ∷ []

-- the registers that a plan uses, each as often
abbrev pub operands_of : Planned → List ℕ
operands_of p = flat_map (λ m. m.operands) p.made ++ flat_map link_operands p.links

-- how often a register may be used, the first of which so many names are, after so many others
abbrev pub allowance : ℕ → ℕ → ℕ → ℕ
allowance before names k =
    if nat_lt k before then 1 else if nat_lt k (before + names) then 2 else 1

-- Each agent that is made has a known symbol and as many arguments as its arity, at least one, and these are in registers
-- that are filled by then.
abbrev pub AreMade : List ℕ → ℕ → List Made → Type 0
AreMade arities filled [] = Unit {0}
AreMade arities filled (m ∷ ms) =
    ((slice_get arities m.symbol ≡ Some (length m.operands)) × (1 ≤ length m.operands)
    × AllByRecursion (λ k. k < filled) m.operands) × AreMade arities (filled + 1) ms

-- What each plan keeps, for symbols with these arities and so many arguments. Each argument and each agent that is made is
-- used at most once, each fresh name at most twice, and of the symbols those whose agents have no arguments.
pub record IsPlan (arities : List ℕ) (arguments : ℕ) (p : Planned) : Type 0 where
  pub made : AreMade arities (length arities + arguments + p.names) p.made
  pub links : AllByRecursion
      (λ k. k < length arities + arguments + p.names + length p.made)
      (flat_map link_operands p.links)
  pub constant : AllByRecursion (λ k. k < length arities → slice_get arities k ≡ Some 0)
      (operands_of p)
  pub linear : (k : ℕ) → length arities ≤ k
      → count_by (λ m. m == k) (operands_of p) ≤ allowance (length arities + arguments) p.names k

-- Plans for pairs of symbols: the arities of the symbols, the plans by their numbers, and the pair of symbols of each.
pub record Plans : Type 0 where
  pub arities : List ℕ
  pub pairs : List (ℕ × ℕ)
  pub plans : List Planned

-- the place of a pair among others, if it is one of them
abbrev pub place_of : ℕ → ℕ → List (ℕ × ℕ) → Option ℕ
place_of a b pairs = position_from (λ q. q.0 == a && q.1 == b) 0 pairs

-- the number of the plan of two symbols, if they have one
abbrev pub number_of : Plans → ℕ → ℕ → Option ℕ
number_of p a b = place_of a b p.pairs

abbrev pub plan_at : List Planned → Option ℕ → Option Planned
plan_at ps None = None
plan_at ps (Some i) = slice_get ps i

-- the plan of two symbols, if they have one
abbrev pub plan_of : Plans → ℕ → ℕ → Option Planned
plan_of p a b = plan_at p.plans (number_of p a b)

-- how many places a plan takes for what it makes: one for each name, and one for each agent
abbrev pub places_made : Planned → ℕ
places_made p = p.names + length p.made

-- the same of the plan with this number, if there is one
abbrev pub places_made_by : Plans → ℕ → ℕ
places_made_by p i = option_map_or places_made (slice_get p.plans i) 0

-- how many equations a plan links
abbrev pub links_made : Planned → ℕ
links_made p = length p.links

-- the same of the plan with this number, if there is one
abbrev pub links_made_by : Plans → ℕ → ℕ
links_made_by p i = option_map_or links_made (slice_get p.plans i) 0

-- What plans keep: each has a pair of known symbols, and the plan of a pair is one for their arguments.
pub record ArePlans (p : Plans) : Type 0 where
  pub counted : length p.pairs ≡ length p.plans
  pub known : AllByRecursion (λ q. (q.0 < length p.arities) × (q.1 < length p.arities)) p.pairs
  pub each : (a b left right : ℕ) → slice_get p.arities a ≡ Some left
      → slice_get p.arities b ≡ Some right → IfSome (plan_of p a b) (IsPlan p.arities (left + right))
