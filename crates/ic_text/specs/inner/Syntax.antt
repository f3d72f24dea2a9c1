-- For private functions: the check of syntax, token by token. `depth` counts the parentheses that
-- are open.
use Rattle.std.specs.Prelude.{ℕ, ◌+◌, ◌-◌, ◌==◌, List, [], ◌∷◌, Bool, true, false, Option, None, Some, if◌then◌else◌}
use Rattle.ic_term.specs.Symbol.{is_symbol_text}
use Rattle.ic_text.specs.declared.token.Mark.{Mark}
use Rattle.ic_text.specs.declared.token.Mark.TheVariants.{LeftBrace, RightBrace, Less, Greater, Bar, Equals, Comma, Semicolon, Open, Close}
use Rattle.ic_text.specs.declared.syntax.Part.{Part}
use Rattle.ic_text.specs.declared.syntax.Part.TheVariants.{Start, RuleLeft, Turn, RuleRight, Begin, Interface, Left, Right, End}
use Rattle.ic_text.specs.declared.syntax.Spot.{Spot}
use Rattle.ic_text.specs.declared.syntax.Spot.TheVariants.{First, Due, FirstAgent, DueAgent, Symbol, After}
use Rattle.ic_text.specs.declared.syntax.State.{State}
use Rattle.ic_text.specs.Token.{Token, word, mark}
use Rattle.ic_text.specs.Name.{is_name}

-- what follows a word where an agent may begin: only a symbol begins one, and may have arguments
abbrev pub agent_spot : List ℕ → Option Spot
agent_spot text = if is_symbol_text text then Some Symbol else None

-- what follows a word where a term may begin: a name ends its term, a symbol begins an agent
abbrev pub word_spot : List ℕ → Option Spot
word_spot text = if is_name text then Some After else agent_spot text

-- what stands beside a number that stays
abbrev pub beside : ℕ → Option Spot → Option (Spot × ℕ)
beside depth None = None
beside depth (Some s) = Some (s, depth)

-- what follows the end of a term inside parentheses
abbrev pub inside_step : ℕ → Mark → Option (Spot × ℕ)
inside_step depth Comma = if depth == 0 then None else Some (Due, depth)
inside_step depth Close = if depth == 0 then None else Some (After, depth - 1)
inside_step depth _ = None

-- a mark right after a symbol
abbrev pub symbol_step : ℕ → Mark → Option (Spot × ℕ)
symbol_step depth Open = Some (Due, depth + 1)
symbol_step depth m = inside_step depth m

-- a token within a term
abbrev pub term_step : Spot → ℕ → Token → Option (Spot × ℕ)
term_step First depth (word text) = beside depth (word_spot text)
term_step Due depth (word text) = beside depth (word_spot text)
term_step FirstAgent depth (word text) = beside depth (agent_spot text)
term_step DueAgent depth (word text) = beside depth (agent_spot text)
term_step Symbol depth (mark m) = symbol_step depth m
term_step After depth (mark m) = inside_step depth m
term_step _ depth _ = None

-- what follows a term outside all parentheses
abbrev pub end_step : Part → Mark → Option (Part × Spot)
end_step Start LeftBrace = Some (RuleLeft, FirstAgent)
end_step RuleLeft Greater = Some (Turn, After)
end_step Turn Less = Some (RuleRight, DueAgent)
end_step RuleRight Semicolon = Some (RuleLeft, DueAgent)
end_step RuleRight RightBrace = Some (Begin, After)
end_step Begin Less = Some (Interface, First)
end_step Interface Bar = Some (Left, First)
end_step Interface Comma = Some (Interface, Due)
end_step Left Equals = Some (Right, Due)
end_step Right Comma = Some (Left, Due)
end_step Right Greater = Some (End, After)
end_step _ _ = None

-- what follows where a part may be empty
abbrev pub empty_step : Part → Mark → Option (Part × Spot)
empty_step RuleLeft RightBrace = Some (Begin, After)
empty_step Interface Bar = Some (Left, First)
empty_step Left Greater = Some (End, After)
empty_step _ _ = None

-- a mark outside all parentheses
abbrev pub part_step : Part → Spot → Mark → Option (Part × Spot)
part_step p First m = empty_step p m
part_step p Due m = None
part_step p FirstAgent m = empty_step p m
part_step p DueAgent m = None
part_step p Symbol m = end_step p m
part_step p After m = end_step p m

-- a step within a term, or one outside all parentheses
abbrev pub either_step : Part → Spot → ℕ → Token → Option (Spot × ℕ) → Option State
either_step p s depth t (Some next) = Some (record { part = p; spot = next.0; depth = next.1 })
either_step p s depth (word text) None = None
either_step p s depth (mark m) None = if depth == 0 then outside (part_step p s m) else None
  where
    outside : Option (Part × Spot) → Option State
    outside None = None
    outside (Some next) = Some (record { part = next.0; spot = next.1; depth = 0 })

abbrev pub step : State → Token → Option State
step st t = either_step st.part st.spot st.depth t (term_step st.spot st.depth t)

-- the check after a word, and after a mark
abbrev pub word_step : State → List ℕ → Option State
word_step st text = step st (word text)

abbrev pub mark_step : State → Mark → Option State
mark_step st m = step st (mark m)

-- a mark within a term
abbrev pub inner_step : State → Mark → Option (Spot × ℕ)
inner_step st m = term_step st.spot st.depth (mark m)

-- where the check of a part begins, in front of its first mark
abbrev pub at_beginning : Part → State
at_beginning p = record { part = p; spot = After; depth = 0 }

-- nothing is left of a system or a configuration
abbrev pub is_end : Part → Bool
is_end End = true
is_end _ = false

-- the tokens lead from a state to the end
abbrev pub accepts : Option State → List Token → Bool
accepts None ts = false
accepts (Some st) [] = is_end st.part
accepts (Some st) (t ∷ ts) = accepts (step st t) ts
