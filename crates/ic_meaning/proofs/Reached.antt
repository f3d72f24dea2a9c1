-- Lemmas: what steps of pieces reach.
use Rattle.std.proofs.Common.{◌≡◌, ℕ, zero, suc, ◌+◌, List, [], ◌∷◌, ◌++◌, Option, None, Some, IfSome, length, map, slice_get, refl, sym, ap, ◌∙◌, arith, append_assoc, append-nil, subst as transport}
use Rattle.std.proofs.lemmas.List.{length-append, map-append}
use Rattle.std.proofs.lemmas.List.Sorted.{IsPermutation-sym}
use Rattle.std.proofs.lemmas.Option.{slice_get_within, get_or_from_slice_get}
use Rattle.std.specs.List.{flat_map, AllByRecursion}
use Rattle.std.specs.Prelude.{IsPermutation, IsTrue}
use Rattle.ic_term.specs.Tree.{Tree, Pair}
use Rattle.ic_term.specs.Configuration.{Configuration}
use Rattle.ic_term.specs.Symbol.{is_over}
use Rattle.ic_rules.specs.Rule.{Rule, IsRule}
use Rattle.ic_rules.specs.RuleSet.{Rules, IsRuleSet, rule_for}
use Rattle.ic_round.specs.Naming.{HasNames}
use Rattle.ic_round.specs.lemmas.ActiveRules.{sides_fit, oriented_rule}
use Rattle.ic_round.specs.lemmas.AnyOrder.{each_permuted as all_order}
use Rattle.ic_reaching.specs.OneNet.{OneNet}
use Rattle.ic_reaching.specs.FreshNames.{Fires as FiresBy}
use Rattle.ic_reaching.specs.Reaching.{Reaches}
use Rattle.ic_arena.specs.declared.word.Word.{Word}
use Rattle.ic_arena.specs.declared.word.TheConstants.{NAME}
use Rattle.ic_arena.specs.Piece.{Piece, equated, idle, waits, agent_with}
use Rattle.ic_arena.specs.Word.{agent_word}
use Rattle.ic_arena.specs.Tables.{register}
use Rattle.ic_machine.specs.declared.plan.Link.{Link}
use Rattle.ic_machine.specs.Plan.{Made, Planned, Plans, ArePlans, IsPlan, AreMade, constants, made_each, linked, link_operands, operands_of, pieces_made, plan_at, plan_of, number_of}
use Rattle.ic_machine.specs.Separate.{IsSeparate}
use Rattle.ic_machine.specs.Steps.{Turns, Puts, Meets, Joins, Fires, Step, turns, puts, meets, joins, fires, Steps, no_step, one_more}
use Rattle.ic_machine.specs.lemmas.Balance.{no_front, no_back}
use Rattle.ic_machine.specs.lemmas.FiresKeep.{steps_keep}
use Rattle.ic_meaning.specs.Words.{Numbers, AreNumbers, term}
use Rattle.ic_meaning.specs.Nets.{equations_of, net_of, IsPiece, ArePieces}
use Rattle.ic_meaning.specs.Plans.{arguments_from, met_as, linked_terms, StandsFor, ArePlansOf, rule_number}
use Rattle.ic_meaning.proofs.Given.{NetLaws, ReachLaws}
use Rattle.ic_meaning.specs.lemmas.Orders.{all_back}
use Rattle.ic_meaning.proofs.Made.{UsedFrom, used_from}
use Rattle.ic_meaning.proofs.Registers.{register_back, held_in, registers_of, place_below}
use Rattle.ic_meaning.proofs.Taken.{made_pieces, take_made, ArePlaces}
use Rattle.ic_meaning.proofs.Wholes.{with_equations, put_back, order_net, turns_net, puts_net, meets_net, joins_net}
use Rattle.ic_meaning.proofs.Settings.{FreeWord, Setting, above_all}
use Rattle.ic_meaning.proofs.Fired.{agent_term, meeting, to_meeting}
use Rattle.ic_meaning.proofs.Fires.{rule_of_plan, fits_lengths, made_agent, plan_equations, used_held, places_from}
use Rattle.ic_meaning.proofs.Interacts.{met_in, setting_of, sides_over, fired_in, interaction_of, interaction_pair, assembled, to_assembled}
use Rattle.ic_machine.specs.lemmas.FiringKeeps.{all_append}

-- ---- from the net put together to its pieces

made_places : (n : Numbers) (i : List Word) (p : Plans) (place : ℕ) (xs ys : List Piece) (f : Fires p place xs ys) (rule : Rule) (registers : ℕ → ℕ)
    → IsPlan n.arities (length (f.left_args ++ f.right_args)) f.plan
    → Setting n (met_in n i p place xs ys f) (map (term n) i) (flat_map (equations_of n) f.rest) (f.left_args ++ f.right_args) (f.names ++ f.made) rule f.plan.names registers
    → ArePlaces (held_in n (registers_of n ((f.left_args ++ f.right_args) ++ (f.names ++ f.made)))) (map (term n) i) (flat_map (equations_of n) f.rest)
    (above_all n (met_in n i p place xs ys f) (f.names ++ f.made) + rule.names)
    (length n.arities + length (rule.left_args ++ rule.right_args) + f.plan.names) f.plan.made (map n.of_place f.made)
made_places n i p place xs ys f rule registers plan s =
    let args : List Word = f.left_args ++ f.right_args in
    let ws : List Word = f.names ++ f.made in
    let later : List Word = args ++ ws in
    let d : Configuration = met_in n i p place xs ys f in
    let len = length-append f.names f.made in
    let all = length-append args ws in
    let length_is = s.length_is in
    let count = f.names_count in
    let at : (j : ℕ) → register ws (length f.names + j) ≡ register f.made j = register_back f.names f.made in
    places_from n d (map (term n) i) (flat_map (equations_of n) f.rest) (above_all n d ws + rule.names) later f.plan.made f.made
    (length args + length f.names) (length n.arities + length (rule.left_args ++ rule.right_args) + f.plan.names) s.sound
    (omega arith) f.made_count (omega arith)
    (λ j low. transport (FreeWord n d (map (term n) i) (flat_map (equations_of n) f.rest) later) (at j) (s.free (length f.names + j) (omega arith)))
    (λ j low none. let agent = made_agent n.arities (length n.arities + length args + f.plan.names) f.plan.made f.made f.made_tags plan.made j low in
    let is = agent.1.is in omega arith)
    (λ j low. let below = place_below n.of_place ws (length f.names + j) (omega arith) in
    let same = ap n.of_place (at j) in omega arith)
    (λ j low. let split : (length args + length f.names) + j ≡ length args + (length f.names + j) = omega arith in
    ap (register later) split ∙ (register_back args ws (length f.names + j) ∙ at j))

pub to_pieces : NetLaws → (n : Numbers) (i : List Word) (p : Plans) (place : ℕ) (xs ys : List Piece) (f : Fires p place xs ys) (rule : Rule) (c : Configuration) → n.arities ≡ p.arities
    → IsPlan n.arities (length (f.left_args ++ f.right_args)) f.plan
    → (stands : StandsFor n.arities rule f.plan)
    → Setting n (met_in n i p place xs ys f) (map (term n) i) (flat_map (equations_of n) f.rest) (f.left_args ++ f.right_args) (f.names ++ f.made) rule f.plan.names stands.registers
    → OneNet c (assembled n i f.plan ((f.left_args ++ f.right_args) ++ (f.names ++ f.made)) (flat_map (equations_of n) f.rest)
    (above_all n (met_in n i p place xs ys f) (f.names ++ f.made) + rule.names) (length n.arities + length (rule.left_args ++ rule.right_args) + f.plan.names))
    → OneNet c (net_of n i ys)
to_pieces laws n i p place xs ys f rule c same plan stands s net =
    let args : List Word = f.left_args ++ f.right_args in
    let ws : List Word = f.names ++ f.made in
    let later : List Word = args ++ ws in
    let rs : List Word = registers_of n later in
    let held : ℕ → Tree = held_in n rs in
    let ts : List Tree = map (term n) i in
    let es : List Pair = flat_map (equations_of n) f.rest in
    let bound : ℕ = above_all n (met_in n i p place xs ys f) ws + rule.names in
    let b : ℕ = length n.arities + length (rule.left_args ++ rule.right_args) + f.plan.names in
    let length_is = s.length_is in
    let base : length n.arities + length args + f.plan.names ≡ b = omega arith in
    let made : AreMade n.arities b f.plan.made = transport (λ (k : ℕ). AreMade n.arities k f.plan.made) base plan.made in
    let used : UsedFrom b f.plan.made (flat_map link_operands f.plan.links ++ []) =
    transport (UsedFrom b f.plan.made) (sym (append-nil (flat_map link_operands f.plan.links)))
    (used_from n.arities b f.plan.made (flat_map link_operands f.plan.links) made stands.used) in
    let places = made_places n i p place xs ys f rule stands.registers plan s in
    let whole : Configuration = assembled n i f.plan later es bound b in
    let taken = take_made laws n.arities ts [] f.plan.links bound b f.plan.made (map n.of_place f.made) es held places used made net.names_too in
    let loose : List Pair = made_pieces held f.plan.made (map n.of_place f.made) ++ (map (linked_terms held) f.plan.links ++ es) in
    let one = laws.through c whole (record { interface = ts ++ []; equations = loose; next = bound }) net taken in
    let two : OneNet c (record { interface = ts; equations = loose; next = bound }) =
    transport (λ l. OneNet c (record { interface = l; equations = loose; next = bound })) (append-nil ts) one in
    let equations = plan_equations n rs held f.plan f.names f.made f.made_tags (used_held n later (operands_of f.plan) s.sound plan.constant) in
    let joined : loose ≡ flat_map (equations_of n) (pieces_made f.plan rs f.names f.made) ++ es =
    sym (append_assoc (made_pieces held f.plan.made (map n.of_place f.made)) (map (linked_terms held) f.plan.links) es) ∙ ap (λ l. l ++ es) (sym equations) in
    let three : OneNet c (with_equations n i (flat_map (equations_of n) (pieces_made f.plan rs f.names f.made) ++ es) bound) =
    transport (λ l. OneNet c (record { interface = ts; equations = l; next = bound })) joined two in
    let registers_same : constants (length p.arities) ++ (f.left_args ++ (f.right_args ++ ws)) ≡ rs =
    ap (λ (a : List ℕ). constants (length a) ++ (f.left_args ++ (f.right_args ++ ws))) (sym same)
    ∙ ap (λ (l : List Word). constants (length n.arities) ++ l) (sym (append_assoc f.left_args f.right_args ws)) in
    let result : IsPermutation ys (pieces_made f.plan rs f.names f.made ++ f.rest) =
    transport (λ (l : List Word). IsPermutation ys (pieces_made f.plan l f.names f.made ++ f.rest)) registers_same f.result in
    put_back laws n i c ys (pieces_made f.plan rs f.names f.made) f.rest bound three result

-- ---- a firing

rule_at : (rs : List Rule) (k : ℕ) (r : Rule) → AllByRecursion IsRule rs → slice_get rs k ≡ Some r → IsRule r
rule_at [] k r all is = absurd (none_some is)
  where
    none_some : {X : Type 0} {x : X} → None ≡ Some x → ⊥
    none_some e = cc
rule_at (q ∷ rs) zero r all is = let same : q ≡ r = cc in transport IsRule same all.0
rule_at (q ∷ rs) (suc k) r all is = rule_at rs k r all.1 is

plan_of_fires : (p : Plans) (place : ℕ) (xs ys : List Piece) (f : Fires p place xs ys) → ArePlans p → IsPlan p.arities (length (f.left_args ++ f.right_args)) f.plan
plan_of_fires p place xs ys f sound =
    let is : plan_of p f.left f.right ≡ Some f.plan = ap (plan_at p.plans) f.number ∙ f.has_plan in
    let of_pair : IfSome (plan_of p f.left f.right) (IsPlan p.arities (length f.left_args + length f.right_args)) =
    sound.each f.left f.right (length f.left_args) (length f.right_args) f.left_arity f.right_arity in
    let plan : IsPlan p.arities (length f.left_args + length f.right_args) f.plan =
    transport (λ (o : Option Planned). IfSome o (IsPlan p.arities (length f.left_args + length f.right_args))) is of_pair in
    transport (λ (k : ℕ). IsPlan p.arities k f.plan) (sym (length-append f.left_args f.right_args)) plan

-- The rule of a plan that fires, and what its interaction leads to: one net with the pieces after it.
pub record FiredParts (rs : Rules) (numbers : List ℕ) (n : Numbers) (i : List Word) (p : Plans) (place : ℕ) (xs ys : List Piece) (f : Fires p place xs ys) : Type 0 where
  pub number : ℕ
  pub numbered : slice_get numbers place ≡ Some number
  pub end : Configuration
  pub step : FiresBy rs.rules (met_in n i p place xs ys f) end number
  pub pair : step.equation ≡ meeting n f.left f.left_args f.right f.right_args
  pub to_met : OneNet (net_of n i xs) (met_in n i p place xs ys f)
  pub net : OneNet end (net_of n i ys)

pub fires_parts : ReachLaws → (rs : Rules) (numbers : List ℕ) (p : Plans) (n : Numbers) (c : Configuration) (i : List Word) (xs ys : List Piece) (before : List ℕ) (place : ℕ)
    → IsRuleSet rs → IsTrue (is_over rs.symbols c) → HasNames c → ArePlans p → ArePlansOf rs numbers p → AreNumbers n → n.arities ≡ p.arities
    → IsSeparate n.arities i xs → Reaches rs.rules c (net_of n i xs) before → (f : Fires p place xs ys)
    → FiredParts rs numbers n i p place xs ys f
fires_parts laws rs numbers p n c i xs ys before place set over named plans of_rules sound same separate reached f =
    let la : slice_get n.arities f.left ≡ Some (length f.left_args) = ap (λ (a : List ℕ). slice_get a f.left) same ∙ f.left_arity in
    let ra : slice_get n.arities f.right ≡ Some (length f.right_args) = ap (λ (a : List ℕ). slice_get a f.right) same ∙ f.right_arity in
    let d : Configuration = met_in n i p place xs ys f in
    let to_d = to_meeting laws.nets n i xs f.rest f.left f.left_place f.right f.right_place f.left_args f.right_args sound la ra (laws.names rs c (net_of n i xs) before reached) f.given in
    let reach_d = laws.net rs c (net_of n i xs) d before reached to_d in
    let over_d = laws.over rs c d before set over named reach_d in
    let low_left = slice_get_within p.arities f.left (length f.left_args) f.left_arity in
    let low_right = slice_get_within p.arities f.right (length f.right_args) f.right_arity in
    let found = rule_of_plan rs numbers p place (number_of p f.left f.right) (rule_for rs.rules f.left f.right) f.number (of_rules.each f.left f.right low_left low_right) in
    let of = found.plan_of_rule in
    let r : Rule = of.of_rule in
    let plan_same : of.plan ≡ f.plan = some_same (sym of.plan_there ∙ f.has_plan) in
    let stands : StandsFor n.arities (met_as found.turned r) f.plan =
    transport (λ (a : List ℕ). StandsFor a (met_as found.turned r) f.plan) (sym same)
    (transport (StandsFor p.arities (met_as found.turned r)) plan_same of.stands) in
    let plan : IsPlan n.arities (length (f.left_args ++ f.right_args)) f.plan =
    transport (λ (a : List ℕ). IsPlan a (length (f.left_args ++ f.right_args)) f.plan) (sym same) (plan_of_fires p place xs ys f plans) in
    let sides = sides_over rs.symbols n i f.left f.right f.left_args f.right_args (flat_map (equations_of n) f.rest) (net_of n i xs).next over_d in
    let left : Tree = agent_term n f.left f.left_args in
    let right : Tree = agent_term n f.right f.right_args in
    let o = oriented_rule left right found.rule found.turned in
    let fits = sides_fit rs.symbols rs.rules left right found.rule found.turned r set.fitting sides.0 sides.1 found.is of.rule_there o.0 o.1.0 in
    let lengths = fits_lengths n f.left f.right f.left_args f.right_args found.turned r rs.rules found.rule o.0 o.1.0 fits in
    let is = rule_at rs.rules found.rule r set.each of.rule_there in
    let s = setting_of n i p place xs ys f (met_as found.turned r) sound separate plan to_d.names_too lengths.0 lengths.1 stands in
    let step = interaction_of rs n i p place xs ys f found.rule found.turned r set is of.rule_there found.is over_d stands lengths.0 lengths.1 s in
    let e : Configuration = fired_in n i p place xs ys f (met_as found.turned r) stands.registers (length n.arities)
    (arguments_from (length n.arities) ((met_as found.turned r).left_args ++ (met_as found.turned r).right_args)) in
    let reach_e = laws.fires rs c d e before found.rule set over named reach_d step in
    let whole = to_assembled laws.nets n i p place xs ys f found.turned r is stands s (laws.names rs c e (before ++ found.rule ∷ []) reach_e) in
    let all = to_pieces laws.nets n i p place xs ys f (met_as found.turned r) e same plan stands s whole in
    record {
      number = found.rule;
      numbered = of.number;
      end = e;
      step = step;
      pair = interaction_pair rs n i p place xs ys f found.rule found.turned r set is of.rule_there found.is over_d stands lengths.0 lengths.1 s;
      to_met = to_d;
      net = all;
    }
  where
    some_same : {X : Type 0} {x y : X} → Some x ≡ Some y → x ≡ y
    some_same e = cc

pub fires_reach : ReachLaws → (rs : Rules) (numbers : List ℕ) (p : Plans) (n : Numbers) (c : Configuration) (i : List Word) (xs ys : List Piece) (before : List ℕ) (place : ℕ)
    → IsRuleSet rs → IsTrue (is_over rs.symbols c) → HasNames c → ArePlans p → ArePlansOf rs numbers p → AreNumbers n → n.arities ≡ p.arities
    → IsSeparate n.arities i xs → Reaches rs.rules c (net_of n i xs) before → Fires p place xs ys
    → (number : ℕ) × (slice_get numbers place ≡ Some number) × Reaches rs.rules c (net_of n i ys) (before ++ number ∷ [])
fires_reach laws rs numbers p n c i xs ys before place set over named plans of_rules sound same separate reached f =
    let parts = fires_parts laws rs numbers p n c i xs ys before place set over named plans of_rules sound same separate reached f in
    let reach_d = laws.net rs c (net_of n i xs) (met_in n i p place xs ys f) before reached parts.to_met in
    let reach_e = laws.fires rs c (met_in n i p place xs ys f) parts.end before parts.number set over named reach_d parts.step in
    (parts.number, parts.numbered, laws.net rs c parts.end (net_of n i ys) (before ++ parts.number ∷ []) reach_e parts.net)

-- ---- pieces stay pieces

pub idle_pieces : (arities : List ℕ) (ws : List Word) → AllByRecursion (λ w. w.tag ≡ NAME) ws → ArePieces arities (map idle ws)
idle_pieces arities [] all = tt
idle_pieces arities (w ∷ ws) all = (all.0, idle_pieces arities ws all.1)

map_length : (f : ℕ → Word) (os : List ℕ) → length (map f os) ≡ length os
map_length f [] = refl
map_length f (o ∷ os) = ap suc (map_length f os)

pub agent_pieces : (arities : List ℕ) (filled : ℕ) (rs : List Word) (ms : List Made) (vs : List Word) → map (λ v. v.tag) vs ≡ map (λ m. m.symbol + 1) ms → AreMade arities filled ms
    → ArePieces arities (made_each rs ms vs)
agent_pieces arities filled rs [] vs tags made = tt
agent_pieces arities filled rs (m ∷ ms) [] tags made = tt
agent_pieces arities filled rs (m ∷ ms) (v ∷ vs) tags made =
    let is : v.tag ≡ m.symbol + 1 = cc in
    let rest : map (λ (u : Word). u.tag) vs ≡ map (λ (k : Made). k.symbol + 1) ms = cc in
    let len = map_length (register rs) m.operands in
    let some = made.0.1 in
    (record { symbol = m.symbol; is = is; known = made.0.0 ∙ ap Some (sym len); some = omega arith }, agent_pieces arities (filled + 1) rs ms vs rest made.1)

pub link_pieces : (arities : List ℕ) (rs : List Word) (ls : List Link) → ArePieces arities (map (linked rs) ls)
link_pieces arities rs [] = tt
link_pieces arities rs (l ∷ ls) = (tt, link_pieces arities rs ls)

drop_agent : (arities : List ℕ) (a : Word) (ws : List Word) (rest : List Piece) → ArePieces arities (agent_with a ws ++ rest) → ArePieces arities rest
drop_agent arities a ws rest are = all_back (IsPiece arities) (agent_with a ws) rest are

turns_pieces : (arities : List ℕ) (a b : List Piece) → Turns a b → ArePieces arities a → ArePieces arities b
turns_pieces arities a b s are =
    let front = all_order (IsPiece arities) a (equated s.left s.right ∷ s.rest) s.given are in
    all_order (IsPiece arities) (equated s.right s.left ∷ s.rest) b (IsPermutation-sym b _ s.result) (tt, front.1)

puts_pieces : (arities : List ℕ) (a b : List Piece) → Puts a b → ArePieces arities a → ArePieces arities b
puts_pieces arities a b s are =
    let front = all_order (IsPiece arities) a (equated s.named s.other ∷ idle s.named ∷ s.rest) s.given are in
    all_order (IsPiece arities) (waits s.named s.other ∷ s.rest) b (IsPermutation-sym b _ s.result) (front.1.0, front.1.1)

meets_pieces : (arities : List ℕ) (a b : List Piece) → Meets a b → ArePieces arities a → ArePieces arities b
meets_pieces arities a b s are =
    let front = all_order (IsPiece arities) a (equated s.named s.other ∷ waits s.named s.waiting ∷ s.rest) s.given are in
    all_order (IsPiece arities) (equated s.waiting s.other ∷ s.rest) b (IsPermutation-sym b _ s.result) (tt, front.1.1)

joins_pieces : (arities : List ℕ) (a b : List Piece) → Joins a b → ArePieces arities a → ArePieces arities b
joins_pieces arities a b s are =
    let front = all_order (IsPiece arities) a (waits s.named s.between ∷ waits s.between s.waiting ∷ s.rest) s.given are in
    all_order (IsPiece arities) (waits s.named s.waiting ∷ s.rest) b (IsPermutation-sym b _ s.result) (front.0, front.1.1)

pub step_pieces : (p : Plans) (fired : List ℕ) (xs ys : List Piece) → ArePlans p → Step p fired xs ys → ArePieces p.arities xs → ArePieces p.arities ys
step_pieces p fired xs ys plans (turns a b s) are = turns_pieces p.arities a b s are
step_pieces p fired xs ys plans (puts a b s) are = puts_pieces p.arities a b s are
step_pieces p fired xs ys plans (meets a b s) are = meets_pieces p.arities a b s are
step_pieces p fired xs ys plans (joins a b s) are = joins_pieces p.arities a b s are
step_pieces p fired xs ys plans (fires place a b f) are =
    let plan = plan_of_fires p place a b f plans in
    let front = all_order (IsPiece p.arities) a _ f.given are in
    let rest = drop_agent p.arities (agent_word f.right f.right_place) f.right_args f.rest
    (drop_agent p.arities (agent_word f.left f.left_place) f.left_args (agent_with (agent_word f.right f.right_place) f.right_args ++ f.rest) front.1) in
    let rs : List Word = constants (length p.arities) ++ (f.left_args ++ (f.right_args ++ (f.names ++ f.made))) in
    let made = agent_pieces p.arities (length p.arities + length (f.left_args ++ f.right_args) + f.plan.names) rs f.plan.made f.made f.made_tags plan.made in
    let all = all_append (IsPiece p.arities) (map idle f.names) (made_each rs f.plan.made f.made ++ map (linked rs) f.plan.links) (idle_pieces p.arities f.names f.name_tags)
    (all_append (IsPiece p.arities) (made_each rs f.plan.made f.made) (map (linked rs) f.plan.links) made (link_pieces p.arities rs f.plan.links)) in
    all_order (IsPiece p.arities) (pieces_made f.plan rs f.names f.made ++ f.rest) b (IsPermutation-sym b _ f.result)
    (all_append (IsPiece p.arities) (pieces_made f.plan rs f.names f.made) f.rest all rest)

pub steps_pieces : (p : Plans) (fired : List ℕ) (xs ys : List Piece) → ArePlans p → Steps p fired xs ys → ArePieces p.arities xs → ArePieces p.arities ys
steps_pieces p fired xs ys plans (no_step a b moved) are = all_order (IsPiece p.arities) a b moved are
steps_pieces p fired xs ys plans (one_more is js a b c steps last) are = step_pieces p js b c plans last (steps_pieces p is a b plans steps are)

-- ---- steps that fire nothing

link_step : NetLaws → (n : Numbers) (i : List Word) (p : Plans) (fired : List ℕ) (xs ys : List Piece) → fired ≡ [] → HasNames (net_of n i xs) → ArePieces n.arities xs
    → Step p fired xs ys → OneNet (net_of n i xs) (net_of n i ys) × ArePieces n.arities ys
link_step laws n i p fired xs ys e named are (turns a b s) = (turns_net laws n i a b named s, turns_pieces n.arities a b s are)
link_step laws n i p fired xs ys e named are (puts a b s) = (puts_net laws n i a b named are s, puts_pieces n.arities a b s are)
link_step laws n i p fired xs ys e named are (meets a b s) = (meets_net laws n i a b named are s, meets_pieces n.arities a b s are)
link_step laws n i p fired xs ys e named are (joins a b s) = (joins_net laws n i a b named are s, joins_pieces n.arities a b s are)
link_step laws n i p fired xs ys e named are (fires place a b f) = absurd (some_list e)
  where
    some_list : {k : ℕ} {ks : List ℕ} → k ∷ ks ≡ [] → ⊥
    some_list e = cc

link_steps : NetLaws → (n : Numbers) (i : List Word) (p : Plans) (fired : List ℕ) (xs ys : List Piece) → fired ≡ [] → HasNames (net_of n i xs) → ArePieces n.arities xs
    → Steps p fired xs ys → OneNet (net_of n i xs) (net_of n i ys) × ArePieces n.arities ys
link_steps laws n i p fired xs ys e named are (no_step a b moved) = (order_net laws n i a b named moved, all_order (IsPiece n.arities) a b moved are)
link_steps laws n i p fired xs ys e named are (one_more is js a b c steps last) =
    let first = link_steps laws n i p is a b (no_front is js e) named are steps in
    let second = link_step laws n i p js b c (no_back is js e) first.0.names_too first.1 last in
    (laws.through (net_of n i a) (net_of n i b) (net_of n i c) first.0 second.0, second.1)

pub linked_net : NetLaws → (n : Numbers) (i : List Word) (p : Plans) (xs ys : List Piece) → HasNames (net_of n i xs) → ArePieces n.arities xs → Steps p [] xs ys
    → OneNet (net_of n i xs) (net_of n i ys)
linked_net laws n i p xs ys named are steps = (link_steps laws n i p [] xs ys refl named are steps).0

-- ---- steps

pub step_reach : ReachLaws → (rs : Rules) (numbers : List ℕ) (p : Plans) (n : Numbers) (c : Configuration) (i : List Word) (fired : List ℕ) (xs ys : List Piece) (before : List ℕ)
    → IsRuleSet rs → IsTrue (is_over rs.symbols c) → HasNames c → ArePlans p → ArePlansOf rs numbers p → AreNumbers n → n.arities ≡ p.arities
    → IsSeparate n.arities i xs → ArePieces n.arities xs → Reaches rs.rules c (net_of n i xs) before → Step p fired xs ys
    → Reaches rs.rules c (net_of n i ys) (before ++ map (rule_number numbers) fired)
step_reach laws rs numbers p n c i fired xs ys before set over named plans of_rules sound same separate are reached (turns a b s) =
    let net = turns_net laws.nets n i a b (laws.names rs c (net_of n i a) before reached) s in
    transport (Reaches rs.rules c (net_of n i b)) (sym (append-nil before)) (laws.net rs c (net_of n i a) (net_of n i b) before reached net)
step_reach laws rs numbers p n c i fired xs ys before set over named plans of_rules sound same separate are reached (puts a b s) =
    let net = puts_net laws.nets n i a b (laws.names rs c (net_of n i a) before reached) are s in
    transport (Reaches rs.rules c (net_of n i b)) (sym (append-nil before)) (laws.net rs c (net_of n i a) (net_of n i b) before reached net)
step_reach laws rs numbers p n c i fired xs ys before set over named plans of_rules sound same separate are reached (meets a b s) =
    let net = meets_net laws.nets n i a b (laws.names rs c (net_of n i a) before reached) are s in
    transport (Reaches rs.rules c (net_of n i b)) (sym (append-nil before)) (laws.net rs c (net_of n i a) (net_of n i b) before reached net)
step_reach laws rs numbers p n c i fired xs ys before set over named plans of_rules sound same separate are reached (joins a b s) =
    let net = joins_net laws.nets n i a b (laws.names rs c (net_of n i a) before reached) are s in
    transport (Reaches rs.rules c (net_of n i b)) (sym (append-nil before)) (laws.net rs c (net_of n i a) (net_of n i b) before reached net)
step_reach laws rs numbers p n c i fired xs ys before set over named plans of_rules sound same separate are reached (fires place a b f) =
    let all = fires_reach laws rs numbers p n c i a b before place set over named plans of_rules sound same separate reached f in
    let number : rule_number numbers place ≡ all.0 = get_or_from_slice_get numbers place all.0 0 all.1 in
    transport (λ (m : ℕ). Reaches rs.rules c (net_of n i b) (before ++ m ∷ [])) (sym number) all.2

pub steps_reach : ReachLaws → (rs : Rules) (numbers : List ℕ) (p : Plans) (n : Numbers) (c : Configuration) (i : List Word) (fired : List ℕ) (xs ys : List Piece) (before : List ℕ)
    → IsRuleSet rs → IsTrue (is_over rs.symbols c) → HasNames c → ArePlans p → ArePlansOf rs numbers p → AreNumbers n → n.arities ≡ p.arities
    → IsSeparate n.arities i xs → ArePieces n.arities xs → Reaches rs.rules c (net_of n i xs) before → Steps p fired xs ys
    → Reaches rs.rules c (net_of n i ys) (before ++ map (rule_number numbers) fired)
steps_reach laws rs numbers p n c i fired xs ys before set over named plans of_rules sound same separate are reached (no_step a b moved) =
    let net = order_net laws.nets n i a b (laws.names rs c (net_of n i a) before reached) moved in
    transport (Reaches rs.rules c (net_of n i b)) (sym (append-nil before)) (laws.net rs c (net_of n i a) (net_of n i b) before reached net)
steps_reach laws rs numbers p n c i fired xs ys before set over named plans of_rules sound same separate are reached (one_more is js a b d steps last) =
    let first = steps_reach laws rs numbers p n c i is a b before set over named plans of_rules sound same separate are reached steps in
    let separate_too : IsSeparate n.arities i b =
    transport (λ (l : List ℕ). IsSeparate l i b) (sym same)
    (steps_keep p is i a b plans steps (transport (λ (l : List ℕ). IsSeparate l i a) same separate)) in
    let are_too : ArePieces n.arities b =
    transport (λ (l : List ℕ). ArePieces l b) (sym same)
    (steps_pieces p is a b plans steps (transport (λ (l : List ℕ). ArePieces l a) same are)) in
    let second = step_reach laws rs numbers p n c i js b d (before ++ map (rule_number numbers) is) set over named plans of_rules sound same separate_too are_too first last in
    transport (Reaches rs.rules c (net_of n i d))
    (append_assoc before (map (rule_number numbers) is) (map (rule_number numbers) js) ∙ ap (λ l. before ++ l) (sym (map-append (rule_number numbers) is js))) second
