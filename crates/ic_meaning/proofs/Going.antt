-- Lemmas: pairs of a generation that are taken one after another are a generation of the calculus.
use Rattle.std.proofs.Common.{◌≡◌, ℕ, ◌+◌, ◌≤◌, ◌<◌, List, [], ◌∷◌, ◌++◌, true, false, cond, Some, length, map, slice_get, sum_by, refl, sym, ap, ◌∙◌, append_assoc, arith, inl, inr, subst as transport}
use Rattle.std.proofs.lemmas.Bool.{true≢false, and_parts}
use Rattle.std.proofs.lemmas.Grind.{flat_map-append as flat_parts}
use Rattle.std.proofs.lemmas.List.{map-append}
use Rattle.std.proofs.lemmas.List.Folds.{list_all-append}
use Rattle.std.proofs.lemmas.List.Sums.{sum_by-append, sum_by-cons}
use Rattle.std.proofs.lemmas.Option.{get_or_from_slice_get}
use Rattle.std.proofs.lemmas.List.Sorted.{IsPermutation-refl, IsPermutation-sym, IsPermutation-trans, IsPermutation-cons, IsPermutation-map, IsPermutation-middle, IsPermutation-append, IsPermutation-append_left, IsPermutation-append_right, IsPermutation-append_comm, sum_by-IsPermutation, length_permutation}
use Rattle.std.specs.Prelude.{IsPermutation, IsTrue}
use Rattle.std.specs.List.{AllByRecursion, flat_map, list_all}
use Rattle.ic_term.specs.Tree.{Tree, Pair, names, pair_names}
use Rattle.ic_term.specs.Configuration.{Configuration, configuration_names, occurrences}
use Rattle.ic_term.specs.Symbol.{Symbol, is_over, is_tree_over, is_pair_over}
use Rattle.ic_rules.specs.RuleSet.{Rules, IsRuleSet}
use Rattle.ic_settle.specs.NameSteps.{no_step as no_name_step}
use Rattle.ic_settle.specs.lemmas.SubstitutionLaws.{occurrences-append, and_both}
use Rattle.ic_round.specs.Firing.{Active, active_pair, count_of}
use Rattle.ic_round.specs.Naming.{HasNames}
use Rattle.ic_round.specs.lemmas.AnyOrder.{each_permuted as all_order}
use Rattle.ic_round.specs.lemmas.FreshNames.{absent_above}
use Rattle.ic_reaching.specs.FreshNames.{products_with, Fires as FiresBy}
use Rattle.ic_reaching.specs.OneNet.{OneNet, SameButNext}
use Rattle.ic_reaching.specs.Reaching.{Reaches}
use Rattle.ic_generations.specs.Generations.{Generation, whole, without_now, OneFires, RestChanges, Goes, ended as goes_ended, fires as goes_fires, changes as goes_changes}
use Rattle.ic_arena.specs.declared.word.Word.{Word}
use Rattle.ic_arena.specs.Word.{agent_word, word_eq, count}
use Rattle.ic_arena.specs.Piece.{Piece, agent_of, agent_with, room, uses}
use Rattle.ic_machine.specs.declared.equation.Equation.{Equation}
use Rattle.ic_machine.specs.Generations.{FiresPair, Takes, ended, fires, stays}
use Rattle.ic_machine.specs.Net.{equated_of, IsStuck}
use Rattle.ic_machine.specs.Plan.{Plans, ArePlans, constants, pieces_made}
use Rattle.ic_machine.specs.Separate.{IsSeparate, is_constant_tag}
use Rattle.ic_machine.specs.Steps.{AreFresh, Fires, fires as step_fires, Steps, no_step}
use Rattle.ic_machine.specs.lemmas.FiresKeep.{agent_room, sum_of_pair}
use Rattle.ic_machine.specs.lemmas.FiringKeeps.{all_append, plan_room}
use Rattle.ic_machine.specs.lemmas.Orders.{to_front}
use Rattle.ic_machine.specs.lemmas.StepsOn.{one_step, steps_through}
use Rattle.ic_meaning.specs.Words.{Numbers, AreNumbers, term}
use Rattle.ic_meaning.specs.Nets.{equations_of, net_of, IsPiece, ArePieces, AreNetPieces, IsAgentOf}
use Rattle.ic_meaning.specs.Plans.{ArePlansOf, rule_number}
use Rattle.ic_meaning.specs.lemmas.Orders.{all_front, all_back, flat_order}
use Rattle.ic_meaning.specs.lemmas.Terms.{agent_tag, word_itself}
use Rattle.ic_meaning.proofs.AgentsStay.{is_agent, agents_stay, steps_beside}
use Rattle.ic_meaning.proofs.Given.{NetLaws, ReachLaws}
use Rattle.ic_meaning.proofs.Meetings.{Met, left_word, right_word, pair_of, agents_of, put_of, IsKnown, equations, tops, net_met, some_names, are_agents}
use Rattle.ic_meaning.proofs.Once.{fresh_or, net_pieces_kept}
use Rattle.ic_meaning.proofs.Reached.{FiredParts, fires_parts, linked_net, steps_reach}
use Rattle.ic_meaning.proofs.Removed.{InPart, in_first, in_second, in_part, same_first, all_moved}
use Rattle.ic_meaning.proofs.Wholes.{with_equations, higher_all, configured_names}

-- what the laws below say
pub record GoingLaws : Type 0 where
  pub reach : ReachLaws
  pub start : (rs : Rules) (c : Configuration) → HasNames c → Reaches rs.rules c c []
  pub other_way : (c d : Configuration) → OneNet c d → OneNet d c
  pub either : (rs : Rules) (c d e : Configuration) (i j : ℕ) → IsRuleSet rs → IsTrue (is_over rs.symbols c) → HasNames c
      → (s : FiresBy rs.rules c d i) → (t : FiresBy rs.rules c e j) → s.equation ≡ t.equation → SameButNext d e

-- what is given of rules, plans and numbers
pub record Plain (rs : Rules) (numbers : List ℕ) (p : Plans) (n : Numbers) : Type 0 where
  pub set : IsRuleSet rs
  pub plans : ArePlans p
  pub of_rules : ArePlansOf rs numbers p
  pub sound : AreNumbers n
  pub same : n.arities ≡ p.arities

-- what pieces keep
pub record Stands (rs : Rules) (n : Numbers) (i : List Word) (ps : List Piece) : Type 0 where
  pub pieces : AreNetPieces n.arities i ps
  pub named : HasNames (net_of n i ps)
  pub over : IsTrue (is_over rs.symbols (net_of n i ps))

pub stands_on : GoingLaws → (rs : Rules) (numbers : List ℕ) (p : Plans) (n : Numbers) (i : List Word) (fired : List ℕ) (ps qs : List Piece) → Plain rs numbers p n → Stands rs n i ps → Steps p fired ps qs → Stands rs n i qs
stands_on laws rs numbers p n i fired ps qs given s steps =
    let c = net_of n i ps in
    let reached = steps_reach laws.reach rs numbers p n c i fired ps qs [] given.set s.over s.named given.plans given.of_rules given.sound given.same s.pieces.separate s.pieces.each (laws.start rs c s.named) steps in
    record {
      pieces = transport (λ (l : List ℕ). AreNetPieces l i qs) (sym given.same)
          (net_pieces_kept p i fired ps qs given.plans (transport (λ (l : List ℕ). AreNetPieces l i ps) given.same s.pieces) steps);
      named = laws.reach.names rs c (net_of n i qs) (map (rule_number numbers) fired) reached;
      over = laws.reach.over rs c (net_of n i qs) (map (rule_number numbers) fired) given.set s.over s.named reached;
    }

-- ---- the generation of pairs among pieces

abbrev pub generation : Numbers → List Word → List Met → List Piece → ℕ → Generation
generation n i ms rest next = record { interface = map (term n) i; now = tops n ms; rest = equations n rest; next = next }

back_names : (ts : List Tree) (front es : List Pair) (next : ℕ) → HasNames (record { interface = ts; equations = front ++ es; next = next }) → HasNames (record { interface = ts; equations = es; next = next })
back_names ts front es next named =
    let low : ℕ → Type 0 = λ m. m < next in
    let whole_names = flat_map names ts in
    let after = all_back low whole_names (flat_map pair_names (front ++ es)) named.below in
    let own = all_back low (flat_map pair_names front) (flat_map pair_names es) (transport (AllByRecursion low) (flat_parts pair_names front es) after) in
    record {
      below = all_append low whole_names (flat_map pair_names es) (all_front low whole_names (flat_map pair_names (front ++ es)) named.below) own;
      twice = λ m.
          let all = occurrences-append m whole_names (flat_map pair_names (front ++ es)) in
          let split = ap (occurrences m) (flat_parts pair_names front es) ∙ occurrences-append m (flat_map pair_names front) (flat_map pair_names es) in
          let rest = occurrences-append m whole_names (flat_map pair_names es) in
          let two = named.twice m in
          omega (arith, all, split, rest, two);
    }

-- pieces cells a configuration, wherever fresh names begin
at_next : NetLaws → (n : Numbers) (i : List Word) (rest : List Piece) (next : ℕ) → HasNames (with_equations n i (equations n rest) next)
    → OneNet (with_equations n i (equations n rest) next) (net_of n i rest)
at_next laws n i rest next named = laws.next (with_equations n i (equations n rest) next) (net_of n i rest).next named (configured_names (map (term n) i) (equations n rest) next named)

pub rest_changes : GoingLaws → (n : Numbers) (i : List Word) (p : Plans) (ms : List Met) (rest after : List Piece) (next top : ℕ)
    → HasNames (whole (generation n i ms rest next)) → HasNames (whole (generation n i ms after top)) → ArePieces n.arities rest → Steps p [] rest after
    → RestChanges (generation n i ms rest next) (generation n i ms after top)
rest_changes laws n i p ms rest after next top named also are steps =
    let nets = laws.reach.nets in
    let one = with_equations n i (equations n rest) next in
    let other = with_equations n i (equations n after) top in
    let here = at_next nets n i rest next (back_names (map (term n) i) (tops n ms) (equations n rest) next named) in
    let there = laws.other_way other (net_of n i after) (at_next nets n i after top (back_names (map (term n) i) (tops n ms) (equations n after) top also)) in
    let net = linked_net nets n i p rest after here.names_too are steps in
    record {
      now = refl;
      net = nets.through one (net_of n i rest) other here (nets.through (net_of n i rest) (net_of n i after) other net there);
      names = also;
    }

-- ---- pairs and agents among pieces

pub placed : (now : List Equation) (ms : List Met) (stuck : List Equation) (xs us : List Piece) → IsPermutation now (map pair_of ms ++ stuck) → IsPermutation xs (flat_map agents_of ms ++ us)
    → IsPermutation (map equated_of now ++ xs) (map equated_of (map pair_of ms) ++ (flat_map agents_of ms ++ (map equated_of stuck ++ us)))
placed now ms stuck xs us pairs agents =
    let heads = map equated_of (map pair_of ms) in
    let st = map equated_of stuck in
    let cells = flat_map agents_of ms in
    let one : IsPermutation (map equated_of now) (heads ++ st) =
    transport (IsPermutation (map equated_of now)) (map-append equated_of (map pair_of ms) stuck) (IsPermutation-map equated_of now (map pair_of ms ++ stuck) pairs) in
    let both = IsPermutation-append (map equated_of now) (heads ++ st) xs (cells ++ us) one agents in
    let joined : IsPermutation (map equated_of now ++ xs) (heads ++ (st ++ (cells ++ us))) = transport (IsPermutation (map equated_of now ++ xs)) (append_assoc heads st (cells ++ us)) both in
    IsPermutation-trans (map equated_of now ++ xs) (heads ++ (st ++ (cells ++ us))) (heads ++ (cells ++ (st ++ us))) joined
    (IsPermutation-append_right heads (st ++ (cells ++ us)) (cells ++ (st ++ us)) (to_front st cells us))

-- how pairs that are still to be taken are a generation of the calculus, and where it leads
pub record Path (rs : Rules) (numbers : List ℕ) (p : Plans) (n : Numbers) (i : List Word) (now : List Equation) (fired : List ℕ) (xs ys : List Piece) : Type 0 where
  pub ms : List Met
  pub known : AllByRecursion (IsKnown n) ms
  pub stuck : List Equation
  pub stuck_each : AllByRecursion (IsStuck p) stuck
  pub us : List Piece
  pub pairs : IsPermutation now (map pair_of ms ++ stuck)
  pub agents : IsPermutation xs (flat_map agents_of ms ++ us)
  pub goes : (next : ℕ) → (net_of n i (map equated_of now ++ xs)).next ≤ next
      → (e : Generation) × Goes rs.rules (map (rule_number numbers) fired) (generation n i ms (map equated_of stuck ++ us) next) e × (e.now ≡ []) × OneNet (without_now e) (net_of n i ys)

-- ---- none is left

none_left : (now : List Equation) → IsPermutation now [] → now ≡ []
none_left [] moved = refl
none_left (e ∷ es) moved = let same = length_permutation (e ∷ es) [] moved in absurd (omega (arith, same))

path_ended : GoingLaws → (rs : Rules) (numbers : List ℕ) (p : Plans) (n : Numbers) (i : List Word) (now : List Equation) (xs ys : List Piece) → Plain rs numbers p n
    → Stands rs n i (map equated_of now ++ xs) → IsPermutation now [] → Steps p [] xs ys → Path rs numbers p n i now [] xs ys
path_ended laws rs numbers p n i now xs ys given s moved steps = record {
  ms = [];
  known = tt;
  stuck = [];
  stuck_each = tt;
  us = xs;
  pairs = moved;
  agents = IsPermutation-refl xs;
  goes = λ next high.
      let nets = laws.reach.nets in
      let g = generation n i [] xs next in
      let same : map equated_of now ++ xs ≡ xs = ap (λ l. map equated_of l ++ xs) (none_left now moved) in
      let stands = transport (Stands rs n i) same s in
      let low : (net_of n i xs).next ≤ next = transport (λ l. (net_of n i l).next ≤ next) same high in
      let named : HasNames (without_now g) = record {
        below = higher_all (net_of n i xs).next next (configuration_names (net_of n i xs)) low stands.named.below;
        twice = stands.named.twice;
      } in
      let here = at_next nets n i xs next named in
      let net = linked_net nets n i p xs ys stands.named stands.pieces.each steps in
      (g, goes_ended g, refl, nets.through (without_now g) (net_of n i xs) (net_of n i ys) here net);
}

-- ---- one is stuck

not_agent : (e : Equation) (cells s : List Piece) → list_all is_agent cells ≡ true → IsPermutation cells (equated_of e ∷ s) → ⊥
not_agent e cells s all moved = true≢false (sym (all_moved is_agent cells (equated_of e ∷ s) moved all))

pub parts_are : (n : Numbers) (ps front middle rest : List Piece) → ArePieces n.arities ps → IsPermutation ps (front ++ (middle ++ rest)) → ArePieces n.arities rest
parts_are n ps front middle rest are moved =
    all_back (IsPiece n.arities) middle rest (all_back (IsPiece n.arities) front (middle ++ rest) (all_order (IsPiece n.arities) ps (front ++ (middle ++ rest)) moved are))

stuck_moved : (e : Equation) (now es : List Equation) (xs : List Piece) → IsPermutation now (e ∷ es) → IsPermutation (map equated_of now ++ xs) (map equated_of es ++ (equated_of e ∷ xs))
stuck_moved e now es xs moved =
    IsPermutation-trans (map equated_of now ++ xs) (equated_of e ∷ (map equated_of es ++ xs)) (map equated_of es ++ (equated_of e ∷ xs))
    (IsPermutation-append_left xs (map equated_of now) (equated_of e ∷ map equated_of es) (IsPermutation-map equated_of now (e ∷ es) moved))
    (IsPermutation-sym (map equated_of es ++ (equated_of e ∷ xs)) (equated_of e ∷ (map equated_of es ++ xs)) (IsPermutation-middle (map equated_of es) (equated_of e) xs))

pub moved_stands : GoingLaws → (rs : Rules) (numbers : List ℕ) (p : Plans) (n : Numbers) (i : List Word) (e : Equation) (now es : List Equation) (xs : List Piece) → Plain rs numbers p n
    → Stands rs n i (map equated_of now ++ xs) → IsPermutation now (e ∷ es) → Stands rs n i (map equated_of es ++ (equated_of e ∷ xs))
moved_stands laws rs numbers p n i e now es xs given s moved =
    stands_on laws rs numbers p n i [] (map equated_of now ++ xs) (map equated_of es ++ (equated_of e ∷ xs)) given s
    (no_step (map equated_of now ++ xs) (map equated_of es ++ (equated_of e ∷ xs)) (stuck_moved e now es xs moved))

path_stays : GoingLaws → (rs : Rules) (numbers : List ℕ) (p : Plans) (n : Numbers) (i : List Word) (e : Equation) (now es : List Equation) (is : List ℕ) (xs ys : List Piece) → Plain rs numbers p n
    → Stands rs n i (map equated_of now ++ xs) → IsPermutation now (e ∷ es) → IsStuck p e → Path rs numbers p n i es is (equated_of e ∷ xs) ys → Path rs numbers p n i now is xs ys
path_stays laws rs numbers p n i e now es is xs ys given s moved is_stuck path = by (in_part (equated_of e) xs (flat_map agents_of path.ms) path.us path.agents)
  where
    by : InPart (equated_of e) xs (flat_map agents_of path.ms) path.us → Path rs numbers p n i now is xs ys
    by (in_first t first rest) = absurd (not_agent e (flat_map agents_of path.ms) t (are_agents path.ms) first)
    by (in_second t second rest) =
        let ms = path.ms in
        let st = map equated_of path.stuck in
        let pairs : IsPermutation now (map pair_of ms ++ (e ∷ path.stuck)) =
        IsPermutation-trans now (e ∷ es) (map pair_of ms ++ (e ∷ path.stuck)) moved
        (IsPermutation-trans (e ∷ es) (e ∷ (map pair_of ms ++ path.stuck)) (map pair_of ms ++ (e ∷ path.stuck)) (IsPermutation-cons e es (map pair_of ms ++ path.stuck) path.pairs)
        (IsPermutation-sym (map pair_of ms ++ (e ∷ path.stuck)) (e ∷ (map pair_of ms ++ path.stuck)) (IsPermutation-middle (map pair_of ms) e path.stuck))) in
        let before = (equated_of e ∷ st) ++ t in
        let after = st ++ path.us in
        let same : IsPermutation before after =
        IsPermutation-trans before (st ++ equated_of e ∷ t) after (IsPermutation-sym (st ++ equated_of e ∷ t) before (IsPermutation-middle st (equated_of e) t))
        (IsPermutation-append_right st (equated_of e ∷ t) path.us (IsPermutation-sym path.us (equated_of e ∷ t) second)) in
        let q0 = map equated_of now ++ xs in
        let q1 = map equated_of es ++ (equated_of e ∷ xs) in
        let stands = moved_stands laws rs numbers p n i e now es xs given s moved in
        let here = placed now ms (e ∷ path.stuck) xs t pairs rest in
        record {
          ms = ms;
          known = path.known;
          stuck = e ∷ path.stuck;
          stuck_each = (is_stuck, path.stuck_each);
          us = t;
          pairs = pairs;
          agents = rest;
          goes = λ next high.
              let nets = laws.reach.nets in
              let top = next + (net_of n i q1).next in
              let one = (net_met nets n i ms q0 before next given.sound path.known s.named here high).names_too in
              let other = (net_met nets n i ms q1 after top given.sound path.known stands.named (placed es ms path.stuck (equated_of e ∷ xs) path.us path.pairs path.agents) (omega arith)).names_too in
              let are = parts_are n q0 (map equated_of (map pair_of ms)) (flat_map agents_of ms) before s.pieces.each here in
              let change = rest_changes laws n i p ms before after next top one other are (no_step before after same) in
              let later = path.goes top (omega arith) in
              (later.0, goes_changes (map (rule_number numbers) is) (generation n i ms before next) (generation n i ms after top) later.0 change later.1, later.2, later.3);
        }

-- ---- one fires: agents of other pairs aren't made

some_over : (ss : List Symbol) (n : Numbers) (i : List Word) (ps front rest : List Piece) → is_over ss (net_of n i ps) ≡ true → IsPermutation ps (front ++ rest) → is_over ss (net_of n i rest) ≡ true
some_over ss n i ps front rest over moved =
    let both = and_parts (list_all (is_tree_over ss) (map (term n) i)) (list_all (is_pair_over ss) (equations n ps)) over in
    let ordered : IsPermutation (equations n ps) (equations n front ++ equations n rest) =
    transport (IsPermutation (equations n ps)) (flat_parts (equations_of n) front rest) (flat_order (equations_of n) ps (front ++ rest) moved) in
    let all = all_moved (is_pair_over ss) (equations n ps) (equations n front ++ equations n rest) ordered both.1 in
    let parts = and_parts (list_all (is_pair_over ss) (equations n front)) (list_all (is_pair_over ss) (equations n rest)) (sym (list_all-append (is_pair_over ss) (equations n front) (equations n rest)) ∙ all) in
    and_both both.0 parts.1

abbrev pub NotIn : List Piece → Piece → Type 0
NotIn made a = (s : List Piece) → IsPermutation made (a ∷ s) → ⊥

agent_not_in : (n : Numbers) (made : List Piece) (s place : ℕ) (args : List Word) → slice_get n.arities s ≡ Some (length args)
    → (is_constant_tag n.arities (agent_word s place).tag ≡ false → sum_by (room (agent_word s place)) made ≡ 0) → AllByRecursion (NotIn made) (agent_with (agent_word s place) args)
agent_not_in n made s place [] arity none = tt
agent_not_in n made s place (v ∷ vs) arity none = (not_in, tt)
  where
    not_in : NotIn made (agent_of (agent_word s place) (v ∷ vs))
    not_in t moved =
        let w : Word = agent_word s place in
        let is_agent_of : IsAgentOf n.arities (s + 1) (length (v ∷ vs)) = record { symbol = s; is = refl; known = arity; some = omega arith } in
        let zero = none (agent_tag n.arities (s + 1) (length (v ∷ vs)) is_agent_of) in
        let all = sum_by-IsPermutation (room w) made (agent_of w (v ∷ vs) ∷ t) moved in
        let parts = sum_by-cons (room w) (agent_of w (v ∷ vs)) t in
        let here : ◌≡◌ {A = ℕ} (cond (word_eq w w) 1 0) 1 = rw (word_itself w) refl in
        omega (arith, zero, all, parts, here)

two_counted : (w l r : Word) → count w (l ∷ r ∷ []) ≡ cond (word_eq w l) 1 0 + cond (word_eq w r) 1 0
two_counted w l r =
    let first : count w (l ∷ r ∷ []) ≡ cond (word_eq w l) 1 0 + count w (r ∷ []) = sum_by-cons (λ u. cond (word_eq w u) 1 0) l (r ∷ []) in
    let second : count w (r ∷ []) ≡ cond (word_eq w r) 1 0 + count w [] = sum_by-cons (λ u. cond (word_eq w u) 1 0) r [] in
    let nothing : count w [] ≡ 0 = refl in
    omega (arith, first, second, nothing)

more_used : (w : Word) (m : Met) (ms : List Met) → sum_by (uses w) (map equated_of (map pair_of (m ∷ ms)))
    ≡ cond (word_eq w (left_word m)) 1 0 + cond (word_eq w (right_word m)) 1 0 + sum_by (uses w) (map equated_of (map pair_of ms))
more_used w m ms =
    let first = sum_by-cons (uses w) (equated_of (pair_of m)) (map equated_of (map pair_of ms)) in
    let two = two_counted w (left_word m) (right_word m) in
    omega (arith, first, two)

not_in : (n : Numbers) (made : List Piece) (ms : List Met) → AllByRecursion (IsKnown n) ms
    → ((w : Word) → is_constant_tag n.arities w.tag ≡ false → 1 ≤ sum_by (uses w) (map equated_of (map pair_of ms)) → sum_by (room w) made ≡ 0)
    → AllByRecursion (NotIn made) (flat_map agents_of ms)
not_in n made [] known none = tt
not_in n made (m ∷ ms) known none =
    let l = left_word m in
    let r = right_word m in
    let left = agent_not_in n made m.left m.left_place m.left_args known.0.left_arity (λ tag. none l tag
    (let more = more_used l m ms in let here : ◌≡◌ {A = ℕ} (cond (word_eq l l) 1 0) 1 = rw (word_itself l) refl in omega (arith, more, here))) in
    let right = agent_not_in n made m.right m.right_place m.right_args known.0.right_arity (λ tag. none r tag
    (let more = more_used r m ms in let here : ◌≡◌ {A = ℕ} (cond (word_eq r r) 1 0) 1 = rw (word_itself r) refl in omega (arith, more, here))) in
    let rest = not_in n made ms known.1 (λ w tag some. none w tag (let more = more_used w m ms in omega (arith, more, some))) in
    all_append (NotIn made) (agents_of m) (flat_map agents_of ms) (all_append (NotIn made) (agent_with l m.left_args) (agent_with r m.right_args) left right) rest

pub out_of_made : (cells made us rest : List Piece) → AllByRecursion (NotIn made) cells → IsPermutation (cells ++ us) (made ++ rest)
    → (others : List Piece) × IsPermutation rest (cells ++ others) × IsPermutation us (made ++ others)
out_of_made [] made us rest none moved = (rest, IsPermutation-refl rest, moved)
out_of_made (a ∷ cells) made us rest none moved = by (in_part a (cells ++ us) made rest moved) (λ s left. out_of_made cells made us s none.1 left)
  where
    by : InPart a (cells ++ us) made rest → ((s : List Piece) → IsPermutation (cells ++ us) (made ++ s) → (others : List Piece) × IsPermutation s (cells ++ others) × IsPermutation us (made ++ others))
        → (others : List Piece) × IsPermutation rest (a ∷ (cells ++ others)) × IsPermutation us (made ++ others)
    by (in_first s first left) again = absurd (none.0 s first)
    by (in_second s second left) again =
        let later = again s left in
        (later.0, IsPermutation-trans rest (a ∷ s) (a ∷ (cells ++ later.0)) second (IsPermutation-cons a s (cells ++ later.0) later.1), later.2)

pub equated_room : (w : Word) (es : List Equation) → sum_by (room w) (map equated_of es) ≡ 0
equated_room w [] = refl
equated_room w (e ∷ es) =
    let first = sum_by-cons (room w) (equated_of e) (map equated_of es) in
    let rest = equated_room w es in
    omega (arith, first, rest)

fresh_beside : (ws : List Word) (rest : List Piece) (es : List Equation) → AreFresh ws rest → AreFresh ws (rest ++ map equated_of es)
fresh_beside [] rest es fresh = tt
fresh_beside (w ∷ ws) rest es fresh = (
  (let all = sum_by-append (room w) rest (map equated_of es) in let none = equated_room w es in let here = fresh.0 in omega (arith, all, none, here)),
  fresh.1,
  fresh_beside ws rest es fresh.2,
)

-- the agents of pairs have no more room than the pairs use
pub met_rooms : (w : Word) (ms : List Met) → sum_by (room w) (flat_map agents_of ms) ≤ sum_by (uses w) (map equated_of (map pair_of ms))
met_rooms w [] = omega arith
met_rooms w (m ∷ ms) =
    let more = more_used w m ms in
    let all = sum_by-append (room w) (agents_of m) (flat_map agents_of ms) in
    let both = sum_by-append (room w) (agent_with (left_word m) m.left_args) (agent_with (right_word m) m.right_args) in
    let left = agent_room w (left_word m) m.left_args in
    let right = agent_room w (right_word m) m.right_args in
    let rest = met_rooms w ms in
    omega (arith, more, all, both, left, right, rest)

fresh_part : (ws : List Word) (rest cells others : List Piece) (stuck : List Equation) → IsPermutation rest (cells ++ others) → AreFresh ws rest → AreFresh ws (map equated_of stuck ++ others)
fresh_part [] rest cells others stuck moved fresh = tt
fresh_part (w ∷ ws) rest cells others stuck moved fresh = (
  (let all = sum_by-append (room w) (map equated_of stuck) others in
      let none = equated_room w stuck in
      let same = sum_by-IsPermutation (room w) rest (cells ++ others) moved in
      let parts = sum_by-append (room w) cells others in
      let here = fresh.0 in
      omega (arith, all, none, same, parts, here)),
  fresh.1,
  fresh_part ws rest cells others stuck moved fresh.2,
)

from_but_next : (c d : Configuration) → HasNames c → HasNames d → SameButNext c d → OneNet c d
from_but_next c d named also s = record { names = named; names_too = also; end = c; end_too = d; steps = no_name_step c; steps_too = no_name_step d; same = s }

module _ (laws : GoingLaws) (rs : Rules) (numbers : List ℕ) (p : Plans) (n : Numbers) (face : List Word) (given : Plain rs numbers p n) (e : Equation) (now es : List Equation) (k : ℕ) (is : List ℕ)
    (xs before after linked ys : List Piece) (s : Stands rs n face (map equated_of now ++ xs)) (moved : IsPermutation now (e ∷ es)) (first : Steps p [] xs before)
    (fp : FiresPair p e k (equated_of e ∷ before) after) (second : Steps p [] after linked) where
  abbrev f : Fires p k (equated_of e ∷ before) after
  f = fp.fires

  abbrev m : Met
  m = record { left = f.left; right = f.right; left_place = f.left_place; right_place = f.right_place; left_args = f.left_args; right_args = f.right_args }

  abbrev a : List Piece
  a = agent_with (left_word m) f.left_args

  abbrev b : List Piece
  b = agent_with (right_word m) f.right_args

  abbrev pm : List Piece
  pm = pieces_made f.plan (constants (length p.arities) ++ (f.left_args ++ (f.right_args ++ (f.names ++ f.made)))) f.names f.made

  abbrev ees : List Piece
  ees = map equated_of es

  abbrev q0 : List Piece
  q0 = map equated_of now ++ xs

  abbrev q1 : List Piece
  q1 = map equated_of (e ∷ es) ++ before

  abbrev q2 : List Piece
  q2 = ees ++ after

  abbrev q3 : List Piece
  q3 = ees ++ linked

  pair_is : pair_of m ≡ e
  pair_is = λ j. record { left = sym fp.left j; right = sym fp.right j }

  known_m : IsKnown n m
  known_m = record {
    left_arity = ap (λ (l : List ℕ). slice_get l f.left) given.same ∙ f.left_arity;
    right_arity = ap (λ (l : List ℕ). slice_get l f.right) given.same ∙ f.right_arity;
  }

  before_is : IsPermutation before (a ++ (b ++ f.rest))
  before_is = same_first (equated_of (pair_of m)) before (a ++ (b ++ f.rest))
      (transport (λ z. IsPermutation (equated_of z ∷ before) (equated_of (pair_of m) ∷ (a ++ (b ++ f.rest)))) (sym pair_is) f.given)

  pub steps_1 : Steps p [] q0 q1
  steps_1 =
      steps_through p [] [] q0 (map equated_of (e ∷ es) ++ xs) q1
      (no_step q0 (map equated_of (e ∷ es) ++ xs) (IsPermutation-append_left xs (map equated_of now) (map equated_of (e ∷ es)) (IsPermutation-map equated_of now (e ∷ es) moved)))
      (steps_beside p [] (map equated_of (e ∷ es)) xs before refl first)

  stands_1 : Stands rs n face q1
  stands_1 = stands_on laws rs numbers p n face [] q0 q1 given s steps_1

  given_1 : IsPermutation q1 (equated_of (pair_of m) ∷ (a ++ (b ++ (f.rest ++ ees))))
  given_1 =
      let turn = IsPermutation-trans (ees ++ before) (before ++ ees) ((a ++ (b ++ f.rest)) ++ ees) (IsPermutation-append_comm ees before) (IsPermutation-append_left ees before (a ++ (b ++ f.rest)) before_is) in
      let is : (a ++ (b ++ f.rest)) ++ ees ≡ a ++ (b ++ (f.rest ++ ees)) = append_assoc a (b ++ f.rest) ees ∙ ap (λ l. a ++ l) (append_assoc b f.rest ees) in
      transport (λ z. IsPermutation (equated_of z ∷ (ees ++ before)) (equated_of (pair_of m) ∷ (a ++ (b ++ (f.rest ++ ees))))) pair_is
      (IsPermutation-cons (equated_of (pair_of m)) (ees ++ before) (a ++ (b ++ (f.rest ++ ees))) (transport (IsPermutation (ees ++ before)) is turn))

  result_1 : IsPermutation q2 (pm ++ (f.rest ++ ees))
  result_1 =
      transport (IsPermutation q2) (append_assoc pm f.rest ees)
      (IsPermutation-trans q2 (after ++ ees) ((pm ++ f.rest) ++ ees) (IsPermutation-append_comm ees after) (IsPermutation-append_left ees after (pm ++ f.rest) f.result))

  pub fires_1 : Fires p k q1 q2
  fires_1 = record {
    left = f.left;
    right = f.right;
    left_place = f.left_place;
    right_place = f.right_place;
    left_args = f.left_args;
    right_args = f.right_args;
    plan = f.plan;
    names = f.names;
    made = f.made;
    rest = f.rest ++ ees;
    number = f.number;
    has_plan = f.has_plan;
    left_arity = f.left_arity;
    right_arity = f.right_arity;
    given = given_1;
    names_count = f.names_count;
    made_count = f.made_count;
    name_tags = f.name_tags;
    made_tags = f.made_tags;
    fresh = fresh_beside (f.names ++ f.made) f.rest es f.fresh;
    result = result_1;
  }

  stands_2 : Stands rs n face q2
  stands_2 = stands_on laws rs numbers p n face (k ∷ []) q1 q2 given stands_1 (one_step p (k ∷ []) q1 q2 (step_fires k q1 q2 fires_1))

  pub stands_3 : Stands rs n face q3
  stands_3 = stands_on laws rs numbers p n face [] q2 q3 given stands_2 (steps_beside p [] ees after linked refl second)

  module _ (path : Path rs numbers p n face es is linked ys) where
    abbrev ms : List Met
    ms = path.ms

    abbrev cells : List Piece
    cells = flat_map agents_of ms

    abbrev st : List Piece
    st = map equated_of path.stuck

    back : (us : List Piece) × IsPermutation after (cells ++ us) × Steps p [] us path.us
    back = agents_stay p after linked cells path.us second (are_agents ms) path.agents

    pairs_used : (w : Word) → sum_by (uses w) (map equated_of (map pair_of ms)) ≤ sum_by (uses w) ees
    pairs_used w =
        let same = sum_by-IsPermutation (uses w) ees (map equated_of (map pair_of ms ++ path.stuck)) (IsPermutation-map equated_of es (map pair_of ms ++ path.stuck) path.pairs) in
        let split = ap (sum_by (uses w)) (map-append equated_of (map pair_of ms) path.stuck) ∙ sum_by-append (uses w) (map equated_of (map pair_of ms)) st in
        omega (arith, same, split)

    bound : (w : Word) → is_constant_tag n.arities w.tag ≡ false → 1 ≤ sum_by (uses w) (map equated_of (map pair_of ms)) → sum_by (room w) pm ≡ 0
    bound w tag some =
        let made = plan_room w f.plan (constants (length p.arities) ++ (f.left_args ++ (f.right_args ++ (f.names ++ f.made)))) f.names f.made f.made_count in
        let counts : count w (f.names ++ f.made) ≡ count w f.names + count w f.made = sum_by-append (λ v. cond (word_eq w v) 1 0) f.names f.made in
        elim (fresh_or w (f.names ++ f.made) f.rest f.fresh) [
          | inl none ↦ omega (arith, made, counts, none)
          | inr found ↦
              let few = stands_1.pieces.separate.each w tag in
              let u = sum_of_pair (uses w) q1 (equated_of (pair_of m)) a b (f.rest ++ ees) given_1 in
              let r = sum_of_pair (room w) q1 (equated_of (pair_of m)) a b (f.rest ++ ees) given_1 in
              let u_rest = sum_by-append (uses w) f.rest ees in
              let r_rest = sum_by-append (room w) f.rest ees in
              let none = equated_room w es in
              let two = two_counted w (left_word m) (right_word m) in
              let left = agent_room w (left_word m) f.left_args in
              let right = agent_room w (right_word m) f.right_args in
              let used = pairs_used w in
              let free = found.1 in
              absurd (omega (arith, few, u, r, u_rest, r_rest, none, two, left, right, used, free, some))
        ]

    split : (others : List Piece) × IsPermutation f.rest (cells ++ others) × IsPermutation back.0 (pm ++ others)
    split = out_of_made cells pm back.0 f.rest (not_in n pm ms path.known bound)
        (IsPermutation-trans (cells ++ back.0) after (pm ++ f.rest) (IsPermutation-sym after (cells ++ back.0) back.1) f.result)

    abbrev others : List Piece
    others = split.0

    before_split : IsPermutation before (flat_map agents_of (m ∷ ms) ++ others)
    before_split =
        let inner : IsPermutation before (a ++ (b ++ (cells ++ others))) =
        IsPermutation-trans before (a ++ (b ++ f.rest)) (a ++ (b ++ (cells ++ others))) before_is
        (IsPermutation-append_right a (b ++ f.rest) (b ++ (cells ++ others)) (IsPermutation-append_right b f.rest (cells ++ others) split.1)) in
        transport (IsPermutation before) (sym (append_assoc a b (cells ++ others)) ∙ sym (append_assoc (a ++ b) cells others)) inner

    front : (us : List Piece) × IsPermutation xs (flat_map agents_of (m ∷ ms) ++ us) × Steps p [] us others
    front = agents_stay p xs before (flat_map agents_of (m ∷ ms)) others first (are_agents (m ∷ ms)) before_split

    pairs_1 : IsPermutation (e ∷ es) (map pair_of (m ∷ ms) ++ path.stuck)
    pairs_1 = transport (λ z. IsPermutation (z ∷ es) (pair_of m ∷ (map pair_of ms ++ path.stuck))) pair_is (IsPermutation-cons (pair_of m) es (map pair_of ms ++ path.stuck) path.pairs)

    pairs_0 : IsPermutation now (map pair_of (m ∷ ms) ++ path.stuck)
    pairs_0 = IsPermutation-trans now (e ∷ es) (map pair_of (m ∷ ms) ++ path.stuck) moved pairs_1

    after_split : IsPermutation after (cells ++ (pm ++ others))
    after_split = IsPermutation-trans after (cells ++ back.0) (cells ++ (pm ++ others)) back.1 (IsPermutation-append_right cells back.0 (pm ++ others) split.2)

    abbrev r0 : List Piece
    r0 = st ++ front.0

    abbrev r1 : List Piece
    r1 = st ++ others

    abbrev r2 : List Piece
    r2 = st ++ (pm ++ others)

    abbrev r3 : List Piece
    r3 = st ++ path.us

    place_0 : IsPermutation q0 (map equated_of (map pair_of (m ∷ ms)) ++ (flat_map agents_of (m ∷ ms) ++ r0))
    place_0 = placed now (m ∷ ms) path.stuck xs front.0 pairs_0 front.1

    place_1 : IsPermutation q1 (map equated_of (map pair_of (m ∷ ms)) ++ (flat_map agents_of (m ∷ ms) ++ r1))
    place_1 = placed (e ∷ es) (m ∷ ms) path.stuck before others pairs_1 before_split

    place_2 : IsPermutation q2 (map equated_of (map pair_of ms) ++ (cells ++ r2))
    place_2 = placed es ms path.stuck after (pm ++ others) path.pairs after_split

    place_3 : IsPermutation q3 (map equated_of (map pair_of ms) ++ (cells ++ r3))
    place_3 = placed es ms path.stuck linked path.us path.pairs path.agents

    -- the pair by itself, with what is neither another pair nor its agents
    abbrev x1 : List Piece
    x1 = equated_of (pair_of m) ∷ (a ++ (b ++ r1))

    abbrev y1 : List Piece
    y1 = pm ++ r1

    alone : IsPermutation q1 ((map equated_of (map pair_of ms) ++ cells) ++ x1)
    alone =
        let heads = map equated_of (map pair_of ms) in
        let h = equated_of (pair_of m) in
        let inner : IsPermutation (heads ++ (((a ++ b) ++ cells) ++ r1)) ((heads ++ cells) ++ (a ++ (b ++ r1))) =
        transport (λ l. IsPermutation (heads ++ l) ((heads ++ cells) ++ (a ++ (b ++ r1)))) (sym (append_assoc (a ++ b) cells r1))
        (transport (IsPermutation (heads ++ ((a ++ b) ++ (cells ++ r1)))) (sym (append_assoc heads cells ((a ++ b) ++ r1)) ∙ ap (λ l. (heads ++ cells) ++ l) (append_assoc a b r1))
        (IsPermutation-append_right heads ((a ++ b) ++ (cells ++ r1)) (cells ++ ((a ++ b) ++ r1)) (to_front (a ++ b) cells r1))) in
        IsPermutation-trans q1 (h ∷ ((heads ++ cells) ++ (a ++ (b ++ r1)))) ((heads ++ cells) ++ x1)
        (IsPermutation-trans q1 (h ∷ (heads ++ (((a ++ b) ++ cells) ++ r1))) (h ∷ ((heads ++ cells) ++ (a ++ (b ++ r1)))) place_1
        (IsPermutation-cons h (heads ++ (((a ++ b) ++ cells) ++ r1)) ((heads ++ cells) ++ (a ++ (b ++ r1))) inner))
        (IsPermutation-sym ((heads ++ cells) ++ x1) (h ∷ ((heads ++ cells) ++ (a ++ (b ++ r1)))) (IsPermutation-middle (heads ++ cells) h (a ++ (b ++ r1))))

    abbrev fires_alone : Fires p k x1 y1
    fires_alone = record {
      left = f.left;
      right = f.right;
      left_place = f.left_place;
      right_place = f.right_place;
      left_args = f.left_args;
      right_args = f.right_args;
      plan = f.plan;
      names = f.names;
      made = f.made;
      rest = r1;
      number = f.number;
      has_plan = f.has_plan;
      left_arity = f.left_arity;
      right_arity = f.right_arity;
      given = IsPermutation-refl x1;
      names_count = f.names_count;
      made_count = f.made_count;
      name_tags = f.name_tags;
      made_tags = f.made_tags;
      fresh = fresh_part (f.names ++ f.made) f.rest cells others path.stuck split.1 f.fresh;
      result = IsPermutation-refl y1;
    }

    separate_alone : IsSeparate n.arities face x1
    separate_alone = record {
      each = λ w tag.
          let few = stands_1.pieces.separate.each w tag in
          let heads = map equated_of (map pair_of ms) in
          let u = sum_by-IsPermutation (uses w) q1 ((heads ++ cells) ++ x1) alone in
          let r = sum_by-IsPermutation (room w) q1 ((heads ++ cells) ++ x1) alone in
          let u_two = sum_by-append (uses w) (heads ++ cells) x1 in
          let r_two = sum_by-append (room w) (heads ++ cells) x1 in
          let u_front = sum_by-append (uses w) heads cells in
          let r_front = sum_by-append (room w) heads cells in
          let none = equated_room w (map pair_of ms) in
          let rooms = met_rooms w ms in
          omega (arith, few, u, r, u_two, r_two, u_front, r_front, none, rooms);
    }

    abbrev c1 : Configuration
    c1 = net_of n face x1

    named_alone : HasNames c1
    named_alone = some_names n face q1 (map equated_of (map pair_of ms) ++ cells) x1 stands_1.named alone

    over_alone : is_over rs.symbols c1 ≡ true
    over_alone = some_over rs.symbols n face q1 (map equated_of (map pair_of ms) ++ cells) x1 stands_1.over alone

    parts : FiredParts rs numbers n face p k x1 y1 fires_alone
    parts = fires_parts laws.reach rs numbers p n c1 face x1 y1 [] k given.set over_alone named_alone given.plans given.of_rules given.sound given.same separate_alone (laws.start rs c1 named_alone) fires_alone

    abbrev met : Configuration
    met = with_equations n face (put_of n m ∷ equations n r1) c1.next

    to_met : OneNet c1 met
    to_met = parts.to_met

    over_met : is_over rs.symbols met ≡ true
    over_met = laws.reach.over rs c1 met [] given.set over_alone named_alone (laws.reach.net rs c1 c1 met [] (laws.start rs c1 named_alone) to_met)

    abbrev active : Active
    active = parts.step.active

    has_rule : active_pair rs.rules (put_of n m) ≡ Some active
    has_rule = ap (active_pair rs.rules) (sym parts.pair) ∙ parts.step.has_rule

    -- the products with names from any number on that is high enough
    abbrev out : ℕ → List Pair
    out base = products_with rs.rules (λ j. base + j) active

    abbrev fired_from_base : ℕ → ℕ → Configuration
    fired_from_base base top = with_equations n face (out base ++ equations n r1) top

    abbrev by_base : (base : ℕ) → c1.next ≤ base → FiresBy rs.rules met (fired_from_base base (base + count_of rs.rules parts.number)) parts.number
    by_base base high = record {
      equation = put_of n m;
      others = equations n r1;
      active = active;
      names = λ j. base + j;
      given = IsPermutation-refl met.equations;
      has_rule = has_rule;
      by_rule = parts.step.by_rule;
      fresh = record {
        absent = λ j low. absent_above (base + j) met.next (configuration_names met) to_met.names_too.below (omega (arith, high));
        apart = λ j l low less same. omega (arith, same);
        below = λ j low. omega (arith, low);
      };
      higher = omega (arith, high);
      interface = refl;
      equations = IsPermutation-refl (out base ++ equations n r1);
    }

    fired_net : (base : ℕ) → c1.next ≤ base → OneNet (fired_from_base base (base + count_of rs.rules parts.number)) (net_of n face y1)
    fired_net base high =
        let d = fired_from_base base (base + count_of rs.rules parts.number) in
        let step = by_base base high in
        let reached = laws.reach.fires rs met met d [] parts.number given.set over_met to_met.names_too (laws.start rs met to_met.names_too) step in
        let named = laws.reach.names rs met d (parts.number ∷ []) reached in
        let same = laws.either rs met parts.end d parts.number parts.number given.set over_met to_met.names_too parts.step step parts.pair in
        laws.reach.nets.through d parts.end (net_of n face y1) (laws.other_way parts.end d (from_but_next parts.end d parts.net.names named same)) parts.net

    goes_on : (next : ℕ) → (net_of n face q0).next ≤ next
        → (end : Generation) × Goes rs.rules (map (rule_number numbers) (k ∷ is)) (generation n face (m ∷ ms) r0 next) end × (end.now ≡ []) × OneNet (without_now end) (net_of n face ys)
    goes_on next high =
        let nets = laws.reach.nets in
        let n1 = next + ((net_of n face q1).next + c1.next) in
        let n2 = n1 + count_of rs.rules parts.number in
        let n3 = n2 + (net_of n face q2).next in
        let n4 = n3 + (net_of n face q3).next in
        let g0 = generation n face (m ∷ ms) r0 next in
        let g1 = generation n face (m ∷ ms) r1 n1 in
        let h : Generation = record { interface = map (term n) face; now = tops n ms; rest = out n1 ++ equations n r1; next = n2 } in
        let g3 = generation n face ms r2 n3 in
        let g4 = generation n face ms r3 n4 in
        let named_0 = (net_met nets n face (m ∷ ms) q0 r0 next given.sound (known_m, path.known) s.named place_0 high).names_too in
        let named_1 = (net_met nets n face (m ∷ ms) q1 r1 n1 given.sound (known_m, path.known) stands_1.named place_1 (omega arith)).names_too in
        let named_2 = (net_met nets n face ms q2 r2 n3 given.sound path.known stands_2.named place_2 (omega arith)).names_too in
        let named_3 = (net_met nets n face ms q3 r3 n4 given.sound path.known stands_3.named place_3 (omega arith)).names_too in
        let are_0 = parts_are n q0 (map equated_of (map pair_of (m ∷ ms))) (flat_map agents_of (m ∷ ms)) r0 s.pieces.each place_0 in
        let are_2 = parts_are n q2 (map equated_of (map pair_of ms)) cells r2 stands_2.pieces.each place_2 in
        let change_0 = rest_changes laws n face p (m ∷ ms) r0 r1 next n1 named_0 named_1 are_0 (steps_beside p [] st front.0 others refl front.2) in
        let fire : OneFires rs.rules g1 h parts.number = record {
          equation = put_of n m;
          later = tops n ms;
          active = active;
          names = λ j. n1 + j;
          given = IsPermutation-refl g1.now;
          has_rule = has_rule;
          by_rule = parts.step.by_rule;
          fresh = record {
            absent = λ j low. absent_above (n1 + j) n1 (configuration_names (whole g1)) named_1.below (omega arith);
            apart = λ j l low less same. omega (arith, same);
            below = λ j low. omega (arith, low);
          };
          higher = omega arith;
          interface = refl;
          now = refl;
          rest = refl;
        } in
        let net_h = fired_net n1 (omega arith) in
        let own_2 = back_names (map (term n) face) (tops n ms) (equations n r2) n3 named_2 in
        let here_2 = at_next nets n face r2 n3 own_2 in
        let are_y = all_order (IsPiece n.arities) r2 y1 (to_front st pm others) are_2 in
        let order : OneNet (net_of n face y1) (net_of n face r2) = linked_net nets n face p y1 r2 net_h.names_too are_y (no_step y1 r2 (to_front pm st others)) in
        let change_2 : RestChanges h g3 = record {
          now = refl;
          net = nets.through (without_now h) (net_of n face y1) (without_now g3) net_h
              (nets.through (net_of n face y1) (net_of n face r2) (without_now g3) order (laws.other_way (without_now g3) (net_of n face r2) here_2));
          names = named_2;
        } in
        let onward = steps_through p [] [] (pm ++ others) back.0 path.us (no_step (pm ++ others) back.0 (IsPermutation-sym back.0 (pm ++ others) split.2)) back.2 in
        let change_3 = rest_changes laws n face p ms r2 r3 n3 n4 named_2 named_3 are_2 (steps_beside p [] st (pm ++ others) path.us refl onward) in
        let later = path.goes n4 (omega arith) in
        let rules = map (rule_number numbers) is in
        let number : rule_number numbers k ≡ parts.number = get_or_from_slice_get numbers k parts.number 0 parts.numbered in
        let all = goes_changes (parts.number ∷ rules) g0 g1 later.0 change_0
        (goes_fires parts.number rules g1 h later.0 fire (goes_changes rules h g3 later.0 change_2 (goes_changes rules g3 g4 later.0 change_3 later.1))) in
        (later.0, transport (λ (z : ℕ). Goes rs.rules (z ∷ rules) g0 later.0) (sym number) all, later.2, later.3)

    pub path_fires : Path rs numbers p n face now (k ∷ is) xs ys
    path_fires = record { ms = m ∷ ms; known = (known_m, path.known); stuck = path.stuck; stuck_each = path.stuck_each; us = front.0; pairs = pairs_0; agents = front.1; goes = goes_on }

-- ---- steps before that fire nothing

path_from : GoingLaws → (rs : Rules) (numbers : List ℕ) (p : Plans) (n : Numbers) (i : List Word) (now : List Equation) (is : List ℕ) (xs before ys : List Piece) → Plain rs numbers p n
    → Stands rs n i (map equated_of now ++ xs) → Steps p [] xs before → Path rs numbers p n i now is before ys → Path rs numbers p n i now is xs ys
path_from laws rs numbers p n i now is xs before ys given s steps path =
    let ms = path.ms in
    let st = map equated_of path.stuck in
    let front = agents_stay p xs before (flat_map agents_of ms) path.us steps (are_agents ms) path.agents in
    let q0 = map equated_of now ++ xs in
    let q1 = map equated_of now ++ before in
    let stands = stands_on laws rs numbers p n i [] q0 q1 given s (steps_beside p [] (map equated_of now) xs before refl steps) in
    let one = st ++ front.0 in
    let other = st ++ path.us in
    let here = placed now ms path.stuck xs front.0 path.pairs front.1 in
    record {
      ms = ms;
      known = path.known;
      stuck = path.stuck;
      stuck_each = path.stuck_each;
      us = front.0;
      pairs = path.pairs;
      agents = front.1;
      goes = λ next high.
          let nets = laws.reach.nets in
          let top = next + (net_of n i q1).next in
          let named = (net_met nets n i ms q0 one next given.sound path.known s.named here high).names_too in
          let also = (net_met nets n i ms q1 other top given.sound path.known stands.named (placed now ms path.stuck before path.us path.pairs path.agents) (omega arith)).names_too in
          let are = parts_are n q0 (map equated_of (map pair_of ms)) (flat_map agents_of ms) one s.pieces.each here in
          let change = rest_changes laws n i p ms one other next top named also are (steps_beside p [] st front.0 path.us refl front.2) in
          let later = path.goes top (omega arith) in
          (later.0, goes_changes (map (rule_number numbers) is) (generation n i ms one next) (generation n i ms other top) later.0 change later.1, later.2, later.3);
    }

-- ---- all of them

-- a path, and the steps of all pieces
abbrev pub TakenPath : Rules → List ℕ → Plans → Numbers → List Word → List Equation → List ℕ → List Piece → List Piece → Type 0
TakenPath rs numbers p n i now fired xs ys = Path rs numbers p n i now fired xs ys × Steps p fired (map equated_of now ++ xs) ys

pub path_of : GoingLaws → (rs : Rules) (numbers : List ℕ) (p : Plans) (n : Numbers) (i : List Word) (now left : List Equation) (fired : List ℕ) (xs ys : List Piece) → Plain rs numbers p n → left ≡ []
    → Stands rs n i (map equated_of now ++ xs) → Takes p now left fired xs ys → TakenPath rs numbers p n i now fired xs ys
path_of laws rs numbers p n i now left fired xs ys given none s (ended es rest us vs moved steps) =
    let empty = transport (IsPermutation es) none moved in (
      path_ended laws rs numbers p n i es us vs given s empty steps,
      transport (λ (l : List Equation). Steps p [] (map equated_of l ++ us) vs) (sym (none_left es empty)) steps,
    )
path_of laws rs numbers p n i now left fired xs ys given none s (fires e es later rest k is us before after vs moved first fp takes) =
    let still = no_step after after (IsPermutation-refl after) in
    let stands = stands_3 laws rs numbers p n i given e es later k is us before after after vs s moved first fp still in
    let path = path_of laws rs numbers p n i later rest is after vs given none stands takes in
    let q0 = map equated_of es ++ us in
    let q1 = map equated_of (e ∷ later) ++ before in
    let q2 = map equated_of later ++ after in
    let one = steps_1 laws rs numbers p n i given e es later k is us before after after vs s moved first fp still in
    let two = one_step p (k ∷ []) q1 q2 (step_fires k q1 q2 (fires_1 laws rs numbers p n i given e es later k is us before after after vs s moved first fp still)) in (
      path_fires laws rs numbers p n i given e es later k is us before after after vs s moved first fp still path.0,
      steps_through p [] (k ∷ is) q0 q1 vs one (steps_through p (k ∷ []) is q1 q2 vs two path.1),
    )
path_of laws rs numbers p n i now left fired xs ys given none s (stays e es later rest is us before vs moved first stuck takes) =
    let q0 = map equated_of es ++ us in
    let q1 = map equated_of es ++ before in
    let q2 = map equated_of later ++ (equated_of e ∷ before) in
    let one = steps_beside p [] (map equated_of es) us before refl first in
    let begun = stands_on laws rs numbers p n i [] q0 q1 given s one in
    let stands = moved_stands laws rs numbers p n i e es later before given begun moved in
    let path = path_of laws rs numbers p n i later rest is (equated_of e ∷ before) vs given none stands takes in (
      path_from laws rs numbers p n i es is us before vs given s first (path_stays laws rs numbers p n i e es later is before vs given begun moved stuck path.0),
      steps_through p [] is q0 q1 vs one (steps_through p [] is q1 q2 vs (no_step q1 q2 (stuck_moved e es later before moved)) path.1),
    )
