-- Lemmas: pairs of agents among pieces, put together.
use Rattle.std.proofs.Common.{◌≡◌, ℕ, ◌≤◌, List, [], ◌∷◌, ◌++◌, true, Some, length, map, slice_get, refl, sym, ap, ◌∙◌, append_assoc, arith, subst as transport}
use Rattle.std.proofs.lemmas.Grind.{flat_map-append as flat_parts}
use Rattle.std.proofs.lemmas.List.Sorted.{IsPermutation-refl, IsPermutation-sym, IsPermutation-cons, IsPermutation-middle}
use Rattle.std.proofs.lemmas.List.Folds.{list_all-append}
use Rattle.std.specs.Prelude.{IsPermutation}
use Rattle.std.specs.List.{AllByRecursion, flat_map, list_all}
use Rattle.ic_term.specs.Tree.{Tree, Pair, names, pair_names}
use Rattle.ic_term.specs.Configuration.{Configuration, names_in, occurrences}
use Rattle.ic_settle.specs.lemmas.SubstitutionLaws.{occurrences-append}
use Rattle.ic_round.specs.Naming.{HasNames}
use Rattle.ic_reaching.specs.OneNet.{OneNet}
use Rattle.ic_reaching.specs.lemmas.Orders.{permuted_counts}
use Rattle.ic_arena.specs.declared.word.Word.{Word}
use Rattle.ic_arena.specs.Word.{agent_word}
use Rattle.ic_arena.specs.Piece.{Piece, agent_with}
use Rattle.ic_machine.specs.declared.equation.Equation.{Equation}
use Rattle.ic_machine.specs.Net.{equated_of}
use Rattle.ic_machine.specs.lemmas.Orders.{to_front}
use Rattle.ic_meaning.specs.Words.{Numbers, AreNumbers, term}
use Rattle.ic_meaning.specs.Nets.{equations_of, net_of}
use Rattle.ic_meaning.specs.lemmas.Orders.{flat_order}
use Rattle.ic_meaning.proofs.AgentsStay.{is_agent}
use Rattle.ic_meaning.proofs.Fired.{agent_term, meeting}
use Rattle.ic_meaning.proofs.Given.{NetLaws}
use Rattle.ic_meaning.proofs.Wholes.{with_equations, put_agent, above_each, higher_all}

-- two agents that meet, with their arguments
pub record Met : Type 0 where
  pub left : ℕ
  pub right : ℕ
  pub left_place : ℕ
  pub right_place : ℕ
  pub left_args : List Word
  pub right_args : List Word

abbrev pub left_word : Met → Word
left_word m = agent_word m.left m.left_place

abbrev pub right_word : Met → Word
right_word m = agent_word m.right m.right_place

abbrev pub pair_of : Met → Equation
pair_of m = record { left = left_word m; right = right_word m }

abbrev pub agents_of : Met → List Piece
agents_of m = agent_with (left_word m) m.left_args ++ agent_with (right_word m) m.right_args

abbrev pub put_of : Numbers → Met → Pair
put_of n m = meeting n m.left m.left_args m.right m.right_args

-- their arguments are cells many cells their arities
pub record IsKnown (n : Numbers) (m : Met) : Type 0 where
  pub left_arity : slice_get n.arities m.left ≡ Some (length m.left_args)
  pub right_arity : slice_get n.arities m.right ≡ Some (length m.right_args)

abbrev pub equations : Numbers → List Piece → List Pair
equations n ps = flat_map (equations_of n) ps

abbrev pub heads : Numbers → List Met → List Pair
heads n ms = equations n (map equated_of (map pair_of ms))

abbrev pub feet : Numbers → List Met → List Pair
feet n ms = equations n (flat_map agents_of ms)

abbrev pub tops : Numbers → List Met → List Pair
tops n ms = map (put_of n) ms

-- ---- one pair

meet_one : NetLaws → (n : Numbers) (i : List Word) (m : Met) (es : List Pair) (next : ℕ) → AreNumbers n → IsKnown n m
    → HasNames (with_equations n i (record { left = term n (left_word m); right = term n (right_word m) }
    ∷ (equations n (agent_with (left_word m) m.left_args) ++ (equations n (agent_with (right_word m) m.right_args) ++ es))) next)
    → OneNet (with_equations n i (record { left = term n (left_word m); right = term n (right_word m) }
    ∷ (equations n (agent_with (left_word m) m.left_args) ++ (equations n (agent_with (right_word m) m.right_args) ++ es))) next)
    (with_equations n i (put_of n m ∷ es) next)
meet_one laws n i m es next sound known named =
    let e : Piece → List Pair = equations_of n in
    let left : Word = left_word m in
    let right : Word = right_word m in
    let l : Tree = agent_term n m.left m.left_args in
    let r : Tree = agent_term n m.right m.right_args in
    let a : List Piece = agent_with left m.left_args in
    let b : List Piece = agent_with right m.right_args in
    let one : Configuration = with_equations n i (record { left = term n left; right = term n right } ∷ (flat_map e a ++ (flat_map e b ++ es))) next in
    let step = put_agent laws n i m.left m.left_place m.left_args (term n right) (flat_map e b ++ es) next sound known.left_arity named in
    let two : Configuration = with_equations n i (record { left = l; right = term n right } ∷ (flat_map e b ++ es)) next in
    let three : Configuration = with_equations n i (record { left = term n right; right = l } ∷ (flat_map e b ++ es)) next in
    let turn = laws.turned two (record { left = l; right = term n right }) (flat_map e b ++ es) step.names_too (IsPermutation-refl two.equations) in
    let step_too = put_agent laws n i m.right m.right_place m.right_args l es next sound known.right_arity turn.names_too in
    let four : Configuration = with_equations n i (record { left = r; right = l } ∷ es) next in
    let five : Configuration = with_equations n i (put_of n m ∷ es) next in
    let turn_back = laws.turned four (record { left = r; right = l }) es step_too.names_too (IsPermutation-refl four.equations) in
    laws.through one two five step (laws.through two three five turn (laws.through three four five step_too turn_back))

-- ---- all of them

first_out : (n : Numbers) (m : Met) (ms : List Met) (es : List Pair)
    → IsPermutation (heads n (m ∷ ms) ++ (feet n (m ∷ ms) ++ es))
    (record { left = term n (left_word m); right = term n (right_word m) }
    ∷ (equations n (agent_with (left_word m) m.left_args) ++ (equations n (agent_with (right_word m) m.right_args) ++ (heads n ms ++ (feet n ms ++ es)))))
first_out n m ms es =
    let e : Piece → List Pair = equations_of n in
    let a : List Pair = flat_map e (agent_with (left_word m) m.left_args) in
    let b : List Pair = flat_map e (agent_with (right_word m) m.right_args) in
    let h : Pair = record { left = term n (left_word m); right = term n (right_word m) } in
    let split : feet n (m ∷ ms) ≡ (a ++ b) ++ feet n ms =
    flat_parts e (agents_of m) (flat_map agents_of ms) ∙ ap (λ l. l ++ feet n ms) (flat_parts e (agent_with (left_word m) m.left_args) (agent_with (right_word m) m.right_args)) in
    let more : feet n (m ∷ ms) ++ es ≡ (a ++ b) ++ (feet n ms ++ es) = ap (λ l. l ++ es) split ∙ append_assoc (a ++ b) (feet n ms) es in
    let moved = to_front (heads n ms) (a ++ b) (feet n ms ++ es) in
    let placed : IsPermutation (heads n ms ++ ((a ++ b) ++ (feet n ms ++ es))) (a ++ (b ++ (heads n ms ++ (feet n ms ++ es)))) =
    transport (IsPermutation (heads n ms ++ ((a ++ b) ++ (feet n ms ++ es)))) (append_assoc a b (heads n ms ++ (feet n ms ++ es))) moved in
    IsPermutation-cons h (heads n ms ++ (feet n (m ∷ ms) ++ es)) (a ++ (b ++ (heads n ms ++ (feet n ms ++ es))))
    (transport (λ l. IsPermutation (heads n ms ++ l) (a ++ (b ++ (heads n ms ++ (feet n ms ++ es))))) (sym more) placed)

to_back : (p : Pair) (xs ys es : List Pair) → IsPermutation (p ∷ (xs ++ (ys ++ es))) (xs ++ (ys ++ p ∷ es))
to_back p xs ys es =
    transport (λ l. IsPermutation (p ∷ l) (xs ++ (ys ++ p ∷ es))) (append_assoc xs ys es)
    (transport (IsPermutation (p ∷ ((xs ++ ys) ++ es))) (append_assoc xs ys (p ∷ es))
    (IsPermutation-sym ((xs ++ ys) ++ p ∷ es) (p ∷ ((xs ++ ys) ++ es)) (IsPermutation-middle (xs ++ ys) p es)))

pub to_meetings : NetLaws → (n : Numbers) (i : List Word) (ms : List Met) (es : List Pair) (next : ℕ) → AreNumbers n → AllByRecursion (IsKnown n) ms
    → HasNames (with_equations n i (heads n ms ++ (feet n ms ++ es)) next)
    → OneNet (with_equations n i (heads n ms ++ (feet n ms ++ es)) next) (with_equations n i (tops n ms ++ es) next)
to_meetings laws n i [] es next sound known named = laws.itself (with_equations n i es next) named
to_meetings laws n i (m ∷ ms) es next sound known named =
    let e : Piece → List Pair = equations_of n in
    let a : List Pair = flat_map e (agent_with (left_word m) m.left_args) in
    let b : List Pair = flat_map e (agent_with (right_word m) m.right_args) in
    let h : Pair = record { left = term n (left_word m); right = term n (right_word m) } in
    let rest : List Pair = heads n ms ++ (feet n ms ++ es) in
    let start : Configuration = with_equations n i (heads n (m ∷ ms) ++ (feet n (m ∷ ms) ++ es)) next in
    let one : Configuration = with_equations n i (h ∷ (a ++ (b ++ rest))) next in
    let first = laws.order start one.equations named (first_out n m ms es) in
    let two : Configuration = with_equations n i (put_of n m ∷ rest) next in
    let second = meet_one laws n i m rest next sound known.0 first.names_too in
    let three : Configuration = with_equations n i (heads n ms ++ (feet n ms ++ put_of n m ∷ es)) next in
    let third = laws.order two three.equations second.names_too (to_back (put_of n m) (heads n ms) (feet n ms) es) in
    let fourth = to_meetings laws n i ms (put_of n m ∷ es) next sound known.1 third.names_too in
    let four : Configuration = with_equations n i (tops n ms ++ put_of n m ∷ es) next in
    let five : Configuration = with_equations n i (tops n (m ∷ ms) ++ es) next in
    let fifth = laws.order four five.equations fourth.names_too (IsPermutation-middle (tops n ms) (put_of n m) es) in
    laws.through start one five first (laws.through one two five second (laws.through two three five third (laws.through three four five fourth fifth)))

-- ---- of a net in pieces

pub placed_in : (n : Numbers) (ms : List Met) (rest : List Piece)
    → equations n (map equated_of (map pair_of ms) ++ (flat_map agents_of ms ++ rest)) ≡ heads n ms ++ (feet n ms ++ equations n rest)
placed_in n ms rest =
    flat_parts (equations_of n) (map equated_of (map pair_of ms)) (flat_map agents_of ms ++ rest)
    ∙ ap (λ l. heads n ms ++ l) (flat_parts (equations_of n) (flat_map agents_of ms) rest)

pub net_met : NetLaws → (n : Numbers) (i : List Word) (ms : List Met) (ps rest : List Piece) (next : ℕ) → AreNumbers n → AllByRecursion (IsKnown n) ms
    → HasNames (net_of n i ps) → IsPermutation ps (map equated_of (map pair_of ms) ++ (flat_map agents_of ms ++ rest)) → (net_of n i ps).next ≤ next
    → OneNet (net_of n i ps) (with_equations n i (tops n ms ++ equations n rest) next)
net_met laws n i ms ps rest next sound known named moved high =
    let c : Configuration = net_of n i ps in
    let es : List Pair = heads n ms ++ (feet n ms ++ equations n rest) in
    let ordered : IsPermutation c.equations es =
    transport (IsPermutation c.equations) (placed_in n ms rest) (flat_order (equations_of n) ps (map equated_of (map pair_of ms) ++ (flat_map agents_of ms ++ rest)) moved) in
    let one = laws.order c es named ordered in
    let d : Configuration = with_equations n i es next in
    let named_d : HasNames d = record { below = higher_all c.next next (names_in (map (term n) i) es) high one.names_too.below; twice = one.names_too.twice } in
    let two = laws.next (record c { equations = es }) next one.names_too named_d in
    laws.through c (record c { equations = es }) (with_equations n i (tops n ms ++ equations n rest) next) one
    (laws.through (record c { equations = es }) d (with_equations n i (tops n ms ++ equations n rest) next) two (to_meetings laws n i ms (equations n rest) next sound known named_d))

-- ---- some of the pieces

pub some_names : (n : Numbers) (i : List Word) (ps front rest : List Piece) → HasNames (net_of n i ps) → IsPermutation ps (front ++ rest) → HasNames (net_of n i rest)
some_names n i ps front rest named moved = record {
  below = above_each (names_in (map (term n) i) (equations n rest));
  twice = λ m.
      let ordered : IsPermutation (equations n ps) (equations n front ++ equations n rest) =
      transport (IsPermutation (equations n ps)) (flat_parts (equations_of n) front rest) (flat_order (equations_of n) ps (front ++ rest) moved) in
      let counts = permuted_counts (equations n ps) (equations n front ++ equations n rest) ordered m in
      let split = ap (occurrences m) (flat_parts pair_names (equations n front) (equations n rest)) ∙ occurrences-append m (flat_map pair_names (equations n front)) (flat_map pair_names (equations n rest)) in
      let all = occurrences-append m (flat_map names (map (term n) i)) (flat_map pair_names (equations n ps)) in
      let own = occurrences-append m (flat_map names (map (term n) i)) (flat_map pair_names (equations n rest)) in
      let two = named.twice m in
      omega (arith, counts, split, all, own, two);
}

-- ---- agents

agent_all : (w : Word) (ws : List Word) → list_all is_agent (agent_with w ws) ≡ true
agent_all w [] = refl
agent_all w (v ∷ vs) = refl

both_all : (cells bs : List Piece) → list_all is_agent cells ≡ true → list_all is_agent bs ≡ true → list_all is_agent (cells ++ bs) ≡ true
both_all cells bs one other = list_all-append is_agent cells bs ∙ (rw (one, other) refl)

pub are_agents : (ms : List Met) → list_all is_agent (flat_map agents_of ms) ≡ true
are_agents [] = refl
are_agents (m ∷ ms) =
    both_all (agents_of m) (flat_map agents_of ms)
    (both_all (agent_with (left_word m) m.left_args) (agent_with (right_word m) m.right_args) (agent_all (left_word m) m.left_args) (agent_all (right_word m) m.right_args))
    (are_agents ms)
