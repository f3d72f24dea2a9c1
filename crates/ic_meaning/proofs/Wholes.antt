-- Lemmas: the configuration of pieces, in any order.
use Rattle.std.proofs.Common.{◌≡◌, ℕ, ◌+◌, ◌-◌, ◌≤◌, ◌<◌, List, [], ◌∷◌, ◌++◌, Some, length, map, slice_get, max, refl, eq-eqb, arith, subst as transport}
use Rattle.std.proofs.lemmas.Option.{slice_get_within}
use Rattle.std.proofs.lemmas.List.Sorted.{IsPermutation-refl, IsPermutation-sym, IsPermutation-trans, IsPermutation-middle}
use Rattle.std.specs.List.{flat_map, AllByRecursion}
use Rattle.std.specs.Prelude.{IsPermutation}
use Rattle.std.proofs.lemmas.Grind.{flat_map-append as flat_parts}
use Rattle.ic_term.specs.Tree.{Tree, name, agent, trees_of, names, Pair, pair_names}
use Rattle.ic_term.specs.Configuration.{Configuration, configured, names_in, occurrences, one_above}
use Rattle.ic_settle.specs.Settling.{subst, subst_pair}
use Rattle.ic_settle.specs.lemmas.SubstitutionLaws.{occurrences-append, subst-absent}
use Rattle.ic_round.specs.Naming.{HasNames}
use Rattle.ic_round.specs.lemmas.AnyOrder.{each_permuted as all_order}
use Rattle.ic_confluence.specs.Sameness.{turned}
use Rattle.ic_reaching.specs.OneNet.{OneNet}
use Rattle.ic_arena.specs.declared.word.Word.{Word}
use Rattle.ic_arena.specs.Word.{agent_word}
use Rattle.ic_arena.specs.Piece.{Piece, equated, idle, waits, agent_with}
use Rattle.ic_machine.specs.Steps.{Turns, Puts, Meets, Joins}
use Rattle.ic_meaning.specs.Words.{Numbers, AreNumbers, term}
use Rattle.ic_meaning.specs.Nets.{equations_of, net_of, IsPiece, ArePieces, IsAgentOf}
use Rattle.ic_meaning.proofs.Given.{NetLaws}
use Rattle.ic_meaning.specs.lemmas.Orders.{flat_order}
use Rattle.ic_meaning.specs.lemmas.Terms.{name_tag, agent_tag, place_term, constant_term}

-- ---- where fresh names begin

pub higher_all : (a b : ℕ) (ns : List ℕ) → a ≤ b → AllByRecursion (λ n. n < a) ns → AllByRecursion (λ n. n < b) ns
higher_all a b [] high all = tt
higher_all a b (n ∷ ns) high all = ((let low = all.0 in let h : n < b = omega arith in h), higher_all a b ns high all.1)

pub above_each : (ns : List ℕ) → AllByRecursion (λ n. n < one_above ns) ns
above_each [] = tt
above_each (n ∷ ns) = ((let h : n < max (n + 1) (one_above ns) = omega arith in h), higher_all (one_above ns) (max (n + 1) (one_above ns)) ns (omega arith) (above_each ns))

pub configured_names : (ts : List Tree) (es : List Pair) (next : ℕ) → HasNames (record { interface = ts; equations = es; next = next }) → HasNames (configured ts es)
configured_names ts es next named = record { below = above_each (names_in ts es); twice = named.twice }

pub to_configured : NetLaws → (c : Configuration) (ts : List Tree) (es : List Pair) (next : ℕ) → OneNet c (record { interface = ts; equations = es; next = next })
    → OneNet c (configured ts es)
to_configured laws c ts es next net =
    let d : Configuration = record { interface = ts; equations = es; next = next } in
    laws.through c d (configured ts es) net (laws.next d (one_above (names_in ts es)) net.names_too (configured_names ts es next net.names_too))

-- ---- some pieces brought to the front

abbrev pub with_equations : Numbers → List Word → List Pair → ℕ → Configuration
with_equations n i es next = record { interface = map (term n) i; equations = es; next = next }

pub brought : NetLaws → (n : Numbers) (i : List Word) (xs front rest : List Piece) → HasNames (net_of n i xs) → IsPermutation xs (front ++ rest)
    → OneNet (net_of n i xs) (with_equations n i (flat_map (equations_of n) front ++ flat_map (equations_of n) rest) (net_of n i xs).next)
brought laws n i xs front rest named moved =
    let e : Piece → List Pair = equations_of n in
    laws.order (net_of n i xs) (flat_map e front ++ flat_map e rest) named
    (transport (IsPermutation (flat_map e xs)) (flat_parts e front rest) (flat_order e xs (front ++ rest) moved))

pub put_back : NetLaws → (n : Numbers) (i : List Word) (c : Configuration) (ys front rest : List Piece) (next : ℕ)
    → OneNet c (with_equations n i (flat_map (equations_of n) front ++ flat_map (equations_of n) rest) next) → IsPermutation ys (front ++ rest)
    → OneNet c (net_of n i ys)
put_back laws n i c ys front rest next net moved =
    let e : Piece → List Pair = equations_of n in
    let d : Configuration = with_equations n i (flat_map e front ++ flat_map e rest) next in
    let back : IsPermutation (flat_map e front ++ flat_map e rest) (flat_map e ys) =
    transport (λ l. IsPermutation l (flat_map e ys)) (flat_parts e front rest) (flat_order e (front ++ rest) ys (IsPermutation-sym ys (front ++ rest) moved)) in
    to_configured laws c (map (term n) i) (flat_map e ys) next
    (laws.through c d (record d { equations = flat_map e ys }) net (laws.order d (flat_map e ys) net.names_too back))

pub order_net : NetLaws → (n : Numbers) (i : List Word) (xs ys : List Piece) → HasNames (net_of n i xs) → IsPermutation xs ys → OneNet (net_of n i xs) (net_of n i ys)
order_net laws n i xs ys named moved =
    let e : Piece → List Pair = equations_of n in
    let c : Configuration = net_of n i xs in
    to_configured laws c (map (term n) i) (flat_map e ys) c.next (laws.order c (flat_map e ys) named (flat_order e xs ys moved))

-- ---- a piece put into the equation before it

pub in_front : (x : ℕ) (ts : List Tree) (e : Pair) (es : List Pair) → occurrences x (names_in ts (e ∷ es)) ≡ occurrences x (pair_names e) + occurrences x (names_in ts es)
in_front x ts e es =
    let a = occurrences-append x (flat_map names ts) (pair_names e ++ flat_map pair_names es) in
    let b = occurrences-append x (pair_names e) (flat_map pair_names es) in
    let c = occurrences-append x (flat_map names ts) (flat_map pair_names es) in
    omega arith

pub put_front : NetLaws → (ts : List Tree) (x : ℕ) (t u : Tree) (es : List Pair) (next : ℕ)
    → HasNames (record { interface = ts; equations = record { left = name x; right = u } ∷ record { left = name x; right = t } ∷ es; next = next })
    → OneNet (record { interface = ts; equations = record { left = name x; right = u } ∷ record { left = name x; right = t } ∷ es; next = next })
    (record { interface = ts; equations = record { left = t; right = u } ∷ es; next = next })
put_front laws ts x t u es next named =
    let p : Pair = record { left = name x; right = u } in
    let q : Pair = record { left = name x; right = t } in
    let c : Configuration = record { interface = ts; equations = p ∷ q ∷ es; next = next } in
    let itself : occurrences x (x ∷ []) ≡ 1 = rw (eq-eqb x x refl) refl in
    let of_p = occurrences-append x (x ∷ []) (names u) in
    let of_q = occurrences-append x (x ∷ []) (names t) in
    let one = in_front x ts p (q ∷ es) in
    let two = in_front x ts q es in
    let few = named.twice x in
    let none : occurrences x (names u) ≡ 0 = omega arith in
    let put = laws.in_one c x t p es named (IsPermutation-middle (p ∷ []) q es) (omega arith) in
    let left : subst x t (name x) ≡ t = rw (eq-eqb x x refl) refl in
    let right = subst-absent x t u none in
    let is : subst_pair x t p ≡ record { left = t; right = u } = (λ i. record { left = left i; right = right i }) in
    transport (λ (r : Pair). OneNet c (record c { equations = r ∷ es })) is put

-- ---- steps that fire nothing

piece_front : (n : Numbers) (a : Piece) (xs rest : List Piece) → ArePieces n.arities xs → IsPermutation xs (a ∷ rest) → IsPiece n.arities a
piece_front n a xs rest are moved = (all_order (IsPiece n.arities) xs (a ∷ rest) moved are).0

pub turns_net : NetLaws → (n : Numbers) (i : List Word) (xs ys : List Piece) → HasNames (net_of n i xs) → Turns xs ys → OneNet (net_of n i xs) (net_of n i ys)
turns_net laws n i xs ys named s =
    let first = brought laws n i xs (equated s.left s.right ∷ []) s.rest named s.given in
    let p : Pair = record { left = term n s.left; right = term n s.right } in
    let d : Configuration = with_equations n i (p ∷ flat_map (equations_of n) s.rest) (net_of n i xs).next in
    let e : Configuration = with_equations n i (turned p ∷ flat_map (equations_of n) s.rest) (net_of n i xs).next in
    let second = laws.turned d p (flat_map (equations_of n) s.rest) first.names_too (IsPermutation-refl d.equations) in
    put_back laws n i (net_of n i xs) ys (equated s.right s.left ∷ []) s.rest (net_of n i xs).next
    (laws.through (net_of n i xs) d e first second) s.result

pub puts_net : NetLaws → (n : Numbers) (i : List Word) (xs ys : List Piece) → HasNames (net_of n i xs) → ArePieces n.arities xs → Puts xs ys
    → OneNet (net_of n i xs) (net_of n i ys)
puts_net laws n i xs ys named are s =
    let c : Configuration = net_of n i xs in
    let first = brought laws n i xs (equated s.named s.other ∷ idle s.named ∷ []) s.rest named s.given in
    let is_name = piece_front n (idle s.named) xs (equated s.named s.other ∷ s.rest) are
    (IsPermutation-trans xs (equated s.named s.other ∷ idle s.named ∷ s.rest) (idle s.named ∷ equated s.named s.other ∷ s.rest) s.given
    (IsPermutation-middle (equated s.named s.other ∷ []) (idle s.named) s.rest)) in
    let is = place_term n s.named (name_tag n.arities s.named.tag is_name) in
    let second = transport (λ (t : Tree). OneNet c (with_equations n i (record { left = t; right = term n s.other } ∷ flat_map (equations_of n) s.rest) c.next)) is first in
    put_back laws n i c ys (waits s.named s.other ∷ []) s.rest c.next second s.result

pub meets_net : NetLaws → (n : Numbers) (i : List Word) (xs ys : List Piece) → HasNames (net_of n i xs) → ArePieces n.arities xs → Meets xs ys
    → OneNet (net_of n i xs) (net_of n i ys)
meets_net laws n i xs ys named are s =
    let c : Configuration = net_of n i xs in
    let first = brought laws n i xs (equated s.named s.other ∷ waits s.named s.waiting ∷ []) s.rest named s.given in
    let is_name = piece_front n (waits s.named s.waiting) xs (equated s.named s.other ∷ s.rest) are
    (IsPermutation-trans xs (equated s.named s.other ∷ waits s.named s.waiting ∷ s.rest) (waits s.named s.waiting ∷ equated s.named s.other ∷ s.rest) s.given
    (IsPermutation-middle (equated s.named s.other ∷ []) (waits s.named s.waiting) s.rest)) in
    let is = place_term n s.named (name_tag n.arities s.named.tag is_name) in
    let x : ℕ = n.of_place s.named in
    let rest : List Pair = flat_map (equations_of n) s.rest in
    let d : Configuration = with_equations n i (record { left = name x; right = term n s.other } ∷ record { left = name x; right = term n s.waiting } ∷ rest) c.next in
    let second : OneNet c d =
    transport (λ (t : Tree). OneNet c (with_equations n i (record { left = t; right = term n s.other } ∷ record { left = name x; right = term n s.waiting } ∷ rest) c.next)) is first in
    let third = put_front laws (map (term n) i) x (term n s.waiting) (term n s.other) rest c.next second.names_too in
    let e : Configuration = with_equations n i (record { left = term n s.waiting; right = term n s.other } ∷ rest) c.next in
    put_back laws n i c ys (equated s.waiting s.other ∷ []) s.rest c.next (laws.through c d e second third) s.result

pub joins_net : NetLaws → (n : Numbers) (i : List Word) (xs ys : List Piece) → HasNames (net_of n i xs) → ArePieces n.arities xs → Joins xs ys
    → OneNet (net_of n i xs) (net_of n i ys)
joins_net laws n i xs ys named are s =
    let c : Configuration = net_of n i xs in
    let first = brought laws n i xs (waits s.named s.between ∷ waits s.between s.waiting ∷ []) s.rest named s.given in
    let is_name = piece_front n (waits s.between s.waiting) xs (waits s.named s.between ∷ s.rest) are
    (IsPermutation-trans xs (waits s.named s.between ∷ waits s.between s.waiting ∷ s.rest) (waits s.between s.waiting ∷ waits s.named s.between ∷ s.rest) s.given
    (IsPermutation-middle (waits s.named s.between ∷ []) (waits s.between s.waiting) s.rest)) in
    let is = place_term n s.between (name_tag n.arities s.between.tag is_name) in
    let x : ℕ = n.of_place s.named in
    let y : ℕ = n.of_place s.between in
    let t : Tree = term n s.waiting in
    let rest : List Pair = flat_map (equations_of n) s.rest in
    let p : Pair = record { left = name x; right = name y } in
    let q : Pair = record { left = name y; right = t } in
    let r : Pair = record { left = t; right = name x } in
    let d : Configuration = with_equations n i (p ∷ q ∷ rest) c.next in
    let e : Configuration = with_equations n i (turned p ∷ q ∷ rest) c.next in
    let f : Configuration = with_equations n i (r ∷ rest) c.next in
    let g : Configuration = with_equations n i (turned r ∷ rest) c.next in
    let second : OneNet c d =
    transport (λ (v : Tree). OneNet c (with_equations n i (record { left = name x; right = v } ∷ q ∷ rest) c.next)) is first in
    let third : OneNet d e = laws.turned d p (q ∷ rest) second.names_too (IsPermutation-refl d.equations) in
    let fourth : OneNet e f = put_front laws (map (term n) i) y t (name x) rest c.next third.names_too in
    let fifth : OneNet f g = laws.turned f r rest fourth.names_too (IsPermutation-refl f.equations) in
    put_back laws n i c ys (waits s.named s.waiting ∷ []) s.rest c.next
    (laws.through c f g (laws.through c e f (laws.through c d e second third) fourth) fifth) s.result

-- ---- an agent put into the equation before it

pub put_agent : NetLaws → (n : Numbers) (i : List Word) (s place : ℕ) (args : List Word) (u : Tree) (es : List Pair) (next : ℕ) → AreNumbers n
    → slice_get n.arities s ≡ Some (length args)
    → HasNames (with_equations n i (record { left = term n (agent_word s place); right = u } ∷ (flat_map (equations_of n) (agent_with (agent_word s place) args) ++ es)) next)
    → OneNet (with_equations n i (record { left = term n (agent_word s place); right = u } ∷ (flat_map (equations_of n) (agent_with (agent_word s place) args) ++ es)) next)
    (with_equations n i (record { left = agent s (trees_of (map (term n) args)); right = u } ∷ es) next)
put_agent laws n i s place [] u es next sound arity named =
    let c : Configuration = with_equations n i (record { left = term n (agent_word s place); right = u } ∷ es) next in
    let is = constant_term n s place sound (slice_get_within n.arities s 0 arity) arity in
    transport (λ (t : Tree). OneNet c (with_equations n i (record { left = t; right = u } ∷ es) next)) is (laws.itself c named)
put_agent laws n i s place (v ∷ vs) u es next sound arity named =
    let w : Word = agent_word s place in
    let x : ℕ = n.of_place w in
    let a : Tree = agent ((s + 1) - 1) (trees_of (map (term n) (v ∷ vs))) in
    let c : Configuration = with_equations n i (record { left = term n w; right = u } ∷ record { left = name x; right = a } ∷ es) next in
    let is_agent : IsAgentOf n.arities (s + 1) (length (v ∷ vs)) = record { symbol = s; is = refl; known = arity; some = omega arith } in
    let is = place_term n w (agent_tag n.arities (s + 1) (length (v ∷ vs)) is_agent) in
    let d : Configuration = with_equations n i (record { left = name x; right = u } ∷ record { left = name x; right = a } ∷ es) next in
    let first : OneNet c d = transport (λ (t : Tree). OneNet c (with_equations n i (record { left = t; right = u } ∷ record { left = name x; right = a } ∷ es) next)) is (laws.itself c named) in
    let second = put_front laws (map (term n) i) x a u es next first.names_too in
    let e : Configuration = with_equations n i (record { left = a; right = u } ∷ es) next in
    let symbol : (s + 1) - 1 ≡ s = omega arith in
    transport (λ (z : ℕ). OneNet c (with_equations n i (record { left = agent z (trees_of (map (term n) (v ∷ vs))); right = u } ∷ es) next)) symbol
    (laws.through c d e first second)
