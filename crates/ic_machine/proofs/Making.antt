-- What a plan makes, from its parts.
use Rattle.std.proofs.Common.{◌≡◌, ℕ, zero, suc, ◌+◌, ◌<◌, ◌≤◌, List, [], ◌∷◌, ◌++◌, cond, length, map, refl, ap, sym, subst, ◌∙◌, append_assoc, arith, sum_by}
use Rattle.std.specs.List.{AllByRecursion, flat_map, range_with_len}
use Rattle.std.specs.List.Sorted.{IsPermutation}
use Rattle.std.proofs.lemmas.List.{length-append}
use Rattle.std.proofs.lemmas.List.FromFn.{length-map-range_with_len}
use Rattle.std.proofs.lemmas.List.Sorted.{IsPermutation-sym, IsPermutation-trans, IsPermutation-append, IsPermutation-append_left, IsPermutation-append_right, sum_by-IsPermutation}
use Rattle.std.proofs.lemmas.List.Sums.{sum_by-append}
use Rattle.ic_arena.specs.declared.word.Word.{Word}
use Rattle.ic_arena.specs.declared.word.TheConstants.{NAME, IDLE, GIVEN}
use Rattle.ic_arena.specs.Word.{name_word, agent_word, word_eq, count}
use Rattle.ic_arena.specs.Piece.{Piece, idle, room, uses}
use Rattle.ic_arena.specs.Tables.{Blocks, names_pieces, register}
use Rattle.ic_arena.specs.lemmas.Rooms.{other_tag, names_elsewhere}
use Rattle.ic_machine.specs.declared.equation.Equation.{Equation}
use Rattle.ic_machine.specs.Plan.{Made, Planned, Plans, IsPlan, constants, made_each, linked, link_operands, pieces_made}
use Rattle.ic_machine.specs.Net.{equated_of}
use Rattle.ic_machine.specs.Steps.{AreFresh, Steps}
use Rattle.ic_machine.specs.inner.Firing.{heaps_pieces, Opened, Makes}
use Rattle.ic_machine.specs.inner.Linking.{AreLinks}
use Rattle.ic_machine.specs.lemmas.Balance.{equations_room}
use Rattle.ic_machine.specs.lemmas.FiringKeeps.{all_of, idle_uses, idle_room, links_uses, uses_few}
use Rattle.ic_machine.specs.lemmas.Orders.{to_front}
use Rattle.ic_machine.specs.lemmas.StepsOn.{steps_to}
use Rattle.ic_machine.proofs.Fresh.{agent_tags, fresh_append, fresh_as, no_name}
use Rattle.ic_machine.proofs.Heaps.{tables_elsewhere}
use Rattle.ic_machine.proofs.Links.{steps_from}

-- parts of a list in another order
pub to_middle : (a b c rest : List Piece)
    → IsPermutation (a ++ (b ++ (c ++ rest))) (c ++ (a ++ (b ++ rest)))
to_middle a b c rest =
    IsPermutation-trans (a ++ (b ++ (c ++ rest))) (a ++ (c ++ (b ++ rest))) (c ++ (a ++ (b ++ rest)))
    (IsPermutation-append_right a (b ++ (c ++ rest)) (c ++ (b ++ rest)) (to_front b c rest))
    (to_front a c (b ++ rest))

pub made_order : (i m l n h p r : List Piece)
    → IsPermutation ((i ++ (m ++ l)) ++ (n ++ (h ++ (p ++ r)))) (l ++ ((i ++ n) ++ (p ++ ((m ++ h) ++ r))))
made_order i m l n h p r =
    let left = append_assoc i (m ++ l) (n ++ (h ++ (p ++ r)))
    ∙ ap (λ (x : List Piece). i ++ x) (append_assoc m l (n ++ (h ++ (p ++ r)))) in
    let right = ap (λ (x : List Piece). l ++ x) (append_assoc i n (p ++ ((m ++ h) ++ r))
    ∙ ap (λ (x : List Piece). i ++ (n ++ (p ++ x))) (append_assoc m h r)) in
    let inner : IsPermutation (m ++ (l ++ (n ++ (h ++ (p ++ r))))) (l ++ (n ++ (p ++ (m ++ (h ++ r))))) =
    IsPermutation-trans (m ++ (l ++ (n ++ (h ++ (p ++ r))))) (l ++ (m ++ (n ++ (h ++ (p ++ r)))))
    (l ++ (n ++ (p ++ (m ++ (h ++ r)))))
    (to_front m l (n ++ (h ++ (p ++ r))))
    (IsPermutation-append_right l (m ++ (n ++ (h ++ (p ++ r)))) (n ++ (p ++ (m ++ (h ++ r))))
    (IsPermutation-trans (m ++ (n ++ (h ++ (p ++ r)))) (n ++ (m ++ (h ++ (p ++ r)))) (n ++ (p ++ (m ++ (h ++ r))))
    (to_front m n (h ++ (p ++ r)))
    (IsPermutation-append_right n (m ++ (h ++ (p ++ r))) (p ++ (m ++ (h ++ r)))
    (to_middle m h p r)))) in
    let outer = IsPermutation-trans (i ++ (m ++ (l ++ (n ++ (h ++ (p ++ r))))))
    (i ++ (l ++ (n ++ (p ++ (m ++ (h ++ r)))))) (l ++ (i ++ (n ++ (p ++ (m ++ (h ++ r))))))
    (IsPermutation-append_right i (m ++ (l ++ (n ++ (h ++ (p ++ r))))) (l ++ (n ++ (p ++ (m ++ (h ++ r))))) inner)
    (to_front i l (n ++ (p ++ (m ++ (h ++ r))))) in
    subst (λ (x : List Piece). IsPermutation x (l ++ ((i ++ n) ++ (p ++ ((m ++ h) ++ r))))) (sym left)
    (subst (λ (x : List Piece). IsPermutation (i ++ (m ++ (l ++ (n ++ (h ++ (p ++ r)))))) x) (sym right) outer)

-- a name has room in the table of names alone
pub name_room : (w : Word) (ns : List Word) (hs : List Blocks) (ps rest : List Equation) → w.tag ≡ NAME
    → sum_by (room w) (names_pieces 0 ns ++ (heaps_pieces 0 hs ++ (map equated_of ps ++ map equated_of rest)))
    ≡ sum_by (room w) (names_pieces 0 ns)
name_room w ns hs ps rest h =
    let d = equations_room w ps in
    let e = equations_room w rest in
    let f : sum_by (room w) (heaps_pieces 0 hs) ≡ 0 =
    tables_elsewhere w 0 hs (λ i le lt q. omega arith) in
    omega (arith, sum_by-append {X = Piece})

-- and an agent in the tables of agents alone
pub agent_room_only : (w : Word) (ns : List Word) (hs : List Blocks) (ps rest : List Equation) → 0 < w.tag
    → sum_by (room w) (names_pieces 0 ns ++ (heaps_pieces 0 hs ++ (map equated_of ps ++ map equated_of rest)))
    ≡ sum_by (room w) (heaps_pieces 0 hs)
agent_room_only w ns hs ps rest h =
    let d = equations_room w ps in
    let e = equations_room w rest in
    let f : sum_by (room w) (names_pieces 0 ns) ≡ 0 =
    names_elsewhere w 0 ns (λ i le. other_tag w (name_word i) (λ q. omega arith)) in
    omega (arith, sum_by-append {X = Piece})

all_map : (P Q : Word → Type 0) (ws : List Word) → ((w : Word) → P w → Q w) → AllByRecursion P ws
    → AllByRecursion Q ws
all_map P Q [] f h = tt
all_map P Q (w ∷ ws) f h = (f w h.0, all_map P Q ws f h.1)

-- the opened names and the agents that are made are fresh
pub made_fresh : (n : ℕ) (ms : List Made) (ns ns' : List Word) (hs : List Blocks) (ys : List Piece)
    (r0 r1 r2 : List Word) (ps rest : List Equation) (o : Opened n ns ns' r0 r1)
    (m : Makes ms (heaps_pieces 0 hs) ys r1 r2)
    → AreFresh (o.names ++ m.places)
    (names_pieces 0 ns ++ (heaps_pieces 0 hs ++ (map equated_of ps ++ map equated_of rest)))
made_fresh n ms ns ns' hs ys r0 r1 r2 ps rest o m =
    let xs : List Piece = names_pieces 0 ns ++ (heaps_pieces 0 hs ++ (map equated_of ps ++ map equated_of rest)) in
    fresh_append o.names m.places xs
    (fresh_as o.names (names_pieces 0 ns) xs o.fresh
    (all_map (λ w. w.tag ≡ NAME) (λ w. sum_by (room w) xs ≡ sum_by (room w) (names_pieces 0 ns)) o.names
    (λ w h. name_room w ns hs ps rest h) o.tags))
    (fresh_as m.places (heaps_pieces 0 hs) xs m.fresh
    (all_map (λ w. 0 < w.tag) (λ w. sum_by (room w) xs ≡ sum_by (room w) (heaps_pieces 0 hs)) m.places
    (λ w h. agent_room_only w ns hs ps rest h) (agent_tags ms m.places m.tags)))
    (all_map (λ w. w.tag ≡ NAME) (λ w. count w m.places ≡ 0) o.names
    (λ w h. no_name w m.places h (agent_tags ms m.places m.tags)) o.tags)

-- what a plan makes comes to be held by steps that fire nothing
pub made_steps : (q : Plans) (p : Planned) (n : ℕ) (ns ns' ns'' : List Word) (hs hs' : List Blocks)
    (r0 r1 r2 : List Word) (ps ps' rest : List Piece) (o : Opened n ns ns' r0 r1)
    (m : Makes p.made (heaps_pieces 0 hs) (heaps_pieces 0 hs') r1 r2)
    → ((others : List Piece) → Steps q []
    (map (linked r2) p.links ++ (names_pieces 0 ns' ++ (ps ++ others)))
    (names_pieces 0 ns'' ++ (ps' ++ others)))
    → Steps q []
    (pieces_made p r2 o.names m.places ++ (names_pieces 0 ns ++ (heaps_pieces 0 hs ++ (ps ++ rest))))
    (names_pieces 0 ns'' ++ (heaps_pieces 0 hs' ++ (ps' ++ rest)))
made_steps q p n ns ns' ns'' hs hs' r0 r1 r2 ps ps' rest o m link =
    let i : List Piece = map idle o.names in
    let a : List Piece = made_each r2 p.made m.places in
    let l : List Piece = map (linked r2) p.links in
    let h : List Piece = heaps_pieces 0 hs in
    let h' : List Piece = heaps_pieces 0 hs' in
    let x : List Piece = names_pieces 0 ns in
    let x' : List Piece = names_pieces 0 ns' in
    let start : List Piece = (i ++ (a ++ l)) ++ (x ++ (h ++ (ps ++ rest))) in
    let mid : List Piece = l ++ ((i ++ x) ++ (ps ++ ((a ++ h) ++ rest))) in
    let tables = IsPermutation-append_right l ((i ++ x) ++ (ps ++ ((a ++ h) ++ rest))) (x' ++ (ps ++ (h' ++ rest)))
    (IsPermutation-append (i ++ x) x' (ps ++ ((a ++ h) ++ rest)) (ps ++ (h' ++ rest))
    (IsPermutation-sym x' (i ++ x) o.pieces)
    (IsPermutation-append_right ps ((a ++ h) ++ rest) (h' ++ rest)
    (IsPermutation-append_left rest (a ++ h) h' (IsPermutation-sym h' (a ++ h) m.pieces)))) in
    let before = IsPermutation-trans start mid (l ++ (x' ++ (ps ++ (h' ++ rest)))) (made_order i a l x h ps rest) tables in
    steps_to q [] start (names_pieces 0 ns'' ++ (ps' ++ (h' ++ rest))) (names_pieces 0 ns'' ++ (h' ++ (ps' ++ rest)))
    (steps_from q [] start (l ++ (x' ++ (ps ++ (h' ++ rest)))) (names_pieces 0 ns'' ++ (ps' ++ (h' ++ rest)))
    before (link (h' ++ rest)))
    (IsPermutation-append_right (names_pieces 0 ns'') (ps' ++ (h' ++ rest)) (h' ++ (ps' ++ rest)) (to_front ps' h' rest))

-- how many registers there are
pub filled_count : (n : ℕ) (args : List Word) → length (constants n ++ args) ≡ n + length args
filled_count n args = length-append (constants n) args
    ∙ ap (λ (k : ℕ). k + length args) (length-map-range_with_len (λ s. agent_word s 0) 0 n)

-- agents without arguments are no marks
constants_from : (b n : ℕ) → b + n < GIVEN
    → AllByRecursion (λ w. w.tag < IDLE) (map (λ s. agent_word s 0) (range_with_len b n))
constants_from b zero h = tt
constants_from b (suc n) h =
    (let few : b + suc n < GIVEN = h in omega arith, constants_from (b + 1) n (omega arith))

pub constant_words : (n : ℕ) → n < GIVEN → AllByRecursion (λ w. w.tag < IDLE) (constants n)
constant_words n h = constants_from 0 n (omega arith)

pub name_words : (ws : List Word) → AllByRecursion (λ w. w.tag ≡ NAME) ws
    → AllByRecursion (λ w. w.tag < IDLE) ws
name_words ws h = all_map (λ w. w.tag ≡ NAME) (λ w. w.tag < IDLE) ws (λ w e. omega arith) h

-- the equations of a plan can be linked
pub plan_links : (arities : List ℕ) (p : Planned) (args names made ns ns' : List Word)
    → IsPlan arities (length args) p → length names ≡ p.names → length made ≡ length p.made
    → AllByRecursion (λ w. 0 < w.tag) made
    → AllByRecursion (λ w. w.tag < IDLE) (constants (length arities) ++ (args ++ (names ++ made)))
    → IsPermutation (names_pieces 0 ns') (map idle names ++ names_pieces 0 ns)
    → ((i : ℕ) → count (name_word i) args + sum_by (uses (name_word i)) (names_pieces 0 ns)
    ≤ sum_by (room (name_word i)) (names_pieces 0 ns))
    → AreLinks p.links (constants (length arities) ++ (args ++ (names ++ made))) ns'
plan_links arities p args names made ns ns' plan en em agents words order named = record {
  filled = let len : length (constants (length arities) ++ (args ++ (names ++ made)))
      ≡ length arities + length (args ++ (names ++ made)) = filled_count (length arities) (args ++ (names ++ made)) in
      let l1 = length-append args (names ++ made) in
      let l2 = length-append names made in
      all_of (λ k. k < length arities + length args + p.names + length p.made)
      (λ k. k < length (constants (length arities) ++ (args ++ (names ++ made))))
      (flat_map link_operands p.links) (λ k lt. omega arith) plan.links;
  words = words;
  named = λ i.
      let w : Word = name_word i in
      let rs : List Word = constants (length arities) ++ (args ++ (names ++ made)) in
      let few = uses_few arities w p args names made plan en em refl in
      let ops = sum_by-append (λ k. cond (word_eq w (register rs k)) 1 0)
      (flat_map (λ (m : Made). m.operands) p.made) (flat_map link_operands p.links) in
      let linked_uses = links_uses w rs p.links in
      let none : count w made ≡ 0 = no_name w made refl agents in
      let u = sum_by-IsPermutation (uses w) (names_pieces 0 ns') (map idle names ++ names_pieces 0 ns) order in
      let r = sum_by-IsPermutation (room w) (names_pieces 0 ns') (map idle names ++ names_pieces 0 ns) order in
      let ui = idle_uses w names in
      let ri = idle_room w names in
      let before = named i in
      omega (arith, sum_by-append {X = Piece});
}
