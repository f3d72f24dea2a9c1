-- Lemmas: equations that were packed in one part and unpacked in another one are one net with what they were.
use Rattle.std.proofs.Common.{◌≡◌, ℕ, ◌+◌, ◌*◌, ◌≤◌, ◌<◌, List, [], ◌∷◌, ◌++◌, Bool, true, false, cond, length, map, take, drop, refl, sym, ap, ◌∙◌, append-nil, arith, subst as transport}
use Rattle.std.specs.List.{flat_map, AllByRecursion}
use Rattle.std.specs.Prelude.{IsPermutation}
use Rattle.std.proofs.lemmas.List.{length-map, length-append, take_at, drop_at}
use Rattle.std.proofs.lemmas.List.Concat.{flat_map-append}
use Rattle.ic_term.specs.Tree.{Tree, names, Pair}
use Rattle.ic_term.specs.Configuration.{Configuration, configuration_names, occurrences, one_above}
use Rattle.ic_settle.specs.lemmas.SubstitutionLaws.{occurrences-append}
use Rattle.ic_round.specs.Naming.{HasNames}
use Rattle.ic_reaching.specs.OneNet.{OneNet}
use Rattle.ic_arena.specs.declared.word.Word.{Word}
use Rattle.ic_arena.specs.Piece.{Piece}
use Rattle.ic_flat.specs.declared.word.Word.{Word as FlatWord}
use Rattle.ic_flat.specs.declared.word.Word.TheVariants.{Name as FlatName}
use Rattle.ic_flat.specs.Words.{with_word, word_names}
use Rattle.ic_flat.specs.Flat.{pairs_of}
use Rattle.ic_machine.specs.declared.equation.Equation.{Equation}
use Rattle.ic_machine.specs.Moving.{CutEnd, Side, Spells, sides_of}
use Rattle.ic_machine.specs.Net.{equated_of}
use Rattle.ic_machine.specs.Rooms.{pieces_in}
use Rattle.ic_machine.specs.Separate.{is_constant_tag}
use Rattle.ic_machine.specs.lemmas.Orders.{to_front}
use Rattle.ic_meaning.specs.Words.{Numbers, AreNumbers, term}
use Rattle.ic_meaning.specs.Nets.{equations_of, net_of}
use Rattle.ic_readback.specs.lemmas.Orders.{flat_order}
use Rattle.ic_readback.specs.lemmas.Rows.{over, over-names}
use Rattle.ic_readback.specs.lemmas.RowNets.{net_of_row, pairs_in_order}
use Rattle.ic_workers.specs.Parts.{end_piece}
use Rattle.ic_workers.proofs.Given.{NetLaws}
use Rattle.ic_workers.proofs.Rooms.{of_room, all_in_room, term_in_room}
use Rattle.ic_workers.proofs.Carried.{cut_number, end_equation, side_equations, plain_word, spelled_word, roots_net, IsPartRoom, CutsFew, CutsBelow, place_term, plain_written, order_row, carried_net}
use Rattle.ic_workers.proofs.Back.{IsRoomy, IsOnce, AreTwice, spelled_twice}

-- ---- a row of terms is a net in pieces

-- a word by itself, in prefix order
abbrev pub leaf : Numbers → Word → FlatWord
leaf n w = cond (is_constant_tag n.arities w.tag) (plain_word n w) (FlatName (n.of_place w))

leaf_written : (n : Numbers) (w : Word) (us : List Tree) → with_word (leaf n w) us ≡ term n w ∷ us
leaf_written n w us = at (is_constant_tag n.arities w.tag) refl
  where
    at : (b : Bool) → is_constant_tag n.arities w.tag ≡ b → with_word (cond b (plain_word n w) (FlatName (n.of_place w))) us ≡ term n w ∷ us
    at true e = plain_written n w us e
    at false e = ap (λ (t : Tree). t ∷ us) (sym (place_term n w e))

pub leaves_written : (n : Numbers) (is : List Word) (us : List Tree) → over (map (leaf n) is) us ≡ map (term n) is ++ us
leaves_written n [] us = refl
leaves_written n (w ∷ ws) us = leaf_written n w (over (map (leaf n) ws) us) ∙ ap (λ (l : List Tree). term n w ∷ l) (leaves_written n ws us)

pub leaves_names : (n : Numbers) (x : ℕ) (is : List Word)
    → occurrences x (flat_map word_names (map (leaf n) is)) ≡ occurrences x (flat_map names (map (term n) is))
leaves_names n x is =
    let a : occurrences x (flat_map names (over (map (leaf n) is) [])) ≡ occurrences x (flat_map names (map (term n) is)) =
    ap (λ (l : List Tree). occurrences x (flat_map names l)) (leaves_written n is [] ∙ append-nil (map (term n) is)) in
    let b : occurrences x (flat_map names (over (map (leaf n) is) [])) ≡ occurrences x (flat_map word_names (map (leaf n) is)) + occurrences x [] =
    ap (occurrences x) (over-names (map (leaf n) is) []) ∙ occurrences-append x (flat_map word_names (map (leaf n) is)) [] in
    omega (arith, a, b)

pub pairs_written : (n : Numbers) (k : ℕ) (es : List Equation)
    → pairs_of (map (term (of_room k n)) (sides_of es)) ≡ flat_map (equations_of n) (pieces_in n.arities k (map equated_of es))
pairs_written n k [] = refl
pairs_written n k (e ∷ es) =
    let left = sym (term_in_room n k e.left) in
    let right = sym (term_in_room n k e.right) in
    λ i. record { left = left i; right = right i } ∷ pairs_written n k es i

pub sides_even : (n : Numbers) (k : ℕ) (es : List Equation) → length (map (term (of_room k n)) (sides_of es)) ≡ 2 * length es
sides_even n k [] = refl
sides_even n k (e ∷ es) = let rest = sides_even n k es in omega (arith, rest)

pub ends_written : (n : Numbers) (k : ℕ) (es : List CutEnd) → map (end_equation n k) es ≡ flat_map (equations_of n) (map (end_piece n.arities k) es)
ends_written n k [] = refl
ends_written n k (e ∷ es) = ap (λ (l : List Pair). end_equation n k e ∷ l) (ends_written n k es)

-- the pieces of a side, in its room
abbrev pub side_pieces : List ℕ → ℕ → Side → List Piece
side_pieces arities k s = pieces_in arities k s.places ++ map (end_piece arities k) s.ends

-- equations of a room, a side of it, and what is beside
abbrev pub with_pieces : List ℕ → ℕ → List Equation → Side → List Piece → List Piece
with_pieces arities k es s rest = pieces_in arities k (map equated_of es) ++ (side_pieces arities k s ++ rest)

pub side_written : (n : Numbers) (k : ℕ) (s : Side) → side_equations n k s ≡ flat_map (equations_of n) (side_pieces n.arities k s)
side_written n k s =
    (λ i. sym (all_in_room n k s.places) i ++ ends_written n k s.ends i)
    ∙ sym (flat_map-append (equations_of n) (pieces_in n.arities k s.places) (map (end_piece n.arities k) s.ends))

-- the words of the interface by themselves
abbrev pub leaves : Numbers → List Word → List FlatWord
leaves n is = map (leaf n) is

row_is : (n : Numbers) (k next : ℕ) (is : List Word) (es : List Equation) (s : Side) (rest : List Piece)
    → roots_net n k (length is) (leaves n is) (sides_of es) (side_equations n k s ++ flat_map (equations_of n) rest) next
    ≡ record (net_of n is (with_pieces n.arities k es s rest)) { next = next }
row_is n k next is es s rest =
    let f : Piece → List Pair = equations_of n in
    let ts : List Tree = map (term (of_room k n)) (sides_of es) in
    let row : List Tree = over (leaves n is) ts in
    let written = leaves_written n is ts in
    let long = length-map is (term n) in
    let first : take (length is) row ≡ map (term n) is = ap (take (length is)) written ∙ take_at (map (term n) is) ts (length is) long in
    let last : drop (length is) row ≡ ts = ap (drop (length is)) written ∙ drop_at (map (term n) is) ts (length is) long in
    let pairs : pairs_of (drop (length is) row) ≡ flat_map f (pieces_in n.arities k (map equated_of es)) = ap pairs_of last ∙ pairs_written n k es in
    let beside : side_equations n k s ++ flat_map f rest ≡ flat_map f (side_pieces n.arities k s ++ rest) =
    ap (λ (l : List Pair). l ++ flat_map f rest) (side_written n k s) ∙ sym (flat_map-append f (side_pieces n.arities k s) rest) in
    let all : pairs_of (drop (length is) row) ++ (side_equations n k s ++ flat_map f rest) ≡ flat_map f (with_pieces n.arities k es s rest) =
    (λ i. pairs i ++ beside i) ∙ sym (flat_map-append f (pieces_in n.arities k (map equated_of es)) (side_pieces n.arities k s ++ rest)) in
    λ i. record { interface = first i; equations = all i; next = next }

row_even : (n : Numbers) (k : ℕ) (is : List Word) (es : List Equation)
    → length (over (leaves n is) (map (term (of_room k n)) (sides_of es))) ≡ length is + 2 * length es
row_even n k is es =
    let ts : List Tree = map (term (of_room k n)) (sides_of es) in
    let written = ap (length {A = Tree}) (leaves_written n is ts) ∙ length-append (map (term n) is) ts in
    let long = length-map is (term n) in
    let even = sides_even n k es in
    omega (arith, written, long, even)

-- ---- where fresh names begin

higher_all : (a b : ℕ) (ns : List ℕ) → a ≤ b → AllByRecursion (λ n. n < a) ns → AllByRecursion (λ n. n < b) ns
higher_all a b [] high all = tt
higher_all a b (n ∷ ns) high all = ((let low = all.0 in let h : n < b = omega (arith, low, high) in h), higher_all a b ns high all.1)

above_each : (ns : List ℕ) (top : ℕ) → one_above ns ≤ top → AllByRecursion (λ n. n < top) ns
above_each [] top high = tt
above_each (n ∷ ns) top high = ((let h : n < top = omega (arith, high) in h), above_each ns top (omega (arith, high)))

pub higher : (c : Configuration) (top : ℕ) → c.next ≤ top → HasNames c → HasNames (record c { next = top })
higher c top high named = record { below = higher_all c.next top (configuration_names c) high named.below; twice = named.twice }

-- where no name of it occurs more than twice
named_from : (c : Configuration) (top : ℕ) → one_above (configuration_names c) ≤ top → AreTwice c → HasNames (record c { next = top })
named_from c top high twice = record { below = above_each (configuration_names c) top high; twice = twice }

pub cuts_below : (n : Numbers) (top : ℕ) (ts : List Word) → one_above (map (λ (t : Word). cut_number n t.index) ts) ≤ top → CutsBelow n top ts
cuts_below n top [] high = tt
cuts_below n top (t ∷ ts) high = ((let h : cut_number n t.index < top = omega (arith, high) in h), cuts_below n top ts (omega (arith, high)))

-- ---- a parcel

-- the net of words on their way, with pieces beside
abbrev pub on_way : Numbers → List Word → List Word → List Piece → ℕ → Configuration
on_way n is ts ps next = net_of_row (length is) (over (leaves n is ++ map (spelled_word n) ts) []) (flat_map (equations_of n) ps) next

-- above all names of a net, and those of the cuts that words spell
abbrev pub above_all : Numbers → Configuration → List Word → ℕ
above_all n c ts = c.next + one_above (map (λ (t : Word). cut_number n t.index) ts)

-- no cut occurs more than twice in words and pieces
abbrev pub CutsFewIn : Numbers → List Word → List Word → List Piece → Type 0
CutsFewIn n is ts ps = CutsFew n (leaves n is ++ map (spelled_word n) ts) (flat_map (equations_of n) ps)

-- what a side says, with pieces beside
pub beside_is : (n : Numbers) (k : ℕ) (s : Side) (rest : List Piece)
    → flat_map (equations_of n) (side_pieces n.arities k s ++ rest) ≡ side_equations n k s ++ flat_map (equations_of n) rest
beside_is n k s rest =
    flat_map-append (equations_of n) (side_pieces n.arities k s) rest
    ∙ ap (λ (l : List Pair). l ++ flat_map (equations_of n) rest) (sym (side_written n k s))

-- Equations of a part are packed.
pub packed_net : NetLaws → (n : Numbers) (j : ℕ) (is : List Word) (es : List Equation) (full a : Side) (rest : List Piece) (ts : List Word)
    → AreNumbers n → IsPartRoom j → Spells n.arities full a (sides_of es) ts
    → CutsFewIn n is ts (side_pieces n.arities j a ++ rest)
    → HasNames (net_of n is (with_pieces n.arities j es full rest))
    → OneNet (net_of n is (with_pieces n.arities j es full rest))
    (on_way n is ts (side_pieces n.arities j a ++ rest) (above_all n (net_of n is (with_pieces n.arities j es full rest)) ts))
packed_net laws n j is es full a rest ts sound room packed few named =
    let c : Configuration = net_of n is (with_pieces n.arities j es full rest) in
    let top : ℕ = above_all n c ts in
    let others : List Pair = flat_map (equations_of n) rest in
    let written : List FlatWord = leaves n is ++ map (spelled_word n) ts in
    let row : Configuration = roots_net n j (length is) (leaves n is) (sides_of es) (side_equations n j full ++ others) top in
    let sent : Configuration = roots_net n j (length is) written [] (side_equations n j a ++ others) top in
    let row_same : row ≡ record c { next = top } = row_is n j top is es full rest in
    let beside = beside_is n j a rest in
    let first : OneNet c row = transport (OneNet c) (sym row_same) (laws.next c top named (higher c top (omega arith) named)) in
    let second : OneNet row sent =
    carried_net laws n j (length is) (length es) top others (leaves n is) full a (sides_of es) ts sound room packed (row_even n j is es)
    (cuts_below n top ts (omega arith)) (transport (CutsFew n written) beside few) first.names_too in
    laws.through c row (on_way n is ts (side_pieces n.arities j a ++ rest) top) first
    (transport (λ (l : List Pair). OneNet row (net_of_row (length is) (over written []) l top)) (sym beside) second)

-- Words are unpacked to equations of a part.
pub unpacked_net : NetLaws → (n : Numbers) (k top : ℕ) (is : List Word) (fs : List Equation) (s b : Side) (rest : List Piece) (ts : List Word)
    → AreNumbers n → IsPartRoom k → Spells n.arities s b (sides_of fs) ts
    → CutsFewIn n is ts (side_pieces n.arities k b ++ rest)
    → IsRoomy n k b (leaves n is) (flat_map (equations_of n) rest) → IsOnce n.arities k s
    → HasNames (on_way n is ts (side_pieces n.arities k b ++ rest) top)
    → OneNet (on_way n is ts (side_pieces n.arities k b ++ rest) top) (net_of n is (with_pieces n.arities k fs s rest))
unpacked_net laws n k top is fs s b rest ts sound room unpacked few roomy once named =
    let d : Configuration = net_of n is (with_pieces n.arities k fs s rest) in
    let high : ℕ = top + above_all n d ts in
    let others : List Pair = flat_map (equations_of n) rest in
    let written : List FlatWord = leaves n is ++ map (spelled_word n) ts in
    let come : Configuration = on_way n is ts (side_pieces n.arities k b ++ rest) top in
    let come_high : Configuration = on_way n is ts (side_pieces n.arities k b ++ rest) high in
    let sent : Configuration = roots_net n k (length is) written [] (side_equations n k b ++ others) high in
    let row : Configuration = roots_net n k (length is) (leaves n is) (sides_of fs) (side_equations n k s ++ others) high in
    let d_high : Configuration = record d { next = high } in
    let row_same : row ≡ d_high = row_is n k high is fs s rest in
    let beside = beside_is n k b rest in
    let first : OneNet come come_high = laws.next come high named (higher come high (omega arith) named) in
    let sent_same : come_high ≡ sent = ap (λ (l : List Pair). net_of_row (length is) (over written []) l high) beside in
    let named_sent : HasNames sent = transport HasNames sent_same first.names_too in
    let twice : AreTwice row =
    spelled_twice n k (length is) (length fs) high others (leaves n is) s b (sides_of fs) ts sound room unpacked (row_even n k is fs) roomy once named_sent.twice in
    let twice_d : AreTwice d = transport AreTwice row_same twice in
    let named_high : HasNames d_high = named_from d high (omega arith) twice_d in
    let second : OneNet row sent =
    carried_net laws n k (length is) (length fs) high others (leaves n is) s b (sides_of fs) ts sound room unpacked (row_even n k is fs)
    (cuts_below n high ts (omega arith)) (transport (CutsFew n written) beside few) (transport HasNames (sym row_same) named_high) in
    let third : OneNet d_high d = laws.next d_high d.next named_high (named_from d d.next (omega arith) twice_d) in
    laws.through come come_high d first
    (laws.through come_high row d (transport (λ (e : Configuration). OneNet e row) (sym sent_same) (laws.other_way row sent second))
    (transport (λ (e : Configuration). OneNet e d) (sym row_same) third))

-- the pieces beside words in another order
pub way_in_order : NetLaws → (n : Numbers) (is ts : List Word) (ps qs : List Piece) (next : ℕ) → HasNames (on_way n is ts ps next) → IsPermutation ps qs
    → OneNet (on_way n is ts ps next) (on_way n is ts qs next)
way_in_order laws n is ts ps qs next named moved =
    order_row laws (length is) next (over (leaves n is ++ map (spelled_word n) ts) []) (flat_map (equations_of n) ps) (flat_map (equations_of n) qs) named
    (flat_order (equations_of n) ps qs moved)

pub few_in_order : (n : Numbers) (is ts : List Word) (ps qs : List Piece) → IsPermutation ps qs → CutsFewIn n is ts ps → CutsFewIn n is ts qs
few_in_order n is ts ps qs moved few c =
    let same = pairs_in_order (cut_number n c) (flat_map (equations_of n) ps) (flat_map (equations_of n) qs) (flat_order (equations_of n) ps qs moved) in
    let most = few c in
    omega (arith, same, most)

-- Equations es of a part in room j, with all that hangs below them, are equations fs in room k.
pub parcel_net : NetLaws → (n : Numbers) (j k : ℕ) (is : List Word) (es fs : List Equation) (full a s b : Side) (rest : List Piece) (ts : List Word)
    → AreNumbers n → IsPartRoom j → IsPartRoom k
    → Spells n.arities full a (sides_of es) ts → Spells n.arities s b (sides_of fs) ts
    → CutsFewIn n is ts (side_pieces n.arities j a ++ (side_pieces n.arities k b ++ rest))
    → IsRoomy n k b (leaves n is) (flat_map (equations_of n) (side_pieces n.arities j a ++ rest)) → IsOnce n.arities k s
    → HasNames (net_of n is (with_pieces n.arities j es full (side_pieces n.arities k b ++ rest)))
    → OneNet (net_of n is (with_pieces n.arities j es full (side_pieces n.arities k b ++ rest)))
    (net_of n is (with_pieces n.arities k fs s (side_pieces n.arities j a ++ rest)))
parcel_net laws n j k is es fs full a s b rest ts sound room_j room_k packed unpacked few roomy once named =
    let mine : List Piece = side_pieces n.arities k b ++ rest in
    let yours : List Piece = side_pieces n.arities j a ++ rest in
    let c : Configuration = net_of n is (with_pieces n.arities j es full mine) in
    let top : ℕ = above_all n c ts in
    let moved = to_front (side_pieces n.arities j a) (side_pieces n.arities k b) rest in
    let first = packed_net laws n j is es full a mine ts sound room_j packed few named in
    let second = way_in_order laws n is ts (side_pieces n.arities j a ++ mine) (side_pieces n.arities k b ++ yours) top first.names_too moved in
    let third = unpacked_net laws n k top is fs s b yours ts sound room_k unpacked
    (few_in_order n is ts (side_pieces n.arities j a ++ mine) (side_pieces n.arities k b ++ yours) moved few) roomy once second.names_too in
    laws.through c (on_way n is ts (side_pieces n.arities j a ++ mine) top) (net_of n is (with_pieces n.arities k fs s yours)) first
    (laws.through (on_way n is ts (side_pieces n.arities j a ++ mine) top) (on_way n is ts (side_pieces n.arities k b ++ yours) top)
    (net_of n is (with_pieces n.arities k fs s yours)) second third)
