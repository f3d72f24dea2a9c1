-- Lemmas: the pieces of parts, their cuts, and what is to be linked among them.
use Rattle.std.proofs.Common.{◌≡◌, ◌⊎◌, inl, inr, ℕ, zero, suc, ◌+◌, ◌*◌, ◌≤◌, ◌<◌, ◌==◌, List, [], ◌∷◌, ◌++◌, Bool, cond, map, refl, sym, ap, ◌∙◌, append_assoc, arith, sum_by, subst as transport}
use Rattle.std.specs.List.{flat_map, AllByRecursion}
use Rattle.std.specs.Prelude.{IsPermutation}
use Rattle.std.proofs.lemmas.List.{map-append}
use Rattle.std.proofs.lemmas.List.Sums.{sum_by-cons, sum_by-append}
use Rattle.std.proofs.lemmas.List.Sorted.{IsPermutation-append_right, sum_by-IsPermutation}
use Rattle.ic_arena.specs.declared.word.Word.{Word}
use Rattle.ic_arena.specs.Word.{name_word, word_eq, count}
use Rattle.ic_arena.specs.Piece.{Piece, equated, idle, waits, agent_of, room, uses}
use Rattle.ic_machine.specs.declared.equation.Equation.{Equation}
use Rattle.ic_machine.specs.Moving.{CutEnd, Side, end_word, side_of, spares, times, worth}
use Rattle.ic_machine.specs.Net.{equated_of, pieces}
use Rattle.ic_machine.specs.Plan.{Plans, ArePlans}
use Rattle.ic_machine.specs.Rooms.{ROOMS, in_room, piece_in, pieces_in, IsOutside}
use Rattle.ic_machine.specs.lemmas.InRooms.{apart_in_rooms, outside_both, outside_of, same_in_room}
use Rattle.ic_machine.specs.lemmas.Orders.{to_front}
use Rattle.ic_machine.specs.lemmas.Separation.{separate_in_order}
use Rattle.ic_meaning.specs.Words.{Numbers, AreNumbers}
use Rattle.ic_meaning.specs.Nets.{holds, net_of, IsPiece, AreNetPieces}
use Rattle.ic_readback.specs.lemmas.Orders.{all_order}
use Rattle.ic_workers.specs.Parts.{Part, all_interface, cut_word, cuts_of, end_piece, part_pieces, room_of}
use Rattle.ic_workers.proofs.Apart.{ends_outside}
use Rattle.ic_workers.proofs.Balanced.{first_count}
use Rattle.ic_workers.proofs.Carried.{IsPartRoom}
use Rattle.ic_workers.proofs.Parcels.{side_pieces, with_pieces}
use Rattle.ic_workers.proofs.Cuts.{cut_count, cuts_of_both, cuts_of_ends, no_cuts_in_room, no_cut_words, all_no_cut_uses, all_no_cut_holds}
use Rattle.ic_workers.proofs.OnWay.{cut_pieces}
use Rattle.ic_workers.proofs.Halves.{Half, halves}
use Rattle.ic_workers.proofs.WithCuts.{same_cut}

-- no plan at all
abbrev pub no_plans : List ℕ → Plans
no_plans arities = record { arities = arities; pairs = []; plans = [] }

pub none_are_plans : (arities : List ℕ) → ArePlans (no_plans arities)
none_are_plans arities = record { counted = refl; known = tt; each = λ a b left right e f. tt }

-- ---- orders

pub net_pieces_order : (arities : List ℕ) (is : List Word) (xs ys : List Piece) → IsPermutation xs ys → AreNetPieces arities is xs → AreNetPieces arities is ys
net_pieces_order arities is xs ys moved are = record {
  each = all_order (IsPiece arities) xs ys moved are.each;
  separate = separate_in_order arities is xs ys moved are.separate;
  once = λ w. let h = sum_by-IsPermutation (holds w) xs ys moved in let few = are.once w in omega (arith, h, few);
}

-- the equations of a room that stay
abbrev pub own_pieces : List ℕ → ℕ → List Equation → List Equation → List Piece
own_pieces arities k pending aside = pieces_in arities k (map equated_of pending ++ map equated_of aside)

-- a part as equations, its side, and the equations that stay
pub part_split : (arities : List ℕ) (q : Part) (es pending : List Equation) (more : List Piece) → q.net.pending ≡ es ++ pending
    → IsPermutation (part_pieces arities q ++ more)
    (with_pieces arities (room_of q) es (side_of q.net q.borders) (own_pieces arities (room_of q) pending q.net.aside ++ more))
part_split arities q es pending more is =
    let k : ℕ = room_of q in
    let f : List Piece → List Piece = pieces_in arities k in
    let e : List Piece = f (map equated_of es) in
    let o : List Piece = f (map equated_of pending) ++ f (map equated_of q.net.aside) in
    let s : List Piece = f q.net.places ++ map (end_piece arities k) q.borders.ends in
    let before : part_pieces arities q ++ more ≡ e ++ (o ++ (s ++ more)) =
    ap (λ (l : List Equation). (f (map equated_of l ++ (map equated_of q.net.aside ++ q.net.places)) ++ map (end_piece arities k) q.borders.ends) ++ more) is
    ∙ simp (map-append, append_assoc) in
    let after : own_pieces arities k pending q.net.aside ≡ o = simp map-append in
    transport (λ (l : List Piece). IsPermutation l (e ++ (s ++ (own_pieces arities k pending q.net.aside ++ more)))) (sym before)
    (transport (λ (l : List Piece). IsPermutation (e ++ (o ++ (s ++ more))) (e ++ (s ++ (l ++ more)))) (sym after)
    (IsPermutation-append_right e (o ++ (s ++ more)) (s ++ (o ++ more)) (to_front o s more)))

-- the pieces of a part in a room with what is to be linked there in front
pub linked_front : (f m g a w o r : List Piece) → IsPermutation (f ++ ((m ++ g) ++ (a ++ (w ++ (o ++ r))))) ((f ++ (o ++ m)) ++ (g ++ (a ++ (w ++ r))))
linked_front f m g a w o r =
    let front : List Piece = (m ++ g) ++ (a ++ w) in
    let before : front ++ (o ++ r) ≡ (m ++ g) ++ (a ++ (w ++ (o ++ r))) = simp append_assoc in
    let after : f ++ (o ++ (front ++ r)) ≡ (f ++ (o ++ m)) ++ (g ++ (a ++ (w ++ r))) = simp append_assoc in
    transport (IsPermutation (f ++ ((m ++ g) ++ (a ++ (w ++ (o ++ r)))))) after
    (transport (λ (l : List Piece). IsPermutation (f ++ l) (f ++ (o ++ (front ++ r)))) before
    (IsPermutation-append_right f (front ++ (o ++ r)) (o ++ (front ++ r)) (to_front front o r)))

-- names of cuts say nothing
pub cuts_silent : (n : Numbers) (is : List Word) (cs : List ℕ) (ps : List Piece) → net_of n is (cut_pieces cs ++ ps) ≡ net_of n is ps
cuts_silent n is [] ps = refl
cuts_silent n is (c ∷ cs) ps = cuts_silent n is cs ps

-- ---- cuts

-- the interface names no cut
pub interface_cuts : (arities : List ℕ) (c : ℕ) (qs : List Part) → AllByRecursion (λ q. room_of q < ROOMS) qs → count (cut_word c) (all_interface arities qs) ≡ 0
interface_cuts arities c [] rooms = refl
interface_cuts arities c (q ∷ qs) rooms =
    let own : List Word = map (in_room arities (room_of q)) q.net.interface in
    let both = sum_by-append (λ (u : Word). cond {A = ℕ} (word_eq (cut_word c) u) 1 0) own (all_interface arities qs) in
    let here = no_cut_words arities (room_of q) c q.net.interface (rooms.0, (λ e. omega (arith, e))) in
    let rest = interface_cuts arities c qs rooms.1 in
    omega (arith, both, here, rest)

pub part_room : (q : Part) → room_of q < ROOMS → IsPartRoom (room_of q)
part_room q low = (low, (λ e. omega (arith, e)))

-- how many ends of a cut a part has
abbrev pub ends_times : ℕ → Part → ℕ
ends_times c q = times c (map (λ e. e.cut) q.borders.ends)

pub all_ends_times : (c : ℕ) (qs : List Part) → times c (cuts_of qs) ≡ sum_by (ends_times c) qs
all_ends_times c [] = refl
all_ends_times c (q ∷ qs) =
    let both = sum_by-append (λ (m : ℕ). cond {A = ℕ} (m == c) 1 0) (map (λ (e : CutEnd). e.cut) q.borders.ends) (cuts_of qs) in
    let all = sum_by-cons (ends_times c) q qs in
    let rest = all_ends_times c qs in
    omega (arith, both, all, rest)

-- how often an equation with a cut names it
pub ends_cut_uses : (arities : List ℕ) (k c : ℕ) (es : List CutEnd) → IsPartRoom k
    → sum_by (uses (cut_word c)) (map (end_piece arities k) es) ≡ times c (map (λ e. e.cut) es)
ends_cut_uses arities k c [] part = refl
ends_cut_uses arities k c (e ∷ es) part =
    let v : Word = cut_word c in
    let parts = sum_by-cons (uses v) (end_piece arities k e) (map (end_piece arities k) es) in
    let one = first_count v (in_room arities k (end_word e)) (cut_word e.cut ∷ []) in
    let two = first_count v (cut_word e.cut) [] in
    let name = no_cut_words arities k c (end_word e ∷ []) part in
    let alone = first_count v (in_room arities k (end_word e)) [] in
    let same : cond {A = ℕ} (word_eq v (cut_word e.cut)) 1 0 ≡ cond {A = ℕ} (e.cut == c) 1 0 = ap (λ (b : Bool). cond {A = ℕ} b 1 0) (same_cut c e.cut) in
    let all = sum_by-cons (λ (m : ℕ). cond {A = ℕ} (m == c) 1 0) e.cut (map (λ (d : CutEnd). d.cut) es) in
    let rest = ends_cut_uses arities k c es part in
    omega (arith, parts, one, two, name, alone, same, all, rest)

pub part_cut_uses : (arities : List ℕ) (c : ℕ) (q : Part) → room_of q < ROOMS → sum_by (uses (cut_word c)) (part_pieces arities q) ≡ ends_times c q
part_cut_uses arities c q low =
    let both = sum_by-append (uses (cut_word c)) (pieces_in arities (room_of q) (pieces q.net)) (map (end_piece arities (room_of q)) q.borders.ends) in
    let none = all_no_cut_uses arities (room_of q) c (pieces q.net) (part_room q low) in
    let ends = ends_cut_uses arities (room_of q) c q.borders.ends (part_room q low) in
    omega (arith, both, none, ends)

pub parts_cut_uses : (arities : List ℕ) (c : ℕ) (qs : List Part) → AllByRecursion (λ q. room_of q < ROOMS) qs
    → sum_by (uses (cut_word c)) (flat_map (part_pieces arities) qs) ≡ sum_by (ends_times c) qs
parts_cut_uses arities c [] rooms = refl
parts_cut_uses arities c (q ∷ qs) rooms =
    let both = sum_by-append (uses (cut_word c)) (part_pieces arities q) (flat_map (part_pieces arities) qs) in
    let here = part_cut_uses arities c q rooms.0 in
    let rest = parts_cut_uses arities c qs rooms.1 in
    let all = sum_by-cons (ends_times c) q qs in
    omega (arith, both, here, rest, all)

pub ends_cut_holds : (arities : List ℕ) (k c : ℕ) (es : List CutEnd) → sum_by (holds (cut_word c)) (map (end_piece arities k) es) ≡ 0
ends_cut_holds arities k c [] = refl
ends_cut_holds arities k c (e ∷ es) =
    let parts = sum_by-cons (holds (cut_word c)) (end_piece arities k e) (map (end_piece arities k) es) in
    let rest = ends_cut_holds arities k c es in
    omega (arith, parts, rest)

pub parts_cut_holds : (arities : List ℕ) (c : ℕ) (qs : List Part) → AllByRecursion (λ q. room_of q < ROOMS) qs
    → sum_by (holds (cut_word c)) (flat_map (part_pieces arities) qs) ≡ 0
parts_cut_holds arities c [] rooms = refl
parts_cut_holds arities c (q ∷ qs) rooms =
    let all = sum_by-append (holds (cut_word c)) (part_pieces arities q) (flat_map (part_pieces arities) qs) in
    let both = sum_by-append (holds (cut_word c)) (pieces_in arities (room_of q) (pieces q.net)) (map (end_piece arities (room_of q)) q.borders.ends) in
    let none = all_no_cut_holds arities (room_of q) c (pieces q.net) (part_room q rooms.0) in
    let ends = ends_cut_holds arities (room_of q) c q.borders.ends in
    let rest = parts_cut_holds arities c qs rooms.1 in
    omega (arith, all, both, none, ends, rest)

pub parts_cut_count : (n : Numbers) (c : ℕ) (qs : List Part) → AreNumbers n → AllByRecursion (λ q. room_of q < ROOMS) qs
    → cut_count n c (flat_map (part_pieces n.arities) qs) ≡ sum_by (ends_times c) qs
parts_cut_count n c [] sound rooms = refl
parts_cut_count n c (q ∷ qs) sound rooms =
    let k : ℕ = room_of q in
    let all = cuts_of_both n c (part_pieces n.arities q) (flat_map (part_pieces n.arities) qs) in
    let both = cuts_of_both n c (pieces_in n.arities k (pieces q.net)) (map (end_piece n.arities k) q.borders.ends) in
    let none = no_cuts_in_room n k c (pieces q.net) sound (part_room q rooms.0) in
    let ends = cuts_of_ends n k c q.borders.ends sound (part_room q rooms.0) in
    let rest = parts_cut_count n c qs sound rooms.1 in
    let sum = sum_by-cons (ends_times c) q qs in
    omega (arith, all, both, none, ends, rest, sum)

-- a number that is worth two has two ends at most
pub ends_of_worth : (c : ℕ) (qs : List Part) → sum_by (ends_times c) qs + 2 * sum_by (λ q. spares c q.borders) qs ≡ sum_by (λ q. worth c q.borders) qs
ends_of_worth c [] = refl
ends_of_worth c (q ∷ qs) =
    let a = sum_by-cons (ends_times c) q qs in
    let b = sum_by-cons (λ (r : Part). spares c r.borders) q qs in
    let d = sum_by-cons (λ (r : Part). worth c r.borders) q qs in
    let rest = ends_of_worth c qs in
    omega (arith, a, b, d, rest)

-- each number is worth two, or nothing
abbrev pub AreWorthTwo : List Part → Type 0
AreWorthTwo qs = (c : ℕ) → (sum_by (λ q. worth c q.borders) qs ≡ 0) ⊎ (sum_by (λ q. worth c q.borders) qs ≡ 2)

pub paired : (c : ℕ) (qs : List Part) → (sum_by (λ q. worth c q.borders) qs ≡ 0) ⊎ (sum_by (λ q. worth c q.borders) qs ≡ 2)
    → (times c (cuts_of qs) ≡ 0) ⊎ (times c (cuts_of qs) ≡ 2)
paired c qs (inl none) =
    let all = all_ends_times c qs in
    let worths = ends_of_worth c qs in
    inl (omega (arith, none, all, worths))
paired c qs (inr both) = by (sum_by (λ (q : Part). spares c q.borders) qs) refl
  where
    by : (s : ℕ) → sum_by (λ (q : Part). spares c q.borders) qs ≡ s → (times c (cuts_of qs) ≡ 0) ⊎ (times c (cuts_of qs) ≡ 2)
    by zero e =
        let all = all_ends_times c qs in
        let worths = ends_of_worth c qs in
        inr (omega (arith, both, all, worths, e))
    by (suc s) e =
        let all = all_ends_times c qs in
        let worths = ends_of_worth c qs in
        inl (omega (arith, both, all, worths, e))

-- Where each number is worth two, or nothing, each cut has two ends.
pub cuts_from_worth : (qs : List Part) → AreWorthTwo qs → Half (cuts_of qs)
cuts_from_worth qs two = halves (cuts_of qs) (λ c. paired c qs (two c))

pub half_times : (c : ℕ) (qs : List Part) → (half : Half (cuts_of qs)) → 2 * times c half.half ≡ sum_by (ends_times c) qs
half_times c qs half =
    let f : ℕ → ℕ = λ m. cond {A = ℕ} (m == c) 1 0 in
    let moved = sum_by-IsPermutation f (half.half ++ half.half) (cuts_of qs) half.twice in
    let both = sum_by-append f half.half half.half in
    let all = all_ends_times c qs in
    omega (arith, moved, both, all)

pub at_most_two : (c : ℕ) (qs : List Part) → AreWorthTwo qs → sum_by (ends_times c) qs ≤ 2
at_most_two c qs two =
    let worths = ends_of_worth c qs in
    elim (two c) [
      | inl none ↦ omega (arith, none, worths)
      | inr both ↦ omega (arith, both, worths)
    ]

-- ---- a parcel among parts

-- a place of a room is held there as often as it was
pub holds_in_room : (arities : List ℕ) (k : ℕ) (w : Word) (ps : List Piece) → sum_by (holds (in_room arities k w)) (pieces_in arities k ps) ≡ sum_by (holds w) ps
holds_in_room arities k w [] = refl
holds_in_room arities k w (p ∷ ps) =
    let a = sum_by-cons (holds (in_room arities k w)) (piece_in arities k p) (pieces_in arities k ps) in
    let b = sum_by-cons (holds w) p ps in
    let here = one p in
    let rest = holds_in_room arities k w ps in
    omega (arith, a, b, here, rest)
  where
    one : (p : Piece) → holds (in_room arities k w) (piece_in arities k p) ≡ holds w p
    one (equated l r) = refl
    one (idle x) = ap (λ (b : Bool). cond {A = ℕ} b 1 0) (same_in_room arities k w x)
    one (waits x u) = ap (λ (b : Bool). cond {A = ℕ} b 1 0) (same_in_room arities k w x)
    one (agent_of a ws) = ap (λ (b : Bool). cond {A = ℕ} b 1 0) (same_in_room arities k w a)

-- equations say what is at no place
pub equations_outside : (arities : List ℕ) (k l : ℕ) (es fs : List Equation) → IsOutside arities k (own_pieces arities l es fs)
equations_outside arities k l es fs w place = by es
  where
    last : (fs : List Equation) → sum_by (room (in_room arities k w)) (pieces_in arities l (map equated_of fs)) ≡ 0
    last [] = refl
    last (f ∷ fs) =
        let parts = sum_by-cons (room (in_room arities k w)) (piece_in arities l (equated_of f)) (pieces_in arities l (map equated_of fs)) in
        let rest = last fs in
        omega (arith, parts, rest)

    by : (es : List Equation) → sum_by (room (in_room arities k w)) (own_pieces arities l es fs) ≡ 0
    by [] = last fs
    by (e ∷ es) =
        let parts = sum_by-cons (room (in_room arities k w)) (piece_in arities l (equated_of e)) (own_pieces arities l es fs) in
        let rest = by es in
        omega (arith, parts, rest)

pub side_outside : (arities : List ℕ) (k l : ℕ) (s : Side) → k < ROOMS → l < ROOMS → (k ≡ l → ⊥) → IsOutside arities k (side_pieces arities l s)
side_outside arities k l s low also apart =
    outside_both arities k (pieces_in arities l s.places) (map (end_piece arities l) s.ends) (outside_of arities k l s.places low also apart)
    (ends_outside arities k l s.ends)

pub cuts_outside : (arities : List ℕ) (k : ℕ) (cs : List ℕ) → IsPartRoom k → IsOutside arities k (cut_pieces cs)
cuts_outside arities k [] part w place = refl
cuts_outside arities k (c ∷ cs) part w place =
    let parts = sum_by-cons (room (in_room arities k w)) (idle (cut_word c)) (cut_pieces cs) in
    let here = ap (λ (b : Bool). cond {A = ℕ} b 2 0) (apart_in_rooms arities k 0 w (name_word c) part.0 (omega arith) part.1 place) in
    let rest = cuts_outside arities k cs part w place in
    omega (arith, parts, here, rest)
