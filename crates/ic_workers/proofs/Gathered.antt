-- Lemmas: where one part has all that another one had, what all parts stand for is one net before and after.
use Rattle.std.proofs.Common.{◌*◌, ◌++◌, ◌+◌, ◌==◌, ◌∙◌, ◌∷◌, ◌≡◌, ◌≤◌, ◌⊎◌, ℕ, List, [], ap, append_assoc, arith, cond, inl, inr, length, map, refl, slice_index_or, subst as transport, suc, sum_by, sym, zero}
use Rattle.std.proofs.lemmas.List.{length-map, map-append}
use Rattle.std.proofs.lemmas.List.Sorted.{IsPermutation-append_right, sum_by-IsPermutation}
use Rattle.std.proofs.lemmas.List.Sums.{sum_by-cons}
use Rattle.std.specs.List.{flat_map}
use Rattle.std.specs.Prelude.{IsPermutation}
use Rattle.ic_arena.specs.Piece.{Piece, idle, room, waits}
use Rattle.ic_arena.specs.Word.{count, name_word}
use Rattle.ic_arena.specs.declared.word.Word.{Word}
use Rattle.ic_machine.specs.Net.{equated_of}
use Rattle.ic_machine.specs.declared.equation.Equation.{Equation}
use Rattle.ic_machine.specs.lemmas.Orders.{to_front}
use Rattle.ic_meaning.specs.Nets.{AreNetPieces, net_of}
use Rattle.ic_meaning.specs.Words.{AreNumbers, Numbers}
use Rattle.ic_reaching.specs.OneNet.{OneNet}
use Rattle.ic_readback.specs.lemmas.Orders.{all_order, flat_order}
use Rattle.ic_round.specs.Naming.{HasNames}
use Rattle.ic_term.specs.Configuration.{Configuration}
use Rattle.ic_workers.proofs.Apart.{AreApart, apart_by_count, parts_outside}
use Rattle.ic_workers.proofs.Carried.{IsPartRoom}
use Rattle.ic_workers.proofs.Cuts.{cuts_of_both, cuts_of_side, few_from_ends}
use Rattle.ic_workers.proofs.Dropping.{IsUnnamed, no_end_left, stage_drops, unnamed_by_others}
use Rattle.ic_workers.proofs.Given.{NetLaws, StepLaws}
use Rattle.ic_workers.proofs.Handing.{IsReady, Sent, begin_on_way, handed_on}
use Rattle.ic_machine.specs.lemmas.InRooms.{rooms_in_room}
use Rattle.ic_workers.proofs.Led.{placed_order}
use Rattle.ic_workers.proofs.OnWay.{way_of_net}
use Rattle.ic_workers.proofs.Opening.{stage_opens}
use Rattle.ic_workers.proofs.Parcels.{CutsFewIn, on_way, side_pieces, with_pieces}
use Rattle.ic_workers.proofs.PartNets.{cuts_silent, ends_of_worth, interface_cuts, net_pieces_order, part_room, parts_cut_count}
use Rattle.ic_workers.proofs.Sending.{none_whole}
use Rattle.ic_workers.proofs.Stages.{Stage, stage_none, stage_order, stage_packs, stage_ships, stage_through}
use Rattle.ic_in_place.specs.Holding.{AreGiven}
use Rattle.ic_workers.specs.inner.HandsOn.{CountAlike, HandsOn, IsBare}
use Rattle.ic_machine.specs.Moving.{AreOpened, AreShipped, GivesAll, KeepWorth, Packs, Side, no_more, none_opened, one_opened, passed, shipped, side_of, spares, times, worth}
use Rattle.ic_workers.specs.Parts.{ArePlaced, Part, all_interface, all_pieces, cut_word, cuts_of, end_piece, part_pieces, room_of}
use Rattle.ic_machine.specs.Rooms.{IsOutside, in_room, piece_in, pieces_in}
use Rattle.ic_workers.specs.inner.Sent.{Took, GaveAll, CountsAlso}

-- ---- what a part sends in all

ships_stage : NetLaws → (n : Numbers) (j : ℕ) (is : List Word) (rest : List Piece) (ns : List ℕ) (s t : Side) (us vs : List Word) → AreNumbers n → IsPartRoom j
    → AreShipped n.arities ns s t us vs → Stage n is (side_pieces n.arities j s ++ rest) (side_pieces n.arities j t ++ rest) us vs
ships_stage laws n j is rest ns s t us vs sound part (no_more a ws) = stage_none laws n is (side_pieces n.arities j a ++ rest) ws
ships_stage laws n j is rest ns s t us vs sound part (shipped m ms a b c xs ys zs ship more) =
    let words_are : ys ≡ xs ++ name_word ship.end.cut ∷ ship.more = ship.spelled ∙ ap (λ (k : ℕ). xs ++ name_word k ∷ ship.more) (sym ship.is) in
    let first = stage_ships laws n j is ship.end ship.word a ship.middle b rest xs ship.more sound part ship.taken ship.cut ship.spells in
    stage_through laws n is (side_pieces n.arities j a ++ rest) (side_pieces n.arities j b ++ rest) (side_pieces n.arities j c ++ rest) xs ys zs
    (transport (λ (l : List Word). Stage n is (side_pieces n.arities j a ++ rest) (side_pieces n.arities j b ++ rest) xs l) (sym words_are) first)
    (ships_stage laws n j is rest ms b c ys zs sound part more)
ships_stage laws n j is rest ns s t us vs sound part (passed m ms a b xs ys none more) = ships_stage laws n j is rest ms a b xs ys sound part more

packs_stage : NetLaws → (n : Numbers) (j : ℕ) (is : List Word) (rest : List Piece) (es : List Equation) (s t : Side) (us vs : List Word) → AreNumbers n → IsPartRoom j
    → Packs n.arities es s t us vs → Stage n is (with_pieces n.arities j es s rest) (side_pieces n.arities j t ++ rest) us vs
packs_stage laws n j is rest es s t us vs sound part packs =
    transport (λ (l : List Word). Stage n is (with_pieces n.arities j es s rest) (side_pieces n.arities j t ++ rest) us l) (sym packs.spelled)
    (stage_packs laws n j is es s t rest us packs.more sound part packs.spells)

opens_stage : NetLaws → (n : Numbers) (j : ℕ) (is : List Word) (rest : List Piece) (s t : Side) (us vs : List Word) → AreNumbers n → IsPartRoom j
    → IsOutside n.arities j rest → AreOpened n.arities s t us vs → Stage n is (side_pieces n.arities j s ++ rest) (side_pieces n.arities j t ++ rest) us vs
opens_stage laws n j is rest s t us vs sound part outside (none_opened a ws) = stage_none laws n is (side_pieces n.arities j a ++ rest) ws
opens_stage laws n j is rest s t us vs sound part outside (one_opened a b c xs ys zs before opens) =
    let first = opens_stage laws n j is rest a b xs ys sound part outside before in
    let free : sum_by (room (in_room n.arities j opens.fresh)) (pieces_in n.arities j b.places) ≡ 0 = rooms_in_room n.arities j opens.fresh b.places ∙ opens.free in
    let es : List Equation = record { left = opens.fresh; right = opens.word } ∷ [] in
    let o : Side = record { places = waits opens.name opens.fresh ∷ idle opens.fresh ∷ opens.others; ends = b.ends } in
    let second : Stage n is (side_pieces n.arities j b ++ rest) (with_pieces n.arities j es o rest) ys ys =
    stage_opens laws n j is opens.name opens.fresh opens.word b opens.others rest ys sound part opens.named.0 opens.named.1 free opens.waited outside in
    let third : Stage n is (with_pieces n.arities j es o rest) (side_pieces n.arities j c ++ rest) ys zs = packs_stage laws n j is rest es o c ys zs sound part opens.packs in
    stage_through laws n is (side_pieces n.arities j a ++ rest) (side_pieces n.arities j b ++ rest) (side_pieces n.arities j c ++ rest) xs ys zs first
    (stage_through laws n is (side_pieces n.arities j b ++ rest) (with_pieces n.arities j es o rest) (side_pieces n.arities j c ++ rest) ys ys zs second third)

-- a part as its equations, and its side
part_all : (arities : List ℕ) (q : Part) (rest : List Piece)
    → part_pieces arities q ++ rest ≡ with_pieces arities (room_of q) (q.net.pending ++ q.net.aside) (side_of q.net q.borders) rest
part_all arities q rest =
    let f : Piece → Piece = piece_in arities (room_of q) in
    let x : List Piece = map equated_of q.net.pending in
    let y : List Piece = map equated_of q.net.aside in
    let g : List Piece = map (end_piece arities (room_of q)) q.borders.ends in
    let z : List Piece = map f q.net.places in
    let one : map f (x ++ (y ++ q.net.places)) ≡ map f (map equated_of (q.net.pending ++ q.net.aside)) ++ z =
    ap (map f) (sym (append_assoc x y q.net.places)) ∙ (map-append f (x ++ y) q.net.places
    ∙ ap (λ (l : List Piece). map f l ++ z) (sym (map-append equated_of q.net.pending q.net.aside))) in
    let e : List Piece = map f (map equated_of (q.net.pending ++ q.net.aside)) in
    ap (λ (l : List Piece). (l ++ g) ++ rest) one
    ∙ (append_assoc (e ++ z) g rest ∙ (append_assoc e z (g ++ rest) ∙ ap (λ (l : List Piece). e ++ l) (sym (append_assoc z g rest))))

gives_stage : NetLaws → (n : Numbers) (is : List Word) (rest : List Piece) (q : Part) (t : Side) (us vs : List Word) → AreNumbers n → IsPartRoom (room_of q)
    → IsOutside n.arities (room_of q) rest → GivesAll n.arities (q.net.pending ++ q.net.aside) (side_of q.net q.borders) t us vs
    → Stage n is (part_pieces n.arities q ++ rest) (side_pieces n.arities (room_of q) t ++ rest) us vs
gives_stage laws n is rest q t us vs sound part outside gives =
    let j : ℕ = room_of q in
    let es : List Equation = q.net.pending ++ q.net.aside in
    let e : List Piece = pieces_in n.arities j (map equated_of es) in
    let s : Side = side_of q.net q.borders in
    let a : List Piece = side_pieces n.arities j s in
    let b : List Piece = side_pieces n.arities j gives.first in
    let p0 : List Piece = part_pieces n.arities q ++ rest in
    let p1 : List Piece = a ++ (e ++ rest) in
    let p2 : List Piece = b ++ (e ++ rest) in
    let p3 : List Piece = with_pieces n.arities j es gives.first rest in
    let p4 : List Piece = side_pieces n.arities j gives.second ++ rest in
    let p5 : List Piece = side_pieces n.arities j t ++ rest in
    let one : Stage n is p0 p1 us us =
    stage_order laws n is p0 p1 us (transport (λ (l : List Piece). IsPermutation l p1) (sym (part_all n.arities q rest)) (to_front e a rest)) in
    let two : Stage n is p1 p2 us gives.with_cuts =
    ships_stage laws n j is (e ++ rest) (map (λ e. e.cut) q.borders.ends) s gives.first us gives.with_cuts sound part gives.shipped in
    let three : Stage n is p2 p3 gives.with_cuts gives.with_cuts = stage_order laws n is p2 p3 gives.with_cuts (to_front b e rest) in
    let four : Stage n is p3 p4 gives.with_cuts gives.with_equations =
    packs_stage laws n j is rest es gives.first gives.second gives.with_cuts gives.with_equations sound part gives.packs in
    let five : Stage n is p4 p5 gives.with_equations vs = opens_stage laws n j is rest gives.second t gives.with_equations vs sound part outside gives.opened in
    stage_through laws n is p0 p1 p5 us us vs one
    (stage_through laws n is p1 p2 p5 us gives.with_cuts vs two
    (stage_through laws n is p2 p3 p5 gives.with_cuts gives.with_cuts vs three
    (stage_through laws n is p3 p4 p5 gives.with_cuts gives.with_equations vs four five)))

-- ---- hands in turn

pub hands_through : NetLaws → (arities : List ℕ) (xs ys zs : List Part) → HandsOn arities xs ys → HandsOn arities ys zs → HandsOn arities xs zs
hands_through laws arities xs ys zs first second = record {
  alike = record {
    interactions = second.alike.interactions ∙ first.alike.interactions;
    counts = λ i. second.alike.counts i ∙ first.alike.counts i;
    plans = λ m all. second.alike.plans m (first.alike.plans m all);
  };
  interface = second.interface ∙ first.interface;
  net = λ cuts placed n sound same are named given.
      let c : Configuration = net_of n (all_interface arities xs) (all_pieces arities cuts xs) in
      let one = first.net cuts placed n sound same are named given in
      let d : Configuration = net_of n (all_interface arities ys) (all_pieces arities one.0 ys) in
      let two = second.net one.0 one.1 n sound same one.2 one.3.names_too (λ e net. given e (laws.through c d e one.3 net)) in
      (two.0, two.1, two.2, laws.through c d (net_of n (all_interface arities zs) (all_pieces arities two.0 zs)) one.3 two.3);
}

-- the same parts in another order, where their words stay
order_hands : NetLaws → StepLaws → (arities : List ℕ) (xs ys : List Part) → IsPermutation xs ys → all_interface arities ys ≡ all_interface arities xs → HandsOn arities xs ys
order_hands laws links arities xs ys moved same_words = record {
  alike = record {
    interactions = sum_by-IsPermutation (λ (q : Part). q.net.interactions) xs ys moved;
    counts = λ i. sum_by-IsPermutation (λ (q : Part). slice_index_or q.net.counts i 0) xs ys moved;
    plans = λ m all. all_order (λ q. length q.net.counts ≡ m) xs ys moved all;
  };
  interface = same_words;
  net = λ cuts placed n sound same are named given.
      let i : List Word = all_interface arities xs in
      let old : List Piece = all_pieces arities cuts xs in
      let new : List Piece = all_pieces arities cuts ys in
      let order : IsPermutation old new =
      IsPermutation-append_right (map (λ d. idle (cut_word d)) cuts) (flat_map (part_pieces arities) xs) (flat_map (part_pieces arities) ys)
      (flat_order (part_pieces arities) xs ys moved) in (
        cuts,
        placed_order arities cuts xs ys moved placed,
        transport (λ (ws : List Word). AreNetPieces arities ws new) (sym same_words) (net_pieces_order arities i old new order are),
        transport (λ (ws : List Word). OneNet (net_of n i old) (net_of n ws new)) (sym same_words) (links.order n i old new named order),
      );
}

-- a part of nothing is left out
left_out : NetLaws → (arities : List ℕ) (q : Part) (qs : List Part) → IsBare q → HandsOn arities (q ∷ qs) qs
left_out laws arities q qs bare = record {
  alike = record {
    interactions = (let one = sum_by-cons (λ (r : Part). r.net.interactions) q qs in let none = bare.interactions in omega (arith, one, none));
    counts = λ i. (let one = sum_by-cons (λ (r : Part). slice_index_or r.net.counts i 0) q qs in let none = bare.counts i in omega (arith, one, none));
    plans = λ m all. all.1;
  };
  interface = sym words_are;
  net = λ cuts placed n sound same are named given. (
    cuts,
    record {
      rooms = placed.rooms.1;
      apart = λ x. (let one = sum_by-cons (λ (r : Part). cond {A = ℕ} (r.number == x) 1 0) q qs in let few = placed.apart x in omega (arith, one, few));
      arities_are = placed.arities_are.1;
      interfaces = placed.interfaces.1;
      ends = transport (IsPermutation (cuts ++ cuts)) (ap (λ l. map (λ e. e.cut) l ++ cuts_of qs) bare.ends) placed.ends;
      once = placed.once.1;
      worth_two = λ x. worth_left x (placed.worth_two x);
    },
    transport (λ (ws : List Word). AreNetPieces arities ws (all_pieces arities cuts qs)) words_are
        (transport (λ (l : List Piece). AreNetPieces arities (all_interface arities (q ∷ qs)) l) (pieces_are cuts) are),
    transport (λ (c : Configuration). OneNet (net_of n (all_interface arities (q ∷ qs)) (all_pieces arities cuts (q ∷ qs))) c)
        (λ i. net_of n (words_are i) (pieces_are cuts i)) (laws.itself (net_of n (all_interface arities (q ∷ qs)) (all_pieces arities cuts (q ∷ qs))) named),
  );
}
  where
    words_are : all_interface arities (q ∷ qs) ≡ all_interface arities qs
    words_are = ap (λ (l : List Word). map (in_room arities (room_of q)) l ++ all_interface arities qs) bare.interface

    none : part_pieces arities q ≡ []
    none = λ i. pieces_in arities (room_of q) (bare.pieces i) ++ map (end_piece arities (room_of q)) (bare.ends i)

    pieces_are : (cuts : List ℕ) → all_pieces arities cuts (q ∷ qs) ≡ all_pieces arities cuts qs
    pieces_are cuts = ap (λ (l : List Piece). map (λ d. idle (cut_word d)) cuts ++ (l ++ flat_map (part_pieces arities) qs)) none

    worth_left : (x : ℕ) → (sum_by (λ r. worth x r.borders) (q ∷ qs) ≡ 0) ⊎ (sum_by (λ r. worth x r.borders) (q ∷ qs) ≡ 2)
        → (sum_by (λ r. worth x r.borders) qs ≡ 0) ⊎ (sum_by (λ r. worth x r.borders) qs ≡ 2)
    worth_left x two = by (spares x q.borders) refl
      where
        parts : sum_by (λ r. worth x r.borders) (q ∷ qs) ≡ 2 * spares x q.borders + sum_by (λ r. worth x r.borders) qs
        parts =
            let one = sum_by-cons (λ (r : Part). worth x r.borders) q qs in
            let ends : times x (map (λ e. e.cut) q.borders.ends) ≡ 0 = ap (λ l. times x (map (λ e. e.cut) l)) bare.ends in
            omega (arith, one, ends)

        by : (k : ℕ) → spares x q.borders ≡ k → (sum_by (λ r. worth x r.borders) qs ≡ 0) ⊎ (sum_by (λ r. worth x r.borders) qs ≡ 2)
        by zero e = transport (λ (m : ℕ). (m ≡ 0) ⊎ (m ≡ 2)) (let all = parts in omega (arith, all, e)) two
        by (suc k) e = elim two [
          | inl nothing ↦ (let all = parts in absurd (omega (arith, all, e, nothing)))
          | inr both ↦ (let all = parts in inl (omega (arith, all, e, both)))
        ]

-- ---- a part that gives all

-- nothing is counted
abbrev pub no_count : ℕ → ℕ
no_count n = 0

-- what is left of a part when its ends are gone, too
abbrev pub rest_of : Part → Part → Part
rest_of old new = record {
  number = old.number;
  net = record old.net {
    interface = [];
    pending = [];
    aside = [];
    places = [];
    interactions = 0;
    counts = map no_count old.net.counts;
  };
  borders = record new.borders { ends = [] };
}

zeros : (ns : List ℕ) (i : ℕ) → slice_index_or (map no_count ns) i 0 ≡ 0
zeros [] i = refl
zeros (n ∷ ns) zero = refl
zeros (n ∷ ns) (suc i) = zeros ns i

rest_bare : (old new : Part) → IsBare (rest_of old new)
rest_bare old new = record { pieces = refl; interface = refl; ends = refl; interactions = refl; counts = λ i. zeros old.net.counts i }

-- no cut occurs more than twice when all is sent
few_sent : (n : Numbers) (is : List Word) (a c b : Part) (qs : List Part) (words : List Word) (cuts : List ℕ) → AreNumbers n → IsPartRoom (room_of a)
    → ArePlaced n.arities cuts (a ∷ b ∷ qs) → KeepWorth a.borders c.borders [] words → ((x : ℕ) → count (cut_word x) is ≡ 0)
    → CutsFewIn n is words (side_pieces n.arities (room_of a) (side_of c.net c.borders) ++ flat_map (part_pieces n.arities) (b ∷ qs))
few_sent n is a c b qs words cuts sound part placed worth_c no_words =
    few_from_ends n is words (side_pieces n.arities (room_of a) (side_of c.net c.borders) ++ flat_map (part_pieces n.arities) (b ∷ qs)) sound no_words (λ x.
    let a1 = cuts_of_both n x (side_pieces n.arities (room_of a) (side_of c.net c.borders)) (flat_map (part_pieces n.arities) (b ∷ qs)) in
    let b1 = cuts_of_side n (room_of a) x (side_of c.net c.borders) sound part in
    let b2 = parts_cut_count n x (b ∷ qs) sound placed.rooms.1 in
    let three = sum_by-cons (λ (q : Part). worth x q.borders) a (b ∷ qs) in
    let kept = worth_c x in
    let ends = ends_of_worth x (b ∷ qs) in
    let most : sum_by (λ q. worth x q.borders) (a ∷ b ∷ qs) ≤ 2 = elim (placed.worth_two x) [
      | inl none ↦ omega (arith, none)
      | inr two ↦ omega (arith, two)
    ] in
    omega (arith, a1, b1, b2, three, kept, ends, most))

-- A part that gave all has nothing left, where the names that occur once are given.
all_sent : NetLaws → StepLaws → (arities : List ℕ) (a c b : Part) (qs : List Part) (words : List Word) → GaveAll arities words a c
    → KeepWorth a.borders c.borders [] words → IsReady arities a (rest_of a c) b qs words
all_sent laws links arities a c b qs words gave worth_c n cuts sound same placed are named given =
    transport (λ (m : List ℕ). GaveAll m words a c → ArePlaced m cuts (a ∷ b ∷ qs)
    → AreNetPieces m (all_interface m (a ∷ b ∷ qs)) (all_pieces m cuts (a ∷ b ∷ qs))
    → HasNames (net_of n (all_interface m (a ∷ b ∷ qs)) (all_pieces m cuts (a ∷ b ∷ qs)))
    → ((e : Configuration) → OneNet (net_of n (all_interface m (a ∷ b ∷ qs)) (all_pieces m cuts (a ∷ b ∷ qs))) e → AreGiven n.given e)
    → Sent n words a (rest_of a c) × KeepWorth a.borders (rest_of a c).borders [] words) same at_numbers gave placed are named given
  where
    at_numbers : GaveAll n.arities words a c → ArePlaced n.arities cuts (a ∷ b ∷ qs)
        → AreNetPieces n.arities (all_interface n.arities (a ∷ b ∷ qs)) (all_pieces n.arities cuts (a ∷ b ∷ qs))
        → HasNames (net_of n (all_interface n.arities (a ∷ b ∷ qs)) (all_pieces n.arities cuts (a ∷ b ∷ qs)))
        → ((e : Configuration) → OneNet (net_of n (all_interface n.arities (a ∷ b ∷ qs)) (all_pieces n.arities cuts (a ∷ b ∷ qs))) e → AreGiven n.given e)
        → Sent n words a (rest_of a c) × KeepWorth a.borders (rest_of a c).borders [] words
    at_numbers gave placed are named given =
        let j : ℕ = room_of a in
        let part : IsPartRoom j = part_room a placed.rooms.0 in
        let apart : AreApart (a ∷ b ∷ qs) = apart_by_count (a ∷ b ∷ qs) placed.apart in
        let is : List Word = all_interface n.arities (a ∷ b ∷ qs) in
        let rest : List Piece = flat_map (part_pieces n.arities) (b ∷ qs) in
        let sc : Side = side_of c.net c.borders in
        let outside : IsOutside n.arities j rest = parts_outside n.arities a (b ∷ qs) placed.rooms.0 placed.rooms.1 apart.0 in
        let unnamed : IsUnnamed n.arities j is rest =
        (λ w place. let all = unnamed_by_others n.arities a (b ∷ qs) w placed.rooms.0 placed.rooms.1 apart.0 place in
        let ws = ap (λ (l : List Word). count (in_room n.arities j w) (map (in_room n.arities j) l ++ all_interface n.arities (b ∷ qs))) gave.interface in
        omega (arith, all, ws)) in
        let start : List Piece = part_pieces n.arities a ++ rest in
        let gives = gives_stage laws n is rest a sc [] words sound part outside gave.gives in
        let begun = begin_on_way n is start in
        let silent = cuts_silent n is cuts start in
        let c0 : Configuration = net_of n is (all_pieces n.arities cuts (a ∷ b ∷ qs)) in
        let net = gives.net (net_of n is start).next (none_whole n) (way_of_net n.arities is cuts start are)
        (few_sent n is a c b qs words cuts sound part placed worth_c (λ x. interface_cuts n.arities x (a ∷ b ∷ qs) placed.rooms)) (transport HasNames (silent ∙ sym begun) named) in
        let way : Configuration = on_way n is words (side_pieces n.arities j sc ++ rest) net.0 in
        let one : OneNet c0 way = transport (λ (e : Configuration). OneNet e way) (begun ∙ sym silent) net.1 in
        let none : c.borders.ends ≡ [] =
        no_end_left n j net.0 is words sc rest sound part (gives.whole (none_whole n)) gave.idle gave.once unnamed outside (given way one) in (
          record {
            number = refl;
            interface = sym gave.interface;
            same_arities = refl;
            stage = λ more_is more beside.
                let all = gives_stage laws n more_is more a sc [] words sound part beside.outside gave.gives in
                let dropped = stage_drops laws n j more_is sc more words gave.idle none (beside.unnamed gave.interface) in
                stage_through laws n more_is (part_pieces n.arities a ++ more) (side_pieces n.arities j sc ++ more) more [] words words all dropped;
          },
          (λ x. let kept = worth_c x in
              let ends : times x (map (λ e. e.cut) c.borders.ends) ≡ 0 = ap (λ l. times x (map (λ e. e.cut) l)) none in
              omega (arith, kept, ends)),
        )

-- All that one part had went to another one.
pub gathered : NetLaws → StepLaws → (arities : List ℕ) (a c b d : Part) (qs : List Part) (words : List Word)
    → GaveAll arities words a c → KeepWorth a.borders c.borders [] words → Took arities words b d → KeepWorth b.borders d.borders words []
    → CountsAlso b a d → ((x : ℕ) → times x (map (λ e. e.cut) d.borders.ends) ≤ 1)
    → HandsOn arities (b ∷ a ∷ qs) (d ∷ qs)
gathered laws links arities a c b d qs words gave worth_c took worth_d also once_d =
    let left : Part = rest_of a c in
    let first : HandsOn arities (b ∷ a ∷ qs) (a ∷ b ∷ qs) =
    order_hands laws links arities (b ∷ a ∷ qs) (a ∷ b ∷ qs) (to_front (b ∷ []) (a ∷ []) qs) words_are in
    let second : HandsOn arities (a ∷ b ∷ qs) (left ∷ d ∷ qs) =
    handed_on laws links arities a left b d qs words refl (sym gave.interface) alike (all_sent laws links arities a c b qs words gave worth_c) took worth_d (λ x. omega arith) once_d in
    let third : HandsOn arities (left ∷ d ∷ qs) (d ∷ qs) = left_out laws arities left (d ∷ qs) (rest_bare a c) in
    hands_through laws arities (b ∷ a ∷ qs) (a ∷ b ∷ qs) (d ∷ qs) first (hands_through laws arities (a ∷ b ∷ qs) (left ∷ d ∷ qs) (d ∷ qs) second third)
  where
    words_are : all_interface arities (a ∷ b ∷ qs) ≡ all_interface arities (b ∷ a ∷ qs)
    words_are =
        let own : List Word = map (in_room arities (room_of b)) b.net.interface in
        ap (λ (l : List Word). map (in_room arities (room_of a)) l ++ (own ++ all_interface arities qs)) gave.interface
        ∙ sym (ap (λ (l : List Word). own ++ (map (in_room arities (room_of a)) l ++ all_interface arities qs)) gave.interface)

    sums : (f : Part → ℕ) → f (rest_of a c) ≡ 0 → f d ≡ f b + f a → sum_by f (rest_of a c ∷ d ∷ qs) ≡ sum_by f (a ∷ b ∷ qs)
    sums f none all =
        let one = sum_by-cons f (rest_of a c) (d ∷ qs) in
        let two = sum_by-cons f d qs in
        let three = sum_by-cons f a (b ∷ qs) in
        let four = sum_by-cons f b qs in
        omega (arith, one, two, three, four, none, all)

    alike : CountAlike (a ∷ b ∷ qs) (rest_of a c ∷ d ∷ qs)
    alike = record {
      interactions = sums (λ q. q.net.interactions) refl also.interactions;
      counts = λ i. sums (λ q. slice_index_or q.net.counts i 0) (zeros a.net.counts i) (also.counts i);
      plans = λ m all. (length-map a.net.counts no_count ∙ all.0, (also.plans ∙ all.1.0, all.1.1));
    }
