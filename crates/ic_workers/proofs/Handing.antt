-- Lemmas: where one part sends words to another one, what all parts stand for is one net before and after.
use Rattle.std.proofs.Common.{◌++◌, ◌+◌, ◌<◌, ◌==◌, ◌∙◌, ◌∷◌, ◌≡◌, ◌≤◌, ◌⊎◌, ℕ, List, [], ap, append_assoc, arith, cond, drop, inl, inr, length, map, refl, slice_index_or, subst as transport, sum_by, sym, take}
use Rattle.std.proofs.lemmas.List.{append-nil, drop_at, length-map, map-append, take_at}
use Rattle.std.proofs.lemmas.List.Sorted.{IsPermutation-append_comm, IsPermutation-append_left, IsPermutation-append_right, IsPermutation-sym, IsPermutation-trans}
use Rattle.std.proofs.lemmas.List.Sums.{sum_by-append, sum_by-cons}
use Rattle.std.specs.List.{flat_map}
use Rattle.std.specs.Prelude.{IsPermutation}
use Rattle.ic_arena.specs.Piece.{Piece, room, uses}
use Rattle.ic_arena.specs.Word.{count, name_word}
use Rattle.ic_arena.specs.declared.word.Word.{Word}
use Rattle.ic_flat.specs.Flat.{pairs_of}
use Rattle.ic_flat.specs.declared.word.Word.{Word as FlatWord}
use Rattle.ic_machine.specs.Net.{equated_of, pieces}
use Rattle.ic_workers.specs.inner.Sent.{Took, SameCounts, Gave, Shipped}
use Rattle.ic_machine.specs.Steps.{Steps}
use Rattle.ic_machine.specs.declared.equation.Equation.{Equation}
use Rattle.ic_machine.specs.lemmas.Orders.{to_front}
use Rattle.ic_meaning.specs.Nets.{AreNetPieces, equations_of, holds, net_of}
use Rattle.ic_meaning.specs.Words.{AreNumbers, Numbers, term}
use Rattle.ic_reaching.specs.OneNet.{OneNet}
use Rattle.ic_readback.specs.lemmas.Rows.{over}
use Rattle.ic_round.specs.Naming.{HasNames}
use Rattle.ic_term.specs.Configuration.{Configuration}
use Rattle.ic_term.specs.Tree.{Tree}
use Rattle.ic_workers.proofs.Apart.{AreApart, apart_by_count, ends_outside, parts_outside}
use Rattle.ic_workers.proofs.Back.{IsOnce}
use Rattle.ic_workers.proofs.Carried.{IsPartRoom}
use Rattle.ic_workers.proofs.Cuts.{all_no_cut_holds, all_no_cut_uses, cuts_of_both, cuts_of_side, few_from_ends, no_cuts_in_room}
use Rattle.ic_workers.proofs.Given.{NetLaws, StepLaws}
use Rattle.ic_workers.proofs.Halves.{Half}
use Rattle.ic_machine.specs.lemmas.InRooms.{outside_both}
use Rattle.ic_workers.proofs.OnWay.{AreOnWay, cut_pieces, roomy_way, unpacked_way, way_of_net}
use Rattle.ic_workers.proofs.Parcels.{CutsFewIn, leaves, leaves_written, on_way, side_pieces, unpacked_net, with_pieces}
use Rattle.ic_workers.proofs.PartNets.{AreWorthTwo, at_most_two, cuts_from_worth, cuts_outside, cuts_silent, ends_cut_holds, ends_cut_uses, ends_of_worth, ends_times, equations_outside, half_times, holds_in_room, interface_cuts, linked_front, net_pieces_order, no_plans, none_are_plans, own_pieces, part_room, part_split, parts_cut_count, parts_cut_holds, parts_cut_uses, side_outside}
use Rattle.ic_workers.proofs.Sending.{none_whole}
use Rattle.ic_workers.proofs.Stages.{Stage, stage_order, stage_packs, stage_ships, stage_through}
use Rattle.ic_workers.proofs.WithCuts.{AreCut, net_of_way}
use Rattle.ic_workers.proofs.Dropping.{IsUnnamed, unnamed_by_others}
use Rattle.ic_in_place.specs.Holding.{AreGiven}
use Rattle.ic_workers.specs.inner.HandsOn.{CountAlike, HandsOn}
use Rattle.ic_machine.specs.Moving.{KeepWorth, Side, side_of, spells_cut, times, worth}
use Rattle.ic_workers.specs.Parts.{ArePlaced, Part, all_interface, all_pieces, cut_word, cuts_of, end_piece, part_pieces, room_of}
use Rattle.ic_machine.specs.Rooms.{IsOutside, ROOMS, in_room, piece_in, pieces_in}

-- What is beside a part says what is at no place of it. Where it has no interface, no place of it is named there.
pub record IsBeside (arities : List ℕ) (q : Part) (is : List Word) (rest : List Piece) : Type 0 where
  pub outside : IsOutside arities (room_of q) rest
  pub unnamed : q.net.interface ≡ [] → IsUnnamed arities (room_of q) is rest

-- A part sent words: with what it has left they are one net with what it had.
pub record Sent (n : Numbers) (words : List Word) (old new : Part) : Type 0 where
  pub number : new.number ≡ old.number
  pub interface : new.net.interface ≡ old.net.interface
  pub same_arities : new.net.arities ≡ old.net.arities
  pub stage : (is : List Word) (rest : List Piece) → IsBeside n.arities old is rest → Stage n is (part_pieces n.arities old ++ rest)
      (side_pieces n.arities (room_of old) (side_of new.net new.borders)
      ++ (own_pieces n.arities (room_of old) new.net.pending new.net.aside ++ rest)) [] words

-- a net is on no way
pub begin_on_way : (n : Numbers) (is : List Word) (ps : List Piece) → on_way n is [] ps (net_of n is ps).next ≡ net_of n is ps
begin_on_way n is ps =
    let row : List Tree = over (leaves n is ++ []) [] in
    let long = length-map is (term n) in
    let alone : row ≡ map (term n) is ++ [] = ap (λ (l : List FlatWord). over l []) (append-nil (leaves n is)) ∙ leaves_written n is [] in
    let first : take (length is) row ≡ map (term n) is = ap (take (length is)) alone ∙ take_at (map (term n) is) [] (length is) long in
    let last : drop (length is) row ≡ [] = ap (drop (length is)) alone ∙ drop_at (map (term n) is) [] (length is) long in
    λ i. record { interface = first i; equations = pairs_of (last i) ++ flat_map (equations_of n) ps; next = (net_of n is ps).next }

-- Two parts of those that there are, in front: they are a and b, and then c and d.
module _ (laws : NetLaws) (links : StepLaws) (n : Numbers) (sound : AreNumbers n) (a c b d : Part) (qs : List Part) (words : List Word)
    (sent : Sent n words a c) (took : Took n.arities words b d) (cuts : List ℕ) (placed : ArePlaced n.arities cuts (a ∷ b ∷ qs))
    (worth_c : KeepWorth a.borders c.borders [] words) (worth_d : KeepWorth b.borders d.borders words [])
    (are : AreNetPieces n.arities (all_interface n.arities (a ∷ b ∷ qs)) (all_pieces n.arities cuts (a ∷ b ∷ qs)))
    (named : HasNames (net_of n (all_interface n.arities (a ∷ b ∷ qs)) (all_pieces n.arities cuts (a ∷ b ∷ qs)))) where
  abbrev pub arities : List ℕ
  arities = n.arities

  abbrev pub old : List Part
  old = a ∷ b ∷ qs

  abbrev pub new : List Part
  new = c ∷ d ∷ qs

  abbrev pub is : List Word
  is = all_interface n.arities (a ∷ b ∷ qs)

  abbrev pub j : ℕ
  j = room_of a

  abbrev pub k : ℕ
  k = room_of b

  same_c : room_of c ≡ room_of a
  same_c = ap (λ (m : ℕ). m + 1) sent.number

  same_d : room_of d ≡ room_of b
  same_d = ap (λ (m : ℕ). m + 1) took.number

  abbrev pub sc : Side
  sc = side_of c.net c.borders

  abbrev pub sb : Side
  sb = side_of b.net b.borders

  abbrev pub s : Side
  s = record { places = took.places; ends = d.borders.ends }

  abbrev pub fs : List Equation
  fs = took.equations

  abbrev pub beyond : List Piece
  beyond = flat_map (part_pieces n.arities) qs

  abbrev pub own_a : List Piece
  own_a = own_pieces n.arities (room_of a) c.net.pending c.net.aside

  abbrev pub own_b : List Piece
  own_b = own_pieces n.arities (room_of b) b.net.pending b.net.aside

  abbrev pub rest : List Piece
  rest = own_a ++ (own_b ++ beyond)

  abbrev pub mine : List Piece
  mine = side_pieces n.arities k sb ++ rest

  abbrev pub yours : List Piece
  yours = side_pieces n.arities j sc ++ rest

  abbrev pub second : List Piece
  second = with_pieces n.arities k fs s yours

  room_j : IsPartRoom (room_of a)
  room_j = part_room a placed.rooms.0

  room_k : IsPartRoom (room_of b)
  room_k = part_room b placed.rooms.1.0

  apart : AreApart (a ∷ b ∷ qs)
  apart = apart_by_count (a ∷ b ∷ qs) placed.apart

  rooms_apart : room_of b ≡ room_of a → ⊥
  rooms_apart same = apart.0.0 (omega (arith, same))

  beside_a : IsBeside n.arities a is (flat_map (part_pieces n.arities) (b ∷ qs))
  beside_a = record {
    outside = parts_outside n.arities a (b ∷ qs) placed.rooms.0 placed.rooms.1 apart.0;
    unnamed = λ none w place.
        let v : Word = in_room n.arities (room_of a) w in
        let all = unnamed_by_others n.arities a (b ∷ qs) w placed.rooms.0 placed.rooms.1 apart.0 place in
        let words = ap (λ (l : List Word). count v (map (in_room n.arities (room_of a)) l ++ all_interface n.arities (b ∷ qs))) none in
        omega (arith, all, words);
  }

  all_sent : Stage n is (flat_map (part_pieces n.arities) (a ∷ b ∷ qs)) (side_pieces n.arities k sb ++ yours) [] words
  all_sent =
      let pb : List Piece = part_pieces n.arities b in
      let sa : List Piece = side_pieces n.arities j sc in
      let split_b : IsPermutation (pb ++ beyond) (side_pieces n.arities k sb ++ (own_b ++ beyond)) = part_split n.arities b [] b.net.pending beyond refl in
      let inner : IsPermutation (own_a ++ (pb ++ beyond)) mine =
      IsPermutation-trans (own_a ++ (pb ++ beyond)) (own_a ++ (side_pieces n.arities k sb ++ (own_b ++ beyond))) mine
      (IsPermutation-append_right own_a (pb ++ beyond) (side_pieces n.arities k sb ++ (own_b ++ beyond)) split_b)
      (to_front own_a (side_pieces n.arities k sb) (own_b ++ beyond)) in
      let moved : IsPermutation (sa ++ (own_a ++ (pb ++ beyond))) (side_pieces n.arities k sb ++ yours) =
      IsPermutation-trans (sa ++ (own_a ++ (pb ++ beyond))) (sa ++ mine) (side_pieces n.arities k sb ++ yours)
      (IsPermutation-append_right sa (own_a ++ (pb ++ beyond)) mine inner) (to_front sa (side_pieces n.arities k sb) rest) in
      stage_through laws n is (part_pieces n.arities a ++ (pb ++ beyond)) (sa ++ (own_a ++ (pb ++ beyond))) (side_pieces n.arities k sb ++ yours) [] words words
      (sent.stage is (pb ++ beyond) beside_a)
      (stage_order laws n is (sa ++ (own_a ++ (pb ++ beyond))) (side_pieces n.arities k sb ++ yours) words moved)

  outside_rest : IsOutside n.arities (room_of b) (own_a ++ beyond)
  outside_rest =
      outside_both n.arities k own_a beyond (equations_outside n.arities k j c.net.pending c.net.aside)
      (parts_outside n.arities b qs placed.rooms.1.0 placed.rooms.1.1 apart.1.0)

  outside : IsOutside n.arities (room_of b) yours
  outside =
      outside_both n.arities k (side_pieces n.arities j sc) rest (side_outside n.arities k j sc placed.rooms.1.0 placed.rooms.0 rooms_apart)
      (outside_both n.arities k own_a (own_b ++ beyond) (equations_outside n.arities k j c.net.pending c.net.aside)
      (outside_both n.arities k own_b beyond (equations_outside n.arities k k b.net.pending b.net.aside)
      (parts_outside n.arities b qs placed.rooms.1.0 placed.rooms.1.1 apart.1.0)))

  begin_way : AreOnWay n.arities is (flat_map (part_pieces n.arities) (a ∷ b ∷ qs))
  begin_way = way_of_net n.arities is cuts (flat_map (part_pieces n.arities) old) are

  come_way : AreOnWay n.arities is (side_pieces n.arities k sb ++ yours)
  come_way = all_sent.way begin_way

  once_s : IsOnce n.arities (room_of b) s
  once_s w = let same = holds_in_room n.arities k w took.places in let few = took.once w in omega (arith, same, few)

  pub end_way : AreOnWay n.arities is second
  end_way = unpacked_way n.arities k is fs s sb yours words room_k took.spells outside once_s come_way

  pub worths : (x : ℕ) → sum_by (λ q. worth x q.borders) (c ∷ d ∷ qs) ≡ sum_by (λ q. worth x q.borders) (a ∷ b ∷ qs)
  worths x =
      let f : Part → ℕ = λ q. worth x q.borders in
      let one = sum_by-cons f c (d ∷ qs) in
      let two = sum_by-cons f d qs in
      let three = sum_by-cons f a (b ∷ qs) in
      let four = sum_by-cons f b qs in
      let gone : worth x c.borders + spells_cut x words ≡ worth x a.borders = (let kept = worth_c x in omega (arith, kept)) in
      let come : worth x d.borders ≡ worth x b.borders + spells_cut x words = (let kept = worth_d x in omega (arith, kept)) in
      omega (arith, one, two, three, four, gone, come)

  pub worth_two : AreWorthTwo (c ∷ d ∷ qs)
  worth_two x = transport (λ (m : ℕ). (m ≡ 0) ⊎ (m ≡ 2)) (sym (worths x)) (placed.worth_two x)

  few : CutsFewIn n is words (side_pieces n.arities k sb ++ yours)
  few = few_from_ends n is words (side_pieces n.arities k sb ++ yours) sound (λ x. interface_cuts n.arities x old placed.rooms) (λ x.
      let a1 = cuts_of_both n x (side_pieces n.arities k sb) yours in
      let a2 = cuts_of_both n x (side_pieces n.arities j sc) rest in
      let a3 = cuts_of_both n x own_a (own_b ++ beyond) in
      let a4 = cuts_of_both n x own_b beyond in
      let b1 = cuts_of_side n j x sc sound room_j in
      let b2 = cuts_of_side n k x sb sound room_k in
      let b3 = no_cuts_in_room n j x (map equated_of c.net.pending ++ map equated_of c.net.aside) sound room_j in
      let b4 = no_cuts_in_room n k x (map equated_of b.net.pending ++ map equated_of b.net.aside) sound room_k in
      let b5 = parts_cut_count n x qs sound placed.rooms.1.1 in
      let f : Part → ℕ = λ q. worth x q.borders in
      let three = sum_by-cons f a (b ∷ qs) in
      let four = sum_by-cons f b qs in
      let kept = worth_c x in
      let ends : sum_by (ends_times x) qs ≤ sum_by (λ q. worth x q.borders) qs = (let all = ends_of_worth x qs in omega (arith, all)) in
      let most : sum_by (λ q. worth x q.borders) (a ∷ b ∷ qs) ≤ 2 = elim (placed.worth_two x) [
        | inl none ↦ omega (arith, none)
        | inr two ↦ omega (arith, two)
      ] in
      omega (arith, a1, a2, a3, a4, b1, b2, b3, b4, b5, three, four, kept, ends, most))

  abbrev pub half : Half (cuts_of (c ∷ d ∷ qs))
  half = cuts_from_worth (c ∷ d ∷ qs) worth_two

  abbrev pub more : List ℕ
  more = half.half

  pub cut_facts : AreCut is more second
  cut_facts = record {
    few = λ x. let all = half_times x new half in let most = at_most_two x new worth_two in omega (arith, all, most);
    named = λ x. let all = half_times x new half in
        let s1 = sum_by-cons (ends_times x) c (d ∷ qs) in
        let s2 = sum_by-cons (ends_times x) d qs in
        let none = interface_cuts n.arities x old placed.rooms in
        let u1 = sum_by-append (uses (cut_word x)) (pieces_in n.arities k (map equated_of fs)) (side_pieces n.arities k s ++ yours) in
        let u2 = sum_by-append (uses (cut_word x)) (side_pieces n.arities k s) yours in
        let u3 = sum_by-append (uses (cut_word x)) (pieces_in n.arities k s.places) (map (end_piece n.arities k) s.ends) in
        let u4 = sum_by-append (uses (cut_word x)) (side_pieces n.arities j sc) rest in
        let u5 = sum_by-append (uses (cut_word x)) (pieces_in n.arities j sc.places) (map (end_piece n.arities j) sc.ends) in
        let u6 = sum_by-append (uses (cut_word x)) own_a (own_b ++ beyond) in
        let u7 = sum_by-append (uses (cut_word x)) own_b beyond in
        let v1 = all_no_cut_uses n.arities k x (map equated_of fs) room_k in
        let v2 = all_no_cut_uses n.arities k x s.places room_k in
        let v3 = ends_cut_uses n.arities k x s.ends room_k in
        let v4 = all_no_cut_uses n.arities j x sc.places room_j in
        let v5 = ends_cut_uses n.arities j x sc.ends room_j in
        let v6 = all_no_cut_uses n.arities j x (map equated_of c.net.pending ++ map equated_of c.net.aside) room_j in
        let v7 = all_no_cut_uses n.arities k x (map equated_of b.net.pending ++ map equated_of b.net.aside) room_k in
        let v8 = parts_cut_uses n.arities x qs placed.rooms.1.1 in
        omega (arith, all, s1, s2, none, u1, u2, u3, u4, u5, u6, u7, v1, v2, v3, v4, v5, v6, v7, v8);
    free = λ x.
        let u1 = sum_by-append (holds (cut_word x)) (pieces_in n.arities k (map equated_of fs)) (side_pieces n.arities k s ++ yours) in
        let u2 = sum_by-append (holds (cut_word x)) (side_pieces n.arities k s) yours in
        let u3 = sum_by-append (holds (cut_word x)) (pieces_in n.arities k s.places) (map (end_piece n.arities k) s.ends) in
        let u4 = sum_by-append (holds (cut_word x)) (side_pieces n.arities j sc) rest in
        let u5 = sum_by-append (holds (cut_word x)) (pieces_in n.arities j sc.places) (map (end_piece n.arities j) sc.ends) in
        let u6 = sum_by-append (holds (cut_word x)) own_a (own_b ++ beyond) in
        let u7 = sum_by-append (holds (cut_word x)) own_b beyond in
        let v1 = all_no_cut_holds n.arities k x (map equated_of fs) room_k in
        let v2 = all_no_cut_holds n.arities k x s.places room_k in
        let v3 = ends_cut_holds n.arities k x s.ends in
        let v4 = all_no_cut_holds n.arities j x sc.places room_j in
        let v5 = ends_cut_holds n.arities j x sc.ends in
        let v6 = all_no_cut_holds n.arities j x (map equated_of c.net.pending ++ map equated_of c.net.aside) room_j in
        let v7 = all_no_cut_holds n.arities k x (map equated_of b.net.pending ++ map equated_of b.net.aside) room_k in
        let v8 = parts_cut_holds n.arities x qs placed.rooms.1.1 in
        omega (arith, u1, u2, u3, u4, u5, u6, u7, v1, v2, v3, v4, v5, v6, v7, v8);
  }

  abbrev pub to_link : List Piece
  to_link = map equated_of fs ++ (map equated_of b.net.pending ++ (map equated_of b.net.aside ++ took.places))

  abbrev pub beside : List Piece
  beside = map (end_piece n.arities (room_of b)) d.borders.ends ++ (side_pieces n.arities j sc ++ (own_a ++ beyond))

  abbrev pub xs : List Piece
  xs = pieces_in n.arities k to_link ++ (beside ++ cut_pieces more)

  abbrev pub ys : List Piece
  ys = pieces_in n.arities k (pieces d.net) ++ (beside ++ cut_pieces more)

  outside_beside : IsOutside n.arities (room_of b) (beside ++ cut_pieces more)
  outside_beside =
      outside_both n.arities k beside (cut_pieces more)
      (outside_both n.arities k (map (end_piece n.arities k) d.borders.ends) (side_pieces n.arities j sc ++ (own_a ++ beyond)) (ends_outside n.arities k k d.borders.ends)
      (outside_both n.arities k (side_pieces n.arities j sc) (own_a ++ beyond) (side_outside n.arities k j sc placed.rooms.1.0 placed.rooms.0 rooms_apart) outside_rest))
      (cuts_outside n.arities k more room_k)

  to_last : (ps qs rs : List Piece) → IsPermutation ps (qs ++ rs) → IsPermutation (cut_pieces more ++ ps) (qs ++ (rs ++ cut_pieces more))
  to_last ps qs rs moved =
      transport (IsPermutation (cut_pieces more ++ ps)) (append_assoc qs rs (cut_pieces more))
      (IsPermutation-trans (cut_pieces more ++ ps) (ps ++ cut_pieces more) ((qs ++ rs) ++ cut_pieces more) (IsPermutation-append_comm (cut_pieces more) ps)
      (IsPermutation-append_left (cut_pieces more) ps (qs ++ rs) moved))

  linkable : IsPermutation (cut_pieces more ++ second) xs
  linkable = to_last second (pieces_in n.arities k to_link) beside
      (transport (λ (l : List Piece). IsPermutation second (l ++ beside)) linked_is
      (linked_front (pieces_in n.arities k (map equated_of fs)) (pieces_in n.arities k took.places) (map (end_piece n.arities k) d.borders.ends)
      (side_pieces n.arities j sc) own_a own_b beyond))
    where
      linked_is : pieces_in n.arities k (map equated_of fs) ++ (own_b ++ pieces_in n.arities k took.places) ≡ pieces_in n.arities k to_link
      linked_is =
          let f : Piece → Piece = piece_in n.arities k in
          let x : List Piece = map equated_of fs in
          let y : List Piece = map equated_of b.net.pending in
          let z : List Piece = map equated_of b.net.aside in
          let one = map-append f x (y ++ (z ++ took.places)) in
          let two = map-append f (y ++ z) took.places in
          let three = ap (map f) (append_assoc y z took.places) in
          sym (one ∙ ap (λ (l : List Piece). map f x ++ l) (sym three ∙ two))

  placed_again : IsPermutation ys (all_pieces n.arities more (c ∷ d ∷ qs))
  placed_again =
      let pc : List Piece = part_pieces n.arities c in
      let pd : List Piece = part_pieces n.arities d in
      let g : List Piece = map (end_piece n.arities k) d.borders.ends in
      let pd_is : pd ≡ pieces_in n.arities k (pieces d.net) ++ g =
      (λ i. pieces_in n.arities (same_d i) (pieces d.net) ++ map (end_piece n.arities (same_d i)) d.borders.ends) in
      let tail : List Piece = side_pieces n.arities j sc ++ (own_a ++ beyond) in
      let split : IsPermutation (pc ++ beyond) (side_pieces n.arities (room_of c) sc ++ (own_pieces n.arities (room_of c) c.net.pending c.net.aside ++ beyond)) =
      part_split n.arities c [] c.net.pending beyond refl in
      let split_is : IsPermutation (pc ++ beyond) tail =
      transport (λ (l : List Piece). IsPermutation (pc ++ beyond) l)
      (λ i. side_pieces n.arities (same_c i) sc ++ (own_pieces n.arities (same_c i) c.net.pending c.net.aside ++ beyond)) split in
      let parts : IsPermutation (pc ++ (pd ++ beyond)) (pd ++ tail) =
      IsPermutation-trans (pc ++ (pd ++ beyond)) (pd ++ (pc ++ beyond)) (pd ++ tail) (to_front pc pd beyond) (IsPermutation-append_right pd (pc ++ beyond) tail split_is) in
      let regroup : pd ++ tail ≡ pieces_in n.arities k (pieces d.net) ++ beside =
      ap (λ (l : List Piece). l ++ tail) pd_is ∙ append_assoc (pieces_in n.arities k (pieces d.net)) g tail in
      IsPermutation-sym (all_pieces n.arities more (c ∷ d ∷ qs)) ys
      (to_last (pc ++ (pd ++ beyond)) (pieces_in n.arities k (pieces d.net)) beside (transport (IsPermutation (pc ++ (pd ++ beyond))) regroup parts))

  steps : Steps (no_plans n.arities) [] xs ys
  steps = links.in_room (no_plans n.arities) k [] to_link (pieces d.net) (beside ++ cut_pieces more) (none_are_plans n.arities) outside_beside (took.linked (no_plans n.arities))

  before_link : AreNetPieces n.arities is xs
  before_link = net_pieces_order n.arities is (cut_pieces more ++ second) xs linkable (net_of_way n.arities is more second end_way cut_facts)

  pub shared_pieces : AreNetPieces n.arities is (all_pieces n.arities more (c ∷ d ∷ qs))
  shared_pieces =
      net_pieces_order n.arities is ys (all_pieces n.arities more new) placed_again (links.kept (no_plans n.arities) is [] xs ys (none_are_plans n.arities) before_link steps)

  pub shared_net : OneNet (net_of n is (all_pieces n.arities cuts (a ∷ b ∷ qs))) (net_of n is (all_pieces n.arities more (c ∷ d ∷ qs)))
  shared_net =
      let c0 : Configuration = net_of n is (all_pieces n.arities cuts old) in
      let c1 : Configuration = net_of n is (flat_map (part_pieces n.arities) old) in
      let c2 : Configuration = net_of n is second in
      let c3 : Configuration = net_of n is xs in
      let c4 : Configuration = net_of n is ys in
      let c5 : Configuration = net_of n is (all_pieces n.arities more new) in
      let silent = cuts_silent n is cuts (flat_map (part_pieces n.arities) old) in
      let again = cuts_silent n is more second in
      let begun = begin_on_way n is (flat_map (part_pieces n.arities) old) in
      let sending = all_sent.net c1.next (none_whole n) begin_way few (transport HasNames (silent ∙ sym begun) named) in
      let way : Configuration = on_way n is words (side_pieces n.arities k sb ++ yours) sending.0 in
      let one : OneNet c0 way = transport (λ (e : Configuration). OneNet e way) (begun ∙ sym silent) sending.1 in
      let two : OneNet way c2 =
      unpacked_net laws n k sending.0 is fs s sb yours words sound room_k took.spells few (roomy_way n k is sb yours sound room_k outside come_way) once_s one.names_too in
      let three : OneNet c2 c3 =
      transport (λ (e : Configuration). OneNet e c3) again
      (links.order n is (cut_pieces more ++ second) xs (transport HasNames (sym again) two.names_too) linkable) in
      let four : OneNet c3 c4 = links.linked (no_plans n.arities) n is xs ys three.names_too before_link.each steps in
      let five : OneNet c4 c5 = links.order n is ys (all_pieces n.arities more new) four.names_too placed_again in
      laws.through c0 way c5 one (laws.through way c2 c5 two (laws.through c2 c3 c5 three (laws.through c3 c4 c5 four five)))

  pub same_interface : all_interface n.arities (c ∷ d ∷ qs) ≡ all_interface n.arities (a ∷ b ∷ qs)
  same_interface =
      λ i. map (in_room n.arities (same_c i)) (sent.interface i) ++ (map (in_room n.arities (same_d i)) (took.interface i) ++ all_interface n.arities qs)

  interface_stays : (q r : Part) → r.number ≡ q.number → r.net.interface ≡ q.net.interface
      → (q.number ≡ 0) ⊎ (q.net.interface ≡ []) → (r.number ≡ 0) ⊎ (r.net.interface ≡ [])
  interface_stays q r number interface (inl first_one) = inl (number ∙ first_one)
  interface_stays q r number interface (inr none) = inr (interface ∙ none)

  pub shared_placed : ((x : ℕ) → times x (map (λ e. e.cut) c.borders.ends) ≤ 1) → ((x : ℕ) → times x (map (λ e. e.cut) d.borders.ends) ≤ 1)
      → ArePlaced n.arities more (c ∷ d ∷ qs)
  shared_placed once_c once_d = record {
    rooms = (
      transport (λ (m : ℕ). m < ROOMS) (sym same_c) placed.rooms.0,
      (transport (λ (m : ℕ). m < ROOMS) (sym same_d) placed.rooms.1.0, placed.rooms.1.1),
    );
    apart = λ x. let f : Part → ℕ = λ q. cond {A = ℕ} (q.number == x) 1 0 in
        let one = sum_by-cons f c (d ∷ qs) in
        let two = sum_by-cons f d qs in
        let three = sum_by-cons f a (b ∷ qs) in
        let four = sum_by-cons f b qs in
        let here : cond {A = ℕ} (c.number == x) 1 0 ≡ cond {A = ℕ} (a.number == x) 1 0 = ap (λ (m : ℕ). cond {A = ℕ} (m == x) 1 0) sent.number in
        let there : cond {A = ℕ} (d.number == x) 1 0 ≡ cond {A = ℕ} (b.number == x) 1 0 = ap (λ (m : ℕ). cond {A = ℕ} (m == x) 1 0) took.number in
        let most = placed.apart x in
        omega (arith, one, two, three, four, here, there, most);
    arities_are = (
      sent.same_arities ∙ placed.arities_are.0,
      (took.same_arities ∙ placed.arities_are.1.0, placed.arities_are.1.1),
    );
    interfaces = (
      interface_stays a c sent.number sent.interface placed.interfaces.0,
      (interface_stays b d took.number took.interface placed.interfaces.1.0, placed.interfaces.1.1),
    );
    ends = half.twice;
    once = (once_c, (once_d, placed.once.1.1));
    worth_two = worth_two;
  }

-- what is to be shown where a and b are c and d
abbrev Shares : (a c b d : Part) (qs : List Part) → List Word → Numbers → List ℕ → List ℕ → Type 0
Shares a c b d qs words n cuts m = Took m words b d → ArePlaced m cuts (a ∷ b ∷ qs)
    → AreNetPieces m (all_interface m (a ∷ b ∷ qs)) (all_pieces m cuts (a ∷ b ∷ qs))
    → HasNames (net_of n (all_interface m (a ∷ b ∷ qs)) (all_pieces m cuts (a ∷ b ∷ qs)))
    → (more : List ℕ) × ArePlaced m more (c ∷ d ∷ qs)
    × AreNetPieces m (all_interface m (c ∷ d ∷ qs)) (all_pieces m more (c ∷ d ∷ qs))
    × OneNet (net_of n (all_interface m (a ∷ b ∷ qs)) (all_pieces m cuts (a ∷ b ∷ qs)))
    (net_of n (all_interface m (c ∷ d ∷ qs)) (all_pieces m more (c ∷ d ∷ qs)))

-- What a part sent, and what its borders are worth then, where the parts stand for a net.
abbrev pub IsReady : List ℕ → (a c b : Part) → List Part → List Word → Type 0
IsReady arities a c b qs words = (n : Numbers) (cuts : List ℕ) → AreNumbers n → n.arities ≡ arities → ArePlaced arities cuts (a ∷ b ∷ qs)
    → AreNetPieces arities (all_interface arities (a ∷ b ∷ qs)) (all_pieces arities cuts (a ∷ b ∷ qs))
    → HasNames (net_of n (all_interface arities (a ∷ b ∷ qs)) (all_pieces arities cuts (a ∷ b ∷ qs)))
    → ((e : Configuration) → OneNet (net_of n (all_interface arities (a ∷ b ∷ qs)) (all_pieces arities cuts (a ∷ b ∷ qs))) e → AreGiven n.given e)
    → Sent n words a c × KeepWorth a.borders c.borders [] words

-- A part sent words to another one: what all parts stand for stays one net.
pub handed_on : NetLaws → StepLaws → (arities : List ℕ) (a c b d : Part) (qs : List Part) (words : List Word)
    → c.number ≡ a.number → c.net.interface ≡ a.net.interface → CountAlike (a ∷ b ∷ qs) (c ∷ d ∷ qs) → IsReady arities a c b qs words
    → Took arities words b d → KeepWorth b.borders d.borders words []
    → ((x : ℕ) → times x (map (λ e. e.cut) c.borders.ends) ≤ 1) → ((x : ℕ) → times x (map (λ e. e.cut) d.borders.ends) ≤ 1)
    → HandsOn arities (a ∷ b ∷ qs) (c ∷ d ∷ qs)
handed_on laws links arities a c b d qs words number interface alike ready took worth_d once_c once_d = record {
  alike = alike;
  interface = λ i. map (in_room arities (number i + 1)) (interface i)
      ++ (map (in_room arities (took.number i + 1)) (took.interface i) ++ all_interface arities qs);
  net = λ cuts placed n sound same are named given.
      let is_ready = ready n cuts sound same placed are named given in
      transport (Shares a c b d qs words n cuts) same (at_numbers n sound cuts is_ready.0 is_ready.1) took placed are named;
}
  where
    at_numbers : (n : Numbers) → AreNumbers n → (cuts : List ℕ) → Sent n words a c → KeepWorth a.borders c.borders [] words → Shares a c b d qs words n cuts n.arities
    at_numbers n sound cuts sent worth_c took placed are named =
        let same = same_interface laws links n sound a c b d qs words sent took cuts placed worth_c worth_d are named in
        let left : List ℕ = more laws links n sound a c b d qs words sent took cuts placed worth_c worth_d are named in
        let start : Configuration = net_of n (all_interface n.arities (a ∷ b ∷ qs)) (all_pieces n.arities cuts (a ∷ b ∷ qs)) in (
          left,
          shared_placed laws links n sound a c b d qs words sent took cuts placed worth_c worth_d are named once_c once_d,
          transport (λ (i : List Word). AreNetPieces n.arities i (all_pieces n.arities left (c ∷ d ∷ qs))) (sym same)
              (shared_pieces laws links n sound a c b d qs words sent took cuts placed worth_c worth_d are named),
          transport (λ (i : List Word). OneNet start (net_of n i (all_pieces n.arities left (c ∷ d ∷ qs)))) (sym same)
              (shared_net laws links n sound a c b d qs words sent took cuts placed worth_c worth_d are named),
        )

two_sums : (f : Part → ℕ) (a c b d : Part) (qs : List Part) → f c ≡ f a → f d ≡ f b → sum_by f (c ∷ d ∷ qs) ≡ sum_by f (a ∷ b ∷ qs)
two_sums f a c b d qs first second =
    let one = sum_by-cons f c (d ∷ qs) in
    let two = sum_by-cons f d qs in
    let three = sum_by-cons f a (b ∷ qs) in
    let four = sum_by-cons f b qs in
    omega (arith, one, two, three, four, first, second)

-- two parts count what they counted
two_alike : (a c b d : Part) (qs : List Part) → SameCounts a c → SameCounts b d → CountAlike (a ∷ b ∷ qs) (c ∷ d ∷ qs)
two_alike a c b d qs first second = record {
  interactions = two_sums (λ q. q.net.interactions) a c b d qs first.interactions second.interactions;
  counts = λ i. two_sums (λ q. slice_index_or q.net.counts i 0) a c b d qs (ap (λ (l : List ℕ). slice_index_or l i 0) first.counts)
      (ap (λ (l : List ℕ). slice_index_or l i 0) second.counts);
  plans = λ m all. (ap (length {A = ℕ}) first.counts ∙ all.0, (ap (length {A = ℕ}) second.counts ∙ all.1.0, all.1.1));
}

-- ---- what a part gives, or ships

gave_sent : NetLaws → (n : Numbers) (es : List Equation) (words : List Word) (a c : Part) → AreNumbers n → IsPartRoom (room_of a)
    → Gave n.arities es words a c → Sent n words a c
gave_sent laws n es words a c sound room gave = record {
  number = gave.same.number;
  interface = gave.same.interface;
  same_arities = gave.same.same_arities;
  stage = λ is rest beside.
      let j : ℕ = room_of a in
      let sa : Side = side_of a.net a.borders in
      let sc : Side = side_of c.net c.borders in
      let own : List Piece = own_pieces n.arities j c.net.pending a.net.aside in
      let first = stage_order laws n is (part_pieces n.arities a ++ rest) (with_pieces n.arities j es sa (own ++ rest)) [] (part_split n.arities a es c.net.pending rest gave.pending) in
      let second = stage_packs laws n j is es sa sc (own ++ rest) [] words sound room gave.spells in
      transport (λ (l : List Equation). Stage n is (part_pieces n.arities a ++ rest) (side_pieces n.arities j sc ++ (own_pieces n.arities j c.net.pending l ++ rest)) [] words) (sym gave.aside)
      (stage_through laws n is (part_pieces n.arities a ++ rest) (with_pieces n.arities j es sa (own ++ rest)) (side_pieces n.arities j sc ++ (own ++ rest)) [] [] words first second);
}

-- A part gave equations to another one.
pub shared : NetLaws → StepLaws → (arities : List ℕ) (a c b d : Part) (qs : List Part) (es : List Equation) (words : List Word)
    → Gave arities es words a c → SameCounts a c → Took arities words b d → SameCounts b d → KeepWorth a.borders c.borders [] words → KeepWorth b.borders d.borders words []
    → ((x : ℕ) → times x (map (λ e. e.cut) c.borders.ends) ≤ 1) → ((x : ℕ) → times x (map (λ e. e.cut) d.borders.ends) ≤ 1)
    → HandsOn arities (a ∷ b ∷ qs) (c ∷ d ∷ qs)
shared laws links arities a c b d qs es words gave counts_c took counts_d worth_c worth_d once_c once_d =
    handed_on laws links arities a c b d qs words gave.same.number gave.same.interface (two_alike a c b d qs counts_c counts_d)
    (λ n cuts sound same placed are named given.
    (gave_sent laws n es words a c sound (part_room a placed.rooms.0) (transport (λ (m : List ℕ). Gave m es words a c) (sym same) gave), worth_c))
    took worth_d once_c once_d

shipped_sent : NetLaws → (n : Numbers) (words : List Word) (a c : Part) → AreNumbers n → IsPartRoom (room_of a)
    → Shipped n.arities words a c → Sent n words a c
shipped_sent laws n words a c sound room ship = record {
  number = ship.same.number;
  interface = ship.same.interface;
  same_arities = ship.same.same_arities;
  stage = λ is rest beside.
      let j : ℕ = room_of a in
      let sa : Side = side_of a.net a.borders in
      let sc : Side = side_of c.net c.borders in
      let own : List Piece = own_pieces n.arities j a.net.pending a.net.aside in
      let first = stage_order laws n is (part_pieces n.arities a ++ rest) (side_pieces n.arities j sa ++ (own ++ rest)) [] (part_split n.arities a [] a.net.pending rest refl) in
      let second = stage_ships laws n j is ship.end ship.word sa ship.middle sc (own ++ rest) [] ship.more sound room ship.taken ship.cut ship.spells in
      transport (λ (l : List Word). Stage n is (part_pieces n.arities a ++ rest) (side_pieces n.arities j sc ++ (own_pieces n.arities j c.net.pending c.net.aside ++ rest)) [] l) (sym ship.spelled)
      (transport (λ (l : List Piece). Stage n is (part_pieces n.arities a ++ rest) (side_pieces n.arities j sc ++ (l ++ rest)) [] (name_word ship.end.cut ∷ ship.more))
      (λ i. own_pieces n.arities j (sym ship.pending i) (sym ship.aside i))
      (stage_through laws n is (part_pieces n.arities a ++ rest) (side_pieces n.arities j sa ++ (own ++ rest)) (side_pieces n.arities j sc ++ (own ++ rest)) [] []
      (name_word ship.end.cut ∷ ship.more) first second));
}

-- A part shipped what waits for a cut to another one.
pub shipped_on_parts : NetLaws → StepLaws → (arities : List ℕ) (a c b d : Part) (qs : List Part) (words : List Word)
    → Shipped arities words a c → SameCounts a c → Took arities words b d → SameCounts b d → KeepWorth a.borders c.borders [] words → KeepWorth b.borders d.borders words []
    → ((x : ℕ) → times x (map (λ e. e.cut) c.borders.ends) ≤ 1) → ((x : ℕ) → times x (map (λ e. e.cut) d.borders.ends) ≤ 1)
    → HandsOn arities (a ∷ b ∷ qs) (c ∷ d ∷ qs)
shipped_on_parts laws links arities a c b d qs words ship counts_c took counts_d worth_c worth_d once_c once_d =
    handed_on laws links arities a c b d qs words ship.same.number ship.same.interface (two_alike a c b d qs counts_c counts_d)
    (λ n cuts sound same placed are named given.
    (shipped_sent laws n words a c sound (part_room a placed.rooms.0) (transport (λ (m : List ℕ). Shipped m words a c) (sym same) ship), worth_c))
    took worth_d once_c once_d
