-- Lemmas: a name waits for a new one, which is equal to the word that it waited for: it is one net with what was there.
use Rattle.std.proofs.Common.{◌*◌, ◌++◌, ◌+◌, ◌<◌, ◌==◌, ◌∙◌, ◌∷◌, ◌≡◌, ◌≤◌, ◌⊎◌, Bool, ℕ, List, [], ap, arith, cond, drop, eq-eqb, false, inl, inr, length, map, refl, subst as transport, sum_by, sym, true}
use Rattle.std.proofs.lemmas.Bool.{ne_eqb}
use Rattle.std.proofs.lemmas.List.Concat.{flat_map-append}
use Rattle.std.proofs.lemmas.List.Sorted.{IsPermutation-cons, IsPermutation-middle, IsPermutation-refl, IsPermutation-sym, IsPermutation-trans}
use Rattle.std.proofs.lemmas.List.Sums.{sum_by-append, sum_by-cons}
use Rattle.std.specs.Cmp.{unsigned_Decides}
use Rattle.std.specs.List.{AllByRecursion, flat_map}
use Rattle.std.specs.Prelude.{IsPermutation}
use Rattle.ic_arena.specs.Piece.{Piece, idle, room, uses, waits}
use Rattle.ic_arena.specs.Word.{word_eq}
use Rattle.ic_arena.specs.declared.word.TheConstants.{NAME}
use Rattle.ic_arena.specs.declared.word.Word.{Word}
use Rattle.ic_flat.specs.Flat.{pairs_of}
use Rattle.ic_flat.specs.Words.{word_names}
use Rattle.ic_machine.specs.Net.{equated_of}
use Rattle.ic_machine.specs.Separate.{is_constant_tag}
use Rattle.ic_machine.specs.declared.equation.Equation.{Equation}
use Rattle.ic_machine.specs.lemmas.Separation.{twice}
use Rattle.ic_meaning.specs.Nets.{IsPiece, equations_of, holds}
use Rattle.ic_meaning.specs.Words.{AreNumbers, Numbers, term}
use Rattle.ic_reaching.specs.OneNet.{OneNet}
use Rattle.ic_readback.specs.lemmas.Orders.{all_order}
use Rattle.ic_readback.specs.lemmas.RowNets.{net_of_row, pairs_in_order}
use Rattle.ic_readback.specs.lemmas.Rows.{over}
use Rattle.ic_round.specs.Naming.{HasNames}
use Rattle.ic_settle.specs.Settling.{subst, subst_pair}
use Rattle.ic_settle.specs.lemmas.SubstitutionLaws.{occurrences-append}
use Rattle.ic_term.specs.Configuration.{Configuration, configuration_names, occurrences}
use Rattle.ic_term.specs.Tree.{Pair, Tree, name, names, pair_names}
use Rattle.ic_workers.proofs.Back.{grown_twice, no_pieces, no_spelled, no_terms}
use Rattle.ic_workers.proofs.Balanced.{first_count, taken_sum}
use Rattle.ic_workers.proofs.Carried.{All_from, IsPartRoom, below_next, front_names, itself_occurs, name_tag, net_names, order_row, place_term, side_equations, side_order, spelled_word, written_names}
use Rattle.ic_workers.proofs.Cuts.{cuts_of_both, cuts_of_side}
use Rattle.ic_workers.proofs.Given.{NetLaws}
use Rattle.ic_machine.specs.lemmas.InRooms.{room_tag}
use Rattle.ic_workers.proofs.OnWay.{AreOnWay, all_both, all_first, all_last, each_end, each_in, each_out, hold_room, room_no_cut, side_holds, side_room, side_uses, with_holds, with_room, with_uses, word_is}
use Rattle.ic_workers.proofs.Parcels.{beside_is, higher, leaves, leaves_names, on_way, pairs_written, side_pieces, with_pieces}
use Rattle.ic_workers.proofs.Rooms.{of_room}
use Rattle.ic_workers.proofs.Sending.{AreWhole, after_even, written}
use Rattle.ic_workers.proofs.Stages.{Stage}
use Rattle.ic_machine.specs.Moving.{CutEnd, Side}
use Rattle.ic_workers.specs.Parts.{end_piece}
use Rattle.ic_machine.specs.Rooms.{IsOutside, in_room, piece_in, pieces_in}

-- ---- a new place

-- what is spelled has no place of a part
pub no_spelled_words : (n : Numbers) (k : ℕ) (w : Word) (ts : List Word) → AreNumbers n → IsPartRoom k → is_constant_tag n.arities w.tag ≡ false
    → occurrences ((of_room k n).of_place w) (flat_map word_names (map (spelled_word n) ts)) ≡ 0
no_spelled_words n k w [] sound part place = refl
no_spelled_words n k w (t ∷ ts) sound part place =
    let all = occurrences-append ((of_room k n).of_place w) (word_names (spelled_word n t)) (flat_map word_names (map (spelled_word n) ts)) in
    let first = no_spelled n k w t sound part place in
    let rest = no_spelled_words n k w ts sound part place in
    omega (arith, all, first, rest)

pub way_names : (n : Numbers) (y top : ℕ) (is ts : List Word) (es : List Pair) → AreWhole n ts
    → occurrences y (configuration_names (net_of_row (length is) (over (written n is ts) []) es top))
    ≡ occurrences y (flat_map word_names (written n is ts)) + occurrences y (flat_map pair_names es)
way_names n y top is ts es whole =
    let even = after_even n is ts [] whole in
    let all = net_names y (length is) whole.pairs top (written n is ts) [] es (omega (arith, even)) in
    let none : occurrences y (flat_map names []) ≡ 0 = refl in
    omega (arith, all, none)

-- A place for which there is no room occurs nowhere.
pub absent_on_way : (n : Numbers) (k top : ℕ) (is ts : List Word) (ps : List Piece) (w : Word) → AreNumbers n → IsPartRoom k → is_constant_tag n.arities w.tag ≡ false
    → AreWhole n ts → AreOnWay n.arities is ps → sum_by (room (in_room n.arities k w)) ps ≡ 0
    → occurrences ((of_room k n).of_place w) (configuration_names (on_way n is ts ps top)) ≡ 0
absent_on_way n k top is ts ps w sound part place whole are none =
    let v : Word = in_room n.arities k w in
    let x : ℕ = n.of_place v in
    let there : is_constant_tag n.arities v.tag ≡ false = ap (is_constant_tag n.arities) (room_tag n.arities k w) ∙ place in
    let few = are.separate v there (room_no_cut n.arities k w part place) in
    let less = hold_room v ps in
    let all = way_names n x top is ts (flat_map (equations_of n) ps) whole in
    let words = written_names x (leaves n is) (map (spelled_word n) ts) in
    let interface = leaves_names n x is in
    let one = no_terms n v is sound (omega (arith, few, none)) in
    let two = no_spelled_words n k w ts sound part place in
    let three = no_pieces n v ps sound (omega (arith, few, none)) (omega (arith, less, none)) in
    omega (arith, all, words, interface, one, two, three)

-- one name more occurs, twice
grown_names : (x : ℕ) (c d : Configuration) → ((y : ℕ) → occurrences y (configuration_names d) ≡ occurrences y (configuration_names c) + 2 * occurrences y (x ∷ []))
    → occurrences x (configuration_names c) ≡ 0 → x < c.next → d.next ≡ c.next → HasNames c → HasNames d
grown_names x c d grown none low same named = record {
  below = transport (λ (m : ℕ). AllByRecursion (λ y. y < m) (configuration_names d)) (sym same)
      (All_from (λ y. y < c.next) (configuration_names d) (λ y some. elim (at y) [
        | inl new ↦ transport (λ (z : ℕ). z < c.next) new low
        | inr old ↦ below_next c named y (omega (arith, old, some))
      ]));
  twice = grown_twice x c d grown none named.twice;
}
  where
    at : (y : ℕ) → (x ≡ y) ⊎ (occurrences y (configuration_names d) ≡ occurrences y (configuration_names c))
    at y = by (x == y) refl
      where
        by : (b : Bool) → (x == y) ≡ b → (x ≡ y) ⊎ (occurrences y (configuration_names d) ≡ occurrences y (configuration_names c))
        by true e = inl ((unsigned_Decides x y).0 e)
        by false e =
            let never : occurrences y (x ∷ []) ≡ 0 = ap (λ (b : Bool). 0 + cond {A = ℕ} b 1 0) e in
            let all = grown y in
            inr (omega (arith, all, never))

-- ---- a name is opened

-- the equation of a new name with a word
abbrev opening : Word → Word → Equation
opening fresh word = record { left = fresh; right = word }

-- the side where a name waits for a new one
abbrev opened_side : Word → Word → List Piece → List CutEnd → Side
opened_side name_of fresh others ends = record { places = waits name_of fresh ∷ idle fresh ∷ others; ends = ends }

module _ (laws : NetLaws) (n : Numbers) (j : ℕ) (is : List Word) (named_word fresh word : Word) (full : Side) (others rest : List Piece) (before : List Word)
    (sound : AreNumbers n) (part : IsPartRoom j) (tag : named_word.tag ≡ NAME) (fresh_tag : fresh.tag ≡ NAME)
    (free : sum_by (room (in_room n.arities j fresh)) (pieces_in n.arities j full.places) ≡ 0) (waited : IsPermutation full.places (waits named_word word ∷ others))
    (outside : IsOutside n.arities j rest) where
  abbrev o : Side
  o = opened_side named_word fresh others full.ends

  abbrev e : Equation
  e = opening fresh word

  abbrev v : Word
  v = in_room n.arities j fresh

  abbrev mid : Side
  mid = record { places = others; ends = full.ends }

  abbrev with_waits : Side
  with_waits = record { places = waits named_word word ∷ others; ends = full.ends }

  place : is_constant_tag n.arities fresh.tag ≡ false
  place = name_tag n.arities fresh.tag fresh_tag

  no_room : sum_by (room (in_room n.arities j fresh)) (side_pieces n.arities j full ++ rest) ≡ 0
  no_room =
      let both = sum_by-append (room v) (side_pieces n.arities j full) rest in
      let own = side_room n.arities j v full in
      let none = outside fresh place in
      omega (arith, both, own, none, free)

  opened_way : AreOnWay n.arities is (side_pieces n.arities j full ++ rest) → AreOnWay n.arities is (with_pieces n.arities j (e ∷ []) o rest)
  opened_way are = record {
    each = let own = all_first (IsPiece n.arities) (side_pieces n.arities j full) rest are.each in
        let places = all_first (IsPiece n.arities) (pieces_in n.arities j full.places) (map (end_piece n.arities j) full.ends) own in
        let left = all_order (IsPiece n.arities) full.places (waits named_word word ∷ others) waited (each_out n.arities j full.places places) in (
          tt,
          all_both (IsPiece n.arities) (side_pieces n.arities j o) rest
              (all_both (IsPiece n.arities) (pieces_in n.arities j o.places) (map (end_piece n.arities j) o.ends)
              (each_in n.arities j o.places (tag, (fresh_tag, left.1))) (each_end n.arities j o.ends))
              (all_last (IsPiece n.arities) (side_pieces n.arities j full) rest are.each),
        );
    separate = λ w there other. let before = are.separate w there other in
        let both = sum_by-append (uses w) (side_pieces n.arities j full) rest in
        let roomy = sum_by-append (room w) (side_pieces n.arities j full) rest in
        let own = side_uses n.arities j w full other in
        let own_room = side_room n.arities j w full in
        let u = taken_sum (uses w) n.arities j (waits named_word word) full.places others waited in
        let r = taken_sum (room w) n.arities j (waits named_word word) full.places others waited in
        let one = first_count w (in_room n.arities j word) [] in
        let all = with_uses n.arities j w (e ∷ []) o rest other in
        let all_room = with_room n.arities j w (e ∷ []) o rest in
        let a = sum_by-cons (uses w) (piece_in n.arities j (waits named_word fresh)) (pieces_in n.arities j (idle fresh ∷ others)) in
        let b = sum_by-cons (uses w) (piece_in n.arities j (idle fresh)) (pieces_in n.arities j others) in
        let c = sum_by-cons (room w) (piece_in n.arities j (waits named_word fresh)) (pieces_in n.arities j (idle fresh ∷ others)) in
        let d = sum_by-cons (room w) (piece_in n.arities j (idle fresh)) (pieces_in n.arities j others) in
        let two = twice (word_eq w v) in
        let three = first_count w v [] in
        let four = first_count w v (in_room n.arities j word ∷ []) in
        omega (arith, before, both, roomy, own, own_room, u, r, one, all, all_room, a, b, c, d, two, three, four);
    once = λ w. at w (word_eq w v) refl;
  }
    where
      sums : (w : Word) → sum_by (holds w) (with_pieces n.arities j (e ∷ []) o rest)
          ≡ sum_by (holds w) (side_pieces n.arities j full ++ rest) + cond {A = ℕ} (word_eq w v) 1 0
      sums w =
          let both = sum_by-append (holds w) (side_pieces n.arities j full) rest in
          let own = side_holds n.arities j w full in
          let h = taken_sum (holds w) n.arities j (waits named_word word) full.places others waited in
          let all = with_holds n.arities j w (e ∷ []) o rest in
          let a = sum_by-cons (holds w) (piece_in n.arities j (waits named_word fresh)) (pieces_in n.arities j (idle fresh ∷ others)) in
          let b = sum_by-cons (holds w) (piece_in n.arities j (idle fresh)) (pieces_in n.arities j others) in
          omega (arith, both, own, h, all, a, b)

      at : (w : Word) (b : Bool) → word_eq w v ≡ b → sum_by (holds w) (with_pieces n.arities j (e ∷ []) o rest) ≤ 1
      at w true same =
          let is_v = word_is w v same in
          let none = transport (λ (u : Word). sum_by (room u) (side_pieces n.arities j full ++ rest) ≡ 0) (sym is_v) no_room in
          let less = hold_room w (side_pieces n.arities j full ++ rest) in
          let all = sums w in
          let one : cond {A = ℕ} (word_eq w v) 1 0 ≡ 1 = ap (λ (b : Bool). cond {A = ℕ} b 1 0) same in
          omega (arith, none, less, all, one)
      at w false same =
          let few = are.once w in
          let all = sums w in
          let one : cond {A = ℕ} (word_eq w v) 1 0 ≡ 0 = ap (λ (b : Bool). cond {A = ℕ} b 1 0) same in
          omega (arith, few, all, one)

  opened_net : (top : ℕ) → AreWhole n before → AreOnWay n.arities is (side_pieces n.arities j full ++ rest)
      → HasNames (on_way n is before (side_pieces n.arities j full ++ rest) top)
      → (more : ℕ) × OneNet (on_way n is before (side_pieces n.arities j full ++ rest) top) (on_way n is before (with_pieces n.arities j (e ∷ []) o rest) more)
  opened_net top whole are named =
      let f : Piece → List Pair = equations_of n in
      let r : Word → Tree = term (of_room j n) in
      let x : ℕ = (of_room j n).of_place fresh in
      let y : ℕ = (of_room j n).of_place named_word in
      let t : Tree = r word in
      let high : ℕ = top + (x + 1) in
      let ps : List Pair = pairs_of (drop (length is) (over (written n is before) [])) in
      let es : List Pair = side_equations n j mid ++ flat_map f rest in
      let start : Configuration = on_way n is before (side_pieces n.arities j full ++ rest) top in
      let start_high : Configuration = on_way n is before (side_pieces n.arities j full ++ rest) high in
      let waiting : Pair = record { left = name y; right = t } in
      let link : Pair = record { left = name y; right = name x } in
      let own : Pair = record { left = name x; right = t } in
      let first : OneNet start start_high = laws.next start high named (higher start high (omega arith) named) in
      let plain_row : Configuration = net_of_row (length is) (over (written n is before) []) (waiting ∷ es) high in
      let beside = beside_is n j full rest in
      let moved : IsPermutation (flat_map f (side_pieces n.arities j full ++ rest)) (waiting ∷ es) =
      transport (λ (l : List Pair). IsPermutation l (waiting ∷ es)) (sym beside)
      (side_order n j full with_waits (flat_map f rest) waited (IsPermutation-refl full.ends)) in
      let second : OneNet start_high plain_row =
      order_row laws (length is) high (over (written n is before) []) (flat_map f (side_pieces n.arities j full ++ rest)) (waiting ∷ es) first.names_too moved in
      let absent : occurrences x (configuration_names start_high) ≡ 0 = absent_on_way n j high is before (side_pieces n.arities j full ++ rest) fresh sound part place whole are no_room in
      let absent_too : occurrences x (configuration_names plain_row) ≡ 0 =
      (let a = way_names n x high is before (flat_map f (side_pieces n.arities j full ++ rest)) whole in
      let b = way_names n x high is before (waiting ∷ es) whole in
      let same = pairs_in_order x (flat_map f (side_pieces n.arities j full ++ rest)) (waiting ∷ es) moved in
      omega (arith, a, b, same, absent)) in
      let opened_row : Configuration = net_of_row (length is) (over (written n is before) []) (own ∷ (link ∷ es)) high in
      let counts : (z : ℕ) → occurrences z (configuration_names opened_row) ≡ occurrences z (configuration_names plain_row) + 2 * occurrences z (x ∷ []) =
      (λ z. let a = way_names n z high is before (waiting ∷ es) whole in
      let b = way_names n z high is before (own ∷ (link ∷ es)) whole in
      let c = front_names z waiting es in
      let d = front_names z own (link ∷ es) in
      let g = front_names z link es in
      let h = occurrences-append z (y ∷ []) (names t) in
      let i = occurrences-append z (x ∷ []) (names t) in
      let k = occurrences-append z (y ∷ []) (x ∷ []) in
      omega (arith, a, b, c, d, g, h, i, k)) in
      let named_row = grown_names x plain_row opened_row counts absent_too (omega arith) refl second.names_too in
      let other : y ≡ x → ⊥ =
      (λ same. let b = way_names n x high is before (waiting ∷ es) whole in
      let c = front_names x waiting es in
      let h = occurrences-append x (y ∷ []) (names t) in
      let one : occurrences x (y ∷ []) ≡ 1 = transport (λ (z : ℕ). occurrences x (z ∷ []) ≡ 1) (sym same) (itself_occurs x) in
      omega (arith, b, c, h, one, absent_too)) in
      let front : IsPermutation (ps ++ (own ∷ (link ∷ es))) (own ∷ (link ∷ (ps ++ es))) =
      IsPermutation-trans (ps ++ (own ∷ (link ∷ es))) (own ∷ (ps ++ (link ∷ es))) (own ∷ (link ∷ (ps ++ es))) (IsPermutation-middle ps own (link ∷ es))
      (IsPermutation-cons own (ps ++ (link ∷ es)) (link ∷ (ps ++ es)) (IsPermutation-middle ps link es)) in
      let there : 1 ≤ occurrences x (pair_names link) =
      (let all = occurrences-append x (y ∷ []) (x ∷ []) in let here = itself_occurs x in omega (arith, all, here)) in
      let stays : subst x t (name y) ≡ name y = ap (λ (b : Bool). cond b t (name y)) (ne_eqb y x other) in
      let itself : subst x t (name x) ≡ t = ap (λ (b : Bool). cond b t (name x)) (eq-eqb x x refl) in
      let put : subst_pair x t link ≡ waiting = (λ i. record { left = stays i; right = itself i }) in
      let joined : Configuration = record opened_row { equations = waiting ∷ (ps ++ es) } in
      let third : OneNet opened_row joined =
      transport (λ (p : Pair). OneNet opened_row (record opened_row { equations = p ∷ (ps ++ es) })) put (laws.in_one opened_row x t link (ps ++ es) named_row front there) in
      let fourth : OneNet joined plain_row =
      laws.order joined (ps ++ (waiting ∷ es)) third.names_too (IsPermutation-sym (ps ++ (waiting ∷ es)) (waiting ∷ (ps ++ es)) (IsPermutation-middle ps waiting es)) in
      let fresh_is : r fresh ≡ name x = place_term (of_room j n) fresh place in
      let sent : Configuration = on_way n is before (with_pieces n.arities j (e ∷ []) o rest) high in
      let equations_are : flat_map f (with_pieces n.arities j (e ∷ []) o rest) ≡ own ∷ (link ∷ es) =
      flat_map-append f (pieces_in n.arities j (map equated_of (e ∷ []))) (side_pieces n.arities j o ++ rest)
      ∙ ((λ i. sym (pairs_written n j (e ∷ [])) i ++ beside_is n j o rest i)
      ∙ (λ i. record { left = fresh_is i; right = t } ∷ (record { left = name y; right = fresh_is i } ∷ es))) in
      let end_same : opened_row ≡ sent = ap (λ (l : List Pair). net_of_row (length is) (over (written n is before) []) l high) (sym equations_are) in (
        high,
        laws.through start start_high sent first
            (laws.through start_high plain_row sent second
            (transport (OneNet plain_row) end_same (laws.other_way opened_row plain_row (laws.through opened_row joined plain_row third fourth)))),
      )

  pub stage_opens : Stage n is (side_pieces n.arities j full ++ rest) (with_pieces n.arities j (e ∷ []) o rest) before before
  stage_opens = record {
    grow = λ c. let one = cuts_of_both n c (side_pieces n.arities j full) rest in
        let two = cuts_of_both n c (pieces_in n.arities j (map equated_of (e ∷ []))) (side_pieces n.arities j o ++ rest) in
        let three = cuts_of_both n c (side_pieces n.arities j o) rest in
        let full_is = cuts_of_side n j c full sound part in
        let o_is = cuts_of_side n j c o sound part in
        omega (arith, one, two, three, full_is, o_is);
    way = opened_way;
    whole = λ whole. whole;
    net = λ top whole are few named. opened_net top whole are named;
  }
