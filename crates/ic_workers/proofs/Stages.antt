-- Lemmas: what a part sends, in stages, is one net with what was there.
use Rattle.std.proofs.Common.{◌≡◌, ℕ, ◌+◌, ◌*◌, ◌≤◌, ◌==◌, List, [], ◌∷◌, ◌++◌, cond, length, map, refl, sym, ap, ◌∙◌, append-nil, arith}
use Rattle.std.specs.List.{flat_map}
use Rattle.std.specs.Prelude.{IsPermutation}
use Rattle.std.proofs.lemmas.List.{map-append}
use Rattle.std.proofs.lemmas.List.Sums.{sum_by-cons}
use Rattle.std.proofs.lemmas.List.Sorted.{IsPermutation-map, sum_by-IsPermutation}
use Rattle.ic_term.specs.Tree.{Pair, pair_names}
use Rattle.ic_term.specs.Configuration.{occurrences}
use Rattle.ic_round.specs.Naming.{HasNames}
use Rattle.ic_reaching.specs.OneNet.{OneNet}
use Rattle.ic_arena.specs.declared.word.Word.{Word}
use Rattle.ic_arena.specs.Word.{name_word}
use Rattle.ic_arena.specs.Piece.{Piece, waits}
use Rattle.ic_machine.specs.declared.equation.Equation.{Equation}
use Rattle.ic_flat.specs.declared.word.Word.{Word as FlatWord}
use Rattle.ic_flat.specs.Words.{word_names}
use Rattle.ic_machine.specs.Moving.{CutEnd, Side, Spells, end_word, sides_of, times}
use Rattle.ic_machine.specs.Net.{equated_of}
use Rattle.ic_machine.specs.Rooms.{pieces_in}
use Rattle.ic_meaning.specs.Words.{Numbers, AreNumbers}
use Rattle.ic_meaning.specs.Nets.{equations_of}
use Rattle.ic_readback.specs.lemmas.Orders.{flat_order}
use Rattle.ic_readback.specs.lemmas.RowNets.{pairs_in_order}
use Rattle.ic_workers.proofs.Given.{NetLaws}
use Rattle.ic_workers.proofs.Carried.{cut_number, side_equations, spelled_word, cuts_written, one_more_written, IsPartRoom, cuts_at, cuts_grow, written_names}
use Rattle.ic_workers.proofs.Parcels.{side_pieces, side_written, with_pieces, leaves, on_way, CutsFewIn, way_in_order}
use Rattle.ic_workers.proofs.Cuts.{cut_count, cut_occurs, cuts_of_both, no_cuts_in_room, cuts_of_side}
use Rattle.ic_workers.proofs.OnWay.{AreOnWay, packed_way, shipped_way, way_order}
use Rattle.ic_workers.proofs.Sending.{AreWhole, both_whole, spells_whole, packed_on, shipped_on, with_cuts}

-- Pieces and words became others. No cut occurs less often, words stay whole, and it is one net.
pub record Stage (n : Numbers) (is : List Word) (ps qs : List Piece) (before after : List Word) : Type 0 where
  pub grow : (c : ℕ) → cut_count n c ps + cuts_written n c before ≤ cut_count n c qs + cuts_written n c after
  pub way : AreOnWay n.arities is ps → AreOnWay n.arities is qs
  pub whole : AreWhole n before → AreWhole n after
  pub net : (top : ℕ) → AreWhole n before → AreOnWay n.arities is ps → CutsFewIn n is after qs → HasNames (on_way n is before ps top)
      → (more : ℕ) × OneNet (on_way n is before ps top) (on_way n is after qs more)

few_before : (n : Numbers) (is : List Word) (ps qs : List Piece) (before after : List Word)
    → ((c : ℕ) → cut_count n c ps + cuts_written n c before ≤ cut_count n c qs + cuts_written n c after)
    → CutsFewIn n is after qs → CutsFewIn n is before ps
few_before n is ps qs before after grow few c =
    let one = written_names (cut_number n c) (leaves n is) (map (spelled_word n) before) in
    let two = written_names (cut_number n c) (leaves n is) (map (spelled_word n) after) in
    let more = grow c in
    let most = few c in
    omega (arith, one, two, more, most)

pub stage_through : NetLaws → (n : Numbers) (is : List Word) (ps qs rs : List Piece) (us vs ws : List Word)
    → Stage n is ps qs us vs → Stage n is qs rs vs ws → Stage n is ps rs us ws
stage_through laws n is ps qs rs us vs ws first second = record {
  grow = λ c. let one = first.grow c in let two = second.grow c in omega (arith, one, two);
  way = λ are. second.way (first.way are);
  whole = λ whole. second.whole (first.whole whole);
  net = λ top whole are few named.
      let one = first.net top whole are (few_before n is qs rs vs ws second.grow few) named in
      let two = second.net one.0 (first.whole whole) (first.way are) few one.1.names_too in
      (two.0, laws.through (on_way n is us ps top) (on_way n is vs qs one.0) (on_way n is ws rs two.0) one.1 two.1);
}

pub stage_none : NetLaws → (n : Numbers) (is : List Word) (ps : List Piece) (us : List Word) → Stage n is ps ps us us
stage_none laws n is ps us = record {
  grow = λ c. omega arith;
  way = λ are. are;
  whole = λ whole. whole;
  net = λ top whole are few named. (top, laws.itself (on_way n is us ps top) named);
}

pub stage_order : NetLaws → (n : Numbers) (is : List Word) (ps qs : List Piece) (us : List Word) → IsPermutation ps qs → Stage n is ps qs us us
stage_order laws n is ps qs us moved = record {
  grow = λ c. let same = pairs_in_order (cut_number n c) (flat_map (equations_of n) ps) (flat_map (equations_of n) qs) (flat_order (equations_of n) ps qs moved) in
      omega (arith, same);
  way = way_order n.arities is ps qs moved;
  whole = λ whole. whole;
  net = λ top whole are few named. (top, way_in_order laws n is us ps qs top named moved);
}

-- how often a cut occurs in a side, in pieces and in equations
side_cuts : (n : Numbers) (k c : ℕ) (s : Side) → cuts_at n k c s ≡ cut_count n c (side_pieces n.arities k s)
side_cuts n k c s =
    ap (λ (l : List Pair). occurrences (cut_number n c) (flat_map pair_names l)) (append-nil (side_equations n k s) ∙ side_written n k s)

both_written : (n : Numbers) (c : ℕ) (us vs : List Word) → cuts_written n c (us ++ vs) ≡ cuts_written n c us + cuts_written n c vs
both_written n c us vs =
    ap (λ (l : List FlatWord). occurrences (cut_number n c) (flat_map word_names l)) (map-append (spelled_word n) us vs)
    ∙ written_names (cut_number n c) (map (spelled_word n) us) (map (spelled_word n) vs)

pub stage_packs : NetLaws → (n : Numbers) (j : ℕ) (is : List Word) (es : List Equation) (full a : Side) (rest : List Piece) (before more : List Word)
    → AreNumbers n → IsPartRoom j → Spells n.arities full a (sides_of es) more
    → Stage n is (with_pieces n.arities j es full rest) (side_pieces n.arities j a ++ rest) before (before ++ more)
stage_packs laws n j is es full a rest before more sound room packed = record {
  grow = λ c. let grow = cuts_grow n j c full a (sides_of es) more sound room packed in
      let one = cuts_of_both n c (pieces_in n.arities j (map equated_of es)) (side_pieces n.arities j full ++ rest) in
      let two = cuts_of_both n c (side_pieces n.arities j full) rest in
      let three = cuts_of_both n c (side_pieces n.arities j a) rest in
      let none = no_cuts_in_room n j c (map equated_of es) sound room in
      let full_is = side_cuts n j c full in
      let a_is = side_cuts n j c a in
      let both = both_written n c before more in
      omega (arith, grow, one, two, three, none, full_is, a_is, both);
  way = packed_way n.arities j is es full a rest more packed;
  whole = λ whole. both_whole n before more (length es) whole (let spelled = spells_whole n full a (sides_of es) more packed in (spelled.0, spelled.1 ∙ sides_long es));
  net = λ top whole are few named. (with_cuts n top more, packed_on laws n j top is before more es full a rest sound room packed whole few named);
}
  where
    sides_long : (es : List Equation) → length (sides_of es) ≡ 2 * length es
    sides_long [] = refl
    sides_long (e ∷ es) = let rest = sides_long es in omega (arith, rest)

pub stage_ships : NetLaws → (n : Numbers) (j : ℕ) (is : List Word) (e : CutEnd) (word : Word) (full mid a : Side) (rest : List Piece) (before more : List Word)
    → AreNumbers n → IsPartRoom j → IsPermutation full.places (waits (end_word e) word ∷ mid.places) → IsPermutation full.ends (e ∷ mid.ends)
    → Spells n.arities mid a (word ∷ []) more
    → Stage n is (side_pieces n.arities j full ++ rest) (side_pieces n.arities j a ++ rest) before (before ++ name_word e.cut ∷ more)
stage_ships laws n j is e word full mid a rest before more sound room taken ends spells = record {
  grow = λ c. let grow = cuts_grow n j c mid a (word ∷ []) more sound room spells in
      let two = cuts_of_both n c (side_pieces n.arities j full) rest in
      let three = cuts_of_both n c (side_pieces n.arities j a) rest in
      let full_is = cuts_of_side n j c full sound room in
      let mid_is = cuts_of_side n j c mid sound room in
      let mid_cuts = side_cuts n j c mid in
      let a_is = side_cuts n j c a in
      let cuts = end_times n c full mid e ends in
      let both = both_written n c before (name_word e.cut ∷ more) in
      let first = one_more_written n c (name_word e.cut) more in
      let one : occurrences (cut_number n c) (word_names (spelled_word n (name_word e.cut))) ≡ cond {A = ℕ} (e.cut == c) 1 0 = cut_occurs n c e.cut sound in
      omega (arith, grow, two, three, full_is, mid_is, mid_cuts, a_is, cuts, both, first, one);
  way = shipped_way n.arities j is e word full mid a rest more taken ends spells;
  whole = λ whole. both_whole n before (name_word e.cut ∷ more) 1 whole
      (let spelled = spells_whole n mid a (word ∷ []) more spells in let long = spelled.1 in ((omega arith, spelled.0), omega (arith, long)));
  net = λ top whole are few named.
      (with_cuts n top (name_word e.cut ∷ more), shipped_on laws n j top is before more e word full mid a rest sound room taken ends spells whole few named);
}
  where
    end_times : (n : Numbers) (c : ℕ) (full mid : Side) (e : CutEnd) → IsPermutation full.ends (e ∷ mid.ends)
        → times c (map (λ e. e.cut) full.ends) ≡ cond {A = ℕ} (e.cut == c) 1 0 + times c (map (λ e. e.cut) mid.ends)
    end_times n c full mid e ends =
        let f : ℕ → ℕ = λ m. cond {A = ℕ} (m == c) 1 0 in
        sym (sum_by-IsPermutation f (map (λ (e : CutEnd). e.cut) full.ends) (map (λ (e : CutEnd). e.cut) (e ∷ mid.ends)) (IsPermutation-map (λ (e : CutEnd). e.cut) full.ends (e ∷ mid.ends) ends))
        ∙ sum_by-cons f e.cut (map (λ (e : CutEnd). e.cut) mid.ends)
