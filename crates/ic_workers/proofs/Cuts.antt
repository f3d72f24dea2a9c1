-- Lemmas: how often a cut occurs in words and pieces.
use Rattle.std.proofs.Common.{◌≡◌, ℕ, ◌+◌, ◌*◌, ◌-◌, ◌≤◌, ◌==◌, ◌&&◌, List, [], ◌∷◌, ◌++◌, Bool, true, false, cond, Option, None, Some, map, refl, sym, ap, ◌∙◌, arith, slice_get, slice_index_or, sum_by}
use Rattle.std.specs.List.{flat_map}
use Rattle.std.specs.Cmp.{unsigned_Decides}
use Rattle.std.specs.Option.{option_map_or}
use Rattle.std.proofs.lemmas.List.Concat.{flat_map-append}
use Rattle.std.proofs.lemmas.List.Sums.{sum_by-cons}
use Rattle.ic_term.specs.Tree.{Pair, pair_names}
use Rattle.ic_term.specs.Configuration.{occurrences}
use Rattle.ic_settle.specs.lemmas.SubstitutionLaws.{occurrences-append}
use Rattle.ic_arena.specs.declared.word.Word.{Word}
use Rattle.ic_arena.specs.declared.word.TheConstants.{NAME, GIVEN}
use Rattle.ic_arena.specs.Word.{name_word, word_eq, count}
use Rattle.ic_arena.specs.Piece.{Piece, equated, idle, waits, agent_of, uses}
use Rattle.ic_flat.specs.declared.word.Word.{Word as FlatWord}
use Rattle.ic_flat.specs.declared.word.Word.TheVariants.{Name as FlatName, Agent as FlatAgent}
use Rattle.ic_flat.specs.Words.{word_names}
use Rattle.ic_machine.specs.Moving.{CutEnd, Side, spells_cut, times}
use Rattle.ic_machine.specs.Rooms.{ROOMS, in_room, piece_in, pieces_in}
use Rattle.ic_machine.specs.Separate.{is_constant_tag}
use Rattle.ic_machine.specs.lemmas.InRooms.{apart_in_rooms}
use Rattle.ic_meaning.specs.Words.{Numbers, AreNumbers}
use Rattle.ic_meaning.specs.Nets.{equations_of, holds}
use Rattle.ic_workers.specs.Parts.{cut_word, end_piece}
use Rattle.ic_workers.proofs.Balanced.{first_count}
use Rattle.ic_workers.proofs.Carried.{cut_number, spelled_word, IsPartRoom, both_names, written_names, other_occurs, itself_occurs, end_names, end_equation, cuts_written, one_more_written}
use Rattle.ic_workers.proofs.Back.{no_terms, no_pieces}
use Rattle.ic_workers.proofs.Parcels.{side_pieces, leaves, leaves_names, CutsFewIn}

true_false : true ≡ false → ⊥
true_false e = cc

-- ---- words of parts are no cuts

cut_apart : (arities : List ℕ) (k c : ℕ) (u : Word) → IsPartRoom k → word_eq (cut_word c) (in_room arities k u) ≡ false
cut_apart arities k c u part = apart_in_rooms arities 0 k (name_word c) u (omega arith) part.0 (λ e. part.1 (sym e)) refl

no_cut : (arities : List ℕ) (k c : ℕ) (u : Word) → IsPartRoom k → cond {A = ℕ} (word_eq (cut_word c) (in_room arities k u)) 1 0 ≡ 0
no_cut arities k c u part = ap (λ (b : Bool). cond {A = ℕ} b 1 0) (cut_apart arities k c u part)

pub no_cut_words : (arities : List ℕ) (k c : ℕ) (us : List Word) → IsPartRoom k → count (cut_word c) (map (in_room arities k) us) ≡ 0
no_cut_words arities k c [] part = refl
no_cut_words arities k c (u ∷ us) part =
    let parts = first_count (cut_word c) (in_room arities k u) (map (in_room arities k) us) in
    let here = no_cut arities k c u part in
    let rest = no_cut_words arities k c us part in
    omega (arith, parts, here, rest)

no_cut_uses : (arities : List ℕ) (k c : ℕ) (p : Piece) → IsPartRoom k → uses (cut_word c) (piece_in arities k p) ≡ 0
no_cut_uses arities k c (equated l r) part = no_cut_words arities k c (l ∷ r ∷ []) part
no_cut_uses arities k c (idle x) part = refl
no_cut_uses arities k c (waits x u) part = no_cut_words arities k c (u ∷ []) part
no_cut_uses arities k c (agent_of a us) part = no_cut_words arities k c us part

no_cut_holds : (arities : List ℕ) (k c : ℕ) (p : Piece) → IsPartRoom k → holds (cut_word c) (piece_in arities k p) ≡ 0
no_cut_holds arities k c (equated l r) part = refl
no_cut_holds arities k c (idle x) part = no_cut arities k c x part
no_cut_holds arities k c (waits x u) part = no_cut arities k c x part
no_cut_holds arities k c (agent_of a us) part = no_cut arities k c a part

pub all_no_cut_uses : (arities : List ℕ) (k c : ℕ) (ps : List Piece) → IsPartRoom k → sum_by (uses (cut_word c)) (pieces_in arities k ps) ≡ 0
all_no_cut_uses arities k c [] part = refl
all_no_cut_uses arities k c (p ∷ ps) part =
    let parts = sum_by-cons (uses (cut_word c)) (piece_in arities k p) (pieces_in arities k ps) in
    let here = no_cut_uses arities k c p part in
    let rest = all_no_cut_uses arities k c ps part in
    omega (arith, parts, here, rest)

pub all_no_cut_holds : (arities : List ℕ) (k c : ℕ) (ps : List Piece) → IsPartRoom k → sum_by (holds (cut_word c)) (pieces_in arities k ps) ≡ 0
all_no_cut_holds arities k c [] part = refl
all_no_cut_holds arities k c (p ∷ ps) part =
    let parts = sum_by-cons (holds (cut_word c)) (piece_in arities k p) (pieces_in arities k ps) in
    let here = no_cut_holds arities k c p part in
    let rest = all_no_cut_holds arities k c ps part in
    omega (arith, parts, here, rest)

-- ---- how often a cut occurs in pieces

abbrev pub cut_count : Numbers → ℕ → List Piece → ℕ
cut_count n c ps = occurrences (cut_number n c) (flat_map pair_names (flat_map (equations_of n) ps))

pub cuts_of_both : (n : Numbers) (c : ℕ) (ps qs : List Piece) → cut_count n c (ps ++ qs) ≡ cut_count n c ps + cut_count n c qs
cuts_of_both n c ps qs =
    ap (λ (l : List Pair). occurrences (cut_number n c) (flat_map pair_names l)) (flat_map-append (equations_of n) ps qs)
    ∙ both_names (cut_number n c) (flat_map (equations_of n) ps) (flat_map (equations_of n) qs)

pub no_cuts_in_room : (n : Numbers) (k c : ℕ) (ps : List Piece) → AreNumbers n → IsPartRoom k → cut_count n c (pieces_in n.arities k ps) ≡ 0
no_cuts_in_room n k c ps sound part =
    no_pieces n (cut_word c) (pieces_in n.arities k ps) sound (all_no_cut_uses n.arities k c ps part) (all_no_cut_holds n.arities k c ps part)

-- cuts of other numbers have other names
pub cut_occurs : (n : Numbers) (c d : ℕ) → AreNumbers n → occurrences (cut_number n c) (cut_number n d ∷ []) ≡ cond {A = ℕ} (d == c) 1 0
cut_occurs n c d sound = at (d == c) refl
  where
    at : (b : Bool) → (d == c) ≡ b → occurrences (cut_number n c) (cut_number n d ∷ []) ≡ cond {A = ℕ} b 1 0
    at true e = ap (λ (z : ℕ). occurrences (cut_number n c) (cut_number n z ∷ [])) ((unsigned_Decides d c).0 e) ∙ itself_occurs (cut_number n c)
    at false e = other_occurs (cut_number n d) (cut_number n c) (λ same.
        let is : word_eq (cut_word d) (cut_word c) ≡ true = sound.apart (cut_word d) (cut_word c) same in
        let index : d * ROOMS + 0 ≡ c * ROOMS + 0 = (unsigned_Decides (d * ROOMS + 0) (c * ROOMS + 0)).0 is in
        true_false (sym ((unsigned_Decides d c).1 (omega (arith, index))) ∙ e))

pub cuts_of_ends : (n : Numbers) (k c : ℕ) (es : List CutEnd) → AreNumbers n → IsPartRoom k
    → cut_count n c (map (end_piece n.arities k) es) ≡ times c (map (λ e. e.cut) es)
cuts_of_ends n k c [] sound part = refl
cuts_of_ends n k c (e ∷ es) sound part =
    let first : cut_count n c (map (end_piece n.arities k) (e ∷ es))
    ≡ occurrences (cut_number n c) (pair_names (end_equation n k e)) + cut_count n c (map (end_piece n.arities k) es) =
    occurrences-append (cut_number n c) (pair_names (end_equation n k e)) (flat_map pair_names (flat_map (equations_of n) (map (end_piece n.arities k) es))) in
    let here = end_names n k c e sound part in
    let one = cut_occurs n c e.cut sound in
    let rest = cuts_of_ends n k c es sound part in
    let all = sum_by-cons (λ (m : ℕ). cond {A = ℕ} (m == c) 1 0) e.cut (map (λ (f : CutEnd). f.cut) es) in
    omega (arith, first, here, one, rest, all)

pub cuts_of_side : (n : Numbers) (k c : ℕ) (s : Side) → AreNumbers n → IsPartRoom k
    → cut_count n c (side_pieces n.arities k s) ≡ times c (map (λ e. e.cut) s.ends)
cuts_of_side n k c s sound part =
    let both = cuts_of_both n c (pieces_in n.arities k s.places) (map (end_piece n.arities k) s.ends) in
    let none = no_cuts_in_room n k c s.places sound part in
    let ends = cuts_of_ends n k c s.ends sound part in
    omega (arith, both, none, ends)

-- ---- how often words spell a cut

spelled_occurs : (n : Numbers) (c : ℕ) (t : Word) → AreNumbers n
    → occurrences (cut_number n c) (word_names (spelled_word n t)) ≡ cond {A = ℕ} (t.tag == NAME && t.index == c) 1 0
spelled_occurs n c t sound = at (t.tag == NAME) (is_constant_tag n.arities t.tag) (t.tag == GIVEN) (slice_get n.given t.index) refl
  where
    x : ℕ
    x = cut_number n c

    f : FlatWord
    f = FlatAgent (t.tag - 1) 0

    at : (a b g : Bool) (o : Option ℕ) → slice_get n.given t.index ≡ o
        → occurrences x (word_names (cond a (FlatName (cut_number n t.index))
        (cond b (cond g (option_map_or FlatName o f) f) (FlatAgent (t.tag - 1) (slice_index_or n.arities (t.tag - 1) 0)))))
        ≡ cond {A = ℕ} (a && t.index == c) 1 0
    at true b g o e = cut_occurs n c t.index sound
    at false true true (Some y) e = other_occurs y x (λ same. sound.not_given t.index y (cut_word c) e (sym same))
    at false true true None e = refl
    at false true false o e = refl
    at false false g o e = refl

pub cuts_spelled : (n : Numbers) (c : ℕ) (ts : List Word) → AreNumbers n → cuts_written n c ts ≡ spells_cut c ts
cuts_spelled n c [] sound = refl
cuts_spelled n c (t ∷ ts) sound =
    let first = one_more_written n c t ts in
    let here = spelled_occurs n c t sound in
    let rest = cuts_spelled n c ts sound in
    let all = sum_by-cons (λ (w : Word). cond {A = ℕ} (w.tag == NAME && w.index == c) 1 0) t ts in
    omega (arith, first, here, rest, all)

-- Where a cut has two ends at most, or is spelled in their place, its name occurs twice at most.
pub few_from_ends : (n : Numbers) (is ts : List Word) (ps : List Piece) → AreNumbers n
    → ((c : ℕ) → count (cut_word c) is ≡ 0) → ((c : ℕ) → cut_count n c ps + spells_cut c ts ≤ 2)
    → CutsFewIn n is ts ps
few_from_ends n is ts ps sound none few c =
    let both = written_names (cut_number n c) (leaves n is) (map (spelled_word n) ts) in
    let interface = leaves_names n (cut_number n c) is in
    let empty = no_terms n (cut_word c) is sound (none c) in
    let spelled = cuts_spelled n c ts sound in
    let most = few c in
    omega (arith, both, interface, empty, spelled, most)
