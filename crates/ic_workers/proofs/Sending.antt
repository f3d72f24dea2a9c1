-- Lemmas: equations, and what waits for a cut, are packed after other ones.
use Rattle.std.proofs.Common.{◌≡◌, ℕ, ◌+◌, ◌*◌, ◌-◌, ◌≤◌, ◌==◌, List, [], ◌∷◌, ◌++◌, Bool, true, false, cond, Option, None, Some, length, map, take, drop, refl, sym, ap, ◌∙◌, append_assoc, append-nil, eq-eqb, arith, slice_get, subst as transport}
use Rattle.std.specs.List.{flat_map}
use Rattle.std.specs.Prelude.{IsPermutation}
use Rattle.std.specs.Option.{option_map_or}
use Rattle.std.proofs.lemmas.Bool.{ne_eqb}
use Rattle.std.proofs.lemmas.List.{length-map, length-append, length-drop, take_at, drop_at, map-append}
use Rattle.std.proofs.lemmas.List.Concat.{flat_map-append}
use Rattle.std.proofs.lemmas.List.Sorted.{IsPermutation-refl, IsPermutation-sym, IsPermutation-trans, IsPermutation-append_right, IsPermutation-cons, IsPermutation-middle}
use Rattle.ic_term.specs.Tree.{Tree, name, Pair, pair_names}
use Rattle.ic_term.specs.Configuration.{Configuration, occurrences, one_above}
use Rattle.ic_settle.specs.Settling.{subst, subst_pair}
use Rattle.ic_settle.specs.lemmas.SubstitutionLaws.{occurrences-append}
use Rattle.ic_round.specs.Naming.{HasNames}
use Rattle.ic_confluence.specs.Sameness.{turned}
use Rattle.ic_reaching.specs.OneNet.{OneNet}
use Rattle.ic_arena.specs.declared.word.Word.{Word}
use Rattle.ic_arena.specs.declared.word.TheConstants.{GIVEN}
use Rattle.ic_arena.specs.Word.{name_word}
use Rattle.ic_arena.specs.Piece.{Piece, waits}
use Rattle.ic_flat.specs.declared.word.Word.{Word as FlatWord}
use Rattle.ic_flat.specs.declared.word.Word.TheVariants.{Name as FlatName, Agent as FlatAgent}
use Rattle.ic_flat.specs.Words.{arguments, with_word}
use Rattle.ic_flat.specs.Flat.{pairs_of}
use Rattle.ic_machine.specs.declared.equation.Equation.{Equation}
use Rattle.ic_machine.specs.Moving.{CutEnd, Side, Spells, nothing, follow, opened, plain, cut, gone, end_word, sides_of, spelled_agent}
use Rattle.ic_machine.specs.Net.{equated_of}
use Rattle.ic_machine.specs.Rooms.{pieces_in}
use Rattle.ic_meaning.specs.Words.{Numbers, AreNumbers, term}
use Rattle.ic_meaning.specs.Nets.{equations_of}
use Rattle.ic_readback.specs.lemmas.Rows.{over, WholeOver, over-append, over-more, whole-append, pairs-more}
use Rattle.ic_readback.specs.lemmas.RowNets.{net_of_row}
use Rattle.ic_workers.proofs.Given.{NetLaws}
use Rattle.ic_workers.proofs.Rooms.{of_room}
use Rattle.ic_workers.proofs.Carried.{cut_number, cut_row, end_equation, end_taken, itself_occurs, no_cut_place, side_order, side_equations, plain_word, spelled_word, roots_net, IsPartRoom, CutsFew, spelled_plain, spelled_opened, carried_net}
use Rattle.ic_workers.proofs.Parcels.{with_pieces, side_pieces, leaves, leaves_written, pairs_written, sides_even, beside_is, cuts_below, on_way, CutsFewIn, higher}

-- ---- words that write whole terms

-- Words write so many pairs of whole terms.
pub record AreWhole (n : Numbers) (ts : List Word) : Type 0 where
  pub pairs : ℕ
  pub whole : WholeOver (map (spelled_word n) ts) []
  pub even : length (over (map (spelled_word n) ts) []) ≡ 2 * pairs

pub none_whole : (n : Numbers) → AreWhole n []
none_whole n = record { pairs = 0; whole = tt; even = refl }

-- a word without arguments writes one term more
one_written : (f : FlatWord) (us : List Tree) → arguments f ≡ 0 → length (with_word f us) ≡ 1 + length us
one_written (FlatName m) us none = omega arith
one_written (FlatAgent s a) us none = let rest = length-drop a us in omega (arith, rest, none)

plain_alone : (n : Numbers) (w : Word) → arguments (plain_word n w) ≡ 0
plain_alone n w = at (w.tag == GIVEN) (slice_get n.given w.index)
  where
    at : (b : Bool) (o : Option ℕ)
        → arguments (cond b (option_map_or FlatName o (FlatAgent (w.tag - 1) 0)) (FlatAgent (w.tag - 1) 0)) ≡ 0
    at true (Some x) = refl
    at true None = refl
    at false o = refl

-- what is spelled is as many whole terms as there were roots
pub spells_whole : (n : Numbers) (full rest : Side) (ws ts : List Word) → Spells n.arities full rest ws ts
    → WholeOver (map (spelled_word n) ts) [] × (length (over (map (spelled_word n) ts) []) ≡ length ws)
spells_whole n full rest ws ts (nothing a b places ends) = (tt, refl)
spells_whole n full rest ws ts (follow a mid b x u vs us tag places ends more) = spells_whole n mid b (u ∷ vs) us more
spells_whole n full rest ws ts (opened a mid b g vs us xs is places ends more) =
    let later = spells_whole n mid b (vs ++ us) xs more in
    let f : FlatWord = spelled_word n (spelled_agent g) in
    let us_written : List Tree = over (map (spelled_word n) xs) [] in
    let arity : arguments f ≡ length vs = ap arguments (spelled_opened n g (length vs) is) in
    let both = length-append vs us in
    let counted = later.1 in
    let there : arguments f ≤ length us_written = omega (arith, arity, both, counted) in
    let same : with_word f us_written ≡ with_word (FlatAgent (g.tag - 1) (length vs)) us_written = ap (λ (h : FlatWord). with_word h us_written) (spelled_opened n g (length vs) is) in
    let left = length-drop (length vs) us_written in
    ((there, later.0), ap (length {A = Tree}) same ∙ omega (arith, left, both, counted))
spells_whole n full rest ws ts (plain a b w vs us is more) =
    let later = spells_whole n a b vs us more in
    let alone : arguments (spelled_word n w) ≡ 0 = ap arguments (spelled_plain n w is) ∙ plain_alone n w in
    let counted = later.1 in
    let one = one_written (spelled_word n w) (over (map (spelled_word n) us) []) alone in
    ((omega (arith, alone), later.0), omega (arith, one, counted))
spells_whole n full rest ws ts (cut a mid b e vs us places ends more) =
    let later = spells_whole n mid b vs us more in
    let counted = later.1 in
    ((omega arith, later.0), omega (arith, counted))
spells_whole n full rest ws ts (gone a mid b e vs us places ends more) =
    let later = spells_whole n mid b vs us more in
    let counted = later.1 in
    ((omega arith, later.0), omega (arith, counted))

-- whole terms stay so where others come after
whole_more : (ws : List FlatWord) (us : List Tree) → WholeOver ws [] → WholeOver ws us
whole_more [] us whole = tt
whole_more (w ∷ ws) us whole = (
  let long = ap (length {A = Tree}) (over-more ws [] us whole.1) ∙ length-append (over ws []) us in
      let there = whole.0 in
      let h : arguments w ≤ length (over ws us) = omega (arith, long, there) in
      h,
  whole_more ws us whole.1,
)

pub both_whole : (n : Numbers) (before more : List Word) (pairs : ℕ) → AreWhole n before
    → WholeOver (map (spelled_word n) more) [] × (length (over (map (spelled_word n) more) []) ≡ 2 * pairs) → AreWhole n (before ++ more)
both_whole n before more pairs first last =
    let vs : List FlatWord = map (spelled_word n) before in
    let ws : List FlatWord = map (spelled_word n) more in
    let same : map (spelled_word n) (before ++ more) ≡ vs ++ ws = map-append (spelled_word n) before more in
    let us : List Tree = over ws [] in
    let joined : over (vs ++ ws) [] ≡ over vs [] ++ us = over-append vs ws [] ∙ over-more vs [] us first.whole in
    let counted = ap (length {A = Tree}) joined ∙ length-append (over vs []) us in
    let one = first.even in
    let two = last.1 in
    record {
      pairs = first.pairs + pairs;
      whole = transport (λ (l : List FlatWord). WholeOver l []) (sym same) (whole-append vs ws [] (whole_more vs us first.whole) last.0);
      even = ap (λ (l : List FlatWord). length (over l [])) same ∙ omega (arith, counted, one, two);
    }

-- ---- a row after words

-- words of the interface, and words on their way
abbrev pub written : Numbers → List Word → List Word → List FlatWord
written n is ts = leaves n is ++ map (spelled_word n) ts

written_is : (n : Numbers) (is ts : List Word) (us : List Tree) → WholeOver (map (spelled_word n) ts) []
    → over (written n is ts) us ≡ map (term n) is ++ (over (map (spelled_word n) ts) [] ++ us)
written_is n is ts us whole =
    over-append (leaves n is) (map (spelled_word n) ts) us
    ∙ (ap (over (leaves n is)) (over-more (map (spelled_word n) ts) [] us whole)
    ∙ leaves_written n is (over (map (spelled_word n) ts) [] ++ us))

-- Terms that are written after whole ones are equations, two by two.
row_after : (n : Numbers) (is ts : List Word) (us : List Tree) (es : List Pair) (next : ℕ) → AreWhole n ts
    → net_of_row (length is) (over (written n is ts) us) es next ≡ net_of_row (length is) (over (written n is ts) []) (pairs_of us ++ es) next
row_after n is ts us es next whole =
    let done : List Tree = over (map (spelled_word n) ts) [] in
    let row : List Tree = over (written n is ts) us in
    let alone : List Tree = over (written n is ts) [] in
    let long = length-map is (term n) in
    let row_same = written_is n is ts us whole.whole in
    let alone_same = written_is n is ts [] whole.whole ∙ ap (λ (l : List Tree). map (term n) is ++ l) (append-nil done) in
    let first : take (length is) row ≡ take (length is) alone =
    ap (take (length is)) row_same ∙ (take_at (map (term n) is) (done ++ us) (length is) long
    ∙ sym (ap (take (length is)) alone_same ∙ take_at (map (term n) is) done (length is) long)) in
    let last : drop (length is) row ≡ done ++ us = ap (drop (length is)) row_same ∙ drop_at (map (term n) is) (done ++ us) (length is) long in
    let last_alone : drop (length is) alone ≡ done = ap (drop (length is)) alone_same ∙ drop_at (map (term n) is) done (length is) long in
    let pairs : pairs_of (drop (length is) row) ≡ pairs_of (drop (length is) alone) ++ pairs_of us =
    ap pairs_of last ∙ (pairs-more done us whole.pairs whole.even ∙ ap (λ (l : List Tree). pairs_of l ++ pairs_of us) (sym last_alone)) in
    let all : pairs_of (drop (length is) row) ++ es ≡ pairs_of (drop (length is) alone) ++ (pairs_of us ++ es) =
    ap (λ (l : List Pair). l ++ es) pairs ∙ append_assoc (pairs_of (drop (length is) alone)) (pairs_of us) es in
    λ i. record { interface = first i; equations = all i; next = next }

row_on : (n : Numbers) (k next : ℕ) (is ts : List Word) (es : List Equation) (s : Side) (rest : List Piece) → AreWhole n ts
    → roots_net n k (length is) (written n is ts) (sides_of es) (side_equations n k s ++ flat_map (equations_of n) rest) next
    ≡ on_way n is ts (with_pieces n.arities k es s rest) next
row_on n k next is ts es s rest whole =
    let f : Piece → List Pair = equations_of n in
    let sides : List Tree = map (term (of_room k n)) (sides_of es) in
    let beside : side_equations n k s ++ flat_map f rest ≡ flat_map f (side_pieces n.arities k s ++ rest) = sym (beside_is n k s rest) in
    let all : pairs_of sides ++ (side_equations n k s ++ flat_map f rest) ≡ flat_map f (with_pieces n.arities k es s rest) =
    (λ i. pairs_written n k es i ++ beside i) ∙ sym (flat_map-append f (pieces_in n.arities k (map equated_of es)) (side_pieces n.arities k s ++ rest)) in
    row_after n is ts sides (side_equations n k s ++ flat_map f rest) next whole
    ∙ ap (λ (l : List Pair). net_of_row (length is) (over (written n is ts) []) l next) all

pub after_even : (n : Numbers) (is ts : List Word) (us : List Tree) → (whole : AreWhole n ts)
    → length (over (written n is ts) us) ≡ length is + (2 * whole.pairs + length us)
after_even n is ts us whole =
    let done : List Tree = over (map (spelled_word n) ts) [] in
    let a = ap (length {A = Tree}) (written_is n is ts us whole.whole) ∙ length-append (map (term n) is) (done ++ us) in
    let b = length-append done us in
    let c = length-map is (term n) in
    let e = whole.even in
    omega (arith, a, b, c, e)

row_on_even : (n : Numbers) (k : ℕ) (is ts : List Word) (es : List Equation) → (whole : AreWhole n ts)
    → length (over (written n is ts) (map (term (of_room k n)) (sides_of es))) ≡ length is + 2 * (whole.pairs + length es)
row_on_even n k is ts es whole =
    let a = after_even n is ts (map (term (of_room k n)) (sides_of es)) whole in
    let d = sides_even n k es in
    omega (arith, a, d)

-- above the cuts that words spell, too
abbrev pub with_cuts : Numbers → ℕ → List Word → ℕ
with_cuts n top ts = top + one_above (map (λ (t : Word). cut_number n t.index) ts)

-- Equations of a part are packed after other words.
pub packed_on : NetLaws → (n : Numbers) (j top : ℕ) (is before more : List Word) (es : List Equation) (full a : Side) (rest : List Piece)
    → AreNumbers n → IsPartRoom j → Spells n.arities full a (sides_of es) more → AreWhole n before
    → CutsFewIn n is (before ++ more) (side_pieces n.arities j a ++ rest)
    → HasNames (on_way n is before (with_pieces n.arities j es full rest) top)
    → OneNet (on_way n is before (with_pieces n.arities j es full rest) top)
    (on_way n is (before ++ more) (side_pieces n.arities j a ++ rest) (with_cuts n top more))
packed_on laws n j top is before more es full a rest sound room packed whole few named =
    let others : List Pair = flat_map (equations_of n) rest in
    let high : ℕ = with_cuts n top more in
    let c : Configuration = on_way n is before (with_pieces n.arities j es full rest) top in
    let c_high : Configuration = on_way n is before (with_pieces n.arities j es full rest) high in
    let row : Configuration = roots_net n j (length is) (written n is before) (sides_of es) (side_equations n j full ++ others) high in
    let vs : List FlatWord = written n is before ++ map (spelled_word n) more in
    let joined : vs ≡ written n is (before ++ more) =
    append_assoc (leaves n is) (map (spelled_word n) before) (map (spelled_word n) more)
    ∙ ap (λ (l : List FlatWord). leaves n is ++ l) (sym (map-append (spelled_word n) before more)) in
    let beside = beside_is n j a rest in
    let row_same : row ≡ c_high = row_on n j high is before es full rest whole in
    let first : OneNet c row = transport (OneNet c) (sym row_same) (laws.next c high named (higher c high (omega arith) named)) in
    let few_row : CutsFew n vs (side_equations n j a ++ others) =
    transport (λ (l : List FlatWord). CutsFew n l (side_equations n j a ++ others)) (sym joined) (transport (CutsFew n (written n is (before ++ more))) beside few) in
    let second =
    carried_net laws n j (length is) (whole.pairs + length es) high others (written n is before) full a (sides_of es) more sound room packed
    (row_on_even n j is before es whole) (cuts_below n high more (omega arith)) few_row first.names_too in
    let sent : Configuration = on_way n is (before ++ more) (side_pieces n.arities j a ++ rest) high in
    let end_same : roots_net n j (length is) vs [] (side_equations n j a ++ others) high ≡ sent =
    (λ i. net_of_row (length is) (over (joined i) []) (sym beside i) high) in
    laws.through c row sent first (transport (OneNet row) end_same second)

-- The equation of a cut with the word that waits for it goes out: the cut is written, and what hangs below the word after it.
pub shipped_on : NetLaws → (n : Numbers) (j top : ℕ) (is before more : List Word) (e : CutEnd) (word : Word) (full mid a : Side) (rest : List Piece)
    → AreNumbers n → IsPartRoom j
    → IsPermutation full.places (waits (end_word e) word ∷ mid.places) → IsPermutation full.ends (e ∷ mid.ends)
    → Spells n.arities mid a (word ∷ []) more → AreWhole n before
    → CutsFewIn n is (before ++ name_word e.cut ∷ more) (side_pieces n.arities j a ++ rest)
    → HasNames (on_way n is before (side_pieces n.arities j full ++ rest) top)
    → OneNet (on_way n is before (side_pieces n.arities j full ++ rest) top)
    (on_way n is (before ++ name_word e.cut ∷ more) (side_pieces n.arities j a ++ rest) (with_cuts n top (name_word e.cut ∷ more)))
shipped_on laws n j top is before more e word full mid a rest sound room taken ends spells whole few named =
    let others : List Pair = flat_map (equations_of n) rest in
    let high : ℕ = with_cuts n top (name_word e.cut ∷ more) in
    let t : Tree = term (of_room j n) word in
    let x : ℕ = (of_room j n).of_place (end_word e) in
    let c : ℕ = cut_number n e.cut in
    let f : FlatWord = spelled_word n (name_word e.cut) in
    let vs : List FlatWord = written n is before in
    let ps : List Pair = pairs_of (drop (length is) (over vs [])) in
    let es : List Pair = side_equations n j mid ++ others in
    let waiting : Pair = record { left = name x; right = t } in
    let end : Pair = end_equation n j e in
    let met : Pair = record { left = t; right = name c } in
    let start : Configuration = on_way n is before (side_pieces n.arities j full ++ rest) top in
    let start_high : Configuration = on_way n is before (side_pieces n.arities j full ++ rest) high in
    let first : OneNet start start_high = laws.next start high named (higher start high (omega arith) named) in
    let both : Side = record { places = waits (end_word e) word ∷ mid.places; ends = e ∷ mid.ends } in
    let one : Side = record { places = mid.places; ends = e ∷ mid.ends } in
    let sides : IsPermutation (side_equations n j full ++ others) (waiting ∷ (end ∷ es)) =
    IsPermutation-trans (side_equations n j full ++ others) (waiting ∷ (side_equations n j one ++ others)) (waiting ∷ (end ∷ es))
    (side_order n j full both others taken ends)
    (IsPermutation-cons waiting (side_equations n j one ++ others) (end ∷ es)
    (end_taken n j one mid e others (IsPermutation-refl mid.places) (IsPermutation-refl (e ∷ mid.ends)))) in
    let beside = beside_is n j full rest in
    let moved : IsPermutation start_high.equations (waiting ∷ (end ∷ (ps ++ es))) =
    transport (λ (l : List Pair). IsPermutation (ps ++ l) (waiting ∷ (end ∷ (ps ++ es)))) (sym beside)
    (IsPermutation-trans (ps ++ (side_equations n j full ++ others)) (ps ++ (waiting ∷ (end ∷ es))) (waiting ∷ (end ∷ (ps ++ es)))
    (IsPermutation-append_right ps (side_equations n j full ++ others) (waiting ∷ (end ∷ es)) sides)
    (IsPermutation-trans (ps ++ (waiting ∷ (end ∷ es))) (waiting ∷ (ps ++ (end ∷ es))) (waiting ∷ (end ∷ (ps ++ es)))
    (IsPermutation-middle ps waiting (end ∷ es))
    (IsPermutation-cons waiting (ps ++ (end ∷ es)) (end ∷ (ps ++ es)) (IsPermutation-middle ps end es)))) in
    let itself : subst x t (name x) ≡ t = ap (λ (b : Bool). cond b t (name x)) (eq-eqb x x refl) in
    let other : subst x t (name c) ≡ name c =
    ap (λ (b : Bool). cond b t (name c)) (ne_eqb c x (λ same. no_cut_place n j e.cut (end_word e) sound room refl (sym same))) in
    let put : subst_pair x t end ≡ met = (λ i. record { left = itself i; right = other i }) in
    let there : 1 ≤ occurrences x (pair_names end) =
    (let all = occurrences-append x (x ∷ []) (c ∷ []) in let here = itself_occurs x in omega (arith, all, here)) in
    let second : OneNet start_high (record start_high { equations = met ∷ (ps ++ es) }) =
    transport (λ (p : Pair). OneNet start_high (record start_high { equations = p ∷ (ps ++ es) })) put
    (laws.in_one start_high x t end (ps ++ es) first.names_too moved there) in
    let with_met : Configuration = record start_high { equations = met ∷ (ps ++ es) } in
    let with_turned : Configuration = record start_high { equations = turned met ∷ (ps ++ es) } in
    let third : OneNet with_met with_turned = laws.turned with_met met (ps ++ es) second.names_too (IsPermutation-refl (met ∷ (ps ++ es))) in
    let ordered : Configuration = net_of_row (length is) (over vs []) (turned met ∷ es) high in
    let fourth : OneNet with_turned ordered =
    laws.order with_turned (ps ++ (turned met ∷ es)) third.names_too (IsPermutation-sym (ps ++ (turned met ∷ es)) (turned met ∷ (ps ++ es)) (IsPermutation-middle ps (turned met) es)) in
    let row : Configuration = roots_net n j (length is) (vs ++ f ∷ []) (word ∷ []) es high in
    let row_same : row ≡ ordered =
    ap (λ (l : List Tree). net_of_row (length is) l es high) (cut_row n e.cut vs (t ∷ []))
    ∙ row_after n is before (name c ∷ t ∷ []) es high whole in
    let to_row : OneNet start row =
    laws.through start start_high row first
    (laws.through start_high with_met row second
    (laws.through with_met with_turned row third (transport (OneNet with_turned) (sym row_same) fourth))) in
    let all : List FlatWord = (vs ++ f ∷ []) ++ map (spelled_word n) more in
    let joined : all ≡ written n is (before ++ name_word e.cut ∷ more) =
    append_assoc vs (f ∷ []) (map (spelled_word n) more)
    ∙ (append_assoc (leaves n is) (map (spelled_word n) before) (f ∷ map (spelled_word n) more)
    ∙ ap (λ (l : List FlatWord). leaves n is ++ l) (sym (map-append (spelled_word n) before (name_word e.cut ∷ more)))) in
    let beyond = beside_is n j a rest in
    let even : length (over (vs ++ f ∷ []) (t ∷ [])) ≡ length is + 2 * (whole.pairs + 1) =
    (let long = ap (length {A = Tree}) (cut_row n e.cut vs (t ∷ [])) ∙ after_even n is before (name c ∷ t ∷ []) whole in omega (arith, long)) in
    let few_row : CutsFew n all (side_equations n j a ++ others) =
    transport (λ (l : List FlatWord). CutsFew n l (side_equations n j a ++ others)) (sym joined)
    (transport (CutsFew n (written n is (before ++ name_word e.cut ∷ more))) beyond few) in
    let last =
    carried_net laws n j (length is) (whole.pairs + 1) high others (vs ++ f ∷ []) mid a (word ∷ []) more sound room spells even
    (cuts_below n high more (omega arith)) few_row to_row.names_too in
    let sent : Configuration = on_way n is (before ++ name_word e.cut ∷ more) (side_pieces n.arities j a ++ rest) high in
    let end_same : roots_net n j (length is) all [] (side_equations n j a ++ others) high ≡ sent =
    (λ i. net_of_row (length is) (over (joined i) []) (sym beyond i) high) in
    laws.through start row sent to_row (transport (OneNet row) end_same last)
