-- Lemmas: what words carry from one side to the other is one net: one root after another gives way to what it spells.
use Rattle.std.proofs.Common.{◌≡◌, ◌⊎◌, inl, inr, ℕ, suc, ◌+◌, ◌*◌, ◌-◌, ◌≤◌, ◌<◌, ◌==◌, List, [], ◌∷◌, ◌++◌, Bool, true, false, cond, Option, None, Some, length, map, drop, refl, sym, ap, ◌∙◌, append_assoc, append-nil, add-one, arith, slice_get, slice_index_or, subst as transport}
use Rattle.std.specs.List.{flat_map, AllByRecursion}
use Rattle.std.specs.Prelude.{IsPermutation}
use Rattle.std.specs.Cmp.{unsigned_Decides}
use Rattle.std.specs.Option.{option_map_or}
use Rattle.std.proofs.lemmas.Bool.{cases_lt, ne_eqb}
use Rattle.std.proofs.lemmas.List.{length-map, map-append}
use Rattle.std.proofs.lemmas.List.Concat.{flat_map-append}
use Rattle.std.proofs.lemmas.List.Sorted.{IsPermutation-refl, IsPermutation-sym, IsPermutation-trans, IsPermutation-append, IsPermutation-append_left, IsPermutation-append_right, IsPermutation-map, IsPermutation-middle}
use Rattle.std.proofs.lemmas.Option.{get_or_from_slice_get}
use Rattle.ic_term.specs.Tree.{Tree, name, agent, no_trees, names, trees_of, Pair, pair_names}
use Rattle.ic_term.specs.Configuration.{Configuration, configuration_names, occurrences}
use Rattle.ic_settle.specs.lemmas.SubstitutionLaws.{occurrences-append, occurrences-cons}
use Rattle.ic_round.specs.Naming.{HasNames}
use Rattle.ic_round.specs.lemmas.FreshNames.{absent_above}
use Rattle.ic_confluence.specs.Sameness.{turned}
use Rattle.ic_reaching.specs.OneNet.{OneNet}
use Rattle.ic_arena.specs.declared.word.Word.{Word}
use Rattle.ic_arena.specs.declared.word.TheConstants.{NAME, GIVEN}
use Rattle.ic_arena.specs.Word.{name_word}
use Rattle.ic_arena.specs.Piece.{Piece, idle, waits, agent_of}
use Rattle.ic_flat.specs.declared.word.Word.{Word as FlatWord}
use Rattle.ic_flat.specs.declared.word.Word.TheVariants.{Name as FlatName, Agent as FlatAgent}
use Rattle.ic_flat.specs.Words.{with_word, word_names}
use Rattle.ic_flat.specs.Flat.{pairs_of}
use Rattle.ic_machine.specs.Held.{IsTagOf}
use Rattle.ic_machine.specs.Moving.{CutEnd, Side, Spells, nothing, follow, opened, plain, cut, gone, end_word, spelled_agent}
use Rattle.ic_machine.specs.Rooms.{ROOMS, in_room}
use Rattle.ic_machine.specs.Separate.{is_constant_tag}
use Rattle.ic_machine.specs.lemmas.InRooms.{apart_in_rooms}
use Rattle.ic_meaning.specs.Words.{Numbers, AreNumbers, constant, term}
use Rattle.ic_meaning.specs.Nets.{equations_of}
use Rattle.ic_readback.specs.lemmas.Orders.{flat_order}
use Rattle.ic_readback.specs.lemmas.Rows.{over, over-append, over-agent, over-names, names_of-trees, length-over}
use Rattle.ic_readback.specs.lemmas.RowNets.{net_of_row, row_names, pairs_in_order, put_row}
use Rattle.ic_workers.specs.Parts.{cut_word}
use Rattle.ic_workers.proofs.Given.{NetLaws, row_laws}
use Rattle.ic_workers.proofs.Rooms.{of_room}

-- ---- what words and sides say

-- the number of a cut's name
abbrev pub cut_number : Numbers → ℕ → ℕ
cut_number n c = n.of_place (cut_word c)

-- the equation of a part's name with the cut
abbrev pub end_equation : Numbers → ℕ → CutEnd → Pair
end_equation n k e = record { left = name ((of_room k n).of_place (end_word e)); right = name (cut_number n e.cut) }

-- what a side says, in the room of its part
abbrev pub side_equations : Numbers → ℕ → Side → List Pair
side_equations n k s = flat_map (equations_of (of_room k n)) s.places ++ map (end_equation n k) s.ends

-- a word that names no place, in prefix order
abbrev pub plain_word : Numbers → Word → FlatWord
plain_word n w = cond (w.tag == GIVEN)
    (option_map_or FlatName (slice_get n.given w.index) (FlatAgent (w.tag - 1) 0)) (FlatAgent (w.tag - 1) 0)

-- a word as it is spelled, in prefix order
abbrev pub spelled_word : Numbers → Word → FlatWord
spelled_word n w = cond (w.tag == NAME) (FlatName (cut_number n w.index))
    (cond (is_constant_tag n.arities w.tag) (plain_word n w) (FlatAgent (w.tag - 1) (slice_index_or n.arities (w.tag - 1) 0)))

-- the roots that are left stand after what was spelled, so many terms in the interface, and the others two by two as equations
abbrev pub roots_net : Numbers → ℕ → ℕ → List FlatWord → List Word → List Pair → ℕ → Configuration
roots_net n k terms done ws es next = net_of_row terms (over done (map (term (of_room k n)) ws)) es next

-- the room of a part
abbrev pub IsPartRoom : ℕ → Type 0
IsPartRoom k = (k < ROOMS) × (k ≡ 0 → ⊥)

-- no cut occurs more than twice in words and equations
abbrev pub CutsFew : Numbers → List FlatWord → List Pair → Type 0
CutsFew n ws es = (c : ℕ)
    → occurrences (cut_number n c) (flat_map word_names ws) + occurrences (cut_number n c) (flat_map pair_names es) ≤ 2

-- the numbers of the cuts that words spell are below a bound
abbrev pub CutsBelow : Numbers → ℕ → List Word → Type 0
CutsBelow n next ts = AllByRecursion (λ t. cut_number n t.index < next) ts

true_false : true ≡ false → ⊥
true_false e = cc

-- ---- tags

pub name_tag : (arities : List ℕ) (tag : ℕ) → tag ≡ NAME → is_constant_tag arities tag ≡ false
name_tag arities tag e = rw e refl

pub agent_tag : (arities : List ℕ) (tag arity : ℕ) → IsTagOf arities tag arity → is_constant_tag arities tag ≡ false
agent_tag arities tag arity is =
    ap (is_constant_tag arities) (is.is ∙ add-one is.symbol)
    ∙ (ap (λ (o : Option ℕ). option_map_or (λ k. k == 0) o (suc is.symbol == GIVEN)) is.known
    ∙ ne_eqb arity 0 (λ e. let some = is.some in omega (arith, some, e)))

pub place_term : (n : Numbers) (w : Word) → is_constant_tag n.arities w.tag ≡ false → term n w ≡ name (n.of_place w)
place_term n w e = rw e refl

pub constant_term : (n : Numbers) (w : Word) → is_constant_tag n.arities w.tag ≡ true → term n w ≡ constant n w
constant_term n w e = rw e refl

-- ---- words that are written

pub plain_written : (n : Numbers) (w : Word) (us : List Tree) → is_constant_tag n.arities w.tag ≡ true → with_word (plain_word n w) us ≡ term n w ∷ us
plain_written n w us alone =
    at (w.tag == GIVEN) (slice_get n.given w.index) ∙ ap (λ (t : Tree). t ∷ us) (sym (constant_term n w alone))
  where
    at : (b : Bool) (o : Option ℕ)
        → with_word (cond b (option_map_or FlatName o (FlatAgent (w.tag - 1) 0)) (FlatAgent (w.tag - 1) 0)) us
        ≡ cond b (option_map_or name o (agent (w.tag - 1) no_trees)) (agent (w.tag - 1) no_trees) ∷ us
    at true (Some x) = refl
    at true None = over-agent (w.tag - 1) 0 [] us refl
    at false o = over-agent (w.tag - 1) 0 [] us refl

pub spelled_plain : (n : Numbers) (w : Word) → is_constant_tag n.arities w.tag ≡ true → spelled_word n w ≡ plain_word n w
spelled_plain n w alone =
    let other : (w.tag == NAME) ≡ false = ne_eqb w.tag NAME (λ e. true_false (sym alone ∙ name_tag n.arities w.tag e)) in
    λ i. cond (other i) (FlatName (cut_number n w.index))
    (cond (alone i) (plain_word n w) (FlatAgent (w.tag - 1) (slice_index_or n.arities (w.tag - 1) 0)))

pub spelled_opened : (n : Numbers) (a : Word) (arity : ℕ) → IsTagOf n.arities a.tag arity
    → spelled_word n (spelled_agent a) ≡ FlatAgent (a.tag - 1) arity
spelled_opened n a arity is =
    let place = agent_tag n.arities a.tag arity is in
    let some : a.tag ≡ is.symbol + 1 = is.is in
    let other : (a.tag == NAME) ≡ false = ne_eqb a.tag NAME (λ e. let z : a.tag ≡ 0 = e in omega (arith, z, some)) in
    let symbol : a.tag - 1 ≡ is.symbol = omega (arith, some) in
    let known : slice_index_or n.arities (a.tag - 1) 0 ≡ arity =
    ap (λ (s : ℕ). slice_index_or n.arities s 0) symbol ∙ get_or_from_slice_get n.arities is.symbol arity 0 is.known in
    λ i. cond (other i) (FlatName (cut_number n 0))
    (cond (place i) (plain_word n (spelled_agent a)) (FlatAgent (a.tag - 1) (known i)))

-- a word that names no place by itself
pub plain_row : (n : Numbers) (k : ℕ) (done : List FlatWord) (w : Word) (us : List Tree) → is_constant_tag n.arities w.tag ≡ true
    → over (done ++ spelled_word n w ∷ []) us ≡ over done (term (of_room k n) w ∷ us)
plain_row n k done w us alone =
    over-append done (spelled_word n w ∷ []) us
    ∙ ap (over done) (ap (λ (f : FlatWord). with_word f us) (spelled_plain n w alone) ∙ plain_written (of_room k n) w us alone)

-- an agent with its arguments after it
pub agent_row : (n : Numbers) (k : ℕ) (done : List FlatWord) (a : Word) (vs ws : List Word) → IsTagOf n.arities a.tag (length vs)
    → over (done ++ spelled_word n (spelled_agent a) ∷ []) (map (term (of_room k n)) (vs ++ ws))
    ≡ over done (agent (a.tag - 1) (trees_of (map (term (of_room k n)) vs)) ∷ map (term (of_room k n)) ws)
agent_row n k done a vs ws is =
    let r : Word → Tree = term (of_room k n) in
    let f : FlatWord = FlatAgent (a.tag - 1) (length vs) in
    let spelled = spelled_opened n a (length vs) is in
    let words = map-append r vs ws in
    (λ i. over (done ++ spelled i ∷ []) (words i))
    ∙ (over-append done (f ∷ []) (map r vs ++ map r ws)
    ∙ ap (over done) (over-agent (a.tag - 1) (length vs) (map r vs) (map r ws) (length-map vs r)))

-- the number of a cut by itself
pub cut_row : (n : Numbers) (c : ℕ) (done : List FlatWord) (us : List Tree)
    → over (done ++ spelled_word n (name_word c) ∷ []) us ≡ over done (name (cut_number n c) ∷ us)
cut_row n c done us = over-append done (FlatName (cut_number n c) ∷ []) us

-- ---- sides in another order

pub side_order : (n : Numbers) (k : ℕ) (s t : Side) (others : List Pair) → IsPermutation s.places t.places → IsPermutation s.ends t.ends
    → IsPermutation (side_equations n k s ++ others) (side_equations n k t ++ others)
side_order n k s t others places ends =
    let f : Piece → List Pair = equations_of (of_room k n) in
    let g : CutEnd → Pair = end_equation n k in
    IsPermutation-append_left others (side_equations n k s) (side_equations n k t)
    (IsPermutation-append (flat_map f s.places) (flat_map f t.places) (map g s.ends) (map g t.ends)
    (flat_order f s.places t.places places) (IsPermutation-map g s.ends t.ends ends))

-- a piece is taken out of a side
pub side_taken : (n : Numbers) (k : ℕ) (s t : Side) (p : Piece) (others : List Pair) → IsPermutation s.places (p ∷ t.places) → IsPermutation s.ends t.ends
    → IsPermutation (side_equations n k s ++ others) (side_equations n k (record { places = p ∷ t.places; ends = t.ends }) ++ others)
side_taken n k s t p others places ends = side_order n k s (record { places = p ∷ t.places; ends = t.ends }) others places ends

-- an end is taken out of a side
pub end_taken : (n : Numbers) (k : ℕ) (s t : Side) (e : CutEnd) (others : List Pair) → IsPermutation s.places t.places → IsPermutation s.ends (e ∷ t.ends)
    → IsPermutation (side_equations n k s ++ others) (end_equation n k e ∷ (side_equations n k t ++ others))
end_taken n k s t e others places ends =
    let f : Piece → List Pair = equations_of (of_room k n) in
    let g : CutEnd → Pair = end_equation n k in
    let u : Side = record { places = t.places; ends = e ∷ t.ends } in
    IsPermutation-trans (side_equations n k s ++ others) (side_equations n k u ++ others) (end_equation n k e ∷ (side_equations n k t ++ others))
    (side_order n k s u others places ends)
    (IsPermutation-append_left others (flat_map f t.places ++ g e ∷ map g t.ends) (g e ∷ (flat_map f t.places ++ map g t.ends))
    (IsPermutation-middle (flat_map f t.places) (g e) (map g t.ends)))

-- ---- names

pub All_from : (P : ℕ → Type 0) (ns : List ℕ) → ((n : ℕ) → 1 ≤ occurrences n ns → P n) → AllByRecursion P ns
All_from P [] each = tt
All_from P (m ∷ ms) each = (
  each m (let first = occurrences-cons m m ms in let one : ◌≡◌ {A = ℕ} (cond (m == m) 1 0) 1 = ap (λ (b : Bool). cond {A = ℕ} b 1 0) ((unsigned_Decides m m).1 refl) in omega (arith, first, one)),
  All_from P ms (λ n some. each n (let more = occurrences-cons n m ms in omega (arith, more, some))),
)

pub below_next : (c : Configuration) → HasNames c → (n : ℕ) → 1 ≤ occurrences n (configuration_names c) → n < c.next
below_next c named n some = elim (cases_lt n c.next) [
  | inl low ↦ low
  | inr high ↦ let none = absent_above n c.next (configuration_names c) named.below high in absurd (omega (arith, none, some))
]

-- the names of a row of terms with equations beside
pub net_names : (y terms m next : ℕ) (done : List FlatWord) (us : List Tree) (es : List Pair) → length (over done us) ≡ terms + 2 * m
    → occurrences y (configuration_names (net_of_row terms (over done us) es next))
    ≡ (occurrences y (flat_map word_names done) + occurrences y (flat_map names us)) + occurrences y (flat_map pair_names es)
net_names y terms m next done us es even =
    let a = row_names y terms m (over done us) es next even in
    let b : occurrences y (flat_map names (over done us)) ≡ occurrences y (flat_map word_names done) + occurrences y (flat_map names us) =
    ap (occurrences y) (over-names done us) ∙ occurrences-append y (flat_map word_names done) (flat_map names us) in
    omega arith

-- the names of an equation in front
pub front_names : (y : ℕ) (p : Pair) (es : List Pair)
    → occurrences y (flat_map pair_names (p ∷ es)) ≡ occurrences y (pair_names p) + occurrences y (flat_map pair_names es)
front_names y p es = occurrences-append y (pair_names p) (flat_map pair_names es)

pub both_names : (y : ℕ) (es fs : List Pair)
    → occurrences y (flat_map pair_names (es ++ fs)) ≡ occurrences y (flat_map pair_names es) + occurrences y (flat_map pair_names fs)
both_names y es fs = ap (occurrences y) (flat_map-append pair_names es fs) ∙ occurrences-append y (flat_map pair_names es) (flat_map pair_names fs)

pub written_names : (y : ℕ) (vs ws : List FlatWord)
    → occurrences y (flat_map word_names (vs ++ ws)) ≡ occurrences y (flat_map word_names vs) + occurrences y (flat_map word_names ws)
written_names y vs ws = ap (occurrences y) (flat_map-append word_names vs ws) ∙ occurrences-append y (flat_map word_names vs) (flat_map word_names ws)

pub itself_occurs : (x : ℕ) → occurrences x (x ∷ []) ≡ 1
itself_occurs x = ap (λ (b : Bool). 0 + cond {A = ℕ} b 1 0) ((unsigned_Decides x x).1 refl)

pub other_occurs : (y x : ℕ) → (y ≡ x → ⊥) → occurrences x (y ∷ []) ≡ 0
other_occurs y x apart = ap (λ (b : Bool). 0 + cond {A = ℕ} b 1 0) (ne_eqb y x apart)

-- ---- where no cut is

pub no_cut_place : (n : Numbers) (k c : ℕ) (w : Word) → AreNumbers n → IsPartRoom k → is_constant_tag n.arities w.tag ≡ false
    → (of_room k n).of_place w ≡ cut_number n c → ⊥
no_cut_place n k c w sound room place same =
    true_false (sym (sound.apart (in_room n.arities k w) (cut_word c) same)
    ∙ apart_in_rooms n.arities k 0 w (name_word c) room.0 (omega arith) room.1 place)

place_names : (n : Numbers) (k c : ℕ) (w : Word) → AreNumbers n → IsPartRoom k → is_constant_tag n.arities w.tag ≡ false
    → occurrences (cut_number n c) ((of_room k n).of_place w ∷ []) ≡ 0
place_names n k c w sound room place = other_occurs ((of_room k n).of_place w) (cut_number n c) (no_cut_place n k c w sound room place)

term_names : (n : Numbers) (k c : ℕ) (w : Word) → AreNumbers n → IsPartRoom k → occurrences (cut_number n c) (names (term (of_room k n) w)) ≡ 0
term_names n k c w sound room = at (is_constant_tag n.arities w.tag) refl
  where
    x : ℕ
    x = cut_number n c

    constant_names : (b : Bool) (o : Option ℕ) → slice_get n.given w.index ≡ o
        → occurrences x (names (cond b (option_map_or name o (agent (w.tag - 1) no_trees)) (agent (w.tag - 1) no_trees))) ≡ 0
    constant_names true (Some y) e = other_occurs y x (λ same. sound.not_given w.index y (cut_word c) e (sym same))
    constant_names true None e = refl
    constant_names false o e = refl

    at : (b : Bool) → is_constant_tag n.arities w.tag ≡ b → occurrences x (names (term (of_room k n) w)) ≡ 0
    at false e = ap (λ (t : Tree). occurrences x (names t)) (place_term (of_room k n) w e) ∙ place_names n k c w sound room e
    at true e = ap (λ (t : Tree). occurrences x (names t)) (constant_term (of_room k n) w e) ∙ constant_names (w.tag == GIVEN) (slice_get n.given w.index) refl

terms_names : (n : Numbers) (k c : ℕ) (ws : List Word) → AreNumbers n → IsPartRoom k
    → occurrences (cut_number n c) (flat_map names (map (term (of_room k n)) ws)) ≡ 0
terms_names n k c [] sound room = refl
terms_names n k c (w ∷ ws) sound room =
    let first = term_names n k c w sound room in
    let rest = terms_names n k c ws sound room in
    let all = occurrences-append (cut_number n c) (names (term (of_room k n) w)) (flat_map names (map (term (of_room k n)) ws)) in
    omega (arith, first, rest, all)

-- what a name waits for, and an agent with its arguments, have no cut
waits_names : (n : Numbers) (k c : ℕ) (x u : Word) → AreNumbers n → IsPartRoom k → is_constant_tag n.arities x.tag ≡ false
    → occurrences (cut_number n c) (pair_names (record { left = name ((of_room k n).of_place x); right = term (of_room k n) u })) ≡ 0
waits_names n k c x u sound room place =
    let first = place_names n k c x sound room place in
    let rest = term_names n k c u sound room in
    let all = occurrences-append (cut_number n c) ((of_room k n).of_place x ∷ []) (names (term (of_room k n) u)) in
    omega (arith, first, rest, all)

agent_names : (n : Numbers) (k c : ℕ) (a : Word) (vs : List Word) → AreNumbers n → IsPartRoom k → is_constant_tag n.arities a.tag ≡ false
    → occurrences (cut_number n c)
    (pair_names (record { left = name ((of_room k n).of_place a); right = agent (a.tag - 1) (trees_of (map (term (of_room k n)) vs)) })) ≡ 0
agent_names n k c a vs sound room place =
    let ts : List Tree = map (term (of_room k n)) vs in
    let first = place_names n k c a sound room place in
    let rest : occurrences (cut_number n c) (names (agent (a.tag - 1) (trees_of ts))) ≡ 0 =
    ap (occurrences (cut_number n c)) (names_of-trees ts) ∙ terms_names n k c vs sound room in
    let all = occurrences-append (cut_number n c) ((of_room k n).of_place a ∷ []) (names (agent (a.tag - 1) (trees_of ts))) in
    omega (arith, first, rest, all)

-- the cut of an end, and its name
pub end_names : (n : Numbers) (k c : ℕ) (e : CutEnd) → AreNumbers n → IsPartRoom k
    → occurrences (cut_number n c) (pair_names (end_equation n k e)) ≡ occurrences (cut_number n c) (cut_number n e.cut ∷ [])
end_names n k c e sound room =
    let first = place_names n k c (end_word e) sound room refl in
    let all = occurrences-append (cut_number n c) ((of_room k n).of_place (end_word e) ∷ []) (cut_number n e.cut ∷ []) in
    omega (arith, first, all)

-- ---- how often a cut occurs, on the way

-- how often a cut occurs in what a side says
abbrev pub cuts_at : Numbers → ℕ → ℕ → Side → ℕ
cuts_at n k c s = occurrences (cut_number n c) (flat_map pair_names (side_equations n k s ++ []))

-- how often words spell it
abbrev pub cuts_written : Numbers → ℕ → List Word → ℕ
cuts_written n c ts = occurrences (cut_number n c) (flat_map word_names (map (spelled_word n) ts))

pub one_more_written : (n : Numbers) (c : ℕ) (t : Word) (ts : List Word)
    → cuts_written n c (t ∷ ts) ≡ occurrences (cut_number n c) (word_names (spelled_word n t)) + cuts_written n c ts
one_more_written n c t ts =
    occurrences-append (cut_number n c) (word_names (spelled_word n t)) (flat_map word_names (map (spelled_word n) ts))

-- A cut of the full side is spelled, or left.
pub cuts_grow : (n : Numbers) (k c : ℕ) (full rest : Side) (ws ts : List Word) → AreNumbers n → IsPartRoom k → Spells n.arities full rest ws ts
    → cuts_at n k c full ≤ cuts_at n k c rest + cuts_written n c ts
cuts_grow n k c full rest ws ts sound room (nothing a b places ends) =
    let same = pairs_in_order (cut_number n c) (side_equations n k a ++ []) (side_equations n k b ++ []) (side_order n k a b [] places ends) in
    omega (arith, same)
cuts_grow n k c full rest ws ts sound room (follow a mid b x u vs us tag places ends more) =
    let p : Pair = record { left = name ((of_room k n).of_place x); right = term (of_room k n) u } in
    let same = pairs_in_order (cut_number n c) (side_equations n k a ++ []) (p ∷ (side_equations n k mid ++ [])) (side_taken n k a mid (waits x u) [] places ends) in
    let first = front_names (cut_number n c) p (side_equations n k mid ++ []) in
    let none = waits_names n k c x u sound room (name_tag n.arities x.tag tag) in
    let later = cuts_grow n k c mid b (u ∷ vs) us sound room more in
    omega (arith, same, first, none, later)
cuts_grow n k c full rest ws ts sound room (opened a mid b g vs us xs is places ends more) =
    let p : Pair = record { left = name ((of_room k n).of_place g); right = agent (g.tag - 1) (trees_of (map (term (of_room k n)) vs)) } in
    let same = pairs_in_order (cut_number n c) (side_equations n k a ++ []) (p ∷ (side_equations n k mid ++ [])) (side_taken n k a mid (agent_of g vs) [] places ends) in
    let first = front_names (cut_number n c) p (side_equations n k mid ++ []) in
    let none = agent_names n k c g vs sound room (agent_tag n.arities g.tag (length vs) is) in
    let later = cuts_grow n k c mid b (vs ++ us) xs sound room more in
    let written = one_more_written n c (spelled_agent g) xs in
    omega (arith, same, first, none, later, written)
cuts_grow n k c full rest ws ts sound room (plain a b w vs us is more) =
    let later = cuts_grow n k c a b vs us sound room more in
    let written = one_more_written n c w us in
    omega (arith, later, written)
cuts_grow n k c full rest ws ts sound room (cut a mid b e vs us places ends more) =
    let same = pairs_in_order (cut_number n c) (side_equations n k mid ++ []) (end_equation n k e ∷ (side_equations n k a ++ []))
    (end_taken n k mid a e [] (IsPermutation-sym a.places mid.places places) (IsPermutation-sym (e ∷ a.ends) mid.ends ends)) in
    let first = front_names (cut_number n c) (end_equation n k e) (side_equations n k a ++ []) in
    let later = cuts_grow n k c mid b vs us sound room more in
    let written = one_more_written n c (name_word e.cut) us in
    omega (arith, same, first, later, written)
cuts_grow n k c full rest ws ts sound room (gone a mid b e vs us places ends more) =
    let here : Side = record { places = idle (end_word e) ∷ mid.places; ends = e ∷ mid.ends } in
    let first_same = pairs_in_order (cut_number n c) (side_equations n k a ++ []) (side_equations n k here ++ []) (side_order n k a here [] places ends) in
    let same = pairs_in_order (cut_number n c) (side_equations n k here ++ []) (end_equation n k e ∷ (side_equations n k mid ++ []))
    (end_taken n k (record { places = mid.places; ends = e ∷ mid.ends }) mid e [] (IsPermutation-refl mid.places) (IsPermutation-refl (e ∷ mid.ends))) in
    let first = front_names (cut_number n c) (end_equation n k e) (side_equations n k mid ++ []) in
    let one = end_names n k c e sound room in
    let later = cuts_grow n k c mid b vs us sound room more in
    let written = one_more_written n c (name_word e.cut) us in
    let spelled : occurrences (cut_number n c) (word_names (spelled_word n (name_word e.cut))) ≡ occurrences (cut_number n c) (cut_number n e.cut ∷ []) = refl in
    omega (arith, first_same, same, first, one, later, written, spelled)

-- ---- one root

-- What a root's place is equal to is put for it.
put_root : NetLaws → (n : Numbers) (k terms m next : ℕ) (done : List FlatWord) (w : Word) (ws : List Word) (t : Tree) (es fs : List Pair)
    → term (of_room k n) w ≡ name ((of_room k n).of_place w)
    → IsPermutation es (record { left = name ((of_room k n).of_place w); right = t } ∷ fs)
    → length (over done (map (term (of_room k n)) (w ∷ ws))) ≡ terms + 2 * m
    → HasNames (roots_net n k terms done (w ∷ ws) es next)
    → OneNet (roots_net n k terms done (w ∷ ws) es next) (net_of_row terms (over done (t ∷ map (term (of_room k n)) ws)) fs next)
put_root laws n k terms m next done w ws t es fs is moved even has =
    let T : List Tree = map (term (of_room k n)) ws in
    let x : ℕ = (of_room k n).of_place w in
    let put = put_row (row_laws laws) terms m x next t done T es fs
    (transport (λ (z : Tree). length (over done (z ∷ T)) ≡ terms + 2 * m) is even)
    (transport (λ (z : Tree). HasNames (net_of_row terms (over done (z ∷ T)) es next)) is has) moved in
    transport (λ (z : Tree). OneNet (net_of_row terms (over done (z ∷ T)) es next) (net_of_row terms (over done (t ∷ T)) fs next)) (sym is) put

-- the equations beside in another order
pub order_row : NetLaws → (terms next : ℕ) (row : List Tree) (es fs : List Pair) → HasNames (net_of_row terms row es next) → IsPermutation es fs
    → OneNet (net_of_row terms row es next) (net_of_row terms row fs next)
order_row laws terms next row es fs named moved =
    let ps : List Pair = pairs_of (drop terms row) in
    laws.order (net_of_row terms row es next) (ps ++ fs) named (IsPermutation-append_right ps es fs moved)

-- an equation beside goes to the front, and is turned round
turned_row : NetLaws → (terms next : ℕ) (row : List Tree) (p : Pair) (es fs : List Pair) → HasNames (net_of_row terms row es next) → IsPermutation es (p ∷ fs)
    → OneNet (net_of_row terms row es next) (net_of_row terms row (turned p ∷ fs) next)
turned_row laws terms next row p es fs named moved =
    let ps : List Pair = pairs_of (drop terms row) in
    let c : Configuration = net_of_row terms row es next in
    let d : Configuration = record c { equations = turned p ∷ (ps ++ fs) } in
    let front : IsPermutation (ps ++ es) (p ∷ (ps ++ fs)) =
    IsPermutation-trans (ps ++ es) (ps ++ p ∷ fs) (p ∷ (ps ++ fs)) (IsPermutation-append_right ps es (p ∷ fs) moved) (IsPermutation-middle ps p fs) in
    let first = laws.turned c p (ps ++ fs) named front in
    let second = laws.order d (ps ++ turned p ∷ fs) first.names_too
    (IsPermutation-sym (ps ++ turned p ∷ fs) (turned p ∷ (ps ++ fs)) (IsPermutation-middle ps (turned p) fs)) in
    laws.through c d (net_of_row terms row (turned p ∷ fs) next) first second

-- ---- a cut begins

-- The number of the cut occurs twice then, and all others as often as before.
pub begun_counts : (y terms m next x c : ℕ) (done : List FlatWord) (us : List Tree) (es fs : List Pair)
    → IsPermutation fs (record { left = name x; right = name c } ∷ es) → length (over done (name x ∷ us)) ≡ terms + 2 * m
    → occurrences y (configuration_names (net_of_row terms (over done (name c ∷ us)) fs next))
    ≡ occurrences y (configuration_names (net_of_row terms (over done (name x ∷ us)) es next)) + 2 * occurrences y (c ∷ [])
begun_counts y terms m next x c done us es fs moved even =
    let p : Pair = record { left = name x; right = name c } in
    let long : length (over done (name c ∷ us)) ≡ terms + 2 * m = length-over done (name c ∷ us) (name x ∷ us) refl ∙ even in
    let a = net_names y terms m next done (name x ∷ us) es even in
    let b = net_names y terms m next done (name c ∷ us) fs long in
    let d : occurrences y (flat_map names (name x ∷ us)) ≡ occurrences y (x ∷ []) + occurrences y (flat_map names us) =
    occurrences-append y (x ∷ []) (flat_map names us) in
    let e : occurrences y (flat_map names (name c ∷ us)) ≡ occurrences y (c ∷ []) + occurrences y (flat_map names us) =
    occurrences-append y (c ∷ []) (flat_map names us) in
    let f = pairs_in_order y fs (p ∷ es) moved in
    let g = front_names y p es in
    let h : occurrences y (pair_names p) ≡ occurrences y (x ∷ []) + occurrences y (c ∷ []) = occurrences-append y (x ∷ []) (c ∷ []) in
    omega (arith, a, b, d, e, f, g, h)

begun_names : (terms m next x c : ℕ) (done : List FlatWord) (us : List Tree) (es fs : List Pair)
    → IsPermutation fs (record { left = name x; right = name c } ∷ es) → length (over done (name x ∷ us)) ≡ terms + 2 * m
    → occurrences c (configuration_names (net_of_row terms (over done (name x ∷ us)) es next)) ≡ 0 → c < next
    → HasNames (net_of_row terms (over done (name x ∷ us)) es next)
    → HasNames (net_of_row terms (over done (name c ∷ us)) fs next)
begun_names terms m next x c done us es fs moved even none low named = record {
  below = All_from (λ y. y < next) (configuration_names d) (λ y some. elim (at y) [
    | inl new ↦ transport (λ (z : ℕ). z < next) new.0 low
    | inr same ↦ below_next i named y (omega (arith, same, some))
  ]);
  twice = λ y. elim (at y) [
    | inl new ↦ (let few = new.1 in omega (arith, few))
    | inr same ↦ (let few = named.twice y in omega (arith, few, same))
  ];
}
  where
    i : Configuration
    i = net_of_row terms (over done (name x ∷ us)) es next

    d : Configuration
    d = net_of_row terms (over done (name c ∷ us)) fs next

    at : (y : ℕ) → ((c ≡ y) × (occurrences y (configuration_names d) ≡ 2)) ⊎ (occurrences y (configuration_names d) ≡ occurrences y (configuration_names i))
    at y = by (c == y) refl
      where
        grown : occurrences y (configuration_names d) ≡ occurrences y (configuration_names i) + 2 * occurrences y (c ∷ [])
        grown = begun_counts y terms m next x c done us es fs moved even

        by : (b : Bool) → (c == y) ≡ b
            → ((c ≡ y) × (occurrences y (configuration_names d) ≡ 2)) ⊎ (occurrences y (configuration_names d) ≡ occurrences y (configuration_names i))
        by true e =
            let same = (unsigned_Decides c y).0 e in
            let once : occurrences y (c ∷ []) ≡ 1 = ap (λ (b : Bool). 0 + cond {A = ℕ} b 1 0) e in
            let before = transport (λ (z : ℕ). occurrences z (configuration_names i) ≡ 0) same none in
            inl (same, omega (arith, grown, once, before))
        by false e =
            let never : occurrences y (c ∷ []) ≡ 0 = ap (λ (b : Bool). 0 + cond {A = ℕ} b 1 0) e in
            inr (omega (arith, grown, never))

-- Read from what is spelled to what was there: the cut gives way to the name.
end_begun : NetLaws → (terms m next x c : ℕ) (done : List FlatWord) (us : List Tree) (es fs : List Pair)
    → IsPermutation fs (record { left = name x; right = name c } ∷ es) → length (over done (name c ∷ us)) ≡ terms + 2 * m
    → HasNames (net_of_row terms (over done (name c ∷ us)) fs next)
    → OneNet (net_of_row terms (over done (name c ∷ us)) fs next) (net_of_row terms (over done (name x ∷ us)) es next)
end_begun laws terms m next x c done us es fs moved even named =
    let p : Pair = record { left = name x; right = name c } in
    let row : List Tree = over done (name c ∷ us) in
    let first = turned_row laws terms next row p fs es named moved in
    let second = put_row (row_laws laws) terms m c next (name x) done us (turned p ∷ es) es even first.names_too (IsPermutation-refl (turned p ∷ es)) in
    laws.through (net_of_row terms row fs next) (net_of_row terms row (turned p ∷ es) next) (net_of_row terms (over done (name x ∷ us)) es next) first second

-- The number of a cut that begins occurs nowhere.
unused : (n : Numbers) (k terms m next : ℕ) (others : List Pair) (done : List FlatWord) (full mid rest : Side) (e : CutEnd) (ws ts : List Word)
    → AreNumbers n → IsPartRoom k → IsPermutation full.places mid.places → IsPermutation (e ∷ full.ends) mid.ends → Spells n.arities mid rest ws ts
    → length (over done (map (term (of_room k n)) (end_word e ∷ ws))) ≡ terms + 2 * m
    → CutsFew n (done ++ map (spelled_word n) (name_word e.cut ∷ ts)) (side_equations n k rest ++ others)
    → occurrences (cut_number n e.cut) (configuration_names (roots_net n k terms done (end_word e ∷ ws) (side_equations n k full ++ others) next)) ≡ 0
unused n k terms m next others done full mid rest e ws ts sound room places ends more even few =
    let c : ℕ = cut_number n e.cut in
    let all = net_names c terms m next done (map (term (of_room k n)) (end_word e ∷ ws)) (side_equations n k full ++ others) even in
    let roots = terms_names n k e.cut (end_word e ∷ ws) sound room in
    let here = both_names c (side_equations n k full) others in
    let empty = both_names c (side_equations n k full) [] in
    let there = both_names c (side_equations n k rest) others in
    let there_empty = both_names c (side_equations n k rest) [] in
    let same = pairs_in_order c (side_equations n k mid ++ []) (end_equation n k e ∷ (side_equations n k full ++ []))
    (end_taken n k mid full e [] (IsPermutation-sym full.places mid.places places) (IsPermutation-sym (e ∷ full.ends) mid.ends ends)) in
    let first = front_names c (end_equation n k e) (side_equations n k full ++ []) in
    let one = end_names n k e.cut e sound room in
    let itself = itself_occurs c in
    let later = cuts_grow n k e.cut mid rest ws ts sound room more in
    let spelled : occurrences c (word_names (spelled_word n (name_word e.cut))) ≡ 1 = itself_occurs c in
    let written = one_more_written n e.cut (name_word e.cut) ts in
    let both = written_names c done (map (spelled_word n) (name_word e.cut ∷ ts)) in
    let most = few e.cut in
    omega (arith, all, roots, here, empty, there, there_empty, same, first, one, itself, later, spelled, written, both, most)

-- ---- one root after another

-- One word more was written, and the others come after it.
then_on : NetLaws → (start middle : Configuration) (terms next : ℕ) (done more : List FlatWord) (f : FlatWord) (es : List Pair)
    → OneNet start middle → OneNet middle (net_of_row terms (over ((done ++ f ∷ []) ++ more) []) es next)
    → OneNet start (net_of_row terms (over (done ++ f ∷ more) []) es next)
then_on laws start middle terms next done more f es here later =
    laws.through start middle (net_of_row terms (over (done ++ f ∷ more) []) es next) here
    (transport (λ (l : List FlatWord). OneNet middle (net_of_row terms (over l []) es next)) (append_assoc done (f ∷ []) more) later)

few_on : (n : Numbers) (done more : List FlatWord) (f : FlatWord) (es : List Pair) → CutsFew n (done ++ f ∷ more) es → CutsFew n ((done ++ f ∷ []) ++ more) es
few_on n done more f es few = transport (λ (l : List FlatWord). CutsFew n l es) (sym (append_assoc done (f ∷ []) more)) few

-- What words carry from one side to the other is one net with what was there, where no cut occurs more than twice.
pub carried_net : NetLaws → (n : Numbers) (k terms m next : ℕ) (others : List Pair) (done : List FlatWord) (full rest : Side) (ws ts : List Word)
    → AreNumbers n → IsPartRoom k → Spells n.arities full rest ws ts
    → length (over done (map (term (of_room k n)) ws)) ≡ terms + 2 * m
    → CutsBelow n next ts
    → CutsFew n (done ++ map (spelled_word n) ts) (side_equations n k rest ++ others)
    → HasNames (roots_net n k terms done ws (side_equations n k full ++ others) next)
    → OneNet (roots_net n k terms done ws (side_equations n k full ++ others) next)
    (roots_net n k terms (done ++ map (spelled_word n) ts) [] (side_equations n k rest ++ others) next)
carried_net laws n k terms m next others done full rest ws ts sound room (nothing a b places ends) even below few named =
    let start : Configuration = roots_net n k terms done [] (side_equations n k a ++ others) next in
    transport (λ (l : List FlatWord). OneNet start (net_of_row terms (over l []) (side_equations n k b ++ others) next)) (sym (append-nil done))
    (order_row laws terms next (over done []) (side_equations n k a ++ others) (side_equations n k b ++ others) named (side_order n k a b others places ends))
carried_net laws n k terms m next others done full rest ws ts sound room (follow a mid b x u vs us tag places ends more) even below few named =
    let r : Word → Tree = term (of_room k n) in
    let fs : List Pair = side_equations n k mid ++ others in
    let start : Configuration = roots_net n k terms done (x ∷ vs) (side_equations n k a ++ others) next in
    let first : OneNet start (roots_net n k terms done (u ∷ vs) fs next) =
    put_root laws n k terms m next done x vs (r u) (side_equations n k a ++ others) fs (place_term (of_room k n) x (name_tag n.arities x.tag tag))
    (side_taken n k a mid (waits x u) others places ends) even named in
    let later = carried_net laws n k terms m next others done mid b (u ∷ vs) us sound room more
    (length-over done (r u ∷ map r vs) (r x ∷ map r vs) refl ∙ even) below few first.names_too in
    laws.through start (roots_net n k terms done (u ∷ vs) fs next)
    (roots_net n k terms (done ++ map (spelled_word n) us) [] (side_equations n k b ++ others) next) first later
carried_net laws n k terms m next others done full rest ws ts sound room (opened a mid b g vs us xs is places ends more) even below few named =
    let r : Word → Tree = term (of_room k n) in
    let f : FlatWord = spelled_word n (spelled_agent g) in
    let t : Tree = agent (g.tag - 1) (trees_of (map r vs)) in
    let fs : List Pair = side_equations n k mid ++ others in
    let start : Configuration = roots_net n k terms done (g ∷ us) (side_equations n k a ++ others) next in
    let middle : Configuration = roots_net n k terms (done ++ f ∷ []) (vs ++ us) fs next in
    let first = put_root laws n k terms m next done g us t (side_equations n k a ++ others) fs (place_term (of_room k n) g (agent_tag n.arities g.tag (length vs) is))
    (side_taken n k a mid (agent_of g vs) others places ends) even named in
    let same = agent_row n k done g vs us is in
    let here : OneNet start middle = transport (λ (l : List Tree). OneNet start (net_of_row terms l fs next)) (sym same) first in
    let later = carried_net laws n k terms m next others (done ++ f ∷ []) mid b (vs ++ us) xs sound room more
    (ap (length {A = Tree}) same ∙ (length-over done (t ∷ map r us) (r g ∷ map r us) refl ∙ even)) below.1
    (few_on n done (map (spelled_word n) xs) f (side_equations n k b ++ others) few) here.names_too in
    then_on laws start middle terms next done (map (spelled_word n) xs) f (side_equations n k b ++ others) here later
carried_net laws n k terms m next others done full rest ws ts sound room (plain a b w vs us is more) even below few named =
    let r : Word → Tree = term (of_room k n) in
    let f : FlatWord = spelled_word n w in
    let fs : List Pair = side_equations n k a ++ others in
    let start : Configuration = roots_net n k terms done (w ∷ vs) fs next in
    let middle : Configuration = roots_net n k terms (done ++ f ∷ []) vs fs next in
    let same = plain_row n k done w (map r vs) is in
    let here : OneNet start middle = transport (λ (l : List Tree). OneNet start (net_of_row terms l fs next)) (sym same) (laws.itself start named) in
    let later = carried_net laws n k terms m next others (done ++ f ∷ []) a b vs us sound room more
    (ap (length {A = Tree}) same ∙ even) below.1
    (few_on n done (map (spelled_word n) us) f (side_equations n k b ++ others) few) here.names_too in
    then_on laws start middle terms next done (map (spelled_word n) us) f (side_equations n k b ++ others) here later
carried_net laws n k terms m next others done full rest ws ts sound room (cut a mid b e vs us places ends more) even below few named =
    let r : Word → Tree = term (of_room k n) in
    let c : ℕ = cut_number n e.cut in
    let x : ℕ = (of_room k n).of_place (end_word e) in
    let f : FlatWord = spelled_word n (name_word e.cut) in
    let es : List Pair = side_equations n k a ++ others in
    let fs : List Pair = side_equations n k mid ++ others in
    let start : Configuration = net_of_row terms (over done (name x ∷ map r vs)) es next in
    let with_cut : Configuration = net_of_row terms (over done (name c ∷ map r vs)) fs next in
    let middle : Configuration = roots_net n k terms (done ++ f ∷ []) vs fs next in
    let moved = end_taken n k mid a e others (IsPermutation-sym a.places mid.places places) (IsPermutation-sym (e ∷ a.ends) mid.ends ends) in
    let none = unused n k terms m next others done a mid b e vs us sound room places ends more even few in
    let has = begun_names terms m next x c done (map r vs) es fs moved even none below.0 named in
    let long = length-over done (name c ∷ map r vs) (name x ∷ map r vs) refl ∙ even in
    let first : OneNet start with_cut = laws.other_way with_cut start (end_begun laws terms m next x c done (map r vs) es fs moved long has) in
    let same = cut_row n e.cut done (map r vs) in
    let here : OneNet start middle = transport (λ (l : List Tree). OneNet start (net_of_row terms l fs next)) (sym same) first in
    let later = carried_net laws n k terms m next others (done ++ f ∷ []) mid b vs us sound room more
    (ap (length {A = Tree}) same ∙ long) below.1
    (few_on n done (map (spelled_word n) us) f (side_equations n k b ++ others) few) here.names_too in
    then_on laws start middle terms next done (map (spelled_word n) us) f (side_equations n k b ++ others) here later
carried_net laws n k terms m next others done full rest ws ts sound room (gone a mid b e vs us places ends more) even below few named =
    let r : Word → Tree = term (of_room k n) in
    let c : ℕ = cut_number n e.cut in
    let x : ℕ = (of_room k n).of_place (end_word e) in
    let f : FlatWord = spelled_word n (name_word e.cut) in
    let es : List Pair = side_equations n k a ++ others in
    let fs : List Pair = side_equations n k mid ++ others in
    let start : Configuration = net_of_row terms (over done (name x ∷ map r vs)) es next in
    let with_cut : Configuration = net_of_row terms (over done (name c ∷ map r vs)) fs next in
    let middle : Configuration = roots_net n k terms (done ++ f ∷ []) vs fs next in
    let full_side : Side = record { places = idle (end_word e) ∷ mid.places; ends = e ∷ mid.ends } in
    let moved : IsPermutation es (end_equation n k e ∷ fs) =
    IsPermutation-trans es (side_equations n k full_side ++ others) (end_equation n k e ∷ fs) (side_order n k a full_side others places ends)
    (end_taken n k (record { places = mid.places; ends = e ∷ mid.ends }) mid e others (IsPermutation-refl mid.places) (IsPermutation-refl (e ∷ mid.ends))) in
    let first : OneNet start with_cut = put_root laws n k terms m next done (end_word e) vs (name c) es fs refl moved even named in
    let long = length-over done (name c ∷ map r vs) (name x ∷ map r vs) refl ∙ even in
    let same = cut_row n e.cut done (map r vs) in
    let here : OneNet start middle = transport (λ (l : List Tree). OneNet start (net_of_row terms l fs next)) (sym same) first in
    let later = carried_net laws n k terms m next others (done ++ f ∷ []) mid b vs us sound room more
    (ap (length {A = Tree}) same ∙ long) below.1
    (few_on n done (map (spelled_word n) us) f (side_equations n k b ++ others) few) here.names_too in
    then_on laws start middle terms next done (map (spelled_word n) us) f (side_equations n k b ++ others) here later
