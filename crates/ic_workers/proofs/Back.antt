-- Lemmas: where what is spelled has no name more than twice, what it is unpacked to has none, if each place is there once.
use Rattle.std.proofs.Common.{◌≡◌, ℕ, ◌+◌, ◌*◌, ◌-◌, ◌≤◌, ◌==◌, List, [], ◌∷◌, ◌++◌, Bool, true, false, cond, Option, None, Some, length, map, refl, sym, ap, ◌∙◌, append_assoc, append-nil, eq-eqb, arith, slice_get, slice_index_or, sum_by, subst as transport}
use Rattle.std.specs.List.{flat_map}
use Rattle.std.specs.Prelude.{IsPermutation}
use Rattle.std.specs.Cmp.{unsigned_Decides}
use Rattle.std.specs.Option.{option_map_or}
use Rattle.std.proofs.lemmas.List.Sorted.{IsPermutation-refl, IsPermutation-sym, IsPermutation-trans}
use Rattle.std.proofs.lemmas.List.Sums.{sum_by-cons}
use Rattle.ic_term.specs.Tree.{Tree, name, agent, no_trees, names, trees_of, Pair, pair_names}
use Rattle.ic_term.specs.Configuration.{Configuration, configuration_names, occurrences}
use Rattle.ic_settle.specs.lemmas.SubstitutionLaws.{occurrences-append}
use Rattle.ic_arena.specs.declared.word.Word.{Word}
use Rattle.ic_arena.specs.declared.word.TheConstants.{NAME, GIVEN}
use Rattle.ic_arena.specs.Word.{name_word, word_eq, count}
use Rattle.ic_arena.specs.Piece.{Piece, equated, idle, waits, agent_of, room, uses}
use Rattle.ic_flat.specs.declared.word.Word.{Word as FlatWord}
use Rattle.ic_flat.specs.declared.word.Word.TheVariants.{Name as FlatName, Agent as FlatAgent}
use Rattle.ic_flat.specs.Words.{word_names}
use Rattle.ic_machine.specs.Moving.{CutEnd, Side, Spells, nothing, follow, opened, plain, cut, gone, end_word, spelled_agent}
use Rattle.ic_machine.specs.Rooms.{in_room, pieces_in}
use Rattle.ic_machine.specs.Separate.{is_constant_tag}
use Rattle.ic_machine.specs.lemmas.InRooms.{room_tag}
use Rattle.ic_meaning.specs.Words.{Numbers, AreNumbers, term}
use Rattle.ic_meaning.specs.Nets.{equations_of, holds}
use Rattle.ic_readback.specs.lemmas.Rows.{over, names_of-trees, length-over}
use Rattle.ic_readback.specs.lemmas.RowNets.{net_of_row, pairs_in_order}
use Rattle.ic_workers.proofs.Rooms.{of_room, all_in_room, terms_in_room}
use Rattle.ic_workers.proofs.Balanced.{end_in, named_by, room_by, taken_sum, ordered_sum, first_count, spells_balance}
use Rattle.ic_workers.proofs.Carried.{cut_number, end_equation, side_equations, spelled_word, roots_net, IsPartRoom, name_tag, agent_tag, place_term, constant_term, agent_row, plain_row, cut_row, side_order, side_taken, end_taken, begun_counts, net_names, front_names, both_names, written_names, other_occurs, no_cut_place}

true_false : true ≡ false → ⊥
true_false e = cc

-- no name occurs more than twice
abbrev pub AreTwice : Configuration → Type 0
AreTwice c = (y : ℕ) → occurrences y (configuration_names c) ≤ 2

-- ---- where a place is not

no_one : (b : Bool) (m : ℕ) → cond {A = ℕ} b 1 0 + m ≡ 0 → b ≡ false
no_one true m e = absurd (omega arith)
no_one false m e = refl

-- places of other words have other numbers
other_place : (n : Numbers) (v u : Word) → AreNumbers n → word_eq v u ≡ false → n.of_place u ≡ n.of_place v → ⊥
other_place n v u sound other same = true_false (sym (sound.apart v u (sym same)) ∙ other)

no_term : (n : Numbers) (v u : Word) → AreNumbers n → word_eq v u ≡ false → occurrences (n.of_place v) (names (term n u)) ≡ 0
no_term n v u sound other = at (is_constant_tag n.arities u.tag) refl
  where
    x : ℕ
    x = n.of_place v

    constant_names : (b : Bool) (o : Option ℕ) → slice_get n.given u.index ≡ o
        → occurrences x (names (cond b (option_map_or name o (agent (u.tag - 1) no_trees)) (agent (u.tag - 1) no_trees))) ≡ 0
    constant_names true (Some y) e = other_occurs y x (λ same. sound.not_given u.index y v e (sym same))
    constant_names true None e = refl
    constant_names false o e = refl

    at : (b : Bool) → is_constant_tag n.arities u.tag ≡ b → occurrences x (names (term n u)) ≡ 0
    at false e = ap (λ (t : Tree). occurrences x (names t)) (place_term n u e) ∙ other_occurs (n.of_place u) x (other_place n v u sound other)
    at true e = ap (λ (t : Tree). occurrences x (names t)) (constant_term n u e) ∙ constant_names (u.tag == GIVEN) (slice_get n.given u.index) refl

pub no_terms : (n : Numbers) (v : Word) (us : List Word) → AreNumbers n → count v us ≡ 0 → occurrences (n.of_place v) (flat_map names (map (term n) us)) ≡ 0
no_terms n v [] sound none = refl
no_terms n v (u ∷ us) sound none =
    let parts = first_count v u us in
    let first = no_term n v u sound (no_one (word_eq v u) (count v us) (sym parts ∙ none)) in
    let rest = no_terms n v us sound (omega (arith, parts, none)) in
    let all = occurrences-append (n.of_place v) (names (term n u)) (flat_map names (map (term n) us)) in
    omega (arith, first, rest, all)

no_piece : (n : Numbers) (v : Word) (p : Piece) → AreNumbers n → uses v p + holds v p ≡ 0
    → occurrences (n.of_place v) (flat_map pair_names (equations_of n p)) ≡ 0
no_piece n v (equated l r) sound none =
    let parts = first_count v l (r ∷ []) in
    let more = first_count v r [] in
    let one = no_term n v l sound (no_one (word_eq v l) (count v (r ∷ [])) (omega (arith, parts, none))) in
    let two = no_term n v r sound (no_one (word_eq v r) 0 (omega (arith, parts, more, none))) in
    let front = front_names (n.of_place v) (record { left = term n l; right = term n r }) [] in
    let both = occurrences-append (n.of_place v) (names (term n l)) (names (term n r)) in
    omega (arith, one, two, front, both)
no_piece n v (idle x) sound none = refl
no_piece n v (waits x u) sound none =
    let more = first_count v u [] in
    let one = other_occurs (n.of_place x) (n.of_place v) (other_place n v x sound (no_one (word_eq v x) (count v (u ∷ [])) (omega (arith, none)))) in
    let two = no_term n v u sound (no_one (word_eq v u) 0 (omega (arith, more, none))) in
    let front = front_names (n.of_place v) (record { left = name (n.of_place x); right = term n u }) [] in
    let both = occurrences-append (n.of_place v) (n.of_place x ∷ []) (names (term n u)) in
    omega (arith, one, two, front, both)
no_piece n v (agent_of a us) sound none =
    let ts : List Tree = map (term n) us in
    let one = other_occurs (n.of_place a) (n.of_place v) (other_place n v a sound (no_one (word_eq v a) (count v us) (omega (arith, none)))) in
    let two : occurrences (n.of_place v) (names (agent (a.tag - 1) (trees_of ts))) ≡ 0 =
    ap (occurrences (n.of_place v)) (names_of-trees ts) ∙ no_terms n v us sound (omega (arith, none)) in
    let front = front_names (n.of_place v) (record { left = name (n.of_place a); right = agent (a.tag - 1) (trees_of ts) }) [] in
    let both = occurrences-append (n.of_place v) (n.of_place a ∷ []) (names (agent (a.tag - 1) (trees_of ts))) in
    omega (arith, one, two, front, both)

-- A word that pieces don't name, and of which none says what is there, has no name in them.
pub no_pieces : (n : Numbers) (v : Word) (ps : List Piece) → AreNumbers n → sum_by (uses v) ps ≡ 0 → sum_by (holds v) ps ≡ 0
    → occurrences (n.of_place v) (flat_map pair_names (flat_map (equations_of n) ps)) ≡ 0
no_pieces n v [] sound unused none = refl
no_pieces n v (p ∷ ps) sound unused none =
    let u = sum_by-cons (uses v) p ps in
    let h = sum_by-cons (holds v) p ps in
    let first = no_piece n v p sound (omega (arith, u, h, unused, none)) in
    let rest = no_pieces n v ps sound (omega (arith, u, unused)) (omega (arith, h, none)) in
    let all = both_names (n.of_place v) (equations_of n p) (flat_map (equations_of n) ps) in
    omega (arith, first, rest, all)

no_ends : (n : Numbers) (k : ℕ) (w : Word) (es : List CutEnd) → AreNumbers n → IsPartRoom k → is_constant_tag n.arities w.tag ≡ false
    → count (in_room n.arities k w) (map (end_in n.arities k) es) ≡ 0
    → occurrences ((of_room k n).of_place w) (flat_map pair_names (map (end_equation n k) es)) ≡ 0
no_ends n k w [] sound part place none = refl
no_ends n k w (e ∷ es) sound part place none =
    let v : Word = in_room n.arities k w in
    let x : ℕ = (of_room k n).of_place w in
    let parts = first_count v (end_in n.arities k e) (map (end_in n.arities k) es) in
    let one = other_occurs ((of_room k n).of_place (end_word e)) x
    (other_place n v (end_in n.arities k e) sound (no_one (word_eq v (end_in n.arities k e)) (count v (map (end_in n.arities k) es)) (sym parts ∙ none))) in
    let two = other_occurs (cut_number n e.cut) x (λ same. no_cut_place n k e.cut w sound part place (sym same)) in
    let both = occurrences-append x ((of_room k n).of_place (end_word e) ∷ []) (cut_number n e.cut ∷ []) in
    let rest = no_ends n k w es sound part place (omega (arith, parts, none)) in
    let all = front_names x (end_equation n k e) (map (end_equation n k) es) in
    omega (arith, one, two, both, rest, all)

-- what is spelled has no place of a part
pub no_spelled : (n : Numbers) (k : ℕ) (w t : Word) → AreNumbers n → IsPartRoom k → is_constant_tag n.arities w.tag ≡ false
    → occurrences ((of_room k n).of_place w) (word_names (spelled_word n t)) ≡ 0
no_spelled n k w t sound part place = at (t.tag == NAME) (is_constant_tag n.arities t.tag) (t.tag == GIVEN) (slice_get n.given t.index) refl
  where
    x : ℕ
    x = (of_room k n).of_place w

    f : FlatWord
    f = FlatAgent (t.tag - 1) 0

    at : (a b c : Bool) (o : Option ℕ) → slice_get n.given t.index ≡ o
        → occurrences x (word_names (cond a (FlatName (cut_number n t.index))
        (cond b (cond c (option_map_or FlatName o f) f) (FlatAgent (t.tag - 1) (slice_index_or n.arities (t.tag - 1) 0))))) ≡ 0
    at true b c o e = other_occurs (cut_number n t.index) x (λ same. no_cut_place n k t.index w sound part place (sym same))
    at false true true (Some y) e = other_occurs y x (λ same. sound.not_given t.index y (in_room n.arities k w) e (sym same))
    at false true true None e = refl
    at false true false o e = refl
    at false false c o e = refl

-- ---- a place that is new

-- A place of the part is named so often beside, and has room for that. If it is not named there, its name doesn't occur there.
pub record HasRoom (n : Numbers) (k : ℕ) (w : Word) (rest : Side) (done : List FlatWord) (others : List Pair) : Type 0 where
  pub beside : ℕ
  pub enough : beside + named_by n.arities k (in_room n.arities k w) [] rest ≤ room_by n.arities k (in_room n.arities k w) rest
  pub none : beside ≡ 0 → occurrences ((of_room k n).of_place w) (flat_map word_names done)
      + occurrences ((of_room k n).of_place w) (flat_map pair_names others) ≡ 0

abbrev pub IsRoomy : Numbers → ℕ → Side → List FlatWord → List Pair → Type 0
IsRoomy n k rest done others = (w : Word) → is_constant_tag n.arities w.tag ≡ false → HasRoom n k w rest done others

-- each place is there once
abbrev pub IsOnce : List ℕ → ℕ → Side → Type 0
IsOnce arities k s = (w : Word) → sum_by (holds (in_room arities k w)) (pieces_in arities k s.places) ≤ 1

pub held_room : (w : Word) (ps : List Piece) → sum_by (holds w) ps ≡ 0 → sum_by (room w) ps ≡ 0
held_room w [] none = refl
held_room w (p ∷ ps) none =
    let h = sum_by-cons (holds w) p ps in
    let r = sum_by-cons (room w) p ps in
    let here = one p (omega (arith, h, none)) in
    let rest = held_room w ps (omega (arith, h, none)) in
    omega (arith, r, here, rest)
  where
    one : (p : Piece) → holds w p ≡ 0 → room w p ≡ 0
    one (equated l r) e = refl
    one (idle x) e = ap (λ (b : Bool). cond {A = ℕ} b 2 0) (no_one (word_eq w x) 0 (omega (arith, e)))
    one (waits x u) e = e
    one (agent_of a ws) e = e

-- A place of which no piece says what is there occurs nowhere.
free_place : (n : Numbers) (k terms m next : ℕ) (others : List Pair) (done : List FlatWord) (mid rest : Side) (w : Word) (ws ts : List Word)
    → AreNumbers n → IsPartRoom k → is_constant_tag n.arities w.tag ≡ false → Spells n.arities mid rest ws ts
    → length (over done (map (term (of_room k n)) ws)) ≡ terms + 2 * m
    → IsRoomy n k rest done others
    → sum_by (holds (in_room n.arities k w)) (pieces_in n.arities k mid.places) ≡ 0
    → occurrences ((of_room k n).of_place w) (configuration_names (roots_net n k terms done ws (side_equations n k mid ++ others) next)) ≡ 0
free_place n k terms m next others done mid rest w ws ts sound part place spells even roomy none =
    let x : ℕ = (of_room k n).of_place w in
    let v : Word = in_room n.arities k w in
    let there : is_constant_tag n.arities v.tag ≡ false = ap (is_constant_tag n.arities) (room_tag n.arities k w) ∙ place in
    let balance = spells_balance n.arities k v mid rest ws ts there spells in
    let own = roomy w place in
    let enough = own.enough in
    let empty = held_room v (pieces_in n.arities k mid.places) none in
    let roots : occurrences x (flat_map names (map (term (of_room k n)) ws)) ≡ 0 =
    ap (λ (l : List Tree). occurrences x (flat_map names l)) (sym (terms_in_room n k ws))
    ∙ no_terms n v (map (in_room n.arities k) ws) sound (omega (arith, balance, enough, empty)) in
    let places : occurrences x (flat_map pair_names (flat_map (equations_of (of_room k n)) mid.places)) ≡ 0 =
    ap (λ (l : List Pair). occurrences x (flat_map pair_names l)) (sym (all_in_room n k mid.places))
    ∙ no_pieces n v (pieces_in n.arities k mid.places) sound (omega (arith, balance, enough, empty)) none in
    let ends = no_ends n k w mid.ends sound part place (omega (arith, balance, enough, empty)) in
    let all = net_names x terms m next done (map (term (of_room k n)) ws) (side_equations n k mid ++ others) even in
    let one = both_names x (side_equations n k mid) others in
    let two = both_names x (flat_map (equations_of (of_room k n)) mid.places) (map (end_equation n k) mid.ends) in
    let beside = own.none (omega (arith, balance, enough, empty)) in
    omega (arith, roots, places, ends, all, one, two, beside)

-- one name more occurs, twice
pub grown_twice : (x : ℕ) (c d : Configuration) → ((y : ℕ) → occurrences y (configuration_names d) ≡ occurrences y (configuration_names c) + 2 * occurrences y (x ∷ []))
    → occurrences x (configuration_names c) ≡ 0 → AreTwice c → AreTwice d
grown_twice x c d grown none twice y = at (x == y) refl
  where
    at : (b : Bool) → (x == y) ≡ b → occurrences y (configuration_names d) ≤ 2
    at true e =
        let once : occurrences y (x ∷ []) ≡ 1 = ap (λ (b : Bool). 0 + cond {A = ℕ} b 1 0) e in
        let before = transport (λ (z : ℕ). occurrences z (configuration_names c) ≡ 0) ((unsigned_Decides x y).0 e) none in
        let all = grown y in
        omega (arith, once, before, all)
    at false e =
        let never : occurrences y (x ∷ []) ≡ 0 = ap (λ (b : Bool). 0 + cond {A = ℕ} b 1 0) e in
        let before = twice y in
        let all = grown y in
        omega (arith, never, before, all)

-- A root's place, and the equation of it with what is put for it, are the two occurrences of its name.
put_counts : (y : ℕ) (n : Numbers) (k terms m next : ℕ) (done : List FlatWord) (w : Word) (us : List Tree) (t : Tree) (es fs : List Pair)
    → is_constant_tag n.arities w.tag ≡ false
    → IsPermutation es (record { left = name ((of_room k n).of_place w); right = t } ∷ fs)
    → length (over done (term (of_room k n) w ∷ us)) ≡ terms + 2 * m
    → occurrences y (configuration_names (net_of_row terms (over done (term (of_room k n) w ∷ us)) es next))
    ≡ occurrences y (configuration_names (net_of_row terms (over done (t ∷ us)) fs next)) + 2 * occurrences y ((of_room k n).of_place w ∷ [])
put_counts y n k terms m next done w us t es fs place moved even =
    let r : Tree = term (of_room k n) w in
    let x : ℕ = (of_room k n).of_place w in
    let p : Pair = record { left = name x; right = t } in
    let long : length (over done (t ∷ us)) ≡ terms + 2 * m = length-over done (t ∷ us) (r ∷ us) refl ∙ even in
    let a = net_names y terms m next done (r ∷ us) es even in
    let b = net_names y terms m next done (t ∷ us) fs long in
    let d : occurrences y (flat_map names (r ∷ us)) ≡ occurrences y (names r) + occurrences y (flat_map names us) =
    occurrences-append y (names r) (flat_map names us) in
    let e : occurrences y (flat_map names (t ∷ us)) ≡ occurrences y (names t) + occurrences y (flat_map names us) =
    occurrences-append y (names t) (flat_map names us) in
    let f = pairs_in_order y es (p ∷ fs) moved in
    let g = front_names y p fs in
    let h : occurrences y (pair_names p) ≡ occurrences y (x ∷ []) + occurrences y (names t) = occurrences-append y (x ∷ []) (names t) in
    let i : occurrences y (names r) ≡ occurrences y (x ∷ []) = ap (λ (z : Tree). occurrences y (names z)) (place_term (of_room k n) w place) in
    omega (arith, a, b, d, e, f, g, h, i)

fewer_once : (arities : List ℕ) (k : ℕ) (p : Piece) (a b : Side) → IsPermutation a.places (p ∷ b.places) → IsOnce arities k a → IsOnce arities k b
fewer_once arities k p a b taken once w =
    let all = taken_sum (holds (in_room arities k w)) arities k p a.places b.places taken in
    let few = once w in
    omega (arith, all, few)

word_itself : (w : Word) → word_eq w w ≡ true
word_itself w = rw (eq-eqb w.tag w.tag refl, eq-eqb w.index w.index refl) refl

further : (n : Numbers) (k : ℕ) (rest : Side) (done : List FlatWord) (others : List Pair) (t : Word) → AreNumbers n → IsPartRoom k
    → IsRoomy n k rest done others → IsRoomy n k rest (done ++ spelled_word n t ∷ []) others
further n k rest done others t sound part roomy w place =
    let own = roomy w place in
    record {
      beside = own.beside;
      enough = own.enough;
      none = λ e. let before = own.none e in
          let x : ℕ = (of_room k n).of_place w in
          let all = written_names x done (spelled_word n t ∷ []) in
          let one = occurrences-append x (word_names (spelled_word n t)) [] in
          let none = no_spelled n k w t sound part place in
          omega (arith, before, all, one, none);
    }

-- Where no name occurs more than twice in what is spelled, none does in what it is unpacked to.
pub spelled_twice : (n : Numbers) (k terms m next : ℕ) (others : List Pair) (done : List FlatWord) (full rest : Side) (ws ts : List Word)
    → AreNumbers n → IsPartRoom k → Spells n.arities full rest ws ts
    → length (over done (map (term (of_room k n)) ws)) ≡ terms + 2 * m
    → IsRoomy n k rest done others → IsOnce n.arities k full
    → AreTwice (roots_net n k terms (done ++ map (spelled_word n) ts) [] (side_equations n k rest ++ others) next)
    → AreTwice (roots_net n k terms done ws (side_equations n k full ++ others) next)
spelled_twice n k terms m next others done full rest ws ts sound part (nothing a b places ends) even roomy once twice =
    λ y. let moved = pairs_in_order y (side_equations n k a ++ others) (side_equations n k b ++ others) (side_order n k a b others places ends) in
    let here = net_names y terms m next done [] (side_equations n k a ++ others) even in
    let there = net_names y terms m next done [] (side_equations n k b ++ others) even in
    let same = ap (λ (l : List FlatWord). occurrences y (configuration_names (net_of_row terms (over l []) (side_equations n k b ++ others) next))) (append-nil done) in
    let few = twice y in
    omega (arith, moved, here, there, same, few)
spelled_twice n k terms m next others done full rest ws ts sound part (follow a mid b x u vs us tag places ends more) even roomy once twice =
    let r : Word → Tree = term (of_room k n) in
    let place = name_tag n.arities x.tag tag in
    let fs : List Pair = side_equations n k mid ++ others in
    let long = length-over done (r u ∷ map r vs) (r x ∷ map r vs) refl ∙ even in
    let later = spelled_twice n k terms m next others done mid b (u ∷ vs) us sound part more long roomy (fewer_once n.arities k (waits x u) a mid places once) twice in
    let held = taken_sum (holds (in_room n.arities k x)) n.arities k (waits x u) a.places mid.places places in
    let itself : cond {A = ℕ} (word_eq (in_room n.arities k x) (in_room n.arities k x)) 1 0 ≡ 1 = ap (λ (t : Bool). cond {A = ℕ} t 1 0) (word_itself (in_room n.arities k x)) in
    let most = once x in
    let none = free_place n k terms m next others done mid b x (u ∷ vs) us sound part place more long roomy (omega (arith, held, itself, most)) in
    grown_twice ((of_room k n).of_place x) (roots_net n k terms done (u ∷ vs) fs next) (roots_net n k terms done (x ∷ vs) (side_equations n k a ++ others) next)
    (λ y. put_counts y n k terms m next done x (map r vs) (r u) (side_equations n k a ++ others) fs place (side_taken n k a mid (waits x u) others places ends) even)
    none later
spelled_twice n k terms m next others done full rest ws ts sound part (opened a mid b g vs us xs is places ends more) even roomy once twice =
    let r : Word → Tree = term (of_room k n) in
    let f : FlatWord = spelled_word n (spelled_agent g) in
    let t : Tree = agent (g.tag - 1) (trees_of (map r vs)) in
    let place = agent_tag n.arities g.tag (length vs) is in
    let fs : List Pair = side_equations n k mid ++ others in
    let same = agent_row n k done g vs us is in
    let long : length (over (done ++ f ∷ []) (map r (vs ++ us))) ≡ terms + 2 * m =
    ap (length {A = Tree}) same ∙ (length-over done (t ∷ map r us) (r g ∷ map r us) refl ∙ even) in
    let beyond = further n k b done others (spelled_agent g) sound part roomy in
    let later = spelled_twice n k terms m next others (done ++ f ∷ []) mid b (vs ++ us) xs sound part more long beyond
    (fewer_once n.arities k (agent_of g vs) a mid places once)
    (transport (λ (l : List FlatWord). AreTwice (net_of_row terms (over l []) (side_equations n k b ++ others) next)) (sym (append_assoc done (f ∷ []) (map (spelled_word n) xs))) twice) in
    let held = taken_sum (holds (in_room n.arities k g)) n.arities k (agent_of g vs) a.places mid.places places in
    let itself : cond {A = ℕ} (word_eq (in_room n.arities k g) (in_room n.arities k g)) 1 0 ≡ 1 = ap (λ (t : Bool). cond {A = ℕ} t 1 0) (word_itself (in_room n.arities k g)) in
    let most = once g in
    let none = free_place n k terms m next others (done ++ f ∷ []) mid b g (vs ++ us) xs sound part place more long beyond (omega (arith, held, itself, most)) in
    let x : ℕ = (of_room k n).of_place g in
    grown_twice x (net_of_row terms (over done (t ∷ map r us)) fs next) (roots_net n k terms done (g ∷ us) (side_equations n k a ++ others) next)
    (λ y. put_counts y n k terms m next done g (map r us) t (side_equations n k a ++ others) fs place (side_taken n k a mid (agent_of g vs) others places ends) even)
    (transport (λ (l : List Tree). occurrences x (configuration_names (net_of_row terms l fs next)) ≡ 0) same none)
    (transport (λ (l : List Tree). AreTwice (net_of_row terms l fs next)) same later)
spelled_twice n k terms m next others done full rest ws ts sound part (plain a b w vs us is more) even roomy once twice =
    let r : Word → Tree = term (of_room k n) in
    let f : FlatWord = spelled_word n w in
    let fs : List Pair = side_equations n k a ++ others in
    let same = plain_row n k done w (map r vs) is in
    let long : length (over (done ++ f ∷ []) (map r vs)) ≡ terms + 2 * m = ap (length {A = Tree}) same ∙ even in
    let later = spelled_twice n k terms m next others (done ++ f ∷ []) a b vs us sound part more long (further n k b done others w sound part roomy) once
    (transport (λ (l : List FlatWord). AreTwice (net_of_row terms (over l []) (side_equations n k b ++ others) next)) (sym (append_assoc done (f ∷ []) (map (spelled_word n) us))) twice) in
    transport (λ (l : List Tree). AreTwice (net_of_row terms l fs next)) same later
spelled_twice n k terms m next others done full rest ws ts sound part (cut a mid b e vs us places ends more) even roomy once twice =
    let r : Word → Tree = term (of_room k n) in
    let f : FlatWord = spelled_word n (name_word e.cut) in
    let c : ℕ = cut_number n e.cut in
    let x : ℕ = (of_room k n).of_place (end_word e) in
    let es : List Pair = side_equations n k a ++ others in
    let fs : List Pair = side_equations n k mid ++ others in
    let same = cut_row n e.cut done (map r vs) in
    let short : length (over done (name c ∷ map r vs)) ≡ terms + 2 * m = length-over done (name c ∷ map r vs) (name x ∷ map r vs) refl ∙ even in
    let long : length (over (done ++ f ∷ []) (map r vs)) ≡ terms + 2 * m = ap (length {A = Tree}) same ∙ short in
    let once_too : IsOnce n.arities k mid = (λ w. let kept = ordered_sum (holds (in_room n.arities k w)) n.arities k a.places mid.places places in let few = once w in omega (arith, kept, few)) in
    let later = spelled_twice n k terms m next others (done ++ f ∷ []) mid b vs us sound part more long (further n k b done others (name_word e.cut) sound part roomy) once_too
    (transport (λ (l : List FlatWord). AreTwice (net_of_row terms (over l []) (side_equations n k b ++ others) next)) (sym (append_assoc done (f ∷ []) (map (spelled_word n) us))) twice) in
    let moved = end_taken n k mid a e others (IsPermutation-sym a.places mid.places places) (IsPermutation-sym (e ∷ a.ends) mid.ends ends) in
    λ y. let grown = begun_counts y terms m next x c done (map r vs) es fs moved even in
    let few : occurrences y (configuration_names (net_of_row terms (over done (name c ∷ map r vs)) fs next)) ≤ 2 =
    transport (λ (l : List Tree). occurrences y (configuration_names (net_of_row terms l fs next)) ≤ 2) same (later y) in
    omega (arith, grown, few)
spelled_twice n k terms m next others done full rest ws ts sound part (gone a mid b e vs us places ends more) even roomy once twice =
    let r : Word → Tree = term (of_room k n) in
    let f : FlatWord = spelled_word n (name_word e.cut) in
    let c : ℕ = cut_number n e.cut in
    let x : ℕ = (of_room k n).of_place (end_word e) in
    let es : List Pair = side_equations n k a ++ others in
    let fs : List Pair = side_equations n k mid ++ others in
    let same = cut_row n e.cut done (map r vs) in
    let short : length (over done (name c ∷ map r vs)) ≡ terms + 2 * m = length-over done (name c ∷ map r vs) (name x ∷ map r vs) refl ∙ even in
    let long : length (over (done ++ f ∷ []) (map r vs)) ≡ terms + 2 * m = ap (length {A = Tree}) same ∙ short in
    let beyond = further n k b done others (name_word e.cut) sound part roomy in
    let once_too = fewer_once n.arities k (idle (end_word e)) a mid places once in
    let later = spelled_twice n k terms m next others (done ++ f ∷ []) mid b vs us sound part more long beyond once_too
    (transport (λ (l : List FlatWord). AreTwice (net_of_row terms (over l []) (side_equations n k b ++ others) next)) (sym (append_assoc done (f ∷ []) (map (spelled_word n) us))) twice) in
    let held = taken_sum (holds (end_in n.arities k e)) n.arities k (idle (end_word e)) a.places mid.places places in
    let itself : cond {A = ℕ} (word_eq (end_in n.arities k e) (end_in n.arities k e)) 1 0 ≡ 1 = ap (λ (t : Bool). cond {A = ℕ} t 1 0) (word_itself (end_in n.arities k e)) in
    let most = once (end_word e) in
    let none = free_place n k terms m next others (done ++ f ∷ []) mid b (end_word e) vs us sound part refl more long beyond (omega (arith, held, itself, most)) in
    let full_side : Side = record { places = idle (end_word e) ∷ mid.places; ends = e ∷ mid.ends } in
    let moved : IsPermutation es (end_equation n k e ∷ fs) =
    IsPermutation-trans es (side_equations n k full_side ++ others) (end_equation n k e ∷ fs) (side_order n k a full_side others places ends)
    (end_taken n k (record { places = mid.places; ends = e ∷ mid.ends }) mid e others (IsPermutation-refl mid.places) (IsPermutation-refl (e ∷ mid.ends))) in
    grown_twice x (net_of_row terms (over done (name c ∷ map r vs)) fs next) (roots_net n k terms done (end_word e ∷ vs) es next)
    (λ y. put_counts y n k terms m next done (end_word e) (map r vs) (name c) es fs refl moved even)
    (transport (λ (l : List Tree). occurrences x (configuration_names (net_of_row terms l fs next)) ≡ 0) same none)
    (transport (λ (l : List Tree). AreTwice (net_of_row terms l fs next)) same later)
