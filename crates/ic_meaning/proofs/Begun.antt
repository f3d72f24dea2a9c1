-- Lemmas: what a plan of a configuration makes is the net of that.
use Rattle.std.proofs.Common.{◌≡◌, ℕ, zero, suc, ◌+◌, ◌*◌, ◌-◌, ◌≤◌, ◌<◌, ◌==◌, List, [], ◌∷◌, ◌++◌, Bool, true, false, cond, Option, None, Some, length, map, slice_get, slice_index_or, sum_by, count_by, refl, sym, ap, ◌∙◌, eq-eqb, arith, zero-add, inl, inr, append_assoc, append-nil, subst as transport, true≢false as true_false}
use Rattle.std.proofs.lemmas.Bool.{ne_eqb, lt-ltb, le-ltb, cases_lt}
use Rattle.std.proofs.lemmas.List.{length-append, get_or-append-add}
use Rattle.std.proofs.lemmas.List.FromFn.{length-map-range_with_len, get_or-map-range_with_len}
use Rattle.std.proofs.lemmas.List.Sums.{sum_by-cons, sum_by-append}
use Rattle.std.proofs.lemmas.List.Sorted.{IsPermutation-sym}
use Rattle.std.proofs.lemmas.Option.{slice_get_past}
use Rattle.std.proofs.Math.ListN.{get_or-append}
use Rattle.std.specs.Cmp.{unsigned_Decides}
use Rattle.std.specs.List.{flat_map, range_with_len, AllByRecursion}
use Rattle.std.specs.Option.{option_map_or}
use Rattle.ic_term.specs.Tree.{Tree, name, agent, no_trees, trees_of, Pair}
use Rattle.ic_term.specs.Configuration.{Configuration, names_in, occurrences, one_above}
use Rattle.ic_settle.specs.lemmas.SubstitutionLaws.{occurrences-append, occurrences-cons}
use Rattle.ic_round.specs.Naming.{HasNames}
use Rattle.ic_reaching.specs.OneNet.{OneNet}
use Rattle.ic_arena.specs.declared.word.Word.{Word}
use Rattle.ic_arena.specs.declared.word.TheConstants.{NAME, GIVEN}
use Rattle.ic_arena.specs.Word.{name_word, word_eq, count}
use Rattle.ic_arena.specs.Piece.{Piece, idle}
use Rattle.ic_arena.specs.Tables.{register}
use Rattle.ic_machine.specs.declared.plan.Link.{Link}
use Rattle.ic_machine.specs.Plan.{Made, Planned, IsPlan, AreMade, constants, made_each, linked, link_operands, operands_of, pieces_made}
use Rattle.ic_machine.specs.Runs.{given_words, Begins}
use Rattle.ic_machine.specs.Separate.{IsSeparate, is_constant_tag}
use Rattle.ic_machine.specs.Steps.{AreFresh}
use Rattle.ic_meaning.specs.Words.{Numbers, AreNumbers, term}
use Rattle.ic_meaning.specs.Nets.{equations_of, net_of, IsPiece, ArePieces, AreNetPieces}
use Rattle.ic_meaning.specs.Plans.{held_with, held_made, linked_terms, equations_made, named_terms, first_made, StandsForNet}
use Rattle.ic_meaning.proofs.Given.{NetLaws}
use Rattle.ic_meaning.proofs.Once.{HoldOnce, made_once}
use Rattle.ic_meaning.specs.lemmas.Orders.{all_front, all_back}
use Rattle.ic_meaning.proofs.Reached.{idle_pieces, agent_pieces, link_pieces}
use Rattle.ic_meaning.specs.lemmas.Terms.{same_word, word_itself, name_tag, agent_tag, place_term}
use Rattle.ic_meaning.proofs.Made.{UsedFrom, used_from}
use Rattle.ic_meaning.proofs.Registers.{register_back, register_front, held_in, registers_of, held_constant, held_later, all_at, place_below, counted}
use Rattle.ic_meaning.proofs.Taken.{made_pieces, read_from, take_made}
use Rattle.ic_meaning.proofs.Wholes.{higher_all, to_configured}
use Rattle.ic_meaning.proofs.Settings.{FreeWord}
use Rattle.ic_meaning.proofs.Fired.{fresh_once}
use Rattle.ic_meaning.proofs.Fires.{made_agent, plan_equations, registers_held, used_held, places_from}
use Rattle.ic_machine.specs.lemmas.FiringKeeps.{all_append}

-- ---- numbers of places

-- one number for two
pub pair_number : ℕ → ℕ → ℕ
pair_number zero i = 2 * i
pair_number (suc t) i = 2 * pair_number t i + 1

pair_apart : (s t i j : ℕ) → pair_number s i ≡ pair_number t j → (s ≡ t) × (i ≡ j)
unfolding pair_number
pair_apart zero zero i j e = (refl, omega arith)
pair_apart zero (suc t) i j e = absurd (omega arith)
pair_apart (suc s) zero i j e = absurd (omega arith)
pair_apart (suc s) (suc t) i j e =
    let rest = pair_apart s t i j (omega arith) in
    (ap suc rest.0, rest.1)

-- The first places have these numbers, and the others numbers from a base on.
abbrev pub place_number : ℕ → List Word → List ℕ → Word → ℕ
place_number base [] xs w = base + pair_number w.tag w.index
place_number base (v ∷ vs) [] w = base + pair_number w.tag w.index
place_number base (v ∷ vs) (x ∷ xs) w = cond (word_eq w v) x (place_number base vs xs w)

other_number : (base : ℕ) (vs : List Word) (xs : List ℕ) (w : Word) (y : ℕ) → y < base → occurrences y xs ≡ 0 → place_number base vs xs w ≡ y → ⊥
other_number base [] xs w y low none same = absurd (omega arith)
other_number base (v ∷ vs) [] w y low none same = absurd (omega arith)
other_number base (v ∷ vs) (x ∷ xs) w y low none same =
    at (word_eq w v) refl (other_number base vs xs w y low (let first = occurrences-cons y x xs in omega arith))
  where
    at : (b : Bool) → word_eq w v ≡ b → (place_number base vs xs w ≡ y → ⊥) → ⊥
    at true e rest =
        let is : x ≡ y = sym (ap (λ (b : Bool). cond b x (place_number base vs xs w)) e) ∙ same in
        let first = occurrences-cons y x xs in
        let here : ◌≡◌ {A = ℕ} (cond (x == y) 1 0) 1 = rw (eq-eqb x y is) refl in
        absurd (omega arith)
    at false e rest = rest (sym (ap (λ (b : Bool). cond b x (place_number base vs xs w)) e) ∙ same)

code_same : (base : ℕ) (v w : Word) → base + pair_number v.tag v.index ≡ base + pair_number w.tag w.index → word_eq v w ≡ true
code_same base v w same =
    let both = pair_apart v.tag w.tag v.index w.index (omega arith) in
    rw (eq-eqb v.tag w.tag both.0, eq-eqb v.index w.index both.1) refl

apart_numbers : (base : ℕ) (vs : List Word) (xs : List ℕ) → AllByRecursion (λ x. x < base) xs → ((x : ℕ) → occurrences x xs ≤ 1)
    → (v w : Word) → place_number base vs xs v ≡ place_number base vs xs w → word_eq v w ≡ true
apart_numbers base [] xs low once v w same = code_same base v w same
apart_numbers base (u ∷ us) [] low once v w same = code_same base v w same
apart_numbers base (u ∷ us) (x ∷ xs) low once v w same =
    at (word_eq v u) (word_eq w u) refl refl
    (apart_numbers base us xs low.1 (λ y. let first = occurrences-cons y x xs in let few = once y in omega arith) v w)
  where
    none : occurrences x xs ≡ 0
    none =
        let first = occurrences-cons x x xs in
        let here : ◌≡◌ {A = ℕ} (cond (x == x) 1 0) 1 = rw (eq-eqb x x refl) refl in
        let few = once x in
        omega arith

    at : (b c : Bool) → word_eq v u ≡ b → word_eq w u ≡ c → (place_number base us xs v ≡ place_number base us xs w → word_eq v w ≡ true) → word_eq v w ≡ true
    at true true e f rest = transport (λ (z : Word). word_eq v z ≡ true) (sym (same_word w u f)) e
    at true false e f rest =
        absurd (other_number base us xs w x low.0 none
        (sym (ap (λ (b : Bool). cond b x (place_number base us xs w)) f) ∙ (sym same ∙ ap (λ (b : Bool). cond b x (place_number base us xs v)) e)))
    at false true e f rest =
        absurd (other_number base us xs v x low.0 none
        (sym (ap (λ (b : Bool). cond b x (place_number base us xs v)) e) ∙ (same ∙ ap (λ (b : Bool). cond b x (place_number base us xs w)) f)))
    at false false e f rest =
        rest
        (sym (ap (λ (b : Bool). cond b x (place_number base us xs v)) e) ∙ (same ∙ ap (λ (b : Bool). cond b x (place_number base us xs w)) f))

-- the number of a first place
first_number : (base : ℕ) (vs : List Word) (xs : List ℕ) (rest : List Piece) (j : ℕ) → length vs ≡ length xs → AreFresh vs rest → j < length vs
    → place_number base vs xs (register vs j) ≡ slice_index_or xs j 0
first_number base [] xs rest j same fresh low = absurd (omega arith)
first_number base (v ∷ vs) [] rest j same fresh low = absurd (omega arith)
first_number base (v ∷ vs) (x ∷ xs) rest zero same fresh low = ap (λ (b : Bool). cond b x (place_number base vs xs v)) (word_itself v)
first_number base (v ∷ vs) (x ∷ xs) rest (suc j) same fresh low = at (word_eq (register vs j) v) refl (first_number base vs xs rest j (omega arith) fresh.2 (omega arith))
  where
    at : (b : Bool) → word_eq (register vs j) v ≡ b → place_number base vs xs (register vs j) ≡ slice_index_or xs j 0
        → cond (word_eq (register vs j) v) x (place_number base vs xs (register vs j)) ≡ slice_index_or xs j 0
    at false e later = ap (λ (b : Bool). cond b x (place_number base vs xs (register vs j))) e ∙ later
    at true e later =
        let back : word_eq v (register vs j) ≡ true = transport (λ (z : Word). word_eq z (register vs j) ≡ true) (same_word (register vs j) v e) (word_itself (register vs j)) in
        let some = counted v vs j (omega arith) back in
        let none = fresh.1 in
        absurd (omega arith)

-- ---- terms that registers hold alike

made_alike : (arities : List ℕ) (k : ℕ) (ms : List Made) (f g : ℕ → Tree) → ((j : ℕ) → j < k → f j ≡ g j) → AreMade arities k ms
    → (j : ℕ) → j < k + length ms → held_made k ms f j ≡ held_made k ms g j
made_alike arities k [] f g same made j low = same j (omega arith)
made_alike arities k (m ∷ ms) f g same made j low =
    made_alike arities (k + 1) ms (held_with k (agent m.symbol (trees_of (map f m.operands))) f) (held_with k (agent m.symbol (trees_of (map g m.operands))) g)
    with_same made.1 j (omega arith)
  where
    operands_same : (os : List ℕ) → AllByRecursion (λ o. o < k) os → map f os ≡ map g os
    operands_same [] all = refl
    operands_same (o ∷ os) all = λ i. same o all.0 i ∷ operands_same os all.1 i

    with_same : (i : ℕ) → i < k + 1 → held_with k (agent m.symbol (trees_of (map f m.operands))) f i ≡ held_with k (agent m.symbol (trees_of (map g m.operands))) g i
    with_same i less = at (i == k) refl
      where
        at : (b : Bool) → (i == k) ≡ b → cond b (agent m.symbol (trees_of (map f m.operands))) (f i) ≡ cond b (agent m.symbol (trees_of (map g m.operands))) (g i)
        at true e = ap (λ ts. agent m.symbol (trees_of ts)) (operands_same m.operands made.0.2)
        at false e =
            let other : i ≡ k → ⊥ = (λ is. true_false (sym ((unsigned_Decides i k).1 is) ∙ e)) in
            same i (omega arith)
          where
            true_false : true ≡ false → ⊥
            true_false e = cc

held_alike : (bound : ℕ) (f g : ℕ → Tree) → ((j : ℕ) → j < bound → f j ≡ g j) → (os : List ℕ) → AllByRecursion (λ o. o < bound) os → map f os ≡ map g os
held_alike bound f g same [] all = refl
held_alike bound f g same (o ∷ os) all = λ i. same o all.0 i ∷ held_alike bound f g same os all.1 i

links_alike : (bound : ℕ) (f g : ℕ → Tree) → ((j : ℕ) → j < bound → f j ≡ g j) → (ls : List Link) → AllByRecursion (λ o. o < bound) (flat_map link_operands ls)
    → map (linked_terms f) ls ≡ map (linked_terms g) ls
links_alike bound f g same [] all = refl
links_alike bound f g same (l ∷ ls) all =
    let left = same l.left all.0 in
    let right = same l.right all.1.0 in
    let rest = links_alike bound f g same ls all.1.1 in
    λ i. record { left = left i; right = right i } ∷ rest i

-- ---- the first net

given_at : (ns : List ℕ) (i : ℕ) → i < length ns → slice_get ns i ≡ Some (slice_index_or ns i 0)
given_at [] i low = absurd (omega arith)
given_at (n ∷ ns) zero low = refl
given_at (n ∷ ns) (suc i) low = given_at ns i (omega arith)

all_got : (P : ℕ → Type 0) (ns : List ℕ) (i x : ℕ) → slice_get ns i ≡ Some x → AllByRecursion P ns → P x
all_got P [] i x is all = absurd (none_some is)
  where
    none_some : {x : ℕ} → None ≡ Some x → ⊥
    none_some e = cc
all_got P (n ∷ ns) zero x is all = let same : n ≡ x = cc in transport P same all.0
all_got P (n ∷ ns) (suc i) x is all = all_got P ns i x is all.1

some_got : (ns : List ℕ) (i x : ℕ) → slice_get ns i ≡ Some x → 1 ≤ occurrences x ns
some_got [] i x is = absurd (none_some is)
  where
    none_some : {x : ℕ} → None ≡ Some x → ⊥
    none_some e = cc
some_got (n ∷ ns) zero x is =
    let same : n ≡ x = cc in
    let first = occurrences-cons x n ns in
    let here : ◌≡◌ {A = ℕ} (cond (n == x) 1 0) 1 = rw (eq-eqb n x same) refl in
    omega arith
some_got (n ∷ ns) (suc i) x is =
    let first = occurrences-cons x n ns in
    let rest = some_got ns i x is in
    omega arith

pub first_sound : (arities given : List ℕ) (base : ℕ) (vs : List Word) (xs : List ℕ) → length arities < GIVEN → AllByRecursion (λ x. x < base) (given ++ xs)
    → ((x : ℕ) → occurrences x (given ++ xs) ≤ 1) → AreNumbers (record { arities = arities; given = given; of_place = place_number base vs xs })
first_sound arities given base vs xs few low once = record {
  apart = apart_numbers base vs xs (all_back (λ x. x < base) given xs low) (λ x. let both = occurrences-append x given xs in let one = once x in omega arith);
  not_given = λ i x w is same.
      let both = occurrences-append x given xs in
      let one = once x in
      let some = some_got given i x is in
      other_number base vs xs w x (all_got (λ y. y < base) given i x is (all_front (λ y. y < base) given xs low)) (omega arith) same;
  few = few;
}

pub given_length : (count : ℕ) → length (given_words count) ≡ count
given_length count = length-map-range_with_len (λ i. record { tag = GIVEN; index = i }) 0 count

given_word : (count i : ℕ) → i < count → register (given_words count) i ≡ record { tag = GIVEN; index = i }
given_word count i low = get_or-map-range_with_len (λ j. record { tag = GIVEN; index = j }) 0 count i i (name_word 0) low (zero-add i)

given_none : (w : Word) (a count : ℕ) → (w.tag ≡ GIVEN → ⊥) → sum_by (λ v. cond (word_eq w v) 1 0) (map (λ i. record { tag = GIVEN; index = i }) (range_with_len a count)) ≡ 0
given_none w a zero other = refl
given_none w a (suc count) other =
    let v : Word = record { tag = GIVEN; index = a } in
    let first = sum_by-cons (λ u. cond (word_eq w u) 1 0) v (map (λ i. record { tag = GIVEN; index = i }) (range_with_len (a + 1) count)) in
    let rest = given_none w (a + 1) count other in
    let here : ◌≡◌ {A = ℕ} (cond (word_eq w v) 1 0) 0 = rw (ne_eqb w.tag GIVEN other) refl in
    omega arith

given_constant : (arities : List ℕ) → length arities < GIVEN → is_constant_tag arities GIVEN ≡ true
given_constant arities few =
    ap (λ (o : Option ℕ). option_map_or (λ k. k == 0) o true) (slice_get_past arities 4294967292 (omega arith))

-- the term of a given name
given_term : (n : Numbers) (i : ℕ) → AreNumbers n → i < length n.given → term n (record { tag = GIVEN; index = i }) ≡ name (slice_index_or n.given i 0)
given_term n i sound low = rw (given_constant n.arities sound.few, given_at n.given i low) refl

pub named_low : (count : ℕ) (ns : List ℕ) (k : ℕ) → k < count → named_terms count ns k ≡ agent k no_trees
named_low count ns k low = rw (lt-ltb k count low) refl

pub named_high : (count : ℕ) (ns : List ℕ) (i : ℕ) → named_terms count ns (count + i) ≡ name (slice_index_or ns i 0)
named_high count ns i =
    let place : (count + i) - count ≡ i = omega arith in
    rw (le-ltb (count + i) count (omega arith), place) refl

-- registers below those of agents hold names and constants
held_named : (n : Numbers) (vs ms : List Word) (xs : List ℕ) (count : ℕ) → AreNumbers n → length vs ≡ length xs
    → ((j : ℕ) → j < length vs → is_constant_tag n.arities (register vs j).tag ≡ false) → ((j : ℕ) → j < length vs → n.of_place (register vs j) ≡ slice_index_or xs j 0)
    → count ≡ length n.given → (k : ℕ) → k < length n.arities + count + length vs
    → held_in n (registers_of n (given_words count ++ (vs ++ ms))) k ≡ named_terms (length n.arities) (n.given ++ xs) k
held_named n vs ms xs count sound same kinds numbers is k low = elim (cases_lt k (length n.arities)) [
  | inl constant ↦
      held_constant n (registers_of n (given_words count ++ (vs ++ ms))) k constant
      ∙ sym (named_low (length n.arities) (n.given ++ xs) k constant)
  | inr high ↦
      let split : length n.arities + (k - length n.arities) ≡ k = omega arith in
      ap (held_in n (registers_of n (given_words count ++ (vs ++ ms)))) (sym split)
      ∙ (held_later n (given_words count ++ (vs ++ ms)) (k - length n.arities)
      ∙ (word_at (k - length n.arities) (omega arith)
      ∙ (sym (named_high (length n.arities) (n.given ++ xs) (k - length n.arities)) ∙ ap (named_terms (length n.arities) (n.given ++ xs)) split)))
]
  where
    word_at : (i : ℕ) → i < count + length vs → term n (register (given_words count ++ (vs ++ ms)) i) ≡ name (slice_index_or (n.given ++ xs) i 0)
    word_at i less = elim (cases_lt i count) [
      | inl inside ↦
          let len = given_length count in
          ap (term n) (register_front (given_words count) (vs ++ ms) i (omega arith) ∙ given_word count i inside)
          ∙ (given_term n i sound (omega arith)
          ∙ ap name (sym (get_or-append n.given xs 0 i (omega arith))))
      | inr past ↦
          let j : ℕ = i - count in
          let len = given_length count in
          let inside : j < length vs = omega arith in
          let place : length (given_words count) + j ≡ i = omega arith in
          let place_too : length n.given + j ≡ i = omega arith in
          ap (λ (z : ℕ). term n (register (given_words count ++ (vs ++ ms)) z)) (sym place)
          ∙ (ap (term n) (register_back (given_words count) (vs ++ ms) j ∙ register_front vs ms j inside)
          ∙ (place_term n (register vs j) (kinds j inside)
          ∙ (ap name (numbers j inside) ∙ ap name (sym (get_or-append-add n.given xs j 0) ∙ ap (λ (z : ℕ). slice_index_or (n.given ++ xs) z 0) place_too))))
    ]

begun_free : (n : Numbers) (vs ms : List Word) (many : ℕ) → AreNumbers n → AreFresh (vs ++ ms) [] → (j : ℕ) → j < length ms → is_constant_tag n.arities (register ms j).tag ≡ false
    → FreeWord n (record { interface = []; equations = []; next = 0 }) [] [] (given_words many ++ (vs ++ ms)) (register ms j)
begun_free n vs ms many sound fresh j low kind =
    let w : Word = register ms j in
    let len = length-append vs ms in
    let once = fresh_once (vs ++ ms) [] fresh (length vs + j) (omega arith) in
    let is : register (vs ++ ms) (length vs + j) ≡ w = register_back vs ms j in
    let here : count w (vs ++ ms) ≡ 1 = ap (λ (v : Word). count v (vs ++ ms)) (sym is) ∙ once in
    let none : count w (given_words many) ≡ 0 = given_none w 0 many (λ e. true_false (sym (given_constant n.arities sound.few) ∙ (ap (is_constant_tag n.arities) (sym e) ∙ kind))) in
    let parts = sum_by-append (λ v. cond (word_eq w v) 1 0) (given_words many) (vs ++ ms) in
    record { place = kind; absent = refl; beside = refl; once = omega arith }

fresh_front : (vs ms : List Word) → AreFresh (vs ++ ms) [] → AreFresh vs []
fresh_front [] ms fresh = tt
fresh_front (v ∷ vs) ms fresh =
    let parts = sum_by-append (λ u. cond (word_eq v u) 1 0) vs ms in
    let none = fresh.1 in
    (refl, (let h : sum_by (λ u. cond (word_eq v u) 1 0) vs ≡ 0 = omega arith in h), fresh_front vs ms fresh.2)

pub tags_length : (ms : List Made) (vs : List Word) → map (λ v. v.tag) vs ≡ map (λ m. m.symbol + 1) ms → length vs ≡ length ms
tags_length [] [] e = refl
tags_length [] (v ∷ vs) e = absurd (list_apart e)
  where
    list_apart : {x : ℕ} {xs : List ℕ} → x ∷ xs ≡ [] → ⊥
    list_apart e = cc
tags_length (m ∷ ms) [] e = absurd (list_apart e)
  where
    list_apart : {x : ℕ} {xs : List ℕ} → [] ≡ x ∷ xs → ⊥
    list_apart e = cc
tags_length (m ∷ ms) (v ∷ vs) e =
    let rest : map (λ (u : Word). u.tag) vs ≡ map (λ (k : Made). k.symbol + 1) ms = cc in
    ap suc (tags_length ms vs rest)

-- registers below those of agents hold what stands for the configuration
pub begun_alike : (arities given : List ℕ) (c : Configuration) (p : Planned) (operands : List ℕ) (interface : List Word) (ps : List Piece)
    → (s : StandsForNet arities given c p operands) → (b : Begins arities (length given) p operands interface ps)
    → AreNumbers (record { arities = arities; given = given; of_place = place_number c.next b.names s.names })
    → (j : ℕ) → j < first_made arities (length given) p
    → held_in (record { arities = arities; given = given; of_place = place_number c.next b.names s.names })
    (registers_of (record { arities = arities; given = given; of_place = place_number c.next b.names s.names }) (given_words (length given) ++ (b.names ++ b.made))) j
    ≡ named_terms (length arities) (given ++ s.names) j
begun_alike arities given c p operands interface ps s b sound j low =
    let n : Numbers = record { arities = arities; given = given; of_place = place_number c.next b.names s.names } in
    let same_count : length b.names ≡ length s.names = b.names_count ∙ sym s.count in
    let names_fresh = fresh_front b.names b.made b.fresh in
    let kinds : (i : ℕ) → i < length b.names → is_constant_tag arities (register b.names i).tag ≡ false =
    (λ i less. name_tag arities (register b.names i).tag (all_at (λ v. v.tag ≡ NAME) b.names i less b.name_tags)) in
    let numbers : (i : ℕ) → i < length b.names → n.of_place (register b.names i) ≡ slice_index_or s.names i 0 =
    (λ i less. first_number c.next b.names s.names [] i same_count names_fresh less) in
    let names_count = b.names_count in
    held_named n b.names b.made s.names (length given) sound same_count kinds numbers refl j (omega arith)

pub begun_one : NetLaws → (arities given : List ℕ) (c : Configuration) (p : Planned) (operands : List ℕ) (interface : List Word) (ps : List Piece)
    → length arities < GIVEN → HasNames c → IsPlan arities (length given) p → (s : StandsForNet arities given c p operands) → (b : Begins arities (length given) p operands interface ps)
    → AreNumbers (record { arities = arities; given = given; of_place = place_number c.next b.names s.names })
    → OneNet c (net_of (record { arities = arities; given = given; of_place = place_number c.next b.names s.names }) interface ps)
begun_one laws arities given c p operands interface ps few named plan s b sound =
    let n : Numbers = record { arities = arities; given = given; of_place = place_number c.next b.names s.names } in
    let g : ℕ = length given in
    let later : List Word = given_words g ++ (b.names ++ b.made) in
    let rs : List Word = registers_of n later in
    let held : ℕ → Tree = held_in n rs in
    let terms : ℕ → Tree = named_terms (length arities) (given ++ s.names) in
    let k : ℕ = first_made arities g p in
    let next : ℕ = c.next + one_above (map n.of_place b.made) in
    let names_count = b.names_count in
    let alike : (j : ℕ) → j < k → held j ≡ terms j = begun_alike arities given c p operands interface ps s b sound in
    let made_same : (j : ℕ) → j < k + length p.made → held_made k p.made held j ≡ held_made k p.made terms j =
    made_alike arities k p.made held terms alike plan.made in
    let interface_same = held_alike (k + length p.made) (held_made k p.made held) (held_made k p.made terms) made_same operands s.within in
    let links_same = links_alike (k + length p.made) (held_made k p.made held) (held_made k p.made terms) made_same p.links plan.links in
    let start : Configuration = record c { next = next } in
    let first : OneNet c start = laws.next c next named (record { below = higher_all c.next next (names_in c.interface c.equations) (omega arith) named.below; twice = named.twice }) in
    let es : List Pair = equations_made k p terms in
    let ordered : Configuration = record start { equations = es } in
    let second : OneNet start ordered = laws.order start es first.names_too (IsPermutation-sym es c.equations s.equations) in
    let whole : Configuration = read_from (held_made k p.made held) [] operands p.links [] next in
    let is : ordered ≡ whole =
    (λ i. record {
      interface = (sym s.interface_is ∙ sym interface_same) i;
      equations = (sym links_same ∙ sym (append-nil (map (linked_terms (held_made k p.made held)) p.links))) i;
      next = next;
    }) in
    let to_whole : OneNet c whole = transport (OneNet c) is (laws.through c start ordered first second) in
    let made_kind : (j : ℕ) → j < length b.made → is_constant_tag arities (register b.made j).tag ≡ false =
    (λ j low. let agent = made_agent arities k p.made b.made b.made_tags plan.made j low in agent_tag arities (register b.made j).tag agent.0 agent.1) in
    let made_count : length b.made ≡ length p.made = tags_length p.made b.made b.made_tags in
    let glen = given_length g in
    let len = length-append b.names b.made in
    let all = length-append (given_words g) (b.names ++ b.made) in
    let at : (j : ℕ) → register later (length (given_words g) + (length b.names + j)) ≡ register b.made j =
    (λ j. register_back (given_words g) (b.names ++ b.made) (length b.names + j) ∙ register_back b.names b.made j) in
    let places = places_from n (record { interface = []; equations = []; next = 0 }) [] [] next later p.made b.made (length (given_words g) + length b.names) k sound
    (omega arith) made_count (omega arith)
    (λ j low. begun_free n b.names b.made g sound b.fresh j low (made_kind j low))
    (λ j low none. let agent = made_agent arities k p.made b.made b.made_tags plan.made j low in let tag_is = agent.1.is in omega arith)
    (λ j low. let below = place_below n.of_place b.made j low in omega arith)
    (λ j low. let split : (length (given_words g) + length b.names) + j ≡ length (given_words g) + (length b.names + j) = omega arith in ap (register later) split ∙ at j) in
    let used : UsedFrom k p.made (flat_map link_operands p.links ++ operands) =
    used_from arities k p.made (flat_map link_operands p.links ++ operands) plan.made
    (λ j low. ap (count_by (λ m. m == k + j)) (sym (append_assoc (flat_map (λ (m : Made). m.operands) p.made) (flat_map link_operands p.links) operands)) ∙ s.used j low) in
    let taken = take_made laws arities [] operands p.links next k p.made (map n.of_place b.made) [] held places used plan.made to_whole.names_too in
    let loose : List Pair = made_pieces held p.made (map n.of_place b.made) ++ (map (linked_terms held) p.links ++ []) in
    let to_loose : OneNet c (record { interface = map held operands; equations = loose; next = next }) =
    laws.through c whole (record { interface = map held operands; equations = loose; next = next }) to_whole taken in
    let equations = plan_equations n rs held p b.names b.made b.made_tags (used_held n later (operands_of p) sound plan.constant) in
    let joined : loose ≡ flat_map (equations_of n) (pieces_made p rs b.names b.made) =
    ap (λ l. made_pieces held p.made (map n.of_place b.made) ++ l) (append-nil (map (linked_terms held) p.links)) ∙ sym equations in
    let words : map held operands ≡ map (term n) (map (register rs) operands) = sym (registers_held n rs held operands (used_held n later operands sound s.constant)) in
    let last : Configuration = record { interface = map (term n) (map (register rs) operands); equations = flat_map (equations_of n) (pieces_made p rs b.names b.made); next = next } in
    let to_last : OneNet c last =
    transport (OneNet c) (λ i. record { interface = words i; equations = joined i; next = next }) to_loose in
    let net = to_configured laws c last.interface last.equations next to_last in
    transport (λ (w : List Word). OneNet c (net_of n w ps)) (sym b.interface_is)
    (transport (λ (l : List Piece). OneNet c (net_of n (map (register rs) operands) l)) (sym b.pieces) net)

pub begun_net : NetLaws → (arities given : List ℕ) (c : Configuration) (p : Planned) (operands : List ℕ) (interface : List Word) (ps : List Piece)
    → length arities < GIVEN → HasNames c → IsPlan arities (length given) p → StandsForNet arities given c p operands → Begins arities (length given) p operands interface ps
    → (n : Numbers) × (n.arities ≡ arities) × (n.given ≡ given) × AreNumbers n × OneNet c (net_of n interface ps)
begun_net laws arities given c p operands interface ps few named plan s b =
    let n : Numbers = record { arities = arities; given = given; of_place = place_number c.next b.names s.names } in
    let sound : AreNumbers n = first_sound arities given c.next b.names s.names few s.below s.once in
    (n, refl, refl, sound, begun_one laws arities given c p operands interface ps few named plan s b sound)

pub begun_pieces : (arities : List ℕ) (given : ℕ) (p : Planned) (operands : List ℕ) (interface : List Word) (ps : List Piece) → IsPlan arities given p
    → Begins arities given p operands interface ps → IsSeparate arities interface ps → AreNetPieces arities interface ps
begun_pieces arities given p operands interface ps plan b separate =
    let rs : List Word = constants (length arities) ++ (given_words given ++ (b.names ++ b.made)) in
    let each : ArePieces arities (pieces_made p rs b.names b.made) =
    all_append (IsPiece arities) (map idle b.names) (made_each rs p.made b.made ++ map (linked rs) p.links) (idle_pieces arities b.names b.name_tags)
    (all_append (IsPiece arities) (made_each rs p.made b.made) (map (linked rs) p.links)
    (agent_pieces arities (length arities + given + p.names) rs p.made b.made b.made_tags plan.made) (link_pieces arities rs p.links)) in
    record {
      each = transport (ArePieces arities) (sym b.pieces) each;
      separate = separate;
      once = transport HoldOnce (sym b.pieces) (made_once p rs b.names b.made b.fresh);
    }
