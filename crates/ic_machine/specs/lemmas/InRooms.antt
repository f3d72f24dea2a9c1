-- Steps of one machine are steps of all: its places are in a room of their own, and what is in other rooms stays.
use Rattle.std.proofs.Common.{◌≡◌, ℕ, suc, ◌+◌, ◌-◌, ◌*◌, ◌<◌, ◌≤◌, ◌==◌, ◌&&◌, inl, inr, List, [], ◌∷◌, ◌++◌, Bool, true, false, cond, length, map, refl, ap, sym, subst, ◌∙◌, append_assoc, zero-add, add-one, eq-eqb, arith, sum_by, slice_get, slice_index_or, drop, Option, Some, IfSome}
use Rattle.std.specs.List.{AllByRecursion, flat_map}
use Rattle.std.specs.List.Sorted.{IsPermutation}
use Rattle.std.specs.Option.{option_map_or}
use Rattle.std.proofs.Math.ListN.{get_or-append}
use Rattle.std.proofs.lemmas.Bool.{ne_eqb}
use Rattle.std.proofs.lemmas.Bool.Decides.{eqb_tells, leb_tells}
use Rattle.std.proofs.lemmas.List.{get_or-append-add, get_or-map, length-append, length-map, map-append}
use Rattle.std.proofs.lemmas.List.FromFn.{length-map-range_with_len, get_or-map-range_with_len}
use Rattle.std.proofs.lemmas.List.Sums.{sum_by-cons, sum_by-append}
use Rattle.std.proofs.lemmas.List.Sorted.{IsPermutation-append_left, IsPermutation-map}
use Rattle.ic_arena.specs.declared.word.Word.{Word}
use Rattle.ic_arena.specs.declared.word.TheConstants.{NAME, GIVEN}
use Rattle.ic_arena.specs.Word.{agent_word, name_word, word_eq, count}
use Rattle.ic_arena.specs.Piece.{Piece, equated, idle, waits, agent_of, agent_with, room}
use Rattle.ic_arena.specs.Tables.{register}
use Rattle.ic_arena.specs.lemmas.Rooms.{other_tag}
use Rattle.ic_machine.specs.declared.plan.Link.{Link}
use Rattle.ic_machine.specs.Plan.{Made, Planned, Plans, AreMade, ArePlans, IsPlan, constants, linked, link_operands, made_each, operands_of, pieces_made, plan_at, plan_of}
use Rattle.ic_machine.specs.Runs.{Begins, IsStart, given_words}
use Rattle.ic_machine.specs.Rooms.{ROOMS, in_room, piece_in, pieces_in, IsOutside}
use Rattle.ic_machine.specs.Separate.{is_constant_tag}
use Rattle.ic_machine.specs.Steps.{AreFresh, Fires, Step, turns, puts, meets, joins, fires, Steps, no_step, one_more}
use Rattle.ic_machine.specs.lemmas.FiringKeeps.{all_append, all_of, made_within}

true_false : true ≡ false → ⊥
true_false e = cc

-- ---- words

-- a place has this number in its room
abbrev placed : ℕ → Word → Word
placed k w = record { tag = w.tag; index = w.index * ROOMS + k }

pub room_tag : (arities : List ℕ) (k : ℕ) (w : Word) → (in_room arities k w).tag ≡ w.tag
room_tag arities k w = elim (is_constant_tag arities w.tag) as (λ (b : Bool). (cond b w (placed k w)).tag ≡ w.tag) [
  | true ↦ refl
  | false ↦ refl
]

-- what names no place stays
pub constant_stays : (arities : List ℕ) (k : ℕ) (w : Word) → is_constant_tag arities w.tag ≡ true → in_room arities k w ≡ w
constant_stays arities k w e = ap (λ (b : Bool). cond b w (placed k w)) e

index_same : (i j k : ℕ) → (i * ROOMS + k == j * ROOMS + k) ≡ (i == j)
index_same i j k = elim (eqb_tells i j) [
  | inl t ↦ (let e = t.1 in eq-eqb (i * ROOMS + k) (j * ROOMS + k) (ap (λ (n : ℕ). n * ROOMS + k) e) ∙ sym t.0)
  | inr f ↦ ne_eqb (i * ROOMS + k) (j * ROOMS + k) (λ e. f.1 (omega (arith, e))) ∙ sym f.0
]

-- words of one room are the same exactly if they were
pub same_in_room : (arities : List ℕ) (k : ℕ) (v w : Word) → word_eq (in_room arities k v) (in_room arities k w) ≡ word_eq v w
same_in_room arities k v w = at (is_constant_tag arities v.tag) (is_constant_tag arities w.tag) refl refl
  where
    at : (a b : Bool) → is_constant_tag arities v.tag ≡ a → is_constant_tag arities w.tag ≡ b
        → word_eq (cond a v (placed k v)) (cond b w (placed k w)) ≡ word_eq v w
    at true true e f = refl
    at false false e f = ap (λ (t : Bool). v.tag == w.tag && t) (index_same v.index w.index k)
    at true false e f =
        let apart : v.tag ≡ w.tag → ⊥ = (λ same. true_false (sym e ∙ (ap (is_constant_tag arities) same ∙ f))) in
        other_tag v (placed k w) apart ∙ sym (other_tag v w apart)
    at false true e f =
        let apart : v.tag ≡ w.tag → ⊥ = (λ same. true_false (sym f ∙ (sym (ap (is_constant_tag arities) same) ∙ e))) in
        other_tag (placed k v) w apart ∙ sym (other_tag v w apart)

-- places of different rooms are different
pub apart_in_rooms : (arities : List ℕ) (k l : ℕ) (v w : Word) → k < ROOMS → l < ROOMS → (k ≡ l → ⊥)
    → is_constant_tag arities v.tag ≡ false → word_eq (in_room arities k v) (in_room arities l w) ≡ false
apart_in_rooms arities k l v w low also apart place = at (is_constant_tag arities w.tag) refl
  where
    own : in_room arities k v ≡ placed k v
    own = ap (λ (b : Bool). cond b v (placed k v)) place

    numbers : (i j : ℕ) → i * ROOMS + k ≡ j * ROOMS + l → ⊥
    numbers i j e = apart (omega (arith, e, low, also))

    at : (b : Bool) → is_constant_tag arities w.tag ≡ b → word_eq (in_room arities k v) (cond b w (placed l w)) ≡ false
    at true e =
        let differ : v.tag ≡ w.tag → ⊥ = (λ same. true_false (sym e ∙ (sym (ap (is_constant_tag arities) same) ∙ place))) in
        ap (λ (u : Word). word_eq u w) own ∙ other_tag (placed k v) w differ
    at false e =
        ap (λ (u : Word). word_eq u (placed l w)) own
        ∙ (ap (λ (t : Bool). v.tag == w.tag && t) (ne_eqb (v.index * ROOMS + k) (w.index * ROOMS + l) (numbers v.index w.index)) ∙ no_and (v.tag == w.tag))
      where
        no_and : (b : Bool) → (b && false) ≡ false
        no_and true = refl
        no_and false = refl

-- ---- pieces

pub room_in_room : (arities : List ℕ) (k : ℕ) (w : Word) (p : Piece) → room (in_room arities k w) (piece_in arities k p) ≡ room w p
room_in_room arities k w (equated l r) = refl
room_in_room arities k w (idle x) = ap (λ (b : Bool). cond {A = ℕ} b 2 0) (same_in_room arities k w x)
room_in_room arities k w (waits x u) = ap (λ (b : Bool). cond {A = ℕ} b 1 0) (same_in_room arities k w x)
room_in_room arities k w (agent_of a ws) = ap (λ (b : Bool). cond {A = ℕ} b 1 0) (same_in_room arities k w a)

pub rooms_in_room : (arities : List ℕ) (k : ℕ) (w : Word) (ps : List Piece)
    → sum_by (room (in_room arities k w)) (pieces_in arities k ps) ≡ sum_by (room w) ps
rooms_in_room arities k w [] = refl
rooms_in_room arities k w (p ∷ ps) =
    let a = sum_by-cons (room (in_room arities k w)) (piece_in arities k p) (pieces_in arities k ps) in
    let b = sum_by-cons (room w) p ps in
    let here = room_in_room arities k w p in
    let rest = rooms_in_room arities k w ps in
    omega arith

pub count_in_room : (arities : List ℕ) (k : ℕ) (w : Word) (ws : List Word)
    → count (in_room arities k w) (map (in_room arities k) ws) ≡ count w ws
count_in_room arities k w [] = refl
count_in_room arities k w (v ∷ ws) =
    let a = sum_by-cons (λ (u : Word). cond {A = ℕ} (word_eq (in_room arities k w) u) 1 0) (in_room arities k v) (map (in_room arities k) ws) in
    let b = sum_by-cons (λ (u : Word). cond {A = ℕ} (word_eq w u) 1 0) v ws in
    let here : ◌≡◌ {A = ℕ} (cond (word_eq (in_room arities k w) (in_room arities k v)) 1 0) (cond (word_eq w v) 1 0) =
    ap (λ (b : Bool). cond {A = ℕ} b 1 0) (same_in_room arities k w v) in
    let rest = count_in_room arities k w ws in
    omega arith

abbrev IsPlace : List ℕ → Word → Type 0
IsPlace arities w = is_constant_tag arities w.tag ≡ false

-- what is fresh in one room is fresh beside what is in others
fresh_in_room : (arities : List ℕ) (k : ℕ) (ws : List Word) (rest extra : List Piece) → IsOutside arities k extra
    → AllByRecursion (IsPlace arities) ws → AreFresh ws rest
    → AreFresh (map (in_room arities k) ws) (pieces_in arities k rest ++ extra)
fresh_in_room arities k [] rest extra outside places fresh = tt
fresh_in_room arities k (w ∷ ws) rest extra outside places fresh =
    let here = rooms_in_room arities k w rest in
    let none = outside w places.0 in
    let free = fresh.0 in (
      omega (arith, sum_by-append {X = Piece}),
      count_in_room arities k w ws ∙ fresh.1,
      fresh_in_room arities k ws rest extra outside places.1 fresh.2,
    )

agent_in_room : (arities : List ℕ) (k : ℕ) (a : Word) (ws : List Word)
    → pieces_in arities k (agent_with a ws) ≡ agent_with (in_room arities k a) (map (in_room arities k) ws)
agent_in_room arities k a [] = refl
agent_in_room arities k a (v ∷ vs) = refl

-- the number of the place of an agent of this symbol
abbrev agent_index : List ℕ → ℕ → ℕ → ℕ → ℕ
agent_index arities k s i = cond (is_constant_tag arities (s + 1)) i (i * ROOMS + k)

agent_word_in : (arities : List ℕ) (k s i : ℕ) → in_room arities k (agent_word s i) ≡ agent_word s (agent_index arities k s i)
agent_word_in arities k s i = elim (is_constant_tag arities (s + 1)) as
    (λ (b : Bool). cond b (agent_word s i) (placed k (agent_word s i)) ≡ agent_word s (cond b i (i * ROOMS + k))) [
      | true ↦ refl
      | false ↦ refl
    ]

-- ---- orders

three_in : (arities : List ℕ) (k : ℕ) (xs ys zs extra : List Piece)
    → pieces_in arities k (xs ++ (ys ++ zs)) ++ extra
    ≡ pieces_in arities k xs ++ (pieces_in arities k ys ++ (pieces_in arities k zs ++ extra))
three_in arities k xs ys zs extra =
    let f : Piece → Piece = piece_in arities k in
    ap (λ (l : List Piece). l ++ extra) (map-append f xs (ys ++ zs) ∙ ap (λ (l : List Piece). map f xs ++ l) (map-append f ys zs))
    ∙ (append_assoc (map f xs) (map f ys ++ map f zs) extra
    ∙ ap (λ (l : List Piece). map f xs ++ l) (append_assoc (map f ys) (map f zs) extra))

two_in : (arities : List ℕ) (k : ℕ) (xs ys extra : List Piece)
    → pieces_in arities k (xs ++ ys) ++ extra ≡ pieces_in arities k xs ++ (pieces_in arities k ys ++ extra)
two_in arities k xs ys extra =
    let f : Piece → Piece = piece_in arities k in
    ap (λ (l : List Piece). l ++ extra) (map-append f xs ys) ∙ append_assoc (map f xs) (map f ys) extra

order_in : (arities : List ℕ) (k : ℕ) (xs ys extra : List Piece) → IsPermutation xs ys
    → IsPermutation (pieces_in arities k xs ++ extra) (pieces_in arities k ys ++ extra)
order_in arities k xs ys extra h =
    IsPermutation-append_left extra (pieces_in arities k xs) (pieces_in arities k ys) (IsPermutation-map (piece_in arities k) xs ys h)

-- ---- registers

-- what a plan uses is in registers that are filled, and the agents without arguments that it uses have none
abbrev IsUsed : List ℕ → List Word → ℕ → Type 0
IsUsed arities ys m = (m < length arities + length ys) × (m < length arities → slice_get arities m ≡ Some 0)

constants_count : (n : ℕ) → length (constants n) ≡ n
constants_count n = length-map-range_with_len (λ s. agent_word s 0) 0 n

register_low : (n m : ℕ) (zs : List Word) → m < n → register (constants n ++ zs) m ≡ agent_word m 0
register_low n m zs low =
    get_or-append (constants n) zs (name_word 0) m (omega (arith, low, constants_count n))
    ∙ get_or-map-range_with_len (λ s. agent_word s 0) 0 n m m (name_word 0) low (zero-add m)

register_high : (n m : ℕ) (zs : List Word) → n ≤ m → register (constants n ++ zs) m ≡ register zs (m - n)
register_high n m zs high =
    let place : m ≡ length (constants n) + (m - n) = omega (arith, high, constants_count n) in
    ap (register (constants n ++ zs)) place ∙ get_or-append-add (constants n) zs (m - n) (name_word 0)

register_in : (arities : List ℕ) (k m : ℕ) (ys : List Word) → IsUsed arities ys m
    → register (constants (length arities) ++ map (in_room arities k) ys) m
    ≡ in_room arities k (register (constants (length arities) ++ ys) m)
register_in arities k m ys used = elim (leb_tells (length arities) m) [
  | inl high ↦ (let inside : m - length arities < length ys = omega (arith, high.1, used.0) in
      register_high (length arities) m (map (in_room arities k) ys) high.1
      ∙ (get_or-map (in_room arities k) ys (m - length arities) (name_word 0) (name_word 0) inside
      ∙ sym (ap (in_room arities k) (register_high (length arities) m ys high.1))))
  | inr low ↦ (let none = used.1 low.1 in
      let constant : is_constant_tag arities (m + 1) ≡ true =
      ap (is_constant_tag arities) (add-one m) ∙ ap (λ (o : Option ℕ). option_map_or (λ j. j == 0) o (suc m == GIVEN)) none in
      register_low (length arities) m (map (in_room arities k) ys) low.1
      ∙ (sym (constant_stays arities k (agent_word m 0) constant)
      ∙ sym (ap (in_room arities k) (register_low (length arities) m ys low.1))))
]

-- registers hold in a room what these hold
abbrev IsSame : List ℕ → ℕ → (rs qs : List Word) → ℕ → Type 0
IsSame arities k rs qs m = register qs m ≡ in_room arities k (register rs m)

all_used : (arities : List ℕ) (k : ℕ) (ys : List Word) (ms : List ℕ) → AllByRecursion (λ m. m < length arities + length ys) ms
    → AllByRecursion (λ m. m < length arities → slice_get arities m ≡ Some 0) ms
    → AllByRecursion (IsSame arities k (constants (length arities) ++ ys) (constants (length arities) ++ map (in_room arities k) ys)) ms
all_used arities k ys [] low constant = tt
all_used arities k ys (m ∷ ms) low constant =
    (register_in arities k m ys (low.0, constant.0), all_used arities k ys ms low.1 constant.1)

all_first : {X : Type 0} (P : X → Type 0) (xs ys : List X) → AllByRecursion P (xs ++ ys) → AllByRecursion P xs
all_first P [] ys h = tt
all_first P (x ∷ xs) ys h = (h.0, all_first P xs ys h.1)

all_last : {X : Type 0} (P : X → Type 0) (xs ys : List X) → AllByRecursion P (xs ++ ys) → AllByRecursion P ys
all_last P [] ys h = h
all_last P (x ∷ xs) ys h = all_last P xs ys h.1

operands_in : (arities : List ℕ) (k : ℕ) (rs qs : List Word) (ms : List ℕ) → AllByRecursion (IsSame arities k rs qs) ms
    → map (register qs) ms ≡ map (in_room arities k) (map (register rs) ms)
operands_in arities k rs qs [] same = refl
operands_in arities k rs qs (m ∷ ms) same = λ i. same.0 i ∷ operands_in arities k rs qs ms same.1 i

made_in : (arities : List ℕ) (k : ℕ) (rs qs : List Word) (ms : List Made) (ws : List Word)
    → AllByRecursion (IsSame arities k rs qs) (flat_map (λ m. m.operands) ms)
    → made_each qs ms (map (in_room arities k) ws) ≡ pieces_in arities k (made_each rs ms ws)
made_in arities k rs qs [] ws same = refl
made_in arities k rs qs (m ∷ ms) [] same = refl
made_in arities k rs qs (m ∷ ms) (w ∷ ws) same =
    let here = operands_in arities k rs qs m.operands (all_first (IsSame arities k rs qs) m.operands (flat_map (λ m. m.operands) ms) same) in
    let rest = made_in arities k rs qs ms ws (all_last (IsSame arities k rs qs) m.operands (flat_map (λ m. m.operands) ms) same) in
    λ i. agent_of (in_room arities k w) (here i) ∷ rest i

links_in : (arities : List ℕ) (k : ℕ) (rs qs : List Word) (ls : List Link)
    → AllByRecursion (IsSame arities k rs qs) (flat_map link_operands ls)
    → map (linked qs) ls ≡ pieces_in arities k (map (linked rs) ls)
links_in arities k rs qs [] same = refl
links_in arities k rs qs (l ∷ ls) same =
    let rest = links_in arities k rs qs ls same.1.1 in
    λ i. equated (same.0 i) (same.1.0 i) ∷ rest i

idle_in : (arities : List ℕ) (k : ℕ) (ws : List Word) → map idle (map (in_room arities k) ws) ≡ pieces_in arities k (map idle ws)
idle_in arities k [] = refl
idle_in arities k (w ∷ ws) = ap (λ (l : List Piece). idle (in_room arities k w) ∷ l) (idle_in arities k ws)

-- what a plan makes in a room
planned_in : (arities : List ℕ) (k : ℕ) (p : Planned) (rs qs names made : List Word)
    → AllByRecursion (IsSame arities k rs qs) (operands_of p)
    → pieces_made p qs (map (in_room arities k) names) (map (in_room arities k) made)
    ≡ pieces_in arities k (pieces_made p rs names made)
planned_in arities k p rs qs names made same =
    let f : Piece → Piece = piece_in arities k in
    let first = all_first (IsSame arities k rs qs) (flat_map (λ (m : Made). m.operands) p.made) (flat_map link_operands p.links) same in
    let last = all_last (IsSame arities k rs qs) (flat_map (λ (m : Made). m.operands) p.made) (flat_map link_operands p.links) same in
    let a = idle_in arities k names in
    let b = made_in arities k rs qs p.made made first in
    let c = links_in arities k rs qs p.links last in
    let parts : pieces_made p qs (map (in_room arities k) names) (map (in_room arities k) made)
    ≡ map f (map idle names) ++ (map f (made_each rs p.made made) ++ map f (map (linked rs) p.links)) =
    λ i. a i ++ (b i ++ c i) in
    parts
    ∙ sym (map-append f (map idle names) (made_each rs p.made made ++ map (linked rs) p.links)
    ∙ ap (λ (l : List Piece). map f (map idle names) ++ l) (map-append f (made_each rs p.made made) (map (linked rs) p.links)))

-- ---- places of a plan

names_are_places : (arities : List ℕ) (ws : List Word) → AllByRecursion (λ w. w.tag ≡ NAME) ws → AllByRecursion (IsPlace arities) ws
names_are_places arities ws tags = all_of (λ (w : Word). w.tag ≡ NAME) (IsPlace arities) ws (λ w e. ap (is_constant_tag arities) e) tags

cons_none : (n : ℕ) (ns : List ℕ) → n ∷ ns ≡ [] → ⊥
cons_none n ns e = cc

made_are_places : (arities : List ℕ) (filled : ℕ) (ms : List Made) (ws : List Word) → AreMade arities filled ms
    → map (λ w. w.tag) ws ≡ map (λ m. m.symbol + 1) ms → AllByRecursion (IsPlace arities) ws
made_are_places arities filled ms [] are tags = tt
made_are_places arities filled [] (w ∷ ws) are tags = absurd (cons_none w.tag (map (λ (v : Word). v.tag) ws) tags)
made_are_places arities filled (m ∷ ms) (w ∷ ws) are tags =
    let tag : w.tag ≡ m.symbol + 1 = ap (λ (l : List ℕ). slice_index_or l 0 0) tags in
    let rest : map (λ (u : Word). u.tag) ws ≡ map (λ (n : Made). n.symbol + 1) ms = ap (λ (l : List ℕ). drop 1 l) tags in
    let some = are.0.1 in
    let none : (length m.operands == 0) ≡ false = ne_eqb (length m.operands) 0 (λ e. omega (arith, some, e)) in (
      ap (is_constant_tag arities) (tag ∙ add-one m.symbol)
          ∙ (ap (λ (o : Option ℕ). option_map_or (λ j. j == 0) o (suc m.symbol == GIVEN)) are.0.0 ∙ none),
      made_are_places arities (filled + 1) ms ws are.1 rest,
    )

tags_in : (arities : List ℕ) (k : ℕ) (ws : List Word) → map (λ w. w.tag) (map (in_room arities k) ws) ≡ map (λ w. w.tag) ws
tags_in arities k [] = refl
tags_in arities k (w ∷ ws) = λ i. room_tag arities k w i ∷ tags_in arities k ws i

name_tags_in : (arities : List ℕ) (k : ℕ) (ws : List Word) → AllByRecursion (λ w. w.tag ≡ NAME) ws
    → AllByRecursion (λ w. w.tag ≡ NAME) (map (in_room arities k) ws)
name_tags_in arities k [] tags = tt
name_tags_in arities k (w ∷ ws) tags = (room_tag arities k w ∙ tags.0, name_tags_in arities k ws tags.1)

-- ---- steps

fires_in_room : (p : Plans) (k i : ℕ) (xs ys extra : List Piece) → ArePlans p → IsOutside p.arities k extra → Fires p i xs ys
    → Fires p i (pieces_in p.arities k xs ++ extra) (pieces_in p.arities k ys ++ extra)
fires_in_room p k i xs ys extra sound outside f =
    let r : Word → Word = in_room p.arities k in
    let n : ℕ = length p.arities in
    let left : Word = agent_word f.left f.left_place in
    let right : Word = agent_word f.right f.right_place in
    let ws : List Word = f.left_args ++ (f.right_args ++ (f.names ++ f.made)) in
    let vs : List Word = map r f.left_args ++ (map r f.right_args ++ (map r f.names ++ map r f.made)) in
    let rs : List Word = constants n ++ ws in
    let is : plan_of p f.left f.right ≡ Some f.plan = ap (plan_at p.plans) f.number ∙ f.has_plan in
    let plan = subst (λ (o : Option Planned). IfSome o (IsPlan p.arities (length f.left_args + length f.right_args))) is
    (sound.each f.left f.right (length f.left_args) (length f.right_args) f.left_arity f.right_arity) in
    let long = length-append f.left_args (f.right_args ++ (f.names ++ f.made))
    ∙ (ap (λ (m : ℕ). length f.left_args + m) (length-append f.right_args (f.names ++ f.made)
    ∙ ap (λ (m : ℕ). length f.right_args + m) (length-append f.names f.made))) in
    let many = f.names_count in
    let made = f.made_count in
    let within : AllByRecursion (λ m. m < n + length ws) (operands_of f.plan) =
    all_append (λ m. m < n + length ws) (flat_map (λ m. m.operands) f.plan.made) (flat_map link_operands f.plan.links)
    (all_of (λ m. m < (n + (length f.left_args + length f.right_args) + f.plan.names) + length f.plan.made) (λ m. m < n + length ws)
    (flat_map (λ m. m.operands) f.plan.made) (λ m lt. omega arith)
    (made_within p.arities (n + (length f.left_args + length f.right_args) + f.plan.names) f.plan.made plan.made))
    (all_of (λ m. m < n + (length f.left_args + length f.right_args) + f.plan.names + length f.plan.made) (λ m. m < n + length ws)
    (flat_map link_operands f.plan.links) (λ m lt. omega arith) plan.links) in
    let renamed = map-append r f.left_args (f.right_args ++ (f.names ++ f.made))
    ∙ ap (λ (l : List Word). map r f.left_args ++ l) (map-append r f.right_args (f.names ++ f.made)
    ∙ ap (λ (l : List Word). map r f.right_args ++ l) (map-append r f.names f.made)) in
    let same = subst (λ (l : List Word). AllByRecursion (IsSame p.arities k rs (constants n ++ l)) (operands_of f.plan)) renamed
    (all_used p.arities k ws (operands_of f.plan) within plan.constant) in
    let left_is = agent_in_room p.arities k left f.left_args
    ∙ ap (λ (w : Word). agent_with w (map r f.left_args)) (agent_word_in p.arities k f.left f.left_place) in
    let right_is = agent_in_room p.arities k right f.right_args
    ∙ ap (λ (w : Word). agent_with w (map r f.right_args)) (agent_word_in p.arities k f.right f.right_place) in
    let places = all_append (IsPlace p.arities) f.names f.made (names_are_places p.arities f.names f.name_tags)
    (made_are_places p.arities (n + (length f.left_args + length f.right_args) + f.plan.names) f.plan.made f.made plan.made f.made_tags) in
    let rest : List Piece = pieces_in p.arities k f.rest ++ extra in
    let left_word = agent_word_in p.arities k f.left f.left_place in
    let right_word = agent_word_in p.arities k f.right f.right_place in
    let sides : pieces_in p.arities k (agent_with left f.left_args) ++ (pieces_in p.arities k (agent_with right f.right_args) ++ rest)
    ≡ agent_with (agent_word f.left (agent_index p.arities k f.left f.left_place)) (map r f.left_args)
    ++ (agent_with (agent_word f.right (agent_index p.arities k f.right f.right_place)) (map r f.right_args) ++ rest) =
    λ j. left_is j ++ (right_is j ++ rest) in
    let below = three_in p.arities k (agent_with left f.left_args) (agent_with right f.right_args) f.rest extra ∙ sides in
    let before : pieces_in p.arities k (equated left right ∷ (agent_with left f.left_args ++ (agent_with right f.right_args ++ f.rest))) ++ extra
    ≡ equated (agent_word f.left (agent_index p.arities k f.left f.left_place)) (agent_word f.right (agent_index p.arities k f.right f.right_place))
    ∷ (agent_with (agent_word f.left (agent_index p.arities k f.left f.left_place)) (map r f.left_args)
    ++ (agent_with (agent_word f.right (agent_index p.arities k f.right f.right_place)) (map r f.right_args) ++ rest)) =
    λ j. equated (left_word j) (right_word j) ∷ below j in
    let after = two_in p.arities k (pieces_made f.plan rs f.names f.made) f.rest extra
    ∙ ap (λ (l : List Piece). l ++ rest) (sym (planned_in p.arities k f.plan rs (constants n ++ vs) f.names f.made same)) in
    record {
      left = f.left;
      right = f.right;
      left_place = agent_index p.arities k f.left f.left_place;
      right_place = agent_index p.arities k f.right f.right_place;
      left_args = map r f.left_args;
      right_args = map r f.right_args;
      plan = f.plan;
      names = map r f.names;
      made = map r f.made;
      rest = rest;
      number = f.number;
      has_plan = f.has_plan;
      left_arity = f.left_arity ∙ ap Some (sym (length-map f.left_args r));
      right_arity = f.right_arity ∙ ap Some (sym (length-map f.right_args r));
      given = subst (IsPermutation (pieces_in p.arities k xs ++ extra)) before
          (order_in p.arities k xs (equated left right ∷ (agent_with left f.left_args ++ (agent_with right f.right_args ++ f.rest))) extra f.given);
      names_count = length-map f.names r ∙ f.names_count;
      made_count = length-map f.made r ∙ f.made_count;
      name_tags = name_tags_in p.arities k f.names f.name_tags;
      made_tags = tags_in p.arities k f.made ∙ f.made_tags;
      fresh = subst (λ (l : List Word). AreFresh l rest) (map-append r f.names f.made)
          (fresh_in_room p.arities k (f.names ++ f.made) f.rest extra outside places f.fresh);
      result = subst (IsPermutation (pieces_in p.arities k ys ++ extra)) after
          (order_in p.arities k ys (pieces_made f.plan rs f.names f.made ++ f.rest) extra f.result);
    }

step_in_room : (p : Plans) (k : ℕ) (is : List ℕ) (xs ys extra : List Piece) → ArePlans p → IsOutside p.arities k extra → Step p is xs ys
    → Step p is (pieces_in p.arities k xs ++ extra) (pieces_in p.arities k ys ++ extra)
step_in_room p k is xs ys extra sound outside (turns a b s) =
    let r : Word → Word = in_room p.arities k in
    turns (pieces_in p.arities k a ++ extra) (pieces_in p.arities k b ++ extra) (record {
      left = r s.left;
      right = r s.right;
      rest = pieces_in p.arities k s.rest ++ extra;
      given = order_in p.arities k a (equated s.left s.right ∷ s.rest) extra s.given;
      result = order_in p.arities k b (equated s.right s.left ∷ s.rest) extra s.result;
    })
step_in_room p k is xs ys extra sound outside (puts a b s) =
    let r : Word → Word = in_room p.arities k in
    puts (pieces_in p.arities k a ++ extra) (pieces_in p.arities k b ++ extra) (record {
      named = r s.named;
      other = r s.other;
      rest = pieces_in p.arities k s.rest ++ extra;
      given = order_in p.arities k a (equated s.named s.other ∷ idle s.named ∷ s.rest) extra s.given;
      result = order_in p.arities k b (waits s.named s.other ∷ s.rest) extra s.result;
    })
step_in_room p k is xs ys extra sound outside (meets a b s) =
    let r : Word → Word = in_room p.arities k in
    meets (pieces_in p.arities k a ++ extra) (pieces_in p.arities k b ++ extra) (record {
      named = r s.named;
      other = r s.other;
      waiting = r s.waiting;
      rest = pieces_in p.arities k s.rest ++ extra;
      given = order_in p.arities k a (equated s.named s.other ∷ waits s.named s.waiting ∷ s.rest) extra s.given;
      result = order_in p.arities k b (equated s.waiting s.other ∷ s.rest) extra s.result;
    })
step_in_room p k is xs ys extra sound outside (joins a b s) =
    let r : Word → Word = in_room p.arities k in
    joins (pieces_in p.arities k a ++ extra) (pieces_in p.arities k b ++ extra) (record {
      named = r s.named;
      between = r s.between;
      waiting = r s.waiting;
      rest = pieces_in p.arities k s.rest ++ extra;
      given = order_in p.arities k a (waits s.named s.between ∷ waits s.between s.waiting ∷ s.rest) extra s.given;
      result = order_in p.arities k b (waits s.named s.waiting ∷ s.rest) extra s.result;
    })
step_in_room p k is xs ys extra sound outside (fires i a b s) =
    fires i (pieces_in p.arities k a ++ extra) (pieces_in p.arities k b ++ extra) (fires_in_room p k i a b extra sound outside s)

-- Steps of the machine in one room are steps of all.
pub steps_in_room : (p : Plans) (k : ℕ) (is : List ℕ) (xs ys extra : List Piece) → ArePlans p → IsOutside p.arities k extra
    → Steps p is xs ys → Steps p is (pieces_in p.arities k xs ++ extra) (pieces_in p.arities k ys ++ extra)
steps_in_room p k is xs ys extra sound outside (no_step a b h) =
    no_step (pieces_in p.arities k a ++ extra) (pieces_in p.arities k b ++ extra) (order_in p.arities k a b extra h)
steps_in_room p k is xs ys extra sound outside (one_more i j a b c s t) =
    one_more i j (pieces_in p.arities k a ++ extra) (pieces_in p.arities k b ++ extra) (pieces_in p.arities k c ++ extra)
    (steps_in_room p k i a b extra sound outside s) (step_in_room p k j b c extra sound outside t)

-- what a piece in another room says is outside
piece_outside : (arities : List ℕ) (k l : ℕ) → k < ROOMS → l < ROOMS → (k ≡ l → ⊥) → (w : Word) → is_constant_tag arities w.tag ≡ false
    → (p : Piece) → room (in_room arities k w) (piece_in arities l p) ≡ 0
piece_outside arities k l low also apart w place (equated x y) = refl
piece_outside arities k l low also apart w place (idle x) =
    ap (λ (b : Bool). cond {A = ℕ} b 2 0) (apart_in_rooms arities k l w x low also apart place)
piece_outside arities k l low also apart w place (waits x u) =
    ap (λ (b : Bool). cond {A = ℕ} b 1 0) (apart_in_rooms arities k l w x low also apart place)
piece_outside arities k l low also apart w place (agent_of a ws) =
    ap (λ (b : Bool). cond {A = ℕ} b 1 0) (apart_in_rooms arities k l w a low also apart place)

all_outside : (arities : List ℕ) (k l : ℕ) → k < ROOMS → l < ROOMS → (k ≡ l → ⊥) → (w : Word) → is_constant_tag arities w.tag ≡ false
    → (ps : List Piece) → sum_by (room (in_room arities k w)) (pieces_in arities l ps) ≡ 0
all_outside arities k l low also apart w place [] = refl
all_outside arities k l low also apart w place (p ∷ ps) =
    let a = sum_by-cons (room (in_room arities k w)) (piece_in arities l p) (pieces_in arities l ps) in
    let here = piece_outside arities k l low also apart w place p in
    let rest = all_outside arities k l low also apart w place ps in
    omega arith

-- what is in another room is outside
pub outside_of : (arities : List ℕ) (k l : ℕ) (ps : List Piece) → k < ROOMS → l < ROOMS → (k ≡ l → ⊥) → IsOutside arities k (pieces_in arities l ps)
outside_of arities k l ps low also apart = λ w place. all_outside arities k l low also apart w place ps

pub outside_both : (arities : List ℕ) (k : ℕ) (ps qs : List Piece) → IsOutside arities k ps → IsOutside arities k qs → IsOutside arities k (ps ++ qs)
outside_both arities k ps qs first last = λ w place.
    let b = first w place in
    let c = last w place in
    omega (arith, sum_by-append {X = Piece})

-- ---- what a machine begins with

all_stay : (arities : List ℕ) (k : ℕ) (ws : List Word) → AllByRecursion (λ w. is_constant_tag arities w.tag ≡ true) ws
    → map (in_room arities k) ws ≡ ws
all_stay arities k [] are = refl
all_stay arities k (w ∷ ws) are = λ i. constant_stays arities k w are.0 i ∷ all_stay arities k ws are.1 i

given_count : (n : ℕ) → length (given_words n) ≡ n
given_count n = length-map-range_with_len (λ (i : ℕ). record { tag = GIVEN; index = i }) 0 n

-- A machine that begins in a room begins with what its plan makes, as without the room. So the laws of what a machine begins
-- with hold of the words of all rooms.
pub begins_in_room : (arities : List ℕ) (k given : ℕ) (p : Planned) (operands : List ℕ) (interface : List Word) (ps : List Piece)
    → AllByRecursion (λ w. is_constant_tag arities w.tag ≡ true) (given_words given)
    → IsStart arities given p operands → Begins arities given p operands interface ps
    → Begins arities given p operands (map (in_room arities k) interface) (pieces_in arities k ps)
begins_in_room arities k given p operands interface ps stay start b =
    let r : Word → Word = in_room arities k in
    let n : ℕ = length arities in
    let ws : List Word = given_words given ++ (b.names ++ b.made) in
    let vs : List Word = given_words given ++ (map r b.names ++ map r b.made) in
    let made_length : length b.made ≡ length p.made =
    sym (length-map b.made (λ (w : Word). w.tag)) ∙ (ap (length {A = ℕ}) b.made_tags ∙ length-map p.made (λ (m : Made). m.symbol + 1)) in
    let long = length-append (given_words given) (b.names ++ b.made)
    ∙ (ap (λ (m : ℕ). m + length (b.names ++ b.made)) (given_count given) ∙ ap (λ (m : ℕ). given + m) (length-append b.names b.made)) in
    let many = b.names_count in
    let renamed = map-append r (given_words given) (b.names ++ b.made)
    ∙ (ap (λ (l : List Word). l ++ map r (b.names ++ b.made)) (all_stay arities k (given_words given) stay)
    ∙ ap (λ (l : List Word). given_words given ++ l) (map-append r b.names b.made)) in
    let within : AllByRecursion (λ m. m < n + length ws) (operands_of p) =
    all_append (λ m. m < n + length ws) (flat_map (λ m. m.operands) p.made) (flat_map link_operands p.links)
    (all_of (λ m. m < (n + given + p.names) + length p.made) (λ m. m < n + length ws)
    (flat_map (λ m. m.operands) p.made) (λ m lt. omega arith)
    (made_within arities (n + given + p.names) p.made start.plan.made))
    (all_of (λ m. m < n + given + p.names + length p.made) (λ m. m < n + length ws)
    (flat_map link_operands p.links) (λ m lt. omega arith) start.plan.links) in
    let inside : AllByRecursion (λ m. m < n + length ws) operands =
    all_of (λ m. m < n + given + p.names + length p.made) (λ m. m < n + length ws) operands (λ m lt. omega arith) start.filled in
    let same = subst (λ (l : List Word). AllByRecursion (IsSame arities k (constants n ++ ws) (constants n ++ l)) (operands_of p)) renamed
    (all_used arities k ws (operands_of p) within start.plan.constant) in
    let same_too = subst (λ (l : List Word). AllByRecursion (IsSame arities k (constants n ++ ws) (constants n ++ l)) operands) renamed
    (all_used arities k ws operands inside start.constant) in
    let places = all_append (IsPlace arities) b.names b.made (names_are_places arities b.names b.name_tags)
    (made_are_places arities (n + given + p.names) p.made b.made start.plan.made b.made_tags) in
    record {
      names = map r b.names;
      made = map r b.made;
      names_count = length-map b.names r ∙ b.names_count;
      name_tags = name_tags_in arities k b.names b.name_tags;
      made_tags = tags_in arities k b.made ∙ b.made_tags;
      fresh = subst (λ (l : List Word). AreFresh l []) (map-append r b.names b.made)
          (fresh_in_room arities k (b.names ++ b.made) [] [] (λ w place. refl) places b.fresh);
      interface_is = ap (map r) b.interface_is ∙ sym (operands_in arities k (constants n ++ ws) (constants n ++ vs) operands same_too);
      pieces = ap (pieces_in arities k) b.pieces ∙ sym (planned_in arities k p (constants n ++ ws) (constants n ++ vs) b.names b.made same);
    }
