-- Fresh places, one after another.
use Rattle.std.proofs.Common.{◌≡◌, ℕ, zero, suc, ◌+◌, ◌<◌, ◌≤◌, ◌==◌, inl, inr, List, [], ◌∷◌, ◌++◌, Bool, false, cond, length, map, take, drop, Some, slice_get, slice_index_or, refl, ap, sym, subst, ◌∙◌, append_assoc, arith, sum_by}
use Rattle.std.specs.List.{AllByRecursion, flat_map}
use Rattle.std.specs.List.Sorted.{IsPermutation}
use Rattle.std.proofs.Math.ListN.{get_or-append}
use Rattle.std.proofs.lemmas.Bool.{ne_eqb}
use Rattle.std.proofs.lemmas.Bool.Decides.{eqb_tells}
use Rattle.std.proofs.lemmas.List.{append-nil, length_push, length-map, length-take-le, map-append, take_more, take-append-drop}
use Rattle.std.proofs.lemmas.List.Sorted.{IsPermutation-refl, IsPermutation-sym, IsPermutation-trans, IsPermutation-cons, IsPermutation-middle, sum_by-IsPermutation}
use Rattle.std.proofs.lemmas.List.Sums.{sum_by-cons, sum_by-append}
use Rattle.ic_arena.specs.declared.word.Word.{Word}
use Rattle.ic_arena.specs.declared.word.TheConstants.{FREE, NAME}
use Rattle.ic_arena.specs.Word.{name_word, word_eq, count}
use Rattle.ic_arena.specs.Piece.{Piece, idle, agent_of, room}
use Rattle.ic_arena.specs.Tables.{Replaced, entry, names_pieces, register}
use Rattle.ic_arena.specs.lemmas.Rooms.{other_tag}
use Rattle.ic_machine.specs.declared.plan.Make.{Make}
use Rattle.ic_machine.specs.Plan.{Made, AreMade, made_of, made_at, made_each}
use Rattle.ic_machine.specs.Steps.{AreFresh}
use Rattle.ic_machine.specs.inner.Firing.{Opened, Makes}
use Rattle.ic_machine.specs.lemmas.FiringKeeps.{all_append, all_of, idle_room, made_room, made_within}
use Rattle.ic_machine.specs.lemmas.Orders as orders
use Rattle.ic_machine.proofs.NameRooms.{free_room}

eq_sym : (a b : ℕ) → (a == b) ≡ (b == a)
eq_sym a b = elim (eqb_tells a b) [
  | inl t ↦ elim (eqb_tells b a) [
    | inl u ↦ t.0 ∙ sym u.0
    | inr u ↦ absurd (u.1 (sym t.1))
  ]
  | inr t ↦ t.0 ∙ sym (ne_eqb b a (λ e. t.1 (sym e)))
]

pub word_eq_sym : (v w : Word) → word_eq v w ≡ word_eq w v
word_eq_sym v w = rw (eq_sym v.tag w.tag, eq_sym v.index w.index) refl

-- one more fresh place
pub fresh_push : (ws : List Word) (w : Word) (rest : List Piece) → AreFresh ws rest
    → sum_by (room w) rest ≡ 0 → count w ws ≡ 0 → AreFresh (ws ++ w ∷ []) rest
fresh_push [] w rest h none new = (none, refl, tt)
fresh_push (v ∷ vs) w rest h none new =
    let counted : count w (v ∷ vs) ≡ cond (word_eq w v) 1 0 + count w vs =
    sum_by-cons (λ x. cond (word_eq w x) 1 0) v vs in
    let same = ap (λ (b : Bool). cond {A = ℕ} b 1 0) (word_eq_sym v w) in
    let pushed : count v (vs ++ w ∷ []) ≡ count v vs + count v (w ∷ []) =
    sum_by-append (λ x. cond (word_eq v x) 1 0) vs (w ∷ []) in
    let apart : count v vs ≡ 0 = h.1 in
    (h.0, omega arith, fresh_push vs w rest h.2 none (omega arith))

-- fresh places, and others of which none is one of them
pub fresh_append : (us bs : List Word) (rest : List Piece) → AreFresh us rest → AreFresh bs rest
    → AllByRecursion (λ a. count a bs ≡ 0) us → AreFresh (us ++ bs) rest
fresh_append [] bs rest h g apart = g
fresh_append (a ∷ us) bs rest h g apart =
    let both : count a (us ++ bs) ≡ count a us + count a bs =
    sum_by-append (λ x. cond (word_eq a x) 1 0) us bs in
    let here : count a us ≡ 0 = h.1 in
    let there : count a bs ≡ 0 = apart.0 in
    (h.0, omega arith, fresh_append us bs rest h.2 g apart.1)

-- places that are fresh beside pieces that give them as much room
pub fresh_as : (ws : List Word) (xs ys : List Piece) → AreFresh ws xs
    → AllByRecursion (λ w. sum_by (room w) ys ≡ sum_by (room w) xs) ws → AreFresh ws ys
fresh_as [] xs ys h same = tt
fresh_as (w ∷ ws) xs ys h same = (same.0 ∙ h.0, h.1, fresh_as ws xs ys h.2 same.1)

-- a name is none of some agents
pub no_name : (n : Word) (ws : List Word) → n.tag ≡ NAME → AllByRecursion (λ w. 0 < w.tag) ws
    → count n ws ≡ 0
no_name n [] h agents = refl
no_name n (w ∷ ws) h agents =
    let positive : 0 < w.tag = agents.0 in
    let other : word_eq n w ≡ false = other_tag n w (λ e. omega arith) in
    let rest : count n ws ≡ 0 = no_name n ws h agents.1 in
    sum_by-cons (λ x. cond (word_eq n x) 1 0) w ws ∙ (rw (other, rest) refl)

-- a piece goes after those of the first part
pub pushed_order : (a b : List Piece) (x : Piece) (ys zs : List Piece) → IsPermutation ys (a ++ b)
    → IsPermutation zs (x ∷ ys) → IsPermutation zs ((a ++ x ∷ []) ++ b)
pushed_order a b x ys zs h g =
    subst (λ (l : List Piece). IsPermutation zs l) (sym (append_assoc a (x ∷ []) b))
    (IsPermutation-trans zs (x ∷ ys) (a ++ (x ∷ b)) g
    (IsPermutation-trans (x ∷ ys) (x ∷ (a ++ b)) (a ++ (x ∷ b)) (IsPermutation-cons x ys (a ++ b) h)
    (IsPermutation-sym (a ++ (x ∷ b)) (x ∷ (a ++ b)) (IsPermutation-middle a x b))))

-- a piece that was put in comes first, in another order
pub put_first : (x : Piece) (ys zs : List Piece) → Replaced [] (x ∷ []) ys zs → IsPermutation zs (x ∷ ys)
put_first x ys zs r =
    IsPermutation-trans zs (x ∷ (r.front ++ r.back)) (x ∷ ys) (orders.replaced_after [] (x ∷ []) ys zs r)
    (IsPermutation-cons x (r.front ++ r.back) ys
    (IsPermutation-sym ys (r.front ++ r.back) (orders.replaced_before [] (x ∷ []) ys zs r)))

-- one more name is opened
pub opened_more : (n : ℕ) (old mid new before after : List Word) (name : ℕ)
    → Opened n old mid before after
    → Replaced [] (idle (name_word name) ∷ []) (names_pieces 0 mid) (names_pieces 0 new)
    → (entry mid name).tag ≡ FREE
    → Opened (n + 1) old new before (after ++ name_word name ∷ [])
opened_more n old mid new before after name o r free =
    let w : Word = name_word name in
    let none : sum_by (room w) (names_pieces 0 mid) ≡ 0 = free_room mid name free in
    let same = sum_by-IsPermutation (room w) (names_pieces 0 mid) (map idle o.names ++ names_pieces 0 old) o.pieces in
    let twice = idle_room w o.names in
    record {
      names = o.names ++ w ∷ [];
      count = length_push o.names w ∙ ap (λ (k : ℕ). k + 1) o.count;
      pushed = ap (λ (l : List Word). l ++ w ∷ []) o.pushed ∙ append_assoc before o.names (w ∷ []);
      tags = all_append (λ v. v.tag ≡ NAME) o.names (w ∷ []) o.tags (refl, tt);
      pieces = subst (λ (l : List Piece). IsPermutation (names_pieces 0 new) (l ++ names_pieces 0 old))
          (sym (map-append idle o.names (w ∷ [])))
          (pushed_order (map idle o.names) (names_pieces 0 old) (idle w) (names_pieces 0 mid) (names_pieces 0 new)
          o.pieces (put_first (idle w) (names_pieces 0 mid) (names_pieces 0 new) r));
      fresh = fresh_push o.names w (names_pieces 0 old) o.fresh (omega (arith, sum_by-append {X = Piece})) (omega (arith, sum_by-append {X = Piece}));
    }

-- no name is opened yet
pub opened_none : (old before : List Word) → Opened 0 old old before before
opened_none old before = record {
  names = [];
  count = refl;
  pushed = sym (append-nil before);
  tags = tt;
  pieces = IsPermutation-refl (names_pieces 0 old);
  fresh = tt;
}

-- the facts of a part of a list
pub all_front : {X : Type 0} (P : X → Type 0) (xs ys : List X) → AllByRecursion P (xs ++ ys)
    → AllByRecursion P xs
all_front P [] ys h = tt
all_front P (x ∷ xs) ys h = (h.0, all_front P xs ys h.1)

pub all_back : {X : Type 0} (P : X → Type 0) (xs ys : List X) → AllByRecursion P (xs ++ ys)
    → AllByRecursion P ys
all_back P [] ys h = h
all_back P (x ∷ xs) ys h = all_back P xs ys h.1

-- registers that are read stay as they were where others are filled
pub read_as_before : (rs more : List Word) (ops : List ℕ) → AllByRecursion (λ k. k < length rs) ops
    → map (register (rs ++ more)) ops ≡ map (register rs) ops
read_as_before rs more [] h = refl
read_as_before rs more (k ∷ ops) h =
    let first = get_or-append rs more (name_word 0) k h.0 in
    rw (first, read_as_before rs more ops h.1) refl

pub made_as_before : (rs more : List Word) (ms : List Made) (ws : List Word)
    → AllByRecursion (λ k. k < length rs) (flat_map (λ m. m.operands) ms)
    → made_each (rs ++ more) ms ws ≡ made_each rs ms ws
made_as_before rs more [] ws h = refl
made_as_before rs more (m ∷ ms) [] h = refl
made_as_before rs more (m ∷ ms) (w ∷ ws) h =
    let first : map (register (rs ++ more)) m.operands ≡ map (register rs) m.operands =
    read_as_before rs more m.operands
    (all_front (λ k. k < length rs) m.operands (flat_map (λ m. m.operands) ms) h) in
    let rest : made_each (rs ++ more) ms ws ≡ made_each rs ms ws =
    made_as_before rs more ms ws
    (all_back (λ k. k < length rs) m.operands (flat_map (λ m. m.operands) ms) h) in
    rw (first, rest) refl

pub made_pushed : (rs : List Word) (ms : List Made) (ws : List Word) (m : Made) (w : Word)
    → length ws ≡ length ms
    → made_each rs (ms ++ m ∷ []) (ws ++ w ∷ []) ≡ made_each rs ms ws ++ made_at rs m w ∷ []
made_pushed rs [] [] m w e = refl
made_pushed rs [] (v ∷ ws) m w e = absurd (omega arith)
made_pushed rs (n ∷ ms) [] m w e = absurd (omega arith)
made_pushed rs (n ∷ ms) (v ∷ ws) m w e =
    ap (λ (l : List Piece). made_at rs n v ∷ l) (made_pushed rs ms ws m w (omega arith))

-- one more agent is made
pub makes_more : (ms : List Made) (m : Made) (xs ys zs : List Piece) (before after : List Word) (w : Word)
    → Makes ms xs ys before after
    → AllByRecursion (λ k. k < length after) (flat_map (λ n. n.operands) ms)
    → AllByRecursion (λ k. k < length after) m.operands
    → Replaced [] (agent_of w (map (register after) m.operands) ∷ []) ys zs
    → sum_by (room w) ys ≡ 0 → w.tag ≡ m.symbol + 1
    → Makes (ms ++ m ∷ []) xs zs before (after ++ w ∷ [])
makes_more ms m xs ys zs before after w o earlier now r none agent =
    let same = sum_by-IsPermutation (room w) ys (made_each after ms o.places ++ xs) o.pieces in
    let once = made_room w after ms o.places o.count in
    let moved : made_each after ms o.places ++ made_at after m w ∷ []
    ≡ made_each (after ++ w ∷ []) (ms ++ m ∷ []) (o.places ++ w ∷ []) =
    sym (made_pushed (after ++ w ∷ []) ms o.places m w o.count
    ∙ (rw (made_as_before after (w ∷ []) ms o.places earlier, read_as_before after (w ∷ []) m.operands now) refl)) in
    record {
      places = o.places ++ w ∷ [];
      count = length_push o.places w ∙ (ap (λ (k : ℕ). k + 1) o.count ∙ sym (length_push ms m));
      pushed = ap (λ (l : List Word). l ++ w ∷ []) o.pushed ∙ append_assoc before o.places (w ∷ []);
      tags = map-append (λ (v : Word). v.tag) o.places (w ∷ [])
          ∙ (ap (λ (l : List ℕ). l ++ w.tag ∷ []) o.tags
          ∙ (ap (λ (t : ℕ). map (λ (n : Made). n.symbol + 1) ms ++ t ∷ []) agent
          ∙ sym (map-append (λ (n : Made). n.symbol + 1) ms (m ∷ []))));
      pieces = subst (λ (l : List Piece). IsPermutation zs (l ++ xs)) moved
          (pushed_order (made_each after ms o.places) xs (made_at after m w) ys zs o.pieces
          (put_first (made_at after m w) ys zs r));
      fresh = fresh_push o.places w xs o.fresh (omega (arith, sum_by-append {X = Piece})) (omega (arith, sum_by-append {X = Piece}));
    }

-- no agent is made yet
pub makes_none : (xs : List Piece) (before : List Word) → Makes [] xs xs before before
makes_none xs before = record {
  places = [];
  count = refl;
  pushed = sym (append-nil before);
  tags = refl;
  pieces = IsPermutation-refl xs;
  fresh = tt;
}

-- the places of agents are no names
pub agent_tags : (ms : List Made) (ws : List Word)
    → map (λ (w : Word). w.tag) ws ≡ map (λ (m : Made). m.symbol + 1) ms
    → AllByRecursion (λ w. 0 < w.tag) ws
agent_tags ms [] h = tt
agent_tags [] (w ∷ ws) h =
    let none : suc (length (map (λ (v : Word). v.tag) ws)) ≡ 0 = ap length h in absurd (omega arith)
agent_tags (m ∷ ms) (w ∷ ws) h =
    let first : w.tag ≡ m.symbol + 1 = ap (λ (l : List ℕ). slice_index_or l 0 0) h in
    (omega arith, agent_tags ms ws (ap (drop 1) h))

-- what is planned of one agent
pub record IsMadeOf (arities : List ℕ) (filled : ℕ) (m : Made) : Type 0 where
  pub arity : slice_get arities m.symbol ≡ Some (length m.operands)
  pub some : 1 ≤ length m.operands
  pub within : AllByRecursion (λ k. k < filled) m.operands

pub planned_at : (arities : List ℕ) (filled : ℕ) (ms : List Make) (i : ℕ) (d : Make)
    → AreMade arities filled (map made_of ms) → i < length ms
    → IsMadeOf arities (filled + i) (made_of (slice_index_or ms i d))
planned_at arities filled [] i d h lt = absurd (omega arith)
planned_at arities filled (m ∷ ms) zero d h lt = record {
  arity = h.0.0;
  some = h.0.1;
  within = all_of (λ k. k < filled) (λ k. k < filled + 0) m.operands.items (λ k below. omega arith) h.0.2;
}
planned_at arities filled (m ∷ ms) (suc i) d h lt =
    let r = planned_at arities (filled + 1) ms i d h.1 (omega arith) in record {
      arity = r.arity;
      some = r.some;
      within = all_of (λ k. k < (filled + 1) + i) (λ k. k < filled + suc i)
          (slice_index_or ms i d).operands.items (λ k below. omega arith) r.within;
    }

-- the first of the agents that are planned
pub planned_front : (arities : List ℕ) (filled : ℕ) (ms ns : List Made) → AreMade arities filled (ms ++ ns)
    → AreMade arities filled ms
planned_front arities filled [] ns h = tt
planned_front arities filled (m ∷ ms) ns h = (h.0, planned_front arities (filled + 1) ms ns h.1)

-- what is planned of the agent that is made next
pub planned_now : (arities : List ℕ) (filled i : ℕ) (ms : List Make) (item : Make)
    → AreMade arities filled (map made_of ms) → i < length ms → item ≡ slice_index_or ms i item
    → IsMadeOf arities (filled + i) (made_of item)
planned_now arities filled i ms item h lt is =
    subst (λ (x : Make). IsMadeOf arities (filled + i) (made_of x)) (sym is) (planned_at arities filled ms i item h lt)

-- a fact of the agent that is made next
pub fact_now : (P : Made → Type 0) (i : ℕ) (ms : List Make) (item : Make) → AllByRecursion P (map made_of ms)
    → i < length ms → item ≡ slice_index_or ms i item → P (made_of item)
fact_now P i ms item h lt is = subst (λ (x : Make). P (made_of x)) (sym is) (at P i ms item h lt)
  where
    at : (P : Made → Type 0) (i : ℕ) (ms : List Make) (d : Make) → AllByRecursion P (map made_of ms)
        → i < length ms → P (made_of (slice_index_or ms i d))
    at P i [] d h lt = absurd (omega arith)
    at P zero (m ∷ ms) d h lt = h.0
    at P (suc i) (m ∷ ms) d h lt = at P i ms d h.1 (omega arith)

-- one more of the agents that are planned
pub front_more : (i : ℕ) (ms : List Make) (item : Make) → i < length ms → item ≡ slice_index_or ms i item
    → map made_of (take (i + 1) ms) ≡ map made_of (take i ms) ++ made_of item ∷ []
front_more i ms item lt is =
    ap (map made_of) (take_more ms i item lt)
    ∙ (map-append made_of (take i ms) (slice_index_or ms i item ∷ [])
    ∙ ap (λ (x : Make). map made_of (take i ms) ++ made_of x ∷ []) (sym is))

-- what was made so far reads registers that are filled
pub earlier_within : (arities : List ℕ) (filled i n : ℕ) (ms : List Make) → AreMade arities filled (map made_of ms)
    → i ≤ length ms → n ≡ filled + i
    → AllByRecursion (λ k. k < n) (flat_map (λ m. m.operands) (map made_of (take i ms)))
earlier_within arities filled i n ms h le e =
    let parts = ap (map made_of) (sym (take-append-drop i ms)) ∙ map-append made_of (take i ms) (drop i ms) in
    let front = planned_front arities filled (map made_of (take i ms)) (map made_of (drop i ms))
    (subst (λ (l : List Made). AreMade arities filled l) parts h) in
    let len : length (map made_of (take i ms)) ≡ i = length-map (take i ms) made_of ∙ length-take-le i ms le in
    all_of (λ k. k < filled + length (map made_of (take i ms))) (λ k. k < n)
    (flat_map (λ m. m.operands) (map made_of (take i ms))) (λ k lt. omega arith)
    (made_within arities filled (map made_of (take i ms)) front)
