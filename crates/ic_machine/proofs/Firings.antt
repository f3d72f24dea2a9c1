-- A pair that fires, from the parts of a firing.
use Rattle.std.proofs.Common.{◌≡◌, ℕ, zero, suc, ◌+◌, ◌<◌, ◌≤◌, ◌==◌, inl, inr, List, [], ◌∷◌, ◌++◌, Bool, false, cond, length, map, Option, None, Some, slice_get, refl, ap, sym, subst, ◌∙◌, append_assoc, arith, sum_by}
use Rattle.std.specs.List.{AllByRecursion}
use Rattle.std.specs.List.Sorted.{IsPermutation}
use Rattle.std.specs.Option.{option_map_or}
use Rattle.std.proofs.lemmas.Bool.{ne_eqb}
use Rattle.std.proofs.lemmas.Bool.Decides.{leb_tells}
use Rattle.std.proofs.lemmas.List.{length-map, map-append}
use Rattle.std.proofs.lemmas.List.Sorted.{IsPermutation-refl, IsPermutation-sym, IsPermutation-trans, IsPermutation-middle, IsPermutation-append_left, IsPermutation-append_right}
use Rattle.std.proofs.lemmas.List.Sums.{sum_by-cons, sum_by-append}
use Rattle.ic_arena.specs.declared.word.Word.{Word}
use Rattle.ic_arena.specs.declared.word.TheConstants.{NAME, IDLE, GIVEN}
use Rattle.ic_arena.specs.Word.{name_word, agent_word, word_eq, count}
use Rattle.ic_arena.specs.Piece.{Piece, equated, agent_with, room, uses}
use Rattle.ic_arena.specs.Tables.{Replaced, Blocks, names_pieces}
use Rattle.ic_machine.specs.declared.equation.Equation.{Equation}
use Rattle.ic_machine.specs.Plan.{Made, Planned, Plans, constants, pieces_made}
use Rattle.ic_machine.specs.Net.{equated_of}
use Rattle.ic_machine.specs.Separate.{IsSeparate, is_constant_tag}
use Rattle.ic_machine.specs.Generations.{FiresPair}
use Rattle.ic_machine.specs.Steps.{AreFresh, Fires}
use Rattle.ic_machine.specs.inner.Firing.{heaps_pieces, arities_of, AreSame, Taken}
use Rattle.ic_machine.specs.inner.Tables.{IsNumbered}
use Rattle.ic_machine.specs.lemmas.Balance.{equations_room}
use Rattle.ic_machine.specs.lemmas.FiresKeep.{agent_uses, agent_room}
use Rattle.ic_machine.specs.lemmas.Orders.{to_front, replaced_sum}
use Rattle.ic_machine.specs.lemmas.Orders as orders
use Rattle.ic_machine.proofs.Heaps.{as_agent, same_arities, same_pieces, tables_elsewhere}
use Rattle.ic_machine.proofs.Making.{name_room, agent_room_only}
use Rattle.ic_machine.proofs.NameRooms.{word_eq_refl}

-- what is taken out comes first, in another order
pub taken_first : (old xs ys : List Piece) → Replaced old [] xs ys → IsPermutation xs (old ++ ys)
taken_first old xs ys r =
    IsPermutation-trans xs (old ++ (r.front ++ r.back)) (old ++ ys) (orders.replaced_before old [] xs ys r)
    (IsPermutation-append_right old (r.front ++ r.back) ys
    (IsPermutation-sym ys (r.front ++ r.back) (orders.replaced_after old [] xs ys r)))

-- a pair, its agents and the others
pub pair_order : (n h0 h1 h2 l r f rest : List Piece) (x : Piece) → IsPermutation h0 (l ++ h1)
    → IsPermutation h1 (r ++ h2)
    → IsPermutation (n ++ (h0 ++ ((f ++ x ∷ []) ++ rest))) (x ∷ (l ++ (r ++ (n ++ (h2 ++ (f ++ rest))))))
pair_order n h0 h1 h2 l r f rest x first second =
    let g : List Piece = (f ++ x ∷ []) ++ rest in
    let y : List Piece = f ++ rest in
    let last = subst (λ (z : List Piece). IsPermutation z (x ∷ y)) (sym (append_assoc f (x ∷ []) rest))
    (IsPermutation-middle f x rest) in
    let heaps = IsPermutation-trans h0 (l ++ h1) (l ++ (r ++ h2)) first (IsPermutation-append_right l h1 (r ++ h2) second) in
    let apart = append_assoc l (r ++ h2) g ∙ ap (λ (z : List Piece). l ++ z) (append_assoc r h2 g) in
    let one = subst (λ (z : List Piece). IsPermutation (n ++ (h0 ++ g)) (n ++ z)) apart
    (IsPermutation-append_right n (h0 ++ g) ((l ++ (r ++ h2)) ++ g)
    (IsPermutation-append_left g h0 (l ++ (r ++ h2)) heaps)) in
    let two = IsPermutation-trans (n ++ (l ++ (r ++ (h2 ++ g)))) (l ++ (n ++ (r ++ (h2 ++ g)))) (l ++ (r ++ (n ++ (h2 ++ g))))
    (to_front n l (r ++ (h2 ++ g)))
    (IsPermutation-append_right l (n ++ (r ++ (h2 ++ g))) (r ++ (n ++ (h2 ++ g))) (to_front n r (h2 ++ g))) in
    let front : List Piece = l ++ (r ++ (n ++ h2)) in
    let join : (z : List Piece) → front ++ z ≡ l ++ (r ++ (n ++ (h2 ++ z))) = λ z.
    append_assoc l (r ++ (n ++ h2)) z
    ∙ ap (λ (v : List Piece). l ++ v) (append_assoc r (n ++ h2) z
    ∙ ap (λ (v : List Piece). r ++ v) (append_assoc n h2 z)) in
    let three = subst (λ (z : List Piece). IsPermutation z (x ∷ (l ++ (r ++ (n ++ (h2 ++ y)))))) (join g)
    (subst (λ (z : List Piece). IsPermutation (front ++ g) (x ∷ z)) (join y)
    (IsPermutation-trans (front ++ g) (front ++ (x ∷ y)) (x ∷ (front ++ y))
    (IsPermutation-append_right front g (x ∷ y) last) (IsPermutation-middle front x y))) in
    IsPermutation-trans (n ++ (h0 ++ g)) (l ++ (r ++ (n ++ (h2 ++ g)))) (x ∷ (l ++ (r ++ (n ++ (h2 ++ y)))))
    (IsPermutation-trans (n ++ (h0 ++ g)) (n ++ (l ++ (r ++ (h2 ++ g)))) (l ++ (r ++ (n ++ (h2 ++ g)))) one two)
    three

module _ (q : Plans) (i a b : ℕ) (p : Planned) (front : List Equation) (e : Equation) (k m : ℕ)
    (ns : List Word) (h0 h1 h2 : List Blocks) (r0 r1 r2 names made : List Word) (rest : List Piece)
    (l : Taken e.left k (heaps_pieces 0 h0) (heaps_pieces 0 h1) r0 r1)
    (r : Taken e.right m (heaps_pieces 0 h1) (heaps_pieces 0 h2) r1 r2) where
  -- what is there as the pair has fired, and nothing is linked
  abbrev pub fired_pieces : List Piece
  fired_pieces = pieces_made p (r2 ++ (names ++ made)) names made
      ++ (names_pieces 0 ns ++ (heaps_pieces 0 h2 ++ (map equated_of front ++ rest)))

  -- The last pending pair fires.
  pub fire_pair : e.left.tag ≡ a + 1 → e.right.tag ≡ b + 1
      → slice_get q.arities a ≡ Some k → slice_get q.arities b ≡ Some m → IsNumbered q i a b p
      → r0 ≡ constants (length q.arities) → length names ≡ p.names → length made ≡ length p.made
      → AllByRecursion (λ w. w.tag ≡ NAME) names
      → map (λ (w : Word). w.tag) made ≡ map (λ (m : Made). m.symbol + 1) p.made
      → AreFresh (names ++ made) (names_pieces 0 ns ++ (heaps_pieces 0 h2 ++ (map equated_of front ++ rest)))
      → FiresPair q e i (names_pieces 0 ns ++ (heaps_pieces 0 h0 ++ (map equated_of (front ++ e ∷ []) ++ rest))) fired_pieces
  fire_pair la ra ka kb number first nc mc nt mt fresh =
      let others : List Piece = names_pieces 0 ns ++ (heaps_pieces 0 h2 ++ (map equated_of front ++ rest)) in
      let xs : List Piece = names_pieces 0 ns
      ++ (heaps_pieces 0 h0 ++ (map equated_of (front ++ e ∷ []) ++ rest)) in
      let left : Word = agent_word a e.left.index in
      let right : Word = agent_word b e.right.index in
      let regs : List Word = constants (length q.arities) ++ (l.args ++ (r.args ++ (names ++ made))) in
      let mid : List Piece = fired_pieces in
      let filled = ap (λ (z : List Word). z ++ (names ++ made)) r.pushed
      ∙ (append_assoc r1 r.args (names ++ made)
      ∙ (ap (λ (z : List Word). z ++ (r.args ++ (names ++ made))) l.pushed
      ∙ (append_assoc r0 l.args (r.args ++ (names ++ made))
      ∙ ap (λ (z : List Word). z ++ (l.args ++ (r.args ++ (names ++ made)))) first))) in
      let order = subst (λ (z : List Piece). IsPermutation (names_pieces 0 ns ++ (heaps_pieces 0 h0 ++ (z ++ rest)))
      (equated_of e ∷ (agent_with e.left l.args ++ (agent_with e.right r.args ++ others))))
      (sym (map-append equated_of front (e ∷ [])))
      (pair_order (names_pieces 0 ns) (heaps_pieces 0 h0) (heaps_pieces 0 h1) (heaps_pieces 0 h2)
      (agent_with e.left l.args) (agent_with e.right r.args) (map equated_of front) rest (equated_of e)
      (taken_first (agent_with e.left l.args) (heaps_pieces 0 h0) (heaps_pieces 0 h1) l.gone)
      (taken_first (agent_with e.right r.args) (heaps_pieces 0 h1) (heaps_pieces 0 h2) r.gone)) in
      let given = subst (λ (v : Word). IsPermutation xs (equated left v ∷ (agent_with left l.args ++ (agent_with v r.args ++ others))))
      (as_agent e.right b ra)
      (subst (λ (v : Word). IsPermutation xs (equated v e.right ∷ (agent_with v l.args ++ (agent_with e.right r.args ++ others))))
      (as_agent e.left a la) order) in
      let fire : Fires q i xs mid = record {
        left = a;
        right = b;
        left_place = e.left.index;
        right_place = e.right.index;
        left_args = l.args;
        right_args = r.args;
        plan = p;
        names = names;
        made = made;
        rest = others;
        number = number.number;
        has_plan = number.has_plan;
        left_arity = ka ∙ ap (λ (n : ℕ). Some n) (sym l.count);
        right_arity = kb ∙ ap (λ (n : ℕ). Some n) (sym r.count);
        given = given;
        names_count = nc;
        made_count = mc;
        name_tags = nt;
        made_tags = mt;
        fresh = fresh;
        result = subst (λ (z : List Word). IsPermutation mid (pieces_made p z names made ++ others)) filled
            (IsPermutation-refl mid);
      } in
      record { fires = fire; left = as_agent e.left a la; right = as_agent e.right b ra }

-- A pair that fires, in another order of the pieces.
pub pair_from : (p : Plans) (e : Equation) (i : ℕ) (xs' xs ys : List Piece) → IsPermutation xs' xs → FiresPair p e i xs ys
    → FiresPair p e i xs' ys
pair_from p e i xs' xs ys h f =
    let s : Fires p i xs ys = f.fires in
    record {
      fires = record {
        left = s.left;
        right = s.right;
        left_place = s.left_place;
        right_place = s.right_place;
        left_args = s.left_args;
        right_args = s.right_args;
        plan = s.plan;
        names = s.names;
        made = s.made;
        rest = s.rest;
        number = s.number;
        has_plan = s.has_plan;
        left_arity = s.left_arity;
        right_arity = s.right_arity;
        given = IsPermutation-trans xs' xs _ h s.given;
        names_count = s.names_count;
        made_count = s.made_count;
        name_tags = s.name_tags;
        made_tags = s.made_tags;
        fresh = s.fresh;
        result = s.result;
      };
      left = f.left;
      right = f.right;
    }

-- the pair first
pub pair_first : (p : Plans) (e : Equation) (i : ℕ) (n h rest ys : List Piece)
    → FiresPair p e i (n ++ (h ++ equated_of e ∷ rest)) ys → FiresPair p e i (equated_of e ∷ (n ++ (h ++ rest))) ys
pair_first p e i n h rest ys f =
    let x : Piece = equated_of e in
    let middle = subst (λ (z : List Piece). IsPermutation z (x ∷ (n ++ (h ++ rest)))) (append_assoc n h (x ∷ rest))
    (subst (λ (z : List Piece). IsPermutation ((n ++ h) ++ x ∷ rest) (x ∷ z)) (append_assoc n h rest)
    (IsPermutation-middle (n ++ h) x rest)) in
    pair_from p e i (x ∷ (n ++ (h ++ rest))) (n ++ (h ++ x ∷ rest)) ys
    (IsPermutation-sym (n ++ (h ++ x ∷ rest)) (x ∷ (n ++ (h ++ rest))) middle) f

-- What is fresh beside equations is so without some of them.
pub fresh_fewer : (ws : List Word) (n h : List Piece) (f g : List Equation)
    → AreFresh ws (n ++ (h ++ (map equated_of f ++ map equated_of g))) → AreFresh ws (n ++ (h ++ map equated_of g))
fresh_fewer [] n h f g s = tt
fresh_fewer (w ∷ ws) n h f g s =
    let none = equations_room w f in
    let all : sum_by (room w) (n ++ (h ++ (map equated_of f ++ map equated_of g))) ≡ 0 = s.0 in
    (omega (arith, sum_by-append {X = Piece}), s.1, fresh_fewer ws n h f g s.2)

-- what is past the end of a list
pub get_past : (xs : List ℕ) (s : ℕ) → length xs ≤ s → slice_get xs s ≡ None
get_past [] s h = refl
get_past (x ∷ xs) zero h = absurd (omega arith)
get_past (x ∷ xs) (suc s) h = get_past xs s (omega arith)

-- a mark is no constant
pub mark_tag : (us : List ℕ) (t : ℕ) → length us < GIVEN → IDLE ≤ t → is_constant_tag us t ≡ false
mark_tag us zero few h = absurd (omega arith)
mark_tag us (suc s) few h =
    let past : slice_get us s ≡ None = get_past us s (omega arith) in
    let other : (suc s == GIVEN) ≡ false = ne_eqb (suc s) GIVEN (λ e. omega arith) in
    ap (λ (o : Option ℕ). option_map_or (λ k. k == 0) o (suc s == GIVEN)) past ∙ other

-- nor is an agent with arguments
pub agent_tag : (us : List ℕ) (t s k : ℕ) → t ≡ s + 1 → slice_get us s ≡ Some k → 1 ≤ k
    → is_constant_tag us t ≡ false
agent_tag us zero s k e h some = absurd (omega arith)
agent_tag us (suc n) s k e h some =
    let same : n ≡ s = omega arith in
    let at : slice_get us n ≡ Some k = ap (slice_get us) same ∙ h in
    ap (λ (o : Option ℕ). option_map_or (λ j. j == 0) o (suc n == GIVEN)) at
    ∙ ne_eqb k 0 (λ z. omega arith)

-- a fact of each word that stands in a list
pub all_counted : (P : Word → Type 0) (ws : List Word) → ((v : Word) → 1 ≤ count v ws → P v)
    → AllByRecursion P ws
all_counted P [] f = tt
all_counted P (w ∷ ws) f =
    let own : ◌≡◌ {A = ℕ} (cond (word_eq w w) 1 0) 1 = ap (λ (b : Bool). cond b 1 0) (word_eq_refl w) in
    let first : count w (w ∷ ws) ≡ cond (word_eq w w) 1 0 + count w ws =
    sum_by-cons (λ x. cond (word_eq w x) 1 0) w ws in (
      f w (omega arith),
      all_counted P ws (λ v h.
          let more : count v (w ∷ ws) ≡ cond (word_eq v w) 1 0 + count v ws =
          sum_by-cons (λ x. cond (word_eq v x) 1 0) w ws in
          f v (omega arith)),
    )

-- no word that is named in separate pieces is a mark
pub no_mark : (ns : List Word) (hs : List Blocks) (ps : List Equation) (v : Word)
    → IsSeparate (arities_of hs) []
    (names_pieces 0 ns ++ (heaps_pieces 0 hs ++ (map equated_of ps ++ [])))
    → length hs < GIVEN
    → 1 ≤ sum_by (uses v) (names_pieces 0 ns ++ (heaps_pieces 0 hs ++ (map equated_of ps ++ [])))
    → v.tag < IDLE
no_mark ns hs ps v s few used = elim (leb_tells IDLE v.tag) [
  | inl t ↦ (let mark : IDLE ≤ v.tag = t.1 in
      let len : length (arities_of hs) ≡ length hs = length-map hs (λ b. b.arity) in
      let room_enough = s.each v (mark_tag (arities_of hs) v.tag (omega arith) t.1) in
      let only = agent_room_only v ns hs ps [] (omega arith) in
      let none : sum_by (room v) (heaps_pieces 0 hs) ≡ 0 =
      tables_elsewhere v 0 hs (λ i le lt q. omega arith) in
      absurd (omega arith))
  | inr t ↦ t.1
]

-- how often a word is named by tables whose last pending equation is this one
pub held_uses : (w : Word) (ns : List Word) (hs : List Blocks) (front : List Equation) (e : Equation)
    → sum_by (uses w) (names_pieces 0 ns ++ (heaps_pieces 0 hs ++ (map equated_of (front ++ e ∷ []) ++ [])))
    ≡ sum_by (uses w) (names_pieces 0 ns) + (sum_by (uses w) (heaps_pieces 0 hs)
    + (sum_by (uses w) (map equated_of front) + count w (e.left ∷ e.right ∷ [])))
held_uses w ns hs front e =
    let d = ap (sum_by (uses w)) (map-append equated_of front (e ∷ [])) in
    let none : sum_by (uses w) [] ≡ 0 = refl in
    let one : sum_by (uses w) (equated_of e ∷ []) ≡ count w (e.left ∷ e.right ∷ []) = omega arith in
    omega (arith, sum_by-append {X = Piece})

-- the left agent of a pair, if it has arguments, has room
pub left_there : (ns : List Word) (hs : List Blocks) (front : List Equation) (e : Equation) (a k : ℕ)
    → IsSeparate (arities_of hs) []
    (names_pieces 0 ns ++ (heaps_pieces 0 hs ++ (map equated_of (front ++ e ∷ []) ++ [])))
    → e.left.tag ≡ a + 1 → slice_get (arities_of hs) a ≡ Some k → 1 ≤ k
    → 1 ≤ sum_by (room e.left) (heaps_pieces 0 hs)
left_there ns hs front e a k s tag arity some =
    let each = s.each e.left (agent_tag (arities_of hs) e.left.tag a k tag arity some) in
    let only = agent_room_only e.left ns hs (front ++ e ∷ []) [] (omega arith) in
    let used = held_uses e.left ns hs front e in
    let own : ◌≡◌ {A = ℕ} (cond (word_eq e.left e.left) 1 0) 1 = ap (λ (b : Bool). cond b 1 0) (word_eq_refl e.left) in
    let both : count e.left (e.left ∷ e.right ∷ []) ≡ cond (word_eq e.left e.left) 1 0 + count e.left (e.right ∷ []) =
    sum_by-cons (λ x. cond (word_eq e.left x) 1 0) e.left (e.right ∷ []) in
    omega arith

-- and the right one, after the left one is gone
pub right_there : (ns : List Word) (hs gs : List Blocks) (front : List Equation) (e : Equation) (b j k : ℕ)
    (r0 r1 : List Word) (l : Taken e.left j (heaps_pieces 0 hs) (heaps_pieces 0 gs) r0 r1)
    → IsSeparate (arities_of hs) []
    (names_pieces 0 ns ++ (heaps_pieces 0 hs ++ (map equated_of (front ++ e ∷ []) ++ [])))
    → e.right.tag ≡ b + 1 → slice_get (arities_of hs) b ≡ Some k → 1 ≤ k
    → 1 ≤ sum_by (room e.right) (heaps_pieces 0 gs)
right_there ns hs gs front e b j k r0 r1 l s tag arity some =
    let w : Word = e.right in
    let each = s.each w (agent_tag (arities_of hs) w.tag b k tag arity some) in
    let only = agent_room_only w ns hs (front ++ e ∷ []) [] (omega arith) in
    let used = held_uses w ns hs front e in
    let own : ◌≡◌ {A = ℕ} (cond (word_eq w w) 1 0) 1 = ap (λ (b : Bool). cond b 1 0) (word_eq_refl w) in
    let both : count w (e.left ∷ w ∷ []) ≡ cond (word_eq w e.left) 1 0 + count w (w ∷ []) =
    sum_by-cons (λ x. cond (word_eq w x) 1 0) e.left (w ∷ []) in
    let one : count w (w ∷ []) ≡ cond (word_eq w w) 1 0 = omega arith in
    let gone = replaced_sum (room w) (agent_with e.left l.args) [] (heaps_pieces 0 hs) (heaps_pieces 0 gs) l.gone in
    let most = agent_room w e.left l.args in
    let none : sum_by (room w) [] ≡ 0 = refl in
    omega arith

module _ (ns : List Word) (front : List Equation) (e : Equation) (j k : ℕ) (h0 h1 h2 : List Blocks) (r0 r1 r2 : List Word)
    (l : Taken e.left j (heaps_pieces 0 h0) (heaps_pieces 0 h1) r0 r1)
    (r : Taken e.right k (heaps_pieces 0 h1) (heaps_pieces 0 h2) r1 r2)
    (s : IsSeparate (arities_of h0) [] (names_pieces 0 ns ++ (heaps_pieces 0 h0 ++ (map equated_of (front ++ e ∷ []) ++ [])))) where
  -- how often a word is named by the tables of agents, before their arguments were taken out
  args_uses : (w : Word) → sum_by (uses w) (heaps_pieces 0 h0) ≡ count w (l.args ++ r.args) + sum_by (uses w) (heaps_pieces 0 h2)
  args_uses w =
      let both = sum_by-append (λ (v : Word). cond {A = ℕ} (word_eq w v) 1 0) l.args r.args in
      let a = replaced_sum (uses w) (agent_with e.left l.args) [] (heaps_pieces 0 h0) (heaps_pieces 0 h1) l.gone in
      let b = replaced_sum (uses w) (agent_with e.right r.args) [] (heaps_pieces 0 h1) (heaps_pieces 0 h2) r.gone in
      let none : sum_by (uses w) [] ≡ 0 = refl in
      omega (arith, agent_uses w e.left l.args, agent_uses w e.right r.args)

  -- no argument is a mark
  pub args_words : length h0 < GIVEN → AllByRecursion (λ w. w.tag < IDLE) (l.args ++ r.args)
  args_words few =
      all_counted (λ w. w.tag < IDLE) (l.args ++ r.args) (λ v h.
      let used = held_uses v ns h0 front e in
      let args = args_uses v in
      no_mark ns h0 (front ++ e ∷ []) v s few (omega arith))

  -- each name is named by the arguments at most as often as there is room
  pub args_named : (i : ℕ) → count (name_word i) (l.args ++ r.args) + sum_by (uses (name_word i)) (names_pieces 0 ns)
      ≤ sum_by (room (name_word i)) (names_pieces 0 ns)
  args_named i =
      let w : Word = name_word i in
      let each = s.each w refl in
      let only = name_room w ns h0 (front ++ e ∷ []) [] refl in
      let used = held_uses w ns h0 front e in
      let args = args_uses w in
      omega arith

-- The tables are separate, where some got more memory.
pub fire_separate : (ns ms : List Word) (h0 h1 : List Blocks) (ps front : List Equation) (e : Equation)
    → ms ≡ ns → AreSame h0 h1 → ps ≡ front ++ e ∷ []
    → IsSeparate (arities_of h0) []
    (names_pieces 0 ns ++ (heaps_pieces 0 h0 ++ (map equated_of ps ++ [])))
    → IsSeparate (arities_of h1) []
    (names_pieces 0 ms ++ (heaps_pieces 0 h1 ++ (map equated_of (front ++ e ∷ []) ++ [])))
fire_separate ns ms h0 h1 ps front e names same last s =
    let after : List Piece = names_pieces 0 ns ++ (heaps_pieces 0 h0 ++ (map equated_of (front ++ e ∷ []) ++ [])) in
    let one = subst (λ (l : List Equation). IsSeparate (arities_of h0) []
    (names_pieces 0 ns ++ (heaps_pieces 0 h0 ++ (map equated_of l ++ [])))) last s in
    let two = subst (λ (l : List ℕ). IsSeparate l [] after) (sym (same_arities h0 h1 same)) one in
    let three = subst (λ (l : List Piece). IsSeparate (arities_of h1) []
    (names_pieces 0 ns ++ (l ++ (map equated_of (front ++ e ∷ []) ++ [])))) (sym (same_pieces h0 h1 0 same)) two in
    subst (λ (l : List Word). IsSeparate (arities_of h1) []
    (names_pieces 0 l ++ (heaps_pieces 0 h1 ++ (map equated_of (front ++ e ∷ []) ++ [])))) (sym names) three
