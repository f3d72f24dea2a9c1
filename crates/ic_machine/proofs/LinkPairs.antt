-- Lemmas: words of a stack that are linked two by two.
use Rattle.std.proofs.Common.{◌≡◌, ℕ, zero, suc, ◌+◌, ◌*◌, ◌<◌, ◌≤◌, cond, List, [], ◌∷◌, ◌++◌, length, map, drop, reverse, slice_index_or, refl, ap, sym, subst, ◌∙◌, append_assoc, arith, sum_by}
use Rattle.std.specs.List.{AllByRecursion}
use Rattle.std.specs.List.Sorted.{IsPermutation}
use Rattle.std.proofs.Math.Seq.{drop-cons}
use Rattle.std.proofs.lemmas.List.{length-drop, map-append, reverse-append}
use Rattle.std.proofs.lemmas.List.Sorted.{IsPermutation-append, IsPermutation-append_comm, IsPermutation-append_right, IsPermutation-map, IsPermutation-reverse, IsPermutation-sym, IsPermutation-trans, sum_by-IsPermutation}
use Rattle.std.proofs.lemmas.List.Sums.{sum_by-append, sum_by-cons}
use Rattle.ic_arena.specs.declared.word.Word.{Word}
use Rattle.ic_arena.specs.declared.word.TheConstants.{IDLE}
use Rattle.ic_arena.specs.Word.{count, name_word, word_eq}
use Rattle.ic_arena.specs.Piece.{Piece, room, uses}
use Rattle.ic_arena.specs.Tables.{Blocks, names_pieces}
use Rattle.ic_machine.specs.declared.equation.Equation.{Equation}
use Rattle.ic_machine.specs.Moving.{sides_of}
use Rattle.ic_machine.specs.Net.{equated_of}
use Rattle.ic_machine.specs.Plan.{Plans}
use Rattle.ic_machine.specs.Separate.{IsSeparate}
use Rattle.ic_machine.specs.Steps.{Steps, no_step}
use Rattle.ic_machine.specs.inner.Firing.{heaps_pieces}
use Rattle.ic_machine.specs.inner.Linking.{AreNamed, Pushed}
use Rattle.ic_machine.specs.inner.Unpacking.{pairs_on, AreEntered}
use Rattle.ic_machine.specs.lemmas.Balance.{equations_room, steps_balance}
use Rattle.ic_machine.specs.lemmas.Orders.{to_front}
use Rattle.ic_machine.specs.lemmas.StepsOn.{steps_to, steps_through}
use Rattle.ic_machine.proofs.Heaps.{tables_elsewhere}

abbrev is_word : Word → Word → ℕ
is_word w v = cond (word_eq w v) 1 0

-- the first two of what is left
pub two_from : (ws : List Word) (i : ℕ) (d : Word) → 2 * i + 1 < length ws
    → drop (2 * i) ws ≡ slice_index_or ws (2 * i) d ∷ (slice_index_or ws (2 * i + 1) d ∷ drop (2 * (i + 1)) ws)
two_from ws i d h =
    let one : suc (2 * i) ≡ 2 * i + 1 = omega arith in
    let two : suc (2 * i + 1) ≡ 2 * (i + 1) = omega arith in
    drop-cons ws (2 * i) d (omega arith)
    ∙ ap (λ (l : List Word). slice_index_or ws (2 * i) d ∷ l)
    (ap (λ (k : ℕ). drop k ws) one ∙ (drop-cons ws (2 * i + 1) d h
    ∙ ap (λ (k : ℕ). slice_index_or ws (2 * i + 1) d ∷ drop k ws) two))

-- fewer than two words are no equation
pub pairs_none : (ws : List Word) → length ws < 2 → pairs_on ws ≡ []
pairs_none [] h = refl
pairs_none (w ∷ []) h = refl
pairs_none (r ∷ (l ∷ ws)) h = absurd (omega arith)

pub short_rest : (ws : List Word) (i : ℕ) → length ws < 2 * i + 2 → length (drop (2 * i) ws) < 2
short_rest ws i h = let len = length-drop (2 * i) ws in omega arith

-- two words can be linked
pub entered_first : (r l : Word) (ws entries : List Word) → AreEntered (r ∷ (l ∷ ws)) entries → AreNamed l r entries
entered_first r l ws entries h = record {
  left_word = h.words.1.0;
  right_word = h.words.0;
  named = λ i.
      let w : Word = name_word i in
      let before = h.named i in
      let a = sum_by-cons (is_word w) r (l ∷ ws) in
      let b = sum_by-cons (is_word w) l ws in
      let c = sum_by-cons (is_word w) l (r ∷ []) in
      let d = sum_by-cons (is_word w) r [] in
      omega arith;
}

sum_of_two : (f : Piece → ℕ) (ns ps : List Piece) → sum_by f (ns ++ (ps ++ [])) ≡ sum_by f ns + sum_by f ps
sum_of_two f ns ps =
    let c : sum_by f [] ≡ 0 = refl in
    omega (arith, sum_by-append {X = Piece})

-- and the others after them
pub entered_on : (r l : Word) (ws old new : List Word) (ps qs : List Equation)
    → ((p : Plans) (rest : List Piece) → Steps p []
    (equated_of (record { left = l; right = r }) ∷ (names_pieces 0 old ++ (map equated_of ps ++ rest)))
    (names_pieces 0 new ++ (map equated_of qs ++ rest)))
    → Pushed ps qs → AreEntered (r ∷ (l ∷ ws)) old → AreEntered ws new
entered_on r l ws old new ps qs steps pushed h = record {
  words = h.words.1.1;
  named = λ i.
      let w : Word = name_word i in
      let no_plans : Plans = record { arities = []; pairs = []; plans = [] } in
      let first : Piece = equated_of (record { left = l; right = r }) in
      let before = h.named i in
      let balance = steps_balance no_plans [] w (first ∷ (names_pieces 0 old ++ (map equated_of ps ++ [])))
      (names_pieces 0 new ++ (map equated_of qs ++ [])) refl (steps no_plans []) in
      let a1 = sum_by-cons (is_word w) r (l ∷ ws) in
      let a2 = sum_by-cons (is_word w) l ws in
      let a3 = sum_by-cons (is_word w) l (r ∷ []) in
      let a4 = sum_by-cons (is_word w) r [] in
      let b = sum_by-cons (uses w) first (names_pieces 0 old ++ (map equated_of ps ++ [])) in
      let c = sum_by-cons (room w) first (names_pieces 0 old ++ (map equated_of ps ++ [])) in
      let d = sum_of_two (uses w) (names_pieces 0 old) (map equated_of ps) in
      let e = sum_of_two (room w) (names_pieces 0 old) (map equated_of ps) in
      let f = sum_of_two (uses w) (names_pieces 0 new) (map equated_of qs) in
      let g = sum_of_two (room w) (names_pieces 0 new) (map equated_of qs) in
      let none = equations_room w ps in
      let none_after = equations_room w qs in
      let more = ap (λ (x : List Equation). sum_by (uses w) (map equated_of x)) pushed.after
      ∙ (ap (sum_by (uses w)) (map-append equated_of ps pushed.more)
      ∙ sum_by-append (uses w) (map equated_of ps) (map equated_of pushed.more)) in
      omega arith;
}

-- words that are separate, beside others, can be linked
pub entered : (arities : List ℕ) (ws others entries : List Word) (hs : List Blocks) → AllByRecursion (λ w. w.tag < IDLE) ws
    → IsSeparate arities (ws ++ others) (names_pieces 0 entries ++ heaps_pieces 0 hs) → AreEntered ws entries
entered arities ws others entries hs words s = record {
  words = words;
  named = λ i.
      let w : Word = name_word i in
      let n : List Piece = names_pieces 0 entries in
      let h : List Piece = heaps_pieces 0 hs in
      let before = s.each w refl in
      let agents : sum_by (room w) h ≡ 0 = tables_elsewhere w 0 hs (λ k le lt q. omega arith) in
      omega (arith, sum_by-append {X = Word}, sum_by-append {X = Piece});
}

-- equations between words name no more than the words do
pub pairs_uses : (w : Word) (ws : List Word) → sum_by (uses w) (map equated_of (pairs_on ws)) ≤ count w ws
pairs_uses w [] = omega arith
pairs_uses w (v ∷ []) = omega arith
pairs_uses w (r ∷ (l ∷ ws)) =
    let rest = pairs_uses w ws in
    let e : Equation = record { left = l; right = r } in
    let a = sum_by-cons (uses w) (equated_of e) (map equated_of (pairs_on ws)) in
    let b = sum_by-cons (is_word w) l (r ∷ []) in
    let c = sum_by-cons (is_word w) r [] in
    let d = sum_by-cons (is_word w) r (l ∷ ws) in
    let f = sum_by-cons (is_word w) l ws in
    omega arith

-- what was on the stack is in equations
pub stack_equated : (arities : List ℕ) (i ws e : List Word) (xs : List Piece) → IsSeparate arities (i ++ (ws ++ e)) xs
    → IsSeparate arities (i ++ e) (map equated_of (reverse (pairs_on ws)) ++ xs)
stack_equated arities i ws e xs s = record {
  each = λ w c.
      let es : List Piece = map equated_of (pairs_on ws) in
      let fs : List Piece = map equated_of (reverse (pairs_on ws)) in
      let turned = sum_by-IsPermutation (uses w) es fs
      (IsPermutation-map equated_of (pairs_on ws) (reverse (pairs_on ws)) (IsPermutation-reverse (pairs_on ws))) in
      let before = s.each w c in
      let few = pairs_uses w ws in
      let a = sum_by-append (is_word w) i (ws ++ e) in
      let b = sum_by-append (is_word w) ws e in
      let d = sum_by-append (is_word w) i e in
      omega (arith, sum_by-append {X = Piece});
}

-- the sides of equations, read from the top of the stack
pub sides_pairs : (ws : List Word) (n : ℕ) → length ws ≡ 2 * n → sides_of (reverse (pairs_on ws)) ≡ reverse ws
sides_pairs [] n h = refl
sides_pairs (w ∷ []) n h = absurd (omega arith)
sides_pairs (r ∷ (l ∷ ws)) zero h = absurd (omega arith)
sides_pairs (r ∷ (l ∷ ws)) (suc n) h =
    let e : Equation = record { left = l; right = r } in
    let rest : sides_of (reverse (pairs_on ws)) ≡ reverse ws = sides_pairs ws n (omega arith) in
    let last : reverse (pairs_on (r ∷ (l ∷ ws))) ≡ reverse (pairs_on ws) ++ e ∷ [] = reverse-append (e ∷ []) (pairs_on ws) in
    let both = sides_append (reverse (pairs_on ws)) e in
    let whole : reverse (r ∷ (l ∷ ws)) ≡ reverse ws ++ (l ∷ r ∷ []) = reverse-append (r ∷ (l ∷ [])) ws in
    ap sides_of last ∙ (both ∙ (ap (λ (x : List Word). x ++ l ∷ r ∷ []) rest ∙ sym whole))
  where
    sides_append : (es : List Equation) (e : Equation) → sides_of (es ++ e ∷ []) ≡ sides_of es ++ e.left ∷ e.right ∷ []
    sides_append [] e = refl
    sides_append (x ∷ es) e = ap (λ (k : List Word). x.left ∷ x.right ∷ k) (sides_append es e)

-- pending equations, those set aside, names and agents, in the order in which they are linked
order_linked : (n p h a : List Piece) → IsPermutation (n ++ (p ++ (h ++ a))) (p ++ (a ++ (n ++ h)))
order_linked n p h a =
    let inner = subst (λ (l : List Piece). IsPermutation l (a ++ (n ++ h))) (append_assoc n h a) (IsPermutation-append_comm (n ++ h) a) in
    IsPermutation-trans (n ++ (p ++ (h ++ a))) (p ++ (n ++ (h ++ a))) (p ++ (a ++ (n ++ h)))
    (to_front n p (h ++ a)) (IsPermutation-append_right p (n ++ (h ++ a)) (a ++ (n ++ h)) inner)

pub all_linked : (p : Plans) (ws : List Word) (ps qs us : List Equation) (n m h : List Piece)
    → Steps p [] (map equated_of (pairs_on ws) ++ (n ++ (map equated_of ps ++ (h ++ map equated_of us))))
    (m ++ (map equated_of qs ++ (h ++ map equated_of us)))
    → Steps p [] (map equated_of (reverse (pairs_on ws)) ++ (map equated_of ps ++ (map equated_of us ++ (n ++ h))))
    (map equated_of qs ++ (map equated_of us ++ (m ++ h)))
all_linked p ws ps qs us n m h steps =
    let es : List Piece = map equated_of (pairs_on ws) in
    let fs : List Piece = map equated_of (reverse (pairs_on ws)) in
    let a : List Piece = map equated_of us in
    let start : List Piece = fs ++ (map equated_of ps ++ (a ++ (n ++ h))) in
    let mid : List Piece = es ++ (n ++ (map equated_of ps ++ (h ++ a))) in
    let end : List Piece = m ++ (map equated_of qs ++ (h ++ a)) in
    let first = IsPermutation-append fs es (map equated_of ps ++ (a ++ (n ++ h))) (n ++ (map equated_of ps ++ (h ++ a)))
    (IsPermutation-sym es fs (IsPermutation-map equated_of (pairs_on ws) (reverse (pairs_on ws)) (IsPermutation-reverse (pairs_on ws))))
    (IsPermutation-sym (n ++ (map equated_of ps ++ (h ++ a))) (map equated_of ps ++ (a ++ (n ++ h))) (order_linked n (map equated_of ps) h a)) in
    steps_to p [] start end (map equated_of qs ++ (a ++ (m ++ h)))
    (steps_through p [] [] start mid end (no_step start mid first) steps)
    (order_linked m (map equated_of qs) h a)
