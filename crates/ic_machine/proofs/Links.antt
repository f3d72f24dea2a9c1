-- How linking goes on, equation by equation.
use Rattle.std.proofs.Common.{◌≡◌, ℕ, zero, suc, ◌+◌, ◌<◌, ◌≤◌, List, [], ◌∷◌, ◌++◌, length, map, drop, slice_index_or, refl, ap, sym, subst, ◌∙◌, append_assoc, arith, sum_by}
use Rattle.std.specs.List.{AllByRecursion}
use Rattle.std.specs.List.Sorted.{IsPermutation}
use Rattle.std.proofs.Math.Seq.{drop-cons}
use Rattle.std.proofs.lemmas.List.{append-nil, map-append}
use Rattle.std.proofs.lemmas.List.Sorted.{IsPermutation-sym, IsPermutation-cons}
use Rattle.std.proofs.lemmas.List.Sums.{sum_by-cons, sum_by-append}
use Rattle.ic_arena.specs.declared.word.Word.{Word}
use Rattle.ic_arena.specs.declared.word.TheConstants.{IDLE, NAME}
use Rattle.ic_arena.specs.Word.{name_word}
use Rattle.ic_arena.specs.Piece.{Piece, equated, waits, room, uses}
use Rattle.ic_arena.specs.Tables.{Replaced, names_pieces, register}
use Rattle.ic_machine.specs.declared.equation.Equation.{Equation}
use Rattle.ic_machine.specs.declared.plan.Link.{Link}
use Rattle.ic_machine.specs.Plan.{Plans, linked}
use Rattle.ic_machine.specs.Net.{equated_of, IsPair}
use Rattle.ic_machine.specs.Steps.{Steps, no_step}
use Rattle.ic_machine.specs.inner.Linking.{AreNamed, AreLinks, Meeting, Pushed}
use Rattle.ic_machine.specs.lemmas.Balance.{steps_balance, equations_room}
use Rattle.ic_machine.specs.lemmas.FiringKeeps.{all_append}
use Rattle.ic_machine.specs.lemmas.Orders.{to_front, replaced_sum}
use Rattle.ic_machine.specs.lemmas.StepsOn.{steps_to, steps_through}
use Rattle.ic_machine.proofs.LinkSteps.{met, pended, turned}
use Rattle.ic_machine.proofs.NameRooms.{as_name, named_roomy, replaced_length}

pub steps_from : (p : Plans) (is : List ℕ) (xs ys zs : List Piece) → IsPermutation xs ys
    → Steps p is ys zs → Steps p is xs zs
steps_from p is xs ys zs h s = steps_through p [] is xs ys zs (no_step xs ys h) s

-- a word met the one that waited
pub meeting : (x r u : Word) (old new : List Word) → AreNamed x r old → u.tag < IDLE
    → Replaced (waits x u ∷ []) [] (names_pieces 0 old) (names_pieces 0 new) → Meeting x r u old new
meeting x r u old new named word h = record {
  steps = λ p rest. met p x r u (names_pieces 0 old) (names_pieces 0 new) rest h;
  named = record {
    left_word = word;
    right_word = named.right_word;
    named = λ i.
        let before = named.named i in
        let us = replaced_sum (uses (name_word i)) (waits x u ∷ []) [] (names_pieces 0 old) (names_pieces 0 new) h in
        let rs = replaced_sum (room (name_word i)) (waits x u ∷ []) [] (names_pieces 0 old) (names_pieces 0 new) h in
        omega arith;
  };
  fewer = let l = replaced_length (waits x u ∷ []) [] (names_pieces 0 old) (names_pieces 0 new) h in omega arith;
}

-- the two sides of an equation, read the other way round
pub named_turned : (l r : Word) (ws : List Word) → AreNamed l r ws → AreNamed r l ws
named_turned l r ws n = record {
  left_word = n.right_word;
  right_word = n.left_word;
  named = λ i. let before = n.named i in omega arith;
}

-- an equation whose right side is a name meets what waits
pub meets_right : (p : Plans) (l x u : Word) (ns ms rest : List Piece)
    → ((q : Plans) (others : List Piece)
    → Steps q [] (equated x l ∷ (ns ++ others)) (equated u l ∷ (ms ++ others)))
    → Steps p [] (equated l x ∷ (ns ++ rest)) (equated l u ∷ (ms ++ rest))
meets_right p l x u ns ms rest s =
    steps_through p [] [] (equated l x ∷ (ns ++ rest)) (equated u l ∷ (ms ++ rest)) (equated l u ∷ (ms ++ rest))
    (steps_through p [] [] (equated l x ∷ (ns ++ rest)) (equated x l ∷ (ns ++ rest)) (equated u l ∷ (ms ++ rest))
    (turned p l x (ns ++ rest)) (s p rest))
    (turned p u l (ms ++ rest))

-- a part in front goes after two others
pub to_back : (l a b rest : List Piece)
    → IsPermutation (l ++ (a ++ (b ++ rest))) (a ++ (b ++ (l ++ rest)))
to_back l a b rest =
    subst (λ (x : List Piece). IsPermutation (l ++ x) (a ++ (b ++ (l ++ rest)))) (append_assoc a b rest)
    (subst (λ (x : List Piece). IsPermutation (l ++ ((a ++ b) ++ rest)) x) (append_assoc a b (l ++ rest))
    (IsPermutation-sym ((a ++ b) ++ (l ++ rest)) (l ++ ((a ++ b) ++ rest)) (to_front (a ++ b) l rest)))

-- the first of some equations is linked
pub linked_on : (p : Plans) (start : List Piece) (first : Piece) (ls ns ps ms qs rest : List Piece)
    → Steps p [] start ((first ∷ ls) ++ (ns ++ (ps ++ rest)))
    → ((others : List Piece) → Steps p [] (first ∷ (ns ++ (ps ++ others))) (ms ++ (qs ++ others)))
    → Steps p [] start (ls ++ (ms ++ (qs ++ rest)))
linked_on p start first ls ns ps ms qs rest before link =
    let after = steps_to p [] start ((first ∷ ls) ++ (ns ++ (ps ++ rest))) (first ∷ (ns ++ (ps ++ (ls ++ rest)))) before
    (IsPermutation-cons first (ls ++ (ns ++ (ps ++ rest))) (ns ++ (ps ++ (ls ++ rest))) (to_back ls ns ps rest)) in
    steps_to p [] start (ms ++ (qs ++ (ls ++ rest))) (ls ++ (ms ++ (qs ++ rest)))
    (steps_through p [] [] start (first ∷ (ns ++ (ps ++ (ls ++ rest)))) (ms ++ (qs ++ (ls ++ rest)))
    after (link (ls ++ rest)))
    (IsPermutation-sym (ls ++ (ms ++ (qs ++ rest))) (ms ++ (qs ++ (ls ++ rest))) (to_back ls ms qs rest))

-- equations are put after others twice
pub pushed_twice : (us bs cs : List Equation) → Pushed us bs → Pushed bs cs → Pushed us cs
pushed_twice us bs cs p q = record {
  more = p.more ++ q.more;
  after = q.after ∙ (ap (λ (l : List Equation). l ++ q.more) p.after ∙ append_assoc us p.more q.more);
  pairs = all_append IsPair p.more q.more p.pairs q.pairs;
}

-- a sum over tables and pending equations
sum_of_held : (f : Piece → ℕ) (ns ps : List Piece)
    → sum_by f (ns ++ (ps ++ [])) ≡ sum_by f ns + sum_by f ps
sum_of_held f ns ps =
    let c : sum_by f [] ≡ 0 = refl in
    omega (arith, sum_by-append {X = Piece})

-- what is left to be linked, after the first
pub links_on : (l : Link) (ls : List Link) (rs old new : List Word) (ps qs : List Equation)
    → ((p : Plans) (rest : List Piece) → Steps p []
    (linked rs l ∷ (names_pieces 0 old ++ (map equated_of ps ++ rest)))
    (names_pieces 0 new ++ (map equated_of qs ++ rest)))
    → Pushed ps qs → AreLinks (l ∷ ls) rs old → AreLinks ls rs new
links_on l ls rs old new ps qs steps pushed links = record {
  filled = links.filled.1.1;
  words = links.words;
  named = λ i.
      let w : Word = name_word i in
      let no_plans : Plans = record { arities = []; pairs = []; plans = [] } in
      let before = links.named i in
      let balance = steps_balance no_plans [] w (linked rs l ∷ (names_pieces 0 old ++ (map equated_of ps ++ [])))
      (names_pieces 0 new ++ (map equated_of qs ++ [])) refl (steps no_plans []) in
      let a = sum_by-cons (uses w) (linked rs l) (map (linked rs) ls) in
      let b = sum_by-cons (uses w) (linked rs l) (names_pieces 0 old ++ (map equated_of ps ++ [])) in
      let c = sum_by-cons (room w) (linked rs l) (names_pieces 0 old ++ (map equated_of ps ++ [])) in
      let d = sum_of_held (uses w) (names_pieces 0 old) (map equated_of ps) in
      let e = sum_of_held (room w) (names_pieces 0 old) (map equated_of ps) in
      let f = sum_of_held (uses w) (names_pieces 0 new) (map equated_of qs) in
      let g = sum_of_held (room w) (names_pieces 0 new) (map equated_of qs) in
      let none = equations_room w ps in
      let none_after = equations_room w qs in
      let more = ap (λ (x : List Equation). sum_by (uses w) (map equated_of x)) pushed.after
      ∙ (ap (sum_by (uses w)) (map-append equated_of ps pushed.more)
      ∙ sum_by-append (uses w) (map equated_of ps) (map equated_of pushed.more)) in
      omega arith;
}

-- nothing was put after others yet
pub pushed_none : (ps : List Equation) → Pushed ps ps
pushed_none ps = record { more = []; after = sym (append-nil ps); pairs = tt }

-- what holds of each of a list holds at each place
pub word_at : (P : Word → Type 0) (ws : List Word) (k : ℕ) (d : Word) → AllByRecursion P ws → k < length ws
    → P (slice_index_or ws k d)
word_at P [] k d a h = absurd (omega arith)
word_at P (w ∷ ws) zero d a h = a.0
word_at P (w ∷ ws) (suc k) d a h = word_at P ws k d a.1 (omega arith)

-- the first of some equations can be linked
pub links_first : (l : Link) (ls : List Link) (rs ws : List Word) → AreLinks (l ∷ ls) rs ws
    → AreNamed (register rs l.left) (register rs l.right) ws
links_first l ls rs ws h = record {
  left_word = word_at (λ w. w.tag < IDLE) rs l.left (name_word 0) h.words h.filled.0;
  right_word = word_at (λ w. w.tag < IDLE) rs l.right (name_word 0) h.words h.filled.1.0;
  named = λ i.
      let before = h.named i in
      let a = sum_by-cons (uses (name_word i)) (linked rs l) (map (linked rs) ls) in
      omega arith;
}

pub links_from : (ls : List Link) (i : ℕ) (d : Link) → i < length ls
    → drop i ls ≡ slice_index_or ls i d ∷ drop (i + 1) ls
links_from ls i d h =
    let next : suc i ≡ i + 1 = omega arith in
    drop-cons ls i d h ∙ ap (λ (k : ℕ). slice_index_or ls i d ∷ drop k ls) next

pub links_past : (ls : List Link) (i : ℕ) → length ls ≤ i → drop i ls ≡ []
links_past [] zero h = refl
links_past [] (suc i) h = refl
links_past (l ∷ ls) zero h = absurd (omega arith)
links_past (l ∷ ls) (suc i) h = links_past ls i (omega arith)

-- The left side of an equation is a name, and steps go on by what comes of it.
pub on_left : (p : Plans) (start : List Piece) (l r : Word) (ns rest end : List Piece) → l.tag ≡ NAME
    → Steps p [] start (equated l r ∷ (ns ++ rest))
    → Steps p [] (equated (name_word l.index) r ∷ (ns ++ rest)) end → Steps p [] start end
on_left p start l r ns rest end tag before next =
    steps_through p [] [] start (equated l r ∷ (ns ++ rest)) end before
    (subst (λ (w : Word). Steps p [] (equated w r ∷ (ns ++ rest)) end) (sym (as_name l tag)) next)

-- The right side is.
pub on_right : (p : Plans) (start : List Piece) (l r : Word) (ns rest end : List Piece) → r.tag ≡ NAME
    → Steps p [] start (equated l r ∷ (ns ++ rest))
    → Steps p [] (equated (name_word r.index) l ∷ (ns ++ rest)) end → Steps p [] start end
on_right p start l r ns rest end tag before next =
    on_left p start r l ns rest end tag
    (steps_through p [] [] start (equated l r ∷ (ns ++ rest)) (equated r l ∷ (ns ++ rest)) before
    (turned p l r (ns ++ rest))) next

-- Neither is, and the equation is pending.
pub on_neither : (p : Plans) (start : List Piece) (e : Equation) (ns rest : List Piece) (ps qs : List Equation)
    → Steps p [] start (equated_of e ∷ (ns ++ (map equated_of ps ++ rest))) → qs ≡ ps ++ e ∷ []
    → Steps p [] start (ns ++ (map equated_of qs ++ rest))
on_neither p start e ns rest ps qs before is =
    let pushed = sym (ap (map equated_of) is ∙ map-append equated_of ps (e ∷ [])) in
    steps_through p [] [] start (equated_of e ∷ (ns ++ (map equated_of ps ++ rest))) (ns ++ (map equated_of qs ++ rest))
    before
    (subst (λ (l : List Piece). Steps p [] (equated_of e ∷ (ns ++ (map equated_of ps ++ rest))) (ns ++ (l ++ rest)))
    pushed (pended p e.left e.right ns (map equated_of ps) rest))

-- steps after steps, where none fires
pub steps_on : (p : Plans) (mid : List Piece) {xs zs : List Piece} → Steps p [] xs mid → Steps p [] mid zs
    → Steps p [] xs zs
steps_on p mid {xs} {zs} s t = steps_through p [] [] xs mid zs s t

-- the left side of an equation has room, where it is a name
pub side_room : (l r : Word) (ws : List Word) → AreNamed l r ws → l.tag ≡ NAME
    → 1 ≤ sum_by (room l) (names_pieces 0 ws)
side_room l r ws named tag =
    let is : l ≡ name_word l.index = as_name l tag in
    subst (λ (w : Word). 1 ≤ sum_by (room w) (names_pieces 0 ws)) (sym is)
    (named_roomy l.index r ws (subst (λ (w : Word). AreNamed w r ws) is named))
