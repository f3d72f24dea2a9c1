-- Lemmas: parts that have run, one after another or beside others.
use Rattle.std.proofs.Common.{◌≡◌, ℕ, zero, suc, ◌+◌, ◌<◌, ◌≤◌, List, [], ◌∷◌, ◌++◌, length, map, get_or, refl, sym, ap, subst, arith, ◌∙◌, sum_by, inl, inr}
use Rattle.ic_workers.specs.declared.kept.Kept.{Kept}
use Rattle.ic_workers.specs.declared.kept.Hand.{Hand}
use Rattle.ic_workers.specs.inner.Keeping.{interactions_of, part_of, parts_in, HandWorked, HandsWorked, HasWork, IsKept, IsReady, MayTurn, TakesTurn}
use Rattle.ic_workers.proofs.Lists.{all_of_both, all_set}
use Rattle.std.proofs.Math.ListN.{set}
use Rattle.std.specs.List.{AllByRecursion}
use Rattle.std.proofs.lemmas.List.Sums.{sum_by-cons}
use Rattle.ic_machine.specs.Plan.{Plans, ArePlans}
use Rattle.ic_arena.specs.declared.word.Word.{Word}
use Rattle.ic_machine.specs.Moving.{end_word, AreBordered}
use Rattle.ic_machine.specs.Net.{Net, pieces, IsStuck}
use Rattle.ic_machine.specs.Separate.{IsSeparate}
use Rattle.ic_machine.specs.lemmas.FiresKeep.{steps_keep}
use Rattle.ic_machine.specs.lemmas.RunsOn.{ran_none, ran_on, ran_steps}
use Rattle.ic_workers.specs.Parts.{Part}
use Rattle.ic_workers.specs.inner.HandsOn.{HasWorked, HaveWorked, Come, stayed, ordered, worked, handed, added}

pub one_worked_on : (p : Plans) (q r s : Part) → HasWorked p q r → HasWorked p r s → HasWorked p q s
one_worked_on p q r s a b = record {
  number = b.number ∙ a.number;
  borders = b.borders ∙ a.borders;
  ran = ran_on p q.net r.net s.net a.ran b.ran;
}

pub worked_none : (p : Plans) (qs : List Part) → HaveWorked p qs qs
worked_none p [] = tt
worked_none p (q ∷ qs) = (record { number = refl; borders = refl; ran = ran_none p q.net }, worked_none p qs)

pub worked_on : (p : Plans) (qs rs ss : List Part) → HaveWorked p qs rs → HaveWorked p rs ss → HaveWorked p qs ss
worked_on p [] [] [] a b = tt
worked_on p [] [] (s ∷ ss) a b = absurd b
worked_on p [] (r ∷ rs) ss a b = absurd a
worked_on p (q ∷ qs) [] ss a b = absurd a
worked_on p (q ∷ qs) (r ∷ rs) [] a b = absurd b
worked_on p (q ∷ qs) (r ∷ rs) (s ∷ ss) a b = (one_worked_on p q r s a.0 b.0, worked_on p qs rs ss a.1 b.1)

pub worked_beside : (p : Plans) (qs rs os ss : List Part) → HaveWorked p qs rs → HaveWorked p os ss → HaveWorked p (qs ++ os) (rs ++ ss)
worked_beside p [] [] os ss a b = b
worked_beside p [] (r ∷ rs) os ss a b = absurd a
worked_beside p (q ∷ qs) [] os ss a b = absurd a
worked_beside p (q ∷ qs) (r ∷ rs) os ss a b = (a.0, worked_beside p qs rs os ss a.1 b)

-- one of them has run
pub worked_set : {X : Type 0} (p : Plans) (f : X → Part) (xs : List X) (i : ℕ) (o n : X) → i < length xs → o ≡ get_or xs i o
    → HasWorked p (f o) (f n) → HaveWorked p (map f xs) (map f (set xs i n))
worked_set p f [] i o n lt is one = absurd (omega (arith, lt))
worked_set p f (x ∷ xs) zero o n lt is one = (subst (λ y. HasWorked p (f y) (f n)) is one, worked_none p (map f xs))
worked_set p f (x ∷ xs) (suc i) o n lt is one = (
  record { number = refl; borders = refl; ran = ran_none p (f x).net },
  worked_set p f xs i o n (omega (arith, lt)) is one,
)

-- what is added up where one is set
pub sum_set : {X Q : Type 0} (f : X → Q) (m : Q → ℕ) (xs : List X) (i : ℕ) (o n : X) → i < length xs → o ≡ get_or xs i o
    → sum_by m (map f (set xs i n)) + m (f o) ≡ sum_by m (map f xs) + m (f n)
sum_set f m [] i o n lt is = absurd (omega (arith, lt))
sum_set f m (x ∷ xs) zero o n lt is =
    let same : m (f o) ≡ m (f x) = ap (λ y. m (f y)) is in
    let a = sum_by-cons m (f n) (map f xs) in
    let b = sum_by-cons m (f x) (map f xs) in
    omega (arith, same, a, b)
sum_set f m (x ∷ xs) (suc i) o n lt is =
    let after = sum_set f m xs i o n (omega (arith, lt)) is in
    let a = sum_by-cons m (f x) (map f (set xs i n)) in
    let b = sum_by-cons m (f x) (map f xs) in
    omega (arith, after, a, b)

-- one of a sum is no more than the sum
pub sum_least : {X Q : Type 0} (f : X → Q) (m : Q → ℕ) (xs : List X) (i : ℕ) (o : X) → i < length xs → o ≡ get_or xs i o
    → m (f o) ≤ sum_by m (map f xs)
sum_least f m [] i o lt is = absurd (omega (arith, lt))
sum_least f m (x ∷ xs) zero o lt is =
    let same : m (f o) ≡ m (f x) = ap (λ y. m (f y)) is in
    let b = sum_by-cons m (f x) (map f xs) in
    omega (arith, same, b)
sum_least f m (x ∷ xs) (suc i) o lt is =
    let after = sum_least f m xs i o (omega (arith, lt)) is in
    let b = sum_by-cons m (f x) (map f xs) in
    omega (arith, after, b)

-- a part that has run keeps its ends of cuts separate
pub borders_stay : (p : Plans) (q r : Part) → ArePlans p → q.net.arities ≡ p.arities → HasWorked p q r → AreBordered q.net q.borders → AreBordered r.net r.borders
borders_stay p q r sound arities one before =
    let i : List Word = q.net.interface ++ map end_word q.borders.ends in
    let j : List Word = r.net.interface ++ map end_word r.borders.ends in
    let same : j ≡ i = (λ k. one.ran.interface k ++ map end_word (one.borders k).ends) in
    let own : r.net.arities ≡ p.arities = one.ran.arities ∙ arities in
    let kept : IsSeparate p.arities i (pieces r.net) =
    steps_keep p one.ran.fired i (pieces q.net) (pieces r.net) sound (ran_steps p q.net r.net one.ran)
    (subst (λ (a : List ℕ). IsSeparate a i (pieces q.net)) arities before) in
    subst (λ (a : List ℕ). IsSeparate a j (pieces r.net)) (sym own) (subst (λ (l : List Word). IsSeparate p.arities l (pieces r.net)) (sym same) kept)

pub kept_stays : (p : Plans) (q r : Part) → ArePlans p → HasWorked p q r → IsKept p q → IsKept p r
kept_stays p q r sound one kept = record {
  arities = one.ran.arities ∙ kept.arities;
  plans = one.ran.counts.all ∙ kept.plans;
  bordered = borders_stay p q r sound kept.arities one kept.bordered;
  interface = elim kept.interface [
    | inl own ↦ inl (one.number ∙ own)
    | inr none ↦ inr (one.ran.interface ∙ none)
  ];
  aside = subst (AllByRecursion (IsStuck p)) (sym one.ran.aside) (all_of_both (IsStuck p) q.net.aside one.ran.more kept.aside one.ran.stuck);
}

-- a part whose equations and places have changed
pub kept_as : (p : Plans) (q r : Part) → IsKept p q → r.number ≡ q.number → r.net.interface ≡ q.net.interface → r.net.arities ≡ q.net.arities → r.net.counts ≡ q.net.counts → r.net.aside ≡ q.net.aside
    → AreBordered r.net r.borders → IsKept p r
kept_as p q r kept number interface arities counts aside bordered = record {
  arities = arities ∙ kept.arities;
  plans = ap length counts ∙ kept.plans;
  bordered = bordered;
  interface = elim kept.interface [
    | inl own ↦ inl (number ∙ own)
    | inr none ↦ inr (interface ∙ none)
  ];
  aside = subst (AllByRecursion (IsStuck p)) (sym aside) kept.aside;
}

-- parts that came here, and then there
pub come_on : (p : Plans) (qs rs ss : List Part) → Come p qs rs → Come p rs ss → Come p qs ss
come_on p qs rs ss first (stayed a b moved) = ordered qs a b first moved
come_on p qs rs ss first (ordered a b d then moved) = ordered qs b d (come_on p qs rs b first then) moved
come_on p qs rs ss first (worked a b d then ran) = worked qs b d (come_on p qs rs b first then) ran
come_on p qs rs ss first (handed a b d then hands) = handed qs b d (come_on p qs rs b first then) hands
come_on p qs rs ss first (added q a b then bare new plans) = added q qs b (come_on p qs rs b first then) bare new plans

pub worked_len : (p : Plans) (qs rs : List Part) → HaveWorked p qs rs → length rs ≡ length qs
worked_len p [] [] a = refl
worked_len p [] (r ∷ rs) a = absurd a
worked_len p (q ∷ qs) [] a = absurd a
worked_len p (q ∷ qs) (r ∷ rs) a = ap suc (worked_len p qs rs a.1)

-- ---- turns

pub turn_none : (p : Plans) (h : Hand) → MayTurn p h → TakesTurn p h h
turn_none p h may = record {
  worked = worked_none p (parts_in h);
  kept = may.kept;
  made = refl;
  least = omega arith;
  within = may.within;
  same = refl;
}

pub turns_on : (p : Plans) (f g h : Hand) → TakesTurn p f g → TakesTurn p g h → TakesTurn p f h
turns_on p f g h a b = record {
  worked = worked_on p (parts_in f) (parts_in g) (parts_in h) a.worked b.worked;
  kept = b.kept;
  made = omega (arith, a.made, b.made);
  least = omega (arith, a.least, b.least);
  within = b.within;
  same = b.same ∙ a.same;
}

pub may_still : (p : Plans) (g h : Hand) → MayTurn p g → TakesTurn p g h → MayTurn p h
may_still p g h may turn = record {
  fit = may.fit;
  kept = turn.kept;
  few = omega (arith, may.few, turn.made, turn.same);
  within = turn.within;
}

pub may_begin : (p : Plans) (h : Hand) → IsReady p h → MayTurn p h
may_begin p h ready = record {
  fit = ready.fit;
  kept = ready.kept;
  few = omega (arith, ready.few);
  within = omega (arith, ready.none);
}

pub has_worked : (p : Plans) (g h : Hand) → IsReady p g → TakesTurn p g h → HandWorked p g h
has_worked p g h ready turn = record {
  worked = turn.worked;
  kept = turn.kept;
  made = omega (arith, turn.made, ready.none);
  within = omega (arith, turn.within, turn.same);
}

-- one part has run, which stood at a place
pub part_turn : (p : Plans) (g h : Hand) (i : ℕ) (o n : Kept) (made : ℕ) → MayTurn p g → i < length g.parts.items → o ≡ get_or g.parts.items i o
    → HasWorked p (part_of o) (part_of n) → IsKept p (part_of n) → n.machine.interactions ≡ o.machine.interactions + made → g.made + made ≤ g.budget
    → parts_in h ≡ map part_of (set g.parts.items i n) → h.made ≡ g.made + made → h.budget ≡ g.budget → TakesTurn p g h
part_turn p g h i o n made may lt is one kept more few now counted same = record {
  worked = subst (HaveWorked p (parts_in g)) (sym now) (worked_set p part_of g.parts.items i o n lt is one);
  kept = subst (AllByRecursion (IsKept p)) (sym now) (all_set part_of (IsKept p) g.parts.items i n kept may.kept);
  made =
      let sum = sum_set part_of (λ (q : Part). q.net.interactions) g.parts.items i o n lt is in
      let there : interactions_of (parts_in h) ≡ interactions_of (map part_of (set g.parts.items i n)) = ap interactions_of now in
      omega (arith, sum, there, more, counted);
  least = omega (arith, counted);
  within = omega (arith, few, counted, same);
  same = same;
}

pub each_worked : (p : Plans) (gs hs : List Hand) → length hs ≡ length gs
    → ((i : ℕ) (d : Hand) → i < length gs → HandWorked p (get_or gs i d) (get_or hs i d)) → HandsWorked p gs hs
each_worked p [] [] len each = tt
each_worked p [] (h ∷ hs) len each = absurd (omega (arith, len))
each_worked p (g ∷ gs) [] len each = absurd (omega (arith, len))
each_worked p (g ∷ gs) (h ∷ hs) len each = (
  each 0 g (omega arith),
  each_worked p gs hs (omega (arith, len)) (λ i d lt. each (suc i) d (omega (arith, lt))),
)

pub work_same : (a b : Kept) → a.fault ≡ b.fault → a.machine ≡ b.machine → HasWork a → HasWork b
work_same a b fault machine work = (
  sym fault ∙ work.0,
  (λ none. work.1 (ap (λ (n : Net). n.pending) machine ∙ none)),
)

-- ---- hands that look the same

pub ready_same : (p : Plans) (g h : Hand) → parts_in h ≡ parts_in g → h.budget ≡ g.budget → h.made ≡ g.made → IsReady p g → IsReady p h
ready_same p g h parts budget made ready = record {
  fit = ready.fit;
  kept = subst (AllByRecursion (IsKept p)) (sym parts) ready.kept;
  few =
      let same : interactions_of (parts_in h) ≡ interactions_of (parts_in g) = ap interactions_of parts in
      let few = ready.few in
      omega (arith, same, budget, few);
  none = made ∙ ready.none;
}

pub worked_same : (p : Plans) (f g h k : Hand) → parts_in g ≡ parts_in f → g.budget ≡ f.budget → HandWorked p g h
    → parts_in k ≡ parts_in h → k.made ≡ h.made → HandWorked p f k
worked_same p f g h k before budget work after made = record {
  worked = subst (λ (l : List Part). HaveWorked p l (parts_in k)) before (subst (HaveWorked p (parts_in g)) (sym after) work.worked);
  kept = subst (AllByRecursion (IsKept p)) (sym after) work.kept;
  made =
      let x : interactions_of (parts_in g) ≡ interactions_of (parts_in f) = ap interactions_of before in
      let y : interactions_of (parts_in k) ≡ interactions_of (parts_in h) = ap interactions_of after in
      let all = work.made in
      omega (arith, x, y, all, made);
  within = let few = work.within in omega (arith, few, budget, made);
}
