-- Lemmas: runs one after another.
use Rattle.std.proofs.Common.{◌≡◌, ℕ, ◌+◌, ◌==◌, List, [], ◌∷◌, ◌++◌, cond, length, map, max, count_by, slice_index_or, refl, ap, sym, ◌∙◌, append_assoc, add_assoc, add-zero, arith}
use Rattle.std.specs.List.Sorted.{IsPermutation}
use Rattle.std.proofs.lemmas.List.{append-nil, length-append, map-append}
use Rattle.std.proofs.lemmas.List.Sorted.{IsPermutation-refl}
use Rattle.std.proofs.lemmas.List.Sums.{fold-append, sum_by-append}
use Rattle.ic_arena.specs.Piece.{Piece}
use Rattle.ic_machine.specs.declared.equation.Equation.{Equation}
use Rattle.ic_machine.specs.Plan.{Plans}
use Rattle.ic_machine.specs.Net.{Net, in_use, pieces, places_of, IsStuck}
use Rattle.ic_machine.specs.Runs.{Counted, Ran, Way, greatest}
use Rattle.ic_machine.specs.Steps.{Steps, fires, no_step}
use Rattle.ic_machine.specs.lemmas.FiringKeeps.{all_append}
use Rattle.ic_machine.specs.lemmas.StepsOn.{one_step, steps_through, steps_to}

-- nothing has fired
pub counted_none : (counts : List ℕ) → Counted [] counts counts
counted_none counts = record { all = refl; each = λ i lt. sym (add-zero (slice_index_or counts i 0)) }

-- some plans have fired, and then others
pub counted_on : (is js a b c : List ℕ) → Counted is a b → Counted js b c → Counted (is ++ js) a c
counted_on is js a b c r s = record {
  all = s.all ∙ r.all;
  each = λ i lt.
      let len : length b ≡ length a = r.all in
      let first = r.each i lt in
      let then = s.each i (omega arith) in
      let both : count_by (λ j. j == i) (is ++ js) ≡ count_by (λ j. j == i) is + count_by (λ j. j == i) js =
      sum_by-append (λ j. cond (j == i) 1 0) is js in
      omega arith;
}

-- ---- ways

pub way_from : (p : Plans) (is : List ℕ) (ms : List (List Piece)) (xs ys zs : List Piece) → Steps p [] xs ys
    → Way p is ms ys zs → Way p is ms xs zs
way_from p [] [] xs ys zs s w = steps_through p [] [] xs ys zs s w
way_from p [] (m ∷ ms) xs ys zs s w = absurd w
way_from p (i ∷ is) [] xs ys zs s w = absurd w
way_from p (i ∷ is) (m ∷ ms) xs ys zs s w = (
  record { before = w.0.before; steps = steps_through p [] [] xs ys w.0.before s w.0.steps; pairs = w.0.pairs; fires = w.0.fires },
  w.1,
)

pub way_to : (p : Plans) (is : List ℕ) (ms : List (List Piece)) (xs ys zs : List Piece) → Way p is ms xs ys
    → IsPermutation ys zs → Way p is ms xs zs
way_to p [] [] xs ys zs w h = steps_to p [] xs ys zs w h
way_to p [] (m ∷ ms) xs ys zs w h = absurd w
way_to p (i ∷ is) [] xs ys zs w h = absurd w
way_to p (i ∷ is) (m ∷ ms) xs ys zs w h = (w.0, way_to p is ms m ys zs w.1 h)

pub way_on : (p : Plans) (is js : List ℕ) (ms ns : List (List Piece)) (xs ys zs : List Piece) → Way p is ms xs ys
    → Way p js ns ys zs → Way p (is ++ js) (ms ++ ns) xs zs
way_on p [] js [] ns xs ys zs w v = way_from p js ns xs ys zs w v
way_on p [] js (m ∷ ms) ns xs ys zs w v = absurd w
way_on p (i ∷ is) js [] ns xs ys zs w v = absurd w
way_on p (i ∷ is) js (m ∷ ms) ns xs ys zs w v = (w.0, way_on p is js ms ns m ys zs w.1 v)

-- a way takes steps
pub way_steps : (p : Plans) (is : List ℕ) (ms : List (List Piece)) (xs ys : List Piece) → Way p is ms xs ys
    → Steps p is xs ys
way_steps p [] [] xs ys w = w
way_steps p [] (m ∷ ms) xs ys w = absurd w
way_steps p (i ∷ is) [] xs ys w = absurd w
way_steps p (i ∷ is) (m ∷ ms) xs ys w =
    steps_through p (i ∷ []) is xs m ys
    (steps_through p [] (i ∷ []) xs w.0.before m w.0.steps
    (one_step p (i ∷ []) w.0.before m (fires i w.0.before m w.0.fires)))
    (way_steps p is ms m ys w.1)

pub ran_steps : (p : Plans) (a b : Net) (r : Ran p a b) → Steps p r.fired (pieces a) (pieces b)
ran_steps p a b r = way_steps p r.fired r.moments (pieces a) (pieces b) r.way

-- one run after another
pub ran_on : (p : Plans) (a b c : Net) → Ran p a b → Ran p b c → Ran p a c
ran_on p a b c r s = record {
  fired = r.fired ++ s.fired;
  moments = r.moments ++ s.moments;
  way = way_on p r.fired s.fired r.moments s.moments (pieces a) (pieces b) (pieces c) r.way s.way;
  places = λ kind. s.places kind
      ∙ (ap (λ (n : ℕ). greatest n (map (in_use kind) s.moments)) (r.places kind)
      ∙ (sym (fold-append max (places_of kind a) (map (in_use kind) r.moments) (map (in_use kind) s.moments))
      ∙ ap (greatest (places_of kind a)) (sym (map-append (in_use kind) r.moments s.moments))));
  symbols = s.symbols ∙ r.symbols;
  counted = s.counted ∙ (ap (λ (n : ℕ). n + length s.fired) r.counted
      ∙ (add_assoc a.interactions (length r.fired) (length s.fired)
      ∙ ap (λ (n : ℕ). a.interactions + n) (sym (length-append r.fired s.fired))));
  counts = counted_on r.fired s.fired a.counts b.counts c.counts r.counts s.counts;
  arities = s.arities ∙ r.arities;
  interface = s.interface ∙ r.interface;
  more = r.more ++ s.more;
  aside = s.aside ∙ (ap (λ (l : List Equation). l ++ s.more) r.aside ∙ append_assoc a.aside r.more s.more);
  stuck = all_append (IsStuck p) r.more s.more r.stuck s.stuck;
}

pub ran_on-fired : (p : Plans) (a b c : Net) (r : Ran p a b) (s : Ran p b c)
    → (ran_on p a b c r s).fired ≡ r.fired ++ s.fired
unfolding ran_on
ran_on-fired p a b c r s = refl

-- nothing was run
pub ran_none : (p : Plans) (a : Net) → Ran p a a
ran_none p a = record {
  fired = [];
  moments = [];
  way = no_step (pieces a) (pieces a) (IsPermutation-refl (pieces a));
  places = λ kind. refl;
  symbols = refl;
  counted = sym (add-zero a.interactions);
  counts = counted_none a.counts;
  arities = refl;
  interface = refl;
  more = [];
  aside = sym (append-nil a.aside);
  stuck = tt;
}

pub ran_none-fired : (p : Plans) (a : Net) → (ran_none p a).fired ≡ []
unfolding ran_none
ran_none-fired p a = refl
