-- Steps go on.
use Rattle.std.proofs.Common.{ℕ, List, [], ◌++◌, sym, subst, append_assoc}
use Rattle.std.specs.List.Sorted.{IsPermutation}
use Rattle.std.proofs.lemmas.List.{append-nil}
use Rattle.std.proofs.lemmas.List.Sorted.{IsPermutation-refl, IsPermutation-trans, IsPermutation-sym}
use Rattle.ic_arena.specs.Piece.{Piece}
use Rattle.ic_machine.specs.Plan.{Plans}
use Rattle.ic_machine.specs.Steps.{Step, turns, puts, meets, joins, fires, Steps, no_step, one_more}

-- the pieces after a step, in another order
pub step_to : (p : Plans) (is : List ℕ) (xs ys zs : List Piece) → Step p is xs ys → IsPermutation ys zs
    → Step p is xs zs
step_to p is xs ys zs (turns a b s) h = turns a zs (record {
  left = s.left;
  right = s.right;
  rest = s.rest;
  given = s.given;
  result = IsPermutation-trans zs b _ (IsPermutation-sym b zs h) s.result;
})
step_to p is xs ys zs (puts a b s) h = puts a zs (record {
  named = s.named;
  other = s.other;
  rest = s.rest;
  given = s.given;
  result = IsPermutation-trans zs b _ (IsPermutation-sym b zs h) s.result;
})
step_to p is xs ys zs (meets a b s) h = meets a zs (record {
  named = s.named;
  other = s.other;
  waiting = s.waiting;
  rest = s.rest;
  given = s.given;
  result = IsPermutation-trans zs b _ (IsPermutation-sym b zs h) s.result;
})
step_to p is xs ys zs (joins a b s) h = joins a zs (record {
  named = s.named;
  between = s.between;
  waiting = s.waiting;
  rest = s.rest;
  given = s.given;
  result = IsPermutation-trans zs b _ (IsPermutation-sym b zs h) s.result;
})
step_to p is xs ys zs (fires i a b s) h = fires i a zs (record {
  left = s.left;
  right = s.right;
  left_place = s.left_place;
  right_place = s.right_place;
  left_args = s.left_args;
  right_args = s.right_args;
  plan = s.plan;
  names = s.names;
  made = s.made;
  rest = s.rest;
  number = s.number;
  has_plan = s.has_plan;
  left_arity = s.left_arity;
  right_arity = s.right_arity;
  given = s.given;
  names_count = s.names_count;
  made_count = s.made_count;
  name_tags = s.name_tags;
  made_tags = s.made_tags;
  fresh = s.fresh;
  result = IsPermutation-trans zs b _ (IsPermutation-sym b zs h) s.result;
})

-- the pieces after some steps, in another order
pub steps_to : (p : Plans) (is : List ℕ) (xs ys zs : List Piece) → Steps p is xs ys → IsPermutation ys zs
    → Steps p is xs zs
steps_to p is xs ys zs (no_step a b s) h = no_step a zs (IsPermutation-trans a b zs s h)
steps_to p is xs ys zs (one_more i j a b c s t) h =
    one_more i j a b zs s (step_to p j b c zs t h)

-- one step by itself
pub one_step : (p : Plans) (is : List ℕ) (xs ys : List Piece) → Step p is xs ys → Steps p is xs ys
one_step p is xs ys s = one_more [] is xs xs ys (no_step xs xs (IsPermutation-refl xs)) s

-- steps after steps
pub steps_through : (p : Plans) (is js : List ℕ) (xs ys zs : List Piece) → Steps p is xs ys
    → Steps p js ys zs → Steps p (is ++ js) xs zs
steps_through p is js xs ys zs s (no_step a b h) =
    subst (λ (l : List ℕ). Steps p l xs zs) (sym (append-nil is)) (steps_to p is xs ys zs s h)
steps_through p is js xs ys zs s (one_more i j a b c t u) =
    subst (λ (l : List ℕ). Steps p l xs zs) (append_assoc is i j)
    (one_more (is ++ i) j xs b zs (steps_through p is i xs ys b s t) u)
