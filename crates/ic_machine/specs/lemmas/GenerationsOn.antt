-- Lemmas: pairs that are taken after others.
use Rattle.std.proofs.Common.{◌≡◌, List, [], ◌∷◌, ◌++◌, ℕ, sym, subst}
use Rattle.std.specs.List.Sorted.{IsPermutation}
use Rattle.std.proofs.lemmas.List.Sorted.{IsPermutation-refl, IsPermutation-trans}
use Rattle.ic_arena.specs.Piece.{Piece}
use Rattle.ic_machine.specs.declared.equation.Equation.{Equation}
use Rattle.ic_machine.specs.declared.generation.Generation.{Generation}
use Rattle.ic_machine.specs.Plan.{Plans}
use Rattle.ic_machine.specs.Net.{Net, equated_of}
use Rattle.ic_machine.specs.Generations.{Advances, Takes, beside, ended, fires, later, present, stays}
use Rattle.ic_machine.specs.Runs.{Ran}
use Rattle.ic_machine.specs.Steps.{Steps, no_step}
use Rattle.ic_machine.specs.lemmas.RunsOn.{ran_none, ran_none-fired, ran_on, ran_on-fired}
use Rattle.ic_machine.specs.lemmas.StepsOn.{steps_through, steps_to}

-- Pairs are taken of the same ones in another order, and after steps that fire nothing.
pub takes_from : (p : Plans) (now now' left : List Equation) (is : List ℕ) (xs ys zs : List Piece) → IsPermutation now now'
    → Steps p [] xs ys → Takes p now' left is ys zs → Takes p now left is xs zs
takes_from p now _ _ _ xs ys zs h s (ended now' left a b order t) =
    ended now left xs zs (IsPermutation-trans now now' left h order) (steps_through p [] [] xs ys zs s t)
takes_from p now _ _ _ xs ys zs h s (fires e now' es left i is a before after b order t f r) =
    fires e now es left i is xs before after zs (IsPermutation-trans now now' (e ∷ es) h order)
    (steps_through p [] [] xs ys before s t) f r
takes_from p now _ _ _ xs ys zs h s (stays e now' es left is a before b order t stuck r) =
    stays e now es left is xs before zs (IsPermutation-trans now now' (e ∷ es) h order)
    (steps_through p [] [] xs ys before s t) stuck r

-- The pieces after it, in another order.
pub takes_to : (p : Plans) (now left : List Equation) (is : List ℕ) (xs ys zs : List Piece) → Takes p now left is xs ys
    → IsPermutation ys zs → Takes p now left is xs zs
takes_to p _ _ _ _ ys zs (ended now left xs b order t) h = ended now left xs zs order (steps_to p [] xs ys zs t h)
takes_to p _ _ _ _ ys zs (fires e now es left i is xs before after b order t f r) h =
    fires e now es left i is xs before after zs order t f (takes_to p es left is after ys zs r h)
takes_to p _ _ _ _ ys zs (stays e now es left is xs before b order t stuck r) h =
    stays e now es left is xs before zs order t stuck (takes_to p es left is (equated_of e ∷ before) ys zs r h)

-- Some pairs are taken, and then others.
pub takes_on : (p : Plans) (now mid left : List Equation) (is js : List ℕ) (xs ys zs : List Piece) → Takes p now mid is xs ys
    → Takes p mid left js ys zs → Takes p now left (is ++ js) xs zs
takes_on p _ _ left _ js _ ys zs (ended now mid xs b order t) r = takes_from p now mid left js xs ys zs order t r
takes_on p _ _ left _ js _ ys zs (fires e now es mid i is xs before after b order t f s) r =
    fires e now es left i (is ++ js) xs before after zs order t f (takes_on p es mid left is js after ys zs s r)
takes_on p _ _ left _ js _ ys zs (stays e now es mid is xs before b order t stuck s) r =
    stays e now es left (is ++ js) xs before zs order t stuck
    (takes_on p es mid left is js (equated_of e ∷ before) ys zs s r)

-- nothing has been taken yet
pub advances_none : (p : Plans) (g : Generation) (n : Net) → Advances p g g n n
advances_none p g n =
    let now : List Equation = present g n.pending in
    let xs : List Piece = beside (later g n.pending) n in
    record {
      ran = ran_none p n;
      takes = subst (λ (is : List ℕ). Takes p now now is xs xs) (sym (ran_none-fired p n))
          (ended now now xs xs (IsPermutation-refl now) (no_step xs xs (IsPermutation-refl xs)));
    }

-- some pairs are taken, and then others
pub advances_on : (p : Plans) (g h k : Generation) (a b c : Net) → Advances p g h a b → Advances p h k b c → Advances p g k a c
advances_on p g h k a b c x y = record {
  ran = ran_on p a b c x.ran y.ran;
  takes = subst (λ (is : List ℕ). Takes p (present g a.pending) (present k c.pending) is (beside (later g a.pending) a)
      (beside (later k c.pending) c)) (sym (ran_on-fired p a b c x.ran y.ran))
      (takes_on p (present g a.pending) (present h b.pending) (present k c.pending) x.ran.fired y.ran.fired
      (beside (later g a.pending) a) (beside (later h b.pending) b) (beside (later k c.pending) c) x.takes y.takes);
}

-- What is at places takes steps alone, and nothing else changes.
pub advances_beside : (p : Plans) (g : Generation) (old new : Net) (run : Ran p old new) → run.fired ≡ []
    → new.pending ≡ old.pending
    → Steps p [] (beside (later g old.pending) old) (beside (later g old.pending) new) → Advances p g g old new
advances_beside p g old new run none same steps =
    let now : List Equation = present g old.pending in
    record {
      ran = run;
      takes = subst (λ (is : List ℕ). Takes p now (present g new.pending) is (beside (later g old.pending) old)
          (beside (later g new.pending) new)) (sym none)
          (subst (λ (l : List Equation). Takes p now (present g l) [] (beside (later g old.pending) old) (beside (later g l) new))
          (sym same)
          (ended now now (beside (later g old.pending) old) (beside (later g old.pending) new) (IsPermutation-refl now) steps));
    }
