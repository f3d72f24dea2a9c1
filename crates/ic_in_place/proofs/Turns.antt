-- Lemmas: rounds of a machine.
use Rattle.std.proofs.Common.{◌≡◌, ℕ, ◌≤◌, List, [], ◌∷◌, ◌++◌, length, map, refl, sym, ap, arith, subst, append_assoc}
use Rattle.std.specs.List.Sorted.{IsPermutation}
use Rattle.std.proofs.lemmas.List.Sorted.{IsPermutation-append_comm}
use Rattle.ic_arena.specs.Piece.{Piece}
use Rattle.ic_machine.specs.declared.generation.Generation.{Generation}
use Rattle.ic_machine.specs.Generations.{Advances, beside, later}
use Rattle.ic_machine.specs.Net.{Net, equated_of}
use Rattle.ic_machine.specs.Plan.{Plans}
use Rattle.ic_machine.specs.Runs.{Ran}
use Rattle.ic_machine.specs.Steps.{Steps, no_step}
use Rattle.ic_machine.specs.lemmas.GenerationsOn.{advances_beside}
use Rattle.ic_machine.specs.lemmas.StepsOn.{steps_through, steps_to}

none_of : (xs : List ℕ) → length xs ≡ 0 → xs ≡ []
none_of [] h = refl
none_of (x ∷ xs) h = absurd (omega arith)

-- a run that counts nothing has fired nothing
pub fired_none : (p : Plans) (a b : Net) (run : Ran p a b) → b.interactions ≤ a.interactions → run.fired ≡ []
fired_none p a b run few = none_of run.fired (omega (arith, run.counted, few))

-- other pieces stand before those at places, or after them
around : (others later places : List Piece) → IsPermutation (others ++ (later ++ places)) (places ++ (others ++ later))
around others later places =
    subst (λ (l : List Piece). IsPermutation l (places ++ (others ++ later))) (append_assoc others later places)
    (IsPermutation-append_comm (others ++ later) places)

back : (others later places : List Piece) → IsPermutation (places ++ (others ++ later)) (others ++ (later ++ places))
back others later places =
    subst (λ (l : List Piece). IsPermutation (places ++ (others ++ later)) l) (append_assoc others later places)
    (IsPermutation-append_comm places (others ++ later))

-- names that are put through take no pair of a generation
pub swept : (p : Plans) (g : Generation) (old new : Net) → Ran p old new → new ≡ record old { places = new.places }
    → ((rest : List Piece) → Steps p [] (old.places ++ rest) (new.places ++ rest)) → Advances p g g old new
swept p g old new run same steps =
    let pending : new.pending ≡ old.pending = ap (λ (n : Net). n.pending) same in
    let aside : new.aside ≡ old.aside = ap (λ (n : Net). n.aside) same in
    let count : new.interactions ≡ old.interactions = ap (λ (n : Net). n.interactions) same in
    let others : List Piece = map equated_of (later g old.pending) in
    let set : List Piece = map equated_of old.aside in
    let to : IsPermutation (new.places ++ (others ++ set)) (beside (later g old.pending) new) =
    subst (λ (l : List Piece). IsPermutation (new.places ++ (others ++ set)) (others ++ (l ++ new.places)))
    (ap (map equated_of) (sym aside)) (back others set new.places) in
    advances_beside p g old new run (fired_none p old new run (omega (arith, count))) pending
    (steps_through p [] [] (beside (later g old.pending) old) (old.places ++ (others ++ set)) (beside (later g old.pending) new)
    (no_step (beside (later g old.pending) old) (old.places ++ (others ++ set)) (around others set old.places))
    (steps_to p [] (old.places ++ (others ++ set)) (new.places ++ (others ++ set)) (beside (later g old.pending) new)
    (steps (others ++ set)) to))
