-- Pairs that are taken.
use Rattle.std.specs.Global.{Vec}
use Rattle.std.proofs.Common.{◌≡◌, ℕ, zero, suc, ◌<◌, List, [], ◌∷◌, ◌++◌, Some, length, map, slice_get, ap, refl, sym, subst, ◌∙◌, append_assoc, arith}
use Rattle.std.specs.List.Sorted.{IsPermutation}
use Rattle.std.proofs.lemmas.List.{append-nil, append_cancel_right, map-append}
use Rattle.std.proofs.lemmas.List.Sorted.{IsPermutation-append_right, IsPermutation-middle, IsPermutation-refl, IsPermutation-sym, IsPermutation-trans}
use Rattle.ic_arena.specs.Piece.{Piece}
use Rattle.ic_arena.specs.Tables.{names_pieces}
use Rattle.ic_machine.specs.declared.equation.Equation.{Equation}
use Rattle.ic_machine.specs.declared.machine.Machine.TheInside.{Inside}
use Rattle.ic_machine.specs.declared.tables.Tables.{Tables}
use Rattle.ic_machine.specs.declared.generation.Generation.{Generation}
use Rattle.ic_machine.specs.Plan.{Planned, Plans, plan_at}
use Rattle.ic_machine.specs.Net.{Net, equated_of, IsActive, IsStuck}
use Rattle.ic_machine.specs.Generations.{Advances, Takes, TakesFirst, beside, ended, fires, later, stays}
use Rattle.ic_machine.specs.Runs.{Ran}
use Rattle.ic_machine.specs.Steps.{Steps, no_step}
use Rattle.ic_machine.specs.inner.Firing.{heaps_pieces}
use Rattle.ic_machine.specs.inner.Machine.{net_of}
use Rattle.ic_machine.specs.inner.Pairs.{HasNumber}
use Rattle.ic_machine.specs.inner.Queue.{Queued}
use Rattle.ic_machine.specs.inner.Tables.{FiresBy, apart}
use Rattle.ic_machine.specs.lemmas.StepsOn.{steps_to}
use Rattle.ic_machine.specs.lemmas.GenerationsOn.{advances_beside}
use Rattle.ic_machine.specs.lemmas.Orders.{to_front}
use Rattle.ic_machine.proofs.Running.{held_order}
use Rattle.ic_machine.proofs.Sound.{set_aside}

-- ---- lists

-- what is at a place
pub get_there : {X : Type 0} (xs : List X) (i : ℕ) → i < length xs → (e : X) × (slice_get xs i ≡ Some e)
get_there [] i h = absurd (omega arith)
get_there (x ∷ xs) zero h = (x, refl)
get_there (x ∷ xs) (suc i) h = get_there xs i (omega arith)

-- a list without an element
none_of : {X : Type 0} (xs : List X) → length xs ≡ 0 → xs ≡ []
none_of [] h = refl
none_of (x ∷ xs) h = absurd (omega arith)

-- ---- what is taken

-- Where as many pairs have fired as before, none has fired.
pub ran_none_fired : (p : Plans) (old new : Net) (run : Ran p old new) → new.interactions ≡ old.interactions → run.fired ≡ []
ran_none_fired p old new run same =
    let counted = run.counted in
    none_of run.fired (omega arith)

-- The first pending pair, which is stuck, is set aside.
pub taken_aside : (p : Plans) (m : Inside) (pending : Queued) (aside : Vec Equation) (e : Equation) → IsStuck p e
    → m.tables.pending.items ≡ e ∷ pending.items → aside.items ≡ m.aside.items ++ e ∷ []
    → Ran p (net_of m) (net_of (set_aside m pending aside)) → TakesFirst p (net_of m) (net_of (set_aside m pending aside))
taken_aside p m pending aside e stuck is put run =
    let new : Net = net_of (set_aside m pending aside) in
    let none = ran_none_fired p (net_of m) new run refl in
    record {
      pair = e;
      rest = pending.items;
      first = is;
      more = [];
      pending = sym (append-nil pending.items);
      ran = run;
      takes = λ now later order.
          let xs : List Piece = beside later (net_of m) in
          let ys : List Piece = beside (later ++ []) new in
          let x : Piece = equated_of e in
          let l : List Piece = map equated_of later in
          let a : List Piece = map equated_of m.aside.items in
          let places : List Piece = new.places in
          let before = append_assoc l a places in
          let after = append_assoc l a (x ∷ places)
          ∙ (ap (λ (v : List Piece). l ++ v) (sym (append_assoc a (x ∷ []) places
          ) ∙ ap (λ (v : List Piece). v ++ places) (sym (map-append equated_of m.aside.items (e ∷ [])) ∙ ap (map equated_of) (sym put)))
          ∙ ap (λ (v : List Equation). map equated_of v ++ (map equated_of aside.items ++ places)) (sym (append-nil later))) in
          let moved = IsPermutation-sym ((l ++ a) ++ x ∷ places) (x ∷ ((l ++ a) ++ places)) (IsPermutation-middle (l ++ a) x places) in
          subst (λ (is : List ℕ). Takes p (e ∷ now) now is xs ys) (sym none)
          (stays e (e ∷ now) now now [] xs xs ys (IsPermutation-refl (e ∷ now)) (no_step xs xs (IsPermutation-refl xs)) stuck
          (ended now now (x ∷ xs) ys (IsPermutation-refl now) (no_step (x ∷ xs) ys
          (subst (λ (v : List Piece). IsPermutation (x ∷ v) ys) before
          (subst (λ (v : List Piece). IsPermutation (x ∷ ((l ++ a) ++ places)) v) after moved)))));
    }

-- A pending pair fires in the tables.
pub taken_fired : (p : Plans) (e : Equation) (i : ℕ) (t u : Tables) (rest more now later aside : List Equation)
    → FiresBy p e i t u rest aside → u.pending.items ≡ rest ++ more
    → Takes p (e ∷ now) now (i ∷ []) (apart later aside t) (apart (later ++ more) aside u)
taken_fired p e i t u rest more now later aside by after =
    let b = by.bare more (later ++ aside) after in
    let xs : List Piece = apart later aside t in
    let ys : List Piece = apart (later ++ more) aside u in
    let l : List Piece = map equated_of later in
    let a : List Piece = map equated_of aside in
    let g : List Piece = map equated_of more in
    let n : List Piece = names_pieces 0 t.names.entries in
    let h : List Piece = heaps_pieces 0 t.heaps.items in
    let n' : List Piece = names_pieces 0 u.names.entries in
    let h' : List Piece = heaps_pieces 0 u.heaps.items in
    let both : map equated_of (later ++ aside) ≡ l ++ a = map-append equated_of later aside in
    let mine : List Piece = n ++ (h ++ map equated_of (later ++ aside)) in
    let theirs : List Piece = n' ++ (h' ++ (g ++ map equated_of (later ++ aside))) in
    let first = subst (λ (v : List Piece). IsPermutation xs (n ++ (h ++ v))) (sym both) (held_order l a n h) in
    let inner : IsPermutation (g ++ (l ++ a)) (map equated_of (later ++ more) ++ a) =
    subst (λ (v : List Piece). IsPermutation (g ++ (l ++ a)) v)
    (sym (append_assoc l g a) ∙ ap (λ (v : List Piece). v ++ a) (sym (map-append equated_of later more))) (to_front g l a) in
    let last = subst (λ (v : List Piece). IsPermutation (n' ++ (h' ++ (g ++ v))) ys) (sym both)
    (IsPermutation-trans (n' ++ (h' ++ (g ++ (l ++ a)))) (n' ++ (h' ++ (map equated_of (later ++ more) ++ a))) ys
    (IsPermutation-append_right n' (h' ++ (g ++ (l ++ a))) (h' ++ (map equated_of (later ++ more) ++ a))
    (IsPermutation-append_right h' (g ++ (l ++ a)) (map equated_of (later ++ more) ++ a) inner))
    (IsPermutation-sym ys (n' ++ (h' ++ (map equated_of (later ++ more) ++ a))) (held_order (map equated_of (later ++ more)) a n' h'))) in
    fires e (e ∷ now) now now i [] xs mine b.middle ys (IsPermutation-refl (e ∷ now)) (no_step xs mine first) b.pair
    (ended now now b.middle ys (IsPermutation-refl now) (steps_to p [] b.middle theirs ys b.links last))

-- What is at places is the same, where all pieces of the tables are and the pending pairs are.
pub same_held : (n h n' h' : List Piece) (es es' : List Equation) → es' ≡ es
    → n' ++ (h' ++ (map equated_of es' ++ [])) ≡ n ++ (h ++ (map equated_of es ++ [])) → n' ++ h' ≡ n ++ h
same_held n h n' h' es es' same is =
    let tail : List Piece = map equated_of es ++ [] in
    append_cancel_right (n' ++ h') (n ++ h) tail
    (append_assoc n' h' tail ∙ (ap (λ (l : List Equation). n' ++ (h' ++ (map equated_of l ++ []))) (sym same)
    ∙ (is ∙ sym (append_assoc n h tail))))

-- A pair whose plan has a number is active.
pub numbered_active : (p : Plans) (e : Equation) (i : ℕ) → HasNumber p e i → IsActive p e
numbered_active p e i h =
    let plan : (x : Planned) × (slice_get p.plans i ≡ Some x) = get_there p.plans i h.there in
    record {
      left = h.left;
      right = h.right;
      left_tag = h.left_tag;
      right_tag = h.right_tag;
      left_known = h.left_known;
      right_known = h.right_known;
      plan = plan.0;
      is = ap (plan_at p.plans) h.number ∙ plan.1;
    }

-- Where a pair isn't taken, nothing of a generation is.
pub advances_same : (p : Plans) (g : Generation) (old new : Net) → Ran p old new → new.interactions ≡ old.interactions
    → new.pending ≡ old.pending → ((rest : List Equation) → beside rest new ≡ beside rest old) → Advances p g g old new
advances_same p g old new run same pending held =
    let xs : List Piece = beside (later g old.pending) old in
    advances_beside p g old new run (ran_none_fired p old new run same) pending
    (subst (λ (ys : List Piece). Steps p [] xs ys) (sym (held (later g old.pending))) (no_step xs xs (IsPermutation-refl xs)))
