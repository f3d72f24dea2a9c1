-- The steps of linking.
use Rattle.std.proofs.Common.{◌≡◌, List, [], ◌∷◌, ◌++◌, sym, subst, append_assoc}
use Rattle.std.specs.List.Sorted.{IsPermutation}
use Rattle.std.proofs.lemmas.List.Sorted.{IsPermutation-refl, IsPermutation-trans, IsPermutation-append_left, IsPermutation-append_right, IsPermutation-cons, IsPermutation-middle, IsPermutation-sym}
use Rattle.ic_arena.specs.declared.word.Word.{Word}
use Rattle.ic_arena.specs.Piece.{Piece, equated, idle, waits}
use Rattle.ic_arena.specs.Tables.{Replaced}
use Rattle.ic_machine.specs.Plan.{Plans}
use Rattle.ic_machine.specs.Steps.{turns, puts, meets, joins, Steps, no_step}
use Rattle.ic_machine.specs.lemmas.Orders.{replaced_before, replaced_after}
use Rattle.ic_machine.specs.lemmas.StepsOn.{one_step}

pub turned : (p : Plans) (l r : Word) (rest : List Piece)
    → Steps p [] (equated l r ∷ rest) (equated r l ∷ rest)
turned p l r rest = one_step p [] (equated l r ∷ rest) (equated r l ∷ rest)
    (turns (equated l r ∷ rest) (equated r l ∷ rest) (record {
      left = l;
      right = r;
      rest = rest;
      given = IsPermutation-refl (equated l r ∷ rest);
      result = IsPermutation-refl (equated r l ∷ rest);
    }))

pub put_down : (p : Plans) (x r : Word) (ns ms rest : List Piece)
    → Replaced (idle x ∷ []) (waits x r ∷ []) ns ms
    → Steps p [] (equated x r ∷ (ns ++ rest)) (ms ++ rest)
put_down p x r ns ms rest h =
    let others : List Piece = h.front ++ h.back in
    one_step p [] (equated x r ∷ (ns ++ rest)) (ms ++ rest)
    (puts (equated x r ∷ (ns ++ rest)) (ms ++ rest) (record {
      named = x;
      other = r;
      rest = others ++ rest;
      given = IsPermutation-cons (equated x r) (ns ++ rest) (idle x ∷ (others ++ rest))
          (IsPermutation-append_left rest ns (idle x ∷ others)
          (replaced_before (idle x ∷ []) (waits x r ∷ []) ns ms h));
      result = IsPermutation-append_left rest ms (waits x r ∷ others)
          (replaced_after (idle x ∷ []) (waits x r ∷ []) ns ms h);
    }))

pub met : (p : Plans) (x r u : Word) (ns ms rest : List Piece) → Replaced (waits x u ∷ []) [] ns ms
    → Steps p [] (equated x r ∷ (ns ++ rest)) (equated u r ∷ (ms ++ rest))
met p x r u ns ms rest h =
    let others : List Piece = h.front ++ h.back in
    one_step p [] (equated x r ∷ (ns ++ rest)) (equated u r ∷ (ms ++ rest))
    (meets (equated x r ∷ (ns ++ rest)) (equated u r ∷ (ms ++ rest)) (record {
      named = x;
      other = r;
      waiting = u;
      rest = others ++ rest;
      given = IsPermutation-cons (equated x r) (ns ++ rest) (waits x u ∷ (others ++ rest))
          (IsPermutation-append_left rest ns (waits x u ∷ others)
          (replaced_before (waits x u ∷ []) [] ns ms h));
      result = IsPermutation-cons (equated u r) (ms ++ rest) (others ++ rest)
          (IsPermutation-append_left rest ms others (replaced_after (waits x u ∷ []) [] ns ms h));
    }))

-- an equation goes after the pending ones
pub pended : (p : Plans) (l r : Word) (ns ps rest : List Piece)
    → Steps p [] (equated l r ∷ (ns ++ (ps ++ rest))) (ns ++ ((ps ++ equated l r ∷ []) ++ rest))
pended p l r ns ps rest =
    let e : Piece = equated l r in
    let a : IsPermutation (ns ++ (ps ++ (e ∷ rest))) (e ∷ (ns ++ (ps ++ rest))) =
    IsPermutation-trans _ _ _
    (IsPermutation-append_right ns (ps ++ (e ∷ rest)) (e ∷ (ps ++ rest)) (IsPermutation-middle ps e rest))
    (IsPermutation-middle ns e (ps ++ rest)) in
    let b : (ps ++ e ∷ []) ++ rest ≡ ps ++ (e ∷ rest) = append_assoc ps (e ∷ []) rest in
    no_step (e ∷ (ns ++ (ps ++ rest))) (ns ++ ((ps ++ e ∷ []) ++ rest))
    (subst (λ (l : List Piece). IsPermutation (e ∷ (ns ++ (ps ++ rest))) (ns ++ l)) (sym b)
    (IsPermutation-sym _ _ a))

-- a name waits for what waited for another, which is freed first
pub joined : (p : Plans) (x y u : Word) (ns mid ms rest : List Piece) → Replaced (waits y u ∷ []) [] ns mid
    → Replaced (waits x y ∷ []) (waits x u ∷ []) mid ms → Steps p [] (ns ++ rest) (ms ++ rest)
joined p x y u ns mid ms rest gone put =
    let left : List Piece = gone.front ++ gone.back in
    let others : List Piece = put.front ++ put.back in
    let taken = IsPermutation-trans ns (waits y u ∷ left) (waits y u ∷ mid) (replaced_before (waits y u ∷ []) [] ns mid gone)
    (IsPermutation-cons (waits y u) left mid
    (IsPermutation-sym mid left (replaced_after (waits y u ∷ []) [] ns mid gone))) in
    let both = IsPermutation-trans ns (waits y u ∷ mid) (waits y u ∷ waits x y ∷ others) taken
    (IsPermutation-cons (waits y u) mid (waits x y ∷ others)
    (replaced_before (waits x y ∷ []) (waits x u ∷ []) mid ms put)) in
    let given = IsPermutation-trans ns (waits y u ∷ waits x y ∷ others) (waits x y ∷ waits y u ∷ others) both
    (IsPermutation-middle (waits y u ∷ []) (waits x y) others) in
    one_step p [] (ns ++ rest) (ms ++ rest)
    (joins (ns ++ rest) (ms ++ rest) (record {
      named = x;
      between = y;
      waiting = u;
      rest = others ++ rest;
      given = IsPermutation-append_left rest ns (waits x y ∷ waits y u ∷ others) given;
      result = IsPermutation-append_left rest ms (waits x u ∷ others)
          (replaced_after (waits x y ∷ []) (waits x u ∷ []) mid ms put);
    }))
