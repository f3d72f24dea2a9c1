-- Lemmas: what is left is read as terms by themselves.
use Rattle.std.proofs.Common.{ℕ, ◌-◌, ◌≤◌, List, [], ◌∷◌, ◌++◌, sum_by, sym, arith, append_assoc, append-nil, subst as transport}
use Rattle.std.specs.Prelude.{Contains}
use Rattle.ic_arena.specs.Piece.{Piece, waits, agent_of}
use Rattle.ic_readback.specs.declared.token.Token.TheVariants.{Agent}
use Rattle.ic_readback.specs.inner.Expanding.{state}
use Rattle.ic_readback.specs.inner.Writing.{Part, part, Gathered, nothing, waited, alone as alone_part}
use Rattle.ic_readback.proofs.Chains.{steps_pieces, steps_fewer, gone, after}

pub gathered_on : (arities : List ℕ) (xs ys : List Part) (ps qs rs : List Piece) → Gathered arities xs ps qs → Gathered arities ys qs rs → Gathered arities (xs ++ ys) ps rs
gathered_on arities xs ys ps qs rs first (nothing os) = transport (λ l. Gathered arities l ps os) (sym (append-nil xs)) first
gathered_on arities xs ys ps qs rs first (waited before x u us os ms ns ss rest tag taken steps) =
    transport (λ l. Gathered arities l ps ss) (append_assoc xs before (part x us ∷ []))
    (waited (xs ++ before) x u us ps ms ns ss (gathered_on arities xs before ps os ms first rest) tag taken steps)
gathered_on arities xs ys ps qs rs first (alone_part before a vs us os ms ns ss rest is taken steps) =
    transport (λ l. Gathered arities l ps ss) (append_assoc xs before (part a us ∷ []))
    (alone_part (xs ++ before) a vs us ps ms ns ss (gathered_on arities xs before ps os ms first rest) is taken steps)

pub gathered_pieces : (arities : List ℕ) (p : Piece) (parts : List Part) (ps qs : List Piece) → Gathered arities parts ps qs → Contains qs p → Contains ps p
gathered_pieces arities p parts ps qs (nothing os) there = there
gathered_pieces arities p parts ps qs (waited before x u us os ms ns ss rest tag taken steps) there =
    gathered_pieces arities p before os ms rest (after ms ns (waits x u) p taken (steps_pieces arities p (state [] (u ∷ []) ns) (state us [] ss) steps there))
gathered_pieces arities p parts ps qs (alone_part before a vs us os ms ns ss rest is taken steps) there =
    gathered_pieces arities p before os ms rest (after ms ns (agent_of a vs) p taken (steps_pieces arities p (state (Agent (a.tag - 1) ∷ []) vs ns) (state us [] ss) steps there))

pub gathered_fewer : (arities : List ℕ) (f : Piece → ℕ) (parts : List Part) (ps qs : List Piece) → Gathered arities parts ps qs → sum_by f qs ≤ sum_by f ps
gathered_fewer arities f parts ps qs (nothing os) = omega arith
gathered_fewer arities f parts ps qs (waited before x u us os ms ns ss rest tag taken steps) =
    let first = gathered_fewer arities f before os ms rest in
    let all = gone f ms ns (waits x u) taken in
    let later = steps_fewer arities f (state [] (u ∷ []) ns) (state us [] ss) steps in
    omega arith
gathered_fewer arities f parts ps qs (alone_part before a vs us os ms ns ss rest is taken steps) =
    let first = gathered_fewer arities f before os ms rest in
    let all = gone f ms ns (agent_of a vs) taken in
    let later = steps_fewer arities f (state (Agent (a.tag - 1) ∷ []) vs ns) (state us [] ss) steps in
    omega arith
