-- Lemmas: what pieces hold has room in them.
use Rattle.std.proofs.Common.{ℕ, ◌≤◌, List, [], ◌∷◌, true, false, cond, sum_by, arith}
use Rattle.std.proofs.lemmas.List.Sums.{sum_by-cons}
use Rattle.ic_arena.specs.declared.word.Word.{Word}
use Rattle.ic_arena.specs.Word.{word_eq}
use Rattle.ic_arena.specs.Piece.{Piece, equated, idle, waits, agent_of, room}
use Rattle.ic_meaning.specs.Nets.{holds}

holds_room : (w : Word) (p : Piece) → holds w p ≤ room w p
holds_room w (equated l r) = omega arith
holds_room w (idle x) = elim (word_eq w x) as (λ b. cond {A = ℕ} b 1 0 ≤ cond b 2 0) [
  | true ↦ omega arith
  | false ↦ omega arith
]
holds_room w (waits x u) = omega arith
holds_room w (agent_of a ws) = omega arith

pub all_hold_room : (w : Word) (ps : List Piece) → sum_by (holds w) ps ≤ sum_by (room w) ps
all_hold_room w [] = omega arith
all_hold_room w (p ∷ ps) =
    let here = holds_room w p in
    let rest = all_hold_room w ps in
    let a = sum_by-cons (holds w) p ps in
    let b = sum_by-cons (room w) p ps in
    omega arith
