-- Lemmas: which equations are left.
use Rattle.std.proofs.Common.{◌≡◌, ℕ, zero, suc, ◌<◌, List, [], ◌∷◌, length, slice_index_or, arith, subst as transport}
use Rattle.std.specs.List.{AllByRecursion}
use Rattle.ic_arena.specs.Piece.{Piece}
use Rattle.ic_machine.specs.Net.{IsPairPiece}

pub each_linked : (ps : List Piece) (i : ℕ) (q : Piece) → AllByRecursion IsPairPiece ps → i < length ps → slice_index_or ps i q ≡ q → IsPairPiece q
each_linked [] i q all low is = absurd (omega (arith, low))
each_linked (x ∷ ps) zero q all low is = transport IsPairPiece is all.0
each_linked (x ∷ ps) (suc i) q all low is = each_linked ps i q all.1 (omega (arith, low)) is
