use Rattle.ic_arena.specs.Piece.{equated}
use Rattle.ic_in_place_laws.proofs.Left.{each_linked}
use Rattle.ic_in_place_laws.proofs.laws.a_pair_fires_after_all_is_linked.Goals as goal

pub returns : goal.returns
returns c = λ p i is m ms xs ys way. (
  way.0.before,
  way.0.steps,
  way.0.fires,
  λ l r there. each_linked way.0.before there.0 (equated l r) way.0.pairs there.1 there.2,
)
