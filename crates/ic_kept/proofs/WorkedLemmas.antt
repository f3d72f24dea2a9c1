-- The worked example, by computing.
use Rattle.std.proofs.Common.{◌≡◌, refl}
use Rattle.ic_kept.specs.Sheet.{number, size}
use Rattle.ic_kept.specs.Worked.{file_by_hand}

pub number_by_hand : number file_by_hand ≡ 258
unfolding number
number_by_hand = refl

pub size_by_hand : size file_by_hand ≡ 3
unfolding size
size_by_hand = refl
