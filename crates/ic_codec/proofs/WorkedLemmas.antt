-- The worked example, by computing.
use Rattle.std.proofs.Common.{◌≡◌, [], ◌∷◌, refl}
use Rattle.ic_codec.specs.Numbers.{two_bytes, eight_bytes}
use Rattle.ic_codec.specs.Tables.{table_bytes, old_table_bytes}
use Rattle.ic_codec.specs.Worked.{one_plus_one, one_plus_one_done, one_plus_one_spent, submitted_by_hand, done_by_hand, spent_by_hand, old_submitted_by_hand, old_done_by_hand}

pub two_by_hand : two_bytes 0x0102 ≡ 1 ∷ 2 ∷ []
unfolding two_bytes
two_by_hand = refl

pub eight_by_hand : eight_bytes 0x0102030405060708 ≡ 1 ∷ 2 ∷ 3 ∷ 4 ∷ 5 ∷ 6 ∷ 7 ∷ 8 ∷ []
unfolding eight_bytes
eight_by_hand = refl

pub submitted_bytes : table_bytes (one_plus_one ∷ []) ≡ submitted_by_hand
unfolding two_bytes eight_bytes
submitted_bytes = refl

pub done_bytes : table_bytes (one_plus_one_done ∷ []) ≡ done_by_hand
unfolding two_bytes eight_bytes
done_bytes = refl

pub spent_bytes : table_bytes (one_plus_one_spent ∷ []) ≡ spent_by_hand
unfolding two_bytes eight_bytes
spent_bytes = refl

pub old_submitted_bytes : old_table_bytes (one_plus_one ∷ []) ≡ old_submitted_by_hand
unfolding two_bytes eight_bytes
old_submitted_bytes = refl

pub old_done_bytes : old_table_bytes (one_plus_one_done ∷ []) ≡ old_done_by_hand
unfolding two_bytes eight_bytes
old_done_bytes = refl
