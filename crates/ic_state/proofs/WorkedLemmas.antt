-- The worked example, by computing.
use Rattle.std.proofs.Common.{◌≡◌, ◌∷◌, [], true, false, refl}
use Rattle.ic_flat.specs.declared.word.Word.TheVariants.{Name, Agent}
use Rattle.ic_state.specs.Numbers.{eight_bytes, four_bytes}
use Rattle.ic_state.specs.State.{state_bytes}
use Rattle.ic_state.specs.Words.{word_bytes}
use Rattle.ic_state.specs.Worked.{begun_by_hand, by_rounds_by_hand, ended_by_hand, joins_begun, joins_by_rounds, joins_ended, joins_narrow, meets_midway, midway_by_hand, narrow_by_hand}

pub begun_bytes : state_bytes joins_begun ≡ begun_by_hand
unfolding eight_bytes
begun_bytes = refl

pub ended_bytes : state_bytes joins_ended ≡ ended_by_hand
unfolding eight_bytes
ended_bytes = refl

pub midway_bytes : state_bytes meets_midway ≡ midway_by_hand
unfolding eight_bytes
midway_bytes = refl

pub by_rounds_bytes : state_bytes joins_by_rounds ≡ by_rounds_by_hand
unfolding eight_bytes
by_rounds_bytes = refl

pub narrow_bytes : state_bytes joins_narrow ≡ narrow_by_hand
unfolding eight_bytes four_bytes
narrow_bytes = refl

pub narrow_name : word_bytes true (Name 0x01020304) ≡ 1 ∷ 2 ∷ 3 ∷ 4 ∷ []
unfolding four_bytes
narrow_name = refl

pub wide_name : word_bytes false (Name 0x0102030405060708) ≡ 1 ∷ 2 ∷ 3 ∷ 4 ∷ 5 ∷ 6 ∷ 7 ∷ 8 ∷ []
unfolding eight_bytes
wide_name = refl

pub narrow_agent : word_bytes true (Agent 0x010203 5) ≡ 0x85 ∷ 1 ∷ 2 ∷ 3 ∷ []
unfolding four_bytes
narrow_agent = refl

pub wide_agent : word_bytes false (Agent 0x010203 5) ≡ 0x80 ∷ 0 ∷ 0 ∷ 5 ∷ 0 ∷ 1 ∷ 2 ∷ 3 ∷ []
unfolding eight_bytes
wide_agent = refl
