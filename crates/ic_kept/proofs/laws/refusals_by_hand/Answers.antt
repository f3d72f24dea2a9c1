use Rattle.std.proofs.Common.{◌≡◌, inl, [], refl, arith}
use Rattle.ic_kept.specs.Sheet.{IsShut}
use Rattle.ic_kept.specs.Worked.{file_by_hand, shut_by_hand}
use Rattle.ic_kept.proofs.HeldLemmas.{cut_damaged}
use Rattle.ic_kept.proofs.laws.refusals_by_hand.Goals as goal

shut : IsShut shut_by_hand
shut = record { made = omega arith; shut = λ (opened : 0 ≡ 1). absurd (omega (arith, opened)) }

pub returns-clause-no_slot : goal.returns-clause-no_slot
returns-clause-no_slot c = (shut, shut)

pub returns-clause-two_alike : goal.returns-clause-two_alike
returns-clause-two_alike c = record { made = (omega arith, omega arith); opened = (refl, refl); same = refl }

pub returns-clause-damaged : goal.returns-clause-damaged
returns-clause-damaged c = cut_damaged [] file_by_hand (inl (omega arith))
