use Rattle.std.proofs.Common.{◌≡◌, List, ℕ, Ok, true, refl, subst}
use Rattle.ic_exact.proofs.answered.a_text_is_answered_so.Goals as goal

pub returns-clause-line : goal.returns-clause-line
returns-clause-line c = λ answers n text before after is. is.written

pub returns-clause-front : goal.returns-clause-front
returns-clause-front c = λ answers text before after is.
    let part = is.cut refl in
    let it = part.2 in
    (it.sent, it.unsent, subst (λ (l : List ℕ). answers text (Ok l) ≡ true) it.parted part.1, it.written)

pub returns-clause-text : goal.returns-clause-text
returns-clause-text c = λ answers text fault old new is. is.refused

pub returns-clause-round : goal.returns-clause-round
returns-clause-round c = λ answers text fault old new is. is.refused
