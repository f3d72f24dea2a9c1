use Rattle.std.proofs.Common.{◌≡◌, ⊎_elim, inl, inr, ℕ, List, length, ap, arith}
use Rattle.std.proofs.lemmas.List.{length-append}
use Rattle.ic_in_place.specs.Counting.{rules_in}
use Rattle.ic_in_place_laws.proofs.going_on.rounds_end_no_sooner.Goals as goal

pub returns : goal.returns
returns c = λ s most enough rounds reduced is steps.
    let all = is.fired.all in
    let both = length-append (rules_in s.rules.rules rounds s.config) is.fired.since in
    let none : length is.fired.since ≡ 0 = ap (λ (l : List ℕ). length l) (is.fired.whole (inr steps)) in
    ⊎_elim (λ most. inl most) (λ low. inr (omega (arith, low, all, both, none))) (is.all steps)
