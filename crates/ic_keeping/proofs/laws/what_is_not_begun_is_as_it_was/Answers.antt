use Rattle.std.proofs.Common.{◌≡◌, ◌⊎◌, ⊎_elim, inl, inr, ℕ, ◌<◌, ◌-◌, ◌^◌, ◌∙◌, ap, arith}
use Rattle.ic_disk.specs.Time.{OneMore}
use Rattle.ic_keeping.proofs.laws.what_is_not_begun_is_as_it_was.Goals as goal

pub returns-clause-same : goal.returns-clause-same
returns-clause-same g c = λ fault isnt why. isnt.untouched why

pub returns-clause-empty : goal.returns-clause-empty
returns-clause-empty g c = λ fault isnt why empty.
    let same = isnt.untouched why in
    (ap g.D.Disk.content same.0 ∙ empty.0, ap g.D.Disk.content same.1 ∙ empty.1)

pub returns-clause-read : goal.returns-clause-read
returns-clause-read g c = λ fault isnt held. isnt.spared held

pub returns-clause-others : goal.returns-clause-others
returns-clause-others g c = λ fault isnt. isnt.stops

-- one more is more, or the count is at its end
more_or_all : (old new : ℕ) → OneMore old new → (old < new) ⊎ (new ≡ 2 ^ 64 - 1)
more_or_all old new (inl up) = let one = up.1 in inl (omega (arith, one))
more_or_all old new (inr full) = inr (full.1 ∙ full.0)

pub returns-clause-counted : goal.returns-clause-counted
returns-clause-counted g c = λ fault failed. ⊎_elim
    (λ one. ⊎_elim (λ up. inl up) (λ full. inr (inr (inl full))) (more_or_all _ _ one))
    (λ other. ⊎_elim (λ up. inr (inl up)) (λ full. inr (inr (inr full))) (more_or_all _ _ other))
    failed
