use Rattle.std.proofs.Common.{◌≡◌, ⊎_elim, ℕ, ◌+◌, ◌-◌, get_or, ◌∙◌, ap, arith}
use Rattle.std.proofs.lemmas.List.{get_or_past}
use Rattle.ic_disk.specs.lemmas.ContentLaws.{length-laid, laid-before, laid-inside, laid-after}
use Rattle.ic_disk.proofs.laws.a_write_lays_its_bytes.Goals as goal

pub returns-clause-inside : goal.returns-clause-inside
returns-clause-inside c at bytes file i within =
    let back : at + i - at ≡ i = omega arith in
    laid-inside at bytes file (at + i) (omega arith) (omega (arith, within)) ∙ ap (λ k. get_or bytes k 0) back

pub returns-clause-outside : goal.returns-clause-outside
returns-clause-outside c at bytes file i within =
    ⊎_elim (λ before. laid-before at bytes file i before) (λ after. laid-after at bytes file i after)

pub returns-clause-gap : goal.returns-clause-gap
returns-clause-gap c at bytes file i past before = laid-before at bytes file i before ∙ get_or_past file i 0 past

pub returns-clause-length : goal.returns-clause-length
returns-clause-length c = length-laid
