use Rattle.std.proofs.Common.{sym, ap, ◌∙◌}
use Rattle.std.specs.Ordering.{nat_cmp}
use Rattle.std.specs.BTreeMap.{get}
use Rattle.std.proofs.lemmas.Bool.{eq-eqb, ne_eqb}
use Rattle.ic_flat_round.specs.inner.Places.{found, spot_tells}
use Rattle.ic_flat_round.proofs.PlaceLemmas.{besides, mine}
use Rattle.ic_flat_round.proofs.places.Places.get.Goals as goal

pub returns-in-Some : goal.returns-in-Some
unfolding found
returns-in-Some c =
    let name = c.args.name in
    let other = get nat_cmp c.args.self.now.others name in
    let s = c.in-Some.spot in
    sym (ap (λ o. spot_tells o other name) (sym c.spot.ensures ∙ c.in-Some.is) ∙ mine s other name (eq-eqb s.name name c.if-spot-name.true))

pub returns-in-Some-2 : goal.returns-in-Some-2
unfolding found
returns-in-Some-2 c =
    let name = c.args.name in
    let other = get nat_cmp c.args.self.now.others name in
    let s = c.in-Some.spot in
    c.other.ensures ∙ sym (ap (λ o. spot_tells o other name) (sym c.spot.ensures ∙ c.in-Some.is) ∙ besides s other name (ne_eqb s.name name c.if-spot-name.false))

pub returns-in-None : goal.returns-in-None
unfolding found
returns-in-None c =
    let name = c.args.name in
    let other = get nat_cmp c.args.self.now.others name in
    c.other-in-None.ensures ∙ sym (ap (λ o. spot_tells o other name) (sym c.spot.ensures ∙ c.in-None.is))
