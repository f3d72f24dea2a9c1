use Rattle.std.proofs.Common.{◌≡◌, ℕ, Some, slice_get, sym, ap, ◌∙◌}
use Rattle.std.specs.Ordering.{nat_cmp}
use Rattle.std.specs.BTreeMap.{get}
use Rattle.std.proofs.lemmas.Bool.{eq-eqb}
use Rattle.std.proofs.lemmas.Option.{slice_get_within}
use Rattle.ic_settle.specs.lemmas.Containers.{noted}
use Rattle.ic_flat_round.specs.declared.places.Spot.{Spot}
use Rattle.ic_flat_round.specs.inner.Places.{found, spot_in, spot_of, spot_tells}
use Rattle.ic_flat_round.proofs.PlaceLemmas.{mine, put_again, noted_by}
use Rattle.ic_flat_round.proofs.places.Places.note_at.Goals as goal

pub returns-in-Some : goal.returns-in-Some
unfolding found
returns-in-Some c =
    let it = c.args.self.now in
    let old = c.in-Some.there in
    let spot : Spot = record { name = c.args.name; first = old.first; last = c.args.place } in
    let is : slice_get it.spots.items c.args.number ≡ Some old = sym c.numbered.ensures ∙ c.in-Some.is in
    let leads = ap (slice_get it.slots.items) (sym c.requires.slot) ∙ c.requires.number in
    let other = get nat_cmp it.others c.args.name in
    let was : spot_tells (spot_of it.slots.items it.spots.items it.shift c.args.name) other c.args.name ≡ Some (old.first, old.last) =
    ap (λ o. spot_tells (spot_in it.spots.items o) other c.args.name) leads ∙ ap (λ o. spot_tells o other c.args.name) is
    ∙ mine old other c.args.name (eq-eqb old.name c.args.name c.if-there-name.true) in
    noted_by c.args.name c.args.place old.first _ _ (sym (ap (noted c.args.place) was))
    (λ (y : ℕ). put_again it.slots.items it.spots.items it.shift spot c.args.number old leads is c.if-there-name.true
    (slice_get_within it.spots.items c.args.number old is) (get nat_cmp it.others y) y)
