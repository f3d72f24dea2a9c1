use Rattle.std.proofs.Common.{ℕ, Some, cond, sym, ap, ◌∙◌}
use Rattle.std.specs.Ordering.{nat_cmp}
use Rattle.std.specs.BTreeMap.{get}
use Rattle.ic_settle.specs.lemmas.Containers.{noted}
use Rattle.ic_flat_round.specs.declared.places.Spot.{Spot}
use Rattle.ic_flat_round.specs.inner.Places.{found}
use Rattle.ic_flat_round.proofs.BoundEntries.{is_same}
use Rattle.ic_flat_round.proofs.PlaceLemmas.{put_beside, noted_by}
use Rattle.ic_flat_round.proofs.places.Places.note_other.Goals as goal

pub returns : goal.returns
unfolding found
returns c =
    let it = c.args.self.now in
    let name = c.args.name in
    let first = c.first_of-first.result in
    let s : Spot = record { name = name; first = first; last = c.args.place } in
    let is = c.first_of-first.ensures ∙ ap (noted c.args.place) (c.other.ensures ∙ sym (c.requires (get nat_cmp it.others name))) in
    noted_by name c.args.place first _ _ is
    (λ (y : ℕ).
    put_beside it.slots.items it.spots.items it.shift s (get nat_cmp it.others y) (get nat_cmp c.insert.new.self y) y c.requires
    (c.in_ok-insert.ensures.updates.0 y ∙ ap (λ b. cond b (Some (first, c.args.place)) (get nat_cmp it.others y)) (is_same name y)))
