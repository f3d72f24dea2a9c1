use Rattle.std.proofs.Common.{◌≡◌, ℕ, sym, ap, ◌∙◌, length, arith}
use Rattle.std.proofs.Math.ListN.{set}
use Rattle.std.specs.Ordering.{nat_cmp}
use Rattle.std.specs.BTreeMap.{get}
use Rattle.ic_settle.specs.lemmas.Containers.{noted}
use Rattle.ic_flat_round.specs.declared.places.Spot.{Spot}
use Rattle.ic_flat_round.specs.inner.Places.{found, slot_of, spot_of, spot_tells}
use Rattle.ic_flat_round.proofs.PlaceLemmas.{put_new, noted_by}
use Rattle.ic_flat_round.proofs.places.Places.note_new.Goals as goal

pub returns : goal.returns
unfolding found
returns c =
    let it = c.args.self.now in
    let name = c.args.name in
    let first = c.first_of-first.result in
    let s : Spot = record { name = name; first = first; last = c.args.place } in
    let slot_is = c.requires.slot in
    let last : c.len.result ≡ length it.spots.items = omega (arith, c.len.ensures) in
    let new = put_new it.slots.items it.spots.items it.shift s (λ old is same. c.requires.free old is (same ∙ sym slot_is))
    (omega (arith, c.requires.within, slot_is)) in
    let is = c.first_of-first.ensures ∙ ap (noted c.args.place) (c.other.ensures ∙ sym (c.requires.passes (get nat_cmp it.others name))) in
    noted_by name c.args.place first _ _ is
    (λ (y : ℕ).
    ap (λ k. spot_tells (spot_of (set it.slots.items k c.len.result) c.push.new.self.items it.shift y) (get nat_cmp it.others y) y) slot_is
    ∙ ap (λ n. spot_tells (spot_of (set it.slots.items (slot_of it.shift name) n) c.push.new.self.items it.shift y) (get nat_cmp it.others y) y) last
    ∙ ap (λ l. spot_tells (spot_of (set it.slots.items (slot_of it.shift name) (length it.spots.items)) l it.shift y) (get nat_cmp it.others y) y) c.in_ok-push.ensures.items
    ∙ new (get nat_cmp it.others y) y)
