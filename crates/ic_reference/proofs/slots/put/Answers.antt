use Rattle.std.proofs.Common.{map, is_none, refl, arith, ap, sym, ◌∙◌}
use Rattle.std.proofs.lemmas.List.{length-map}
use Rattle.ic_term.specs.Term.{pair}
use Rattle.ic_reference.specs.inner.Slots.{slot_of}
use Rattle.ic_reference.specs.declared.slots.Slot.TheVariants.{Filled}
use Rattle.ic_reference.proofs.Putting.{put-awaited, put-taken, put-past}
use Rattle.ic_reference.proofs.slots.put.Goals as goal

pub returns : goal.returns
returns c =
    put-awaited c.args.slots.now c.args.place c.index-slots-place.result (Filled c.args.products) c.if-place-slots.false c.index-slots-place.is
    (ap (λ s. is_none (slot_of s)) c.index-slots-place.is ∙ sym c.is_awaited.ensures ∙ c.if-not-is_awaited.false) (map pair c.args.products.items) refl

pub returns-then-place-slots : goal.returns-then-place-slots
returns-then-place-slots c =
    put-past (map slot_of c.args.slots.now) c.args.place (map pair c.args.products.items) (omega (arith, length-map c.args.slots.now slot_of, c.if-place-slots.true))

pub returns-then-not-is_awaited : goal.returns-then-not-is_awaited
returns-then-not-is_awaited c =
    put-taken c.args.slots.now c.args.place c.index-slots-place.result c.if-place-slots.false c.index-slots-place.is
    (ap (λ s. is_none (slot_of s)) c.index-slots-place.is ∙ sym c.is_awaited.ensures ∙ c.if-not-is_awaited.true) (map pair c.args.products.items)
