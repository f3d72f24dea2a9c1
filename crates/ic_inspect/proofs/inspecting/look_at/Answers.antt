use Rattle.std.proofs.Common.{List, ℕ, subst}
use Rattle.ic_frames.specs.declared.slot.TheConstants.{SECOND_AT}
use Rattle.ic_inspect.specs.Seeing.{IsSeenAt}
use Rattle.ic_inspect.specs.Slots.{file_of}
use Rattle.ic_inspect.proofs.SlotLemmas.{same_first, same_second, same_seen}
use Rattle.ic_inspect.proofs.inspecting.look_at.Goals as goal

pub returns : goal.returns
returns c =
    let one = c.args.slots.now.first.items in
    let two = c.args.slots.now.second.items in
    let file = file_of one two in
    let first = c.in_ok-first.first in
    let second = c.in_ok-second.second in
    let whole = c.a_slot_is_open_or_whole.ensures.whole in (
      same_seen whole 0 0 one file first (same_first whole one two c.requires) (subst (λ (slot : List ℕ). IsSeenAt 0 first slot) c.deref.ensures.value c.in_ok-first.ensures),
      same_seen whole 0 SECOND_AT two file second (same_second one two) (subst (λ (slot : List ℕ). IsSeenAt 0 second slot) c.deref-2.ensures.value c.in_ok-second.ensures),
    )
