use Rattle.std.proofs.Common.{arith, ◌≡◌, ◌∙◌, ◌+◌, ◌++◌, ap, sym, subst, List, ℕ}
use Rattle.ic_frames.specs.declared.frame.TheConstants.{HEAD, MAX_BODY}
use Rattle.ic_inspect.specs.Slots.{IsSlotOf, body_room}
use Rattle.ic_inspect.specs.inner.Fronts.{IsFrontOf}
use Rattle.ic_inspect.proofs.ReadLemmas.{slot_of, taken_both}
use Rattle.ic_inspect.proofs.reading.read_slot.Goals as goal

pub returns-clause-slot : goal.returns-clause-slot
returns-clause-slot g c =
    let old = g.R.Read.remaining c.args.reader.now in
    let mid = g.R.Read.remaining c.read_front.new.reader in
    let new = g.R.Read.remaining c.read_front-2.new.reader in
    let head = c.in_ok-slot.slot.items in
    let body = c.in_ok-body.body.items in
    let room : c.body_room-room.result ≡ body_room head = c.body_room-room.ensures.is ∙ ap body_room c.deref.ensures.value in
    let slot : c.extend_from_slice.new.self.items ≡ head ++ body = c.in_ok-extend_from_slice.ensures.items ∙ ap (λ (l : List ℕ). head ++ l) c.deref-2.ensures.value in
    subst (λ (bytes : List ℕ). IsSlotOf bytes old) (sym slot)
    (slot_of head body old mid new c.in_ok-slot.ensures.front c.in_ok-slot.ensures.taken (subst (λ (n : ℕ). IsFrontOf n body mid) room c.in_ok-body.ensures.front))

pub returns-in_err-body-clause-few : goal.returns-in_err-body-clause-few
returns-in_err-body-clause-few g c =
    taken_both HEAD c.body_room-room.result (HEAD + MAX_BODY) _ _ _ (omega (arith, c.body_room-room.ensures.few)) c.read_front.ensures.few c.read_front-2.ensures.few

pub returns-in_err-extend_from_slice-clause-few : goal.returns-in_err-extend_from_slice-clause-few
returns-in_err-extend_from_slice-clause-few g c =
    taken_both HEAD c.body_room-room.result (HEAD + MAX_BODY) _ _ _ (omega (arith, c.body_room-room.ensures.few)) c.read_front.ensures.few c.read_front-2.ensures.few

pub returns-clause-few : goal.returns-clause-few
returns-clause-few g c =
    taken_both HEAD c.body_room-room.result (HEAD + MAX_BODY) _ _ _ (omega (arith, c.body_room-room.ensures.few)) c.read_front.ensures.few c.read_front-2.ensures.few
