use Rattle.std.proofs.Common.{[], ◌∷◌, ◌++◌, map, refl, ap, ◌∙◌}
use Rattle.std.proofs.lemmas.List.{map_push}
use Rattle.ic_disk.specs.Model.{Write, write}
use Rattle.ic_disk.specs.History.{with_call}
use Rattle.ic_disk.specs.inner.MemDisk.{history}
use Rattle.ic_disk.specs.inner.Noted.{call_of}
use Rattle.ic_disk.specs.declared.noted.Noted.TheVariants.{Write as Noted_write}
use Rattle.ic_disk.proofs.KeepsLemmas.{keeps_write, keeps_same}
use Rattle.ic_disk.proofs.mem.MemDisk.try_write.Goals as goal

pub invariant_of-self-2 : goal.invariant_of-self-2
invariant_of-self-2 c =
    let old = c.self.inside in
    let h = history old in
    let w : Write = record { at = c.args.at; bytes = c.args.bytes.now } in
    let copy = c.in_ok-from_slice.field-0 in
    let calls = ap (map call_of) c.push_reserved.ensures.items
    ∙ map_push call_of c.reserve.new.self.items (Noted_write c.args.at copy)
    ∙ ap (λ bytes. map call_of c.reserve.new.self.items ++ write (record { at = c.args.at; bytes = bytes }) ∷ []) c.in_ok-from_slice.ensures.items
    ∙ ap (λ noted. map call_of noted ++ write w ∷ []) c.in_ok-reserve.ensures.items in
    keeps_same (with_call (write w) h) _ _ _ _ _ _ _ _ (c.in_ok-keep_first.ensures.ok c.lay.new.content.items) calls c.in_ok-lay.ensures.ok refl refl
    (keeps_write w h old.content.items old.synced_len old.synced_calls c.self.invariant)
