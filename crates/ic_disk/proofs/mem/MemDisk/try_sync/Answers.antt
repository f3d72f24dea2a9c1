use Rattle.std.proofs.Common.{◌∷◌, [], map, refl, ap, ◌∙◌, arith, length-append}
use Rattle.std.proofs.lemmas.List.{map_push, length-map}
use Rattle.ic_disk.specs.Model.{sync}
use Rattle.ic_disk.specs.History.{with_call}
use Rattle.ic_disk.specs.inner.MemDisk.{history}
use Rattle.ic_disk.specs.inner.Noted.{call_of}
use Rattle.ic_disk.proofs.KeepsLemmas.{keeps_sync, keeps_same}
use Rattle.ic_disk.specs.declared.noted.Noted.TheVariants.{Sync}
use Rattle.ic_disk.proofs.mem.MemDisk.try_sync.Goals as goal

pub invariant_of-self-2 : goal.invariant_of-self-2
invariant_of-self-2 c =
    let old = c.self.inside in
    let h = history old in
    keeps_same (with_call sync h) _ _ _ _ _ _ _ _ refl (ap (map call_of) c.in_ok-push.ensures.items ∙ map_push call_of old.calls.items Sync) refl (omega arith)
    (omega (arith, c.len-self-inside.ensures, c.in_ok-push.ensures.len, old.calls.ok, length-append (map call_of old.calls.items) (sync ∷ []), length-map old.calls.items call_of))
    (keeps_sync h old.content.items old.synced_len old.synced_calls c.self.invariant)
