use Rattle.std.proofs.Common.{◌≡◌, map, length, take, drop, ap, sym, ◌∙◌, arith}
use Rattle.std.proofs.lemmas.List.{take-map, drop-map, with_items_is}
use Rattle.ic_disk.specs.History.{content_of}
use Rattle.ic_disk.specs.inner.MemDisk.{history}
use Rattle.ic_disk.specs.inner.Noted.{call_of}
use Rattle.ic_disk.specs.Crash.{fronted}
use Rattle.ic_disk.specs.inner.Writes.{filled_all, filled_past, laid_all, writes_of}
use Rattle.ic_disk.proofs.CrashLemmas.{takes_by, takes_image, synced_made, front_made, fill_made, ends_made, short_made}
use Rattle.ic_disk.proofs.mem.MemDisk.crash.Goals as goal
use Rattle.ic_disk.proofs.mem.MemDisk.crash.Goals.{in-Written, in-Fill, in-Synced+in_ok-lay_all-in-Synced, in-Front+in_ok-lay_all-in-Front+in_ok-lay_front-in-Front}

pub fill_unsynced-requires-clause-ends : goal.fill_unsynced-requires-clause-ends
fill_unsynced-requires-clause-ends c =
    let old = c.self.inside in
    let rest = ap (map call_of) (c.split_at.ensures.back ∙ ap (drop old.synced_calls) c.deref.ensures.value) ∙ sym (drop-map call_of old.synced_calls old.calls.items) in
    rw (rest, c.deref_mut.ensures.value) (ends_made (history old) old.content.items old.synced_len old.synced_calls c.self.invariant)

pub fill_unsynced-requires-clause-synced : goal.fill_unsynced-requires-clause-synced
fill_unsynced-requires-clause-synced c =
    let old = c.self.inside in
    rw c.deref_mut.ensures.value (short_made (history old) old.content.items old.synced_len old.synced_calls c.self.invariant)

pub returns-clause-left : goal.returns-clause-left
returns-clause-left c =
    let old = c.self.inside in
    let h = history old in
    let rest = ap (map call_of) (c.split_at.ensures.back ∙ ap (drop old.synced_calls) c.deref.ensures.value) ∙ sym (drop-map call_of old.synced_calls old.calls.items) in
    let front = ap (map call_of) (c.split_at.ensures.front ∙ ap (take old.synced_calls) c.deref.ensures.value) ∙ sym (take-map call_of old.synced_calls old.calls.items) in
    let anew = ap content_of c.from_bytes.ensures.value in
    elim c.match-choice.branch [
      | in-Written w ↦ takes_by _ _ _ h _ _ w.in-Written.is c.self.view_is (anew ∙ ap (λ v. v.items) w.content-is) c.self.invariant.content_is
      | in-Fill w ↦
          let filled : w.fill_unsynced.new.content ≡ filled_past w.in-Fill.byte old.synced_len (filled_all w.in-Fill.byte (writes_of (drop old.synced_calls h.calls)) old.content.items) =
          w.fill_unsynced.ensures ∙ ap (λ calls. filled_past w.in-Fill.byte old.synced_len (filled_all w.in-Fill.byte (writes_of calls) w.deref_mut.result.now)) rest
          ∙ ap (λ file. filled_past w.in-Fill.byte old.synced_len (filled_all w.in-Fill.byte (writes_of (drop old.synced_calls h.calls)) file)) w.deref_mut.ensures.value in
          takes_by _ _ _ h _ _ w.in-Fill.is c.self.view_is
          (anew ∙ ap (λ v. v.items) w.content-is ∙ with_items_is old.content w.fill_unsynced.new.content (omega (arith, w.fill_unsynced.auto.content, w.deref_mut.ensures.len, ap length w.deref_mut.ensures.value, old.content.ok)) ∙ filled)
          (fill_made h old.content.items old.synced_len old.synced_calls c.self.invariant w.in-Fill.byte)
      | in-Synced+in_ok-lay_all-in-Synced w ↦
          let made = w.in_ok-lay_all-in-Synced.ensures.ok ∙ ap (λ calls. laid_all (writes_of calls) w.began-content.result.items) front ∙ ap (laid_all (writes_of (take old.synced_calls h.calls))) w.began-content.ensures in
          takes_by _ _ _ h _ _ w.in-Synced.is c.self.view_is (anew ∙ ap (λ v. v.items) w.content-is ∙ made) (synced_made h old.content.items old.synced_len old.synced_calls c.self.invariant)
      | in-Front+in_ok-lay_all-in-Front+in_ok-lay_front-in-Front w ↦
          let synced = w.in_ok-lay_all-in-Front.ensures.ok ∙ ap (λ calls. laid_all (writes_of calls) w.began-content-in-Front.result.items) front ∙ ap (laid_all (writes_of (take old.synced_calls h.calls))) w.began-content-in-Front.ensures in
          let made = w.in_ok-lay_front-in-Front.ensures.ok ∙ ap (λ calls. fronted w.in-Front.n (writes_of calls) w.lay_all-in-Front.new.content.items) rest
          ∙ ap (fronted w.in-Front.n (writes_of (drop old.synced_calls h.calls))) synced in
          takes_by _ _ _ h _ _ w.in-Front.is c.self.view_is (anew ∙ ap (λ v. v.items) w.content-is ∙ made) (front_made h old.content.items old.synced_len old.synced_calls c.self.invariant w.in-Front.n)
    ]

pub returns-clause-image : goal.returns-clause-image
returns-clause-image c = takes_image c.args.choice c.args.self (content_of c.from_bytes.result) (returns-clause-left c)
