-- That the fields of the disk in memory agree with its history after a call.
use Rattle.std.proofs.Common.{◌≡◌, ℕ, List, [], ◌∷◌, ◌++◌, length, map, sym, ◌∙◌, ap, arith, length-append}
use Rattle.std.proofs.lemmas.List.{take_all, take-append-le, drop-append-le, drop_all, map_push}
use Rattle.ic_disk.specs.Content.{laid}
use Rattle.ic_disk.specs.Model.{Write, Call, write, sync, State, begun}
use Rattle.ic_disk.specs.History.{History, replay, state, with_call}
use Rattle.ic_disk.specs.lemmas.HistoryLaws.{state-with_call}
use Rattle.ic_disk.specs.inner.MemDisk.{Keeps}

pub keeps_write : (w : Write) (h : History) (content : List ℕ) (n k : ℕ) → Keeps h content n k → Keeps (with_call (write w) h) (laid w.at w.bytes content) n k
keeps_write w h content n k keeps =
    let is = state-with_call (write w) h in
    record {
      content_is = ap (laid w.at w.bytes) keeps.content_is ∙ sym (ap (λ (s : State). s.content) is);
      synced_len_is = keeps.synced_len_is ∙ sym (ap (λ (s : State). length s.synced) is);
      within = omega (arith, keeps.within, length-append h.calls (write w ∷ []));
      synced_is = ap (λ (calls : List Call). (replay calls (begun h.first)).content) (take-append-le k h.calls (write w ∷ []) keeps.within)
          ∙ keeps.synced_is ∙ sym (ap (λ (s : State). s.synced) is);
      pending_is = drop-append-le k h.calls (write w ∷ []) keeps.within
          ∙ ap (λ (calls : List Call). calls ++ write w ∷ []) keeps.pending_is
          ∙ sym (map_push write (state h).pending w)
          ∙ sym (ap (λ (s : State). map write s.pending) is);
    }

pub keeps_sync : (h : History) (content : List ℕ) (n k : ℕ) → Keeps h content n k → Keeps (with_call sync h) content (length content) (length (with_call sync h).calls)
keeps_sync h content n k keeps =
    let is = state-with_call sync h in
    let all = (with_call sync h).calls in
    record {
      content_is = keeps.content_is ∙ sym (ap (λ (s : State). s.content) is);
      synced_len_is = ap length keeps.content_is ∙ sym (ap (λ (s : State). length s.synced) is);
      within = omega arith;
      synced_is = ap (λ (calls : List Call). (replay calls (begun h.first)).content) (take_all (length all) all (omega arith))
          ∙ ap (λ (s : State). s.content) is ∙ sym (ap (λ (s : State). s.synced) is);
      pending_is = drop_all (length all) all (omega arith) ∙ sym (ap (λ (s : State). map write s.pending) is);
    }

-- the same history, by its parts
pub keeps_same : (h : History) (first : List ℕ) (calls : List Call) (content content' : List ℕ) (n n' k k' : ℕ) → first ≡ h.first → calls ≡ h.calls → content' ≡ content → n' ≡ n → k' ≡ k
    → Keeps h content n k → Keeps (record { first = first; calls = calls; failures = h.failures }) content' n' k'
keeps_same h first calls content content' n n' k k' same_first same_calls same_content same_n same_k keeps =
    rw (same_first, same_calls, same_content, same_n, same_k) keeps
