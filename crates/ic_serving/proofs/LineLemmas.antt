-- One line over a book.
use Rattle.std.proofs.Common.{◌≡◌, ◌≢◌, ◌⊎◌, inl, inr, ℕ, ◌≤◌, List, [], ◌∷◌, ◌++◌, Some, length, refl, sym, ap, ◌∙◌}
use Rattle.std.specs.Option.{option_map_or}
use Rattle.std.proofs.lemmas.List.{take-append-le}
use Rattle.ic_jobs.specs.Job.{JobParts}
use Rattle.ic_jobs.specs.declared.event.Event.{Event}
use Rattle.ic_jobs.specs.declared.event.Entry.{Entry}
use Rattle.ic_jobs.specs.declared.reply.Reply.{Reply}
use Rattle.ic_jobs.specs.Events.{Outcome, apply, outcome}
use Rattle.ic_jobs.specs.History.{table_after, replay}
use Rattle.ic_book.specs.Left.{table_kept}
use Rattle.ic_book.specs.declared.fault.BookFault.{BookFault}
use Rattle.ic_book.specs.declared.fault.BookFault.TheVariants.{Device}
use Rattle.ic_serving.specs.Parts.{IsPart, IsKeptWithin}

pub device_or_not : (e : BookFault) → (e ≡ Device) ⊎ (e ≢ Device)
device_or_not Device = inl refl
device_or_not _ = inr (λ same. cc)

-- nothing of some events has come
pub begun_none : (t kept : List JobParts) (es : List Event) (u w : List JobParts) → u ≡ t → (w ≡ kept) ⊎ (w ≡ t)
    → IsPart t es u × IsKeptWithin t kept es w
begun_none t kept es u w same (inl stays) = (record { front = []; rest = es; parted = refl; leaves = same }, inl stays)
begun_none t kept es u w same (inr now) =
    (record { front = []; rest = es; parted = refl; leaves = same }, inr (record { front = []; rest = es; parted = refl; leaves = now }))

-- one event has come, and isn't kept
pub begun_one : (t kept : List JobParts) (e : Event) (u w : List JobParts) → u ≡ table_after t e → (w ≡ kept) ⊎ (w ≡ t)
    → IsPart t (e ∷ []) u × IsKeptWithin t kept (e ∷ []) w
begun_one t kept e u w moved (inl stays) = (record { front = e ∷ []; rest = []; parted = refl; leaves = moved }, inl stays)
begun_one t kept e u w moved (inr now) =
    (record { front = e ∷ []; rest = []; parted = refl; leaves = moved }, inr (record { front = []; rest = e ∷ []; parted = refl; leaves = now }))

-- one event has come, and is kept
pub begun_kept : (t kept : List JobParts) (e : Event) (u w : List JobParts) → u ≡ table_after t e → w ≡ u
    → IsPart t (e ∷ []) u × IsKeptWithin t kept (e ∷ []) w
begun_kept t kept e u w moved now =
    (record { front = e ∷ []; rest = []; parted = refl; leaves = moved }, inr (record { front = e ∷ []; rest = []; parted = refl; leaves = now ∙ moved }))

pub after_event : (t u : List JobParts) (e : Event) (r : Reply) → apply t e ≡ Some (outcome u r) → u ≡ table_after t e
after_event t u e r is = sym (ap (λ o. option_map_or (λ (p : Outcome). p.table) o t) is)

-- the table that was kept last, where one entry more stands in the history
pub kept_after : (s n : List JobParts) (h l : List Entry) (e : Entry) (k m : ℕ) → n ≡ s → l ≡ h ++ e ∷ [] → m ≡ k → k ≤ length h
    → table_kept n l m ≡ table_kept s h k
kept_after s n h l e k m a b c within = rw (a, b, c) (ap (replay s) (take-append-le k h (e ∷ []) within))
