-- How many calls to the disk are made.
use Rattle.std.proofs.Common.{◌≡◌, ◌≢◌, inl, inr, ℕ, ◌+◌, ◌-◌, ◌*◌, ◌<◌, ◌≤◌, ◌/◌, ◌%◌, List, length, refl, ap, ◌∙◌, arith, length-append}
use Rattle.std.proofs.lemmas.Nat.{div-add-mod', div_below, le-div}
use Rattle.ic_disk.specs.declared.disk.Disk.{Ghosts}
use Rattle.ic_jobs.specs.Job.{JobParts}
use Rattle.ic_lines.specs.Turns.{turns}
use Rattle.ic_slots.specs.declared.keeper.Keeper.{Keeper}
use Rattle.ic_slots.specs.Keeper as keeper_parts
use Rattle.ic_book.specs.declared.book.Book.{Book}
use Rattle.ic_book.specs.Book.{disk_of, keeper_of}
use Rattle.ic_serving.proofs.RunLemmas.{InRun}
use Rattle.ic_serving.proofs.StopLemmas.{all_or_not}

-- ---- numbers

pub at_least : (a b : ℕ) → a ≤ a + b
at_least a b = omega arith

front_below : (a b c : ℕ) → a + b ≡ c → a ≤ c
front_below a b c is = omega (arith, is)

le_then : (a b c : ℕ) → a ≤ b → b ≤ c → a ≤ c
le_then a b c p q = omega (arith, p, q)

below_whole : (a b n : ℕ) → a + b ≡ n + 1 → b ≡ 0 → n < a
below_whole a b n is none = omega (arith, is, none)

-- more rounds have no fewer parts
more_parts : (m n every : ℕ) → 0 < every → m ≤ n → m / every ≤ n / every
more_parts m n every some few = le-div (m / every) n every some
    (le_then (m / every * every) m n (front_below (m / every * every) (m % every) m (div-add-mod' m every)) few)

-- and one more, where a part is full
next_part : (n every : ℕ) → 0 < every → (n + 1) % every ≡ 0 → n / every < (n + 1) / every
next_part n every some full = div_below n every ((n + 1) / every) some
    (below_whole ((n + 1) / every * every) ((n + 1) % every) n (div-add-mod' (n + 1) every) full)

kept_once : (a b old clock mid new : ℕ) → a < b → clock ≤ old + 6 * a → mid ≡ clock → new ≤ mid + 6 → new ≤ old + 6 * b
kept_once a b old clock mid new more so_far same six = omega (arith, more, so_far, same, six)

not_kept : (a b old clock mid new : ℕ) → a ≤ b → clock ≤ old + 6 * a → mid ≡ clock → new ≡ mid → new ≤ old + 6 * b
not_kept a b old clock mid new more so_far same stays = omega (arith, more, so_far, same, stays)

-- a round more, and a keep where it is due
pub calls_step : (made every old clock mid new : ℕ) → 0 < every → clock ≤ old + 6 * (made / every) → mid ≡ clock → new ≤ mid + 6
    → ((made + 1) % every ≢ 0 → new ≡ mid) → new ≤ old + 6 * ((made + 1) / every)
calls_step made every old clock mid new some so_far same six stays = elim (all_or_not ((made + 1) % every) 0) [
  | inl full ↦ kept_once (made / every) ((made + 1) / every) old clock mid new (next_part made every some full) so_far same six
  | inr other ↦ not_kept (made / every) ((made + 1) / every) old clock mid new (more_parts made (made + 1) every some (at_least made 1)) so_far same (stays other)
]

-- of all rounds of a run
pub calls_ended : (made n every old clock new : ℕ) → 0 < every → made ≤ n → clock ≤ old + 6 * (made / every) → new ≡ clock → new ≤ old + 6 * (n / every)
calls_ended made n every old clock new some few so_far same =
    not_kept (made / every) (n / every) old clock clock new (more_parts made n every some few) so_far refl same

-- and a keep at the end
pub calls_more : (q old new : ℕ) → new ≤ old + 6 * q → new ≤ old + 6 * (q + 1)
calls_more q old new few = omega (arith, few)

pub calls_end : (q old mid new : ℕ) → mid ≤ old + 6 * q → new ≤ mid + 6 → new ≤ old + 6 * (q + 1)
calls_end q old mid new few six = omega (arith, few, six)

pub six_more : (q old new : ℕ) → new ≤ old + 6 → new ≤ old + 6 * (q + 1)
six_more q old new six = omega (arith, six)

pub same_few : (old new : ℕ) → new ≡ old → new ≤ old + 6
same_few old new same = omega (arith, same)

pub then_six : (old mid new : ℕ) → mid ≡ old → new ≤ mid + 6 → new ≤ old + 6
then_six old mid new same six = omega (arith, same, six)

-- a run has as many rounds as were made, and maybe more
pub run_few : (t kept : List JobParts) (count made place : ℕ) (u w : List JobParts) → InRun t kept count made place u w → made ≤ length (turns count 0 t)
run_few t kept count made place u w r =
    let sum = ap length r.parted ∙ length-append r.events (turns (count - made) place u) in
    let counted = r.counted in
    omega (arith, sum, counted)

-- ---- books

module _ {D : Type 0} {ghosts : Ghosts D} where
  pub clock_same : (old new : Book D ghosts) → keeper_of new ≡ keeper_of old → ghosts.clock (disk_of new) ≡ ghosts.clock (disk_of old)
  clock_same old new same = ap (λ (k : Keeper D ghosts). ghosts.clock (keeper_parts.disk_of k)) same

  pub clock_stays : (old new : Book D ghosts) → new ≡ old → ghosts.clock (disk_of new) ≡ ghosts.clock (disk_of old)
  clock_stays old new same = ap (λ (b : Book D ghosts). ghosts.clock (disk_of b)) same
