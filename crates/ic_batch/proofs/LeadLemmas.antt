-- What parts of a batch lead to, one after the other.
use Rattle.std.proofs.Common.{◌≡◌, ◌⊎◌, inl, inr, List, [], ◌∷◌, ◌++◌, sym, ap, subst, ◌∙◌}
use Rattle.ic_disk.specs.declared.disk.Disk.{Ghosts}
use Rattle.ic_jobs.specs.declared.event.Event.{Event}
use Rattle.ic_jobs.specs.Job.{JobParts}
use Rattle.ic_jobs.specs.History.{table_after}
use Rattle.ic_lines.specs.Turns.{after_events}
use Rattle.ic_book.specs.declared.book.Book.{Book}
use Rattle.ic_book.specs.Book.{table_of}
use Rattle.ic_serving.specs.Booked.{last_kept, Begins}
use Rattle.ic_serving.specs.Moments.{Leaves, IsKeptOrNow}
use Rattle.ic_serving.specs.Parts.{IsPart, IsKeptWithin}
use Rattle.ic_serving.specs.lemmas.Leaving.{leaves_more, leaves_then}
use Rattle.ic_batch.specs.Way.{IsKeptOr}
use Rattle.ic_batch.specs.inner.Staying.{Leads}
use Rattle.ic_serving.specs.declared.limits.TheConstants.{PAGE_WEIGHT}

-- a table within one event
pub part_such : (such : List JobParts → Type 0) (t : List JobParts) (e : Event) (u : List JobParts) → such t → such (table_after t e) → IsPart t (e ∷ []) u → such u
part_such such t e u before after part = go part.front part.rest part.parted part.leaves
  where
    go : (front rest : List Event) → e ∷ [] ≡ front ++ rest → u ≡ after_events t front → such u
    go [] rest parted leaves = subst such (sym leaves) before
    go (x ∷ []) rest parted leaves = (let same : e ≡ x = cc in subst such (sym (leaves ∙ ap (table_after t) (sym same))) after)
    go (x ∷ y ∷ ys) rest parted leaves = cc

pub kept_weaker : (kept : List JobParts) (such other : List JobParts → Type 0) → ((u : List JobParts) → such u → other u) → (u : List JobParts) → IsKeptOr kept such u → IsKeptOr kept other u
kept_weaker kept such other weaker u (inl same) = inl same
kept_weaker kept such other weaker u (inr is) = inr (weaker u is)

module _ {D : Type 0} {ghosts : Ghosts D} where
  -- the table now, or the one that was kept last
  either_way : (such : List JobParts → Type 0) (old mid : Book D ghosts) → Leads such old mid → (u : List JobParts) → (u ≡ last_kept mid) ⊎ (u ≡ table_of mid)
      → IsKeptOr (last_kept old) such u
  either_way such old mid first u (inl same) = subst (IsKeptOr (last_kept old) such) (sym same) first.kept
  either_way such old mid first u (inr same) = inr (subst such (sym same) first.table)

  -- a table within one event
  within_way : (such : List JobParts → Type 0) (old mid : Book D ghosts) (e : Event) → Leads such old mid → such (table_after (table_of mid) e) → (u : List JobParts)
      → IsKeptWithin (table_of mid) (last_kept mid) (e ∷ []) u → IsKeptOr (last_kept old) such u
  within_way such old mid e first after u (inl same) = subst (IsKeptOr (last_kept old) such) (sym same) first.kept
  within_way such old mid e first after u (inr part) = inr (part_such such (table_of mid) e u first.table after part)

  -- a call that makes one table of another, of which none or the old one is kept
  pub leads_on : (such : List JobParts → Type 0) (old mid new : Book D ghosts) → Leads such old mid → such (table_of new)
      → (last_kept new ≡ last_kept mid) ⊎ (last_kept new ≡ table_of mid) → Leaves mid new (IsKeptOrNow mid) → Leads such old new
  leads_on such old mid new first on kept crash = record {
    table = on;
    kept = either_way such old mid first (last_kept new) kept;
    crash = leaves_then old mid new (IsKeptOr (last_kept old) such) (IsKeptOrNow mid) first.crash crash (either_way such old mid first);
  }

  -- a command that was begun, or done
  pub leads_begun : (such : List JobParts → Type 0) (old mid new : Book D ghosts) (e : Event) → Leads such old mid → such (table_after (table_of mid) e)
      → Begins PAGE_WEIGHT (e ∷ []) mid new → Leaves mid new (IsKeptWithin (table_of mid) (last_kept mid) (e ∷ [])) → Leads such old new
  leads_begun such old mid new e first after begins crash = record {
    table = part_such such (table_of mid) e (table_of new) first.table after begins.table;
    kept = within_way such old mid e first after (last_kept new) begins.kept;
    crash = leaves_then old mid new (IsKeptOr (last_kept old) such) (IsKeptWithin (table_of mid) (last_kept mid) (e ∷ [])) first.crash crash
        (within_way such old mid e first after);
  }

  pub leads_done : (such : List JobParts → Type 0) (old mid new : Book D ghosts) (e : Event) → Leads such old mid → such (table_after (table_of mid) e)
      → table_of new ≡ table_after (table_of mid) e → last_kept new ≡ table_of new → Leaves mid new (IsKeptWithin (table_of mid) (last_kept mid) (e ∷ [])) → Leads such old new
  leads_done such old mid new e first after table kept crash = record {
    table = subst such (sym table) after;
    kept = inr (subst such (sym (kept ∙ table)) after);
    crash = leaves_then old mid new (IsKeptOr (last_kept old) such) (IsKeptWithin (table_of mid) (last_kept mid) (e ∷ [])) first.crash crash
        (within_way such old mid e first after);
  }

  -- more tables
  pub leads_more : (such other : List JobParts → Type 0) (old new : Book D ghosts) → Leads such old new → ((u : List JobParts) → such u → other u) → Leads other old new
  leads_more such other old new first weaker = record {
    table = weaker (table_of new) first.table;
    kept = kept_weaker (last_kept old) such other weaker (last_kept new) first.kept;
    crash = leaves_more old new (IsKeptOr (last_kept old) such) (IsKeptOr (last_kept old) other) first.crash (kept_weaker (last_kept old) such other weaker);
  }

  -- one part after another
  pub leads_then : (such other : List JobParts → Type 0) (old mid new : Book D ghosts) → Leads such old mid → Leads other mid new
      → ((u : List JobParts) → other u → such u) → Leads such old new
  leads_then such other old mid new first second weaker =
      let either : (u : List JobParts) → IsKeptOr (last_kept mid) other u → IsKeptOr (last_kept old) such u = kept_then such other old mid first weaker in
      record {
        table = weaker (table_of new) second.table;
        kept = either (last_kept new) second.kept;
        crash = leaves_then old mid new (IsKeptOr (last_kept old) such) (IsKeptOr (last_kept mid) other) first.crash second.crash either;
      }
    where
      kept_then : (such other : List JobParts → Type 0) (old mid : Book D ghosts) → Leads such old mid → ((u : List JobParts) → other u → such u)
          → (u : List JobParts) → IsKeptOr (last_kept mid) other u → IsKeptOr (last_kept old) such u
      kept_then such other old mid first weaker u (inl same) = subst (IsKeptOr (last_kept old) such) (sym same) first.kept
      kept_then such other old mid first weaker u (inr is) = inr (weaker u is)
