-- What a crash in the midst of a call leaves, where calls follow one another.
use Rattle.std.proofs.Common.{◌≡◌, ℕ, List, refl, sym, subst, ⊎_elim, ◌∙◌}
use Rattle.std.specs.Prelude.{IsTrue}
use Rattle.ic_disk.specs.declared.disk.Disk.{Ghosts}
use Rattle.ic_disk.specs.Images.{Within}
use Rattle.ic_disk.specs.Time.{LeftSince}
use Rattle.ic_disk.specs.lemmas.Moments.{started, then_runs, leaves_weaker}
use Rattle.ic_jobs.specs.Job.{JobParts}
use Rattle.ic_jobs.specs.History.{replay}
use Rattle.ic_frames.specs.Fields.{IsMade}
use Rattle.ic_slots.specs.Held.{HoldsTable}
use Rattle.ic_book.specs.declared.book.Book.{Book}
use Rattle.ic_book.specs.Book.{start_of, log_of, table_of, kept_of, disk_of}
use Rattle.ic_book.specs.Left.{HoldsKeptOrAll}
use Rattle.ic_book.specs.ByCalls.{IsByCalls}
use Rattle.ic_book.specs.lemmas.Chains.{by_calls_then}
use Rattle.ic_serving.specs.Booked.{last_kept}
use Rattle.ic_serving.specs.Moments.{Leaves}
use Rattle.ic_serving.specs.Stopped.{HoldsOne}

module _ {D : Type 0} {ghosts : Ghosts D} where
  -- fewer tables are more
  pub leaves_more : (old new : Book D ghosts) (P Q : List JobParts → Type 0) → Leaves old new P → ((u : List JobParts) → P u → Q u) → Leaves old new Q
  leaves_more old new P Q run weaker = record {
    keeps = run.keeps;
    stays = run.stays;
    any_moment = λ is. leaves_weaker ghosts.clock ghosts.left (disk_of old) (disk_of new) (HoldsOne P) (HoldsOne Q) (run.any_moment is)
        (λ file holds. (holds.0, weaker holds.0 holds.1, holds.2));
    done = run.done;
  }

  -- one call after another
  pub leaves_then : (old mid new : Book D ghosts) (P Q : List JobParts → Type 0) → Leaves old mid P → Leaves mid new Q
      → ((u : List JobParts) → Q u → P u) → Leaves old new P
  leaves_then old mid new P Q first second weaker = record {
    keeps = second.keeps ∙ first.keeps;
    stays = λ is. second.stays (first.stays is);
    any_moment = λ is. then_runs ghosts.clock ghosts.left (disk_of old) (disk_of mid) (disk_of new) (HoldsOne P) (HoldsOne Q)
        (first.any_moment is) (second.any_moment (first.stays is))
        (λ file holds. (holds.0, weaker holds.0 holds.1, holds.2));
    done = by_calls_then old mid new first.done second.done;
  }

  -- no call at all
  pub leaves_nothing : (book : Book D ghosts) (P : List JobParts → Type 0)
      → ((file : List ℕ) → LeftSince (ghosts.left (disk_of book)) (ghosts.clock (disk_of book)) file → ghosts.image (disk_of book) file)
      → (IsTrue (ghosts.keeps (disk_of book)) → Within (ghosts.image (disk_of book)) IsMade → Within (ghosts.image (disk_of book)) (HoldsKeptOrAll (start_of book) (log_of book) (kept_of book)))
      → replay (start_of book) (log_of book) ≡ table_of book → IsByCalls book book → P (last_kept book) → P (table_of book) → Leaves book book P
  leaves_nothing book P law either replayed done kept now =
      let all : P (replay (start_of book) (log_of book)) = subst P (sym replayed) now in
      record {
        keeps = refl;
        stays = λ is. is;
        any_moment = λ is. started ghosts.clock ghosts.left (disk_of book) (HoldsOne P) (λ file left. ⊎_elim
            (λ (h : HoldsTable (last_kept book) file). (last_kept book, kept, h))
            (λ (h : HoldsTable (replay (start_of book) (log_of book)) file). (replay (start_of book) (log_of book), all, h))
            (either is.0 is.1 file (law file left)));
        done = done;
      }
