-- What standing among others comes to, and which names have a job.
use Rattle.std.proofs.Common.{◌≡◌, ◌↔◌, inl, inr, ℕ, List, [], ◌∷◌, ◌++◌, Option, None, Some, refl, sym, ap, subst}
use Rattle.ic_round.specs.Rounds.{iterate}
use Rattle.ic_jobs.specs.declared.event.Entry.{Entry}
use Rattle.ic_jobs.specs.Job.{JobParts}
use Rattle.ic_jobs.specs.Life.{Life, life, HasLived, IsAsLived}
use Rattle.ic_jobs.specs.Table.{job_named}
use Rattle.ic_book.specs.Moves.{Move}
use Rattle.ic_book.specs.Server.{Runs, Server}
use Rattle.ic_disk.specs.declared.disk.Disk.{Ghosts}
use Rattle.ic_lives.specs.Headline.{AreIterates}
use Rattle.ic_lives.specs.Looks.{AreTold, Tells}
use Rattle.ic_lives.specs.Histories.{StandAmong}
use Rattle.ic_lives.specs.Past.{IsPast, Past}

pub among_at : (front back others : List Entry) (e : Entry) → StandAmong (front ++ e ∷ back) others
    → (before after : List Entry) × (others ≡ before ++ e ∷ after) × StandAmong front before × StandAmong back after
among_at [] back [] e is = absurd is
among_at (f ∷ front) back [] e is = absurd is
among_at [] back (o ∷ others) e (inl here) = ([], others, ap (λ (x : Entry). x ∷ others) (sym here.0), tt, here.1)
among_at [] back (o ∷ others) e (inr later) =
    let r = among_at [] back others e later in (o ∷ r.0, r.1, ap (λ (l : List Entry). o ∷ l) r.2, tt, r.4)
among_at (f ∷ front) back (o ∷ others) e (inl here) =
    let r = among_at front back others e here.1 in (o ∷ r.0, r.1, ap (λ (l : List Entry). o ∷ l) r.2, inl (here.0, r.3), r.4)
among_at (f ∷ front) back (o ∷ others) e (inr later) =
    let r = among_at (f ∷ front) back others e later in (o ∷ r.0, r.1, ap (λ (l : List Entry). o ∷ l) r.2, inr r.3, r.4)

lives_too : (job : Option JobParts) (lived : Option Life) → IsAsLived job lived → (job ≡ None) ↔ (lived ≡ None)
lives_too None None is = (λ e. refl, λ e. refl)
lives_too None (Some l) is = absurd is
lives_too (Some j) None is = absurd is
lives_too (Some j) (Some l) is = (λ e. cc, λ e. cc)

pub living : (history : List Entry) (table : List JobParts) (name : List ℕ) → AreIterates history table → (job_named name table ≡ None) ↔ (life name history ≡ None)
living history table name are = lives_too (job_named name table) (life name history) (are name)

lived_by : (job : Option JobParts) (lived : Option Life) (j : JobParts) → IsAsLived job lived → job ≡ Some j
    → (l : Life) × (lived ≡ Some l) × (j.rounds ≡ l.rounds) × (j.config ≡ iterate l.rules.rules l.rounds l.first)
lived_by None lived j is e = cc
lived_by (Some k) None j is e = absurd is
lived_by (Some k) (Some l) j is e =
    let P : JobParts → Type 0 = λ i. HasLived i l in
    let has = subst P (same_some e) is in (l, refl, has.rounds, has.config)
  where
    same_some : Some k ≡ Some j → k ≡ j
    same_some e = cc

pub iterate_of : (history : List Entry) (table : List JobParts) (name : List ℕ) (j : JobParts) → AreIterates history table → job_named name table ≡ Some j
    → (l : Life) × (life name history ≡ Some l) × (j.rounds ≡ l.rounds) × (j.config ≡ iterate l.rules.rules l.rounds l.first)
iterate_of history table name j are is = lived_by (job_named name table) (life name history) j (are name) is

pub told_past : {D : Type 0} {ghosts : Ghosts D} (moves : List Move) (first last : Server ghosts) (run : Runs moves first last) (past : Past) → AreTold moves first last run past
    → IsPast moves past × Tells past last
told_past [] first last run past is = (is.0, is.1)
told_past (move ∷ moves) first last run past is = ((is.0, (told_past moves first run.0 run.1 is.0 is.1).0, is.2), is.3)
