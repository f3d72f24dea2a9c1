-- What is so where an attendance is torn.
use Rattle.std.proofs.Common.{◌≡◌, ◌≢◌, ◌⊎◌, inl, inr, ℕ, List, [], ◌∷◌, length}
use Rattle.std.specs.List.{All, AllZip}
use Rattle.ic_disk.specs.declared.disk.Disk.{Ghosts}
use Rattle.ic_jobs.specs.declared.command.Command.{Command}
use Rattle.ic_jobs.specs.Job.{JobParts}
use Rattle.ic_book.specs.Book.{start_of}
use Rattle.ic_attend.specs.declared.attended.Attended.{Attended}
use Rattle.ic_attend.specs.declared.attended.ClientRun.{ClientRun}
use Rattle.ic_attend.specs.Clients.{Follows, KeepsTo}
use Rattle.ic_attend.specs.Ends.{EndMayBe}
use Rattle.ic_attend.specs.Faults.{AreFollowed, BeganOtherwise, Differs}

-- clients that keep to their scripts follow them
all_follow : (scripts : List (List Command)) (runs : List ClientRun) → AllZip KeepsTo scripts runs → AllZip Follows scripts runs
all_follow [] [] all = tt
all_follow (s ∷ ss) (r ∷ rs) all = (all.0.follows, all_follow ss rs all.1)
all_follow _ _ all = absurd all

-- however it is torn, scripts were followed
pub torn_follows : {D : Type 0} {ghosts : Ghosts D} (opening : List JobParts) (scripts : List (List Command)) (runners turns workers : ℕ) (a : Attended D ghosts)
    → BeganOtherwise opening scripts runners turns workers a ⊎ Differs opening scripts runners turns workers a → AreFollowed scripts runners turns workers a
torn_follows opening scripts runners turns workers a (inl is) = is.followed
torn_follows opening scripts runners turns workers a (inr is) =
    record { followed = all_follow scripts a.answers.items is.scripts_kept; counted = is.counted; may_be = is.may_be }

-- it differs, where the book began as it had to
pub torn_differs : {D : Type 0} {ghosts : Ghosts D} (opening : List JobParts) (scripts : List (List Command)) (runners turns workers : ℕ) (a : Attended D ghosts)
    → BeganOtherwise opening scripts runners turns workers a ⊎ Differs opening scripts runners turns workers a → start_of a.book ≡ opening
    → Differs opening scripts runners turns workers a
torn_differs opening scripts runners turns workers a (inl is) same = absurd (is.other same)
torn_differs opening scripts runners turns workers a (inr is) same = is
