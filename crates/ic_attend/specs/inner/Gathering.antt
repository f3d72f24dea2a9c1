-- For private functions: what the threads hand over, gathered.
use Rattle.std.specs.Prelude.{◌≡◌, ℕ, ◌≤◌, List, [], Result, Ok, Err, IsTrue, length, vec_len, vec_capacity}
use Rattle.std.specs.List.{All, AllZip}
use Rattle.ic_jobs.specs.declared.command.Command.{Command}
use Rattle.ic_disk.specs.declared.disk.Disk.{Ghosts}
use Rattle.ic_attend.specs.declared.attended.Attended.{Attended}
use Rattle.ic_attend.specs.declared.fault.AttendFault.{AttendFault}
use Rattle.ic_attend.specs.declared.fault.AttendFault.TheVariants.{Open, NoThread, Memory, Torn}
use Rattle.ic_attend.specs.declared.gathered.Gathered.{Gathered}
use Rattle.ic_attend.specs.Clients.{Follows, KeepsTo}
use Rattle.ic_attend.specs.Ends.{EndMayBe}

-- nothing yet, and room for so many clients and runners
pub record IsReady (clients runners : ℕ) (g : Gathered) : Type 0 where
  pub no_answers : g.answers.items ≡ []
  pub answers_len : vec_len g.answers ≡ 0
  pub answers_room : clients ≤ vec_capacity g.answers
  pub no_ends : g.ends.items ≡ []
  pub ends_len : vec_len g.ends ≡ 0
  pub ends_room : runners ≤ vec_capacity g.ends

-- The ends of so many runners, each of which a runner may have, and the run of each script's client.
-- It is finished, or has an end, where no thread was refused or stopped.
pub record HasGathered (scripts : List (List Command)) (runners turns workers : ℕ)
    (g : Gathered) : Type 0 where
  pub ends : length g.ends.items ≡ runners
  pub may_be : All (EndMayBe turns workers) g.ends.items
  pub ends_len : vec_len g.ends ≡ runners
  pub answers_len : vec_len g.answers ≡ length scripts
  pub followed : AllZip Follows scripts g.answers.items
  pub runs : IsTrue g.complete → AllZip KeepsTo scripts g.answers.items

-- threads were to be started
abbrev pub IsBegun : {D : Type 0} {ghosts : Ghosts D}
    → Result (Attended D ghosts) (AttendFault D ghosts) → Type 0
IsBegun (Ok a) = Unit {0}
IsBegun (Err (Open fault)) = ⊥
IsBegun (Err (NoThread a)) = Unit {0}
IsBegun (Err (Memory book)) = ⊥
IsBegun (Err (Torn a)) = Unit {0}
