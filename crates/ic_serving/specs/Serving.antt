-- What a serving of lines over a book leaves.
use Rattle.std.specs.Prelude.{◌≡◌, ◌≢◌, ℕ, List, [], ◌++◌, Option, Result, Err, IfErr, OnOk}
use Rattle.ic_disk.specs.declared.disk.Disk.{Ghosts}
use Rattle.ic_book.specs.declared.book.Book.{Book}
use Rattle.ic_book.specs.Book.{table_of}
use Rattle.ic_serving.specs.declared.fault.ServeFault.{ServeFault}
use Rattle.ic_serving.specs.declared.fault.ServeFault.TheVariants.{Write}
use Rattle.ic_serving.specs.Booked.{last_kept, IsAllKept}
use Rattle.ic_serving.specs.Served.{AreAnswered, IsEnded, IsCut}
use Rattle.ic_serving.specs.Stopped.{MayStand}
use Rattle.ic_serving.specs.Moments.{Leaves}
use Rattle.ic_serving.specs.InTurn.{AreServedInTurn}

-- These lines are served over a book, from what was written before to what is written after. A front
-- of them was answered in turn, in groups of at most so many, each by calls of the book of its own: at
-- Ok all of them. A fault ends the serving after this front, and one of the writer cuts the answers to
-- its last group.
--
-- Where all was kept, all is kept after each answer. A crash at any moment leaves a table that the
-- lines reach, or where not all was kept before, the one that was.
pub record IsServing {T : Type 0} {D : Type 0} {ghosts : Ghosts D} (limit most : ℕ)
    (result : Result T ServeFault) (ls : List (List ℕ)) (old new : Book D ghosts) (before after : Option (List ℕ)) : Type 0 where
  pub front : List (List ℕ)
  pub rest : List (List ℕ)
  pub parted : ls ≡ front ++ rest
  pub all : OnOk result (rest ≡ [])
  pub turns : AreServedInTurn limit most front old new
  pub served : OnOk result (AreAnswered ls (table_of old) (table_of new) before after)
  pub kept : OnOk result (IsAllKept old → IsAllKept new)
  pub ended : IfErr result (λ fault. fault ≢ Write → IsEnded fault most (IsAllKept old) front rest
      (table_of old) (table_of new) (last_kept new) before after)
  pub cut : result ≡ Err Write → IsCut most front (table_of old) (table_of new) before after
  pub kept_at_cut : result ≡ Err Write → IsAllKept old → IsAllKept new
  pub crash : Leaves old new
      (MayStand (IsAllKept old) (last_kept old) (table_of old) ls)
