-- What the disk in memory leaves at this moment.
use Rattle.std.proofs.Common.{ℕ, List, subst, arith}
use Rattle.ic_disk.specs.History.{History, IsLeftAt, clock_of, image_of}
use Rattle.ic_disk.specs.lemmas.HistoryLaws.{image_left}

pub image_now : (h : History) (file : List ℕ) → image_of h file → IsLeftAt h (clock_of h) file
image_now h file image =
    let there = image_left h (clock_of h) file (omega arith) image in
    subst (λ (k : ℕ). IsLeftAt h k file) (omega (arith, there.1, there.2.0)) there.2
