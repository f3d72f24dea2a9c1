-- What the disk in memory makes of its writes one after another. Inner: private functions cite it.
use Rattle.std.specs.Prelude.{ℕ, ◌+◌, ◌-◌, ◌≤◌, List, [], ◌∷◌, length, replicate}
use Rattle.ic_disk.specs.Content.{laid}
use Rattle.ic_disk.specs.Model.{Write, Call, write, sync}

-- the writes among these calls
abbrev pub writes_of : List Call → List Write
writes_of [] = []
writes_of (write w ∷ calls) = w ∷ writes_of calls
writes_of (sync ∷ calls) = writes_of calls

-- the file with these writes laid over it
abbrev pub laid_all : List Write → List ℕ → List ℕ
laid_all [] file = file
laid_all (w ∷ ws) file = laid_all ws (laid w.at w.bytes file)

-- the file with this byte in the range of each write
abbrev pub filled_all : ℕ → List Write → List ℕ → List ℕ
filled_all byte [] file = file
filled_all byte (w ∷ ws) file =
    filled_all byte ws (laid w.at (replicate (length w.bytes) byte) file)

-- the file with this byte in each place from n on
abbrev pub filled_past : ℕ → ℕ → List ℕ → List ℕ
filled_past byte n file = laid n (replicate (length file - n) byte) file

-- each write ends within this length
abbrev pub EndWithin : ℕ → List Write → Type 0
EndWithin n [] = Unit {0}
EndWithin n (w ∷ ws) = (w.at + length w.bytes ≤ n) × EndWithin n ws
