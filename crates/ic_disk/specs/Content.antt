-- What reads give of a disk, as a list of bytes, and what a write makes of it.
-- This project's choice.
use Rattle.std.specs.Prelude.{ℕ, ◌+◌, ◌-◌, List, ◌++◌, length, take, drop, replicate}

-- the file with zeros after it, up to this place
abbrev pub filled_to : ℕ → List ℕ → List ℕ
filled_to at file = file ++ replicate (at - length file) 0

-- the file, filled up to this place, with these bytes laid over it there
unfoldable pub laid : ℕ → List ℕ → List ℕ → List ℕ
laid at bytes file = take at (filled_to at file) ++ bytes ++ drop (at + length bytes) file

-- n bytes of the file from this place on
abbrev pub bytes_at : ℕ → ℕ → List ℕ → List ℕ
bytes_at at n file = take n (drop at file)
