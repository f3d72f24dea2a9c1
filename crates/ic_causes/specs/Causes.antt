-- What a line shows of a path (this project's choice).
use Rattle.std.specs.Prelude.{ℕ, Bool, List, ◌&&◌, nat_le, nat_lt, if◌then◌else◌, map}

-- a printable byte of ASCII
abbrev pub is_printable : ℕ → Bool
is_printable byte = nat_le 32 byte && nat_lt byte 127

-- a byte as a line shows it: a question mark stands for one that isn't printable, so that none moves
-- a terminal
abbrev pub shown_byte : ℕ → ℕ
shown_byte byte = if is_printable byte then byte else 63

abbrev pub shown_path : List ℕ → List ℕ
shown_path path = map shown_byte path
