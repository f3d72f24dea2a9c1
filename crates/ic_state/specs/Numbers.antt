-- Numbers as bytes, the highest byte first (this project's choice).
use Rattle.std.specs.Prelude.{ℕ, List}
use Rattle.std.specs.Int.{w32, w64, to_be_bytes}

-- a number below 2^64 in eight bytes
unfoldable pub eight_bytes : ℕ → List ℕ
eight_bytes n = to_be_bytes w64 n

-- a number below 2^32 in four bytes
unfoldable pub four_bytes : ℕ → List ℕ
four_bytes n = to_be_bytes w32 n
