-- Numbers as bytes, the highest byte first (this project's choice).
use Rattle.std.specs.Prelude.{ℕ, List}
use Rattle.std.specs.Int.{w16, w64, to_be_bytes}

-- a number below 2^16 in two bytes
unfoldable pub two_bytes : ℕ → List ℕ
two_bytes n = to_be_bytes w16 n

-- a number below 2^64 in eight bytes
unfoldable pub eight_bytes : ℕ → List ℕ
eight_bytes n = to_be_bytes w64 n
