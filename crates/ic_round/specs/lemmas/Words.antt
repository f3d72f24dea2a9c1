use Rattle.std.proofs.Common.{ℕ}

-- the greatest number of 64 bits
abbrev pub u64_MAX : ℕ
u64_MAX = 18446744073709551615
