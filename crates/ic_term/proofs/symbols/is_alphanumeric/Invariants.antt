use Rattle.std.proofs.Common.{◌≡◌, drop}
use Rattle.std.specs.List.{list_all}
use Rattle.std.specs.Char.{is_ascii_alphanumeric}
use Rattle.ic_term.proofs.symbols.is_alphanumeric.Given as goal

-- the answer is that of the bytes left
abbrev pub invariant-loop-byte : goal.invariant-loop-byte
invariant-loop-byte l = list_all is_ascii_alphanumeric (drop l.byte-index l.text) ≡ list_all is_ascii_alphanumeric l.text
