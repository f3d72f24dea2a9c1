use Rattle.std.proofs.Common.{◌≡◌, ◌+◌, ◌<◌, ◌++◌, drop, length, vec_capacity, vec_len}
use Rattle.ic_text.proofs.flat_print.put_symbol.Given as goal

-- What is written and what is left are the whole. There is memory for what is left, and for a byte more.
abbrev pub invariant-loop-byte : goal.invariant-loop-byte
invariant-loop-byte l = record {
  whole : l.out.items ++ drop l.byte-index l.text ≡ l.fn.out.items ++ l.text;
  room : vec_len l.out + length (drop l.byte-index l.text) < vec_capacity l.out;
}
