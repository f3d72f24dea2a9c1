use Rattle.std.proofs.Common.{◌≡◌, map, take, length, vec_len, vec_capacity}
use Rattle.ic_arena.specs.Tables.{register}
use Rattle.ic_machine.proofs.machine.words_at.Given as goal

abbrev pub invariant-loop-place : goal.invariant-loop-place
invariant-loop-place l = record {
  read : l.words.items ≡ map (register l.registers) (take l.place-index l.places);
  len : vec_len l.words ≡ l.place-index;
  capacity : vec_capacity l.words ≡ length l.places;
}
