use Rattle.std.proofs.Common.{take}
use Rattle.std.specs.Prelude.{map, string_bytes}
use Rattle.ic_check.specs.Files.{Grows, LooksOver}
use Rattle.ic_check.proofs.files.check_files.Given as goal

-- the files so far are looked over
abbrev pub invariant-loop-path : goal.invariant-loop-path
invariant-loop-path g l = record {
  looked : LooksOver (g.S.Source.gives l.source) (map string_bytes (take l.path-index l.paths)) l.worst;
  grows : Grows (g.W.Write.contents l.fn.writer) (g.W.Write.contents l.writer);
}
