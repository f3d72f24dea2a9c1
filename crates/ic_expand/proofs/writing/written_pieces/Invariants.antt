use Rattle.std.proofs.Common.{◌≡◌, ◌-◌, ◌≤◌, length}
use Rattle.ic_expand.specs.Pieces.{pieces}
use Rattle.ic_expand.specs.Expanding.{before_text, written, written_pieces}
use Rattle.ic_expand.specs.inner.Sheets.{sheet_in}
use Rattle.ic_expand.proofs.writing.written_pieces.Given as goal

-- what is written so far, before what the rest is written as, is what all is
abbrev pub invariant-loop-rest : goal.invariant-loop-rest
invariant-loop-rest l = record {
  shorter : length l.rest ≤ length l.text;
  all : before_text l.out.items (written (sheet_in l.sheet) l.earlier l.spot (length l.text - length l.rest) (pieces l.rest)) ≡ written_pieces (pieces l.text);
}

abbrev pub decreases-loop-rest : goal.decreases-loop-rest
decreases-loop-rest l = length l.rest
