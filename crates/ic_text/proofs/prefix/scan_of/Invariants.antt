use Rattle.std.proofs.Common.{◌<◌, ◌^◌, length}
use Rattle.ic_text.specs.inner.Prefix.{scanned}
use Rattle.ic_text.proofs.ScanningText.{IsScanned}
use Rattle.ic_text.proofs.prefix.scan_of.Given as goal

-- the tokens from `end` on are scanned, and bytes of one word stand before them
abbrev pub invariant-loop-place : goal.invariant-loop-place
invariant-loop-place l = record {
  fits : length l.text < 2 ^ 64;
  so_far : IsScanned l.text l.place l.end (scanned l.text l.scan);
}

abbrev pub decreases-loop-place : goal.decreases-loop-place
decreases-loop-place l = l.place
