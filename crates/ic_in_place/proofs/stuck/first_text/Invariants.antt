use Rattle.std.proofs.Common.{◌≡◌, ◌+◌, ◌*◌, length, drop}
use Rattle.ic_flat.specs.Words.{forest}
use Rattle.ic_flat.specs.Flat.{pairs_of}
use Rattle.ic_in_place.specs.inner.Told.{first_told}
use Rattle.ic_in_place.proofs.stuck.first_text.Given as goal

-- the first of all is the first of those left
abbrev pub invariant-loop-equation : goal.invariant-loop-equation
invariant-loop-equation l = record {
  first : first_told l.symbols (pairs_of (forest (drop l.left l.words))) ≡ first_told l.symbols (pairs_of (forest (drop l.place l.words)));
  counted : length (forest (drop l.left l.words)) + 2 * l.equation ≡ 2 * l.count;
}
