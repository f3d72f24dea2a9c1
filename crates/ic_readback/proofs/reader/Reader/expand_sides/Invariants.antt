use Rattle.std.proofs.Common.{◌≡◌, ◌+◌, take}
use Rattle.ic_readback.specs.Reading.{sides_of}
use Rattle.ic_readback.specs.inner.Reading.{HasRead}
use Rattle.ic_readback.proofs.reader.Reader.expand_sides.Given as goal

abbrev pub invariant-loop-equation : goal.invariant-loop-equation
invariant-loop-equation l = record {
  read : HasRead (sides_of (take l.equation-index l.equations)) l.initial.self l.self;
  equations : l.self.equations ≡ l.initial.self.equations + l.equation-index;
}
