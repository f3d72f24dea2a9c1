use Rattle.std.proofs.Common.{◌≡◌, take}
use Rattle.ic_readback.specs.inner.Reading.{HasRead}
use Rattle.ic_readback.proofs.reader.Reader.expand_each.Given as goal

abbrev pub invariant-loop-word : goal.invariant-loop-word
invariant-loop-word l = record {
  read : HasRead (take l.word-index l.words) l.initial.self l.self;
  equations : l.self.equations ≡ l.initial.self.equations;
}
