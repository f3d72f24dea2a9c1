use Rattle.std.proofs.Common.{◌≡◌, map, take}
use Rattle.std.specs.List.{AllByRecursion}
use Rattle.ic_readback.specs.Reading.{flat_words}
use Rattle.ic_in_place.specs.inner.Numbering.{written_numbers, IsNumbered}
use Rattle.ic_in_place.proofs.writing.words_of.Given as goal

-- so many tokens are written
abbrev pub invariant-loop-token : goal.invariant-loop-token
invariant-loop-token l = record {
  words : l.words.items ≡ flat_words (written_numbers (map (λ s. s.arity) l.symbols) l.given) (take l.token-index l.tokens);
  numbered : AllByRecursion (IsNumbered l.given) (take l.token-index l.tokens);
}
