use Rattle.std.proofs.Common.{refl}
use Rattle.ic_expand.proofs.laws.words_and_unknown_symbols_are_told_apart.Goals as goal

pub returns : goal.returns
returns c = record { word = refl; copier = refl; eraser = refl }
