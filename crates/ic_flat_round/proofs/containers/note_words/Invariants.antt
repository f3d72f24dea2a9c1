use Rattle.std.proofs.Common.{◌≡◌, ℕ, drop}
use Rattle.std.specs.List.{flat_map}
use Rattle.ic_settle.specs.lemmas.Containers.{noted_in}
use Rattle.ic_flat.specs.Words.{word_names}
use Rattle.ic_flat_round.specs.inner.Places.{found}
use Rattle.ic_flat_round.proofs.containers.note_words.Given as goal

-- what is noted so far, with what is left, is what the whole gives
abbrev pub invariant-loop-word : goal.invariant-loop-word
invariant-loop-word l = (y : ℕ)
    → noted_in y l.place (flat_map word_names (drop l.word-index l.words)) (found l.places y)
    ≡ noted_in y l.place (flat_map word_names l.words) (found l.fn.places y)
