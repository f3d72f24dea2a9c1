use Rattle.std.proofs.Common.{◌≡◌, ◌-◌, ◌^◌, ◌<◌, min, max, drop}
use Rattle.std.specs.List.{flat_map}
use Rattle.ic_term.specs.Configuration.{one_above}
use Rattle.ic_flat.specs.Words.{word_names}
use Rattle.ic_flat.proofs.testing.one_above.Given as goal

-- one above the greatest so far, and one above the greatest of what is left
abbrev pub invariant-loop-word : goal.invariant-loop-word
invariant-loop-word l =
    (min (max l.next (one_above (flat_map word_names (drop l.word-index l.words)))) (2 ^ 64 - 1) ≡ min (one_above (flat_map word_names l.words)) (2 ^ 64 - 1)) × (l.next < 2 ^ 64)
