use Rattle.std.proofs.Common.{◌≡◌, ◌++◌, drop, map, take}
use Rattle.ic_naming.specs.inner.Numbering.{told_by}
use Rattle.ic_naming.specs.Naming.{renamed_word}
use Rattle.ic_naming.proofs.numbering.number_words.Given as goal

-- those so far are numbered
abbrev pub invariant-loop-place : goal.invariant-loop-place
invariant-loop-place l = l.words.items
    ≡ map (renamed_word (told_by l.numbering)) (take l.place l.initial.words.items) ++ drop l.place l.initial.words.items
