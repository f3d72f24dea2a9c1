use Rattle.std.proofs.Common.{◌≡◌, length}
use Rattle.std.specs.List.{fold}
use Rattle.ic_expand.specs.Pieces.{pieces}
use Rattle.ic_expand.specs.Names.{names, names_of, with_word}
use Rattle.ic_expand.proofs.names.names_of.Given as goal

-- with what is left the names so far become those of all
abbrev pub invariant-loop-rest : goal.invariant-loop-rest
invariant-loop-rest l = fold with_word l.names (names l.spelling l.spot (pieces l.rest)) ≡ names_of l.spelling (pieces l.text)

abbrev pub decreases-loop-rest : goal.decreases-loop-rest
decreases-loop-rest l = length l.rest
