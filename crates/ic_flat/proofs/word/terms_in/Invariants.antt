use Rattle.std.proofs.Common.{◌≡◌, ◌+◌, ◌≤◌, length, drop}
use Rattle.ic_flat.specs.Words.{forest, IsWhole}
use Rattle.ic_flat.proofs.word.terms_in.Given as goal

-- the words that follow are whole, and write so many terms
abbrev pub invariant-loop-i : goal.invariant-loop-i
invariant-loop-i l =
    IsWhole (drop l.i l.words) × (l.terms ≡ length (forest (drop l.i l.words))) × (l.terms + l.i ≤ length l.words)
