use Rattle.std.proofs.Common.{◌≡◌, ◌≤◌, take, length}
use Rattle.ic_attend.specs.Parts.{part}
use Rattle.ic_attend.proofs.comparing.is_part.Given as goal

-- so many answers are the part of the entries so far
abbrev pub invariant-loop-entry : goal.invariant-loop-entry
invariant-loop-entry l =
    (l.given ≤ length l.answers) × (take l.given l.answers ≡ part l.who (take l.entry-index l.entries))
