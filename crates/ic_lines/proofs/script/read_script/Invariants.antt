use Rattle.ic_lines.proofs.ScriptLemmas.{IsAt}
use Rattle.ic_lines.proofs.script.read_script.Given as goal

-- the lines in front of the place were taken, and the next one is begun
abbrev pub invariant-loop-place : goal.invariant-loop-place
invariant-loop-place l = record { at : IsAt l.text l.start l.place l.number l.commands.items }
