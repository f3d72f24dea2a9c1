use Rattle.ic_lines.proofs.laws.memory_runs_out_at_a_line.Goals as goal

pub returns : goal.returns
returns c = λ text number is. (is.before, is.line, is.after, is.readings, is.parted, is.counted, is.read, is.unrefused, is.wants)
