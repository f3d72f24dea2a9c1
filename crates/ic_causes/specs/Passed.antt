-- Which input and which output are noted.
use Rattle.ic_causes.specs.declared.input.NotedInput.{NotedInput}
use Rattle.ic_causes.specs.declared.output.NotedOutput.{NotedOutput}

-- the input whose reads are noted
abbrev pub input_of : {R : Type 0} → NotedInput R → R
input_of noted = noted.input

-- the output whose writes are noted
abbrev pub output_of : {W : Type 0} → NotedOutput W → W
output_of noted = noted.output
