-- Before which output the line is wiped.
use Rattle.ic_progress.specs.declared.progress.WipedFirst.{WipedFirst}

-- the output that bytes go to
abbrev pub output_of : {W : Type 0} → WipedFirst W → W
output_of wiped = wiped.output
