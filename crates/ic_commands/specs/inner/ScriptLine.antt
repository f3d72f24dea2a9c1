-- For private functions: lines that are runs.
use Rattle.std.specs.Prelude.{Bool, true, false}
use Rattle.ic_commands.specs.LineSource.{LinePhrase, nothing, submit, copy, about, list, run}

abbrev pub is_run : LinePhrase → Bool
is_run nothing = false
is_run (submit name most s) = false
is_run (copy old new) = false
is_run (about verb name) = false
is_run list = false
is_run (run digits) = true
