-- For private functions: what a client's thread hands over.
use Rattle.std.specs.Prelude.{◌≡◌, List, None, false}
use Rattle.ic_jobs.specs.declared.command.Command.{Command}
use Rattle.ic_attend.specs.declared.client.Speech.{Speech}
use Rattle.ic_attend.specs.Clients.{asked, Follows}

-- A client follows its script, and finishes it where it ended well and wasn't told to stop.
pub record Speaks (script : List Command) (speech : Speech) : Type 0 where
  pub follows : Follows script speech.run
  pub finished : speech.stopped ≡ false → speech.run.end ≡ None → asked speech.run ≡ script
