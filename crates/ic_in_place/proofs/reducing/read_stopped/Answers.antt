use Rattle.std.proofs.Common.{ap, ◌∙◌}
use Rattle.ic_naming.specs.Naming.{renumbered_words}
use Rattle.ic_in_place.proofs.Written.{numbered_so}
use Rattle.ic_in_place.proofs.reducing.read_stopped.Goals as goal

pub returns-clause-read : goal.returns-clause-read
returns-clause-read c = λ bounds come.
    let read = c.in_ok-reached.ensures.read bounds come in
    let words = c.in_ok-renumbered_words.ensures in (
      read.0,
      read.1,
      read.2,
      read.3,
      numbered_so c.args.system.rules.symbols _ _ _ _ read.0 words read.4,
      read.5,
    )
