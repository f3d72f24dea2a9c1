use Rattle.std.proofs.Common.{◌≡◌, fold, take}
use Rattle.clap.specs.Words.{app_of}
use Rattle.ic_args.specs.Words.{program, with_entry}
use Rattle.ic_args.proofs.parser.command.Given as goal

abbrev pub invariant-loop-entry : goal.invariant-loop-entry
invariant-loop-entry l = app_of l.program ≡ fold with_entry program (take l.entry-index l.table)
