use Rattle.std.proofs.Common.{◌∙◌, ap, ap₂, sym}
use Rattle.clap.specs.Words.{App, with_subcommand}
use Rattle.ic_args.specs.Words.{program, with_entry}
use Rattle.ic_args.proofs.Making.{one_more}
use Rattle.ic_args.proofs.parser.command.Goals as goal

pub loop-entry-preserved : goal.loop-entry-preserved
loop-entry-preserved c =
    let made = c.in_ok-command_of.ensures in
    c.in_ok-program-2.ensures.shape made.1 ∙ ap₂ with_subcommand c.loop-entry.invariant (ap (λ (a : App). a.top) made.0)
    ∙ sym (one_more with_entry program c.args.table.now c.loop-entry.entry-index _ c.loop-entry-test.true)
