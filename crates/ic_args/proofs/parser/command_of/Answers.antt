use Rattle.std.proofs.Common.{◌∙◌, Bool, ◌||◌, ap₂, sym}
use Rattle.clap.specs.Words.{new_app, with_rule}
use Rattle.ic_args.specs.Words.{rule_for}
use Rattle.ic_args.proofs.Making.{one_made}
use Rattle.ic_args.proofs.parser.command_of.Goals as goal

pub loop-argument-preserved : goal.loop-argument-preserved
loop-argument-preserved c =
    let made = c.loop-argument.invariant in
    let arg = c.in_ok-arg_of.ensures in
    let adds = c.in_ok-command.ensures in
    let app = adds.shape arg.1 ∙ ap₂ with_rule made.0 arg.0 in (
      app ∙ sym (one_made with_rule (new_app c.args.entry.name.now) rule_for c.args.entry.arguments.now c.loop-argument.argument-index _ c.loop-argument-test.true),
      adds.globals ∙ ap₂ (λ (a b : Bool). a || b) made.1 arg.1,
    )
