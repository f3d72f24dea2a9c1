use Rattle.std.proofs.Common.{fold, map, take}
use Rattle.clap.specs.Words.{new_app, with_rule}
use Rattle.ic_args.specs.Words.{rule_for}
use Rattle.ic_args.specs.inner.Making.{IsMade}
use Rattle.ic_args.proofs.parser.command_of.Given as goal

abbrev pub invariant-loop-argument : goal.invariant-loop-argument
invariant-loop-argument l = IsMade (fold with_rule (new_app l.fn.entry.name.now) (map rule_for (take l.argument-index l.argument-items))) l.command
