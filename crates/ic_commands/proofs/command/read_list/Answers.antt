use Rattle.std.proofs.Common.{refl, sym, ◌∙◌}
use Rattle.ic_commands.specs.declared.line.Opening.TheVariants as opening
use Rattle.ic_commands.specs.LineSource.{list}
use Rattle.ic_commands.proofs.LineReading.{is_sense_after}
use Rattle.ic_commands.proofs.LineParts.{nothing_is}
use Rattle.ic_commands.proofs.command.read_list.Goals as goal

pub returns-then-is_nothing-clause-line : goal.returns-then-is_nothing-clause-line
returns-then-is_nothing-clause-line c = is_sense_after opening.List c.args.rest.now _ list tt tt (nothing_is _ (sym c.is_nothing.ensures ∙ c.if-is_nothing.true)) refl
