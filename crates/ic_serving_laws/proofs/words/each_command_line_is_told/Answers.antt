use Rattle.std.proofs.Common.{refl}
use Rattle.ic_serving_laws.proofs.ToldLemmas.{command_told, other_told}
use Rattle.ic_serving_laws.proofs.words.each_command_line_is_told.Goals as goal

pub returns-clause-command : goal.returns-clause-command
returns-clause-command g c limit front back group commands = command_told limit c.one_line_reading.ensures.answer front back group commands c.args.first.now c.args.last.now

pub returns-clause-other : goal.returns-clause-other
returns-clause-other g c limit front back line = other_told limit front back line c.args.first.now c.args.last.now

pub returns-clause-none : goal.returns-clause-none
returns-clause-none g c limit turns = refl
