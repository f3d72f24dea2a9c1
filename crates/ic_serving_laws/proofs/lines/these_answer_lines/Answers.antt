use Rattle.std.proofs.Common.{refl}
use Rattle.ic_jobs.specs.Events.{after_command}
use Rattle.ic_serving_laws.proofs.lines.these_answer_lines.Goals as goal

pub returns-clause-blank : goal.returns-clause-blank
returns-clause-blank c t = (refl, refl)

pub returns-clause-refused : goal.returns-clause-refused
returns-clause-refused c t fault = (refl, refl)

pub returns-clause-command : goal.returns-clause-command
returns-clause-command c t command = record { outcome = after_command t command; is = refl; answered = refl; leaves = refl }

pub returns-clause-run : goal.returns-clause-run
returns-clause-run c t k = (refl, refl)
