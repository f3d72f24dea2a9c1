use Rattle.std.proofs.Common.{Ok, map, ap, ◌∙◌}
use Rattle.ic_jobs.specs.Job.{JobParts}
use Rattle.ic_jobs.specs.declared.command.Command.{Command}
use Rattle.ic_commands.specs.declared.line.Line.TheVariants.{Command as Asks}
use Rattle.ic_serving.specs.lemmas.Taken.{taken_out}
use Rattle.ic_serving_laws.proofs.groups.a_group_is_answered_as_it_is_served.Goals as goal

pub returns-clause-served : goal.returns-clause-served
returns-clause-served g c = λ limit ls bytes is.
    let out = taken_out is.commands bytes c.args.before.now is.between is.taken in
    record {
      readings = map (λ (m : Command). Ok (Asks m)) is.commands;
      read = is.asked;
      answered = out.0;
      leaves = is.table ∙ out.1;
    }

pub returns-clause-kept : goal.returns-clause-kept
returns-clause-kept g c = λ limit ls bytes is. is.all

pub returns-clause-whole : goal.returns-clause-whole
returns-clause-whole g c = λ limit ls bytes is. is.whole

pub returns-clause-fresh : goal.returns-clause-fresh
returns-clause-fresh g c = λ limit ls bytes is. is.fresh

pub returns-clause-page : goal.returns-clause-page
returns-clause-page g c = λ limit ls bytes is. is.page

pub returns-clause-calls : goal.returns-clause-calls
returns-clause-calls g c = λ limit ls bytes is. is.calls
