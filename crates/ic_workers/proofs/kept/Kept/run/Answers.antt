use Rattle.std.proofs.Common.{refl}
use Rattle.ic_machine.specs.lemmas.RunsOn.{ran_on}
use Rattle.ic_workers.specs.Parts.{Part}
use Rattle.ic_workers.specs.inner.HandsOn.{HasWorked}
use Rattle.ic_workers.specs.inner.Keeping.{part_of}
use Rattle.ic_workers.proofs.Workings.{kept_stays}
use Rattle.ic_workers.proofs.kept.Kept.run.Goals as goal

pub returns-clause-worked : goal.returns-clause-worked
returns-clause-worked c = record {
  number = refl;
  borders = refl;
  ran = ran_on c.args.program.now c.args.self.now.machine c.run-ended.new.self c.sweep_if_due-self.new.machine
      c.run-ended.ensures.ran (c.sweep_if_due-self.ensures.ran c.args.program.now);
}

pub returns-clause-kept : goal.returns-clause-kept
returns-clause-kept c =
    let new : Part = record { number = c.args.self.now.number; net = c.sweep_if_due-self.new.machine; borders = c.args.self.now.borders } in
    let one : HasWorked c.args.program.now (part_of c.args.self.now) new = record {
      number = refl;
      borders = refl;
      ran = ran_on c.args.program.now c.args.self.now.machine c.run-ended.new.self c.sweep_if_due-self.new.machine
          c.run-ended.ensures.ran (c.sweep_if_due-self.ensures.ran c.args.program.now);
    } in
    kept_stays c.args.program.now (part_of c.args.self.now) new c.requires.sound one c.requires.kept
