use Rattle.std.proofs.Common.{◌≡◌, ap, arith, subst, sym}
use Rattle.ic_machine.specs.Generations.{IsWithin}
use Rattle.ic_machine.specs.Net.{Net}
use Rattle.ic_machine.specs.lemmas.GenerationsOn.{advances_none, advances_on}
use Rattle.ic_in_place.proofs.rounds.take_all.Goals as goal

pub loop-looks-init : goal.loop-looks-init
loop-looks-init g c = record {
  advances = advances_none c.args.program.now c.args.generation.now c.args.machine.now;
  within = c.requires.within;
  looks = c.requires.looks;
  left = λ high. absurd (omega (arith, high, c.requires.room));
}

pub returns-then-generation-eq0-clause-advances : goal.returns-then-generation-eq0-clause-advances
returns-then-generation-eq0-clause-advances g c =
    advances_on c.args.program.now c.args.generation.now c.loop-looks.generation c.run_generation-run.new.generation c.args.machine.now
    c.loop-looks.machine c.run_generation-run.new.self c.loop-looks.invariant.advances c.run_generation-run.ensures.advances

pub returns-in-Err-Limit-clause-advances : goal.returns-in-Err-Limit-clause-advances
returns-in-Err-Limit-clause-advances g c =
    advances_on c.args.program.now c.args.generation.now c.loop-looks.generation c.run_generation-run.new.generation c.args.machine.now
    c.loop-looks.machine c.run_generation-run.new.self c.loop-looks.invariant.advances c.run_generation-run.ensures.advances

pub returns-in-Err-Memory-clause-advances : goal.returns-in-Err-Memory-clause-advances
returns-in-Err-Memory-clause-advances g c =
    advances_on c.args.program.now c.args.generation.now c.loop-looks.generation c.run_generation-run.new.generation c.args.machine.now
    c.loop-looks.machine c.run_generation-run.new.self c.loop-looks.invariant.advances c.run_generation-run.ensures.advances

pub returns-then-look-clause-advances : goal.returns-then-look-clause-advances
returns-then-look-clause-advances g c =
    let p = c.args.program.now in
    let h = c.run_generation-run.new.generation in
    advances_on p c.args.generation.now h h c.args.machine.now c.run_generation-run.new.self c.look.new.machine
    (advances_on p c.args.generation.now c.loop-looks.generation h c.args.machine.now c.loop-looks.machine c.run_generation-run.new.self
    c.loop-looks.invariant.advances c.run_generation-run.ensures.advances) (c.look.ensures.stays p h)

pub loop-looks-preserved : goal.loop-looks-preserved
loop-looks-preserved g c =
    let p = c.args.program.now in
    let h = c.run_generation-run.new.generation in
    let pending : c.look.new.machine.pending ≡ c.run_generation-run.new.self.pending = ap (λ (n : Net). n.pending) c.look.ensures.same in
    let count : c.look.new.machine.interactions ≡ c.run_generation-run.new.self.interactions = ap (λ (n : Net). n.interactions) c.look.ensures.same in
    record {
      advances = advances_on p c.args.generation.now h h c.args.machine.now c.run_generation-run.new.self c.look.new.machine
          (advances_on p c.args.generation.now c.loop-looks.generation h c.args.machine.now c.loop-looks.machine c.run_generation-run.new.self
          c.loop-looks.invariant.advances c.run_generation-run.ensures.advances) (c.look.ensures.stays p h);
      within = subst (IsWithin h) (sym pending) c.run_generation-run.ensures.within;
      left = λ high. omega (arith, c.if-generation-eq0.false);
      looks = omega (arith, count, c.run_generation-run.ensures.at_most, c.loop-looks.invariant.looks, c.look.ensures.next, c.interactions.ensures);
    }

pub returns-then-look-clause-within : goal.returns-then-look-clause-within
returns-then-look-clause-within g c =
    let pending : c.look.new.machine.pending ≡ c.run_generation-run.new.self.pending = ap (λ (n : Net). n.pending) c.look.ensures.same in
    subst (IsWithin c.run_generation-run.new.generation) (sym pending) c.run_generation-run.ensures.within
