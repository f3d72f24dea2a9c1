use Rattle.std.proofs.Common.{◌≡◌, ◌+◌, ◌-◌, arith, refl}
use Rattle.ic_machine.specs.declared.generation.Generation.{Generation}
use Rattle.ic_machine.specs.Generations.{Advances, IsWithin}
use Rattle.ic_machine.specs.lemmas.GenerationsOn.{advances_none, advances_on}
use Rattle.ic_machine.proofs.Advancing.{one_taken}
use Rattle.ic_machine.proofs.Takings.{advances_same}
use Rattle.ic_machine.proofs.machine.Machine.run_generation.Goals as goal
use Rattle.ic_machine.proofs.machine.Machine.run_generation.Goals.{In_ok-take_first, else-branch, then-branch}

module _ (c : In_ok-take_first) where
  abbrev next : Generation
  next = record { end = c.loop-generation.generation.end - 1 }

  one : Advances c.args.program.now c.loop-generation.generation next c.loop-generation.self c.take_first.new.self
      × IsWithin next c.take_first.new.self.pending
  one =
      one_taken c.args.program.now c.loop-generation.generation next c.loop-generation.self c.take_first.new.self
      (omega (arith, c.loop-generation-test.true)) c.loop-generation.invariant.within c.in_ok-take_first.ensures.taken

  on : Advances c.args.program.now c.args.generation.now next c.args.self.now c.take_first.new.self
  on =
      advances_on c.args.program.now c.args.generation.now c.loop-generation.generation next c.args.self.now
      c.loop-generation.self c.take_first.new.self c.loop-generation.invariant.advances one.0

pub loop-generation-init : goal.loop-generation-init
loop-generation-init c = record {
  advances = advances_none c.args.program.now c.args.generation.now c.args.self.now;
  within = c.requires.within;
  counted = refl;
}

pub returns-in_err-take_first-clause-advances : goal.returns-in_err-take_first-clause-advances
returns-in_err-take_first-clause-advances c =
    advances_on c.args.program.now c.args.generation.now c.loop-generation.generation c.loop-generation.generation c.args.self.now
    c.loop-generation.self c.take_first.new.self c.loop-generation.invariant.advances
    (advances_same c.args.program.now c.loop-generation.generation c.loop-generation.self c.take_first.new.self
    c.take_first.ensures.ran c.in_err-take_first.ensures.err c.in_err-take_first.ensures.same
    c.in_err-take_first.ensures.held)

pub loop-generation-preserved : goal.loop-generation-preserved
loop-generation-preserved c =
    let at = (goal.at.loop-generation-preserved c).In_ok-take_first in
    let before : c.loop-generation.self.interactions + c.loop-generation.left ≡ c.args.self.now.interactions + c.args.steps =
    c.loop-generation.invariant.counted in
    let some = c.if-left-eq0.false in
    let taken : c.take_first.new.self.interactions + c.if-branch.left ≡ c.loop-generation.self.interactions + c.loop-generation.left =
    elim c.if-branch.branch [
      | then-branch w ↦ omega (arith, w.left-is, some, c.in_ok-take_first.ensures.fired (cc (w.if-branch.true)))
      | else-branch w ↦ omega (arith, w.left-is, c.in_ok-take_first.ensures.aside (cc (w.if-branch.false)))
    ] in
    record {
      advances = advances_on c.args.program.now c.args.generation.now (next at) c.take_spare_firsts-left.new.generation c.args.self.now
          c.take_first.new.self c.take_spare_firsts-left.new.self (on at) c.take_spare_firsts-left.ensures.advances;
      within = c.take_spare_firsts-left.ensures.within;
      counted = omega (arith, before, taken, c.take_spare_firsts-left.ensures.fired, c.take_spare_firsts-left.ensures.at_most);
    }
