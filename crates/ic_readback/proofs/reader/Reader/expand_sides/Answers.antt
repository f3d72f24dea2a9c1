use Rattle.std.proofs.Common.{◌+◌, take, arith}
use Rattle.ic_arena.specs.Word.{name_word}
use Rattle.ic_machine.specs.declared.equation.Equation.{Equation}
use Rattle.ic_readback.specs.declared.reader.Reader.{Reader}
use Rattle.ic_readback.specs.Reading.{sides_of}
use Rattle.ic_readback.proofs.Readers.{no_read, read_as, sides_next}
use Rattle.ic_readback.proofs.reader.Reader.expand_sides.Goals as goal

pub loop-equation-init : goal.loop-equation-init
loop-equation-init c = record { read = no_read c.args.self.now c.requires.empty; equations = omega arith }

pub loop-equation-preserved : goal.loop-equation-preserved
loop-equation-preserved c =
    let d : Equation = record { left = name_word 0; right = name_word 0 } in
    let new : Reader = c.expand-in-loop-equation.new.self in
    let first = c.in_ok-expand.ensures.equations in
    let second = c.in_ok-expand-2.ensures.equations in
    let before = c.loop-equation.invariant.equations in
    record {
      read = read_as (sides_of (take (c.loop-equation.equation-index + 1) c.args.equations.now)) c.args.self.now new (new.equations + 1)
          (sides_next c.args.equations.now c.loop-equation.equation-index d c.args.self.now c.loop-equation.self c.expand.new.self new
          c.loop-equation-test.true c.loop-equation.invariant.read c.in_ok-expand.ensures.read c.in_ok-expand-2.ensures.read);
      equations = omega arith;
    }
