use Rattle.std.proofs.Common.{◌≡◌, ap, arith, refl, ◌∙◌}
use Rattle.ic_machine.specs.Net.{Net}
use Rattle.ic_machine.specs.Runs.{Ran}
use Rattle.ic_in_place.proofs.Onward.{ran_nothing, ran_through}
use Rattle.ic_in_place.proofs.Pieces.{goes_on}
use Rattle.ic_in_place.proofs.running.run_in_pieces.Goals as goal

pub pieces-init : goal.pieces-init
pieces-init g c = record {
  ran = ran_nothing c.args.program.now c.args.machine.now;
  counted = refl;
}

pub returns-in-Some-clause-ran : goal.returns-in-Some-clause-ran
returns-in-Some-clause-ran g c =
    ran_through c.args.program.now c.args.machine.now c.pieces.machine c.run_piece.new.machine c.pieces.invariant.ran c.run_piece.ensures.ran

pub returns-then-left-eq0-clause-ran : goal.returns-then-left-eq0-clause-ran
returns-then-left-eq0-clause-ran g c =
    ran_through c.args.program.now c.args.machine.now c.pieces.machine c.run_piece.new.machine c.pieces.invariant.ran c.run_piece.ensures.ran

pub returns-then-look-clause-ran : goal.returns-then-look-clause-ran
returns-then-look-clause-ran g c =
    let p = c.args.program.now in
    let swept : Ran p c.run_piece.new.machine c.look_if_due-look.new.machine =
    ran_through p c.run_piece.new.machine c.sweep_if_due-due.new.machine c.look_if_due-look.new.machine (c.sweep_if_due-due.ensures.ran p) (c.look_if_due-look.ensures.ran p) in
    ran_through p c.args.machine.now c.pieces.machine c.look_if_due-look.new.machine c.pieces.invariant.ran
    (ran_through p c.pieces.machine c.run_piece.new.machine c.look_if_due-look.new.machine c.run_piece.ensures.ran swept)

pub pieces-preserved : goal.pieces-preserved
pieces-preserved g c =
    let p = c.args.program.now in
    let swept : Ran p c.run_piece.new.machine c.look_if_due-look.new.machine =
    ran_through p c.run_piece.new.machine c.sweep_if_due-due.new.machine c.look_if_due-look.new.machine (c.sweep_if_due-due.ensures.ran p) (c.look_if_due-look.ensures.ran p) in
    let same : c.look_if_due-look.new.machine.interactions ≡ c.run_piece.new.machine.interactions =
    ap (λ (n : Net). n.interactions) c.look_if_due-look.ensures.same ∙ ap (λ (n : Net). n.interactions) c.sweep_if_due-due.ensures.same in
    record {
      ran = ran_through p c.args.machine.now c.pieces.machine c.look_if_due-look.new.machine c.pieces.invariant.ran
          (ran_through p c.pieces.machine c.run_piece.new.machine c.look_if_due-look.new.machine c.run_piece.ensures.ran swept);
      counted = (let before = goes_on p c.args.steps c.pieces.left c.piece_of-piece.result c.args.machine.now c.pieces.machine c.run_piece.new.machine
          c.pieces.invariant.counted c.piece_of-piece.ensures.within c.in_default.ensures.none in omega (arith, before, same));
    }
