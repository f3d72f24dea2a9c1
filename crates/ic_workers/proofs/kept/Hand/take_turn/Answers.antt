use Rattle.std.proofs.Common.{arith, sym, ◌∙◌}
use Rattle.std.proofs.lemmas.List.{length-map}
use Rattle.ic_workers.specs.inner.Keeping.{part_of, parts_in}
use Rattle.ic_workers.proofs.Workings.{may_still, turn_none, turns_on, worked_len}
use Rattle.ic_workers.proofs.kept.Hand.take_turn.Goals as goal
use Rattle.ic_workers.proofs.kept.Hand.take_turn.Goals.{else-goes_on, then-goes_on}

pub loop-place-init : goal.loop-place-init
loop-place-init c = record {
  turn = turn_none c.args.program.now c.args.self.now c.requires.may;
  more = λ e. absurd (cc);
}

pub run_part-more-requires : goal.run_part-more-requires
run_part-more-requires c = record {
  there =
      let len = worked_len c.args.program.now (parts_in c.args.self.now) (parts_in c.loop-place.self) c.loop-place.invariant.turn.worked in
      omega (
        arith,
        len,
        c.loop-place-test.true,
        c.len-place-end.ensures,
        length-map c.loop-place.self.parts.items part_of,
        length-map c.args.self.now.parts.items part_of,
      );
  may = may_still c.args.program.now c.args.self.now c.loop-place.self c.requires.may c.loop-place.invariant.turn;
  some = c.requires.some;
}

pub loop-place-preserved : goal.loop-place-preserved
loop-place-preserved c = record {
  turn = turns_on c.args.program.now c.args.self.now c.loop-place.self c.run_part-more.new.self c.loop-place.invariant.turn c.run_part-more.ensures.turn;
  more = λ e. elim c.if-goes_on.branch [
    | then-goes_on w ↦
        let before = c.loop-place.invariant.more w.if-goes_on.true in
        let least = c.run_part-more.ensures.turn.least in
        omega (arith, before, least)
    | else-goes_on w ↦
        let now = c.run_part-more.ensures.more (sym w.goes_on-is ∙ e) in
        let least = c.loop-place.invariant.turn.least in
        omega (arith, now, least)
  ];
}
