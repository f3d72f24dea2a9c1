use Rattle.std.proofs.Common.{◌≤◌, arith}
use Rattle.ic_state.specs.Words.{word_bytes, IsKeptWord}
use Rattle.ic_state.proofs.ListLemmas.{put_part, all_part}
use Rattle.ic_state.proofs.words.put_groups.Goals as goal

pub loop-place-preserved : goal.loop-place-preserved
loop-place-preserved g c =
    let after : c.loop-place.place ≤ c.min-end.result = omega (arith, c.min-end.ensures, c.loop-place-test.true) in
    record {
      appended = put_part (word_bytes c.args.narrow) c.args.words.now c.loop-place.place c.min-end.result c.args.out.now.items c.loop-place.out.items c.put_group.new.out.items after
          c.loop-place.invariant.appended c.in_ok-put_group.ensures.appended;
      kept = all_part (IsKeptWord c.args.narrow) c.args.words.now c.loop-place.place c.min-end.result after c.loop-place.invariant.kept c.in_ok-put_group.ensures.kept;
    }
