use Rattle.std.proofs.Common.{◌+◌, ◌-◌, take, drop, arith}
use Rattle.std.specs.List.{flat_map}
use Rattle.ic_codec.specs.inner.WordFronts.{word_bytes}
use Rattle.ic_codec.proofs.Appending.{bytes_in_two, left_fits, goes_on}
use Rattle.ic_codec.proofs.words.put_words.Goals as goal

pub put_group-requires-clause-fits : goal.put_group-requires-clause-fits
put_group-requires-clause-fits c =
    let ws = c.args.words.now in
    let i = c.loop-place.place in
    left_fits (flat_map word_bytes (take (i + 16 - i) (drop i ws))) (flat_map word_bytes (drop (i + 16) ws)) (bytes_in_two word_bytes ws i (i + 16) (omega arith)) c.loop-place.invariant.left

pub loop-place-preserved : goal.loop-place-preserved
loop-place-preserved c =
    let ws = c.args.words.now in
    let i = c.loop-place.place in
    record {
      within = omega (arith, c.loop-place-test.true, c.loop-place.invariant.within);
      left = goes_on (flat_map word_bytes (take (i + 16 - i) (drop i ws))) (flat_map word_bytes (drop (i + 16) ws)) (bytes_in_two word_bytes ws i (i + 16) (omega arith)) c.loop-place.invariant.left
          c.put_group.ensures;
    }
