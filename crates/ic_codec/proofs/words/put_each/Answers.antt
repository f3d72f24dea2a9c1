use Rattle.std.proofs.Common.{◌+◌, drop, get_or, ap}
use Rattle.std.specs.List.{flat_map}
use Rattle.std.proofs.lemmas.List.{drop_more}
use Rattle.ic_flat.specs.declared.word.Word.TheVariants.{Name}
use Rattle.ic_codec.specs.inner.WordFronts.{word_bytes}
use Rattle.ic_codec.proofs.Appending.{left_fits, goes_on}
use Rattle.ic_codec.proofs.words.put_each.Goals as goal

pub put_word-requires : goal.put_word-requires
put_word-requires c =
    let ws = c.args.words.now in
    let i = c.loop-word.word-index in
    left_fits (word_bytes (get_or ws i (Name 0))) (flat_map word_bytes (drop (i + 1) ws)) (ap (flat_map word_bytes) (drop_more ws i (Name 0) c.loop-word-test.true)) c.loop-word.invariant

pub loop-word-preserved : goal.loop-word-preserved
loop-word-preserved c =
    let ws = c.args.words.now in
    let i = c.loop-word.word-index in
    goes_on (word_bytes (get_or ws i (Name 0))) (flat_map word_bytes (drop (i + 1) ws)) (ap (flat_map word_bytes) (drop_more ws i (Name 0) c.loop-word-test.true)) c.loop-word.invariant c.put_word.ensures
