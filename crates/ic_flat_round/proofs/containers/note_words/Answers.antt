use Rattle.std.proofs.Common.{◌∙◌, ◌+◌, List, get_or, sym, ap, drop}
use Rattle.std.specs.List.{flat_map}
use Rattle.std.proofs.lemmas.List.{drop_more}
use Rattle.ic_settle.specs.lemmas.Containers.{noted_in}
use Rattle.ic_settle.specs.lemmas.Spots.{noted_in_append}
use Rattle.ic_flat.specs.declared.word.Word.{Word}
use Rattle.ic_flat.specs.declared.word.Word.TheVariants.{Name}
use Rattle.ic_flat.specs.Words.{word_names}
use Rattle.ic_flat_round.specs.inner.Places.{found}
use Rattle.ic_flat_round.proofs.containers.note_words.Goals as goal

pub loop-word-preserved : goal.loop-word-preserved
loop-word-preserved c = λ y.
    let ws = c.args.words.now in
    let i = c.loop-word.word-index in
    let w = get_or ws i (Name 0) in
    let rest = flat_map word_names (drop (i + 1) ws) in
    let before = found c.loop-word.places y in
    ap (noted_in y c.args.place rest) (c.in_ok-note_word.ensures y) ∙ sym (noted_in_append y c.args.place (word_names w) rest before)
    ∙ ap (λ (l : List Word). noted_in y c.args.place (flat_map word_names l) before) (sym (drop_more ws i (Name 0) c.loop-word-test.true)) ∙ c.loop-word.invariant y
