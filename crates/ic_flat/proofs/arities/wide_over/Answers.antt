use Rattle.std.proofs.Common.{ap, ◌∙◌}
use Rattle.std.specs.List.{list_all}
use Rattle.ic_flat.specs.Words.{is_word_over}
use Rattle.ic_flat.specs.lemmas.FlatLaws.{over-words}
use Rattle.ic_flat.proofs.arities.wide_over.Goals as goal

pub returns : goal.returns
returns c =
    let ss = c.args.symbols.now in
    c.words_over.ensures ∙ ap (list_all (is_word_over ss)) c.words.ensures.words ∙ over-words ss c.args.wide.now
