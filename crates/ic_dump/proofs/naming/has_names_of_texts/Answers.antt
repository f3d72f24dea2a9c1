use Rattle.std.proofs.Common.{ap, ◌∙◌}
use Rattle.std.specs.Prelude.{nat_le}
use Rattle.std.specs.List.{flat_map, list_all}
use Rattle.ic_flat.specs.Words.{word_names}
use Rattle.ic_flat.specs.lemmas.FlatLaws.{names-words}
use Rattle.ic_text.specs.declared.limits.TheConstants.{MAX_NAME}
use Rattle.ic_dump.proofs.NodeNames.{each_word}
use Rattle.ic_dump.proofs.naming.has_names_of_texts.Goals as goal

pub returns : goal.returns
returns c =
    let words = ap (flat_map word_names) c.words.ensures.words ∙ names-words c.args.flat.now in
    c.are_of_texts.ensures ∙ each_word (λ n. nat_le n MAX_NAME) c.words.result.now ∙ ap (list_all (λ n. nat_le n MAX_NAME)) words
