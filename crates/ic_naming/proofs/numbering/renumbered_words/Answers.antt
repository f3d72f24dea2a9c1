use Rattle.std.proofs.Common.{◌≡◌, ℕ, List, map, ap, ◌∙◌}
use Rattle.std.specs.List.{flat_map}
use Rattle.ic_flat.specs.Words.{word_names}
use Rattle.ic_naming.specs.Naming.{renamed_word, told_name}
use Rattle.ic_naming.proofs.Numberings.{told_same}
use Rattle.ic_naming.proofs.numbering.renumbered_words.Goals as goal

pub returns : goal.returns
returns c =
    let ws = c.args.words.items in
    let names : c.deref-2.result.now ≡ flat_map word_names ws =
    c.deref-2.ensures.value ∙ (c.in_ok-names.ensures ∙ ap (flat_map word_names) c.deref.ensures.value) in
    let same = told_same c.deref-2.result.now c.in_ok-numbering.numbering c.in_ok-numbering.ensures in
    c.number_words.ensures ∙ ap (λ (f : ℕ → ℕ). map (renamed_word f) ws) (same ∙ ap told_name names)
