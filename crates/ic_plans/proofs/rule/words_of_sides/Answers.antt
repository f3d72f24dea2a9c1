use Rattle.std.proofs.Common.{◌++◌, map, sym, ap, ◌∙◌}
use Rattle.std.specs.List.{flat_map}
use Rattle.std.proofs.lemmas.List.Concat.{flat_map-append}
use Rattle.ic_term.specs.Term.{tree}
use Rattle.ic_flat.specs.Words.{tree_words}
use Rattle.ic_plans.proofs.rule.words_of_sides.Goals as goal

pub returns : goal.returns
returns c =
    let left = map tree c.args.left.now in
    let right = map tree c.args.right.now in
    c.in_ok-write_terms-2.ensures
    ∙ ap (λ l. l ++ flat_map tree_words right) (c.in_ok-write_terms.ensures ∙ ap (λ l. l ++ flat_map tree_words left) c.new-words.ensures.items)
    ∙ sym (flat_map-append tree_words left right)
