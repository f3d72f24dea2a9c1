use Rattle.std.proofs.Common.{◌++◌, List, ℕ, ap, ◌∙◌}
use Rattle.ic_state.specs.Words.{word_bytes}
use Rattle.ic_state.proofs.ListLemmas.{joined}
use Rattle.std.specs.List.{flat_map}
use Rattle.ic_state.proofs.words.put_group.Goals as goal

pub returns-clause-appended : goal.returns-clause-appended
returns-clause-appended g c =
    c.in_ok-extend_from_slice.ensures.items
    ∙ ap (λ (l : List ℕ). c.args.out.now.items ++ l)
    (c.as_flattened.ensures.value ∙ ap (flat_map (λ l. l)) (c.deref.ensures.value ∙ c.in_ok-number_all.ensures.numbers) ∙ joined (word_bytes c.args.narrow) c.args.words.now)
