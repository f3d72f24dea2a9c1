use Rattle.std.proofs.Common.{◌∙◌, ◌++◌, List, ℕ, ap}
use Rattle.ic_text.specs.Name.{name_text}
use Rattle.ic_expand.specs.Names.{is_among}
use Rattle.ic_expand.proofs.names.is_taken.Goals as goal

pub returns : goal.returns
returns c =
    c.has.ensures
    ∙ ap (λ (name : List ℕ). is_among name c.args.shorts.now)
    (c.deref.ensures.value ∙ c.in_ok-put_name.ensures ∙ ap (λ (l : List ℕ). l ++ name_text c.args.number) c.new-name.ensures.items)
