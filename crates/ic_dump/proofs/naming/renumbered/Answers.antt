use Rattle.std.proofs.Common.{refl, ap, ◌∙◌}
use Rattle.ic_naming.specs.Naming.{renumbered_words}
use Rattle.ic_naming.specs.lemmas.Renumbered.{renumbered-config, renumbered-flat}
use Rattle.ic_dump.proofs.naming.renumbered.Goals as goal

pub from_parts-requires : goal.from_parts-requires
from_parts-requires c =
    renumbered-flat c.args.flat.now c.in_ok-words.words.items c.interface_len-terms.result c.equations_len-equations.result _
    (c.in_ok-words.ensures ∙ ap renumbered_words (c.in_ok-own.ensures.items ∙ c.words.ensures.words)) c.interface_len-terms.ensures.terms c.equations_len-equations.ensures.equations refl c.words.ensures.sound

pub returns : goal.returns
returns c =
    c.from_parts.ensures
    ∙ renumbered-config c.args.flat.now c.in_ok-words.words.items c.interface_len-terms.result _ (c.in_ok-words.ensures ∙ ap renumbered_words (c.in_ok-own.ensures.items ∙ c.words.ensures.words))
    c.interface_len-terms.ensures.terms refl
